-- The stack of layout: brackets, explicit blocks, whose braces are written, implicit blocks, whose braces are inserted,
-- and due marks. The innermost comes first.
use Rattle.std.specs.Prelude.{ℕ, Bool, true, false, nat_lt, suc, zero, List, [], ◌∷◌, Option, Some, None, if◌then◌else◌}
use Rattle.hb_layout.specs.declared.entry.Opener.{Opener}
use Rattle.hb_layout.specs.declared.entry.Opener.TheVariants.{Let, Other}
use Rattle.hb_layout.specs.declared.entry.Entry.{Entry}
use Rattle.hb_layout.specs.declared.entry.Entry.TheVariants.{Bracket, Explicit, Implicit}

-- What lies on the stack: a bracket or block that is open, or a due mark. A due mark stands where a `let` block was that
-- closed before its `in` came, and says that the `in` may still come.
pub data Layer : Type 0 where
  opened : Entry → Layer
  due : Layer

abbrev pub Stack : Type 0
Stack = List Layer

-- the innermost entry, due marks aside
abbrev pub innermost : Stack → Option Entry
innermost [] = None
innermost (due ∷ s) = innermost s
innermost (opened e ∷ s) = Some e

-- what lies under the innermost entry; an entry that closes takes the due marks above it away
abbrev pub under : Stack → Stack
under [] = []
under (due ∷ s) = under s
under (opened e ∷ s) = s

-- without the due marks on top
abbrev pub unmarked : Stack → Stack
unmarked [] = []
unmarked (due ∷ s) = unmarked s
unmarked (opened e ∷ s) = opened e ∷ s

-- how many brackets and blocks are open
abbrev pub open_count : Stack → ℕ
open_count [] = 0
open_count (due ∷ s) = open_count s
open_count (opened e ∷ s) = suc (open_count s)

-- a `let` block, explicit or implicit, leaves a due mark in its place when it closes; at `in` alone it does not
abbrev pub is_let : Opener → Bool
is_let Let = true
is_let Other = false

abbrev pub leaves_mark : Option Entry → Bool
leaves_mark (Some (Explicit w)) = is_let w
leaves_mark (Some (Implicit column w)) = is_let w
leaves_mark (Some (Bracket m)) = false
leaves_mark None = false

abbrev pub marked_if : Bool → Stack → Stack
marked_if b s = if b then due ∷ s else s

-- the innermost entry closes
abbrev pub close : Stack → Stack
close s = marked_if (leaves_mark (innermost s)) (under s)

-- so many innermost entries close, one after another
unfoldable pub closed : ℕ → Stack → Stack
closed zero s = s
closed (suc n) s = closed n (close s)

-- a due mark lies on top
abbrev pub has_mark : Stack → Bool
has_mark [] = false
has_mark (due ∷ s) = true
has_mark (opened e ∷ s) = false

abbrev pub is_implicit : Entry → Bool
is_implicit (Implicit column w) = true
is_implicit (Bracket m) = false
is_implicit (Explicit w) = false

abbrev pub is_wider : ℕ → Entry → Bool
is_wider column (Implicit other w) = nat_lt column other
is_wider column (Bracket m) = false
is_wider column (Explicit w) = false

abbrev pub implicit_opener : Option Entry → Option Opener
implicit_opener (Some (Implicit column w)) = Some w
implicit_opener (Some (Explicit w)) = None
implicit_opener (Some (Bracket m)) = None
implicit_opener None = None

-- the innermost entry, due marks aside, passes a test
abbrev pub passes : (Entry → Bool) → Option Entry → Bool
passes test None = false
passes test (Some e) = test e

abbrev pub is_top : (Entry → Bool) → Stack → Bool
is_top test s = passes test (innermost s)

-- the number of innermost entries, due marks aside, that pass a test before the first that does not
abbrev pub leading : (Entry → Bool) → Stack → ℕ
leading test [] = 0
leading test (due ∷ s) = leading test s
leading test (opened e ∷ s) = if test e then suc (leading test s) else 0

abbrev pub one_more : Option (ℕ × Stack) → Option (ℕ × Stack)
one_more None = None
one_more (Some p) = Some (suc p.0, p.1)

-- At `in` entries are taken from the top. This is the number of blocks that close, and the stack after.
abbrev pub ended_let : Stack → Option (ℕ × Stack)
-- a due mark is removed, and the rule ends
ended_let (due ∷ s) = Some (0, s)
-- an implicit `let` block closes, and the rule ends
ended_let (opened (Implicit column Let) ∷ s) = Some (1, s)
-- another implicit block closes, and the rule goes on
ended_let (opened (Implicit column Other) ∷ s) = one_more (ended_let s)
-- anything else is no rule: the `in` has no `let`
ended_let (opened (Explicit w) ∷ s) = None
ended_let (opened (Bracket m) ∷ s) = None
ended_let [] = None

abbrev pub paired : {A : Type 0} → Option A → Stack → Option (A × Stack)
paired None s = None
paired (Some a) s = Some (a, s)
