-- How many tokens a move gives, counted with the closing braces that open blocks are yet to give.
use Rattle.std.proofs.Common.{◌≡◌, ℕ, Bool, true, false, suc, zero, ◌+◌, ◌≤◌, ◌&&◌, not, nat_lt, List, [], ◌∷◌, ◌++◌, length, is_none, Option, Some, None, refl, ap, subst, ◌∙◌, arith}
use Rattle.std.specs.Prelude.{if◌then◌else◌}
use Rattle.std.proofs.lemmas.List.{length-replicate, length-append}
use Rattle.hb_layout.specs.declared.entry.Opener.{Opener}
use Rattle.hb_layout.specs.declared.entry.Opener.TheVariants.{Let, Other}
use Rattle.hb_layout.specs.declared.entry.Entry.{Entry}
use Rattle.hb_layout.specs.declared.entry.Entry.TheVariants.{Bracket, Explicit, Implicit}
use Rattle.hb_layout.specs.declared.role.Role.{Role}
use Rattle.hb_layout.specs.declared.role.Role.TheVariants.{Block, Of, Follows, In, Opens, Closes, Semicolon, End, Plain}
use Rattle.hb_layout.specs.Roles.{continues, owed_after}
use Rattle.hb_layout.specs.Stacks.{Stack, opened, due, innermost, under, unmarked, close, closed, leading, is_top, marked_if, leaves_mark, is_let, ended_let, one_more, is_implicit, is_wider}
use Rattle.hb_layout.specs.Rules.{Move, inserting, closings, aligned, align_after, stands_at, is_partner, bracket_closed, let_ended, all_closed, acted, settled, begun, moved, is_brace, is_end, enclosing}
use Rattle.hb_layout.proofs.StackLaws.{leading_more, leading_none, closed_more, closed_none}

-- the blocks whose closing braces are yet to be inserted
abbrev pub implicits : Stack → ℕ
implicits [] = 0
implicits (due ∷ s) = implicits s
implicits (opened (Implicit column w) ∷ s) = suc (implicits s)
implicits (opened (Explicit w) ∷ s) = implicits s
implicits (opened (Bracket m) ∷ s) = implicits s

implicits_unmarked : (s : Stack) → implicits (unmarked s) ≡ implicits s
implicits_unmarked [] = refl
implicits_unmarked (due ∷ s) = implicits_unmarked s
implicits_unmarked (opened e ∷ s) = refl

implicits_marked_if : (b : Bool) (s : Stack) → implicits (marked_if b s) ≡ implicits s
implicits_marked_if true s = refl
implicits_marked_if false s = refl

implicits_under : (s : Stack) → is_top is_implicit s ≡ true → suc (implicits (under s)) ≡ implicits s
implicits_under [] h = cc
implicits_under (due ∷ s) h = implicits_under s h
implicits_under (opened (Implicit column w) ∷ s) h = refl
implicits_under (opened (Explicit w) ∷ s) h = cc
implicits_under (opened (Bracket m) ∷ s) h = cc

implicits_under_le : (s : Stack) → implicits (under s) ≤ implicits s
implicits_under_le [] = omega arith
implicits_under_le (due ∷ s) = implicits_under_le s
implicits_under_le (opened (Implicit column w) ∷ s) = omega arith
implicits_under_le (opened (Explicit w) ∷ s) = omega arith
implicits_under_le (opened (Bracket m) ∷ s) = omega arith

implicits_close_le : (s : Stack) → implicits (close s) ≤ implicits s
implicits_close_le s = rw (implicits_marked_if (leaves_mark (innermost s)) (under s)) (implicits_under_le s)

implicits_close : (s : Stack) → is_top is_implicit s ≡ true → suc (implicits (close s)) ≡ implicits s
implicits_close s h = ap suc (implicits_marked_if (leaves_mark (innermost s)) (under s)) ∙ implicits_under s h

abbrev OnlyImplicit : (Entry → Bool) → Type 0
OnlyImplicit test = (s : Stack) → is_top test s ≡ true → is_top is_implicit s ≡ true

wider_implicit : (column : ℕ) → OnlyImplicit (is_wider column)
wider_implicit column [] h = h
wider_implicit column (due ∷ s) h = wider_implicit column s h
wider_implicit column (opened (Implicit c w) ∷ s) h = refl
wider_implicit column (opened (Explicit w) ∷ s) h = h
wider_implicit column (opened (Bracket m) ∷ s) h = h

step_closed : (test : Entry → Bool) → OnlyImplicit test → (n : ℕ) (s : Stack) → suc n ≡ leading test s → n + implicits (closed n (close s)) ≡ implicits (close s) → suc n + implicits (closed (suc n) s) ≡ implicits s
step_closed test only n s e i = by (is_top test s) refl where
  by : (b : Bool) → is_top test s ≡ b → suc n + implicits (closed (suc n) s) ≡ implicits s
  by true h =
      let j : suc (implicits (close s)) ≡ implicits s = implicits_close s (only s h) in
      rw (closed_more n s) (omega arith)
  by false h = let f : leading test s ≡ 0 = leading_none test s h in absurd (omega arith)

step_leading : (test : Entry → Bool) (n : ℕ) (s : Stack) → suc n ≡ leading test s → n ≡ leading test (close s)
step_leading test n s e = by (is_top test s) refl where
  by : (b : Bool) → is_top test s ≡ b → n ≡ leading test (close s)
  by true h = let f : leading test s ≡ suc (leading test (close s)) = leading_more test s h in omega arith
  by false h = let f : leading test s ≡ 0 = leading_none test s h in absurd (omega arith)

closed_by : (test : Entry → Bool) → OnlyImplicit test → (n : ℕ) (s : Stack) → n ≡ leading test s → n + implicits (closed n s) ≡ implicits s
closed_by test only zero s e = rw (closed_none s) (omega arith)
closed_by test only (suc n) s e = step_closed test only n s e (closed_by test only n (close s) (step_leading test n s e))

-- the marks given and the blocks still open
abbrev weight : List ℕ × Stack → ℕ
weight m = length m.0 + implicits m.1

-- a move gives at most so much
abbrev AtMost : Move → ℕ → Type 0
AtMost None n = Unit {0}
AtMost (Some m) n = weight m ≤ n

at_most_more : (m : Move) (j k : ℕ) → AtMost m j → j ≤ k → AtMost m k
at_most_more None j k h l = tt
at_most_more (Some m) j k h l = omega arith

at_most_if : (b : Bool) (m : List ℕ × Stack) (n : ℕ) → weight m ≤ n → AtMost (if b then Some m else None) n
at_most_if true m n h = h
at_most_if false m n h = tt

at_most_inserting : (marks : List ℕ) (m : Move) (n : ℕ) → AtMost m n → AtMost (inserting marks m) (length marks + n)
at_most_inserting marks None n h = tt
at_most_inserting marks (Some m) n h = let e : length (marks ++ m.0) ≡ length marks + length m.0 = length-append marks m.0 in omega arith

bracket_at_most : (m : ℕ) (s : Stack) → AtMost (bracket_closed m s) (implicits s)
bracket_at_most m s =
    let n = leading is_implicit s in
    let e : length (closings n) ≡ n = length-replicate n 125 in
    let f : n + implicits (closed n s) ≡ implicits s = closed_by is_implicit (λ t h. h) n s refl in
    let g : implicits (close (closed n s)) ≤ implicits (closed n s) = implicits_close_le (closed n s) in
    at_most_if (is_partner m (innermost (closed n s))) (closings n, close (closed n s)) (implicits s) (omega arith)

end_at_most : (s : Stack) → AtMost (all_closed s) (implicits s)
end_at_most s =
    let n = leading is_implicit s in
    let e : length (closings n) ≡ n = length-replicate n 125 in
    let f : n + implicits (closed n s) ≡ implicits s = closed_by is_implicit (λ t h. h) n s refl in
    at_most_if (is_none (innermost (closed n s))) (closings n, closed n s) (implicits s) (omega arith)

abbrev PairAtMost : Option (ℕ × Stack) → ℕ → Type 0
PairAtMost None n = Unit {0}
PairAtMost (Some p) n = p.0 + implicits p.1 ≤ n

one_more_at_most : (o : Option (ℕ × Stack)) (n : ℕ) → PairAtMost o n → PairAtMost (one_more o) (suc n)
one_more_at_most None n h = tt
one_more_at_most (Some p) n h = omega arith

let_at_most : (s : Stack) → PairAtMost (ended_let s) (implicits s)
let_at_most [] = tt
let_at_most (due ∷ s) = omega arith
let_at_most (opened (Implicit column Let) ∷ s) = omega arith
let_at_most (opened (Implicit column Other) ∷ s) = one_more_at_most (ended_let s) (implicits s) (let_at_most s)
let_at_most (opened (Explicit w) ∷ s) = tt
let_at_most (opened (Bracket m) ∷ s) = tt

let_ended_at_most : (o : Option (ℕ × Stack)) (n : ℕ) → PairAtMost o n → AtMost (let_ended o) n
let_ended_at_most None n h = tt
let_ended_at_most (Some p) n h = let e : length (closings p.0) ≡ p.0 = length-replicate p.0 125 in omega arith

acted_at_most : (r : Role) (s : Stack) → AtMost (acted r s) (implicits s)
acted_at_most (Opens m) s = omega arith
acted_at_most (Closes m) s = bracket_at_most m s
acted_at_most Semicolon s = let e : implicits (unmarked s) ≡ implicits s = implicits_unmarked s in omega arith
acted_at_most In s = let_ended_at_most (ended_let s) (implicits s) (let_at_most s)
acted_at_most End s = end_at_most s
acted_at_most (Block w) s = omega arith
acted_at_most Of s = omega arith
acted_at_most Follows s = omega arith
acted_at_most Plain s = omega arith

align_after_weight : (b : Bool) (n : ℕ) (s : Stack) → weight (align_after b n s) ≤ n + implicits s + 1
align_after_weight true n s =
    let e : length (closings n) ≡ n = length-replicate n 125 in
    let f : length (closings n ++ 59 ∷ []) ≡ length (closings n) + 1 = length-append (closings n) (59 ∷ []) in
    let g : implicits (unmarked s) ≡ implicits s = implicits_unmarked s in
    omega arith
align_after_weight false n s = let e : length (closings n) ≡ n = length-replicate n 125 in omega arith

aligned_weight : (column : ℕ) (goes_on : Bool) (s : Stack) → weight (aligned column goes_on s) ≤ implicits s + 1
aligned_weight column goes_on s =
    let n = leading (is_wider column) s in
    let f : n + implicits (closed n s) ≡ implicits s = closed_by (is_wider column) (wider_implicit column) n s refl in
    let g : weight (aligned column goes_on s) ≤ n + implicits (closed n s) + 1 = align_after_weight (stands_at column (innermost (closed n s)) && not goes_on) n (closed n s) in
    omega arith

settled_at_most : (first : Bool) (column : ℕ) (r : Role) (s : Stack) → AtMost (settled first column r s) (implicits s + 1)
settled_at_most true column r s =
    let a = aligned column (continues r) s in
    at_most_more (settled true column r s) (length a.0 + implicits a.1) (implicits s + 1)
    (at_most_inserting a.0 (acted r a.1) (implicits a.1) (acted_at_most r a.1)) (aligned_weight column (continues r) s)
settled_at_most false column r s = at_most_more (acted r s) (implicits s) (implicits s + 1) (acted_at_most r s) (omega arith)

at_most_either : (b : Bool) (m o : Move) (n : ℕ) → AtMost m n → AtMost o n → AtMost (if b then m else o) n
at_most_either true m o n h i = h
at_most_either false m o n h i = i

begun_at_most : (w : Opener) (first : Bool) (column : ℕ) (r : Role) (s : Stack) → AtMost (begun w first column r s) (implicits s + 3)
begun_at_most w first column r s =
    let t = marked_if (is_let w) s in
    let e : implicits t ≡ implicits s = implicits_marked_if (is_let w) s in
    at_most_either (is_brace r) _ _ (implicits s + 3) (omega arith)
    (at_most_either (nat_lt (enclosing s) column && not (is_end r)) _ _ (implicits s + 3)
    (at_most_more _ (1 + suc (implicits s)) (implicits s + 3) (at_most_inserting (123 ∷ []) (acted r (opened (Implicit column w) ∷ s)) (suc (implicits s)) (acted_at_most r (opened (Implicit column w) ∷ s))) (omega arith))
    (at_most_more _ (2 + (implicits t + 1)) (implicits s + 3) (at_most_inserting (123 ∷ 125 ∷ []) (settled first column r t) (implicits t + 1) (settled_at_most first column r t)) (omega arith)))

-- two braces for a block that is owed
abbrev pub owes : Option Opener → ℕ
owes None = 0
owes (Some w) = 2

owes_at_most : (o : Option Opener) → owes o ≤ 2
owes_at_most None = omega arith
owes_at_most (Some w) = omega arith

moved_at_most : (owed : Option Opener) (first : Bool) (column : ℕ) (r : Role) (s : Stack) → AtMost (moved owed first column r s) (implicits s + owes owed + 1)
moved_at_most None first column r s = at_most_more (settled first column r s) (implicits s + 1) (implicits s + 0 + 1) (settled_at_most first column r s) (omega arith)
moved_at_most (Some w) first column r s = at_most_more (begun w first column r s) (implicits s + 3) (implicits s + 2 + 1) (begun_at_most w first column r s) (omega arith)

pub move_weight : (owed : Option Opener) (first : Bool) (column : ℕ) (r : Role) (s : Stack) (m : List ℕ × Stack) → moved owed first column r s ≡ Some m → length m.0 + implicits m.1 + owes (owed_after r) ≤ implicits s + owes owed + 3
move_weight owed first column r s m e =
    let h : length m.0 + implicits m.1 ≤ implicits s + owes owed + 1 = subst (λ o. AtMost o (implicits s + owes owed + 1)) e (moved_at_most owed first column r s) in
    let g : owes (owed_after r) ≤ 2 = owes_at_most (owed_after r) in
    omega arith
