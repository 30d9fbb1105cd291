-- Nullable, first set and should-not-follow of each symbol, by the codes of tokens; and what they are to keep, as a computation
-- over the table.
use Rattle.std.specs.Prelude.{ℕ, zero, suc, ◌+◌, Bool, true, false, is_some, List, [], ◌∷◌, ◌++◌}
use Rattle.hb_engine.specs.Lawful.{both}
use Rattle.hb_read_declarations.specs.Codes.{word_code, member, apart}
use Rattle.hb_read_program.specs.Rules.{Leaf, Symbol, Item, Kind, Things, Head, Begins, no_leaf, begins, begins_line, begins_class, heads, behind, begins_with, nothing_of, between}
use Rattle.hb_read_program.specs.declared.symbol.Leaf.TheVariants as leaf
use Rattle.hb_read_program.specs.declared.symbol.Symbol.TheVariants as symbol
use Rattle.hb_read_program.specs.declared.symbol.Kind.TheVariants as kind
use Rattle.hb_read_program.specs.declared.symbol.Things.TheVariants as things

abbrev pub kind_code : Kind → ℕ
kind_code kind.Var = 0
kind_code kind.Con = 2
kind_code kind.Op = 3
kind_code kind.Number = 4
kind_code kind.Digit = 4
kind_code kind.Bits = 5
kind_code kind.Pad = 2
kind_code kind.Slash = 3
kind_code (kind.Toward dir) = 2
kind_code (kind.Word w) = word_code w
kind_code (kind.Mark m) = m + 60
kind_code kind.End = 7

-- the tokens of types, those that a predicate goes on with, and those of qualified types
abbrev pub type_codes : List ℕ
type_codes = 0 ∷ 2 ∷ 3 ∷ 4 ∷ 100 ∷ 101 ∷ 104 ∷ 44 ∷ 48 ∷ []

abbrev pub pred_codes : List ℕ
pred_codes = 0 ∷ 2 ∷ 4 ∷ 100 ∷ []

abbrev pub qualified_codes : List ℕ
qualified_codes = 0 ∷ 2 ∷ 3 ∷ 4 ∷ 100 ∷ 101 ∷ 104 ∷ 44 ∷ 48 ∷ 49 ∷ []

-- what expressions and equations begin with, and what they go on with
abbrev pub expr_codes : List ℕ
expr_codes = 0 ∷ 2 ∷ 4 ∷ 5 ∷ 100 ∷ 45 ∷ 21 ∷ 26 ∷ 25 ∷ 23 ∷ []

abbrev pub equation_codes : List ℕ
equation_codes = 0 ∷ 1 ∷ 2 ∷ 4 ∷ 5 ∷ 100 ∷ []

abbrev pub going_codes : List ℕ
going_codes = 0 ∷ 2 ∷ 3 ∷ 4 ∷ 5 ∷ 6 ∷ 20 ∷ 100 ∷ 151 ∷ 156 ∷ []

abbrev pub leaf_first : Leaf → List ℕ
leaf_first leaf.Type = type_codes
leaf_first leaf.Atype = type_codes
leaf_first leaf.Pred = type_codes
leaf_first leaf.Qualified = qualified_codes
leaf_first leaf.Expr = expr_codes
leaf_first leaf.Equation = equation_codes

abbrev pub leaf_follow : Leaf → List ℕ
leaf_follow leaf.Type = type_codes
leaf_follow leaf.Atype = []
leaf_follow leaf.Pred = pred_codes
leaf_follow leaf.Qualified = qualified_codes
leaf_follow leaf.Expr = going_codes
leaf_follow leaf.Equation = going_codes

-- `::`, `,` and `)` belong to a signature
abbrev pub line_follow : List ℕ
line_follow = 43 ∷ 104 ∷ 101 ∷ (qualified_codes ++ going_codes)

-- `=>` belongs to a context
abbrev pub class_follow : List ℕ
class_follow = 49 ∷ type_codes

abbrev pub head_codes : List Head → List ℕ
head_codes [] = []
head_codes (h ∷ hs) = kind_code h.kind ∷ head_codes hs

abbrev pub begin_codes : Begins → List ℕ
begin_codes no_leaf = []
begin_codes (begins l is) = leaf_first l
begin_codes (begins_line is) = equation_codes
begin_codes begins_class = type_codes

abbrev pub first : Symbol → List ℕ
first s = head_codes (heads s) ++ begin_codes (begins_with s)

abbrev pub thing_follow : Things → List ℕ
thing_follow things.Names = []
thing_follow things.Infixes = []
thing_follow things.FieldNames = []
thing_follow things.DataCons = type_codes
thing_follow things.BitCons = []
thing_follow things.StructParts = type_codes
thing_follow things.Depends = 0 ∷ []
thing_follow things.Preds = pred_codes

-- should-not-follow
abbrev pub follow : Symbol → List ℕ
follow (symbol.Read l) = leaf_follow l
follow (symbol.More ts) = kind_code (between ts) ∷ thing_follow ts
follow (symbol.Digit fix) = 104 ∷ []
follow symbol.Vars = 0 ∷ []
follow symbol.SomeVars = 0 ∷ []
follow symbol.Atypes = type_codes
follow symbol.SomeAtypes = type_codes
follow symbol.Size = 3 ∷ []
follow symbol.Align = 31 ∷ []
follow symbol.DataCon = type_codes
follow symbol.BitPart = type_codes
follow symbol.StructPart = type_codes
follow symbol.Start = 47 ∷ going_codes
follow symbol.Init = going_codes
follow symbol.FieldInit = going_codes
follow symbol.Depend = 0 ∷ []
follow symbol.Depends = 46 ∷ 104 ∷ 0 ∷ []
follow symbol.Methods = 20 ∷ []
follow symbol.Conditions = 26 ∷ 104 ∷ pred_codes
follow symbol.Body = 20 ∷ []
follow symbol.ClassHead = class_follow
follow _ = []

abbrev pub is_nothing : Symbol → Bool
is_nothing s = is_some (nothing_of s)

abbrev pub all_nothing : List Item → Bool
all_nothing [] = true
all_nothing (i ∷ is) = both (is_nothing i.symbol) (all_nothing is)

abbrev pub also_codes : Bool → List ℕ → List ℕ
also_codes true xs = xs
also_codes false xs = []

abbrev pub item_firsts : List Item → List ℕ
item_firsts [] = []
item_firsts (i ∷ is) = first i.symbol ++ also_codes (is_nothing i.symbol) (item_firsts is)

abbrev pub within : List ℕ → List ℕ → Bool
within [] ys = true
within (x ∷ xs) ys = both (member x ys) (within xs ys)

abbrev pub only_if : Bool → Bool → Bool
only_if true b = b
only_if false b = true

-- a part with this should-not-follow set may stand before these, in the place of what has the set `up`
abbrev pub may_stand : List ℕ → List ℕ → List Item → Bool
may_stand goes up is = both (apart (λ c. member c goes) (item_firsts is)) (only_if (all_nothing is) (within goes up))

abbrev pub row_keeps : List ℕ → List Item → Bool
row_keeps up [] = true
row_keeps up (i ∷ is) = both (may_stand (follow i.symbol) up is) (row_keeps up is)

abbrev pub heads_keep : List ℕ → List Head → Bool
heads_keep up [] = true
heads_keep up (h ∷ hs) = both (row_keeps up (behind h.behind)) (heads_keep up hs)

abbrev pub leaf_keeps : List ℕ → Begins → Bool
leaf_keeps up no_leaf = true
leaf_keeps up (begins l is) = both (may_stand (leaf_follow l) up is) (row_keeps up is)
leaf_keeps up (begins_line is) = both (may_stand line_follow up is) (row_keeps up is)
leaf_keeps up begins_class = within class_follow up

-- no head takes what the reader of its own begins with
abbrev pub apart_heads : Symbol → Bool
apart_heads s = apart (λ c. member c (head_codes (heads s))) (begin_codes (begins_with s))

-- what is asked of a symbol
abbrev pub keeps : Symbol → Bool
keeps s = both (heads_keep (follow s) (heads s)) (both (leaf_keeps (follow s) (begins_with s)) (both (only_if (is_nothing s) (within (first s) (follow s))) (apart_heads s)))

-- a symbol can be ended within so many turns: by nothing, by the first of its heads, or by its reader
abbrev pub items_end : (Symbol → Bool) → List Item → Bool
items_end ends [] = true
items_end ends (i ∷ is) = both (ends i.symbol) (items_end ends is)

abbrev pub ends_by : (Symbol → Bool) → Bool → Begins → List Head → Bool
ends_by ends true b hs = true
ends_by ends false (begins l is) hs = items_end ends is
ends_by ends false begins_class hs = true
ends_by ends false (begins_line is) [] = false
ends_by ends false (begins_line is) (h ∷ hs) = items_end ends (behind h.behind)
ends_by ends false no_leaf [] = false
ends_by ends false no_leaf (h ∷ hs) = items_end ends (behind h.behind)

abbrev pub ends_within : ℕ → Symbol → Bool
ends_within zero s = false
ends_within (suc k) s = ends_by (λ r. ends_within k r) (is_nothing s) (begins_with s) (heads s)
