-- What atoms are, and what operations compute from them.
use Rattle.std.specs.Prelude.{ℕ, ◌+◌, ◌*◌, ◌/◌, ◌%◌, ◌^◌, ◌==◌, bit_and, cond, List, [], ◌∷◌, slice_get, Option, Some, None, option_map, option_and_then}
use Rattle.hb_values.specs.declared.class.Class.{Class}
use Rattle.hb_values.specs.declared.class.Label.{Label}
use Rattle.hb_mil.specs.declared.form.Atom.{Atom}
use Rattle.hb_mil.specs.declared.form.Atom.TheVariants as atom
use Rattle.hb_mil_meaning.specs.Values.{Val, Number, Built, Closed, Reference, Port, vals, listed}

-- ---- atoms

abbrev pub value : List Val → Atom → Option Val
value locals (atom.Local n) = slice_get locals n
value locals (atom.Number n) = Some (Number n)
value locals (atom.Area n) = Some (Reference n 0)
value locals (atom.Port n) = Some (Port n)

-- both, the first one in front
abbrev pub with_first : {A : Type 0} → Option A → Option (List A) → Option (List A)
with_first None rest = None
with_first (Some v) rest = option_map (λ vs. v ∷ vs) rest

abbrev pub values : List Val → List Atom → Option (List Val)
values locals [] = Some []
values locals (a ∷ more) = with_first (value locals a) (values locals more)

-- ---- data, functions and actions

abbrev pub made_from : List Val → Label → Val
made_from captured label = Closed label.member label.numbers (vals captured)

-- the label of a class by its number, with what is captured
abbrev pub made : List Class → ℕ → ℕ → List Val → Option Val
made classes class label captured = option_and_then (λ c. option_map (made_from captured) (slice_get c.labels label)) (slice_get classes class)

-- the argument at a place of a value of this constructor
abbrev pub part : ℕ → ℕ → Val → Option Val
part constructor place (Built k vs) = cond (k == constructor) (slice_get (listed vs) place) None
part constructor place v = None

-- ---- words

-- so many bits from a place on, counted from the least
abbrev pub cut : ℕ → ℕ → Val → Option Val
cut at width (Number x) = Some (Number (x / 2 ^ at % 2 ^ width))
cut at width v = None

-- a number with so many bits from a place on replaced
abbrev pub replaced : ℕ → ℕ → ℕ → ℕ → ℕ
replaced at width x part = x / 2 ^ (at + width) * 2 ^ (at + width) + part % 2 ^ width * 2 ^ at + x % 2 ^ at

abbrev pub placed : ℕ → ℕ → Val → Val → Option Val
placed at width (Number x) (Number y) = Some (Number (replaced at width x y))
placed at width v w = None

-- 1 where the word has the bits of the value in the mask
abbrev pub has : ℕ → ℕ → Val → Option Val
has mask bits (Number x) = Some (Number (cond (bit_and x mask == bits) 1 0))
has mask bits v = None

-- ---- references

abbrev pub moved : ℕ → Val → Option Val
moved bytes (Reference area offset) = Some (Reference area (offset + bytes))
moved bytes v = None

abbrev pub moved_by : ℕ → Val → Val → Option Val
moved_by stride (Number i) place = moved (i * stride) place
moved_by stride v place = None

-- the place in an area behind so many strides for each index
abbrev pub cell_at : List Val → List (Atom × ℕ) → Val → Option Val
cell_at locals [] place = Some place
cell_at locals (index ∷ more) place = option_and_then (cell_at locals more) (option_and_then (λ i. moved_by index.1 i place) (value locals index.0))
