-- A type with a finite type in the place of each unknown.
use Rattle.std.specs.Prelude.{ℕ, List}
use Rattle.hb_types.specs.Finite.{Finite, Single, Applied}
use Rattle.hb_types.specs.Types.{Ty, Unknown, Leaf, Apply}
use Rattle.hb_types.specs.Tables.{type_at}

abbrev pub instance : (ℕ → Finite) → Ty → Finite
instance s (Unknown n) = s n
instance s (Leaf a) = Single a
instance s (Apply f x) = Applied (instance s f) (instance s x)

-- the finite type at each place of a table
abbrev pub values : (ℕ → Finite) → List Ty → ℕ → Finite
values s ts place = instance s (type_at ts place)

-- each unknown in the type is as P says
abbrev pub EachUnknown : (ℕ → Type 0) → Ty → Type 0
EachUnknown P (Unknown n) = P n
EachUnknown P (Leaf a) = Unit {0}
EachUnknown P (Apply f x) = EachUnknown P f × EachUnknown P x

-- it has no unknowns
abbrev pub IsKnown : Ty → Type 0
IsKnown t = EachUnknown (λ n. ⊥) t
