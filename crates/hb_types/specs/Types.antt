-- Types, as contracts see them.
use Rattle.std.specs.Prelude.{ℕ}
use Rattle.hb_types.specs.declared.atom.Atom.{Atom}

-- an unknown that is still to be found, a type without parts, or a type applied to one more type
pub data Ty : Type 0 where
  Unknown : ℕ → Ty
  Leaf : Atom → Ty
  Apply : Ty → Ty → Ty
