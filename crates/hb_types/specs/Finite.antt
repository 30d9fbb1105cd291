-- Finite types without unknowns.
use Rattle.hb_types.specs.declared.atom.Atom.{Atom}

-- a variable of a scheme stands for itself, as a constructor and a number do
pub data Finite : Type 0 where
  Single : Atom → Finite
  Applied : Finite → Finite → Finite
