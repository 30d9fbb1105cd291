-- Kinds are named by their places among the unknowns: all that are kept stand there.
use Rattle.std.specs.Prelude.{ℕ, ◌<◌, List, [], ◌∷◌}
use Rattle.hb_unknowns.specs.Graph.{AreWithin}
use Rattle.hb_unknowns.specs.Equations.{type_count}
use Rattle.hb_kind.specs.declared.equations.KindEquations.{KindEquations}

abbrev pub ArePlaces : ℕ → List ℕ → Type 0
ArePlaces count [] = Unit {0}
ArePlaces count (p ∷ ps) = (p < count) × ArePlaces count ps

pub record AreFine (k : KindEquations) : Type 0 where
  pub star : k.star < type_count k.unknowns
  pub nat : k.nat < type_count k.unknowns
  pub area : k.area < type_count k.unknowns
  pub arrow : k.arrow < type_count k.unknowns
  pub places : ArePlaces (type_count k.unknowns) k.places.items
  pub pairs : AreWithin (type_count k.unknowns) k.pairs.items
