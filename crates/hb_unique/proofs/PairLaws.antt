-- One more equation between types that are there.
use Rattle.std.proofs.Common.{ℕ, ◌<◌, List, [], ◌∷◌, ◌++◌}
use Rattle.hb_unknowns.specs.declared.node.Pair.{Pair}
use Rattle.hb_unknowns.specs.Graph.{AreWithin}

pub one_more_pair : (count : ℕ) (ps : List Pair) (p : Pair) → p.left < count → p.right < count → AreWithin count ps → AreWithin count (ps ++ p ∷ [])
one_more_pair count [] p e f h = ((e, f), tt)
one_more_pair count (q ∷ ps) p e f h = (h.0, one_more_pair count ps p e f h.1)
