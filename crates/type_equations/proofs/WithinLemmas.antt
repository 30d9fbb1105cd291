-- One equation more between types that there are.
use Rattle.std.proofs.Common.{◌≡◌, ℕ, ◌<◌, ◌≤◌, List, [], ◌∷◌, ◌++◌, arith}
use Rattle.hb_unknowns.specs.declared.node.Pair.{Pair}
use Rattle.hb_unknowns.specs.Graph.{AreWithin}
use Rattle.hb_unknowns.proofs.NodeLemmas.{AreWithin-append}

within-more : (size more : ℕ) (ps : List Pair) → size ≤ more → AreWithin size ps → AreWithin more ps
within-more size more [] h w = tt
within-more size more (p ∷ ps) h w = ((omega (arith, h, w.0.0), omega (arith, h, w.0.1)), within-more size more ps h w.1)

pub within-next : (size more : ℕ) (ps longer : List Pair) (p : Pair) → size ≤ more → AreWithin size ps → p.left < more → p.right < more → longer ≡ ps ++ p ∷ [] → AreWithin more longer
within-next size more ps longer p h w l r e = rw e (AreWithin-append more ps (p ∷ []) (within-more size more ps h w) ((l, r), tt))
