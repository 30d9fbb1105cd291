-- What is kept of kinds stands when there are more kinds.
use Rattle.std.proofs.Common.{◌≡◌, ℕ, zero, suc, ◌+◌, ◌<◌, ◌≤◌, List, [], ◌∷◌, ◌++◌, length, take, drop, ap, ◌∙◌, arith}
use Rattle.std.specs.Prelude.{slice_index_or}
use Rattle.std.proofs.lemmas.List.{length-append}
use Rattle.hb_types.specs.Types.{Ty}
use Rattle.hb_unknowns.specs.declared.node.Pair.{Pair}
use Rattle.hb_unknowns.specs.Graph.{AreWithin}
use Rattle.hb_unknowns.specs.Equations.{Equations, type_count, IsPut}
use Rattle.hb_kind.specs.Places.{ArePlaces}

more_places : (a b : ℕ) → a ≤ b → (ps : List ℕ) → ArePlaces a ps → ArePlaces b ps
more_places a b e [] h = tt
more_places a b e (p ∷ ps) h = (omega (arith, e, h.0), more_places a b e ps h.1)

more_pairs : (a b : ℕ) → a ≤ b → (ps : List Pair) → AreWithin a ps → AreWithin b ps
more_pairs a b e [] h = tt
more_pairs a b e (p ∷ ps) h = ((omega (arith, e, h.0.0), omega (arith, e, h.0.1)), more_pairs a b e ps h.1)

pub one_more_place : (count : ℕ) (ps : List ℕ) (p : ℕ) → p < count → ArePlaces count ps → ArePlaces count (ps ++ p ∷ [])
one_more_place count [] p e h = (e, tt)
one_more_place count (q ∷ ps) p e h = (h.0, one_more_place count ps p e h.1)

pub one_more_pair : (count : ℕ) (ps : List Pair) (p : Pair) → p.left < count → p.right < count → AreWithin count ps → AreWithin count (ps ++ p ∷ [])
one_more_pair count [] p e f h = ((e, f), tt)
one_more_pair count (q ∷ ps) p e f h = (h.0, one_more_pair count ps p e f h.1)

pub place_or_in : (count : ℕ) (ps : List ℕ) (i other : ℕ) → ArePlaces count ps → other < count → slice_index_or ps i other < count
place_or_in count [] i other h e = e
place_or_in count (q ∷ ps) zero other h e = h.0
place_or_in count (q ∷ ps) (suc i) other h e = place_or_in count ps i other h.1 e

-- a part of the equations

pub within_take : (size n : ℕ) (ps : List Pair) → AreWithin size ps → AreWithin size (take n ps)
within_take size zero ps h = tt
within_take size (suc n) [] h = tt
within_take size (suc n) (p ∷ ps) h = (h.0, within_take size n ps h.1)

pub within_drop : (size n : ℕ) (ps : List Pair) → AreWithin size ps → AreWithin size (drop n ps)
within_drop size zero ps h = h
within_drop size (suc n) [] h = tt
within_drop size (suc n) (p ∷ ps) h = within_drop size n ps h.1

-- one kind more among the unknowns

put_count : (old new : Equations) (t : Ty) (place : ℕ) → IsPut old new t place → type_count new ≡ type_count old + 1
put_count old new t place h = ap (λ ts. length ts) h.types ∙ length-append old.types (t ∷ [])

pub put_grows : (old new : Equations) (t : Ty) (place : ℕ) → IsPut old new t place → type_count old ≤ type_count new
put_grows old new t place h = let n = put_count old new t place h in omega (arith, n)

pub put_known : (old new : Equations) (t : Ty) (place : ℕ) → IsPut old new t place → place < type_count new
put_known old new t place h =
    let n = put_count old new t place h in
    let e = h.next in
    omega (arith, n, e)

pub put_more : (old new : Equations) (t : Ty) (place p : ℕ) → IsPut old new t place → p < type_count old → p < type_count new
put_more old new t place p h e = let n = put_count old new t place h in omega (arith, n, e)

pub put_places : (old new : Equations) (t : Ty) (place : ℕ) (ps : List ℕ) → IsPut old new t place → ArePlaces (type_count old) ps → ArePlaces (type_count new) ps
put_places old new t place ps h k = more_places (type_count old) (type_count new) (put_grows old new t place h) ps k

pub put_pairs : (old new : Equations) (t : Ty) (place : ℕ) (ps : List Pair) → IsPut old new t place → AreWithin (type_count old) ps → AreWithin (type_count new) ps
put_pairs old new t place ps h k = more_pairs (type_count old) (type_count new) (put_grows old new t place h) ps k
