-- One type more with types in the place of its variables.
use Rattle.std.proofs.Common.{◌≡◌, ℕ, suc, ◌+◌, List, [], ◌∷◌, ◌++◌, get_or, sym, ap, ◌∙◌, subst, refl, arith, ⊎_elim, length-append}
use Rattle.std.proofs.lemmas.List.{get_or_append_left, get_or_push}
use Rattle.std.proofs.lemmas.Bool.{cases_lt}
use Rattle.hb_types.specs.Types.{Ty}
use Rattle.hb_types.specs.Tables.{type_at, Extends, IsPlaced}
use Rattle.hb_types.specs.Put.{put, types_at, ArePlaces, ArePutBelow}
use Rattle.hb_types.proofs.TableLemmas.{more-types}

-- what stood at places stands there when more types come
pub types_at-more : (table new : List Ty) (places : List ℕ) → Extends table new → ArePlaces table places → types_at new places ≡ types_at table places
types_at-more table new [] x w = refl
types_at-more table new (p ∷ ps) x w = λ i. (more-types table new p x (w 0 (omega arith))).0 i ∷ types_at-more table new ps x (λ k h. w (suc k) (omega (arith, h))) i

pub places-more : (table new : List Ty) (places : List ℕ) → Extends table new → ArePlaces table places → ArePlaces new places
places-more table new places x w = λ k h. (more-types table new (get_or places k 0) x (w k h)).1

pub put-next : (count : ℕ) (args of table new : List Ty) (places longer : List ℕ) (r : ℕ) → Extends table new → ArePutBelow count args of table places → longer ≡ places ++ r ∷ [] →
    IsPlaced new r (λ t. t ≡ put args (type_at of count)) → ArePutBelow (count + 1) args of new longer
put-next count args of table new places longer r x a q p = rw q (record {
  size = length-append places (r ∷ []) ∙ ap (λ (k : ℕ). k + 1) a.size;
  each = λ k h.
      ⊎_elim
      (λ lt.
      let old = a.each k lt in
      let same = more-types table new (get_or places k 0) x old.0 in
      subst (λ (j : ℕ). IsPlaced new j (λ t. t ≡ put args (type_at of k))) (sym (get_or_append_left places (r ∷ []) 0 k (omega (arith, lt, a.size))))
      (same.1, same.0 ∙ old.1))
      (λ ge.
      let last : k ≡ count = omega (arith, h, ge) in
      subst (λ (j : ℕ). IsPlaced new (get_or (places ++ r ∷ []) j 0) (λ t. t ≡ put args (type_at of j))) (sym last)
      (subst (λ (j : ℕ). IsPlaced new j (λ t. t ≡ put args (type_at of count))) (sym (get_or_push places r 0 count a.size)) p))
      (cases_lt k count);
})
