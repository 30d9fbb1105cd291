-- Fields by their numbers.
use Rattle.std.proofs.Common.{◌≡◌, ◌+◌, ◌-◌, ◌≤◌, subst, ℕ, zero, suc, true, nat_le, List, [], ◌∷◌, None, Some, arith}
use Rattle.std.specs.Prelude.{slice_get}
use Rattle.std.specs.List.{list_all}
use Rattle.std.proofs.lemmas.Bool.{and_parts, leb-true, eqb-true}
use Rattle.hb_bitdata.specs.declared.place.FieldPlace.{FieldPlace}
use Rattle.hb_bitdata.specs.declared.con.ConLayout.{ConLayout}
use Rattle.hb_bitdata.specs.Places.{are_below}
use Rattle.hb_bitdata.specs.PlacesLaws.{raised}
use Rattle.hb_bitdata.specs.Cubes.{has_width}

below_first : (top : ℕ) (field : FieldPlace) (fields : List FieldPlace) → are_below top (field ∷ fields) ≡ true → field.at + field.width ≤ top
below_first top field fields e = leb-true _ _ (and_parts (nat_le (field.at + field.width) top) (are_below field.at fields) e).0

pub below_rest : (top : ℕ) (field : FieldPlace) (fields : List FieldPlace) → are_below top (field ∷ fields) ≡ true → are_below top fields ≡ true
below_rest top field fields e =
    let low = below_first top field fields e in
    let rest = (and_parts (nat_le (field.at + field.width) top) (are_below field.at fields) e).1 in
    subst (λ t. are_below t fields ≡ true) (gap top field.at (at_most top field.at field.width low)) (raised field.at (top - field.at) fields rest)
  where
    at_most : (top at width : ℕ) → at + width ≤ top → at ≤ top
    at_most top at width le = omega arith

    gap : (top at : ℕ) → at ≤ top → top - at + at ≡ top
    gap top at le = omega arith

first_is : {X : Type 0} (first found : X) (xs : List X) → slice_get (first ∷ xs) 0 ≡ Some found → first ≡ found
first_is first found xs e = cc

pub below_at : (top n : ℕ) (field : FieldPlace) (fields : List FieldPlace) → are_below top fields ≡ true → slice_get fields n ≡ Some field → field.at + field.width ≤ top
below_at top n field [] e at = absurd (nothing at)
  where
    nothing : None ≡ Some field → ⊥
    nothing e = cc
below_at top zero field (first ∷ fields) e at = subst (λ f. f.at + f.width ≤ top) (first_is first field fields at) (below_first top first fields e)
below_at top (suc n) field (first ∷ fields) e at = below_at top n field fields (below_rest top first fields e) at

pub con_at : (width n : ℕ) (con : ConLayout) (cons : List ConLayout) → list_all (has_width width) cons ≡ true → slice_get cons n ≡ Some con → con.cube.width ≡ width
con_at width n con [] e at = absurd (nothing at)
  where
    nothing : None ≡ Some con → ⊥
    nothing e = cc
con_at width zero con (first ∷ cons) e at = subst (λ c. c.cube.width ≡ width) (first_is first con cons at) (eqb-true _ _ (and_parts (has_width width first) (list_all (has_width width) cons) e).0)
con_at width (suc n) con (first ∷ cons) e at = con_at width n con cons (and_parts (has_width width first) (list_all (has_width width) cons) e).1 at

pub rest_same : (x y : ℕ) (xs ys : List ℕ) → x ∷ xs ≡ y ∷ ys → xs ≡ ys
rest_same x y xs ys e = cc
