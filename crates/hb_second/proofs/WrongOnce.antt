-- A program leaves the second form at one place first.
use Rattle.std.proofs.Common.{◌≡◌, ◌⊎◌, List, [], ◌∷◌, ◌++◌, refl, sym, ap, subst, ◌∙◌, append_assoc}
use Rattle.hb_base.specs.declared.place.Place.{Place}
use Rattle.hb_second.specs.Form.{Form}
use Rattle.hb_second.specs.Items.{Item, Placed, without_places}
use Rattle.hb_second.specs.Wrong.{CanGoOn, FirstWrongOf, at_item, at_end}

-- of two places in a list, they are one, or one comes before the other
data Meets (before after : List Placed) (x : Placed) (others behind : List Placed) (y : Placed) : Type 0 where
  one : before ≡ others → x ≡ y → Meets before after x others behind y
  sooner : (rest : List Placed) → others ≡ before ++ x ∷ rest → Meets before after x others behind y
  later : (rest : List Placed) → before ≡ others ++ y ∷ rest → Meets before after x others behind y

one_more : (z : Placed) {before after others behind : List Placed} {x y : Placed} → Meets before after x others behind y → Meets (z ∷ before) after x (z ∷ others) behind y
one_more z (one e f) = one (ap (λ zs. z ∷ zs) e) f
one_more z (sooner rest e) = sooner rest (ap (λ zs. z ∷ zs) e)
one_more z (later rest e) = later rest (ap (λ zs. z ∷ zs) e)

same_head : {x y : Placed} {xs ys : List Placed} → x ∷ xs ≡ y ∷ ys → x ≡ y
same_head e = cc

same_tail : {x y : Placed} {xs ys : List Placed} → x ∷ xs ≡ y ∷ ys → xs ≡ ys
same_tail e = cc

same_first : {x z : Placed} {xs zs : List Placed} → x ≡ z → xs ≡ zs → x ∷ xs ≡ z ∷ zs
same_first e f = cc

meets : (before after others behind : List Placed) (x y : Placed) → before ++ x ∷ after ≡ others ++ y ∷ behind → Meets before after x others behind y
meets [] after [] behind x y e = one refl (same_head e)
meets [] after (z ∷ others) behind x y e = sooner others (same_first (sym (same_head e)) refl)
meets (z ∷ before) after [] behind x y e = later before (same_first (same_head e) refl)
meets (z ∷ before) after (w ∷ others) behind x y e =
    subst (λ v. Meets (z ∷ before) after x (v ∷ others) behind y) (same_head e) (one_more z (meets before after others behind x y (same_tail e)))

bare : (xs ys : List Placed) → without_places (xs ++ ys) ≡ without_places xs ++ without_places ys
bare [] ys = refl
bare (x ∷ xs) ys = ap (λ us. x.item ∷ us) (bare xs ys)

-- what can go on behind an item could go on right behind it
front_goes_on : (before rest : List Placed) (x : Placed) → CanGoOn (without_places (before ++ x ∷ rest)) → CanGoOn (without_places before ++ x.item ∷ [])
front_goes_on before rest x can = record {
  rest = without_places rest ++ can.rest;
  source = can.source;
  form = subst (λ items. Form items can.source) (split (without_places before) (without_places rest) can.rest) (subst (λ items. Form (items ++ can.rest) can.source) (bare before (x ∷ rest)) can.form);
}
  where
    split : (us vs ws : List Item) → (us ++ x.item ∷ vs) ++ ws ≡ (us ++ x.item ∷ []) ++ (vs ++ ws)
    split us vs ws = append_assoc us (x.item ∷ vs) ws ∙ sym (append_assoc us (x.item ∷ []) (vs ++ ws))

-- an item that cannot stand is in no front of what can go on
stops_before : (before rest all : List Placed) (x : Placed) → all ≡ before ++ x ∷ rest → CanGoOn (without_places all) → ¬ CanGoOn (without_places before ++ x.item ∷ []) → ⊥
stops_before before rest all x split can stops = stops (front_goes_on before rest x (subst (λ items. CanGoOn (without_places items)) split can))

meet_once : {before after others behind : List Placed} {x y : Placed} → Meets before after x others behind y → CanGoOn (without_places before) → ¬ CanGoOn (without_places before ++ x.item ∷ []) → CanGoOn (without_places others) → ¬ CanGoOn (without_places others ++ y.item ∷ []) → x ≡ y
meet_once (one e f) can stops go ends = f
meet_once {before} {others} {x} (sooner rest e) can stops go ends = absurd (stops_before before rest others x e go stops)
meet_once {before} {others} {y} (later rest e) can stops go ends = absurd (stops_before others rest before y e can ends)

pub wrong_once : {items : List Placed} {end place other : Place} → FirstWrongOf items end place → FirstWrongOf items end other → place ≡ other
wrong_once (at_item before after x split can stops here) (at_item others behind y cut go ends there) =
    here ∙ (ap (λ (z : Placed). z.place) (meet_once (meets before after others behind x y (sym split ∙ cut)) can stops go ends) ∙ sym there)
wrong_once {items} (at_item before after x split can stops here) (at_end go nothing there) = absurd (stops_before before after items x split go stops)
wrong_once {items} (at_end can nothing here) (at_item others behind y cut go ends there) = absurd (stops_before others behind items y cut can ends)
wrong_once (at_end can nothing here) (at_end go none there) = here ∙ sym there
