-- Steps of laying out.
use Rattle.std.proofs.Common.{◌≡◌, ◌≤◌, ◌+◌, ◌-◌, ◌*◌, ◌/◌, ◌%◌, ◌^◌, ◌∙◌, refl, sym, ap, subst, ℕ, Bool, true, false, if◌then◌else◌, ◌&&◌, List, [], ◌∷◌, ◌++◌, map, Option, None, Some, is_some, is_none, arith, append_assoc, append-nil}
use Rattle.std.specs.List.{list_all}
use Rattle.std.proofs.Math.Nat.{mod-lt}
use Rattle.std.proofs.Math.Pow.{mod-mod-pow}
use Rattle.std.proofs.lemmas.Nat.{pow_pos, shr_split}
use Rattle.std.proofs.lemmas.List.Recursion.{and_push}
use Rattle.hb_bits.specs.Bits.{digits}
use Rattle.hb_bits.specs.BitsLaws.{digits-join}
use Rattle.std.proofs.lemmas.List.{map-append}
use Rattle.std.proofs.lemmas.Bool.{and_parts, eqb-true}
use Rattle.hb_base.specs.declared.place.Place.{Place}
use Rattle.hb_bitdata.specs.declared.form.ConForm.{ConForm}
use Rattle.hb_bitdata.specs.declared.form.BitForm.{BitForm}
use Rattle.hb_bitdata.specs.declared.con.ConLayout.{ConLayout}
use Rattle.hb_bitdata.specs.Widths.{parts_width, is_range, is_width, bad_field, con_fault, cons_fault, first_width, first_fault}
use Rattle.hb_bitdata.specs.Layouts.{Laid, laid, shown, width_of, AreWide}

-- what stands so far, with the next piece taken in
pub step : {X : Type 0} (before more after whole next : List X) → before ++ (more ++ after) ≡ whole → next ≡ before ++ more → next ++ after ≡ whole
step before more after whole next e f = ap (λ l. l ++ after) f ∙ append_assoc before more after ∙ e

pub map_step : (before : List ConLayout) (layout : ConLayout) (next : List ConLayout) (con : ConForm) (rest : List ConForm) (whole : List Laid) → map shown before ++ map laid (con ∷ rest) ≡ whole → next ≡ before ++ layout ∷ [] → shown layout ≡ laid con → map shown next ++ map laid rest ≡ whole
map_step before layout next con rest whole e f g =
    ap (λ l. map shown l ++ map laid rest) f
    ∙ ap (λ l. l ++ map laid rest) (map-append shown before (layout ∷ []))
    ∙ append_assoc (map shown before) (shown layout ∷ []) (map laid rest)
    ∙ ap (λ s. map shown before ++ (s ∷ map laid rest)) g
    ∙ e

pub all_step : (p : ConLayout → Bool) (before : List ConLayout) (layout : ConLayout) → list_all p before ≡ true → p layout ≡ true → list_all p (before ++ layout ∷ []) ≡ true
all_step p before layout e f = and_push (list_all p) p refl (λ _ _. refl) before layout ∙ ap (λ b. b && p layout) e ∙ f

-- the last digits of a number are those of its rest
pub digits-low : (width n : ℕ) → digits width (n % 2 ^ width) ≡ digits width n
unfolding digits
digits-low width n =
    sym (
    ap (digits width) (sym (shr_split n width))
    ∙ ap (λ w. digits w (n / 2 ^ width * 2 ^ width + n % 2 ^ width)) (no_more width)
    ∙ digits-join 0 width (n / 2 ^ width) (n % 2 ^ width) (mod-lt n (pow_pos width))
    )
  where
    no_more : (w : ℕ) → w ≡ 0 + w
    no_more w = omega arith

one_by_one : (n : ℕ) → n / 2 ^ 0 ≡ n
one_by_one n = omega arith

pub last_digits : (width n : ℕ) → width ≤ 64 → digits width (n % 2 ^ 64 / 2 ^ 0 % 2 ^ width) ≡ digits width n
last_digits width n narrow =
    ap (λ k. digits width (k % 2 ^ width)) (one_by_one (n % 2 ^ 64))
    ∙ ap (λ k. digits width (n % 2 ^ k % 2 ^ width)) more
    ∙ ap (digits width) (mod-mod-pow n (64 - width) width)
    ∙ digits-low width n
  where
    more : 64 ≡ 64 - width + width
    more = omega arith

pick : (bad : Option Place) (fine : Bool) (place : Place) → (if is_some bad then bad else (if fine then None else Some place)) ≡ None → (bad ≡ None) × (fine ≡ true)
pick None true place e = (refl, refl)
pick None false place e = cc
pick (Some at) fine place e = cc

none_of : (one others : Option Place) → (if is_some one then one else others) ≡ None → (one ≡ None) × (others ≡ None)
none_of None others e = (refl, e)
none_of (Some at) others e = cc

-- where nothing is wrong, all constructors have one width
all_wide : (width : ℕ) (cons : List ConForm) → cons_fault (Some width) cons ≡ None → AreWide width cons
all_wide width [] e = tt
all_wide width (con ∷ cons) e =
    let fine = none_of (con_fault (Some width) con) (cons_fault (Some width) cons) e in
    let good = pick (bad_field con.parts) (is_width (Some width) (parts_width con.parts)) con.place fine.0 in
    (eqb-true _ _ (and_parts (is_range (parts_width con.parts)) _ good.1).1, all_wide width cons fine.1)

first_wide : (width : ℕ) (cons : List ConForm) → AreWide width cons → AreWide (width_of cons) cons
first_wide width [] wide = tt
first_wide width (con ∷ cons) wide = subst (λ w. AreWide w (con ∷ cons)) (sym wide.0) wide

wide_of : (width : Option ℕ) (cons : List ConForm) → cons_fault (if is_some width then width else first_width cons) cons ≡ None → AreWide (width_of cons) cons
wide_of (Some width) cons e = first_wide width cons (all_wide width cons e)
wide_of None [] e = tt
wide_of None (con ∷ cons) e =
    let fine = none_of (con_fault (first_width (con ∷ cons)) con) (cons_fault (first_width (con ∷ cons)) cons) e in
    let good = pick (bad_field con.parts) (is_width (first_width (con ∷ cons)) (parts_width con.parts)) con.place fine.0 in
    all_wide (parts_width con.parts) (con ∷ cons)
    (subst (λ bad. cons_fault (if is_none bad then Some (parts_width con.parts) else first_width cons) (con ∷ cons) ≡ None) good.0 e)

pub wide : (form : BitForm) → first_fault form ≡ None → AreWide (width_of form.cons) form.cons
wide form e = wide_of form.width form.cons e

pub done : {X : Type 0} (before after whole : List X) → before ++ after ≡ whole → after ≡ [] → before ≡ whole
done before after whole e none = sym (append-nil before) ∙ ap (λ l. before ++ l) (sym none) ∙ e

pub none_is : (found : Option Place) → ((place : Place) → found ≡ Some place → ⊥) → found ≡ None
none_is None never = refl
none_is (Some place) never = absurd (never place refl)

pub same_width : (before after whole : ℕ) → before + after ≡ whole → after ≡ 0 → before ≡ whole
same_width before after whole e none = omega arith
