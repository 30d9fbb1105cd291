-- The value of hexadecimal digits, one digit after another.
use Rattle.std.proofs.Common.{◌≡◌, ℕ, ◌+◌, ◌*◌, ◌^◌, ◌<◌, ◌≤◌, true, false, cond, ltb, List, [], ◌∷◌, ◌++◌, length, take, drop, get_or, Some, None, refl, sym, ap, ◌∙◌, arith}
use Rattle.std.specs.Char.{digit_value}
use Rattle.std.specs.List.{list_all}
use Rattle.std.specs.Str.Parse.{digits_value, digits_value_after}
use Rattle.std.proofs.lemmas.Bool.{lt-ltb, le-ltb, and_from, and_right, cond-false}
use Rattle.std.proofs.lemmas.Int.Digits.{digits_value_more}
use Rattle.std.proofs.lemmas.List.{take-append-drop}
use Rattle.std.proofs.lemmas.List.Folds.{list_all_more}
use Rattle.hb_script.specs.Scripts.{is_hex, is_value}

-- the digit at i
pub record IsDigitAt (digits : List ℕ) (i digit : ℕ) : Type 0 where
  pub within : i < length digits
  pub below : digit < 16
  pub is : digit_value (get_or digits i 0) ≡ digit

pub digit_read : (digits : List ℕ) (i byte digit : ℕ) → i < length digits → byte ≡ get_or digits i 0 → (digit_value byte < 16) × (digit ≡ digit_value byte) → IsDigitAt digits i digit
digit_read digits i byte digit within e read =
    let is : digit_value (get_or digits i 0) ≡ digit = ap digit_value (sym e) ∙ sym read.1 in
    record { within = within; below = omega (arith, read.0, read.1); is = is }

pub digits_more : (digits : List ℕ) (i digit : ℕ) → IsDigitAt digits i digit → list_all is_hex (take i digits) ≡ true → list_all is_hex (take (i + 1) digits) ≡ true
digits_more digits i digit at so_far =
    let hex : is_hex (get_or digits i 0) ≡ true = lt-ltb (digit_value (get_or digits i 0)) 16 (omega (arith, at.below, at.is)) in
    list_all_more is_hex digits i 0 at.within ∙ and_from (list_all is_hex (take i digits)) (is_hex (get_or digits i 0)) so_far hex

pub value_more : (digits : List ℕ) (i digit value : ℕ) → IsDigitAt digits i digit → value ≡ digits_value 16 (take i digits) → 16 * value + digit ≡ digits_value 16 (take (i + 1) digits)
value_more digits i digit value at so_far =
    let more = digits_value_more 16 digits i at.within in
    omega (arith, more, at.is, so_far)

grows : (n : ℕ) (digits : List ℕ) → n ≤ digits_value_after 16 n digits
grows n [] = omega arith
grows n (c ∷ cs) = let h = grows (n * 16 + digit_value c) cs in omega arith

further : (n : ℕ) (xs ys : List ℕ) → digits_value_after 16 n (xs ++ ys) ≡ digits_value_after 16 (digits_value_after 16 n xs) ys
further n [] ys = refl
further n (c ∷ cs) ys = further (n * 16 + digit_value c) cs ys

-- a front that is too large is in no value
pub too_large : (digits : List ℕ) (width i greatest : ℕ) → greatest + 1 ≡ 2 ^ (8 * width) → greatest < digits_value 16 (take i digits) → is_value width digits ≡ false
too_large digits width i greatest limit above =
    let whole : digits_value 16 digits ≡ digits_value_after 16 (digits_value 16 (take i digits)) (drop i digits) = ap (digits_value 16) (sym (take-append-drop i digits)) ∙ further 0 (take i digits) (drop i digits) in
    let more = grows (digits_value 16 (take i digits)) (drop i digits) in
    and_right (list_all is_hex digits) (ltb (digits_value 16 digits) (2 ^ (8 * width))) (le-ltb _ _ (omega (arith, limit, above, whole, more)))

pub no_value : (digits : List ℕ) (width : ℕ) → is_value width digits ≡ false → None ≡ cond (is_value width digits) (Some (digits_value 16 digits)) None
no_value digits width e = sym (cond-false (is_value width digits) (Some (digits_value 16 digits)) None e)
