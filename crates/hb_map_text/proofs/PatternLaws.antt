-- The binary digits of a number.
use Rattle.std.proofs.Common.{◌≡◌, ℕ, zero, suc, ◌+◌, ◌-◌, ◌/◌, ◌%◌, ◌<◌, List, [], ◌∷◌, ◌++◌, sym, ap, ◌∙◌, arith, append_assoc}
use Rattle.hb_map_text.specs.Pieces.{binary}

-- the last digit stands behind the others
pub binary_more : (width number : ℕ) → 0 < width → binary width number ≡ binary (width - 1) (number / 2) ++ (48 + number % 2) ∷ []
unfolding binary
binary_more zero number more = absurd (omega (arith, more))
binary_more (suc before) number more =
    let e : before ≡ suc before - 1 = omega arith in
    ap (λ w. binary w (number / 2) ++ (48 + number % 2) ∷ []) e

-- digits put behind a text, and one more behind them
pub put_more : (before others after : List ℕ) (width number : ℕ) → 0 < width → others ≡ before ++ binary (width - 1) (number / 2) → after ≡ others ++ (48 + number % 2) ∷ [] → after ≡ before ++ binary width number
put_more before others after width number more e f =
    f
    ∙ ap (λ (xs : List ℕ). xs ++ (48 + number % 2) ∷ []) e
    ∙ append_assoc before (binary (width - 1) (number / 2)) ((48 + number % 2) ∷ [])
    ∙ ap (λ (xs : List ℕ). before ++ xs) (sym (binary_more width number more))
