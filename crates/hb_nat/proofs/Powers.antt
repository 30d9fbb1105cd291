-- What a power says of its open arguments.
use Rattle.std.proofs.Common.{◌≡◌, ◌≢◌, ◌∙◌, sym, refl, ap, subst, ℕ, zero, suc, ◌*◌, ◌%◌, ◌<◌, ◌≤◌, ◌^◌, ◌==◌, true, false, if◌then◌else◌, Option, None, Some, MatchOption, IfSome, IfNone, arith, lit<, ◌⊎◌, inl, inr}
use Rattle.std.specs.Option.{SomeIff}
use Rattle.std.proofs.Math.Nat.{pow-suc, pow-le-pow_right}
use Rattle.std.proofs.Math.Pow.{pow-lt}
use Rattle.std.proofs.lemmas.Bool.{cases_lt}
use Rattle.hb_nat.specs.declared.fact.NatArg.TheVariants.{Known, Open}
use Rattle.hb_nat.specs.declared.fact.NatFact.TheVariants.{Power}
use Rattle.hb_nat.specs.declared.fact.Improvement.{Improvement}
use Rattle.hb_nat.specs.declared.fact.Improvement.TheVariants.{Nothing, Never}
use Rattle.hb_nat.specs.Facts.{CanHold, CannotHold, Forces}
use Rattle.hb_nat.specs.Improving.{IsAnswer}
use Rattle.hb_nat.proofs.Answering.{twice_answer, two, two-first, two-second, two_fit}

pub power_second : (n v : ℕ) (number : Option ℕ) → SomeIff number (2 ^ n < 2 ^ 64) (2 ^ n) → MatchOption number (CannotHold (Power (Known n) (Open v))) (λ s. CanHold (Power (Known n) (Open v)) × Forces (Power (Known n) (Open v)) v s)
power_second n v None large = λ numbers range holds. large (subst (λ s. s < 2 ^ 64) (sym holds) (range v))
power_second n v (Some s) is =
    ((λ w. s, (λ w. subst (λ t. t < 2 ^ 64) (sym is.1) is.0, sym is.1)), λ numbers range holds. sym holds ∙ sym is.1)

pub below_power : (n : ℕ) → n < 2 ^ n
below_power zero = lit< tt
below_power (suc n) =
    let less = below_power n in
    let more = pow-suc 2 n in
    omega (arith, less, more)

-- powers of different numbers differ
pub same_exponent : (n k : ℕ) → 2 ^ n ≡ 2 ^ k → n ≡ k
same_exponent n k e = pick (cases_lt n k) (cases_lt k n)
  where
    pick : (n < k) ⊎ (k ≤ n) → (k < n) ⊎ (n ≤ k) → n ≡ k
    pick (inl less) other = let powers : 2 ^ n < 2 ^ k = pow-lt less in absurd (omega (arith, powers, e))
    pick (inr least) (inl less) = let powers : 2 ^ k < 2 ^ n = pow-lt less in absurd (omega (arith, powers, e))
    pick (inr least) (inr most) = omega arith

exponent_fits : (n m : ℕ) → m < 2 ^ 64 → 2 ^ n ≡ m → n < 2 ^ 64
exponent_fits n m fits e = let less = below_power n in omega (arith, less, e)

pub power_first : (v m : ℕ) (number : Option ℕ) → m < 2 ^ 64 → IfSome number (λ n. 2 ^ n ≡ m) → IfNone number ((n : ℕ) → 2 ^ n ≢ m) → MatchOption number (CannotHold (Power (Open v) (Known m))) (λ n. CanHold (Power (Open v) (Known m)) × Forces (Power (Open v) (Known m)) v n)
power_first v m None fits some none = λ numbers range holds. none (numbers v) holds
power_first v m (Some n) fits some none =
    ((λ w. n, (λ w. exponent_fits n m fits some, some)), λ numbers range holds. same_exponent (numbers v) n (holds ∙ sym some))

no_power_of_itself : (n : ℕ) → 2 ^ n ≡ n → ⊥
no_power_of_itself n e = let less = below_power n in omega (arith, less, e)

pub power_of_open : (x y : ℕ) (r : Improvement) → r ≡ (if x == y then (if false then Nothing else Never) else Nothing) → IsAnswer (Power (Open x) (Open y)) r
power_of_open x y r e =
    twice_answer (Power (Open x) (Open y)) x y false r refl
    (λ apart. (two x 0 1, (two_fit x 0 1 (lit< tt) (lit< tt), ap (λ k. 2 ^ k) (two-first x 0 1) ∙ sym (two-second x y 0 1 apart))))
    (λ same is. absurd (never is))
    (λ same isnt. λ numbers range holds. no_power_of_itself (numbers x) (holds ∙ ap numbers (sym same)))
    e
  where
    never : false ≡ true → ⊥
    never is = cc

-- the powers next to a number that is between them and equals neither
pub no_exponent : (m n k : ℕ) → 2 ^ n ≤ m → m < 2 * 2 ^ n → (2 ^ n ≡ m → ⊥) → 2 ^ k ≡ m → ⊥
no_exponent m n k least most differs e = pick (cases_lt k n) (cases_lt n k)
  where
    pick : (k < n) ⊎ (n ≤ k) → (n < k) ⊎ (k ≤ n) → ⊥
    pick (inl less) other = let powers : 2 ^ k < 2 ^ n = pow-lt less in omega (arith, powers, e)
    pick (inr below) (inl more) =
        let powers : 2 ^ suc n ≤ 2 ^ k = pow-le-pow_right (omega arith) (omega arith) in
        let double = pow-suc 2 n in
        omega (arith, powers, double, e)
    pick (inr below) (inr above) = let same : n ≡ k = omega arith in differs (ap (λ i. 2 ^ i) same ∙ e)

pub one_shifted : (n m : ℕ) → 2 ^ n ≤ m → m < 2 ^ 64 → 1 * 2 ^ n % 2 ^ 64 ≡ 2 ^ n
one_shifted n m least fits = omega arith

pub too_large : (n : ℕ) → 64 ≤ n → 2 ^ n < 2 ^ 64 → ⊥
too_large n le less = let powers : 2 ^ 64 ≤ 2 ^ n = pow-le-pow_right (omega arith) le in omega (arith, powers)
