-- What a sum says of its open arguments.
use Rattle.std.proofs.Common.{◌≡◌, ◌∙◌, sym, refl, ap, subst, ℕ, ◌+◌, ◌-◌, ◌/◌, ◌%◌, ◌<◌, ◌≤◌, ◌^◌, ◌==◌, if◌then◌else◌, Option, None, Some, MatchOption, arith, lit<}
use Rattle.std.specs.Option.{SomeIff}
use Rattle.std.proofs.lemmas.Bool.{eqb-true}
use Rattle.hb_nat.specs.declared.fact.NatArg.TheVariants.{Known, Open}
use Rattle.hb_nat.specs.declared.fact.NatFact.TheVariants.{Sum}
use Rattle.hb_nat.specs.declared.fact.Improvement.{Improvement}
use Rattle.hb_nat.specs.declared.fact.Improvement.TheVariants.{Nothing, Never}
use Rattle.hb_nat.specs.Facts.{CanHold, CannotHold, Forces}
use Rattle.hb_nat.specs.Improving.{IsAnswer}
use Rattle.hb_nat.proofs.Answering.{twice_answer, not_equal, two, two-first, two-second, two_fit}

pub sum_third : (n m v : ℕ) (number : Option ℕ) → SomeIff number (n + m < 2 ^ 64) (n + m) → MatchOption number (CannotHold (Sum (Known n) (Known m) (Open v))) (λ s. CanHold (Sum (Known n) (Known m) (Open v)) × Forces (Sum (Known n) (Known m) (Open v)) v s)
sum_third n m v None denied = λ numbers range holds. denied (subst (λ s. s < 2 ^ 64) (sym holds) (range v))
sum_third n m v (Some s) is =
    ((λ w. s, (λ w. subst (λ t. t < 2 ^ 64) (sym is.1) is.0, sym is.1)), λ numbers range holds. sym holds ∙ sym is.1)

back : (n p s : ℕ) → n ≤ p → s ≡ p - n → n + s ≡ p
back n p s le e = omega arith

below : (n p s : ℕ) → p < 2 ^ 64 → s ≡ p - n → s < 2 ^ 64
below n p s lt e = omega arith

rest_is : (n p s x : ℕ) → s ≡ p - n → n + x ≡ p → x ≡ s
rest_is n p s x e holds = omega arith

summand_le : (n x p : ℕ) → n + x ≡ p → n ≤ p
summand_le n x p e = omega arith

turned : (x n p : ℕ) → x + n ≡ p → n + x ≡ p
turned x n p e = omega arith

pub sum_second : (n v p : ℕ) (number : Option ℕ) → p < 2 ^ 64 → SomeIff number (n ≤ p) (p - n) → MatchOption number (CannotHold (Sum (Known n) (Open v) (Known p))) (λ s. CanHold (Sum (Known n) (Open v) (Known p)) × Forces (Sum (Known n) (Open v) (Known p)) v s)
sum_second n v p None fits denied = λ numbers range holds. denied (summand_le n (numbers v) p holds)
sum_second n v p (Some s) fits is =
    ((λ w. s, (λ w. below n p s fits is.1, back n p s is.0 is.1)), λ numbers range holds. rest_is n p s (numbers v) is.1 holds)

pub sum_first : (m v p : ℕ) (number : Option ℕ) → p < 2 ^ 64 → SomeIff number (m ≤ p) (p - m) → MatchOption number (CannotHold (Sum (Open v) (Known m) (Known p))) (λ s. CanHold (Sum (Open v) (Known m) (Known p)) × Forces (Sum (Open v) (Known m) (Known p)) v s)
sum_first m v p None fits denied = λ numbers range holds. denied (summand_le m (numbers v) p (turned (numbers v) m p holds))
sum_first m v p (Some s) fits is =
    ((λ w. s, (λ w. below m p s fits is.1, turned m s p (back m p s is.0 is.1))), λ numbers range holds. rest_is m p s (numbers v) is.1 (turned (numbers v) m p holds))

no_summand : (n x : ℕ) → n + x ≡ x → n ≡ 0
no_summand n x e = omega arith

plus_zero : (n : ℕ) → n + 0 ≡ n
plus_zero n = omega arith

zero_plus : (n x : ℕ) → n ≡ 0 → n + x ≡ x
zero_plus n x e = omega arith

plus_none : (n x : ℕ) → n ≡ 0 → x + n ≡ x
plus_none n x e = omega arith

-- a known summand and twice an open argument
pub sum_behind : (n x y : ℕ) (r : Improvement) → n < 2 ^ 64 → r ≡ (if x == y then (if n == 0 then Nothing else Never) else Nothing) → IsAnswer (Sum (Known n) (Open x) (Open y)) r
sum_behind n x y r fits e =
    twice_answer (Sum (Known n) (Open x) (Open y)) x y (n == 0) r refl
    (λ apart. (two x 0 n, (two_fit x 0 n (lit< tt) fits, ap (λ k. n + k) (two-first x 0 n) ∙ plus_zero n ∙ sym (two-second x y 0 n apart))))
    (λ same none. (λ w. 0, (λ w. lit< tt, zero_plus n 0 (eqb-true n 0 none))))
    (λ same some. λ numbers range holds. not_equal n 0 some (no_summand n (numbers x) (holds ∙ ap numbers (sym same))))
    e

pub sum_before : (m x y : ℕ) (r : Improvement) → m < 2 ^ 64 → r ≡ (if x == y then (if m == 0 then Nothing else Never) else Nothing) → IsAnswer (Sum (Open x) (Known m) (Open y)) r
sum_before m x y r fits e =
    twice_answer (Sum (Open x) (Known m) (Open y)) x y (m == 0) r refl
    (λ apart. (two x 0 m, (two_fit x 0 m (lit< tt) fits, ap (λ k. k + m) (two-first x 0 m) ∙ zero_plus 0 m refl ∙ sym (two-second x y 0 m apart))))
    (λ same none. (λ w. 0, (λ w. lit< tt, plus_none m 0 (eqb-true m 0 none))))
    (λ same some. λ numbers range holds. not_equal m 0 some (no_summand m (numbers x) (turned (numbers x) m (numbers x) (holds ∙ ap numbers (sym same)))))
    e

halves : (p : ℕ) → p % 2 ≡ 0 → p / 2 + p / 2 ≡ p
halves p e = omega arith

doubled : (x p : ℕ) → x + x ≡ p → p % 2 ≡ 0
doubled x p e = omega arith

half_fits : (p : ℕ) → p < 2 ^ 64 → p / 2 < 2 ^ 64
half_fits p lt = omega arith

pub sum_of_two : (x y p : ℕ) (r : Improvement) → p < 2 ^ 64 → r ≡ (if x == y then (if p % 2 == 0 then Nothing else Never) else Nothing) → IsAnswer (Sum (Open x) (Open y) (Known p)) r
sum_of_two x y p r fits e =
    twice_answer (Sum (Open x) (Open y) (Known p)) x y (p % 2 == 0) r refl
    (λ apart. (two x 0 p, (two_fit x 0 p (lit< tt) fits, ap (λ k. k + two x 0 p y) (two-first x 0 p) ∙ ap (λ k. 0 + k) (two-second x y 0 p apart) ∙ zero_plus 0 p refl)))
    (λ same even. (λ w. p / 2, (λ w. half_fits p fits, halves p (eqb-true (p % 2) 0 even))))
    (λ same odd. λ numbers range holds. not_equal (p % 2) 0 odd (doubled (numbers x) p (ap (λ k. numbers x + numbers k) same ∙ holds)))
    e
