-- What a product says of its open arguments.
use Rattle.std.proofs.Common.{◌≡◌, ◌≢◌, ◌∙◌, sym, refl, ap, subst, ℕ, ◌*◌, ◌/◌, ◌<◌, ◌≤◌, ◌^◌, ◌==◌, Bool, true, false, if◌then◌else◌, IsTrue, Option, None, Some, MatchOption, IfSome, IfNone, arith, lit<, mul_comm, ◌⊎◌, inl, inr}
use Rattle.std.specs.Option.{SomeIff}
use Rattle.std.proofs.Math.Nat.{mul-div_cancel_left, le-mul_of_pos_right}
use Rattle.std.proofs.lemmas.Bool.{eqb-true, eq-eqb}
use Rattle.std.proofs.lemmas.Bool.Decides.{eqb_tells}
use Rattle.hb_nat.specs.declared.fact.NatArg.TheVariants.{Known, Open}
use Rattle.hb_nat.specs.declared.fact.NatFact.TheVariants.{Product}
use Rattle.hb_nat.specs.declared.fact.Improvement.{Improvement}
use Rattle.hb_nat.specs.declared.fact.Improvement.TheVariants.{Nothing, Know, Never}
use Rattle.hb_nat.specs.Facts.{CanHold, CannotHold, Forces}
use Rattle.hb_nat.specs.Improving.{IsAnswer}
use Rattle.hb_nat.proofs.Answering.{decided_answer, given_answer, twice_answer, two, two-first, two-second, two_fit, not_equal}

pub product_third : (n m v : ℕ) (number : Option ℕ) → SomeIff number (n * m < 2 ^ 64) (n * m) → MatchOption number (CannotHold (Product (Known n) (Known m) (Open v))) (λ s. CanHold (Product (Known n) (Known m) (Open v)) × Forces (Product (Known n) (Known m) (Open v)) v s)
product_third n m v None large = λ numbers range holds. large (subst (λ s. s < 2 ^ 64) (sym holds) (range v))
product_third n m v (Some s) is =
    ((λ w. s, (λ w. subst (λ t. t < 2 ^ 64) (sym is.1) is.0, sym is.1)), λ numbers range holds. sym holds ∙ sym is.1)

-- a factor 0
none_given : (f v : ℕ) → f ≡ 0 → (if f == 0 then None else Some v) ≡ None
none_given f v e = ap (λ b. if b then None else Some v) (eq-eqb f 0 e)

times_none : (f x : ℕ) → f ≡ 0 → f * x ≡ 0
times_none f x e = ap (λ k. k * x) e ∙ zero_times x
  where
    zero_times : (k : ℕ) → 0 * k ≡ 0
    zero_times k = omega arith

pub zero_first : (f v p : ℕ) (r : Improvement) → f ≡ 0 → r ≡ (if p == 0 then Nothing else Never) → IsAnswer (Product (Known f) (Open v) (Known p)) r
zero_first f v p r none e =
    decided_answer (Product (Known f) (Open v) (Known p)) (p == 0) r (none_given f v none)
    (λ is. (λ w. 0, (λ w. lit< tt, times_none f 0 none ∙ sym (eqb-true p 0 is))))
    (λ isnt. λ numbers range holds. not_equal p 0 isnt (sym holds ∙ times_none f (numbers v) none))
    e

pub zero_second : (f v p : ℕ) (r : Improvement) → f ≡ 0 → r ≡ (if p == 0 then Nothing else Never) → IsAnswer (Product (Open v) (Known f) (Known p)) r
zero_second f v p r none e =
    decided_answer (Product (Open v) (Known f) (Known p)) (p == 0) r (none_given f v none)
    (λ is. (λ w. 0, (λ w. lit< tt, mul_comm 0 f ∙ times_none f 0 none ∙ sym (eqb-true p 0 is))))
    (λ isnt. λ numbers range holds. not_equal p 0 isnt (sym holds ∙ mul_comm (numbers v) f ∙ times_none f (numbers v) none))
    e

-- a factor above 0
some_given : (f v : ℕ) → 0 < f → (if f == 0 then None else Some v) ≡ Some v
some_given f v above = tell (eqb_tells f 0)
  where
    tell : ((f == 0) ≡ true × f ≡ 0) ⊎ ((f == 0) ≡ false × f ≢ 0) → (if f == 0 then None else Some v) ≡ Some v
    tell (inl is) = absurd (omega arith)
    tell (inr is) = ap (λ b. if b then None else Some v) is.0

same_factor : (f x q p : ℕ) → 0 < f → f * x ≡ p → f * q ≡ p → x ≡ q
same_factor f x q p above e g = sym (mul-div_cancel_left x above) ∙ ap (λ k. k / f) (e ∙ sym g) ∙ mul-div_cancel_left q above

factor_fits : (f q p : ℕ) → 0 < f → p < 2 ^ 64 → f * q ≡ p → q < 2 ^ 64
factor_fits f q p above fits e =
    let most : q ≤ q * f = le-mul_of_pos_right q above in
    let turned = mul_comm q f in
    omega (arith, most, turned, e)

pub factor_first : (f v p : ℕ) (number : Option ℕ) → 0 < f → p < 2 ^ 64 → IfSome number (λ q. f * q ≡ p) → IfNone number ((q : ℕ) → f * q ≢ p) → MatchOption number (CannotHold (Product (Known f) (Open v) (Known p))) (λ q. CanHold (Product (Known f) (Open v) (Known p)) × Forces (Product (Known f) (Open v) (Known p)) v q)
factor_first f v p None above fits some none = λ numbers range holds. none (numbers v) holds
factor_first f v p (Some q) above fits some none =
    ((λ w. q, (λ w. factor_fits f q p above fits some, some)), λ numbers range holds. same_factor f (numbers v) q p above holds some)

pub factor_second : (f v p : ℕ) (number : Option ℕ) → 0 < f → p < 2 ^ 64 → IfSome number (λ q. f * q ≡ p) → IfNone number ((q : ℕ) → f * q ≢ p) → MatchOption number (CannotHold (Product (Open v) (Known f) (Known p))) (λ q. CanHold (Product (Open v) (Known f) (Known p)) × Forces (Product (Open v) (Known f) (Known p)) v q)
factor_second f v p None above fits some none = λ numbers range holds. none (numbers v) (mul_comm f (numbers v) ∙ holds)
factor_second f v p (Some q) above fits some none =
    ((λ w. q, (λ w. factor_fits f q p above fits some, mul_comm q f ∙ some)), λ numbers range holds. same_factor f (numbers v) q p above (mul_comm f (numbers v) ∙ holds) some)

pub given_first : (f v p : ℕ) (number : Option ℕ) (r : Improvement) → 0 < f → p < 2 ^ 64 → IfSome number (λ q. f * q ≡ p) → IfNone number ((q : ℕ) → f * q ≢ p) → MatchOption number (r ≡ Never) (λ q. r ≡ Know v q) → IsAnswer (Product (Known f) (Open v) (Known p)) r
given_first f v p number r above fits some none e = given_answer (Product (Known f) (Open v) (Known p)) v number r (some_given f v above) (factor_first f v p number above fits some none) e

pub given_second : (f v p : ℕ) (number : Option ℕ) (r : Improvement) → 0 < f → p < 2 ^ 64 → IfSome number (λ q. f * q ≡ p) → IfNone number ((q : ℕ) → f * q ≢ p) → MatchOption number (r ≡ Never) (λ q. r ≡ Know v q) → IsAnswer (Product (Open v) (Known f) (Known p)) r
given_second f v p number r above fits some none e = given_answer (Product (Open v) (Known f) (Known p)) v number r (some_given f v above) (factor_second f v p number above fits some none) e

one_times : (p : ℕ) → 1 * p ≡ p
one_times p = omega arith

denied : (b : Bool) → b ≡ true → b ≡ false → ⊥
denied b is isnt = cc

-- twice an open argument, with a known product
pub product_of_two : (x y p : ℕ) (square : Bool) (r : Improvement) → p < 2 ^ 64 → (IsTrue square → (n : ℕ) × ((n < 2 ^ 64) × (n * n ≡ p))) → ((n : ℕ) → n * n ≡ p → IsTrue square) → r ≡ (if x == y then (if square then Nothing else Never) else Nothing) → IsAnswer (Product (Open x) (Open y) (Known p)) r
product_of_two x y p square r fits root all e =
    twice_answer (Product (Open x) (Open y) (Known p)) x y square r refl
    (λ apart. (two x 1 p, (two_fit x 1 p (lit< tt) fits, ap (λ k. k * two x 1 p y) (two-first x 1 p) ∙ ap (λ k. 1 * k) (two-second x y 1 p apart) ∙ one_times p)))
    (λ same is. (λ w. (root is).0, (λ w. (root is).1.0, (root is).1.1)))
    (λ same isnt. λ numbers range holds. denied square (all (numbers x) (ap (λ k. numbers x * numbers k) same ∙ holds)) isnt)
    e
