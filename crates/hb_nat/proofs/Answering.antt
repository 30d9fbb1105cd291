-- When an answer is the right one.
use Rattle.std.proofs.Common.{◌≡◌, ◌≢◌, ◌∙◌, sym, refl, ap, subst, ℕ, ◌<◌, ◌^◌, ◌==◌, Bool, true, false, if◌then◌else◌, IsTrue, ◌↔◌, ◌⊎◌, inl, inr, Option, None, Some, MatchOption, lit<}
use Rattle.std.proofs.lemmas.Bool.{eq-eqb}
use Rattle.std.proofs.lemmas.Bool.Decides.{eqb_tells}
use Rattle.hb_nat.specs.declared.fact.NatArg.{NatArg}
use Rattle.hb_nat.specs.declared.fact.NatFact.{NatFact}
use Rattle.hb_nat.specs.declared.fact.Improvement.{Improvement}
use Rattle.hb_nat.specs.declared.fact.Improvement.TheVariants.{Nothing, Know, Never}
use Rattle.hb_nat.specs.Facts.{Holds, InRange, CanHold, CannotHold, Forces}
use Rattle.hb_nat.specs.Improving.{gives, IsAnswer}

-- arguments that are known to be these
pub at_two : (P : NatArg → NatArg → Type 0) (a b x y : NatArg) → a ≡ x → b ≡ y → P x y → P a b
at_two P a b x y e f p = subst (λ k. P k b) (sym e) (subst (λ k. P x k) (sym f) p)

pub at_three : (P : NatArg → NatArg → NatArg → Type 0) (a b d x y z : NatArg) → a ≡ x → b ≡ y → d ≡ z → P x y z → P a b d
at_three P a b d x y z e f g p = subst (λ k. P k b d) (sym e) (subst (λ k. P x k d) (sym f) (subst (λ k. P x y k) (sym g) p))

pub decided_answer : (fact : NatFact) (possible : Bool) (r : Improvement) → gives fact ≡ None → (possible ≡ true → CanHold fact) → (possible ≡ false → CannotHold fact) → r ≡ (if possible then Nothing else Never) → IsAnswer fact r
decided_answer fact true r none can cannot e = subst (IsAnswer fact) (sym e) (none, can refl)
decided_answer fact false r none can cannot e = subst (IsAnswer fact) (sym e) (cannot refl)

not_both : (b : Bool) → b ≡ true → b ≡ false → ⊥
not_both b affirmed denied = cc

-- a fact without open arguments is a fact about these numbers
pub closed_answer : (fact : NatFact) (P : Type 0) (possible : Bool) (r : Improvement) → gives fact ≡ None → ((numbers : ℕ → ℕ) → Holds numbers fact → P) → ((numbers : ℕ → ℕ) → P → Holds numbers fact) → (IsTrue possible ↔ P) → r ≡ (if possible then Nothing else Never) → IsAnswer fact r
closed_answer fact P possible r none from to iff e =
    decided_answer fact possible r none
    (λ affirmed. (λ v. 0, (λ v. lit< tt, to (λ v. 0) (iff.0 affirmed))))
    (λ denied. λ numbers range holds. not_both possible (iff.1 (from numbers holds)) denied)
    e

same_or_not : (fact : NatFact) (x y : ℕ) (same possible : Bool) (r : Improvement) → gives fact ≡ None → (x ≢ y → CanHold fact) → (x ≡ y → possible ≡ true → CanHold fact) → (x ≡ y → possible ≡ false → CannotHold fact) → ((same ≡ true) × (x ≡ y)) ⊎ ((same ≡ false) × (x ≢ y)) → r ≡ (if same then (if possible then Nothing else Never) else Nothing) → IsAnswer fact r
same_or_not fact x y same possible r none two can cannot (inl is) e =
    decided_answer fact possible r none (can is.1) (cannot is.1) (e ∙ ap (λ b. if b then (if possible then Nothing else Never) else Nothing) is.0)
same_or_not fact x y same possible r none two can cannot (inr is) e =
    subst (IsAnswer fact) (sym (e ∙ ap (λ b. if b then (if possible then Nothing else Never) else Nothing) is.0)) (none, two is.1)

-- a fact with two open arguments, which may be the same
pub twice_answer : (fact : NatFact) (x y : ℕ) (possible : Bool) (r : Improvement) → gives fact ≡ None → (x ≢ y → CanHold fact) → (x ≡ y → possible ≡ true → CanHold fact) → (x ≡ y → possible ≡ false → CannotHold fact) → r ≡ (if x == y then (if possible then Nothing else Never) else Nothing) → IsAnswer fact r
twice_answer fact x y possible r none two can cannot e = same_or_not fact x y (x == y) possible r none two can cannot (eqb_tells x y) e

pub given_answer : (fact : NatFact) (v : ℕ) (number : Option ℕ) (r : Improvement) → gives fact ≡ Some v → MatchOption number (CannotHold fact) (λ n. CanHold fact × Forces fact v n) → MatchOption number (r ≡ Never) (λ n. r ≡ Know v n) → IsAnswer fact r
given_answer fact v None r some right e = subst (IsAnswer fact) (sym e) right
given_answer fact v (Some n) r some right e = subst (IsAnswer fact) (sym e) (some, right)

pub not_equal : (n m : ℕ) → (n == m) ≡ false → n ≡ m → ⊥
not_equal n m denied e = not_both (n == m) (eq-eqb n m e) denied

-- numbers for two arguments that differ
abbrev pub two : ℕ → ℕ → ℕ → ℕ → ℕ
two x a b w = if w == x then a else b

pub two-first : (x a b : ℕ) → two x a b x ≡ a
two-first x a b = ap (λ t. if t then a else b) (eq-eqb x x refl)

differ : (x y : ℕ) → x ≢ y → ((y == x) ≡ true × y ≡ x) ⊎ ((y == x) ≡ false × y ≢ x) → (y == x) ≡ false
differ x y apart (inl is) = absurd (apart (sym is.1))
differ x y apart (inr is) = is.0

pub two-second : (x y a b : ℕ) → x ≢ y → two x a b y ≡ b
two-second x y a b apart = ap (λ t. if t then a else b) (differ x y apart (eqb_tells y x))

either_fits : (t : Bool) (a b : ℕ) → a < 2 ^ 64 → b < 2 ^ 64 → (if t then a else b) < 2 ^ 64
either_fits true a b p q = p
either_fits false a b p q = q

pub two_fit : (x a b : ℕ) → a < 2 ^ 64 → b < 2 ^ 64 → InRange (two x a b)
two_fit x a b p q = λ w. either_fits (w == x) a b p q
