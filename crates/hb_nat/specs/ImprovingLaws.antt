-- A fact has one right answer at most.
use Rattle.std.specs.Prelude.{◌≡◌, ℕ, Option, None, Some, unwrap_or, refl}
use Rattle.std.proofs.Common.{sym, ap, ◌∙◌}
use Rattle.hb_nat.specs.declared.fact.NatFact.{NatFact}
use Rattle.hb_nat.specs.declared.fact.Improvement.{Improvement}
use Rattle.hb_nat.specs.declared.fact.Improvement.TheVariants.{Nothing, Know, Never}
use Rattle.hb_nat.specs.Facts.{CanHold, CannotHold}
use Rattle.hb_nat.specs.Improving.{gives, IsAnswer}

not_both : {C : Type 0} (fact : NatFact) → CannotHold fact → CanHold fact → C
not_both fact cannot can = absurd (cannot can.0 can.1.0 can.1.1)

not_given : {C : Type 0} (o : Option ℕ) (v : ℕ) → o ≡ Some v → o ≡ None → C
not_given o v some none = cc

same_known : (v w n m : ℕ) → v ≡ w → n ≡ m → Know v n ≡ Know w m
same_known v w n m same number = cc

pub one_answer : (fact : NatFact) (a b : Improvement) → IsAnswer fact a → IsAnswer fact b → a ≡ b
one_answer fact Never Never first second = refl
one_answer fact Never (Know v n) first second = not_both fact first second.1.0
one_answer fact Never Nothing first second = not_both fact first second.1
one_answer fact (Know v n) Never first second = not_both fact second first.1.0
one_answer fact (Know v n) (Know w m) first second =
    let same : v ≡ w = ap (λ o. unwrap_or o v) (sym first.0 ∙ second.0) in
    let numbers = first.1.0.0 in
    let range = first.1.0.1.0 in
    let holds = first.1.0.1.1 in
    same_known v w n m same (sym (first.1.1 numbers range holds) ∙ ap numbers same ∙ second.1.1 numbers range holds)
one_answer fact (Know v n) Nothing first second = not_given (gives fact) v first.0 second.0
one_answer fact Nothing Never first second = not_both fact second first.1
one_answer fact Nothing (Know v n) first second = not_given (gives fact) v second.0 first.0
one_answer fact Nothing Nothing first second = refl
