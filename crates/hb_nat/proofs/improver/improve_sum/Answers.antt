use Rattle.std.proofs.Common.{◌≡◌, refl, ◌+◌, ◌<◌, ◌^◌, rules, lit<}
use Rattle.hb_nat.specs.declared.fact.NatArg.TheVariants.{Known, Open}
use Rattle.hb_nat.specs.declared.fact.NatFact.TheVariants.{Sum}
use Rattle.hb_nat.specs.declared.fact.Improvement.TheVariants.{Nothing}
use Rattle.hb_nat.specs.Improving.{IsAnswer}
use Rattle.hb_nat.proofs.Answering.{at_three, closed_answer, given_answer}
use Rattle.hb_nat.proofs.Sums.{sum_third, sum_second, sum_first, sum_behind, sum_before, sum_of_two}
use Rattle.hb_nat.proofs.improver.improve_sum.Goals as goal

pub returns-in-Known-Known-Known : goal.returns-in-Known-Known-Known
returns-in-Known-Known-Known c =
    let w = c.in-Known-Known-Known in
    at_three (λ a b d. IsAnswer (Sum a b d) c.decided.result) _ _ _ _ _ _ w.is-0 w.is-1 w.is-2
    (closed_answer (Sum (Known w.n) (Known w.m) (Known w.p)) (w.n + w.m ≡ w.p) c.adds_to.result c.decided.result refl
    (λ numbers h. h) (λ numbers h. h) c.adds_to.ensures c.decided.ensures)

pub returns-in-Known-Known-Open : goal.returns-in-Known-Known-Open
returns-in-Known-Known-Open c =
    let w = c.in-Known-Known-Open in
    at_three (λ a b d. IsAnswer (Sum a b d) c.given.result) _ _ _ _ _ _ w.is-0 w.is-1 w.is-2
    (given_answer (Sum (Known w.n) (Known w.m) (Open w.p)) w.p c.checked_add.result c.given.result refl
    (sum_third w.n w.m w.p c.checked_add.result c.checked_add.ensures) c.given.ensures)

pub returns-in-Known-Open-Known : goal.returns-in-Known-Open-Known
returns-in-Known-Open-Known c =
    let w = c.in-Known-Open-Known in
    let fits : w.p < 2 ^ 64 = search rules in
    at_three (λ a b d. IsAnswer (Sum a b d) c.given-in-Known-Open-Known.result) _ _ _ _ _ _ w.is-0 w.is-1 w.is-2
    (given_answer (Sum (Known w.n) (Open w.m) (Known w.p)) w.m c.checked_sub.result c.given-in-Known-Open-Known.result refl
    (sum_second w.n w.m w.p c.checked_sub.result fits c.checked_sub.ensures) c.given-in-Known-Open-Known.ensures)

pub returns-in-Open-Known-Known : goal.returns-in-Open-Known-Known
returns-in-Open-Known-Known c =
    let w = c.in-Open-Known-Known in
    let fits : w.p < 2 ^ 64 = search rules in
    at_three (λ a b d. IsAnswer (Sum a b d) c.given-in-Open-Known-Known.result) _ _ _ _ _ _ w.is-0 w.is-1 w.is-2
    (given_answer (Sum (Open w.n) (Known w.m) (Known w.p)) w.n c.checked_sub-in-Open-Known-Known.result c.given-in-Open-Known-Known.result refl
    (sum_first w.m w.n w.p c.checked_sub-in-Open-Known-Known.result fits c.checked_sub-in-Open-Known-Known.ensures) c.given-in-Open-Known-Known.ensures)

pub returns-in-Known-Open-Open : goal.returns-in-Known-Open-Open
returns-in-Known-Open-Open c =
    let w = c.in-Known-Open-Open in
    let fits : w.n < 2 ^ 64 = search rules in
    at_three (λ a b d. IsAnswer (Sum a b d) c.decided_twice.result) _ _ _ _ _ _ w.is-0 w.is-1 w.is-2
    (sum_behind w.n w.m w.p c.decided_twice.result fits c.decided_twice.ensures)

pub returns-in-Open-Known-Open : goal.returns-in-Open-Known-Open
returns-in-Open-Known-Open c =
    let w = c.in-Open-Known-Open in
    let fits : w.m < 2 ^ 64 = search rules in
    at_three (λ a b d. IsAnswer (Sum a b d) c.decided_twice-in-Open-Known-Open.result) _ _ _ _ _ _ w.is-0 w.is-1 w.is-2
    (sum_before w.m w.n w.p c.decided_twice-in-Open-Known-Open.result fits c.decided_twice-in-Open-Known-Open.ensures)

pub returns-in-Open-Open-Known : goal.returns-in-Open-Open-Known
returns-in-Open-Open-Known c =
    let w = c.in-Open-Open-Known in
    let fits : w.p < 2 ^ 64 = search rules in
    at_three (λ a b d. IsAnswer (Sum a b d) c.decided_twice-in-Open-Open-Known.result) _ _ _ _ _ _ w.is-0 w.is-1 w.is-2
    (sum_of_two w.n w.m w.p c.decided_twice-in-Open-Open-Known.result fits c.decided_twice-in-Open-Open-Known.ensures)

pub returns-in-Open-Open-Open : goal.returns-in-Open-Open-Open
returns-in-Open-Open-Open c =
    let w = c.in-Open-Open-Open in
    at_three (λ a b d. IsAnswer (Sum a b d) Nothing) _ _ _ _ _ _ w.is-0 w.is-1 w.is-2
    (refl, (λ v. 0, (λ v. lit< tt, refl)))
