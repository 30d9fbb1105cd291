use Rattle.std.proofs.Common.{◌≡◌, refl, ◌<◌, ◌^◌, rules}
use Rattle.hb_nat.specs.declared.fact.NatArg.TheVariants.{Known, Open}
use Rattle.hb_nat.specs.declared.fact.NatFact.TheVariants.{Power}
use Rattle.hb_nat.specs.Improving.{IsAnswer}
use Rattle.hb_nat.proofs.Answering.{at_two, closed_answer, given_answer}
use Rattle.hb_nat.proofs.Powers.{power_second, power_first, power_of_open}
use Rattle.hb_nat.proofs.improver.improve_power.Goals as goal

pub returns-in-Known-Known : goal.returns-in-Known-Known
returns-in-Known-Known c =
    let w = c.in-Known-Known in
    at_two (λ a b. IsAnswer (Power a b) c.decided.result) _ _ _ _ w.is-0 w.is-1
    (closed_answer (Power (Known w.n) (Known w.m)) (2 ^ w.n ≡ w.m) c.raises_to.result c.decided.result refl
    (λ numbers h. h) (λ numbers h. h) c.raises_to.ensures c.decided.ensures)

pub returns-in-Known-Open : goal.returns-in-Known-Open
returns-in-Known-Open c =
    let w = c.in-Known-Open in
    at_two (λ a b. IsAnswer (Power a b) c.given.result) _ _ _ _ w.is-0 w.is-1
    (given_answer (Power (Known w.n) (Open w.m)) w.m c.power.result c.given.result refl (power_second w.n w.m c.power.result c.power.ensures) c.given.ensures)

pub returns-in-Open-Known : goal.returns-in-Open-Known
returns-in-Open-Known c =
    let w = c.in-Open-Known in
    let fits : w.m < 2 ^ 64 = search rules in
    at_two (λ a b. IsAnswer (Power a b) c.given-in-Open-Known.result) _ _ _ _ w.is-0 w.is-1
    (given_answer (Power (Open w.n) (Known w.m)) w.n c.exponent.result c.given-in-Open-Known.result refl
    (power_first w.n w.m c.exponent.result fits c.exponent.ensures.some c.exponent.ensures.none) c.given-in-Open-Known.ensures)

pub returns-in-Open-Open : goal.returns-in-Open-Open
returns-in-Open-Open c =
    let w = c.in-Open-Open in
    at_two (λ a b. IsAnswer (Power a b) c.decided_twice.result) _ _ _ _ w.is-0 w.is-1
    (power_of_open w.n w.m c.decided_twice.result c.decided_twice.ensures)
