use Rattle.std.proofs.Common.{◌≡◌, refl, ◌*◌, ◌<◌, ◌^◌, rules, lit<}
use Rattle.std.proofs.Math.Nat.{zero-mul, mul-zero}
use Rattle.hb_nat.specs.declared.fact.NatArg.TheVariants.{Known, Open}
use Rattle.hb_nat.specs.declared.fact.NatFact.TheVariants.{Product}
use Rattle.hb_nat.specs.declared.fact.Improvement.TheVariants.{Nothing}
use Rattle.hb_nat.specs.Improving.{IsAnswer}
use Rattle.hb_nat.proofs.Answering.{at_three, closed_answer, given_answer}
use Rattle.hb_nat.proofs.Products.{product_third, product_of_two}
use Rattle.hb_nat.proofs.improver.improve_product.Goals as goal

pub returns-in-Known-Known-Known : goal.returns-in-Known-Known-Known
returns-in-Known-Known-Known c =
    let w = c.in-Known-Known-Known in
    at_three (λ a b d. IsAnswer (Product a b d) c.decided.result) _ _ _ _ _ _ w.is-0 w.is-1 w.is-2
    (closed_answer (Product (Known w.n) (Known w.m) (Known w.p)) (w.n * w.m ≡ w.p) c.multiplies_to.result c.decided.result refl
    (λ numbers h. h) (λ numbers h. h) c.multiplies_to.ensures c.decided.ensures)

pub returns-in-Known-Known-Open : goal.returns-in-Known-Known-Open
returns-in-Known-Known-Open c =
    let w = c.in-Known-Known-Open in
    at_three (λ a b d. IsAnswer (Product a b d) c.given.result) _ _ _ _ _ _ w.is-0 w.is-1 w.is-2
    (given_answer (Product (Known w.n) (Known w.m) (Open w.p)) w.p c.checked_mul.result c.given.result refl
    (product_third w.n w.m w.p c.checked_mul.result c.checked_mul.ensures) c.given.ensures)

pub returns-in-Open-Open-Known : goal.returns-in-Open-Open-Known
returns-in-Open-Open-Known c =
    let w = c.in-Open-Open-Known in
    let fits : w.p < 2 ^ 64 = search rules in
    at_three (λ a b d. IsAnswer (Product a b d) c.decided_twice.result) _ _ _ _ _ _ w.is-0 w.is-1 w.is-2
    (product_of_two w.n w.m w.p c.is_square.result c.decided_twice.result fits c.is_square.ensures.yes c.is_square.ensures.no c.decided_twice.ensures)

pub returns-in-Known-Open-Open : goal.returns-in-Known-Open-Open
returns-in-Known-Open-Open c =
    let w = c.in-Known-Open-Open in
    at_three (λ a b d. IsAnswer (Product a b d) Nothing) _ _ _ _ _ _ w.is-0 w.is-1 w.is-2
    (refl, (λ v. 0, (λ v. lit< tt, mul-zero w.field-0-0)))

pub returns-in-Open-Known-Open : goal.returns-in-Open-Known-Open
returns-in-Open-Known-Open c =
    let w = c.in-Open-Known-Open in
    at_three (λ a b d. IsAnswer (Product a b d) Nothing) _ _ _ _ _ _ w.is-0 w.is-1 w.is-2
    (refl, (λ v. 0, (λ v. lit< tt, zero-mul w.field-0-1)))

pub returns-in-Open-Open-Open : goal.returns-in-Open-Open-Open
returns-in-Open-Open-Open c =
    let w = c.in-Open-Open-Open in
    at_three (λ a b d. IsAnswer (Product a b d) Nothing) _ _ _ _ _ _ w.is-0 w.is-1 w.is-2
    (refl, (λ v. 0, (λ v. lit< tt, refl)))
