use Rattle.std.proofs.Common.{refl, ℕ, ◌<◌, ◌≤◌, ◌^◌, rules, arith, lit<}
use Rattle.std.proofs.lemmas.Bool.{leb-true, le-leb}
use Rattle.hb_nat.specs.declared.fact.NatArg.TheVariants.{Known, Open}
use Rattle.hb_nat.specs.declared.fact.NatFact.TheVariants.{AtMost}
use Rattle.hb_nat.specs.declared.fact.Improvement.TheVariants.{Nothing}
use Rattle.hb_nat.specs.Facts.{value}
use Rattle.hb_nat.specs.Improving.{IsAnswer}
use Rattle.hb_nat.proofs.Answering.{at_two, closed_answer}
use Rattle.hb_nat.proofs.improver.improve_at_most.Goals as goal

pub returns-in-Known-Known : goal.returns-in-Known-Known
returns-in-Known-Known c =
    let w = c.in-Known-Known in
    at_two (λ a b. IsAnswer (AtMost a b) c.decided.result) _ _ _ _ w.is-0 w.is-1
    (closed_answer (AtMost (Known w.n) (Known w.m)) (w.n ≤ w.m) _ c.decided.result refl (λ numbers h. h) (λ numbers h. h) (leb-true w.n w.m, le-leb w.n w.m) c.decided.ensures)

reflexive : (n : ℕ) → n ≤ n
reflexive n = omega arith

pub returns-in-Known-Open : goal.returns-in-Known-Open
returns-in-Known-Open c =
    let w = c.in-Known-Open in
    let fits : w.field-0-0 < 2 ^ 64 = search rules in
    at_two (λ a b. IsAnswer (AtMost a b) Nothing) _ _ _ _ w.is-0 w.is-1 (refl, (λ v. w.field-0-0, (λ v. fits, reflexive w.field-0-0)))

least : (n : ℕ) → 0 ≤ n
least n = omega arith

pub returns-in-Open-default : goal.returns-in-Open-default
returns-in-Open-default c =
    at_two (λ a b. IsAnswer (AtMost a b) Nothing) c.args.n c.args.m (Open c.in-Open-default.field-0-0) c.args.m c.in-Open-default.is-0 refl (refl, (λ v. 0, (λ v. lit< tt, least (value (λ v. 0) c.args.m))))
