use Rattle.std.proofs.Common.{inl, inr}
use Rattle.hb_mach.proofs.RunningLaws.{ran_none, ran_more, ran_ends, ran_to_limit, ran_fails}
use Rattle.hb_mach.proofs.machine.Machine.run.Goals as goal

pub loop-step-init : goal.loop-step-init
loop-step-init g c = ran_none _ _ _

pub loop-step-preserved : goal.loop-step-preserved
loop-step-preserved g c = ran_more _ _ _ _ _ _ _ _ _ _ c.loop-step.invariant c.in-Goes.ensures

pub returns-in-Ends-clause-run : goal.returns-in-Ends-clause-run
returns-in-Ends-clause-run g c =
    inl (ran_to_limit _ _ _ _ _ _ _ _
    (ran_ends _ _ _ _ _ _ _ _ _ _ _ c.loop-step-test.true c.loop-step.invariant c.in-Ends.ensures)
    c.stop.ensures.value
    c.stop.ensures.own)

pub returns-in-Fails-clause-run : goal.returns-in-Fails-clause-run
returns-in-Fails-clause-run g c = inr (ran_fails _ _ _ _ _ _ _ _ _ _ _ c.loop-step-test.true c.loop-step.invariant c.in-Fails.ensures)
