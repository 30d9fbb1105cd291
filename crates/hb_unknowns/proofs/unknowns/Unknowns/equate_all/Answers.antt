use Rattle.hb_unknowns.proofs.EquationLemmas.{equated-of, no-solution}
use Rattle.hb_unknowns.proofs.unknowns.Unknowns.equate_all.Goals as goal

pub returns-in-Ok-true-clause-ok : goal.returns-in-Ok-true-clause-ok
returns-in-Ok-true-clause-ok c =
    equated-of c.args.self.now c.self.inside.types c.self.inside.entries.items c.take_in.new.entries.items c.args.pairs.now c.in-Ok.pending.items c.self.view_is c.self.invariant.0
    c.in-Ok.ensures.items (rw c.in-Ok-true.field-0-test at c.in-Ok-true.ensures.end)

pub returns-in-Ok-false-clause-clash : goal.returns-in-Ok-false-clause-clash
returns-in-Ok-false-clause-clash c =
    no-solution c.args.self.now c.self.inside.types c.self.inside.entries.items c.args.pairs.now c.in-Ok.pending.items c.self.view_is c.in-Ok.ensures.items
    (rw c.in-Ok-false.field-0-test at c.in-Ok-false.ensures.end).1
