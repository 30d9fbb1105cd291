use Rattle.std.proofs.Common.{rules, subst, ℕ, List}
use Rattle.hb_base.specs.declared.refusal.Fault.TheVariants as fault
use Rattle.hb_base.specs.Faults.{IfRefused}
use Rattle.hb_front.specs.Front.{SpellsProgram, FirstFault}
use Rattle.hb_top.proofs.SourceLaws.{form_judged, fault_judged}
use Rattle.hb_top.proofs.judging.short_source.Goals as goal

pub returns-in-Ok : goal.returns-in-Ok
returns-in-Ok c =
    form_judged c.args.bytes.now c.read_program.new.names c.in-Ok.program c.form_of.result c.requires.short
    (rw c.requires.fixed at c.in-Ok.ensures.found)
    (rw c.requires.fixed at c.in-Ok.ensures.only)
    (rw c.text_end.ensures at c.form_of.ensures)

pub returns-in-Err : goal.returns-in-Err
returns-in-Err c =
    rw c.failed.ensures (fault_judged c.args.bytes.now c.in-Err.fault c.requires.short
    (rw c.requires.fixed at c.in-Err.ensures.faults)
    (rw c.requires.fixed at c.in-Err.ensures.only))
