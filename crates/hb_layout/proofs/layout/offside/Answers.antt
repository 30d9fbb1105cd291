use Rattle.std.proofs.Common.{◌∙◌, ap, sym, None, codes, arith}
use Rattle.hb_base.specs.declared.refusal.Code.TheVariants.{E03, E05, E29}
use Rattle.hb_layout.specs.Laid.{FirstFault, left_out, no_rule, too_deep, laid_out}
use Rattle.hb_layout.specs.Profile.{first_left_out}
use Rattle.hb_layout.proofs.GivenLaws.{few, ends, if_refused}
use Rattle.hb_layout.proofs.layout.offside.Goals as goal

pub returns-in-Some-clause-faults : goal.returns-in-Some-clause-faults
returns-in-Some-clause-faults c =
    let place = c.in-Some.found.place in
    let text = c.in-Some.found.text.now in
    if_refused (FirstFault c.args.tokens.now.list) (record { code = E05; place = place; detail = text }) c.refused.result (c.refused.ensures.whole c.in-Some.ensures.short)
    (left_out place text (ap first_left_out (sym c.as_slice-all.ensures) ∙ c.in-Some.ensures.first))

pub returns-in-Ok-Given-clause-few : goal.returns-in-Ok-Given-clause-few
returns-in-Ok-Given-clause-few c =
    few c.args.tokens.now.list c.in-Ok-Given.list None (ap laid_out (sym c.as_slice-all.ensures) ∙ (rw c.in-Ok-Given.field-0-is at c.in-Ok-Given.ensures))

pub returns-in-Ok-Given-clause-ends : goal.returns-in-Ok-Given-clause-ends
returns-in-Ok-Given-clause-ends c =
    ends c.args.tokens.now.list c.in-Ok-Given.list None (ap laid_out (sym c.as_slice-all.ensures) ∙ (rw c.in-Ok-Given.field-0-is at c.in-Ok-Given.ensures)) c.requires.end

pub returns-in-Ok-Deep-clause-faults : goal.returns-in-Ok-Deep-clause-faults
returns-in-Ok-Deep-clause-faults c =
    let place = c.in-Ok-Deep.place in
    let deep = rw c.in-Ok-Deep.field-0-is at c.in-Ok-Deep.ensures in
    if_refused (FirstFault c.args.tokens.now.list) (record { code = E29; place = place; detail = codes "brackets" }) c.refused-in-Ok-Deep.result (c.refused-in-Ok-Deep.ensures.whole (omega arith))
    (too_deep place deep.0 (ap first_left_out (sym c.as_slice-all.ensures) ∙ c.in_default.ensures.first) (ap laid_out (sym c.as_slice-all.ensures) ∙ deep.1))

pub returns-in-Ok-Unclosed-clause-faults : goal.returns-in-Ok-Unclosed-clause-faults
returns-in-Ok-Unclosed-clause-faults c =
    let place = c.in-Ok-Unclosed.place in
    if_refused (FirstFault c.args.tokens.now.list) (record { code = E03; place = place; detail = codes "-" }) c.refused-in-Ok-Unclosed.result (c.refused-in-Ok-Unclosed.ensures.whole (omega arith))
    (no_rule place (ap first_left_out (sym c.as_slice-all.ensures) ∙ c.in_default.ensures.first) (ap laid_out (sym c.as_slice-all.ensures) ∙ (rw c.in-Ok-Unclosed.field-0-is at c.in-Ok-Unclosed.ensures)))
