use Rattle.std.proofs.Common.{sym, ◌∙◌, ap, subst}
use Rattle.hb_bitdata.specs.Layouts.{width_of, AreWide}
use Rattle.hb_bitdata.proofs.LayingSteps.{wide, none_is}
use Rattle.hb_bitdata.proofs.layout.BitLayout.of.Goals as goal

pub lay_cons-requires-clause-same : goal.lay_cons-requires-clause-same
lay_cons-requires-clause-same c =
    let fine = sym c.first_fault.ensures ∙ none_is c.first_fault.result c.in_default.not-Some in
    let width = ap width_of (sym c.as_slice.ensures) ∙ sym c.first_con_width-width.ensures in
    subst (AreWide c.first_con_width-width.result) (sym c.as_slice-2.ensures)
    (subst (λ w. AreWide w c.args.form.now.cons) width (wide c.args.form.now fine))
