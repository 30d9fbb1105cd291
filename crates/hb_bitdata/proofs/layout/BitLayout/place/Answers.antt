use Rattle.std.proofs.Common.{◌+◌, ◌≤◌, ◌∙◌, sym, ap, subst}
use Rattle.std.specs.Prelude.{slice_get}
use Rattle.hb_bitdata.proofs.FieldSteps.{below_at, con_at}
use Rattle.hb_bitdata.proofs.layout.BitLayout.place.Goals as goal

pub returns-clause-within : goal.returns-clause-within
returns-clause-within c =
    let con = ap (λ l. slice_get l c.args.con) (sym c.as_slice.ensures) ∙ sym c.in-Some.ensures in
    let field = ap (λ l. slice_get l c.args.field) (sym c.as_slice-in-Some.ensures) ∙ sym c.in-Some-field_of.ensures in
    let width = con_at c.args.self.now.width c.args.con c.in-Some.con.now c.args.self.now.cons c.args.self.now.same_width con in
    subst (λ w. c.in-Some-field_of.place.at + c.in-Some-field_of.place.width ≤ w) width
    (below_at c.in-Some.con.now.cube.width c.args.field c.in-Some-field_of.place c.in-Some.con.now.fields c.in-Some.con.now.apart field)
