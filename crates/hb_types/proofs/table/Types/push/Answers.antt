use Rattle.std.proofs.Common.{ℕ, ap, ◌∙◌, subst, arith}
use Rattle.hb_types.specs.Tables.{types_of, HasPartsBelow}
use Rattle.hb_types.proofs.TableLemmas.{laid-length, laid-push, types_of-push}
use Rattle.hb_types.proofs.table.Types.push.Goals as goal

pub invariant_of-self-2 : goal.invariant_of-self-2
invariant_of-self-2 c =
    let same = laid-length c.self.inside.forms.items c.args.self.now c.self.view_is in
    rw c.in_ok-push.ensures.items
    (laid-push c.self.inside.forms.items c.args.form c.self.invariant (subst (λ (k : ℕ). HasPartsBelow k c.args.form) same c.requires))

pub returns-clause-place : goal.returns-clause-place
returns-clause-place c =
    let same = laid-length c.self.inside.forms.items c.args.self.now c.self.view_is in
    omega (arith, same, c.len-place.ensures)

pub returns-clause-ok : goal.returns-clause-ok
returns-clause-ok c = ap types_of c.in_ok-push.ensures.items ∙ types_of-push c.self.inside.forms.items c.args.form ∙ rw c.self.view_is
