use Rattle.std.proofs.Common.{ℕ, ap, ◌∙◌, subst, arith}
use Rattle.hb_types.specs.KindTables.{kinds_of, HasKindsBelow}
use Rattle.hb_types.proofs.KindLemmas.{kinds_laid-length, kinds_laid-push, kinds_of-push}
use Rattle.hb_types.proofs.kind_table.Kinds.push.Goals as goal

pub invariant_of-self-2 : goal.invariant_of-self-2
invariant_of-self-2 c =
    let same = kinds_laid-length c.self.inside.forms.items c.args.self.now c.self.view_is in
    rw c.in_ok-push.ensures.items
    (kinds_laid-push c.self.inside.forms.items c.args.form c.self.invariant (subst (λ (k : ℕ). HasKindsBelow k c.args.form) same c.requires))

pub returns-clause-place : goal.returns-clause-place
returns-clause-place c =
    let same = kinds_laid-length c.self.inside.forms.items c.args.self.now c.self.view_is in
    omega (arith, same, c.len-place.ensures)

pub returns-clause-ok : goal.returns-clause-ok
returns-clause-ok c = ap kinds_of c.in_ok-push.ensures.items ∙ kinds_of-push c.self.inside.forms.items c.args.form ∙ rw c.self.view_is
