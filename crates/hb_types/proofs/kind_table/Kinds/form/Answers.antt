use Rattle.std.proofs.Common.{◌≡◌, ◌<◌, length, sym, ap, ◌∙◌, subst, arith}
use Rattle.std.proofs.lemmas.List.{get_or_read}
use Rattle.hb_types.specs.declared.kind_table.KindForm.TheVariants as form
use Rattle.hb_types.specs.KindTables.{kind_built, kind_form_at, HasKindsBelow}
use Rattle.hb_types.proofs.KindLemmas.{kinds_laid-length, kinds_of-at}
use Rattle.hb_types.proofs.kind_table.Kinds.form.Goals as goal

pub index-requires : goal.index-requires
index-requires c =
    let same = kinds_laid-length c.self.inside.forms.items c.args.self.now c.self.view_is in
    omega (arith, same, c.requires)

pub returns-clause-is : goal.returns-clause-is
returns-clause-is c =
    let same = kinds_laid-length c.self.inside.forms.items c.args.self.now c.self.view_is in
    let inside : c.args.place < length c.self.inside.forms.items = omega (arith, same, c.requires) in
    let read : c.index.result.now ≡ kind_form_at c.self.inside.forms.items c.args.place = get_or_read c.self.inside.forms.items _ _ inside c.index.ensures form.Star in
    rw (← c.self.view_is) (kinds_of-at c.self.inside.forms.items c.args.place c.self.invariant inside ∙ ap (kind_built _) (sym read))

pub returns-clause-parts : goal.returns-clause-parts
returns-clause-parts c =
    let same = kinds_laid-length c.self.inside.forms.items c.args.self.now c.self.view_is in
    let inside : c.args.place < length c.self.inside.forms.items = omega (arith, same, c.requires) in
    let read : c.index.result.now ≡ kind_form_at c.self.inside.forms.items c.args.place = get_or_read c.self.inside.forms.items _ _ inside c.index.ensures form.Star in
    subst (HasKindsBelow c.args.place) (sym read) (c.self.invariant.each c.args.place)
