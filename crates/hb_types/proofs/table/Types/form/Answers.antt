use Rattle.std.proofs.Common.{◌≡◌, ◌<◌, length, sym, ap, ◌∙◌, subst, arith}
use Rattle.std.proofs.lemmas.List.{get_or_read}
use Rattle.hb_types.specs.declared.table.Form.TheVariants as form
use Rattle.hb_types.specs.Tables.{built, form_at, HasPartsBelow}
use Rattle.hb_types.proofs.TableLemmas.{laid-length, types_of-at}
use Rattle.hb_types.proofs.table.Types.form.Goals as goal

pub index-requires : goal.index-requires
index-requires c =
    let same = laid-length c.self.inside.forms.items c.args.self.now c.self.view_is in
    omega (arith, same, c.requires)

pub returns-clause-is : goal.returns-clause-is
returns-clause-is c =
    let same = laid-length c.self.inside.forms.items c.args.self.now c.self.view_is in
    let inside : c.args.place < length c.self.inside.forms.items = omega (arith, same, c.requires) in
    let read : c.index.result.now ≡ form_at c.self.inside.forms.items c.args.place = get_or_read c.self.inside.forms.items _ _ inside c.index.ensures (form.Unknown 0) in
    rw (← c.self.view_is) (types_of-at c.self.inside.forms.items c.args.place c.self.invariant inside ∙ ap (built _) (sym read))

pub returns-clause-parts : goal.returns-clause-parts
returns-clause-parts c =
    let same = laid-length c.self.inside.forms.items c.args.self.now c.self.view_is in
    let inside : c.args.place < length c.self.inside.forms.items = omega (arith, same, c.requires) in
    let read : c.index.result.now ≡ form_at c.self.inside.forms.items c.args.place = get_or_read c.self.inside.forms.items _ _ inside c.index.ensures (form.Unknown 0) in
    subst (HasPartsBelow c.args.place) (sym read) (c.self.invariant.each c.args.place)
