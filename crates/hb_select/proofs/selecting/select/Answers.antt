-- The loop has put the parts of each step; what they do follows from which they are.
use Rattle.std.proofs.Common.{List, get_or, ◌∙◌, arith, ap}
use Rattle.hb_flat.specs.declared.form.FlatBlock.{FlatBlock}
use Rattle.hb_select.proofs.PartsLaws.{all_parts, parts_range}
use Rattle.hb_select.proofs.Selects.{keeps, accesses}
use Rattle.hb_select.proofs.selecting.select.Goals as goal

pub returns-clause-parts : goal.returns-clause-parts
returns-clause-parts c =
    let block = c.index-as_slice-flat.result in
    let valid = c.requires.1 in
    all_parts _ c.loop-step.step-index c.args.flat.now.blocks c.args.flat.now.entry block c.loop-step.parts c.push_tail.new.parts
    c.as_slice-step-items.ensures (c.loop-step-test.false) c.loop-step.invariant c.in_ok-push_tail.ensures
    (omega (arith, valid.single, valid.entry))
    (c.index-as_slice-flat.is ∙ ap (λ (blocks : List FlatBlock). get_or blocks c.args.flat.now.entry block) c.as_slice.ensures)

pub returns-clause-range : goal.returns-clause-range
returns-clause-range c = parts_range c.args.flat.now c.push_tail.new.parts (returns-clause-parts c)

pub returns-clause-law : goal.returns-clause-law
returns-clause-law c = keeps c.args.flat.now (record { parts = c.push_tail.new.parts; entry = c.args.flat.now.entry }) (returns-clause-parts c)

pub returns-clause-accesses : goal.returns-clause-accesses
returns-clause-accesses c = accesses c.args.flat.now (record { parts = c.push_tail.new.parts; entry = c.args.flat.now.entry }) (returns-clause-parts c)
