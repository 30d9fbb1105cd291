use Rattle.std.proofs.Common.{sym}
use Rattle.hb_second.specs.Moves.{run, start}
use Rattle.hb_second.specs.Items.{all_items}
use Rattle.hb_second.proofs.RunLaws.{decl_ok, decl_err, decl_end}
use Rattle.hb_second.proofs.reading.take_all.Goals as goal

pub returns-in-Some : goal.returns-in-Some
returns-in-Some c =
    sym (decl_err c.args.names.now c.args.declarations.now c.loop-declaration.declaration-index c.declaration-item.result _ c.loop-declaration.reader c.take_declaration.new.reader c.in_ok-wrong.wrong c.in-Some.place c.loop-declaration-test.true c.declaration-item.is c.loop-declaration.invariant c.in_ok-wrong.ensures c.in-Some.is)

pub loop-declaration-preserved : goal.loop-declaration-preserved
loop-declaration-preserved c =
    decl_ok c.args.names.now c.args.declarations.now c.loop-declaration.declaration-index c.declaration-item.result (run start (all_items c.args.names.now c.args.declarations.now)) c.loop-declaration.reader c.take_declaration.new.reader c.in_ok-wrong.wrong c.loop-declaration-test.true c.declaration-item.is c.loop-declaration.invariant c.in_ok-wrong.ensures c.in-None.is

pub returns : goal.returns
returns c =
    sym (decl_end c.args.names.now c.args.declarations.now c.loop-declaration.declaration-index _ c.loop-declaration.reader c.loop-declaration-test.false c.loop-declaration.invariant)
