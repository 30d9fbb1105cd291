use Rattle.std.proofs.Common.{◌≡◌, ◌<◌, length, slice_index, rules, sym}
use Rattle.std.proofs.lemmas.List.{get_or_read}
use Rattle.hb_base.specs.declared.script.ScriptLine.{ScriptLine}
use Rattle.hb_mach.proofs.WaitingLaws.{takes_read}
use Rattle.hb_mach.proofs.inputs.Inputs.take.Goals as goal

pub returns-in-Some-clause-value : goal.returns-in-Some-clause-value
returns-in-Some-clause-value c =
    let within : c.args.port < length c.self.inside.cursors.items = search rules in
    let from : c.index-from.result.now ≡ slice_index c.self.inside.cursors.items c.args.port = get_or_read _ c.args.port _ within c.index-from.ensures 0 in
    let line : ScriptLine = record { port = 0; value = 0 } in
    let t = takes_read c.args.port c.self.inside.cursors.items c.as_slice-lines.result.now _ c.in-Some.place line within from c.in-Some.ensures in
    rw (← c.self.view_is, ← c.as_slice-lines.ensures) (sym t.first)

pub returns-in-Some-clause-rest : goal.returns-in-Some-clause-rest
returns-in-Some-clause-rest c =
    let within : c.args.port < length c.self.inside.cursors.items = search rules in
    let from : c.index-from.result.now ≡ slice_index c.self.inside.cursors.items c.args.port = get_or_read _ c.args.port _ within c.index-from.ensures 0 in
    let line : ScriptLine = record { port = 0; value = 0 } in
    let t = takes_read c.args.port c.self.inside.cursors.items c.as_slice-lines.result.now _ c.in-Some.place line within from c.in-Some.ensures in
    rw (← c.self.view_is, ← c.as_slice-lines.ensures) t.rest
