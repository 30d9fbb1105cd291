use Rattle.std.proofs.Common.{◌≡◌, ◌+◌, ◌≤◌, length}
use Rattle.std.specs.Str.Lines.{lines}
use Rattle.hb_script.specs.Scripts.{inputs_from}
use Rattle.hb_script.proofs.ReadingLemmas.{with_front}
use Rattle.hb_script.proofs.reading.inputs_of.Given as goal

abbrev pub invariant-loop-rest : goal.invariant-loop-rest
invariant-loop-rest l = record {
  read : with_front l.inputs.items (inputs_from l.ports l.number (lines l.rest)) ≡ inputs_from l.ports 1 (lines l.bytes);
  few : l.number + length l.rest ≤ length l.bytes + 1;
}

abbrev pub decreases-loop-rest : goal.decreases-loop-rest
decreases-loop-rest l = length l.rest
