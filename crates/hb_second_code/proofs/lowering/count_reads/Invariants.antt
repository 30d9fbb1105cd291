use Rattle.std.proofs.Common.{◌≡◌, ◌+◌, ◌≤◌, drop}
use Rattle.hb_second_code.specs.Lowering.{reads}
use Rattle.hb_second_code.proofs.lowering.count_reads.Given as goal

-- the count and the reads of what is left are all reads
abbrev pub invariant-loop-statement : goal.invariant-loop-statement
invariant-loop-statement l = record {
  counted : l.count + reads (drop l.statement-index l.statements) ≡ reads l.statements;
  few : l.count ≤ l.statement-index;
}
