use Rattle.std.proofs.Common.{◌≡◌, ◌++◌, ◌≤◌, drop}
use Rattle.hb_second_code.specs.Lowering.{steps_of}
use Rattle.hb_second_code.proofs.lowering.steps_of.Given as goal

-- the steps found and those of what is left are all steps
abbrev pub invariant-loop-statement : goal.invariant-loop-statement
invariant-loop-statement l = record {
  found : l.steps ++ steps_of l.ports l.scratch l.bound (drop l.statement-index l.statements) ≡ steps_of l.ports l.scratch 0 l.statements;
  few : l.bound ≤ l.statement-index;
}
