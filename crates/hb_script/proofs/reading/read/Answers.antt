use Rattle.std.proofs.Common.{List, Result, ℕ, subst}
use Rattle.hb_base.specs.declared.script.ScriptLine.{ScriptLine}
use Rattle.hb_script.specs.Scripts.{Gives}
use Rattle.hb_script.proofs.ScriptLemmas.{is_found, are_inputs, is_only, is_fault}
use Rattle.hb_script.proofs.reading.read.Goals as goal

pub returns-clause-found : goal.returns-clause-found
returns-clause-found c = is_found c.args.ports.now c.args.bytes.now c.inputs_of.result c.inputs_of.ensures

pub returns-clause-only : goal.returns-clause-only
returns-clause-only c = λ inputs spells. subst (λ (r : Result (List ScriptLine) ℕ). Gives c.inputs_of.result r) (is_only c.args.ports.now c.args.bytes.now inputs c.requires spells) c.inputs_of.ensures

pub returns-clause-faults : goal.returns-clause-faults
returns-clause-faults c = is_fault c.args.ports.now c.args.bytes.now c.inputs_of.result c.requires c.inputs_of.ensures

pub returns-clause-inputs : goal.returns-clause-inputs
returns-clause-inputs c = are_inputs c.args.ports.now c.args.bytes.now c.inputs_of.result c.inputs_of.ensures
