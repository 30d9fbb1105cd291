use Rattle.std.proofs.Common.{rules}
use Rattle.hb_base.specs.Faults.{IfRefused}
use Rattle.hb_front.specs.Front.{FirstFault}
use Rattle.hb_front.proofs.FaultLaws.{laying_fault, grammar_fault}
use Rattle.hb_front.proofs.RefusalLaws.{IsIt, laying_refused, grammar_refused}
use Rattle.hb_front.proofs.OnceLaws.{parsed_is_laid, parsed_only, parsed_answer}
use Rattle.hb_front.proofs.reading.read_program.Goals as goal

pub returns-in_err-laid-clause-faults : goal.returns-in_err-laid-clause-faults
returns-in_err-laid-clause-faults c =
    let first : IfRefused (FirstFault c.args.names.now c.args.bytes.now) c.in_err-laid.field-0.0 =
    laying_fault c.args.names.now c.args.bytes.now c.in_err-laid.field-0.0 c.in_err-laid.ensures.faults in
    search (rules, first)

pub returns-in_err-laid-clause-only : goal.returns-in_err-laid-clause-only
returns-in_err-laid-clause-only c table p other =
    let memory = parsed_is_laid c.in_err-laid.ensures.only other in
    search (rules, memory)

pub returns-in_err-program-clause-faults : goal.returns-in_err-program-clause-faults
returns-in_err-program-clause-faults c =
    let first : IfRefused (FirstFault c.args.names.now c.args.bytes.now) c.in_err-program.field-0.0 =
    grammar_fault c.args.names.now c.args.bytes.now c.laid_tokens.new.names c.in_ok-laid.laid.list c.in_err-program.field-0.0 c.in_ok-laid.ensures.found c.in_err-program.ensures.faults in
    search (rules, first)

pub returns-in_err-program-clause-only : goal.returns-in_err-program-clause-only
returns-in_err-program-clause-only c table p other =
    let memory = parsed_only c.in_ok-laid.ensures.only c.in_err-program.ensures.only other in
    search (rules, memory)

pub returns-clause-only : goal.returns-clause-only
returns-clause-only c table p other =
    parsed_answer c.in_ok-laid.ensures.only c.in_ok-program.ensures.only other

pub returns-in_err-laid-clause-refused : goal.returns-in_err-laid-clause-refused
returns-in_err-laid-clause-refused c refusal first =
    let it = laying_refused c.in_err-laid.ensures.refused c.in_err-laid.ensures.only refusal first in
    search (rules, it)

pub returns-in_err-program-clause-refused : goal.returns-in_err-program-clause-refused
returns-in_err-program-clause-refused c refusal first =
    let it = grammar_refused (λ r. IsIt r c.in_err-program.field-0.0) c.in_ok-laid.ensures.refused c.in_ok-laid.ensures.only c.in_err-program.ensures.refused refusal first in
    search (rules, it)

pub returns-clause-refused : goal.returns-clause-refused
returns-clause-refused c refusal first =
    grammar_refused (λ r. ⊥) c.in_ok-laid.ensures.refused c.in_ok-laid.ensures.only c.in_ok-program.ensures.refused refusal first
