use Rattle.std.proofs.Common.{rules}
use Rattle.hb_base.specs.Faults.{IfRefused}
use Rattle.hb_front.specs.Front.{LayingFault}
use Rattle.hb_front.proofs.FaultLaws.{layout_fault}
use Rattle.hb_front.proofs.RefusalLaws.{IsIt, text_refused, layout_refused}
use Rattle.hb_front.proofs.OnceLaws.{laid_is_spelled, laid_only, laid_answer}
use Rattle.hb_front.proofs.laying.laid_tokens.Goals as goal

pub returns-in_err-tokens-clause-only : goal.returns-in_err-tokens-clause-only
returns-in_err-tokens-clause-only c table ts other =
    let memory = laid_is_spelled c.in_err-tokens.ensures.only other in
    search (rules, memory)

pub returns-in_err-laid-clause-faults : goal.returns-in_err-laid-clause-faults
returns-in_err-laid-clause-faults c =
    let first : IfRefused (LayingFault c.args.names.now c.args.bytes.now) c.in_err-laid.field-0.0 =
    layout_fault c.args.names.now c.args.bytes.now c.spelled.new.names c.in_ok-tokens.tokens.list c.in_err-laid.field-0.0 c.in_ok-tokens.ensures.found c.in_err-laid.ensures.faults in
    search (rules, first)

pub returns-in_err-laid-clause-only : goal.returns-in_err-laid-clause-only
returns-in_err-laid-clause-only c table ts other =
    let memory = laid_only c.in_ok-tokens.ensures.only c.in_err-laid.ensures.only other in
    search (rules, memory)

pub returns-clause-only : goal.returns-clause-only
returns-clause-only c table ts other =
    laid_answer c.in_ok-tokens.ensures.only c.in_ok-laid.ensures.found other

pub returns-in_err-tokens-clause-refused : goal.returns-in_err-tokens-clause-refused
returns-in_err-tokens-clause-refused c refusal first =
    let it = text_refused c.in_err-tokens.ensures.refused c.in_err-tokens.ensures.only refusal first in
    search (rules, it)

pub returns-in_err-laid-clause-refused : goal.returns-in_err-laid-clause-refused
returns-in_err-laid-clause-refused c refusal first =
    let it = layout_refused (λ r. IsIt r c.in_err-laid.field-0.0) c.in_ok-tokens.ensures.refused c.in_ok-tokens.ensures.only c.in_err-laid.ensures.refused refusal first in
    search (rules, it)

pub returns-clause-refused : goal.returns-clause-refused
returns-clause-refused c refusal first =
    layout_refused (λ r. ⊥) c.in_ok-tokens.ensures.refused c.in_ok-tokens.ensures.only c.in_ok-laid.ensures.refused refusal first
