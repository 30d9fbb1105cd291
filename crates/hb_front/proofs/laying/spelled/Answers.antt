use Rattle.std.proofs.Common.{rules}
use Rattle.hb_base.specs.Faults.{IfRefused}
use Rattle.hb_front.specs.Front.{LayingFault}
use Rattle.hb_front.proofs.FaultLaws.{text_fault}
use Rattle.hb_front.proofs.RefusalLaws.{this_is}
use Rattle.hb_front.proofs.OnceLaws.{spelled_by, spelled_once}
use Rattle.hb_front.proofs.laying.spelled.Goals as goal

pub returns-in_err-tokens-clause-faults : goal.returns-in_err-tokens-clause-faults
returns-in_err-tokens-clause-faults c =
    let first : IfRefused (LayingFault c.args.names.now c.args.bytes.now) c.in_err-tokens.field-0.0 =
    text_fault c.args.names.now c.args.bytes.now c.in_err-tokens.field-0.0 c.in_err-tokens.ensures.faults in
    search (rules, first)

pub returns-clause-only : goal.returns-clause-only
returns-clause-only c table ts other =
    spelled_once c.count.ensures.distinct (spelled_by c.in_ok-tokens.ensures.found c.in_ok-tokens.ensures.names) other

pub returns-in_err-tokens-clause-refused : goal.returns-in_err-tokens-clause-refused
returns-in_err-tokens-clause-refused c refusal first =
    let it = this_is refusal c.in_err-tokens.field-0.0 (c.in_err-tokens.ensures.refused refusal first) in
    search (rules, it)

pub returns-clause-refused : goal.returns-clause-refused
returns-clause-refused c refusal first = c.in_ok-tokens.ensures.refused refusal first
