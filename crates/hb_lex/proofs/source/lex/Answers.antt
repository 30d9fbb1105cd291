use Rattle.std.proofs.Common.{◌<◌, false, [], sym, subst, ◌∙◌, arith, rules}
use Rattle.hb_lex.specs.Bytes.{first_place}
use Rattle.hb_lex.specs.Tokens.{FirstFault}
use Rattle.hb_base.specs.Faults.{IfRefused}
use Rattle.hb_lex.specs.Steps.{Took}
use Rattle.hb_lex.proofs.TokensLaws.{took_none}
use Rattle.hb_lex.proofs.SourceLaws.{few_all, ends_all, end_at, not_refused, this_refusal, took_then, took_extends, extends_more, found_all, table_all, spelled_no_fault, fault_after, within_more}
use Rattle.hb_lex.proofs.source.lex.Goals as goal

pub returns-in_err-check_bytes-clause-only : goal.returns-in_err-check_bytes-clause-only
returns-in_err-check_bytes-clause-only c = not_refused c.args.bytes.now c.from_residual.result (search rules)

pub returns-in_err-check_bytes-clause-refused : goal.returns-in_err-check_bytes-clause-refused
returns-in_err-check_bytes-clause-refused c = this_refusal c.args.bytes.now c.from_residual.result (search rules) (search rules)

pub loop-done-init : goal.loop-done-init
loop-done-init c = let f = c.new.ensures.items in record { took = subst (λ us. Took c.args.names.now c.args.names.now [] us false false first_place first_place c.args.bytes.now c.args.bytes.now) (sym f) (took_none c.args.names.now [] false first_place c.args.bytes.now); within = omega arith; line = omega arith; col = omega arith; count = omega arith }

pub returns-in_err-done-clause-kept : goal.returns-in_err-done-clause-kept
returns-in_err-done-clause-kept c = extends_more _ _ _ (took_extends c.loop-done.invariant.took) c.take.ensures.kept

pub returns-in_err-done-clause-faults : goal.returns-in_err-done-clause-faults
returns-in_err-done-clause-faults c =
    let first : IfRefused (FirstFault c.args.bytes.now) c.in_err-done.field-0.0 =
    fault_after c.args.bytes.now c.after.result.now c.loop-done.done c.in_err-done.field-0.0 c.loop-done.invariant.took c.after.ensures c.in_ok-check_bytes.ensures.allowed c.in_err-done.ensures.fault in
    search (rules, first)

pub returns-in_err-done-clause-only : goal.returns-in_err-done-clause-only
returns-in_err-done-clause-only c =
    let first : IfRefused (FirstFault c.args.bytes.now) c.in_err-done.field-0.0 =
    fault_after c.args.bytes.now c.after.result.now c.loop-done.done c.in_err-done.field-0.0 c.loop-done.invariant.took c.after.ensures c.in_ok-check_bytes.ensures.allowed c.in_err-done.ensures.fault in
    not_refused c.args.bytes.now c.from_residual-in_err-done.result (search (rules, first))

pub returns-in_err-done-clause-refused : goal.returns-in_err-done-clause-refused
returns-in_err-done-clause-refused c =
    let first : IfRefused (FirstFault c.args.bytes.now) c.in_err-done.field-0.0 =
    fault_after c.args.bytes.now c.after.result.now c.loop-done.done c.in_err-done.field-0.0 c.loop-done.invariant.took c.after.ensures c.in_ok-check_bytes.ensures.allowed c.in_err-done.ensures.fault in
    this_refusal c.args.bytes.now c.from_residual-in_err-done.result (search (rules, first)) (search rules)

pub loop-done-preserved : goal.loop-done-preserved
loop-done-preserved c =
    let some : 0 < c.in_ok-done.field-0 = c.in_ok-done.ensures.size.0 in
    record {
      took = took_then c.args.bytes.now c.after.result.now c.loop-done.done c.in_ok-done.field-0 c.loop-done.invariant.took c.after.ensures c.in_ok-done.ensures.took;
      within = within_more c.args.bytes.now c.after.result.now c.loop-done.done c.in_ok-done.field-0 c.loop-done.invariant.within c.after.ensures c.in_ok-done.ensures.size.1;
      line = let before = c.loop-done.invariant.line in let now = c.in_ok-done.ensures.line in omega arith;
      col = let before = c.loop-done.invariant.col in let now = c.in_ok-done.ensures.col in omega arith;
      count = let before = c.loop-done.invariant.count in let now = c.in_ok-done.ensures.count in omega arith;
    }

pub returns-in-Ok-clause-found : goal.returns-in-Ok-clause-found
returns-in-Ok-clause-found c =
    found_all c.args.bytes.now c.loop-done.done c.of.result c.loop-done.invariant.took c.loop-done-test.false c.in_ok-check_bytes.ensures.allowed (c.of.ensures ∙ c.in-Ok.ensures.items)

pub returns-in-Ok-clause-names : goal.returns-in-Ok-clause-names
returns-in-Ok-clause-names c = table_all c.args.bytes.now c.loop-done.done c.loop-done.invariant.took c.loop-done-test.false c.in_ok-check_bytes.ensures.allowed

pub returns-in-Ok-clause-kept : goal.returns-in-Ok-clause-kept
returns-in-Ok-clause-kept c = took_extends c.loop-done.invariant.took

pub returns-in-Ok-clause-refused : goal.returns-in-Ok-clause-refused
returns-in-Ok-clause-refused c = spelled_no_fault c.args.bytes.now c.loop-done.done c.loop-done.invariant.took c.loop-done-test.false c.in_ok-check_bytes.ensures.allowed

pub returns-in-Err-clause-kept : goal.returns-in-Err-clause-kept
returns-in-Err-clause-kept c = took_extends c.loop-done.invariant.took

pub returns-in-Ok-clause-ends : goal.returns-in-Ok-clause-ends
returns-in-Ok-clause-ends c = ends_all c.of.result c.loop-done.invariant.took (c.of.ensures ∙ c.in-Ok.ensures.items)

pub returns-in-Ok-clause-end : goal.returns-in-Ok-clause-end
returns-in-Ok-clause-end c = end_at c.args.bytes.now c.loop-done.done c.of.result c.loop-done.invariant.took c.loop-done-test.false (c.of.ensures ∙ c.in-Ok.ensures.items)

pub returns-in-Ok-clause-few : goal.returns-in-Ok-clause-few
returns-in-Ok-clause-few c = few_all c.of.result c.loop-done.invariant.took (c.of.ensures ∙ c.in-Ok.ensures.items)
