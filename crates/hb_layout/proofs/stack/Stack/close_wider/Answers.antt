use Rattle.std.proofs.Common.{◌≤◌, length, sym, ◌∙◌, arith}
use Rattle.hb_layout.specs.Stacks.{is_wider}
use Rattle.hb_layout.proofs.StackLaws.{closing_start, closing_more, closing_count, closing_falls, closing_number, closing_stack}
use Rattle.hb_layout.proofs.stack.Stack.close_wider.Goals as goal

pub loop-self-init : goal.loop-self-init
loop-self-init c = closing_start (is_wider c.args.column) c.args.self.now

pub overflow_add-count : goal.overflow_add-count
overflow_add-count c =
    let h : c.loop-self.count ≤ length c.args.self.now = closing_count (is_wider c.args.column) c.args.self.now c.loop-self.self c.loop-self.count c.loop-self.invariant in
    omega arith

pub loop-self-smaller : goal.loop-self-smaller
loop-self-smaller c = closing_falls (is_wider c.args.column) c.loop-self.self c.close.new.self (sym c.is_wider.ensures ∙ c.loop-self-test.true) c.close.ensures.close

pub loop-self-preserved : goal.loop-self-preserved
loop-self-preserved c = closing_more (is_wider c.args.column) c.args.self.now c.loop-self.self c.close.new.self c.loop-self.count c.loop-self.invariant (sym c.is_wider.ensures ∙ c.loop-self-test.true) c.close.ensures.close c.close.ensures.few

pub returns-clause-count : goal.returns-clause-count
returns-clause-count c = closing_number (is_wider c.args.column) c.args.self.now c.loop-self.self c.loop-self.count c.loop-self.invariant (sym c.is_wider.ensures ∙ c.loop-self-test.false)

pub returns-clause-stack : goal.returns-clause-stack
returns-clause-stack c = closing_stack (is_wider c.args.column) c.args.self.now c.loop-self.self c.loop-self.count c.loop-self.invariant (sym c.is_wider.ensures ∙ c.loop-self-test.false)
