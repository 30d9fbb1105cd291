use Rattle.std.proofs.Common.{rules}
use Rattle.hb_read_expressions.specs.Ends.{ended}
use Rattle.hb_read_expressions.specs.States.{first_of, run_at, end_run}
use Rattle.hb_read_expressions.proofs.Asked.{went_settled}
use Rattle.hb_read_expressions.proofs.state.Core.close_operand.Goals as goal

pub returns : goal.returns
returns c =
    let s = c.args.self.now in
    let end = c.in_ok-whole.whole in
    went_settled s.frames (first_of c.args.begun) (run_at c.args.begun c.args.stands) (end_run c.args.begun s.nodes) c.args.sort s c.settle.new.self _ c.close_top.result (ended c.settle.new.self.frames end.first end.stands c.settle.new.self.nodes) (search rules) (search rules) c.close_top.ensures
