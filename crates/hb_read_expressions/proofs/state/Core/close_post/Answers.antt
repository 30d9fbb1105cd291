use Rattle.std.proofs.Common.{rules, refl}
use Rattle.hb_read_expressions.specs.Asking.{put_some}
use Rattle.hb_read_expressions.specs.Ends.{settle}
use Rattle.hb_read_expressions.specs.States.{begun_of, end_post, first_of, run_at, end_run}
use Rattle.hb_read_expressions.proofs.Asked.{went_settled}
use Rattle.hb_read_expressions.proofs.state.Core.close_post.Goals as goal

pub returns : goal.returns
returns c =
    let s = c.args.self.now in
    let begun = begun_of c.args.spot in
    let nodes = end_run begun (end_post c.args.spot c.args.stands (put_some c.args.node s.nodes)) in
    let end = settle s.frames (first_of begun) (run_at begun c.args.stands) nodes in
    went_settled s.frames (first_of begun) (run_at begun c.args.stands) nodes c.args.sort s c.end_post.new.self _ c.close_operand.result end (search rules) refl (search rules)
