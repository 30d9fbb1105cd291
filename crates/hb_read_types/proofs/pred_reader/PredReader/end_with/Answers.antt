use Rattle.hb_read_types.proofs.PredEnds.{ends_with}
use Rattle.hb_read_types.proofs.pred_reader.PredReader.end_with.Goals as goal

pub returns : goal.returns
returns c = ends_with c.args.self.now c.args.self.now.types c.start_again.new.self c.put.new.self c.args.whole c.is_done.result c.is_done.ensures c.if-not-is_done.false c.in_ok-start_again.ensures c.in_ok-put.ensures
