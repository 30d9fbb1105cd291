use Rattle.hb_depth.proofs.Answered.{answered}
use Rattle.hb_depth.proofs.first.first_too_deep.Goals as goal

pub returns : goal.returns
returns c = record { found = λ p w h. answered p c.args.nodes.now c.in_ok-marks.marks c.in_ok-found.found c.in_ok-marks.ensures c.in_ok-found.ensures w h }
