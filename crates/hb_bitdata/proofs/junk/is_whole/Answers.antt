use Rattle.std.proofs.Common.{eqb-true}
use Rattle.hb_bitdata.proofs.JunkSteps.{in_whole}
use Rattle.hb_bitdata.proofs.junk.is_whole.Goals as goal

pub returns : goal.returns
returns c = λ whole. in_whole c.args.cube.now (eqb-true _ _ whole)
