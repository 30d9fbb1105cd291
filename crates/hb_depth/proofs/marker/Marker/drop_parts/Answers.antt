use Rattle.std.proofs.Common.{◌∙◌, arith}
use Rattle.hb_depth.proofs.Dropping.{none_at}
use Rattle.hb_depth.proofs.marker.Marker.drop_parts.Goals as goal

pub returns-clause-chains : goal.returns-clause-chains
returns-clause-chains c = none_at c.loop-left.left c.loop-left.self.chains (omega (arith, c.loop-left-test.false)) ∙ c.loop-left.invariant.0
