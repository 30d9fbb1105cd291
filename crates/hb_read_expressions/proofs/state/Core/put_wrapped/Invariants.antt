use Rattle.std.proofs.Common.{◌≡◌, ◌++◌, drop}
use Rattle.hb_read_expressions.specs.Nodes.{wrapped}
use Rattle.hb_read_expressions.proofs.state.Core.put_wrapped.Given as goal

abbrev pub invariant-loop-node : goal.invariant-loop-node
invariant-loop-node l =
    (l.self.frames ≡ l.initial.self.frames) × (l.self.last ≡ l.initial.self.last) × (l.self.nodes ++ wrapped (drop l.node-index l.read) ≡ l.initial.self.nodes ++ wrapped l.read)
