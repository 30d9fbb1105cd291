use Rattle.std.proofs.Common.{◌≡◌, ◌++◌, drop}
use Rattle.hb_read_declarations.specs.Nodes.{valued}
use Rattle.hb_read_program.proofs.leaf.put_values.Given as goal

abbrev pub invariant-loop-node : goal.invariant-loop-node
invariant-loop-node l = l.nodes ++ valued (drop l.node-index l.values) ≡ l.initial.nodes ++ valued l.values
