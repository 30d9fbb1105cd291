use Rattle.std.proofs.Common.{◌≡◌, ◌++◌, drop}
use Rattle.hb_read_declarations.specs.Nodes.{typed}
use Rattle.hb_read_program.proofs.leaf.put_types.Given as goal

abbrev pub invariant-loop-node : goal.invariant-loop-node
invariant-loop-node l = l.nodes ++ typed (drop l.node-index l.types) ≡ l.initial.nodes ++ typed l.types
