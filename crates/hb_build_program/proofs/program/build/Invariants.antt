use Rattle.std.proofs.Common.{◌≡◌, Some, length}
use Rattle.hb_build.specs.Building.{built}
use Rattle.hb_build_program.specs.States.{start}
use Rattle.hb_build_program.specs.DeclarationSteps.{stepped}
use Rattle.hb_build_program.proofs.program.build.Given as goal

-- the nodes that are left lead on to what all of them build
abbrev pub invariant-loop-node : goal.invariant-loop-node
invariant-loop-node l = built stepped (Some l.builder) l.left ≡ built stepped (Some start) l.nodes

abbrev pub decreases-loop-node : goal.decreases-loop-node
decreases-loop-node l = length l.left
