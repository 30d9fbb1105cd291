use Rattle.std.proofs.Common.{◌≡◌, ℕ, ◌+◌, ◌*◌, ◌<◌, length}
use Rattle.hb_types.specs.Finite.{Finite}
use Rattle.hb_unknowns.specs.Joined.{level_at}
use Rattle.hb_unknowns.specs.Graph.{Obeys}
use Rattle.hb_unknowns.proofs.graph.root.Given as goal

abbrev pub invariant-loop-next : goal.invariant-loop-next
invariant-loop-next l = (l.place < length l.entries) × ((v : ℕ → Finite) → Obeys v l.entries → v l.fn.from ≡ v l.place)

abbrev pub decreases-loop-next : goal.decreases-loop-next
decreases-loop-next l = level_at l.entries l.place * length l.entries + l.place
