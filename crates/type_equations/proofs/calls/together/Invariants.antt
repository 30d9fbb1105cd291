use Rattle.std.proofs.Common.{◌≡◌, ◌<◌, length}
use Rattle.hb_unknowns.specs.Graph.{AreWithin}
use Rattle.hb_unknowns.specs.Equations.{type_count}
use Rattle.type_equations.proofs.calls.together.Given as goal

abbrev pub invariant-loop-number : goal.invariant-loop-number
invariant-loop-number l = (l.argument < type_count l.all) × AreWithin (type_count l.all) l.equations.items × (length l.equations.items ≡ l._number)
