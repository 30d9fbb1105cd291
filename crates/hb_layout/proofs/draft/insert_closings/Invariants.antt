use Rattle.std.proofs.Common.{◌≡◌, ◌++◌}
use Rattle.hb_layout.specs.Rules.{closings}
use Rattle.hb_layout.specs.Laid.{inserted}
use Rattle.hb_layout.proofs.draft.insert_closings.Given as goal

abbrev pub invariant-loop : goal.invariant-loop
invariant-loop l = l.given ≡ l.fn.given ++ inserted l.place (closings l.counter)
