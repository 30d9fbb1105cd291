use Rattle.std.proofs.Common.{◌≡◌, ℕ, true, take}
use Rattle.hb_unknowns.specs.Joined.{at}
use Rattle.hb_unknowns.specs.Order.{IsPart, Member}
use Rattle.hb_unknowns.specs.Referred.{flag_at, AreRaised}
use Rattle.hb_unknowns.proofs.referred.refer_all.Given as goal

abbrev pub invariant-loop-place : goal.invariant-loop-place
invariant-loop-place l = AreRaised l.initial.referred.items l.referred.items × ((k p : ℕ) → Member k (take l.place-index l.places) → IsPart p (at l.entries k) → flag_at l.referred.items p ≡ true)
