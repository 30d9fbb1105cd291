use Rattle.std.proofs.Common.{◌≡◌, drop}
use Rattle.hb_layout.specs.Profile.{first_left_out, left_out_after}
use Rattle.hb_layout.proofs.profile.first_left_out.Given as goal

-- nothing is left out so far
abbrev pub invariant-loop-token : goal.invariant-loop-token
invariant-loop-token l = first_left_out l.tokens ≡ left_out_after l.before (drop l.token-index l.tokens)
