use Rattle.std.proofs.Common.{◌≡◌, ◌*◌, ◌≤◌, length, drop}
use Rattle.hb_layout.specs.Laid.{laid_out}
use Rattle.hb_layout.specs.Drafts.{lays}
use Rattle.hb_layout.proofs.layout.lay_out.Given as goal

-- what is laid out so far, with what is to come, is what all the tokens are laid out as
abbrev pub invariant-loop-token : goal.invariant-loop-token
invariant-loop-token l = record {
  laid : laid_out l.tokens ≡ lays l.progress (drop l.token-index l.tokens);
  few : length l.progress.draft.stack ≤ 2 * l.token-index;
}
