use Rattle.std.proofs.Common.{◌∙◌, [], refl}
use Rattle.std.proofs.lemmas.List.{at_drop_all}
use Rattle.hb_layout.specs.Profile.{left_out_after}
use Rattle.hb_layout.proofs.ProfileLaws.{left_out_from_start, found_at, not_at, not_in_nothing}
use Rattle.hb_layout.proofs.profile.first_left_out.Goals as goal

pub loop-token-init : goal.loop-token-init
loop-token-init c = left_out_from_start c.args.tokens.now

pub returns-in-Some-clause-first : goal.returns-in-Some-clause-first
returns-in-Some-clause-first c = c.loop-token.invariant ∙ found_at c.loop-token.before c.args.tokens.now c.loop-token.token-index _ c.in-Some.text.now c.loop-token-test.true c.in-Some.ensures.text

pub loop-token-preserved : goal.loop-token-preserved
loop-token-preserved c = c.loop-token.invariant ∙ not_at c.loop-token.before c.args.tokens.now c.loop-token.token-index _ c.loop-token-test.true c.in_default.ensures.text

pub returns-clause-first : goal.returns-clause-first
returns-clause-first c = c.loop-token.invariant ∙ (at_drop_all (left_out_after c.loop-token.before) c.args.tokens.now c.loop-token.token-index c.loop-token-test.false ∙ not_in_nothing c.loop-token.before [] refl)
