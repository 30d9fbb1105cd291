use Rattle.std.proofs.Common.{◌∙◌, ap}
use Rattle.std.proofs.lemmas.List.{at_drop_all}
use Rattle.hb_layout.specs.Laid.{given}
use Rattle.hb_layout.specs.Drafts.{lays}
use Rattle.hb_layout.proofs.GivenLaws.{lays_nothing}
use Rattle.hb_layout.proofs.layout.lay_out.Goals as goal

pub returns-in-Some : goal.returns-in-Some
returns-in-Some c = (
  c.loop-token.progress.draft.given,
  c.loop-token.invariant.laid ∙ (at_drop_all (lays c.loop-token.progress) c.args.tokens.now c.loop-token.token-index c.loop-token-test.false ∙ (lays_nothing c.loop-token.progress ∙ ap (given c.loop-token.progress.draft.given) c.in-Some.is)),
)

pub returns-in-None : goal.returns-in-None
returns-in-None c =
    c.loop-token.invariant.laid ∙ (at_drop_all (lays c.loop-token.progress) c.args.tokens.now c.loop-token.token-index c.loop-token-test.false ∙ (lays_nothing c.loop-token.progress ∙ ap (given c.loop-token.progress.draft.given) c.in-None.is))
