use Rattle.std.proofs.Common.{refl}
use Rattle.std.proofs.lemmas.List.{take_all}
use Rattle.hb_base.proofs.refusal.refused.Goals as goal

-- a text of at most 200 bytes is kept whole
pub returns-in-Ok-clause-whole : goal.returns-in-Ok-clause-whole
returns-in-Ok-clause-whole c short = rw (c.in-Ok.ensures.first, take_all 200 c.args.detail.now short) refl
