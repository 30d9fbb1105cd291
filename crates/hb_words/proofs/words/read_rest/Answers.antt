use Rattle.std.proofs.Common.{ap, ◌∙◌}
use Rattle.hb_words.specs.Words.{joined, rest_of}
use Rattle.hb_words.specs.declared.words.Rest.{Rest}
use Rattle.hb_words.proofs.RestLaws.{joined_first}
use Rattle.hb_words.proofs.words.read_rest.Goals as goal

pub loop-word-init : goal.loop-word-init
loop-word-init c = ap (λ (r : Rest). joined r (rest_of c.args.words.now)) c.new-rest.ensures ∙ joined_first (rest_of c.args.words.now)
