use Rattle.std.proofs.Common.{◌≡◌, length}
use Rattle.hb_words.specs.Words.{joined, rest_of}
use Rattle.hb_words.proofs.words.read_rest.Given as goal

-- what was said and what the words left say is what all words say
abbrev pub invariant-loop-word : goal.invariant-loop-word
invariant-loop-word l = joined l.rest (rest_of l.left) ≡ rest_of l.fn.words

abbrev pub decreases-loop-word : goal.decreases-loop-word
decreases-loop-word l = length l.left
