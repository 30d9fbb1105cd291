use Rattle.std.proofs.Common.{◌≡◌, drop}
use Rattle.hb_command.specs.Rests.{begun, rest_after}
use Rattle.hb_command.proofs.rest.rest_of.Given as goal

-- the words that are left lead on to what all words say
abbrev pub invariant-loop-word : goal.invariant-loop-word
invariant-loop-word l = rest_after l.rest (drop l.word-index l.words) ≡ rest_after begun l.words
