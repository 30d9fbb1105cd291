use Rattle.std.proofs.Common.{◌≡◌, ◌++◌, take}
use Rattle.hb_words.proofs.words.Rest.add_names.Given as goal

-- the words passed are names now
abbrev pub invariant-loop-word : goal.invariant-loop-word
invariant-loop-word l = record {
  names : l.self.names ≡ l.fn.self.names ++ take l.word-index l.words;
  steps : l.self.steps ≡ l.fn.self.steps;
}
