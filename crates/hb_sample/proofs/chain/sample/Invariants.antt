use Rattle.std.proofs.Common.{◌≡◌, ◌++◌}
use Rattle.hb_sample.specs.Samples.{first_lines, functions}
use Rattle.hb_sample.proofs.chain.sample.Given as goal

-- the functions so far are written
abbrev pub invariant-loop-before : goal.invariant-loop-before
invariant-loop-before l = l.text.items ≡ first_lines ++ functions l.before
