-- What shows the same as a second, which shows the same as a third, shows the same as the third.
use Rattle.std.proofs.Common.{ℕ, ◌∙◌}
use Rattle.hb_runs.specs.Outcome.{Outcome, SameRuns}

pub through : {E S : Type 0} (first second third : ℕ → Outcome E S) → SameRuns first second → SameRuns second third → SameRuns first third
through first second third upper lower = record {
  each_source_count = λ n.
      let above = upper.each_source_count n in
      let below = lower.each_source_count above.0 in
      (below.0, below.1 ∙ above.1);
  each_target_count = λ m.
      let below = lower.each_target_count m in
      let above = upper.each_target_count below.0 in
      (above.0, below.1 ∙ above.1);
}
