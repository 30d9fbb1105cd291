-- The law of a pass: each count of the one form has a count of the other that shows the same, both ways, and what the
-- lower form costs is bounded by what the upper one does.
use Rattle.std.specs.Prelude.{◌≡◌, ℕ, suc, ◌≤◌, None}
use Rattle.hb_runs.specs.Outcome.{Outcome}
use Rattle.hb_runs.specs.System.{Finished, Turn, System, told, weighed}

-- the course of a run, by counts: what so many of them show, and what they cost
pub record Course (E S : Type 0) : Type 0 where
  pub shows : ℕ → Outcome E S
  pub costs : ℕ → ℕ

-- a system from a state on
abbrev pub course_of : {T E S : Type 0} → System T E S → T → Course E (Finished S)
course_of system t = record { shows = λ n. told system.turn n t; costs = λ n. weighed system n t }

-- after so many counts of the upper run the lower one shows the same after some turns, which cost no more than the
-- counts do
pub record Within {E S : Type 0} (upper lower : Course E S) (count : ℕ) : Type 0 where
  pub turns : ℕ
  pub same : lower.shows turns ≡ upper.shows count
  pub bounded : lower.costs turns ≤ upper.costs count

-- after so many turns of the lower run the upper one shows the same after a count such that, while the run is going,
-- these turns and the next one cost no more than the counts done and the next one do
pub record Paid {E S : Type 0} (upper lower : Course E S) (turns : ℕ) : Type 0 where
  pub count : ℕ
  pub same : upper.shows count ≡ lower.shows turns
  pub bounded : (lower.shows turns).end ≡ None → lower.costs (suc turns) ≤ upper.costs (suc count)

pub record Law {E S : Type 0} (upper lower : Course E S) : Type 0 where
  pub each_count : (count : ℕ) → Within upper lower count
  pub each_turn : (turns : ℕ) → Paid upper lower turns

-- ---- half of it

-- the lower run shows what so many counts show, within what they cost; and while the run is going, each count takes a
-- turn at least
pub record Forward {E S : Type 0} (upper lower : Course E S) (count : ℕ) : Type 0 where
  pub within : Within upper lower count
  pub least : (upper.shows count).end ≡ None → count ≤ within.turns

-- more counts cost no less
abbrev pub IsRising : (ℕ → ℕ) → Type 0
IsRising costs = (n : ℕ) → costs n ≤ costs (suc n)

-- each turn costs one, and the turns after an end too
abbrev pub by_turns : {T E S : Type 0} → (T → Turn T E S) → T → Course E (Finished S)
by_turns turn t = record { shows = λ n. told turn n t; costs = λ n. n }
