-- What evaluation gives: the run is over, or there is no rule, or a step is due, with what follows it for each value.
-- Evaluation knows no counts, no trace and no cut: it gives the tree, and the steps of the tree are counted here.
use Rattle.std.specs.Prelude.{ℕ, List, [], ◌∷◌, ◌++◌}
use Rattle.hb_runs.specs.Outcome.{Outcome}
use Rattle.hb_runs.specs.System.{Turn, Quiet, Event, End, Wrong as NoRule, Finished, told}

-- `A` is what may be asked of a step, `V` what answers it, and `S` how a run may end
pub data Run (A V S : Type 0) : Type 0 where
  Over : S → Run A V S
  Wrong : Run A V S
  Due : A → (V → Run A V S) → Run A V S

-- what a step leads to: it goes on in silence, or with an event, or it ends the run
pub data Then (A V E S : Type 0) : Type 0 where
  Goes : Run A V S → Then A V E S
  Shows : E → Run A V S → Then A V E S
  Stops : S → Then A V E S

-- how steps are answered. An answer sees the trace so far: so it knows which lines are taken, and what cells hold
abbrev pub Answers : Type 0 → Type 0 → Type 0 → Type 0 → Type 0
Answers A V E S = List E → A → (V → Run A V S) → Then A V E S

-- a run that has come so far, with what it has shown
pub record At (A V E S : Type 0) : Type 0 where
  pub run : Run A V S
  pub trace : List E

abbrev pub at : {A V E S : Type 0} → Run A V S → List E → At A V E S
at run trace = record { run = run; trace = trace }

unfoldable pub answered : {A V E S : Type 0} → List E → Then A V E S → Turn (At A V E S) E S
answered trace (Goes run) = Quiet (at run trace)
answered trace (Shows event run) = Event event (at run (trace ++ event ∷ []))
answered trace (Stops end) = End end

unfoldable pub stepped : {A V E S : Type 0} → Answers A V E S → List E → Run A V S → Turn (At A V E S) E S
stepped answer trace (Over end) = End end
stepped answer trace Wrong = NoRule
stepped answer trace (Due ask next) = answered trace (answer trace ask next)

-- a step is a turn of a system, and so has its outcomes and its law
abbrev pub step : {A V E S : Type 0} → Answers A V E S → At A V E S → Turn (At A V E S) E S
step answer t = stepped answer t.trace t.run

-- what so many steps show
abbrev pub does : {A V E S : Type 0} → Answers A V E S → ℕ → Run A V S → Outcome E (Finished S)
does answer n run = told (step answer) n (at run [])
