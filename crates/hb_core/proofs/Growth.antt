-- What a source shows grows by at most one event or the end a step, and no step adds an event and ends the run.
use Rattle.std.proofs.Common.{◌≡◌, ◌≢◌, ℕ, suc, List, None, ap}
use Rattle.hb_base.specs.declared.step.Step.{Step}
use Rattle.hb_base.specs.declared.step.Stop.{Stop}
use Rattle.hb_base.specs.declared.script.ScriptLine.{ScriptLine}
use Rattle.hb_types.specs.Types.{Ty}
use Rattle.hb_runs.specs.Outcome.{Outcome, Grows, GrowsTo, Stays, Shows, Ends}
use Rattle.hb_runs.specs.System.{Finished}
use Rattle.hb_runs.proofs.InnerLaws.{publicly-grows}
use Rattle.hb_steps.proofs.AlikeLaws.{grows}
use Rattle.hb_core.specs.Actions.{answer}
use Rattle.hb_core.specs.Events.{public}
use Rattle.hb_core.specs.Meaning.{Meaning, room_from, runs, whole, says}
use Rattle.hb_core.specs.Values.{Site}
use Rattle.hb_core.specs.View.{View}

-- the events and the end, without the cells
abbrev pub without_cells : Meaning → Outcome Step (Finished Stop)
without_cells m = record { trace = m.trace; end = m.end }

module _ (P : View) (number : Site → List Ty → ℕ) (rooms : List ℕ) (stack : ℕ) (script : List ScriptLine) where
  pub runs_grow : Grows (runs P number rooms stack script)
  runs_grow = grows (answer P (room_from number rooms) stack script) (whole P)

  pub says_grows : Grows (λ n. without_cells (says P number rooms stack script n))
  says_grows = publicly-grows public (runs P number rooms stack script) runs_grow

  -- the step that ends the run adds no event
  adds_nothing : (o p : Outcome Step (Finished Stop)) → GrowsTo o p → o.end ≡ None → p.end ≢ None → p.trace ≡ o.trace
  adds_nothing o p (Stays same) going ended = ap (λ q. q.trace) same
  adds_nothing o p (Shows event still same) going ended = absurd (ended (ap (λ q. q.end) same))
  adds_nothing o p (Ends end still same) going ended = ap (λ q. q.trace) same

  pub no_step_shows_and_ends : (n : ℕ) → (says P number rooms stack script n).end ≡ None → (says P number rooms stack script (suc n)).end ≢ None
      → (says P number rooms stack script (suc n)).trace ≡ (says P number rooms stack script n).trace
  no_step_shows_and_ends n going ended =
      adds_nothing (without_cells (says P number rooms stack script n)) (without_cells (says P number rooms stack script (suc n))) (says_grows.grows n) going ended
