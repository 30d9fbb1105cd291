-- What one call of `run` does: so many steps with a line for each port event, or fewer where a line could not be written.
use Rattle.std.specs.Prelude.{◌≡◌, ◌≢◌, ◌↔◌, ℕ, suc, ◌<◌, List, Option, None}
use Rattle.hb_base.specs.declared.step.Stop.{Stop}
use Rattle.hb_base.specs.declared.step.Stop.TheVariants.{Steps, Sink}
use Rattle.hb_io.specs.Counts.{Rose}
use Rattle.hb_io.specs.Taken.{appended, TookFront}
use Rattle.hb_runs.specs.Stepping.{after, answers}
use Rattle.hb_script.specs.Lines.{line_of, lines_of}
use Rattle.hb_mach.specs.Run.{events, stop_of}
use Rattle.hb_isa.specs.State.{State}
use Rattle.hb_isa.specs.Table.{table}

-- the lines of the port events of the first steps
unfoldable pub lines_shown : State → ℕ → List ℕ
lines_shown s steps = lines_of s.ports (events (answers table steps s))

-- so many steps were done, and all their lines were taken
pub record Ran (steps : ℕ) (old new : State) (before now : Option (List ℕ)) (faults_before faults_now : ℕ) : Type 0 where
  pub state : new ≡ after table steps old
  pub lines : now ≡ appended before (lines_shown old steps)
  pub faults : faults_now ≡ faults_before

-- all steps allowed were done: the answer is the machine's end, or Steps exactly where it has none
pub record RanToLimit (limit : ℕ) (old new : State) (stop : Stop) (before now : Option (List ℕ)) (faults_before faults_now : ℕ) : Type 0 where
  pub ran : Ran limit old new before now faults_before faults_now
  pub answer : stop ≡ stop_of new.ended
  pub steps : (stop ≡ Steps) ↔ (new.ended ≡ None)
  pub no_sink : stop ≢ Sink

-- the line of the step after so many could not be written: some front of it was taken after all lines before
pub record RanToFault (limit : ℕ) (old new : State) (stop : Stop) (before now : Option (List ℕ)) (faults_before faults_now : ℕ) : Type 0 where
  pub steps : ℕ
  pub within : steps < limit
  pub state : new ≡ after table (suc steps) old
  pub answer : stop ≡ Sink
  pub front : TookFront (appended before (lines_shown old steps)) (line_of old.ports (table (after table steps old)).1) now
  pub fault : Rose faults_before faults_now
