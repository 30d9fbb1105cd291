-- What is put, and the status that goes with it. Only the sink is touched.
use Rattle.std.specs.Prelude.{◌≡◌, ◌≢◌, ℕ, List}
use Rattle.hb_base.specs.declared.step.Stop.TheVariants.{Sink}
use Rattle.hb_io.specs.Counts.{Rose}
use Rattle.hb_io.specs.Taken.{appended, TookFront}
use Rattle.hb_mach.specs.State.{State}
use Rattle.hb_top.specs.Texts.{text_from, stop_after, status_of, line_of}
use Rattle.hb_top.specs.declared.failure.Failure.{Failure}
use Rattle.hb_top.specs.declared.failure.Failure.TheVariants.{Words, Refused, Script, Image, Read, Write, Memory}
use Rattle.hb_top.specs.World.{Printed}

-- the whole text was put
pub record Puts (text : List ℕ) (old new : Printed) : Type 0 where
  pub taken : new.taken ≡ appended old.taken text
  pub no_fault : new.faults ≡ old.faults

-- a put failed: some first bytes of the text were taken
pub record PutsFront (text : List ℕ) (old new : Printed) : Type 0 where
  pub front : TookFront old.taken text new.taken
  pub fault : Rose old.faults new.faults

-- the text was put and the status is `good`, or a put failed and the status is 5
pub data Tells (text : List ℕ) (good : ℕ) (old new : Printed) (status : ℕ) : Type 0 where
  whole : Puts text old new → status ≡ good → Tells text good old new status
  cut : PutsFront text old new → status ≡ 5 → Tells text good old new status

-- the text of a run of so many steps was put and the status is the one of its end, or a put failed and the status is 5
pub data TellsRun (state : State) (steps : ℕ) (old new : Printed) (status : ℕ) : Type 0 where
  whole_run : Puts (text_from state steps) old new → stop_after state steps ≢ Sink → status ≡ status_of (stop_after state steps) → TellsRun state steps old new status
  cut_run : PutsFront (text_from state steps) old new → status ≡ 5 → TellsRun state steps old new status

-- for want of memory nothing is put
abbrev pub TellsFailure : Failure → Printed → Printed → ℕ → Type 0
TellsFailure Words old new status = Tells (line_of Words) 2 old new status
TellsFailure (Refused refusal) old new status = Tells (line_of (Refused refusal)) 1 old new status
TellsFailure (Script number) old new status = Tells (line_of (Script number)) 3 old new status
TellsFailure (Image fault) old new status = Tells (line_of (Image fault)) 10 old new status
TellsFailure Read old new status = Tells (line_of Read) 4 old new status
TellsFailure Write old new status = Tells (line_of Write) 5 old new status
TellsFailure Memory old new status = (new ≡ old) × (status ≡ 12)
