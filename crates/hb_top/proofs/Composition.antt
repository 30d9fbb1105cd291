-- What was prepared and what was told are together what the top call promises.
use Rattle.std.proofs.Common.{◌≡◌, ℕ, List, inl, inr, sym, ap, subst, ◌∙◌}
use Rattle.hb_io.specs.Taken.{TookFront}
use Rattle.hb_io.specs.TakenLaws.{took_all}
use Rattle.hb_io.specs.Counts.{Rose}
use Rattle.hb_words.specs.declared.words.Command.{Command}
use Rattle.hb_words.specs.declared.words.Command.TheVariants.{Run, Exec}
use Rattle.hb_mach.specs.State.{State, start}
use Rattle.hb_top.specs.declared.failure.Failure.{Failure}
use Rattle.hb_top.specs.declared.failure.Failure.TheVariants.{Words, Refused, Script, Image as ImageRefused, Read, Write, Memory}
use Rattle.hb_top.specs.Texts.{line_of, text_from, text_of, stop_after, status_of}
use Rattle.hb_top.specs.World.{World, Printed, Shelved, world}
use Rattle.hb_top.specs.Preparing.{Loads, FailsBy, WriteFaultOf, steps_of}
use Rattle.hb_top.specs.Executing.{Puts, PutsFront, Tells, whole, cut, TellsRun, whole_run, cut_run, TellsFailure}
use Rattle.hb_top.specs.Answers.{Answers, ran, source_refused, words_refused, script_refused, read_fault, fault, image_refused, no_memory, Reports, Faults, failing, running}

-- only a command that compiles fails to write
rose_of : (old new : Shelved) (command : Command) → WriteFaultOf command old new → Rose old.write_faults new.write_faults
rose_of old new (Run file script name steps) faulted = faulted.fault
rose_of old new (Exec name script steps) nothing = absurd nothing

same_world : (a b : Shelved) (c d : Printed) → a ≡ b → c ≡ d → world a c ≡ world b d
same_world a b c d ef es = cc

module _ (words : List (List ℕ)) (old new : World) where
  -- ---- a failure and its line

  same : new.shelf ≡ old.shelf → new.sink ≡ old.sink → new ≡ old
  same ef es = same_world new.shelf old.shelf new.sink old.sink ef es

  -- a put of the line that failed
  cut_line : (failure : Failure) → FailsBy words old.shelf new.shelf failure → PutsFront (line_of failure) old.sink new.sink → Faults words old new
  cut_line failure fails front = record { cause = inr front.fault; stands = failing failure fails front.front }

  told : (failure : Failure) (good status : ℕ) → FailsBy words old.shelf new.shelf failure → (status ≡ good → Reports words failure old new → Answers words status old new) → Tells (line_of failure) good old.sink new.sink status → Answers words status old new
  told failure good status fails answers (whole puts e) = answers e (record { fails = fails; told = puts })
  told failure good status fails answers (cut front e) = fault e (cut_line failure fails front)

  -- the image could not be written
  unwritten : (status : ℕ) → FailsBy words old.shelf new.shelf Write → status ≡ 5 → Reports words Write old new → Answers words status old new
  unwritten status fails e reports =
      fault e (record { cause = inl (rose_of old.shelf new.shelf fails.command fails.faulted); stands = failing Write fails (subst (TookFront old.sink.taken (line_of Write)) (sym reports.told.taken) (took_all old.sink.taken (line_of Write))) })

  pub failed : (failure : Failure) (status : ℕ) → FailsBy words old.shelf new.shelf failure → TellsFailure failure old.sink new.sink status → Answers words status old new
  failed Words status fails tells = told Words 2 status fails words_refused tells
  failed (Refused refusal) status fails tells = told (Refused refusal) 1 status fails (λ e reports. source_refused e refusal reports) tells
  failed (Script number) status fails tells = told (Script number) 3 status fails (λ e reports. script_refused e number reports) tells
  failed (ImageRefused what) status fails tells = told (ImageRefused what) 10 status fails (λ e reports. image_refused e what reports) tells
  failed Read status fails tells = told Read 4 status fails read_fault tells
  failed Write status fails tells = told Write 5 status fails (unwritten status fails) tells
  failed Memory status fails tells = no_memory tells.1 (same fails tells.0)

  -- ---- a run and its text

  same_text : (state : State) (steps : ℕ) → (loads : Loads words old.shelf new.shelf state steps) → text_from state steps ≡ text_of loads.image loads.inputs (steps_of loads.command)
  unfolding text_of
  same_text state steps loads = ap (λ s. text_from s steps) loads.loaded ∙ ap (text_from (start loads.image loads.inputs)) loads.steps_are

  same_stop : (state : State) (steps : ℕ) → (loads : Loads words old.shelf new.shelf state steps) → stop_after state steps ≡ stop_after (start loads.image loads.inputs) (steps_of loads.command)
  same_stop state steps loads = ap (λ s. stop_after s steps) loads.loaded ∙ ap (stop_after (start loads.image loads.inputs)) loads.steps_are

  pub after_run : (state : State) (steps status : ℕ) → Loads words old.shelf new.shelf state steps → TellsRun state steps old.sink new.sink status → Answers words status old new
  after_run state steps status loads (whole_run puts other e) =
      ran
      (record {
        command = loads.command;
        image = loads.image;
        inputs = loads.inputs;
        ready = loads.ready;
        files = loads.files;
        told = subst (λ text. Puts text old.sink new.sink) (same_text state steps loads) puts;
        ended = λ sink. other (same_stop state steps loads ∙ sink);
        status_is = e ∙ ap status_of (same_stop state steps loads);
      })
  after_run state steps status loads (cut_run front e) =
      fault e
      (record {
        cause = inr front.fault;
        stands = running loads.command loads.image loads.inputs loads.ready loads.files (subst (λ text. TookFront old.sink.taken text new.sink.taken) (same_text state steps loads) front.front);
      })
