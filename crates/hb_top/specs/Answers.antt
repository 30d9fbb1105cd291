-- The contract of the top call: what each status says of what was read, what was written and what was put.
use Rattle.std.specs.Prelude.{◌≡◌, ◌≢◌, ℕ, List, ◌⊎◌}
use Rattle.hb_base.specs.declared.script.ScriptLine.{ScriptLine}
use Rattle.hb_base.specs.declared.step.Stop.TheVariants.{Sink}
use Rattle.hb_image.specs.declared.image.Image.{Image}
use Rattle.hb_io.specs.Counts.{Rose}
use Rattle.hb_io.specs.Taken.{TookFront}
use Rattle.hb_mach.specs.State.{start}
use Rattle.hb_words.specs.declared.words.Command.{Command}
use Rattle.hb_base.specs.declared.refusal.Refusal.{Refusal}
use Rattle.hb_top.specs.declared.failure.NoImage.{NoImage}
use Rattle.hb_top.specs.declared.failure.Failure.{Failure}
use Rattle.hb_top.specs.declared.failure.Failure.TheVariants.{Words, Refused, Script, Image as ImageRefused, Read}
use Rattle.hb_top.specs.Texts.{line_of, text_of, stop_after, status_of}
use Rattle.hb_top.specs.World.{World}
use Rattle.hb_top.specs.Preparing.{IsReady, FailsBy, steps_of, shelf_after}
use Rattle.hb_top.specs.Executing.{Puts}

-- the command failed so, and its line was put
pub record Reports (words : List (List ℕ)) (failure : Failure) (old new : World) : Type 0 where
  pub fails : FailsBy words old.shelf new.shelf failure
  pub told : Puts (line_of failure) old.sink new.sink

-- the image, which means the source where the command compiles it, ran on the inputs for the steps allowed: what was
-- put is the text of that run, and the status is the one of its end
pub record Runs (words : List (List ℕ)) (status : ℕ) (old new : World) : Type 0 where
  pub command : Command
  pub image : Image
  pub inputs : List ScriptLine
  pub ready : IsReady words old.shelf command image inputs
  pub files : new.shelf ≡ shelf_after command image old.shelf
  pub told : Puts (text_of image inputs (steps_of command)) old.sink new.sink
  pub ended : stop_after (start image inputs) (steps_of command) ≢ Sink
  pub status_is : status ≡ status_of (stop_after (start image inputs) (steps_of command))

-- what stands after a fault: some first bytes of the line of a failure were put, or the files are as a run leaves them
-- and some first bytes of the text of the run were put
pub data Stands (words : List (List ℕ)) (old new : World) : Type 0 where
  failing : (failure : Failure) → FailsBy words old.shelf new.shelf failure → TookFront old.sink.taken (line_of failure) new.sink.taken → Stands words old new
  running : (command : Command) (image : Image) (inputs : List ScriptLine) → IsReady words old.shelf command image inputs → new.shelf ≡ shelf_after command image old.shelf
      → TookFront old.sink.taken (text_of image inputs (steps_of command)) new.sink.taken
      → Stands words old new

pub record Faults (words : List (List ℕ)) (old new : World) : Type 0 where
  pub cause : Rose old.shelf.write_faults new.shelf.write_faults ⊎ Rose old.sink.faults new.sink.faults
  pub stands : Stands words old new

-- the statuses of a run are 0, 6, 7, 8, 9 and 11, by `status_of`; 5 is that of a fault of writing, and after 12
-- nothing was put and no file was changed
pub data Answers (words : List (List ℕ)) (status : ℕ) (old new : World) : Type 0 where
  ran : Runs words status old new → Answers words status old new
  source_refused : status ≡ 1 → (refusal : Refusal) → Reports words (Refused refusal) old new → Answers words status old new
  words_refused : status ≡ 2 → Reports words Words old new → Answers words status old new
  script_refused : status ≡ 3 → (number : ℕ) → Reports words (Script number) old new → Answers words status old new
  read_fault : status ≡ 4 → Reports words Read old new → Answers words status old new
  fault : status ≡ 5 → Faults words old new → Answers words status old new
  image_refused : status ≡ 10 → (what : NoImage) → Reports words (ImageRefused what) old new → Answers words status old new
  no_memory : status ≡ 12 → new ≡ old → Answers words status old new
