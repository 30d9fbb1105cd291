-- What a run of a compiled source tells, in the words of the source alone.
use Rattle.std.specs.Prelude.{◌≡◌, ◌⊎◌, ℕ, List, ◌++◌, Bool, ◌||◌, ◌==◌}
use Rattle.hb_base.specs.declared.script.ScriptLine.{ScriptLine}
use Rattle.hb_compile.specs.Means.{Means}
use Rattle.hb_image.specs.declared.image.Image.{Image}
use Rattle.hb_image.specs.Format.{spelling}
use Rattle.hb_io.specs.Files.{written}
use Rattle.hb_mach.specs.Run.{stop_of, steps_done}
use Rattle.hb_script.specs.Ends.{end_of}
use Rattle.hb_script.specs.Lines.{lines_of}
use Rattle.hb_second.specs.declared.source.Source.{Source}
use Rattle.hb_second.specs.Meaning.{says}
use Rattle.hb_top.specs.Preparing.{TakesSource, TakesScript}
use Rattle.hb_top.specs.Texts.{status_of}
use Rattle.hb_top.specs.World.{World}
use Rattle.hb_top.specs.Executing.{Puts}

-- the statuses of a run
abbrev pub is_run_status : ℕ → Bool
is_run_status status = (status == 0) || ((status == 6) || ((status == 7) || ((status == 8) || ((status == 9) || (status == 11)))))

-- a line for each event that the source says in so many steps, and how it stands then, with the number of instructions
-- that the machine did
abbrev pub text_said : Source → List ScriptLine → ℕ → ℕ → List ℕ
text_said source inputs count done =
    lines_of source.ports (says source inputs count).trace ++ end_of source.ports (stop_of (says source inputs count).end) done

-- the file holds the source, the script holds its inputs, the image that means it was written, and what was put is what
-- the source says after some count of its steps; the status says how it stands then, and it is done, or has no input or
-- no steps left: it never halts, traps or uses up its stack
pub record TellsSource (file script name : List ℕ) (steps status : ℕ) (old new : World) : Type 0 where
  pub source : Source
  pub takes : TakesSource old.shelf file source
  pub inputs : List ScriptLine
  pub given : TakesScript old.shelf script source.ports inputs
  pub image : Image
  pub means : Means source image
  pub wrote : new.shelf ≡ record old.shelf { files = written old.shelf.files name (spelling image) }
  pub count : ℕ
  pub told : Puts (text_said source inputs count (steps_done image inputs steps)) old.sink new.sink
  pub status_is : status ≡ status_of (stop_of (says source inputs count).end)
  pub ends : (status ≡ 0) ⊎ ((status ≡ 8) ⊎ (status ≡ 9))
