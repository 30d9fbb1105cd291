-- What it is that an image means a source.
use Rattle.std.specs.Prelude.{◌≡◌, ℕ, List}
use Rattle.hb_base.specs.Inputs.{AreInputs}
use Rattle.hb_base.specs.declared.script.ScriptLine.{ScriptLine}
use Rattle.hb_image.specs.declared.image.Image.{Image}
use Rattle.hb_mach.specs.Run.{mach}
use Rattle.hb_runs.specs.Outcome.{SameRuns}
use Rattle.hb_second.specs.declared.source.Source.{Source}
use Rattle.hb_second.specs.Meaning.{says}

-- the stack of an image, in bytes
abbrev pub standard_stack : ℕ
standard_stack = 1048576

-- the image has the ports and the memory that the source declares, and whatever inputs are given, the image shows
-- after each count of instructions what the source says after some count of steps, and the converse
pub record Means (source : Source) (image : Image) : Type 0 where
  pub ports : image.ports ≡ source.ports
  pub areas : image.areas ≡ 0
  pub stack : image.stack ≡ standard_stack
  pub runs : (inputs : List ScriptLine) → AreInputs image.ports inputs → SameRuns (says source inputs) (mach image inputs)
