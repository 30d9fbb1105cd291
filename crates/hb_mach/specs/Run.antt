-- What a run of an image shows.
use Rattle.std.specs.Prelude.{ℕ, List}
use Rattle.hb_base.specs.declared.script.ScriptLine.{ScriptLine}
use Rattle.hb_base.specs.declared.step.Step.{Step}
use Rattle.hb_base.specs.declared.step.Stop.{Stop}
use Rattle.hb_image.specs.declared.image.Image.{Image}
use Rattle.hb_runs.specs.Outcome.{Outcome}
use Rattle.hb_runs.specs.Stepping.{after}
use Rattle.hb_isa.specs.Table.{table}
use Rattle.hb_mach.specs.State.{start}
pub use Rattle.hb_isa.specs.Run.{events, stop_of}
unfoldable pub use Rattle.hb_isa.specs.Run.{shown}

-- what the first steps of a run show
unfoldable pub mach : Image → List ScriptLine → ℕ → Outcome Step Stop
mach image lines steps = shown (start image lines) steps

-- the number of steps done by then
unfoldable pub steps_done : Image → List ScriptLine → ℕ → ℕ
steps_done image lines steps = (after table steps (start image lines)).done
