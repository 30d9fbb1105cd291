-- The state in which the run of an image starts.
use Rattle.std.specs.Prelude.{List}
use Rattle.hb_base.specs.declared.script.ScriptLine.{ScriptLine}
use Rattle.hb_image.specs.declared.image.Image.{Image}
use Rattle.hb_isa.specs.State.{started}
pub use Rattle.hb_isa.specs.State.{State}

unfoldable pub start : Image → List ScriptLine → State
start image lines = started image.code image.ports image.areas image.stack lines
