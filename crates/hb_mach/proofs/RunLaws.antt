-- What a run of an image shows grows by at most one event or the end a step.
use Rattle.std.proofs.Common.{List, refl}
use Rattle.hb_base.specs.declared.script.ScriptLine.{ScriptLine}
use Rattle.hb_image.specs.declared.image.Image.{Image}
use Rattle.hb_runs.specs.Outcome.{Grows}
use Rattle.hb_isa.proofs.RunLaws.{shown-grows}
use Rattle.hb_mach.specs.State.{start}
use Rattle.hb_mach.specs.Run.{mach}
pub use Rattle.hb_isa.proofs.RunLaws.{events-append}

pub mach-grows : (image : Image) (lines : List ScriptLine) → Grows (mach image lines)
unfolding mach start
mach-grows image lines = shown-grows (start image lines) refl
