-- What the three calls keep is put together.
use Rattle.std.proofs.Common.{◌∙◌, refl}
use Rattle.hb_compile.proofs.Composition.{made_of, image_of, means_of}
use Rattle.hb_compile.proofs.compiling.compile.Goals as goal

pub returns-clause-rules : goal.returns-clause-rules
returns-clause-rules c =
    let flat = c.in_ok-flat.flat in
    let ports = c.in_ok-ports.ensures ∙ c.as_slice.ensures in
    image_of c.args.source.now flat c.in_ok-asm.asm _
    (made_of c.args.source.now flat c.in_ok-asm.asm _ c.in_ok-flat.ensures.rules c.in_ok-flat.ensures.few c.in_ok-flat.ensures.stack c.in_ok-asm.ensures.parts ports refl refl c.in_ok-code.ensures)

pub returns-clause-means : goal.returns-clause-means
returns-clause-means c =
    let flat = c.in_ok-flat.flat in
    let ports = c.in_ok-ports.ensures ∙ c.as_slice.ensures in
    means_of c.args.source.now flat c.in_ok-asm.asm _
    (made_of c.args.source.now flat c.in_ok-asm.asm _ c.in_ok-flat.ensures.rules c.in_ok-flat.ensures.few c.in_ok-flat.ensures.stack c.in_ok-asm.ensures.parts ports refl refl c.in_ok-code.ensures)
    c.in_ok-flat.ensures.runs c.in_ok-asm.ensures.law
