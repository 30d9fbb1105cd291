use Rattle.std.proofs.Common.{ap, subst, Result, ◌∙◌, arith}
use Rattle.hb_image.specs.declared.fault.ImageError.{ImageError}
use Rattle.hb_image.specs.declared.image.Image.{Image}
use Rattle.hb_image.specs.Reading.{Gives, image_of}
use Rattle.hb_image.proofs.ImageLemmas.{is_image, is_spelled, image_again}
use Rattle.hb_image.proofs.reading.read.Goals as goal

pub returns-clause-found : goal.returns-clause-found
returns-clause-found c = is_image c.args.bytes.now c.image_from.result (λ i. omega (arith, c.type_inv.bytes i)) c.image_from.ensures

pub returns-clause-spelled : goal.returns-clause-spelled
returns-clause-spelled c = is_spelled c.args.bytes.now c.image_from.result (λ i. omega (arith, c.type_inv.bytes i)) c.image_from.ensures

pub returns-clause-only : goal.returns-clause-only
returns-clause-only c = λ image is words e. subst (λ (f : Result Image ImageError). Gives (λ x. x) c.image_from.result f) (ap image_of e ∙ image_again image is words) c.image_from.ensures
