-- What lowering, selection and assembling keep is kept by all three in a row.
use Rattle.std.proofs.Common.{◌≡◌, ℕ, ◌≤◌, List, length, refl, ap, sym, subst, ◌∙◌, arith}
use Rattle.std.specs.Prelude.{All}
use Rattle.hb_base.specs.Inputs.{AreInputs}
use Rattle.hb_base.specs.Ports.{ArePorts}
use Rattle.hb_base.specs.declared.port.Port.{Port}
use Rattle.hb_base.specs.declared.script.ScriptLine.{ScriptLine}
use Rattle.hb_asm.specs.declared.part.Asm.{Asm}
use Rattle.hb_asm.specs.declared.part.AsmPart.{AsmPart}
use Rattle.hb_base.specs.declared.step.Step.{Step}
use Rattle.hb_base.specs.declared.step.Stop.{Stop}
use Rattle.std.proofs.lemmas.List.{length-map}
use Rattle.hb_image.specs.declared.image.Image.{Image}
use Rattle.hb_image.specs.Rules.{IsImage}
use Rattle.hb_isa.specs.State.{started}
use Rattle.hb_mach.specs.State.{start}
use Rattle.hb_mach.specs.Run.{mach, shown}
use Rattle.hb_runs.specs.Outcome.{Outcome, SameRuns}
use Rattle.hb_runs.proofs.Through.{through}
use Rattle.hb_runs.proofs.LawLaws.{same_runs}
use Rattle.hb_flat.specs.declared.form.FlatBlock.{FlatBlock}
use Rattle.hb_flat.specs.declared.form.Flat.{Flat}
use Rattle.hb_flat.specs.Meaning.{runs}
use Rattle.hb_flat.specs.Rules.{IsFlat}
use Rattle.hb_second.specs.declared.source.Source.{Source}
use Rattle.hb_second.specs.Meaning.{says}
use Rattle.hb_select.specs.Code.{parts_of, word_of, words_of}
use Rattle.hb_select.specs.Law.{KeepsLaw, course_of_flat, course_of_code, most_words}
use Rattle.hb_compile.specs.Means.{Means}
use Rattle.hb_compile.proofs.Length.{words_short}

-- an image of a source by way of a flat program and its instructions
pub record Made (source : Source) (flat : Flat) (asm : Asm) (image : Image) : Type 0 where
  pub fits : IsFlat flat source.ports
  pub few : All (λ (block : FlatBlock). length block.steps ≤ 2000) flat.blocks
  pub size : flat.stack ≡ 1048576
  pub parts : asm.parts ≡ parts_of flat
  pub ports : image.ports ≡ source.ports
  pub areas : image.areas ≡ 0
  pub stack : image.stack ≡ flat.stack
  pub code : image.code ≡ words_of asm.parts

pub made_of :
    (source : Source) (flat : Flat) (asm : Asm) (image : Image)
    → IsFlat flat source.ports
    → All (λ (block : FlatBlock). length block.steps ≤ 2000) flat.blocks
    → flat.stack ≡ 1048576
    → asm.parts ≡ parts_of flat
    → image.ports ≡ source.ports
    → image.areas ≡ 0
    → image.stack ≡ flat.stack
    → image.code ≡ words_of asm.parts
    → Made source flat asm image
made_of source flat asm image fits few size parts ports areas stack code = record {
  fits = fits;
  few = few;
  size = size;
  parts = parts;
  ports = ports;
  areas = areas;
  stack = stack;
  code = code;
}

pub image_of : (source : Source) (flat : Flat) (asm : Asm) (image : Image) → Made source flat asm image → IsImage image
image_of source flat asm image made =
    let words : length image.code ≡ length (words_of (parts_of flat)) = ap length (made.code ∙ ap words_of made.parts) in
    let short = words_short flat made.fits.single made.fits.entry made.few in
    record {
      ports = subst ArePorts (sym made.ports) made.fits.rules;
      areas = omega (arith, made.areas);
      stack_whole = rw (made.stack, made.size) refl;
      stack_least = omega (arith, made.stack, made.size);
      stack_most = omega (arith, made.stack, made.size);
      code_least = omega (arith, words, short.least);
      code_most = omega (arith, words, short.most);
    }

-- the code of an image has a word for each part, and a run of the image is a run of that code
few_parts : (source : Source) (flat : Flat) (asm : Asm) (image : Image) → Made source flat asm image → length asm.parts ≤ most_words
few_parts source flat asm image made =
    let words : length (words_of asm.parts) ≡ length (words_of (parts_of flat)) = ap (λ (parts : List AsmPart). length (words_of parts)) made.parts in
    let short = words_short flat made.fits.single made.fits.entry made.few in
    omega (arith, words, short.most, length-map asm.parts word_of)

image_runs : (source : Source) (flat : Flat) (asm : Asm) (image : Image) (inputs : List ScriptLine) → Made source flat asm image
    → mach image inputs ≡ shown (started (words_of asm.parts) image.ports 0 flat.stack inputs)
unfolding mach start
image_runs source flat asm image inputs made =
    ap (λ (code : List ℕ). shown (started code image.ports image.areas image.stack inputs)) made.code
    ∙ ap (λ (areas : ℕ). shown (started (words_of asm.parts) image.ports areas image.stack inputs)) made.areas
    ∙ ap (λ (stack : ℕ). shown (started (words_of asm.parts) image.ports 0 stack inputs)) made.stack

pub means_of :
    (source : Source) (flat : Flat) (asm : Asm) (image : Image)
    → Made source flat asm image
    → ((lines : List ScriptLine) → AreInputs source.ports lines → SameRuns (says source lines) (runs flat source.ports lines))
    → KeepsLaw flat asm
    → Means source image
means_of source flat asm image made lowers law =
    record {
      ports = made.ports;
      areas = made.areas;
      stack = made.stack ∙ made.size;
      runs = λ inputs allowed.
          let upper =
          subst (λ (ports : List Port). SameRuns (says source inputs) (runs flat ports inputs)) (sym made.ports)
          (lowers inputs (subst (λ (ports : List Port). AreInputs ports inputs) made.ports allowed)) in
          let fits : IsFlat flat image.ports = subst (λ (ports : List Port). IsFlat flat ports) (sym made.ports) made.fits in
          let code = law image.ports inputs fits (few_parts source flat asm image made) allowed in
          let lower =
          subst (λ (run : ℕ → Outcome Step Stop). SameRuns (runs flat image.ports inputs) run) (sym (image_runs source flat asm image inputs made))
          (same_runs (course_of_flat flat image.ports inputs) (course_of_code (words_of asm.parts) image.ports flat.stack inputs) code) in
          through (says source inputs) (runs flat image.ports inputs) (mach image inputs) upper lower;
    }
