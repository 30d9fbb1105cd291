-- What was read and judged is what a file holds.
use Rattle.std.proofs.Common.{◌≡◌, ℕ, ◌<◌, List, length, sym, subst, ◌∙◌, arith}
use Rattle.std.specs.Prelude.{Result, Ok, Err}
use Rattle.hb_base.specs.declared.port.Port.{Port}
use Rattle.hb_base.specs.declared.script.Script.{Script as Inputs}
use Rattle.hb_image.specs.Format.{spelling}
use Rattle.hb_image.specs.declared.image.Image.{Image}
use Rattle.hb_io.specs.Files.{HoldsFront}
use Rattle.hb_script.specs.Scripts.{script_of}
use Rattle.hb_second.specs.declared.source.Source.{Source}
use Rattle.hb_top.specs.declared.failure.Failure.{Failure}
use Rattle.hb_top.specs.declared.failure.Failure.TheVariants.{Words, Refused, Script, Image as ImageRefused, Read, Write, Memory}
use Rattle.hb_top.specs.Sources.{Accepts, Refuses}
use Rattle.hb_top.specs.Preparing.{Holds, IsNoImage, most_read, most_of_image}
use Rattle.hb_top.specs.Steps.{JudgesSource, JudgesImage, JudgesScript, FindsSource, FindsFile, FindsScript}
use Rattle.hb_top.specs.World.{Shelved}
use Rattle.hb_top.proofs.Whole.{whole_of, script_short, image_short}

module _ (old new : Shelved) (name read seen : List ℕ) (same : new ≡ old) (es : seen ≡ read) where
  pub finds_source : HoldsFront old.files name most_read read → (result : Result Source Failure) → JudgesSource seen result → FindsSource old new name result
  finds_source front (Ok source) judged =
      let accepted = subst (λ b. Accepts b source) es judged in (
        record { bytes = read; holds = whole_of old.files name read most_read front (omega (arith, accepted.short)); accepted = accepted },
        same,
      )
  finds_source front (Err Words) judged = judged
  finds_source front (Err (Refused refusal)) judged = (record { bytes = read; got = front; refused = subst (λ b. Refuses b refusal) es judged }, same)
  finds_source front (Err (Script number)) judged = judged
  finds_source front (Err (ImageRefused fault)) judged = judged
  finds_source front (Err Read) judged = absurd judged
  finds_source front (Err Write) judged = judged
  finds_source front (Err Memory) judged = same

  pub finds_file : HoldsFront old.files name most_of_image read → (result : Result Image Failure) → JudgesImage seen result → FindsFile old new name result
  finds_file front (Ok image) judged =
      let e : read ≡ spelling image = sym es ∙ judged.1 in
      let short = subst (λ (b : List ℕ). length b < most_of_image) (sym e) (image_short image judged.0) in (
        judged.0,
        subst (Holds old.files name) e (whole_of old.files name read most_of_image front short),
        same,
      )
  finds_file front (Err Words) judged = judged
  finds_file front (Err (Refused refusal)) judged = judged
  finds_file front (Err (Script number)) judged = judged
  finds_file front (Err (ImageRefused fault)) judged = (record { bytes = read; got = front; refused = subst (λ b. IsNoImage b fault) es judged }, same)
  finds_file front (Err Read) judged = absurd judged
  finds_file front (Err Write) judged = judged
  finds_file front (Err Memory) judged = same

  pub finds_script : (ports : List Port) → HoldsFront old.files name most_read read → (result : Result Inputs Failure) → JudgesScript ports seen result → FindsScript old new name ports result
  finds_script ports front (Ok script) judged =
      let e = subst (λ b. script_of ports b ≡ Ok script.lines) es judged.1 in (
        judged.0,
        record { bytes = read; holds = whole_of old.files name read most_read front (script_short ports read script.lines e); spelled = e; fit = judged.0 },
        same,
      )
  finds_script ports front (Err Words) judged = judged
  finds_script ports front (Err (Refused refusal)) judged = judged
  finds_script ports front (Err (Script number)) judged = (record { bytes = read; got = front; refused = subst (λ b. script_of ports b ≡ Err number) es judged }, same)
  finds_script ports front (Err (ImageRefused fault)) judged = judged
  finds_script ports front (Err Read) judged = absurd judged
  finds_script ports front (Err Write) judged = judged
  finds_script ports front (Err Memory) judged = same
