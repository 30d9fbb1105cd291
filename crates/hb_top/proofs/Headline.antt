-- A run of a compiled source tells what the source says.
use Rattle.std.proofs.Common.{◌≡◌, ℕ, List, ◌++◌, Option, refl, sym, ap, subst, ◌∙◌}
use Rattle.std.specs.Prelude.{IsTrue, unwrap_or}
use Rattle.std.proofs.lemmas.Bool.{false≢true}
use Rattle.hb_base.specs.declared.script.ScriptLine.{ScriptLine}
use Rattle.hb_base.specs.declared.step.Step.{Step}
use Rattle.hb_base.specs.declared.step.Stop.{Stop}
use Rattle.hb_image.specs.declared.image.Image.{Image}
use Rattle.hb_mach.specs.State.{start}
use Rattle.hb_mach.specs.Run.{mach, stop_of, steps_done}
use Rattle.hb_runs.specs.Outcome.{Outcome}
use Rattle.hb_script.specs.Ends.{end_of}
use Rattle.hb_script.specs.Lines.{lines_of}
use Rattle.hb_second.specs.declared.source.Source.{Source}
use Rattle.hb_second.specs.Meaning.{says}
use Rattle.hb_words.specs.Words.{Reads}
use Rattle.hb_words.specs.declared.words.Command.{Command}
use Rattle.hb_words.specs.declared.words.Command.TheVariants.{Run}
use Rattle.hb_top.specs.Preparing.{GivesImage, TakesScript, script_name, steps_of, shelf_after}
use Rattle.hb_top.specs.Texts.{text_from, text_of, stop_after, status_of}
use Rattle.hb_top.specs.World.{World}
use Rattle.hb_top.specs.Executing.{Puts}
use Rattle.hb_top.specs.Answers.{Answers, ran, source_refused, words_refused, script_refused, read_fault, fault, image_refused, no_memory, Runs}
use Rattle.hb_top.proofs.Ends.{says_ends, which}
use Rattle.hb_top.specs.Headline.{text_said, TellsSource, is_run_status}

-- the text of a run is that of what it shows
text_is : (image : Image) (inputs : List ScriptLine) (steps : ℕ) → text_of image inputs steps ≡ lines_of image.ports (mach image inputs steps).trace ++ end_of image.ports (stop_of (mach image inputs steps).end) (steps_done image inputs steps)
unfolding text_of text_from mach steps_done start
text_is image inputs steps = refl

stop_is : (image : Image) (inputs : List ScriptLine) (steps : ℕ) → stop_after (start image inputs) steps ≡ stop_of (mach image inputs steps).end
unfolding mach start
stop_is image inputs steps = refl

-- where the machine shows what the source says after some count, its text is the one that is said
same_text : (source : Source) (image : Image) (inputs : List ScriptLine) (steps count : ℕ) → image.ports ≡ source.ports → mach image inputs steps ≡ says source inputs count → text_of image inputs steps ≡ text_said source inputs count (steps_done image inputs steps)
same_text source image inputs steps count ep eo =
    let done = steps_done image inputs steps in
    text_is image inputs steps
    ∙ ap (λ (o : Outcome Step Stop). lines_of image.ports o.trace ++ end_of image.ports (stop_of o.end) done) eo
    ∙ ap (λ ports. lines_of ports (says source inputs count).trace ++ end_of ports (stop_of (says source inputs count).end) done) ep

-- words are one command
one_command : (words : List (List ℕ)) (a b : Command) → Reads words a → Reads words b → a ≡ b
one_command words a b ra rb = ap (λ (o : Option Command). unwrap_or o a) (sym ra.is ∙ rb.is)

no_run : (status other : ℕ) → status ≡ other → IsTrue (is_run_status status) → IsTrue (is_run_status other)
no_run status other e = subst (λ s. IsTrue (is_run_status s)) e

headline : (words : List (List ℕ)) (status : ℕ) (old new : World) (runs : Runs words status old new) (file script name : List ℕ) (steps : ℕ) → runs.command ≡ Run file script name steps → TellsSource file script name steps status old new
headline words status old new runs file script name steps e =
    let gives = subst (λ command. GivesImage old.shelf command runs.image) e runs.ready.gives in
    let given = subst (λ command. TakesScript old.shelf (script_name command) runs.image.ports runs.inputs) e runs.ready.script in
    let same = (gives.means.runs runs.inputs runs.ready.script.fit).each_target_count steps in
    let stands = runs.status_is ∙ ap (λ command. status_of (stop_after (start runs.image runs.inputs) (steps_of command))) e ∙ ap status_of (stop_is runs.image runs.inputs steps) ∙ ap (λ (o : Outcome Step Stop). status_of (stop_of o.end)) same.1 in record {
      source = gives.source;
      takes = gives.takes;
      inputs = runs.inputs;
      given = subst (λ ports. TakesScript old.shelf script ports runs.inputs) gives.means.ports given;
      image = runs.image;
      means = gives.means;
      wrote = runs.files ∙ ap (λ command. shelf_after command runs.image old.shelf) e;
      count = same.0;
      told =
          subst (λ text. Puts text old.sink new.sink)
          (ap (λ command. text_of runs.image runs.inputs (steps_of command)) e ∙ same_text gives.source runs.image runs.inputs steps same.0 gives.means.ports same.1)
          runs.told;
      status_is = stands;
      ends = which (says gives.source runs.inputs same.0).end (says_ends gives.source runs.inputs same.0) status stands;
    }

-- where the status is one of a run, and the words are a command to compile
pub told_of : (words : List (List ℕ)) (status : ℕ) (old new : World) → Answers words status old new → (file script name : List ℕ) (steps : ℕ) → Reads words (Run file script name steps) → IsTrue (is_run_status status) → TellsSource file script name steps status old new
told_of words status old new (ran runs) file script name steps reads run =
    headline words status old new runs file script name steps (one_command words runs.command (Run file script name steps) runs.ready.reads reads)
told_of words status old new (source_refused e refusal reports) file script name steps reads run = absurd (false≢true (no_run status 1 e run))
told_of words status old new (words_refused e reports) file script name steps reads run = absurd (false≢true (no_run status 2 e run))
told_of words status old new (script_refused e number reports) file script name steps reads run = absurd (false≢true (no_run status 3 e run))
told_of words status old new (read_fault e reports) file script name steps reads run = absurd (false≢true (no_run status 4 e run))
told_of words status old new (fault e faults) file script name steps reads run = absurd (false≢true (no_run status 5 e run))
told_of words status old new (image_refused e what reports) file script name steps reads run = absurd (false≢true (no_run status 10 e run))
told_of words status old new (no_memory e same) file script name steps reads run = absurd (false≢true (no_run status 12 e run))
