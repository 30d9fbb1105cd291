-- What the steps of preparing give together.
use Rattle.std.proofs.Common.{◌≡◌, ◌≤◌, ℕ, List, length, ap, subst, ◌∙◌}
use Rattle.hb_base.specs.declared.script.ScriptLine.{ScriptLine}
use Rattle.hb_image.specs.declared.image.Image.{Image}
use Rattle.hb_image.specs.Rules.{IsImage}
use Rattle.hb_mach.specs.State.{State, start}
use Rattle.hb_words.specs.declared.words.Command.{Command}
use Rattle.hb_words.specs.Words.{Reads}
use Rattle.hb_top.specs.Preparing.{GivesImage, TakesScript, Loads, script_name, steps_of, shelf_after}
use Rattle.hb_top.specs.World.{Shelved}

-- the image and the script were found, and then the machine was made; each was looked for where nothing had changed
pub loads : (words : List (List ℕ)) (old found read new : Shelved) (command : Command) (image : Image) (inputs : List ScriptLine) (state : State) (steps : ℕ)
    → Reads words command → IsImage image → GivesImage old command image → found ≡ old → TakesScript found (script_name command) image.ports inputs → read ≡ found → state ≡ start image inputs → new ≡ shelf_after command image read → steps ≡ steps_of command
    → Loads words old new state steps
loads words old found read new command image inputs state steps reads rules gives ef script er es en est = record {
  command = command;
  image = image;
  inputs = inputs;
  ready = record { reads = reads; gives = gives; rules = rules; script = subst (λ s. TakesScript s (script_name command) image.ports inputs) ef script };
  loaded = es;
  steps_are = est;
  files = en ∙ ap (shelf_after command image) (er ∙ ef);
}
