-- What comes before a run: the words, the image, which is compiled or read, the script, and the file that is written.
-- Only files are touched.
use Rattle.std.specs.FinMap as map
use Rattle.std.specs.Prelude.{◌≡◌, ℕ, List, Ok, Err, Option, None, Some}
use Rattle.hb_base.specs.declared.port.Port.{Port}
use Rattle.hb_base.specs.declared.script.ScriptLine.{ScriptLine}
use Rattle.hb_base.specs.Inputs.{AreInputs}
use Rattle.hb_compile.specs.Means.{Means}
use Rattle.hb_image.specs.Rules.{IsImage}
use Rattle.hb_image.specs.declared.image.Image.{Image}
use Rattle.hb_image.specs.Format.{spelling}
use Rattle.hb_image.specs.Reading.{image_of}
use Rattle.hb_image.specs.declared.fault.ImageError.TheVariants as errors
use Rattle.hb_io.specs.Counts.{Rose}
use Rattle.hb_io.specs.Files.{Files, written, without, HoldsFront}
use Rattle.hb_mach.specs.State.{State, start}
use Rattle.hb_script.specs.Scripts.{script_of}
use Rattle.hb_second.specs.declared.source.Source.{Source}
use Rattle.hb_words.specs.declared.words.Command.{Command}
use Rattle.hb_words.specs.declared.words.Command.TheVariants.{Run, Exec}
use Rattle.hb_words.specs.Words.{Reads}
use Rattle.hb_base.specs.declared.refusal.Refusal.{Refusal}
use Rattle.hb_top.specs.declared.failure.NoImage.{NoImage}
use Rattle.hb_top.specs.declared.failure.NoImage.TheVariants.{Short, Bad}
use Rattle.hb_top.specs.declared.failure.Failure.{Failure}
use Rattle.hb_top.specs.declared.failure.Failure.TheVariants.{Words, Refused, Script, Image as ImageRefused, Read, Write, Memory}
use Rattle.hb_top.specs.Sources.{Accepts, Refuses}
use Rattle.hb_top.specs.World.{Shelved}

-- as much of a source or of a script is read: one byte more than it may have
abbrev pub most_read : ℕ
most_read = 1048577

-- as much of an image is read: one byte more than the longest one has
abbrev pub most_of_image : ℕ
most_of_image = 536823573

-- ---- what files hold

-- the file of this name holds just these bytes, where the shelf tells its files
abbrev pub Holds : Option Files → List ℕ → List ℕ → Type 0
Holds None name bytes = Unit {0}
Holds (Some files) name bytes = map.get files name ≡ Some bytes

-- the source that the file of this name holds
pub record TakesSource (old : Shelved) (file : List ℕ) (source : Source) : Type 0 where
  pub bytes : List ℕ
  pub holds : Holds old.files file bytes
  pub accepted : Accepts bytes source

-- an image that means the source in the file of this name
pub record Compiled (old : Shelved) (file : List ℕ) (image : Image) : Type 0 where
  pub source : Source
  pub takes : TakesSource old file source
  pub means : Means source image

-- the file of this name holds the bytes of the image
abbrev pub TakesImage : Shelved → List ℕ → Image → Type 0
TakesImage old name image = Holds old.files name (spelling image)

-- the inputs that the file of this name spells; each is one of an In port, and has its width
pub record TakesScript (old : Shelved) (name : List ℕ) (ports : List Port) (inputs : List ScriptLine) : Type 0 where
  pub bytes : List ℕ
  pub holds : Holds old.files name bytes
  pub spelled : script_of ports bytes ≡ Ok inputs
  pub fit : AreInputs ports inputs

-- the first bytes of the file of this name are no source
pub record HoldsNoSource (old : Shelved) (file : List ℕ) (refusal : Refusal) : Type 0 where
  pub bytes : List ℕ
  pub got : HoldsFront old.files file most_read bytes
  pub refused : Refuses bytes refusal

-- why bytes are no image, as reading them says it
abbrev pub IsNoImage : List ℕ → NoImage → Type 0
IsNoImage bytes Short = image_of bytes ≡ Err errors.Short
IsNoImage bytes (Bad field) = image_of bytes ≡ Err (errors.Bad field)

pub record HoldsNoImage (old : Shelved) (name : List ℕ) (fault : NoImage) : Type 0 where
  pub bytes : List ℕ
  pub got : HoldsFront old.files name most_of_image bytes
  pub refused : IsNoImage bytes fault

-- the line of this number is the first that breaks the script's grammar, or the script is too long and this is 0
pub record HoldsNoScript (old : Shelved) (name : List ℕ) (ports : List Port) (number : ℕ) : Type 0 where
  pub bytes : List ℕ
  pub got : HoldsFront old.files name most_read bytes
  pub refused : script_of ports bytes ≡ Err number

-- ---- what a command asks for

abbrev pub script_name : Command → List ℕ
script_name (Run file script image steps) = script
script_name (Exec image script steps) = script

abbrev pub steps_of : Command → ℕ
steps_of (Run file script image steps) = steps
steps_of (Exec image script steps) = steps

-- the image of a command: it means the source that is compiled, or it is the one that is read
abbrev pub GivesImage : Shelved → Command → Image → Type 0
GivesImage old (Run file script name steps) image = Compiled old file image
GivesImage old (Exec name script steps) image = TakesImage old name image

-- the files after a command was prepared: the compiled image is written, and nothing else
abbrev pub shelf_after : Command → Image → Shelved → Shelved
shelf_after (Run file script name steps) image old = record old { files = written old.files name (spelling image) }
shelf_after (Exec name script steps) image old = old

-- the words are the command, and the files hold its image, which keeps the rules of images, and its inputs
pub record IsReady (words : List (List ℕ)) (old : Shelved) (command : Command) (image : Image) (inputs : List ScriptLine) : Type 0 where
  pub reads : Reads words command
  pub gives : GivesImage old command image
  pub rules : IsImage image
  pub script : TakesScript old (script_name command) image.ports inputs

-- the machine stands at the start of the run that the words ask for
pub record Loads (words : List (List ℕ)) (old new : Shelved) (state : State) (steps : ℕ) : Type 0 where
  pub command : Command
  pub image : Image
  pub inputs : List ScriptLine
  pub ready : IsReady words old command image inputs
  pub loaded : state ≡ start image inputs
  pub steps_are : steps ≡ steps_of command
  pub files : new ≡ shelf_after command image old

-- ---- failures

abbrev pub RefusesWords : List (List ℕ) → Type 0
RefusesWords words = (command : Command) → ¬ Reads words command

-- a command to compile a file that holds no source
abbrev pub NoSourceOf : Shelved → Command → Refusal → Type 0
NoSourceOf old (Run file script name steps) refusal = HoldsNoSource old file refusal
NoSourceOf old (Exec name script steps) refusal = ⊥

-- a command to run a file that holds no image
abbrev pub NoImageOf : Shelved → Command → NoImage → Type 0
NoImageOf old (Run file script name steps) fault = ⊥
NoImageOf old (Exec name script steps) fault = HoldsNoImage old name fault

pub record RefusesSource (words : List (List ℕ)) (old : Shelved) (refusal : Refusal) : Type 0 where
  pub command : Command
  pub reads : Reads words command
  pub holds : NoSourceOf old command refusal

pub record RefusesImage (words : List (List ℕ)) (old : Shelved) (fault : NoImage) : Type 0 where
  pub command : Command
  pub reads : Reads words command
  pub holds : NoImageOf old command fault

-- the script is looked at once there is an image
pub record RefusesScript (words : List (List ℕ)) (old : Shelved) (number : ℕ) : Type 0 where
  pub command : Command
  pub reads : Reads words command
  pub image : Image
  pub gives : GivesImage old command image
  pub holds : HoldsNoScript old (script_name command) image.ports number

-- a file could not be read, and no file was changed
pub record ReadFault (old new : Shelved) : Type 0 where
  pub files : new.files ≡ old.files
  pub fault : Rose old.read_faults new.read_faults
  pub no_write : new.write_faults ≡ old.write_faults

pub record FailsToRead (words : List (List ℕ)) (old new : Shelved) : Type 0 where
  pub command : Command
  pub reads : Reads words command
  pub faulted : ReadFault old new

-- the file of this name could not be written: nothing is told of it, and every other one is as before
pub record WriteFault (old new : Shelved) (name : List ℕ) : Type 0 where
  pub others : without new.files name ≡ without old.files name
  pub fault : Rose old.write_faults new.write_faults
  pub no_read : new.read_faults ≡ old.read_faults

-- only a command that compiles writes a file
abbrev pub WriteFaultOf : Command → Shelved → Shelved → Type 0
WriteFaultOf (Run file script name steps) old new = WriteFault old new name
WriteFaultOf (Exec name script steps) old new = ⊥

pub record FailsToWrite (words : List (List ℕ)) (old new : Shelved) : Type 0 where
  pub command : Command
  pub image : Image
  pub inputs : List ScriptLine
  pub ready : IsReady words old command image inputs
  pub faulted : WriteFaultOf command old new

abbrev pub FailsBy : List (List ℕ) → Shelved → Shelved → Failure → Type 0
FailsBy words old new Words = RefusesWords words × (new ≡ old)
FailsBy words old new (Refused refusal) = RefusesSource words old refusal × (new ≡ old)
FailsBy words old new (Script number) = RefusesScript words old number × (new ≡ old)
FailsBy words old new (ImageRefused fault) = RefusesImage words old fault × (new ≡ old)
FailsBy words old new Read = FailsToRead words old new
FailsBy words old new Write = FailsToWrite words old new
FailsBy words old new Memory = new ≡ old
