-- What each step of preparing may answer.
use Rattle.std.specs.Prelude.{◌≡◌, ℕ, List, Result, Ok, Err, Vec, codes}
use Rattle.std.specs.declared.alloc.Global.{Global}
use Rattle.hb_base.specs.declared.place.Place.{Place}
use Rattle.hb_base.specs.declared.port.Port.{Port}
use Rattle.hb_base.specs.declared.refusal.Code.TheVariants.{E05}
use Rattle.hb_base.specs.declared.refusal.Fault.{Fault}
use Rattle.hb_base.specs.declared.refusal.Fault.TheVariants as fault
use Rattle.hb_base.specs.declared.refusal.Refusal.{Refusal}
use Rattle.hb_base.specs.declared.script.Script.{Script as Inputs}
use Rattle.hb_base.specs.declared.script.ScriptLine.{ScriptLine}
use Rattle.hb_base.specs.Inputs.{AreInputs}
use Rattle.hb_compile.specs.Means.{Means}
use Rattle.hb_image.specs.declared.image.Image.{Image}
use Rattle.hb_image.specs.Format.{spelling}
use Rattle.hb_image.specs.Rules.{IsImage}
use Rattle.hb_io.specs.Files.{written, HoldsFront}
use Rattle.hb_mach.specs.State.{State, start}
use Rattle.hb_script.specs.Scripts.{script_of}
use Rattle.hb_second.specs.declared.source.Source.{Source}
use Rattle.hb_second.specs.Form.{IsForm}
use Rattle.hb_second.specs.Wrong.{FirstWrong}
use Rattle.hb_tree.specs.declared.declaration.Program.{Program}
use Rattle.hb_words.specs.declared.words.Command.{Command}
use Rattle.hb_words.specs.Words.{Reads}
use Rattle.hb_top.specs.declared.failure.Failure.{Failure}
use Rattle.hb_top.specs.declared.failure.Failure.TheVariants.{Words, Refused, Script, Image as ImageRefused, Read, Write, Memory}
use Rattle.hb_top.specs.declared.prepare.Prepared.{Prepared}
use Rattle.hb_top.specs.Sources.{Accepts, Refuses}
use Rattle.hb_top.specs.Preparing.{TakesSource, TakesImage, TakesScript, HoldsNoSource, HoldsNoImage, IsNoImage, HoldsNoScript, Compiled, GivesImage, NoSourceOf, NoImageOf, ReadFault, WriteFault, WriteFaultOf, shelf_after, RefusesWords, FailsBy, Loads}
use Rattle.hb_top.specs.World.{Shelved}

-- the command that the words are
abbrev pub FindsCommand : List (List ℕ) → Result Command Failure → Type 0
FindsCommand words (Ok command) = Reads words command
FindsCommand words (Err Words) = RefusesWords words
FindsCommand words (Err (Refused refusal)) = ⊥
FindsCommand words (Err (Script number)) = ⊥
FindsCommand words (Err (ImageRefused fault)) = ⊥
FindsCommand words (Err Read) = ⊥
FindsCommand words (Err Write) = ⊥
FindsCommand words (Err Memory) = Unit {0}

-- the first bytes of a file
abbrev pub ReadsFile : Shelved → Shelved → List ℕ → ℕ → Result (Vec ℕ Global) Failure → Type 0
ReadsFile old new name cap (Ok bytes) = HoldsFront old.files name cap bytes.items × (new ≡ old)
ReadsFile old new name cap (Err Words) = ⊥
ReadsFile old new name cap (Err (Refused refusal)) = ⊥
ReadsFile old new name cap (Err (Script number)) = ⊥
ReadsFile old new name cap (Err (ImageRefused fault)) = ⊥
ReadsFile old new name cap (Err Read) = ReadFault old new
ReadsFile old new name cap (Err Write) = ⊥
ReadsFile old new name cap (Err Memory) = new ≡ old

-- the failure of a pass over a source
abbrev pub failure_of : Fault → Failure
failure_of (fault.Refused refusal) = Refused refusal
failure_of fault.Memory = Memory

-- the program, whose text ends here, is no source of the form that is compiled; first at this refusal's place
pub record IsOtherForm (names : List (List ℕ)) (program : Program) (end : Place) (refusal : Refusal) : Type 0 where
  pub nothing : (source : Source) → ¬ IsForm names program source
  pub place : Place
  pub first : FirstWrong names program end place
  pub is : refusal ≡ record { code = E05; place = place; detail = codes "form" }

-- what becomes of a program as a source
abbrev pub JudgesForm : List (List ℕ) → Program → Place → Result Source Failure → Type 0
JudgesForm names program end (Ok source) = IsForm names program source
JudgesForm names program end (Err Words) = ⊥
JudgesForm names program end (Err (Refused refusal)) = IsOtherForm names program end refusal
JudgesForm names program end (Err (Script number)) = ⊥
JudgesForm names program end (Err (ImageRefused fault)) = ⊥
JudgesForm names program end (Err Read) = ⊥
JudgesForm names program end (Err Write) = ⊥
JudgesForm names program end (Err Memory) = Unit {0}

-- what becomes of bytes as a source
abbrev pub JudgesSource : List ℕ → Result Source Failure → Type 0
JudgesSource bytes (Ok source) = Accepts bytes source
JudgesSource bytes (Err Words) = ⊥
JudgesSource bytes (Err (Refused refusal)) = Refuses bytes refusal
JudgesSource bytes (Err (Script number)) = ⊥
JudgesSource bytes (Err (ImageRefused fault)) = ⊥
JudgesSource bytes (Err Read) = ⊥
JudgesSource bytes (Err Write) = ⊥
JudgesSource bytes (Err Memory) = Unit {0}

-- what becomes of bytes as an image
abbrev pub JudgesImage : List ℕ → Result Image Failure → Type 0
JudgesImage bytes (Ok image) = IsImage image × (bytes ≡ spelling image)
JudgesImage bytes (Err Words) = ⊥
JudgesImage bytes (Err (Refused refusal)) = ⊥
JudgesImage bytes (Err (Script number)) = ⊥
JudgesImage bytes (Err (ImageRefused fault)) = IsNoImage bytes fault
JudgesImage bytes (Err Read) = ⊥
JudgesImage bytes (Err Write) = ⊥
JudgesImage bytes (Err Memory) = Unit {0}

-- what becomes of bytes as a script
abbrev pub JudgesScript : List Port → List ℕ → Result Inputs Failure → Type 0
JudgesScript ports bytes (Ok script) = AreInputs ports script.lines × (script_of ports bytes ≡ Ok script.lines)
JudgesScript ports bytes (Err Words) = ⊥
JudgesScript ports bytes (Err (Refused refusal)) = ⊥
JudgesScript ports bytes (Err (Script number)) = script_of ports bytes ≡ Err number
JudgesScript ports bytes (Err (ImageRefused fault)) = ⊥
JudgesScript ports bytes (Err Read) = ⊥
JudgesScript ports bytes (Err Write) = ⊥
JudgesScript ports bytes (Err Memory) = Unit {0}

-- a source from a file
abbrev pub FindsSource : Shelved → Shelved → List ℕ → Result Source Failure → Type 0
FindsSource old new file (Ok source) = TakesSource old file source × (new ≡ old)
FindsSource old new file (Err Words) = ⊥
FindsSource old new file (Err (Refused refusal)) = HoldsNoSource old file refusal × (new ≡ old)
FindsSource old new file (Err (Script number)) = ⊥
FindsSource old new file (Err (ImageRefused fault)) = ⊥
FindsSource old new file (Err Read) = ReadFault old new
FindsSource old new file (Err Write) = ⊥
FindsSource old new file (Err Memory) = new ≡ old

-- an image that means a source
abbrev pub Builds : Source → Result Image Failure → Type 0
Builds source (Ok image) = IsImage image × Means source image
Builds source (Err Words) = ⊥
Builds source (Err (Refused refusal)) = ⊥
Builds source (Err (Script number)) = ⊥
Builds source (Err (ImageRefused fault)) = ⊥
Builds source (Err Read) = ⊥
Builds source (Err Write) = ⊥
Builds source (Err Memory) = Unit {0}

-- an image that is compiled from a file
abbrev pub CompilesFile : Shelved → Shelved → List ℕ → Result Image Failure → Type 0
CompilesFile old new file (Ok image) = IsImage image × Compiled old file image × (new ≡ old)
CompilesFile old new file (Err Words) = ⊥
CompilesFile old new file (Err (Refused refusal)) = HoldsNoSource old file refusal × (new ≡ old)
CompilesFile old new file (Err (Script number)) = ⊥
CompilesFile old new file (Err (ImageRefused fault)) = ⊥
CompilesFile old new file (Err Read) = ReadFault old new
CompilesFile old new file (Err Write) = ⊥
CompilesFile old new file (Err Memory) = new ≡ old

-- an image that is read from a file
abbrev pub FindsFile : Shelved → Shelved → List ℕ → Result Image Failure → Type 0
FindsFile old new name (Ok image) = IsImage image × TakesImage old name image × (new ≡ old)
FindsFile old new name (Err Words) = ⊥
FindsFile old new name (Err (Refused refusal)) = ⊥
FindsFile old new name (Err (Script number)) = ⊥
FindsFile old new name (Err (ImageRefused fault)) = HoldsNoImage old name fault × (new ≡ old)
FindsFile old new name (Err Read) = ReadFault old new
FindsFile old new name (Err Write) = ⊥
FindsFile old new name (Err Memory) = new ≡ old

-- the image of a command
abbrev pub FindsImage : Shelved → Shelved → Command → Result Image Failure → Type 0
FindsImage old new command (Ok image) = IsImage image × GivesImage old command image × (new ≡ old)
FindsImage old new command (Err Words) = ⊥
FindsImage old new command (Err (Refused refusal)) = NoSourceOf old command refusal × (new ≡ old)
FindsImage old new command (Err (Script number)) = ⊥
FindsImage old new command (Err (ImageRefused fault)) = NoImageOf old command fault × (new ≡ old)
FindsImage old new command (Err Read) = ReadFault old new
FindsImage old new command (Err Write) = ⊥
FindsImage old new command (Err Memory) = new ≡ old

-- the inputs that a file spells
abbrev pub FindsScript : Shelved → Shelved → List ℕ → List Port → Result Inputs Failure → Type 0
FindsScript old new name ports (Ok script) = AreInputs ports script.lines × TakesScript old name ports script.lines × (new ≡ old)
FindsScript old new name ports (Err Words) = ⊥
FindsScript old new name ports (Err (Refused refusal)) = ⊥
FindsScript old new name ports (Err (Script number)) = HoldsNoScript old name ports number × (new ≡ old)
FindsScript old new name ports (Err (ImageRefused fault)) = ⊥
FindsScript old new name ports (Err Read) = ReadFault old new
FindsScript old new name ports (Err Write) = ⊥
FindsScript old new name ports (Err Memory) = new ≡ old

-- bytes under a name
abbrev pub WritesFile : Shelved → Shelved → List ℕ → List ℕ → Result (Unit {0}) Failure → Type 0
WritesFile old new name bytes (Ok done) = new ≡ record old { files = written old.files name bytes }
WritesFile old new name bytes (Err Words) = ⊥
WritesFile old new name bytes (Err (Refused refusal)) = ⊥
WritesFile old new name bytes (Err (Script number)) = ⊥
WritesFile old new name bytes (Err (ImageRefused fault)) = ⊥
WritesFile old new name bytes (Err Read) = ⊥
WritesFile old new name bytes (Err Write) = WriteFault old new name
WritesFile old new name bytes (Err Memory) = new ≡ old

-- the machine at the start of a run
abbrev pub StartsMachine : Image → List ScriptLine → Result State Failure → Type 0
StartsMachine image inputs (Ok state) = state ≡ start image inputs
StartsMachine image inputs (Err Words) = ⊥
StartsMachine image inputs (Err (Refused refusal)) = ⊥
StartsMachine image inputs (Err (Script number)) = ⊥
StartsMachine image inputs (Err (ImageRefused fault)) = ⊥
StartsMachine image inputs (Err Read) = ⊥
StartsMachine image inputs (Err Write) = ⊥
StartsMachine image inputs (Err Memory) = Unit {0}

-- the machine at the start of a compiled run, once the image is written
abbrev pub StoresImage : Shelved → Shelved → List ℕ → Image → List ScriptLine → Result State Failure → Type 0
StoresImage old new name image inputs (Ok state) = (state ≡ start image inputs) × (new ≡ record old { files = written old.files name (spelling image) })
StoresImage old new name image inputs (Err Words) = ⊥
StoresImage old new name image inputs (Err (Refused refusal)) = ⊥
StoresImage old new name image inputs (Err (Script number)) = ⊥
StoresImage old new name image inputs (Err (ImageRefused fault)) = ⊥
StoresImage old new name image inputs (Err Read) = ⊥
StoresImage old new name image inputs (Err Write) = WriteFault old new name
StoresImage old new name image inputs (Err Memory) = new ≡ old

-- the machine at the start of a command's run
abbrev pub Finishes : Shelved → Shelved → Command → Image → List ScriptLine → Result State Failure → Type 0
Finishes old new command image inputs (Ok state) = (state ≡ start image inputs) × (new ≡ shelf_after command image old)
Finishes old new command image inputs (Err Words) = ⊥
Finishes old new command image inputs (Err (Refused refusal)) = ⊥
Finishes old new command image inputs (Err (Script number)) = ⊥
Finishes old new command image inputs (Err (ImageRefused fault)) = ⊥
Finishes old new command image inputs (Err Read) = ⊥
Finishes old new command image inputs (Err Write) = WriteFaultOf command old new
Finishes old new command image inputs (Err Memory) = new ≡ old

-- all that comes before the run
abbrev pub Prepares : List (List ℕ) → Shelved → Shelved → Result Prepared Failure → Type 0
Prepares words old new (Ok prepared) = Loads words old new prepared.machine prepared.steps
Prepares words old new (Err failure) = FailsBy words old new failure
