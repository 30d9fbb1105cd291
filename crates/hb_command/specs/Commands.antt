-- The commands that words are.
use Rattle.std.specs.Prelude.{◌≡◌, ℕ, if◌then◌else◌, List, [], ◌∷◌, codes, Option, Some, None, unwrap_or, option_map, option_and_then}
use Rattle.std.specs.Str.{IsUtf8, bytes_eq}
use Rattle.hb_command.specs.declared.command.Command.{Command}
use Rattle.hb_command.specs.declared.command.Command.TheVariants.{Run, Build, Exec, Sample}
use Rattle.hb_command.specs.declared.reading.Reading.{Reading}
use Rattle.hb_command.specs.declared.rest.Rest.{Rest}
use Rattle.hb_command.specs.Numbers.{standard_steps, stack_of, sample_number}
use Rattle.hb_command.specs.Readings.{is_said, is_bare}
use Rattle.hb_command.specs.Rests.{rest_of}

-- run FILE SCRIPT IMAGE
abbrev pub run_of : Reading → List (List ℕ) → Option Command
run_of reading [] = None
run_of reading (file ∷ []) = None
run_of reading (file ∷ script ∷ []) = None
run_of reading (file ∷ script ∷ image ∷ []) = option_map (λ stack. Run file script image (unwrap_or reading.steps standard_steps) stack reading.map) (stack_of reading.stack)
run_of reading (file ∷ script ∷ image ∷ more ∷ names) = None

-- build FILE IMAGE
abbrev pub build_of : Reading → List (List ℕ) → Option Command
build_of reading [] = None
build_of reading (file ∷ []) = None
build_of reading (file ∷ image ∷ []) =
    if is_said reading.steps then None
    else option_map (λ stack. Build file image stack reading.map) (stack_of reading.stack)
build_of reading (file ∷ image ∷ more ∷ names) = None

-- exec IMAGE SCRIPT
abbrev pub exec_of : Reading → List (List ℕ) → Option Command
exec_of reading [] = None
exec_of reading (image ∷ []) = None
exec_of reading (image ∷ script ∷ []) =
    if is_said reading.stack then None
    else if reading.map then None
    else Some (Exec image script (unwrap_or reading.steps standard_steps))
exec_of reading (image ∷ script ∷ more ∷ names) = None

-- sample NUMBER FILE, or sample NUMBER FILE IMAGE
abbrev pub sample_alone : ℕ → List ℕ → Option Command
sample_alone number file = Some (Sample number file None)

abbrev pub sample_with : ℕ → List ℕ → List ℕ → Option Command
sample_with number file image = Some (Sample number file (Some image))

abbrev pub numbered_sample : ℕ → List (List ℕ) → Option Command
numbered_sample number [] = None
numbered_sample number (file ∷ []) = sample_alone number file
numbered_sample number (file ∷ image ∷ []) = sample_with number file image
numbered_sample number (file ∷ image ∷ more ∷ names) = None

abbrev pub sample_names : List (List ℕ) → Option Command
sample_names [] = None
sample_names (number ∷ files) = option_and_then (λ n. numbered_sample n files) (sample_number number)

abbrev pub sample_of : Reading → List (List ℕ) → Option Command
sample_of reading names = if is_bare reading then sample_names names else None

abbrev pub other_command : List ℕ → Rest → Option Command
other_command word rest =
    if bytes_eq word (codes "exec") then exec_of rest.reading rest.names
    else if bytes_eq word (codes "sample") then sample_of rest.reading rest.names
    else None

abbrev pub named_command : List ℕ → Rest → Option Command
named_command word rest =
    if bytes_eq word (codes "run") then run_of rest.reading rest.names
    else if bytes_eq word (codes "build") then build_of rest.reading rest.names
    else other_command word rest

-- the first word is the command
abbrev pub command_of : List (List ℕ) → Option Command
command_of [] = None
command_of (word ∷ words) = option_and_then (named_command word) (rest_of words)

-- each name of a file is UTF-8
abbrev pub HasNames : Command → Type 0
HasNames (Run file script image steps stack map) = IsUtf8 file × IsUtf8 script × IsUtf8 image
HasNames (Build file image stack map) = IsUtf8 file × IsUtf8 image
HasNames (Exec image script steps) = IsUtf8 image × IsUtf8 script
HasNames (Sample number file None) = IsUtf8 file
HasNames (Sample number file (Some image)) = IsUtf8 file × IsUtf8 image

-- the words are this command
pub record Reads (words : List (List ℕ)) (command : Command) : Type 0 where
  pub is : command_of words ≡ Some command
  pub names : HasNames command
