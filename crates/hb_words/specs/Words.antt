-- How the words of the command line are read.
use Rattle.std.specs.Prelude.{◌≡◌, ℕ, ◌+◌, ◌≤◌, ◌-◌, ◌*◌, ◌^◌, Bool, false, ◌&&◌, ◌==◌, nat_lt, if◌then◌else◌, List, [], ◌∷◌, ◌++◌, length, drop, codes, Option, Some, None, unwrap_or, option_and_then}
use Rattle.std.specs.List.{starts_with}
use Rattle.std.specs.Prelude.{nat_eq}
use Rattle.std.specs.Str.{IsUtf8, bytes_eq}
use Rattle.hb_base.specs.PortName.{is_digit}
use Rattle.hb_words.specs.declared.words.Command.{Command}
use Rattle.hb_words.specs.declared.words.Command.TheVariants.{Run, Exec}
use Rattle.hb_words.specs.declared.words.Kind.{Kind}
use Rattle.hb_words.specs.declared.words.Kind.TheVariants.{Name, StepsWord, StepsEquals, Dashes, Unknown}
use Rattle.hb_words.specs.declared.words.Rest.{Rest}

-- ---- numbers

-- the number with one decimal digit more, below 2^64
abbrev pub with_digit : ℕ → ℕ → Option ℕ
with_digit number c = if is_digit c && nat_lt (10 * number + (c - 48)) (2 ^ 64) then Some (10 * number + (c - 48)) else None

abbrev pub with_digits : ℕ → List ℕ → Option ℕ
with_digits number [] = Some number
with_digits number (c ∷ cs) = option_and_then (λ more. with_digits more cs) (with_digit number c)

-- one or more decimal digits, of a number below 2^64
abbrev pub number_of : List ℕ → Option ℕ
number_of [] = None
number_of (c ∷ cs) = with_digits 0 (c ∷ cs)

-- ---- the words after the command

-- a lone `-` is no option
abbrev pub is_option : List ℕ → Bool
is_option [] = false
is_option (c ∷ []) = false
is_option (c ∷ d ∷ cs) = c == 45

abbrev pub kind_of : List ℕ → Kind
kind_of word =
    if bytes_eq word (codes "--") then Dashes
    else if bytes_eq word (codes "--steps") then StepsWord
    else if starts_with nat_eq word (codes "--steps=") then StepsEquals
    else if is_option word then Unknown
    else Name

-- nothing said yet
abbrev pub nothing_said : Rest
nothing_said = record { steps = None; names = [] }

-- two parts of what words say; steps may be said once
abbrev pub both_steps : Option ℕ → Option ℕ → Option (Option ℕ)
both_steps None later = Some later
both_steps (Some n) None = Some (Some n)
both_steps (Some n) (Some m) = None

abbrev pub joined_steps : Rest → Rest → Option (Option ℕ) → Option Rest
joined_steps first later None = None
joined_steps first later (Some steps) = Some (record { steps = steps; names = first.names ++ later.names })

abbrev pub joined : Rest → Option Rest → Option Rest
joined first None = None
joined first (Some later) = joined_steps first later (both_steps first.steps later.steps)

abbrev pub with_name : List ℕ → Option Rest → Option Rest
with_name name rest = joined (record { steps = None; names = name ∷ [] }) rest

abbrev pub with_steps : Option ℕ → Option Rest → Option Rest
with_steps None rest = None
with_steps (Some n) rest = joined (record { steps = Some n; names = [] }) rest

-- what a word says before other words: by what those say, and by what the number in the first of them and the words
-- after it say
abbrev pub said : Kind → List ℕ → List (List ℕ) → Option Rest → Option Rest → Option Rest
said Name word words others numbered = with_name word others
said StepsWord word words others numbered = numbered
said StepsEquals word words others numbered = with_steps (number_of (drop 8 word)) others
said Dashes word words others numbered = Some (record { steps = None; names = words })
said Unknown word words others numbered = None

-- what words say; after `--` each word is a name
abbrev pub rest_of : List (List ℕ) → Option Rest
rest_of [] = Some nothing_said
rest_of (word ∷ []) = said (kind_of word) word [] (Some nothing_said) None
rest_of (word ∷ next ∷ words) = said (kind_of word) word (next ∷ words) (rest_of (next ∷ words)) (with_steps (number_of next) (rest_of words))

-- what words say after `--steps`
abbrev pub numbered : List (List ℕ) → Option Rest
numbered [] = None
numbered (next ∷ words) = with_steps (number_of next) (rest_of words)

-- no more words are left than there were, and what was said before with this is what is said now with the words left
pub record IsRead (old new : Rest) (what : Option Rest) (words left : List (List ℕ)) : Type 0 where
  pub fewer : length left ≤ length words
  pub same : joined new (rest_of left) ≡ joined old what

-- ---- commands

-- the steps that a run may do where no number is given
abbrev pub standard_steps : ℕ
standard_steps = 100000000

-- run FILE SCRIPT IMAGE, and exec IMAGE SCRIPT
abbrev pub run_of : ℕ → List (List ℕ) → Option Command
run_of steps [] = None
run_of steps (file ∷ []) = None
run_of steps (file ∷ script ∷ []) = None
run_of steps (file ∷ script ∷ image ∷ []) = Some (Run file script image steps)
run_of steps (file ∷ script ∷ image ∷ more ∷ names) = None

abbrev pub exec_of : ℕ → List (List ℕ) → Option Command
exec_of steps [] = None
exec_of steps (image ∷ []) = None
exec_of steps (image ∷ script ∷ []) = Some (Exec image script steps)
exec_of steps (image ∷ script ∷ more ∷ names) = None

abbrev pub named_command : List ℕ → Rest → Option Command
named_command word rest =
    if bytes_eq word (codes "run") then run_of (unwrap_or rest.steps standard_steps) rest.names
    else if bytes_eq word (codes "exec") then exec_of (unwrap_or rest.steps standard_steps) rest.names
    else None

-- the first word is the command
abbrev pub command_of : List (List ℕ) → Option Command
command_of [] = None
command_of (word ∷ words) = option_and_then (named_command word) (rest_of words)

-- each name of a file is UTF-8
abbrev pub HasNames : Command → Type 0
HasNames (Run file script image steps) = IsUtf8 file × IsUtf8 script × IsUtf8 image
HasNames (Exec image script steps) = IsUtf8 image × IsUtf8 script

-- the words are this command
pub record Reads (words : List (List ℕ)) (command : Command) : Type 0 where
  pub is : command_of words ≡ Some command
  pub names : HasNames command
