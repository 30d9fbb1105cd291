-- What one word after the command does to what the words before it said.
use Rattle.std.specs.Prelude.{ℕ, Bool, true, false, not, ◌==◌, nat_eq, if◌then◌else◌, List, [], ◌∷◌, drop, codes, Option, Some, None, option_map}
use Rattle.std.specs.List.{starts_with}
use Rattle.std.specs.Str.{bytes_eq}
use Rattle.hb_command.specs.declared.reading.Kind.{Kind}
use Rattle.hb_command.specs.declared.reading.Kind.TheVariants.{Name, StepsWord, StepsEquals, StackWord, StackEquals, MapWord, Dashes, Unknown}
use Rattle.hb_command.specs.declared.reading.Next.{Next}
use Rattle.hb_command.specs.declared.reading.Next.TheVariants.{Any, Steps, Stack, Names}
use Rattle.hb_command.specs.declared.reading.Reading.{Reading}
use Rattle.hb_command.specs.Numbers.{number_of}

-- a lone `-` is no option
abbrev pub is_option : List ℕ → Bool
is_option [] = false
is_option (c ∷ []) = false
is_option (c ∷ d ∷ cs) = c == 45

abbrev pub other_kind : List ℕ → Kind
other_kind word =
    if bytes_eq word (codes "--") then Dashes
    else if bytes_eq word (codes "--steps") then StepsWord
    else if starts_with nat_eq word (codes "--steps=") then StepsEquals
    else if is_option word then Unknown
    else Name

abbrev pub kind_of : List ℕ → Kind
kind_of word =
    if bytes_eq word (codes "--map") then MapWord
    else if bytes_eq word (codes "--stack") then StackWord
    else if starts_with nat_eq word (codes "--stack=") then StackEquals
    else other_kind word

-- the number in `--steps=N` or `--stack=N`
abbrev pub number_after : List ℕ → Option ℕ
number_after word = number_of (drop 8 word)

abbrev pub is_said : Option ℕ → Bool
is_said None = false
is_said (Some number) = true

-- before the first word after the command
abbrev pub nothing_said : Reading
nothing_said = record { next = Any; steps = None; stack = None; map = false }

abbrev pub with_next : Next → Reading → Reading
with_next next reading = record { next = next; steps = reading.steps; stack = reading.stack; map = reading.map }

-- each option is said once at most, and one with a number has one
abbrev pub with_steps : Option ℕ → Reading → Option Reading
with_steps number reading =
    if is_said reading.steps then None
    else option_map (λ steps. record { next = Any; steps = Some steps; stack = reading.stack; map = reading.map }) number

abbrev pub with_stack : Option ℕ → Reading → Option Reading
with_stack number reading =
    if is_said reading.stack then None
    else option_map (λ stack. record { next = Any; steps = reading.steps; stack = Some stack; map = reading.map }) number

abbrev pub with_map : Reading → Option Reading
with_map reading =
    if reading.map then None
    else Some (record { next = Any; steps = reading.steps; stack = reading.stack; map = true })

-- a word that may be an option or a positional word
abbrev pub read_any : Kind → List ℕ → Reading → Option Reading
read_any Name word reading = Some reading
read_any StepsWord word reading = Some (with_next Steps reading)
read_any StepsEquals word reading = with_steps (number_after word) reading
read_any StackWord word reading = Some (with_next Stack reading)
read_any StackEquals word reading = with_stack (number_after word) reading
read_any MapWord word reading = with_map reading
read_any Dashes word reading = Some (with_next Names reading)
read_any Unknown word reading = None

-- a word by what it is to be; the value of an option is the next word whatever it is
abbrev pub read : Next → List ℕ → Reading → Option Reading
read Any word reading = read_any (kind_of word) word reading
read Steps word reading = with_steps (number_of word) reading
read Stack word reading = with_stack (number_of word) reading
read Names word reading = Some reading

abbrev pub is_name_kind : Kind → Bool
is_name_kind Name = true
is_name_kind StepsWord = false
is_name_kind StepsEquals = false
is_name_kind StackWord = false
is_name_kind StackEquals = false
is_name_kind MapWord = false
is_name_kind Dashes = false
is_name_kind Unknown = false

-- a positional word
abbrev pub is_name : Next → List ℕ → Bool
is_name Any word = is_name_kind (kind_of word)
is_name Steps word = false
is_name Stack word = false
is_name Names word = true

-- no number is owed
abbrev pub is_whole : Next → Bool
is_whole Any = true
is_whole Steps = false
is_whole Stack = false
is_whole Names = true

-- no option is said
abbrev pub is_bare : Reading → Bool
is_bare reading = if is_said reading.steps then false else if is_said reading.stack then false else not reading.map
