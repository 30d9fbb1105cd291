-- The grammar of scripts, apart from how they are read.
use Rattle.std.specs.Prelude.{◌≡◌, ℕ, ◌+◌, ◌*◌, ◌^◌, ◌<◌, ◌≤◌, ◌⊎◌, List, [], ◌∷◌, ◌++◌, length, All, IsSomeAnd, slice_get}
use Rattle.std.specs.Str.Parse.{IsNumeral, digits_value}
use Rattle.std.specs.Str.Lines.{lines}
use Rattle.hb_base.specs.declared.port.Dir.TheVariants.{In}
use Rattle.hb_base.specs.declared.port.Port.{Port}
use Rattle.hb_base.specs.declared.script.ScriptLine.{ScriptLine}
use Rattle.hb_script.specs.declared.fault.ScriptError.{ScriptError}
use Rattle.hb_script.specs.declared.fault.ScriptError.TheVariants.{Bad, Memory}
use Rattle.hb_script.specs.Scripts.{most_bytes}

-- a space or a tab
abbrev pub IsBlank : ℕ → Type 0
IsBlank c = (c ≡ 32) ⊎ (c ≡ 9)

-- blanks alone, or `#` first
abbrev pub IsSkipped : List ℕ → Type 0
IsSkipped [] = Unit {0}
IsSkipped (c ∷ cs) = (c ≡ 35) ⊎ All IsBlank (c ∷ cs)

-- an In port of this name, and a value of its width
pub record Suits (input : ScriptLine) (name : List ℕ) (port : Port) : Type 0 where
  pub way : port.dir ≡ In
  pub named : port.name ≡ name
  pub within : input.value < 2 ^ (8 * port.width)

-- a port's name, blanks, hexadecimal digits, and blanks at both ends if need be
pub record SaysInput (ports : List Port) (line : List ℕ) (input : ScriptLine) : Type 0 where
  pub left : List ℕ
  pub name : List ℕ
  pub between : List ℕ
  pub digits : List ℕ
  pub right : List ℕ
  pub parts : line ≡ left ++ (name ++ (between ++ (digits ++ right)))
  pub left_blank : All IsBlank left
  pub between_blank : All IsBlank between
  pub apart : 0 < length between
  pub right_blank : All IsBlank right
  pub numeral : IsNumeral 16 digits
  pub value : input.value ≡ digits_value 16 digits
  pub port : IsSomeAnd (slice_get ports input.port) (Suits input name)

-- the lines of a script say these inputs, one after another
abbrev pub SayInputs : List Port → List (List ℕ) → List ScriptLine → Type 0
SayInputs ports [] [] = Unit {0}
SayInputs ports [] (input ∷ inputs) = ⊥
SayInputs ports (line ∷ lines) [] = IsSkipped line × SayInputs ports lines []
SayInputs ports (line ∷ lines) (input ∷ inputs) = (IsSkipped line × SayInputs ports lines (input ∷ inputs)) ⊎ (SaysInput ports line input × SayInputs ports lines inputs)

-- the inputs that bytes spell
pub record Spells (ports : List Port) (bytes : List ℕ) (inputs : List ScriptLine) : Type 0 where
  pub short : length bytes ≤ most_bytes
  pub say : SayInputs ports (lines bytes) inputs

-- a line of a script
abbrev pub IsLine : List Port → List ℕ → Type 0
IsLine ports line = IsSkipped line ⊎ ((input : ScriptLine) × SaysInput ports line input)

-- the line of this number, from 1, is the first that is none of a script
pub record IsFirstWrong (ports : List Port) (lines : List (List ℕ)) (number : ℕ) : Type 0 where
  pub earlier : List (List ℕ)
  pub line : List ℕ
  pub later : List (List ℕ)
  pub parts : lines ≡ earlier ++ line ∷ later
  pub place : number ≡ length earlier + 1
  pub right : All (IsLine ports) earlier
  pub wrong : ¬ IsLine ports line

-- what the error of a script says, unless memory ran out: it is too long, or this is its first wrong line
abbrev pub IsFault : List Port → List ℕ → ScriptError → Type 0
IsFault ports bytes (Bad number) = ((number ≡ 0) × (most_bytes < length bytes)) ⊎ ((length bytes ≤ most_bytes) × IsFirstWrong ports (lines bytes) number)
IsFault ports bytes Memory = Unit {0}
