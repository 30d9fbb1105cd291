-- Scripts: the inputs of a run, a line each.
use Rattle.std.specs.Prelude.{ℕ, ◌≡◌, ◌+◌, ◌*◌, ◌^◌, Bool, true, false, ◌==◌, ◌&&◌, ◌||◌, not, nat_lt, if◌then◌else◌, List, [], ◌∷◌, length, filter, position, slice_get, Result, Ok, Err}
use Rattle.std.specs.Char.{is_digit}
use Rattle.std.specs.List.{slice_split, list_all}
use Rattle.std.specs.Option.{option_map_or}
use Rattle.std.specs.Str.{bytes_eq}
use Rattle.std.specs.Str.Lines.{lines}
use Rattle.std.specs.Str.Parse.{digits_value}
use Rattle.hb_base.specs.declared.port.Dir.{Dir}
use Rattle.hb_base.specs.declared.port.Dir.TheVariants.{In, Out}
use Rattle.hb_base.specs.declared.port.Port.{Port}
use Rattle.hb_base.specs.declared.script.ScriptLine.{ScriptLine}
use Rattle.hb_base.specs.declared.script.Script.{Script}
use Rattle.hb_script.specs.declared.content.Content.{Content}
use Rattle.hb_script.specs.declared.content.Content.TheVariants.{Nothing, Input, Wrong}
use Rattle.hb_script.specs.declared.fault.ScriptError.{ScriptError}
use Rattle.hb_script.specs.declared.fault.ScriptError.TheVariants.{Bad, Memory}

-- a longer script is refused as a whole
abbrev pub most_bytes : ℕ
most_bytes = 1048576

-- a space or a tab
abbrev pub is_blank : ℕ → Bool
is_blank c = (c == 32) || (c == 9)

abbrev pub is_no_blank : ℕ → Bool
is_no_blank c = not (is_blank c)

-- a line feed
abbrev pub is_feed : ℕ → Bool
is_feed c = c == 10

-- what stands between blanks; no word is empty
abbrev pub words : List ℕ → List (List ℕ)
words line = filter (λ word. nat_lt 0 (length word)) (slice_split is_blank line)

-- `#` is the first byte
abbrev pub is_comment : List ℕ → Bool
is_comment [] = false
is_comment (c ∷ cs) = c == 35

abbrev pub is_in : Dir → Bool
is_in In = true
is_in Out = false

abbrev pub is_input_named : List ℕ → Port → Bool
is_input_named name port = is_in port.dir && bytes_eq port.name name

-- a digit below 10, or a letter from A to F of either case
abbrev pub is_hex : ℕ → Bool
is_hex c = is_digit c 16

-- hexadecimal digits, and a value of so many bytes
abbrev pub is_value : ℕ → List ℕ → Bool
is_value width digits = list_all is_hex digits && nat_lt (digits_value 16 digits) (2 ^ (8 * width))

-- an input at the port of this number
unfoldable pub input_at : List Port → ℕ → List ℕ → Content
input_at ports number digits =
    option_map_or (λ port. if is_value port.width digits then Input (record { port = number; value = digits_value 16 digits }) else Wrong) (slice_get ports number) Wrong

-- an input at the In port of this name; no two ports have one name
unfoldable pub input_of : List Port → List ℕ → List ℕ → Content
input_of ports name digits = option_map_or (λ number. input_at ports number digits) (position (is_input_named name) ports) Wrong

-- a name and a value, or nothing
abbrev pub content_of_words : List Port → List (List ℕ) → Content
content_of_words ports [] = Nothing
content_of_words ports (name ∷ []) = Wrong
content_of_words ports (name ∷ digits ∷ []) = input_of ports name digits
content_of_words ports (name ∷ digits ∷ word ∷ more) = Wrong

unfoldable pub content_of : List Port → List ℕ → Content
content_of ports line = if is_comment line then Nothing else content_of_words ports (words line)

-- an input, and those of the lines after it
abbrev pub before : ScriptLine → Result (List ScriptLine) ℕ → Result (List ScriptLine) ℕ
before input (Ok inputs) = Ok (input ∷ inputs)
before input (Err number) = Err number

-- what a line and the lines after it give
abbrev pub joined : Content → ℕ → Result (List ScriptLine) ℕ → Result (List ScriptLine) ℕ
joined Nothing number others = others
joined (Input input) number others = before input others
joined Wrong number others = Err number

-- the inputs of the lines from this number on, or the number of the first wrong line
abbrev pub inputs_from : List Port → ℕ → List (List ℕ) → Result (List ScriptLine) ℕ
inputs_from ports number [] = Ok []
inputs_from ports number (line ∷ lines) = joined (content_of ports line) number (inputs_from ports (number + 1) lines)

-- the inputs that the bytes spell, or the number of the first wrong line, from 1, or 0 where the script is too long
unfoldable pub script_of : List Port → List ℕ → Result (List ScriptLine) ℕ
script_of ports bytes = if nat_lt most_bytes (length bytes) then Err 0 else inputs_from ports 1 (lines bytes)

-- the error of a script whose reading gives this number, unless memory ran out
abbrev pub Fails : Result (List ScriptLine) ℕ → ScriptError → Type 0
Fails reading (Bad number) = reading ≡ Err number
Fails reading Memory = Unit {0}

-- what was read is what the reading gives, unless memory ran out
abbrev pub Gives : Result Script ScriptError → Result (List ScriptLine) ℕ → Type 0
Gives (Ok script) reading = reading ≡ Ok script.lines
Gives (Err error) reading = Fails reading error
