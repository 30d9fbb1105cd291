-- The lines of a trace.
use Rattle.std.specs.Prelude.{ℕ, ◌+◌, ◌-◌, ◌*◌, ◌/◌, ◌%◌, ◌^◌, ◌<◌, List, [], ◌∷◌, ◌++◌, drop, if◌then◌else◌, nat_lt, slice_get, IsSomeAnd}
use Rattle.std.specs.Int.{w32, to_be_bytes}
use Rattle.std.specs.List.{flat_map}
use Rattle.std.specs.Option.{option_map_or}
use Rattle.hb_base.specs.declared.port.Port.{Port}
use Rattle.hb_base.specs.declared.step.Step.{Step}
use Rattle.hb_base.specs.declared.step.Step.TheVariants.{Going, Read, Wrote, Ended}

-- `0` to `9`, then `A` to `F`
abbrev pub hex_digit : ℕ → ℕ
hex_digit digit = if nat_lt digit 10 then 48 + digit else 55 + digit

abbrev pub hex_byte : ℕ → List ℕ
hex_byte byte = hex_digit (byte / 16) ∷ hex_digit (byte % 16) ∷ []

-- a value of so many bytes, the highest first, two digits each
abbrev pub hex : ℕ → ℕ → List ℕ
hex width value = flat_map hex_byte (drop (4 - width) (to_be_bytes w32 value))

-- a letter, the port's name and the value, with a space between, and a line feed
abbrev pub event_line : ℕ → ℕ → Port → List ℕ
event_line letter value port = letter ∷ 32 ∷ port.name ++ 32 ∷ hex port.width value ++ 10 ∷ []

-- the line of an event at the port of this number
abbrev pub line_at : ℕ → List Port → ℕ → ℕ → List ℕ
line_at letter ports port value = option_map_or (event_line letter value) (slice_get ports port) []

-- `r` is 114, `w` is 119
abbrev pub line_of : List Port → Step → List ℕ
line_of ports Going = []
line_of ports (Read port value) = line_at 114 ports port value
line_of ports (Wrote port value) = line_at 119 ports port value
line_of ports (Ended stop) = []

abbrev pub lines_of : List Port → List Step → List ℕ
lines_of ports steps = flat_map (line_of ports) steps

-- the port of this number is there, and the value has its width
abbrev pub IsEvent : List Port → ℕ → ℕ → Type 0
IsEvent ports port value = IsSomeAnd (slice_get ports port) (λ p. value < 2 ^ (8 * p.width))

-- the step has a line at these ports, or needs none
abbrev pub IsShown : List Port → Step → Type 0
IsShown ports Going = Unit {0}
IsShown ports (Read port value) = IsEvent ports port value
IsShown ports (Wrote port value) = IsEvent ports port value
IsShown ports (Ended stop) = Unit {0}
