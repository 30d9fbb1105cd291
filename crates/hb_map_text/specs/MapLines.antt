-- The lines of a map, each with its line feed.
use Rattle.std.specs.Prelude.{ℕ, ◌+◌, ◌-◌, ◌%◌, List, [], ◌∷◌, ◌++◌, codes}
use Rattle.hb_base.specs.declared.place.Place.{Place}
use Rattle.hb_base.specs.declared.port.Dir.{Dir}
use Rattle.hb_base.specs.declared.port.Dir.TheVariants.{In, Out}
use Rattle.hb_bits.specs.declared.pattern.Pattern.{Pattern}
use Rattle.hb_map_text.specs.Pieces.{after_blank, number_after, address_after, pattern_after, place_after, dotted_after}
use Rattle.hb_map_text.specs.declared.line.MapLine.{MapLine}
use Rattle.hb_map_text.specs.declared.line.MapLine.TheVariants.{Area, Field, Port, Stack, Bits, Junk, Confusion, Room}

-- ---- the last words of a line

abbrev pub last_number : ℕ → List ℕ
last_number number = number_after number ++ (10 ∷ [])

abbrev pub two_numbers : ℕ → ℕ → List ℕ
two_numbers first second = number_after first ++ last_number second

abbrev pub address_and_number : ℕ → ℕ → List ℕ
address_and_number address number = address_after address ++ last_number number

abbrev pub pattern_last : Pattern → List ℕ
pattern_last pattern = pattern_after pattern ++ (10 ∷ [])

abbrev pub pair_and_pattern : List ℕ → List ℕ → Pattern → List ℕ
pair_and_pattern first second pattern = after_blank first ++ (after_blank second ++ pattern_last pattern)

abbrev pub way_after : Dir → List ℕ
way_after In = codes " In"
way_after Out = codes " Out"

-- ---- lines

abbrev pub area_line : List ℕ → ℕ → ℕ → ℕ → List ℕ
area_line name address size align = codes "area" ++ (after_blank name ++ (address_after address ++ two_numbers size align))

abbrev pub field_line : List ℕ → List ℕ → ℕ → ℕ → List ℕ
field_line owner name offset size = codes "field" ++ (dotted_after owner name ++ two_numbers offset size)

abbrev pub port_line : List ℕ → Dir → ℕ → ℕ → List ℕ
port_line name way address bytes = codes "port" ++ (after_blank name ++ (way_after way ++ address_and_number address bytes))

-- a stack has whole words; with 1,024 bytes more its region ends at 40000000
abbrev pub stack_bytes : ℕ → ℕ
stack_bytes stack = stack - stack % 4

abbrev pub stack_line : ℕ → List ℕ
stack_line stack = codes "stack" ++ address_and_number (1073741824 - stack_bytes stack - 1024) (stack_bytes stack)

abbrev pub bits_line : List ℕ → ℕ → List ℕ
bits_line name width = codes "bits" ++ (after_blank name ++ last_number width)

abbrev pub junk_line : List ℕ → Pattern → List ℕ
junk_line name pattern = codes "junk" ++ (after_blank name ++ pattern_last pattern)

abbrev pub confusion_line : List ℕ → List ℕ → List ℕ → Pattern → List ℕ
confusion_line name first second pattern = codes "confusion" ++ (after_blank name ++ pair_and_pattern first second pattern)

abbrev pub room_line : List ℕ → Place → ℕ → List ℕ
room_line name place bytes = codes "room" ++ (after_blank name ++ (place_after place.line place.col ++ last_number bytes))

abbrev pub line_of : MapLine → List ℕ
line_of (Area name address size align) = area_line name.now address size align
line_of (Field owner name offset size) = field_line owner.now name.now offset size
line_of (Port name way address bytes) = port_line name.now way address bytes
line_of (Stack bytes) = stack_line bytes
line_of (Bits name width) = bits_line name.now width
line_of (Junk name pattern) = junk_line name.now pattern
line_of (Confusion name first second pattern) = confusion_line name.now first.now second.now pattern
line_of (Room name place bytes) = room_line name.now place bytes
