-- The classes of bytes, the longest run of a class, and the places that bytes lead to.
use Rattle.std.specs.Prelude.{ℕ, suc, true, false, ◌+◌, ◌-◌, ◌%◌, Bool, ◌&&◌, ◌||◌, ◌==◌, nat_le, if◌then◌else◌, List, [], ◌∷◌, take}
use Rattle.hb_base.specs.declared.place.Place.{Place}
use Rattle.hb_base.specs.PortName.{is_lower, is_upper, is_digit, continues_name}
use Rattle.hb_lex.specs.declared.bytes.Class.{Class}
use Rattle.hb_lex.specs.declared.bytes.Class.TheVariants.{Name, LetterOrDigit, Symbol, InLine, Allowed}

-- a tab, a line feed, a carriage return, or 20 to 7E
abbrev pub is_allowed : ℕ → Bool
is_allowed c = (c == 9) || ((c == 10) || ((c == 13) || (nat_le 32 c && nat_le c 126)))

-- a space, a tab, a line feed or a carriage return
abbrev pub is_white : ℕ → Bool
is_white c = (c == 32) || ((c == 9) || ((c == 10) || (c == 13)))

-- a letter, a digit or `_`: what cannot stand right after a number
abbrev pub is_letter_or_digit : ℕ → Bool
is_letter_or_digit c = is_lower c || (is_upper c || (is_digit c || (c == 95)))

-- one of ! # $ % & * + . / < = > ? @ \ ^ | - ~ :
abbrev pub is_symbol : ℕ → Bool
is_symbol c =
    (c == 33) || ((c == 35) || ((c == 36) || ((c == 37) || ((c == 38) || ((c == 42) || ((c == 43) || ((c == 46)
    || ((c == 47) || ((c == 60) || ((c == 61) || ((c == 62) || ((c == 63) || ((c == 64) || ((c == 92) || ((c == 94)
    || ((c == 124) || ((c == 45) || ((c == 126) || (c == 58)))))))))))))))))))

-- one of ( ) [ ] { } , ; and the backquote
abbrev pub is_mark : ℕ → Bool
is_mark c =
    (c == 40) || ((c == 41) || ((c == 91) || ((c == 93) || ((c == 123) || ((c == 125) || ((c == 44) || ((c == 59) || (c == 96))))))))

-- a line feed ends a line
abbrev pub is_in_line : ℕ → Bool
is_in_line c = if c == 10 then false else true

abbrev pub belongs : Class → ℕ → Bool
belongs Name c = continues_name c
belongs LetterOrDigit c = is_letter_or_digit c
belongs Symbol c = is_symbol c
belongs InLine c = is_in_line c
belongs Allowed c = is_allowed c

-- how many bytes from the first on are of a class, as long as they go on
unfoldable pub run : (ℕ → Bool) → List ℕ → ℕ
run is_of [] = 0
run is_of (c ∷ cs) = if is_of c then suc (run is_of cs) else 0

-- the longest run of a class, from the first byte on
abbrev pub front : Class → List ℕ → List ℕ
front class bytes = take (run (belongs class) bytes) bytes

-- the place after a byte: a line feed ends a line, and a tab leads to the next column of the form 8k + 1
abbrev pub next_place : Place → ℕ → Place
next_place place c =
    if c == 10 then record { line = place.line + 1; col = 1 }
    else if c == 9 then record { line = place.line; col = place.col + (8 - (place.col - 1) % 8) }
    else record { line = place.line; col = place.col + 1 }

-- the place after these bytes
abbrev pub place_after : Place → List ℕ → Place
place_after place [] = place
place_after place (c ∷ cs) = place_after (next_place place c) cs

-- where the first byte of a source stands
abbrev pub first_place : Place
first_place = record { line = 1; col = 1 }
