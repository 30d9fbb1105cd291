-- What the words after the command say, read from the first to the last.
use Rattle.std.specs.Prelude.{ℕ, Bool, if◌then◌else◌, List, [], ◌∷◌, ◌++◌, Option, Some, None, option_map, option_and_then}
use Rattle.hb_command.specs.declared.reading.Reading.{Reading}
use Rattle.hb_command.specs.declared.rest.Rest.{Rest}
use Rattle.hb_command.specs.Readings.{nothing_said, read, is_name, is_whole}

abbrev pub begun : Rest
begun = record { reading = nothing_said; names = [] }

-- with this word among the names, where it is one
abbrev pub with_name : Bool → List ℕ → Rest → Rest
with_name name word rest = record { reading = rest.reading; names = if name then rest.names ++ word ∷ [] else rest.names }

-- what is said with this word more
abbrev pub after : List ℕ → Rest → Option Rest
after word rest =
    option_map (λ reading. record { reading = reading; names = (with_name (is_name rest.reading.next word) word rest).names }) (read rest.reading.next word rest.reading)

-- the words may end where no number is owed
abbrev pub whole : Rest → Option Rest
whole rest = if is_whole rest.reading.next then Some rest else None

-- what is said with all these words more
abbrev pub rest_after : Rest → List (List ℕ) → Option Rest
rest_after rest [] = whole rest
rest_after rest (word ∷ words) = option_and_then (λ more. rest_after more words) (after word rest)

abbrev pub rest_of : List (List ℕ) → Option Rest
rest_of words = rest_after begun words
