-- Which of two places comes first, and the earliest of what is met. The places of the prelude stand in line 0, and come after
-- all others.
use Rattle.std.specs.Prelude.{ℕ, Bool, true, false, List, [], ◌∷◌, nat_lt, nat_eq, Option, Some, None, if◌then◌else◌}
use Rattle.hb_base.specs.declared.place.Place.{Place}
use Rattle.hb_tree.specs.declared.types.NameAt.{NameAt}

abbrev pub is_before : Place → Place → Bool
is_before a b =
    if nat_eq a.line 0 then false
    else (if nat_eq b.line 0 then true
    else (if nat_eq a.line b.line then nat_lt a.col b.col else nat_lt a.line b.line))

-- of two things that were met, the one at the earlier place; the first one where both have one place
abbrev pub first_of : Option NameAt → NameAt → NameAt
first_of None met = met
first_of (Some first) met = if is_before met.place first.place then met else first

-- the earliest of what was met before and of these; of those at one place the first
abbrev pub earliest_of : Option NameAt → List NameAt → Option NameAt
earliest_of known [] = known
earliest_of known (at ∷ rest) = earliest_of (Some (first_of known at)) rest

abbrev pub earliest : List NameAt → Option NameAt
earliest all = earliest_of None all
