-- Which of the faults that were met is told: that of the first rule that is broken.
use Rattle.std.specs.Prelude.{Bool, true, false, Option, Some, None}
use Rattle.hb_base.specs.declared.refusal.Code.{Code}
use Rattle.hb_base.specs.declared.refusal.Code.TheVariants.{E06, E07, E08, E09}
use Rattle.hb_tree.specs.declared.types.NameAt.{NameAt}
use Rattle.hb_scope.specs.declared.faults.Faults.{Faults}

-- the fault of this rule where there is one, or else the other
abbrev pub told_at : Code → Option NameAt → Option (Code × NameAt) → Option (Code × NameAt)
told_at code None other = other
told_at code (Some at) other = Some (code, at)

abbrev pub first_fault : Faults → Option (Code × NameAt)
first_fault f = told_at E06 f.unbound (told_at E07 f.twice (told_at E08 f.clash (told_at E09 f.lone None)))

-- the rules of names
abbrev pub is_of_names : Code → Bool
is_of_names E06 = true
is_of_names E07 = true
is_of_names E08 = true
is_of_names E09 = true
is_of_names code = false
