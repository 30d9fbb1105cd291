-- How deep each form of a program is, which forms are too deep, and the first of these. The program is at depth 0 and its
-- declarations at 1. Local rows, signatures of a class, equations of an instance, expressions, patterns, types, predicates
-- and initialisers are one level each.
use Rattle.std.specs.Prelude.{◌≡◌, ℕ, ◌+◌, ◌≤◌, ◌<◌, ◌⊎◌, Bool, true, false, nat_lt, if◌then◌else◌, List, [], ◌∷◌, ◌++◌, Option, Some, None}
use Rattle.std.specs.List.{All, Contains}
use Rattle.hb_base.specs.declared.place.Place.{Place}
use Rattle.hb_tree.specs.declared.declaration.Program.{Program}
use Rattle.hb_depth.specs.declared.shape.Around.{Around}
use Rattle.hb_depth.specs.declared.shape.Around.TheVariants.{Other, Head, Right}
use Rattle.hb_depth.specs.Forms.{Form, Whole, Applied, Arrowed, Forms, NoForms, MoreForms, program_form}

-- how many arguments an application has, and how many arrows to the right an arrow is made of; none for other forms

abbrev pub arguments : Form → ℕ
arguments (Applied place f x) = arguments f + 1
arguments (Whole k place parts) = 0
arguments (Arrowed place a b) = 0

abbrev pub arrows : Form → ℕ
arrows (Arrowed place a b) = arrows b + 1
arrows (Whole k place parts) = 0
arrows (Applied place f x) = 0

abbrev pub is_head : Around → Bool
is_head Head = true
is_head Other = false
is_head Right = false

abbrev pub is_right : Around → Bool
is_right Right = true
is_right Other = false
is_right Head = false

-- The depth of parts that are so many levels deeper than a form at this depth. A form that is joined with the one around it
-- is no level: its parts are as deep as it would be.
abbrev pub below : Bool → ℕ → ℕ → ℕ
below true depth levels = depth
below false depth levels = depth + levels

-- the form itself, where it is too deep; it is no form of its own where it is joined with the one around it
abbrev pub itself : Bool → ℕ → Option Place → List Place
itself true depth place = []
itself false depth None = []
itself false depth (Some place) = if nat_lt 200 depth then place ∷ [] else []

-- The places of the forms that are too deep in a form at this depth: its own, and then those in its parts, the last part
-- first. An application to k arguments, k arrows to the right and a run of k operators have parts k levels deeper: what is
-- applied in an application is joined with it if it is an application, and what is behind an arrow if it is an arrow.
abbrev mutual
  pub deep : Around → ℕ → Form → List Place
  deep around depth (Whole levels place parts) = itself false depth place ++ all_deep (depth + levels) parts
  deep around depth (Applied place f x) = itself (is_head around) depth (Some place) ++ (deep Other (below (is_head around) depth (arguments f + 1)) x ++ deep Head (below (is_head around) depth (arguments f + 1)) f)
  deep around depth (Arrowed place a b) = itself (is_right around) depth (Some place) ++ (deep Right (below (is_right around) depth (arrows b + 1)) b ++ deep Other (below (is_right around) depth (arrows b + 1)) a)

  pub all_deep : ℕ → Forms → List Place
  all_deep depth NoForms = []
  all_deep depth (MoreForms f fs) = all_deep depth fs ++ deep Other depth f

-- the places of the forms of a program that are deeper than 200; the program itself is at depth 0
abbrev pub too_deep : Program → List Place
too_deep p = deep Other 0 (program_form p)

-- a place that is the same as another or before it
abbrev pub IsNotAfter : Place → Place → Type 0
IsNotAfter a b = (a.line < b.line) ⊎ ((a.line ≡ b.line) × (a.col ≤ b.col))

-- the first of these places in the text, if there is any
abbrev pub IsFirst : Option Place → List Place → Type 0
IsFirst None places = places ≡ []
IsFirst (Some place) places = Contains places place × All (IsNotAfter place) places
