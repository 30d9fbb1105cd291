-- The second pass, from the last node back to the first: it finds the depth of each form, and keeps the first place among
-- the forms that are too deep. It keeps how many parts are still to come at which depth.
use Rattle.std.specs.Prelude.{ℕ, zero, suc, ◌+◌, ◌-◌, Bool, true, false, nat_lt, ◌==◌, if◌then◌else◌, List, [], ◌∷◌, Option, Some, None}
use Rattle.hb_base.specs.declared.place.Place.{Place}
use Rattle.hb_depth.specs.declared.mark.Mark.{Mark}
use Rattle.hb_depth.specs.declared.shape.Around.{Around}
use Rattle.hb_depth.specs.declared.shape.Around.TheVariants.{Other, Head, Right}
use Rattle.hb_depth.specs.declared.shape.Kind.{Kind}
use Rattle.hb_depth.specs.declared.shape.Kind.TheVariants.{Levels, Apply, Arrow}
use Rattle.hb_depth.specs.declared.walk.Level.{Level}
use Rattle.hb_depth.specs.Depth.{is_head, is_right}
use Rattle.hb_depth.specs.Marking.{capped}

abbrev pub is_before : Place → Place → Bool
is_before a b = if a.line == b.line then nat_lt a.col b.col else nat_lt a.line b.line

-- the one of two places that is before the other
abbrev pub earlier : Option Place → Place → Place
earlier None place = place
earlier (Some best) place = if is_before place best then place else best

abbrev pub first_from : Option Place → List Place → Option Place
first_from best [] = best
first_from best (p ∷ ps) = first_from (Some (earlier best p)) ps

-- a form is joined with the one around it
abbrev pub is_joined : Around → Kind → Bool
is_joined around (Levels n) = false
is_joined around Apply = is_head around
is_joined around Arrow = is_right around

abbrev pub under : Bool → ℕ → ℕ → ℕ
under true depth levels = depth
under false depth levels = capped (depth + levels)

abbrev pub noted : Bool → ℕ → Option Place → Option Place → Option Place
noted true depth place best = best
noted false depth None best = best
noted false depth (Some place) best = if nat_lt 200 depth then Some (earlier best place) else best

abbrev pub level : ℕ → ℕ → Around → Level
level left depth around = record { left = left; depth = depth; around = around }

-- so many parts more are to come
abbrev pub pushed : ℕ → ℕ → Around → List Level → List Level
pushed zero depth around levels = levels
pushed (suc n) depth around levels = level (suc n) depth around ∷ levels

-- one part of the first level has come
abbrev pub kept : Level → List Level → List Level
kept l levels = if nat_lt 1 l.left then level (l.left - 1) l.depth l.around ∷ levels else levels

-- the parts of a form are to come, the last one first
abbrev pub parts_pushed : Kind → ℕ → ℕ → List Level → List Level
parts_pushed (Levels n) parts depth levels = pushed parts depth Other levels
parts_pushed Apply parts depth levels = level 1 depth Other ∷ level 1 depth Head ∷ levels
parts_pushed Arrow parts depth levels = level 1 depth Right ∷ level 1 depth Other ∷ levels

abbrev pub levels_after : List Level → Mark → List Level
levels_after [] m = []
levels_after (l ∷ levels) m = parts_pushed m.shape.kind m.shape.parts (under (is_joined l.around m.shape.kind) l.depth m.levels) (kept l levels)

abbrev pub best_after : List Level → Option Place → Mark → Option Place
best_after [] best m = best
best_after (l ∷ levels) best m = noted (is_joined l.around m.shape.kind) l.depth m.shape.place best

abbrev pub walked : List Level → Option Place → List Mark → Option Place
walked levels best [] = best
walked levels best (m ∷ marks) = walked (levels_after levels m) (best_after levels best m) marks
