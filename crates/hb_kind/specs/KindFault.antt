-- When a program's kinds are refused: at the first whole type that has a sum where none may stand, or that fits no kinds together
-- with all before it.
use Rattle.std.specs.Prelude.{◌≡◌, true, false, List, [], ◌∷◌, ◌++◌, All, codes}
use Rattle.hb_base.specs.declared.place.Place.{Place}
use Rattle.hb_base.specs.declared.refusal.Refusal.{Refusal}
use Rattle.hb_base.specs.declared.refusal.Code.TheVariants.{E10}
use Rattle.hb_tree.specs.Types.{TypeExpr, AType}
use Rattle.hb_tree.specs.declared.declaration.Decl.{Decl}
use Rattle.hb_kind.specs.Wholes.{Placed, whole_types, has_wrong_sum}
use Rattle.hb_kind.specs.Least.{AreKinded}

-- the place of a type's first token
abbrev pub type_place : TypeExpr → Place
type_place (AType at t) = at

abbrev pub sum_refusal : Placed → Refusal
sum_refusal p = record { code = E10; place = type_place p.whole.of; detail = codes "sum" }

abbrev pub kind_refusal : Placed → Refusal
kind_refusal p = record { code = E10; place = type_place p.whole.of; detail = codes "kind" }

-- the whole types before one are fine
pub record IsFirst (ds : List Decl) (before : List Placed) (here : Placed) (after : List Placed) : Type 0 where
  pub wholes : whole_types ds ≡ before ++ here ∷ after
  pub kinded : AreKinded ds before
  pub no_sum : All (λ p. has_wrong_sum p.whole ≡ false) before

pub data KindFault (ds : List Decl) : Refusal → Type 0 where
  wrong_sum : {before after : List Placed} {here : Placed} → IsFirst ds before here after → has_wrong_sum here.whole ≡ true → KindFault ds (sum_refusal here)
  wrong_kind : {before after : List Placed} {here : Placed} → IsFirst ds before here after → has_wrong_sum here.whole ≡ false → ¬ AreKinded ds (before ++ here ∷ []) → KindFault ds (kind_refusal here)
