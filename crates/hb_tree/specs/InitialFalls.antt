-- Each part of an initialiser is smaller than the initialiser.
use Rattle.std.specs.Prelude.{◌+◌, ◌≤◌, max, List, [], ◌∷◌}
use Rattle.std.proofs.Common.{arith}
use denote.Param.Weighed.{most}
use Rattle.hb_base.specs.declared.place.Place.{Place}
use Rattle.hb_tree.specs.Initials.{init_size, fields_size}
use Rattle.hb_tree.specs.InitialViews.{field_inits, init_kind}
use Rattle.hb_tree.specs.declared.initial.InitKind.{InitKind as Kind}
use Rattle.hb_tree.specs.declared.initial.InitKind.TheVariants as kind
use Rattle.hb_tree.specs.declared.initial.FieldInit.{FieldInit}
use Rattle.hb_tree.specs.declared.initial.InitExpr.TheDeep.{deep-InitKind, deep-FieldInit}

pub fields_fall : (fs : List FieldInit) → most (λ f. deep-FieldInit f) fs ≤ fields_size (field_inits fs) + 1
fields_fall [] = omega arith
fields_fall (f ∷ fs) = omega (arith, fields_fall fs)

pub kind_falls : (place : Place) (k : Kind) → max (deep-InitKind k) 0 ≤ init_size (init_kind place k)
kind_falls place (kind.Each name i) = omega arith
kind_falls place (kind.Fields fs) = omega (arith, fields_fall fs)
kind_falls place (kind.Cell e) = omega arith
