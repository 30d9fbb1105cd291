-- What contracts see of an initialiser.
use Rattle.std.specs.Prelude.{List, [], ◌∷◌}
use Rattle.hb_base.specs.declared.place.Place.{Place}
use Rattle.hb_tree.specs.Initials.{InitExpr, Each, Fields, Cell, FieldInits, NoFieldInits, MoreFieldInits}
use Rattle.hb_tree.specs.declared.initial.InitKind.{InitKind as Kind}
use Rattle.hb_tree.specs.declared.initial.InitKind.TheVariants as kind
use Rattle.hb_tree.specs.declared.initial.FieldInit.{FieldInit}

-- the fields of a list, one after another
abbrev pub field_inits : List FieldInit → FieldInits
field_inits [] = NoFieldInits
field_inits (f ∷ fs) = MoreFieldInits f.name f.init (field_inits fs)

-- the form at this place, with each part as it is seen
abbrev pub init_kind : Place → Kind → InitExpr
init_kind place (kind.Each name i) = Each place name i.value
init_kind place (kind.Fields fs) = Fields place (field_inits fs)
init_kind place (kind.Cell e) = Cell place e
