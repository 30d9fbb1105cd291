-- Initialisers of areas, as contracts see them, each with the place of its first token.
use Rattle.std.specs.Prelude.{ℕ, ◌+◌}
use Rattle.hb_base.specs.declared.place.Place.{Place}
use Rattle.hb_tree.specs.declared.types.NameAt.{NameAt}
use Rattle.hb_tree.specs.Expressions.{Expr}

mutual
  pub data InitExpr : Type 0 where
    Each : Place → NameAt → InitExpr → InitExpr
    Fields : Place → FieldInits → InitExpr
    Cell : Place → Expr → InitExpr

  -- the name of the first field, what it begins with, and the other fields
  pub data FieldInits : Type 0 where
    NoFieldInits : FieldInits
    MoreFieldInits : NameAt → InitExpr → FieldInits → FieldInits

-- how many forms and list entries an initialiser is made of: each part has fewer
abbrev mutual
  pub init_size : InitExpr → ℕ
  init_size (Each place name i) = init_size i + 1
  init_size (Fields place fs) = fields_size fs + 1
  init_size (Cell place e) = 1

  pub fields_size : FieldInits → ℕ
  fields_size NoFieldInits = 0
  fields_size (MoreFieldInits name i fs) = init_size i + fields_size fs + 1
