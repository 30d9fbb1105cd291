-- Type expressions, as contracts see them.
use Rattle.std.specs.Prelude.{ℕ, ◌+◌}
use Rattle.hb_base.specs.declared.place.Place.{Place}
use Rattle.hb_base.specs.declared.name.Name.{Name}

mutual
  -- its place, and what stands there
  pub data TypeExpr : Type 0 where
    AType : Place → TypeKind → TypeExpr

  pub data TypeKind : Type 0 where
    Con : Name → TypeKind
    Var : Name → TypeKind
    Number : ℕ → TypeKind
    Unit : TypeKind
    Pair : TypeExpr → TypeExpr → TypeKind
    Apply : TypeExpr → TypeExpr → TypeKind
    Arrow : TypeExpr → TypeExpr → TypeKind
    Sum : TypeExpr → TypeExpr → TypeKind

-- how many forms a type is made of: each part has fewer
abbrev mutual
  pub type_size : TypeExpr → ℕ
  type_size (AType p k) = kind_size k + 1

  pub kind_size : TypeKind → ℕ
  kind_size (Con n) = 0
  kind_size (Var n) = 0
  kind_size (Number n) = 0
  kind_size Unit = 0
  kind_size (Pair a b) = type_size a + type_size b
  kind_size (Apply a b) = type_size a + type_size b
  kind_size (Arrow a b) = type_size a + type_size b
  kind_size (Sum a b) = type_size a + type_size b
