-- Patterns whose numbers in the tree are all 0, as they are before names are resolved.
use Rattle.std.specs.Prelude.{◌≡◌}
use Rattle.hb_tree.specs.Patterns.{Pat, APat, PatKind, Any, Var, Number, Bits, Con, Fields, Pair, Unit as UnitKind, Pats, NoPats, MorePats, FieldPats, NoFieldPats, MoreFieldPats}

abbrev mutual
  pub IsUnnumbered : Pat → Type 0
  IsUnnumbered (APat number place kind) = (number ≡ 0) × IsUnnumberedKind kind

  pub IsUnnumberedKind : PatKind → Type 0
  IsUnnumberedKind Any = Unit {0}
  IsUnnumberedKind (Var name) = Unit {0}
  IsUnnumberedKind (Number k) = Unit {0}
  IsUnnumberedKind (Bits width k) = Unit {0}
  IsUnnumberedKind (Con name ps) = AreUnnumbered ps
  IsUnnumberedKind (Fields name fs) = AreUnnumberedFields fs
  IsUnnumberedKind (Pair p q) = IsUnnumbered p × IsUnnumbered q
  IsUnnumberedKind UnitKind = Unit {0}

  pub AreUnnumbered : Pats → Type 0
  AreUnnumbered NoPats = Unit {0}
  AreUnnumbered (MorePats p ps) = IsUnnumbered p × AreUnnumbered ps

  pub AreUnnumberedFields : FieldPats → Type 0
  AreUnnumberedFields NoFieldPats = Unit {0}
  AreUnnumberedFields (MoreFieldPats place name p fs) = IsUnnumbered p × AreUnnumberedFields fs
