-- Patterns, as contracts see them. A type cannot hold a list of itself, so each list of parts is a type of its own.
use Rattle.std.specs.Prelude.{ℕ, ◌+◌}
use Rattle.hb_base.specs.declared.place.Place.{Place}
use Rattle.hb_base.specs.declared.name.Name.{Name}

mutual
  -- its number, its place, and what stands there
  pub data Pat : Type 0 where
    APat : ℕ → Place → PatKind → Pat

  pub data PatKind : Type 0 where
    Any : PatKind
    Var : Name → PatKind
    Number : ℕ → PatKind
    Bits : ℕ → ℕ → PatKind
    Con : Name → Pats → PatKind
    Fields : Name → FieldPats → PatKind
    Pair : Pat → Pat → PatKind
    Unit : PatKind

  pub data Pats : Type 0 where
    NoPats : Pats
    MorePats : Pat → Pats → Pats

  -- the place and the name of the first field, its pattern, and the other fields
  pub data FieldPats : Type 0 where
    NoFieldPats : FieldPats
    MoreFieldPats : Place → Name → Pat → FieldPats → FieldPats

-- how many forms and list entries a pattern is made of: each part has fewer
abbrev mutual
  pub pat_size : Pat → ℕ
  pat_size (APat n p k) = kind_size k + 1

  pub kind_size : PatKind → ℕ
  kind_size Any = 0
  kind_size (Var n) = 0
  kind_size (Number n) = 0
  kind_size (Bits w n) = 0
  kind_size (Con c ps) = pats_size ps
  kind_size (Fields c fs) = fields_size fs
  kind_size (Pair p q) = pat_size p + pat_size q
  kind_size Unit = 0

  pub pats_size : Pats → ℕ
  pats_size NoPats = 0
  pats_size (MorePats p ps) = pat_size p + pats_size ps + 1

  pub fields_size : FieldPats → ℕ
  fields_size NoFieldPats = 0
  fields_size (MoreFieldPats place name p fs) = pat_size p + fields_size fs + 1
