-- The nodes of a pattern in their order: parts before the whole. The tree's own numbers of nodes are not among them.
use Rattle.std.specs.Prelude.{ℕ, ◌+◌, List, [], ◌∷◌, ◌++◌}
use Rattle.hb_base.specs.declared.place.Place.{Place}
use Rattle.hb_tree.specs.Patterns.{Pat, APat, PatKind, Pats, NoPats, MorePats, FieldPats, NoFieldPats, MoreFieldPats}
use Rattle.hb_tree.specs.Patterns as tree
use Rattle.hb_read_patterns.specs.declared.node.PatNode.{PatNode}
use Rattle.hb_read_patterns.specs.declared.node.PatNode.TheVariants.{Any, Var, Number, Bits, Con, Fields, Field, Pair, Unit as UnitNode, Row}

abbrev pub pats_count : Pats → ℕ
pats_count NoPats = 0
pats_count (MorePats p ps) = pats_count ps + 1

abbrev pub fields_count : FieldPats → ℕ
fields_count NoFieldPats = 0
fields_count (MoreFieldPats place name p fs) = fields_count fs + 1

abbrev mutual
  pub pat_nodes : Pat → List PatNode
  pat_nodes (APat number place kind) = kind_nodes place kind

  pub kind_nodes : Place → PatKind → List PatNode
  kind_nodes place tree.Any = Any place ∷ []
  kind_nodes place (tree.Var name) = Var place name ∷ []
  kind_nodes place (tree.Number k) = Number place k ∷ []
  kind_nodes place (tree.Bits width k) = Bits place width k ∷ []
  kind_nodes place (tree.Con name ps) = pats_nodes ps ++ Con place name (pats_count ps) ∷ []
  kind_nodes place (tree.Fields name fs) = field_nodes fs ++ Fields place name (fields_count fs) ∷ []
  kind_nodes place (tree.Pair p q) = (pat_nodes p ++ pat_nodes q) ++ Pair place ∷ []
  kind_nodes place tree.Unit = UnitNode place ∷ []

  pub pats_nodes : Pats → List PatNode
  pats_nodes NoPats = []
  pats_nodes (MorePats p ps) = pat_nodes p ++ pats_nodes ps

  -- each field comes after its pattern
  pub field_nodes : FieldPats → List PatNode
  field_nodes NoFieldPats = []
  field_nodes (MoreFieldPats place name p fs) = (pat_nodes p ++ Field place name ∷ []) ++ field_nodes fs

-- simple patterns in a row, and how many they are
abbrev pub row_nodes : Pats → List PatNode
row_nodes ps = pats_nodes ps ++ Row (pats_count ps) ∷ []
