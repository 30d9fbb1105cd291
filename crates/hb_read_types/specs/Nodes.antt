-- The nodes of a type, of a predicate and of a context: the nodes of the parts in their order, then the form itself.
use Rattle.std.specs.Prelude.{List, [], ◌∷◌, ◌++◌, length}
use Rattle.hb_base.specs.declared.place.Place.{Place}
use Rattle.hb_tree.specs.declared.types.PredExpr.{PredExpr}
use Rattle.hb_tree.specs.declared.types.PredExpr.TheVariants as pred
use Rattle.hb_tree.specs.Types.{TypeExpr, TypeKind, AType, Con, Var, Number, Unit, Pair, Apply, Arrow, Sum}
use Rattle.hb_read_types.specs.declared.node.TypeNode.{TypeNode}
use Rattle.hb_read_types.specs.declared.node.TypeNode.TheVariants as node

abbrev mutual
  pub type_nodes : TypeExpr → List TypeNode
  type_nodes (AType p k) = kind_nodes p k

  pub kind_nodes : Place → TypeKind → List TypeNode
  kind_nodes p (Con n) = node.Con p n ∷ []
  kind_nodes p (Var n) = node.Var p n ∷ []
  kind_nodes p (Number n) = node.Number p n ∷ []
  kind_nodes p Unit = node.Unit p ∷ []
  kind_nodes p (Pair a b) = type_nodes a ++ (type_nodes b ++ node.Pair p ∷ [])
  kind_nodes p (Apply a b) = type_nodes a ++ (type_nodes b ++ node.Apply p ∷ [])
  kind_nodes p (Arrow a b) = type_nodes a ++ (type_nodes b ++ node.Arrow p ∷ [])
  kind_nodes p (Sum a b) = type_nodes a ++ (type_nodes b ++ node.Sum p ∷ [])

-- of several types, one after the other
abbrev pub types_nodes : List TypeExpr → List TypeNode
types_nodes [] = []
types_nodes (a ∷ rest) = type_nodes a ++ types_nodes rest

abbrev pub pred_nodes : PredExpr → List TypeNode
pred_nodes (pred.Class name types) = types_nodes types ++ node.Class name.place name.name (length types) ∷ []
pred_nodes (pred.Sum a b c) = type_nodes a ++ (type_nodes b ++ (type_nodes c ++ node.SumFact ∷ []))
pred_nodes (pred.Product a b c) = type_nodes a ++ (type_nodes b ++ (type_nodes c ++ node.ProductFact ∷ []))
pred_nodes (pred.Power a b) = type_nodes a ++ (type_nodes b ++ node.PowerFact ∷ [])
pred_nodes (pred.AtMost a b) = type_nodes a ++ (type_nodes b ++ node.AtMostFact ∷ [])

-- of several predicates, one after the other
abbrev pub preds_nodes : List PredExpr → List TypeNode
preds_nodes [] = []
preds_nodes (p ∷ ps) = pred_nodes p ++ preds_nodes ps

abbrev pub context_nodes : List PredExpr → List TypeNode
context_nodes ps = preds_nodes ps ++ node.Context (length ps) ∷ []
