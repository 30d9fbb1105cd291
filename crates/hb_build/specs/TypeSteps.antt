-- How a node of a type, a predicate or a context changes what is built so far. Each node takes its parts off the stack,
-- whose top is the first of its list, and puts the whole on. Where the parts are not there, no tree has such nodes.
use Rattle.std.specs.Prelude.{ℕ, List, [], ◌∷◌, ◌++◌, length, reverse, Option, Some, None, nat_eq, if◌then◌else◌}
use Rattle.hb_base.specs.declared.place.Place.{Place}
use Rattle.hb_base.specs.declared.name.Name.{Name}
use Rattle.hb_tree.specs.declared.types.PredExpr.{PredExpr}
use Rattle.hb_tree.specs.declared.types.PredExpr.TheVariants as pred
use Rattle.hb_tree.specs.Types.{TypeExpr, TypeKind, AType, Con, Var, Number, Unit, Pair, Apply, Arrow, Sum}
use Rattle.hb_read_types.specs.declared.node.TypeNode.{TypeNode}
use Rattle.hb_read_types.specs.declared.node.TypeNode.TheVariants as node
use Rattle.hb_read_types.specs.Nodes.{type_nodes, context_nodes}
use Rattle.hb_build.specs.declared.type_builder.TypeBuilder.{TypeBuilder}
use Rattle.hb_build.specs.declared.types.Qualified.{Qualified}

-- the predicates of a context
abbrev pub Preds : Type 0
Preds = List PredExpr

-- the context at its end, the predicates behind it, and the types behind these
abbrev pub state : Option (List PredExpr) → List PredExpr → List TypeExpr → TypeBuilder
state context preds types = record { context = context; preds = preds; types = types }

abbrev pub start : TypeBuilder
start = state None [] []

-- a type without parts
abbrev pub with_leaf : TypeBuilder → Place → TypeKind → Option TypeBuilder
with_leaf s place kind = Some (state s.context s.preds (AType place kind ∷ s.types))

-- the last two types become one
abbrev pub joined : (TypeExpr → TypeExpr → TypeKind) → Place → List TypeExpr → Option (List TypeExpr)
joined whole place (b ∷ a ∷ types) = Some (AType place (whole a b) ∷ types)
joined whole place _ = None

abbrev pub with_types : TypeBuilder → Option (List TypeExpr) → Option TypeBuilder
with_types s None = None
with_types s (Some types) = Some (state s.context s.preds types)

-- a predicate is at its end where no type is left before it
abbrev pub with_pred : TypeBuilder → PredExpr → List TypeExpr → Option TypeBuilder
with_pred s whole [] = Some (state s.context (whole ∷ s.preds) [])
with_pred s whole types = None

-- so many types, and no other, become a predicate of this class
abbrev pub of_class : TypeBuilder → Place → Name → ℕ → List TypeExpr → Option TypeBuilder
of_class s place name count types = if nat_eq count (length types) then with_pred s (pred.Class (record { place = place; name = name }) (reverse types)) [] else None

-- the last three types become a predicate
abbrev pub of_three : TypeBuilder → (TypeExpr → TypeExpr → TypeExpr → PredExpr) → List TypeExpr → Option TypeBuilder
of_three s whole (c ∷ b ∷ a ∷ types) = with_pred s (whole a b c) types
of_three s whole _ = None

-- the last two types become a predicate
abbrev pub of_two : TypeBuilder → (TypeExpr → TypeExpr → PredExpr) → List TypeExpr → Option TypeBuilder
of_two s whole (b ∷ a ∷ types) = with_pred s (whole a b) types
of_two s whole _ = None

-- so many predicates, and nothing else, become a context
abbrev pub in_context : ℕ → Option (List PredExpr) → List PredExpr → List TypeExpr → Option TypeBuilder
in_context count None preds [] = if nat_eq count (length preds) then Some (state (Some (reverse preds)) [] []) else None
in_context count _ preds types = None

abbrev pub stepped : TypeBuilder → TypeNode → Option TypeBuilder
stepped s (node.Con place name) = with_leaf s place (Con name)
stepped s (node.Var place name) = with_leaf s place (Var name)
stepped s (node.Number place k) = with_leaf s place (Number k)
stepped s (node.Unit place) = with_leaf s place Unit
stepped s (node.Pair place) = with_types s (joined Pair place s.types)
stepped s (node.Apply place) = with_types s (joined Apply place s.types)
stepped s (node.Arrow place) = with_types s (joined Arrow place s.types)
stepped s (node.Sum place) = with_types s (joined Sum place s.types)
stepped s (node.Class place name count) = of_class s place name count s.types
stepped s node.SumFact = of_three s pred.Sum s.types
stepped s node.ProductFact = of_three s pred.Product s.types
stepped s node.PowerFact = of_two s pred.Power s.types
stepped s node.AtMostFact = of_two s pred.AtMost s.types
stepped s (node.Context count) = in_context count s.context s.preds s.types

-- one type, and nothing else
abbrev pub lone_type : Option (List PredExpr) → List PredExpr → List TypeExpr → Option TypeExpr
lone_type None [] (a ∷ []) = Some a
lone_type _ _ _ = None

-- one context, and nothing else
abbrev pub lone_context : Option (List PredExpr) → List PredExpr → List TypeExpr → Option (List PredExpr)
lone_context (Some context) [] [] = Some context
lone_context _ _ _ = None

-- one context and one type behind it
abbrev pub lone_qualified : Option (List PredExpr) → List PredExpr → List TypeExpr → Option Qualified
lone_qualified (Some context) [] (a ∷ []) = Some (record { context = context; body = a })
lone_qualified _ _ _ = None

-- the nodes of a context and of the type behind it
abbrev pub qualified_nodes : Qualified → List TypeNode
qualified_nodes q = context_nodes q.context ++ type_nodes q.body
