-- What the builders of types answer, and that a type, a predicate, a context and a type with its context are each determined by their nodes.
use Rattle.std.proofs.Common.{◌≡◌, refl, ap, sym, ◌∙◌, subst, List, [], ◌∷◌, ◌++◌, Option, Some, None, IfSome}
use Rattle.std.proofs.lemmas.List.{append-nil}
use Rattle.hb_tree.specs.declared.types.PredExpr.{PredExpr}
use Rattle.hb_tree.specs.Types.{TypeExpr}
use Rattle.hb_read_types.specs.declared.node.TypeNode.{TypeNode}
use Rattle.hb_read_types.specs.Nodes.{type_nodes, pred_nodes, context_nodes}
use Rattle.hb_build.specs.declared.type_builder.TypeBuilder.{TypeBuilder}
use Rattle.hb_build.specs.declared.types.Qualified.{Qualified}
use Rattle.hb_build.specs.Building.{built}
use Rattle.hb_build.specs.TypeSteps.{start, stepped, lone_type, lone_context, lone_qualified, qualified_nodes}
use Rattle.hb_build.proofs.BuildingLaws.{Has, same}
use Rattle.hb_build.proofs.TypesFound.{type_found, pred_found, context_found, qualified_found}
use Rattle.hb_build.proofs.TypesOnly.{Fits, only, ended_nodes, stack_pred_nodes, stack_nodes}

-- the type, the context and the type with its context, where these are all that is built
abbrev pub type_of : Option TypeBuilder → Option TypeExpr
type_of None = None
type_of (Some s) = lone_type s.context s.preds s.types

abbrev pub context_of : Option TypeBuilder → Option (List PredExpr)
context_of None = None
context_of (Some s) = lone_context s.context s.preds s.types

abbrev pub qualified_of : Option TypeBuilder → Option Qualified
qualified_of None = None
qualified_of (Some s) = lone_qualified s.context s.preds s.types

pub type_is : (s : Option TypeBuilder) (nodes : List TypeNode) (a : TypeExpr) → s ≡ built stepped (Some start) nodes → nodes ≡ type_nodes a → type_of s ≡ Some a
type_is s nodes a e h = ap type_of (e ∙ ap (built stepped (Some start)) h ∙ type_found None [] [] a)

pub context_is : (s : Option TypeBuilder) (nodes : List TypeNode) (ps : List PredExpr) → s ≡ built stepped (Some start) nodes → nodes ≡ context_nodes ps → context_of s ≡ Some ps
context_is s nodes ps e h = ap context_of (e ∙ ap (built stepped (Some start)) h ∙ context_found ps)

pub qualified_is : (s : Option TypeBuilder) (nodes : List TypeNode) (q : Qualified) → s ≡ built stepped (Some start) nodes → nodes ≡ qualified_nodes q → qualified_of s ≡ Some q
qualified_is s nodes q e h = ap qualified_of (e ∙ ap (built stepped (Some start)) h ∙ qualified_found q.context q.body)

lone_type_has : (c : Option (List PredExpr)) (ps : List PredExpr) (types : List TypeExpr) (nodes : List TypeNode) → ended_nodes c ++ (stack_pred_nodes ps ++ stack_nodes types) ≡ nodes → IfSome (lone_type c ps types) (λ a. nodes ≡ type_nodes a)
lone_type_has None [] [] nodes h = tt
lone_type_has None [] (a ∷ []) nodes h = sym h
lone_type_has None [] (a ∷ b ∷ types) nodes h = tt
lone_type_has None (p ∷ ps) types nodes h = tt
lone_type_has (Some c) ps types nodes h = tt

lone_context_has : (c : Option (List PredExpr)) (ps : List PredExpr) (types : List TypeExpr) (nodes : List TypeNode) → ended_nodes c ++ (stack_pred_nodes ps ++ stack_nodes types) ≡ nodes → IfSome (lone_context c ps types) (λ context. nodes ≡ context_nodes context)
lone_context_has None ps types nodes h = tt
lone_context_has (Some c) [] [] nodes h = sym h ∙ append-nil (context_nodes c)
lone_context_has (Some c) [] (a ∷ types) nodes h = tt
lone_context_has (Some c) (p ∷ ps) types nodes h = tt

lone_qualified_has : (c : Option (List PredExpr)) (ps : List PredExpr) (types : List TypeExpr) (nodes : List TypeNode) → ended_nodes c ++ (stack_pred_nodes ps ++ stack_nodes types) ≡ nodes → IfSome (lone_qualified c ps types) (λ q. nodes ≡ qualified_nodes q)
lone_qualified_has None ps types nodes h = tt
lone_qualified_has (Some c) [] [] nodes h = tt
lone_qualified_has (Some c) [] (a ∷ []) nodes h = sym h
lone_qualified_has (Some c) [] (a ∷ b ∷ types) nodes h = tt
lone_qualified_has (Some c) (p ∷ ps) types nodes h = tt

type_has : (s : Option TypeBuilder) (nodes : List TypeNode) → Has Fits s nodes → IfSome (type_of s) (λ a. nodes ≡ type_nodes a)
type_has None nodes h = tt
type_has (Some s) nodes h = lone_type_has s.context s.preds s.types nodes h

context_has : (s : Option TypeBuilder) (nodes : List TypeNode) → Has Fits s nodes → IfSome (context_of s) (λ context. nodes ≡ context_nodes context)
context_has None nodes h = tt
context_has (Some s) nodes h = lone_context_has s.context s.preds s.types nodes h

qualified_has : (s : Option TypeBuilder) (nodes : List TypeNode) → Has Fits s nodes → IfSome (qualified_of s) (λ q. nodes ≡ qualified_nodes q)
qualified_has None nodes h = tt
qualified_has (Some s) nodes h = lone_qualified_has s.context s.preds s.types nodes h

has : (s : Option TypeBuilder) (nodes : List TypeNode) → s ≡ built stepped (Some start) nodes → Has Fits s nodes
has s nodes e = subst (λ v. Has Fits v nodes) (sym e) (only nodes)

pub type_only : (s : Option TypeBuilder) (nodes : List TypeNode) → s ≡ built stepped (Some start) nodes → IfSome (type_of s) (λ a. nodes ≡ type_nodes a)
type_only s nodes e = type_has s nodes (has s nodes e)

pub context_only : (s : Option TypeBuilder) (nodes : List TypeNode) → s ≡ built stepped (Some start) nodes → IfSome (context_of s) (λ context. nodes ≡ context_nodes context)
context_only s nodes e = context_has s nodes (has s nodes e)

pub qualified_only : (s : Option TypeBuilder) (nodes : List TypeNode) → s ≡ built stepped (Some start) nodes → IfSome (qualified_of s) (λ q. nodes ≡ qualified_nodes q)
qualified_only s nodes e = qualified_has s nodes (has s nodes e)

-- the predicate built last
abbrev first_pred : List PredExpr → Option PredExpr
first_pred [] = None
first_pred (p ∷ ps) = Some p

abbrev pred_of : Option TypeBuilder → Option PredExpr
pred_of None = None
pred_of (Some s) = first_pred s.preds

-- two types with the same nodes are one
pub types_alike : (a b : TypeExpr) → type_nodes a ≡ type_nodes b → a ≡ b
types_alike a b e = same a b (sym (type_is (built stepped (Some start) (type_nodes a)) (type_nodes a) a refl refl) ∙ type_is (built stepped (Some start) (type_nodes a)) (type_nodes a) b refl e)

-- two predicates with the same nodes are one
pub preds_alike : (p q : PredExpr) → pred_nodes p ≡ pred_nodes q → p ≡ q
preds_alike p q e = same p q (ap pred_of (sym (pred_found None [] p) ∙ ap (built stepped (Some start)) e ∙ pred_found None [] q))

-- two contexts with the same nodes are one
pub contexts_alike : (a b : List PredExpr) → context_nodes a ≡ context_nodes b → a ≡ b
contexts_alike a b e = same a b (sym (context_is (built stepped (Some start) (context_nodes a)) (context_nodes a) a refl refl) ∙ context_is (built stepped (Some start) (context_nodes a)) (context_nodes a) b refl e)

-- two types with their contexts that have the same nodes are one
pub qualified_alike : (a b : Qualified) → qualified_nodes a ≡ qualified_nodes b → a ≡ b
qualified_alike a b e = same a b (sym (qualified_is (built stepped (Some start) (qualified_nodes a)) (qualified_nodes a) a refl refl) ∙ qualified_is (built stepped (Some start) (qualified_nodes a)) (qualified_nodes a) b refl e)
