-- What is built has just the nodes that were taken.
use Rattle.std.proofs.Common.{◌≡◌, ℕ, refl, ap, sym, ◌∙◌, subst, inl, inr, List, [], ◌∷◌, ◌++◌, length, reverse, Option, Some, None, nat_eq, if◌then◌else◌}
use Rattle.std.proofs.lemmas.List.{append_assoc, append-nil, length-reverse}
use Rattle.std.proofs.lemmas.Bool.Decides.{eqb_tells}
use mathlib.Core.List.{reverse_aux}
use Rattle.hb_base.specs.declared.place.Place.{Place}
use Rattle.hb_base.specs.declared.name.Name.{Name}
use Rattle.hb_tree.specs.declared.types.PredExpr.{PredExpr}
use Rattle.hb_tree.specs.declared.types.PredExpr.TheVariants as pred
use Rattle.hb_tree.specs.Types.{TypeExpr, TypeKind, Pair, Apply, Arrow, Sum}
use Rattle.hb_read_types.specs.declared.node.TypeNode.{TypeNode}
use Rattle.hb_read_types.specs.declared.node.TypeNode.TheVariants as node
use Rattle.hb_read_types.specs.Nodes.{type_nodes, kind_nodes, types_nodes, pred_nodes, preds_nodes, context_nodes}
use Rattle.hb_build.specs.declared.type_builder.TypeBuilder.{TypeBuilder}
use Rattle.hb_build.specs.Building.{built}
use Rattle.hb_build.proofs.BuildingLaws.{Has, built_has}
use Rattle.hb_build.specs.TypeSteps.{state, start, stepped, with_types, joined, of_class, of_two, of_three, in_context}

-- the nodes of the types of a stack, the last one first
abbrev pub stack_nodes : List TypeExpr → List TypeNode
stack_nodes [] = []
stack_nodes (a ∷ types) = stack_nodes types ++ type_nodes a

abbrev pub stack_pred_nodes : List PredExpr → List TypeNode
stack_pred_nodes [] = []
stack_pred_nodes (p ∷ ps) = stack_pred_nodes ps ++ pred_nodes p

abbrev pub ended_nodes : Option (List PredExpr) → List TypeNode
ended_nodes None = []
ended_nodes (Some ps) = context_nodes ps

-- the nodes of all that is built
abbrev pub nodes_of : TypeBuilder → List TypeNode
nodes_of s = ended_nodes s.context ++ (stack_pred_nodes s.preds ++ stack_nodes s.types)

-- these are the nodes of what is built
abbrev pub Fits : TypeBuilder → List TypeNode → Type 0
Fits s nodes = nodes_of s ≡ nodes

reverse_nodes : (types more : List TypeExpr) → types_nodes (reverse_aux types more) ≡ stack_nodes types ++ types_nodes more
reverse_nodes [] more = refl
reverse_nodes (a ∷ types) more = reverse_nodes types (a ∷ more) ∙ sym (append_assoc (stack_nodes types) (type_nodes a) (types_nodes more))

all_nodes : (types : List TypeExpr) → types_nodes (reverse types) ≡ stack_nodes types
all_nodes types = reverse_nodes types [] ∙ append-nil (stack_nodes types)

reverse_pred_nodes : (ps more : List PredExpr) → preds_nodes (reverse_aux ps more) ≡ stack_pred_nodes ps ++ preds_nodes more
reverse_pred_nodes [] more = refl
reverse_pred_nodes (p ∷ ps) more = reverse_pred_nodes ps (p ∷ more) ∙ sym (append_assoc (stack_pred_nodes ps) (pred_nodes p) (preds_nodes more))

all_pred_nodes : (ps : List PredExpr) → preds_nodes (reverse ps) ≡ stack_pred_nodes ps
all_pred_nodes ps = reverse_pred_nodes ps [] ∙ append-nil (stack_pred_nodes ps)

two_regroup : (x y z a b n : List TypeNode) → x ++ (y ++ (z ++ (a ++ (b ++ n)))) ≡ (x ++ (y ++ ((z ++ a) ++ b))) ++ n
two_regroup x y z a b n = simp append_assoc

three_regroup : (x y a1 a2 a3 n : List TypeNode) → x ++ ((y ++ (a1 ++ (a2 ++ (a3 ++ n)))) ++ []) ≡ (x ++ (y ++ (((([] ++ a1)) ++ a2) ++ a3))) ++ n
three_regroup x y a1 a2 a3 n = simp (append_assoc, append-nil)

fact_regroup : (x y a b n : List TypeNode) → x ++ ((y ++ (a ++ (b ++ n))) ++ []) ≡ (x ++ (y ++ (([] ++ a) ++ b))) ++ n
fact_regroup x y a b n = simp (append_assoc, append-nil)

class_regroup : (x y z n : List TypeNode) → x ++ ((y ++ (z ++ n)) ++ []) ≡ (x ++ (y ++ z)) ++ n
class_regroup x y z n = simp (append_assoc, append-nil)

context_regroup : (z n : List TypeNode) → (z ++ n) ++ [] ≡ (z ++ []) ++ n
context_regroup z n = simp append-nil

leaf_regroup : (x y z n : List TypeNode) → x ++ (y ++ (z ++ n)) ≡ (x ++ (y ++ z)) ++ n
leaf_regroup x y z n = simp append_assoc

-- a whole of two types, whose node this is
joined_has : (s : TypeBuilder) (types : List TypeExpr) (whole : TypeExpr → TypeExpr → TypeKind) (place : Place) (n : TypeNode) → ((a b : TypeExpr) → kind_nodes place (whole a b) ≡ type_nodes a ++ (type_nodes b ++ n ∷ [])) → Has Fits (with_types s (joined whole place types)) (nodes_of (state s.context s.preds types) ++ n ∷ [])
joined_has s [] whole place n law = tt
joined_has s (b ∷ []) whole place n law = tt
joined_has s (b ∷ a ∷ types) whole place n law =
    ap (λ ms. ended_nodes s.context ++ (stack_pred_nodes s.preds ++ (stack_nodes types ++ ms))) (law a b)
    ∙ two_regroup (ended_nodes s.context) (stack_pred_nodes s.preds) (stack_nodes types) (type_nodes a) (type_nodes b) (n ∷ [])

two_has : (s : TypeBuilder) (types : List TypeExpr) (whole : TypeExpr → TypeExpr → PredExpr) (n : TypeNode) → ((a b : TypeExpr) → pred_nodes (whole a b) ≡ type_nodes a ++ (type_nodes b ++ n ∷ [])) → Has Fits (of_two s whole types) (nodes_of (state s.context s.preds types) ++ n ∷ [])
two_has s [] whole n law = tt
two_has s (b ∷ []) whole n law = tt
two_has s (b ∷ a ∷ []) whole n law =
    ap (λ ms. ended_nodes s.context ++ ((stack_pred_nodes s.preds ++ ms) ++ [])) (law a b)
    ∙ fact_regroup (ended_nodes s.context) (stack_pred_nodes s.preds) (type_nodes a) (type_nodes b) (n ∷ [])
two_has s (b ∷ a ∷ more ∷ types) whole n law = tt

three_has : (s : TypeBuilder) (types : List TypeExpr) (whole : TypeExpr → TypeExpr → TypeExpr → PredExpr) (n : TypeNode) → ((a1 a2 a3 : TypeExpr) → pred_nodes (whole a1 a2 a3) ≡ type_nodes a1 ++ (type_nodes a2 ++ (type_nodes a3 ++ n ∷ []))) → Has Fits (of_three s whole types) (nodes_of (state s.context s.preds types) ++ n ∷ [])
three_has s [] whole n law = tt
three_has s (a3 ∷ []) whole n law = tt
three_has s (a3 ∷ a2 ∷ []) whole n law = tt
three_has s (a3 ∷ a2 ∷ a1 ∷ []) whole n law =
    ap (λ ms. ended_nodes s.context ++ ((stack_pred_nodes s.preds ++ ms) ++ [])) (law a1 a2 a3)
    ∙ three_regroup (ended_nodes s.context) (stack_pred_nodes s.preds) (type_nodes a1) (type_nodes a2) (type_nodes a3) (n ∷ [])
three_has s (a3 ∷ a2 ∷ a1 ∷ more ∷ types) whole n law = tt

-- a choice has these nodes where each of its sides has
if_has : (m n : ℕ) (s : Option TypeBuilder) (nodes : List TypeNode) → (m ≡ n → Has Fits s nodes) → Has Fits (if nat_eq m n then s else None) nodes
if_has m n s nodes h =
    elim (eqb_tells m n) [
      | inl p ↦ subst (λ same. Has Fits (if same then s else None) nodes) (sym p.0) (h p.1)
      | inr p ↦ subst (λ same. Has Fits (if same then s else None) nodes) (sym p.0) tt
    ]

class_has : (s : TypeBuilder) (types : List TypeExpr) (place : Place) (name : Name) (count : ℕ) → Has Fits (of_class s place name count types) (nodes_of (state s.context s.preds types) ++ node.Class place name count ∷ [])
class_has s types place name count = if_has count (length types) _ _ (λ e.
    ap (λ ms. ended_nodes s.context ++ ((stack_pred_nodes s.preds ++ (ms ++ node.Class place name (length (reverse types)) ∷ [])) ++ [])) (all_nodes types)
    ∙ ap (λ k. ended_nodes s.context ++ ((stack_pred_nodes s.preds ++ (stack_nodes types ++ node.Class place name k ∷ [])) ++ [])) (length-reverse types ∙ sym e)
    ∙ class_regroup (ended_nodes s.context) (stack_pred_nodes s.preds) (stack_nodes types) (node.Class place name count ∷ []))

context_has : (count : ℕ) (c : Option (List PredExpr)) (ps : List PredExpr) (types : List TypeExpr) → Has Fits (in_context count c ps types) (nodes_of (state c ps types) ++ node.Context count ∷ [])
context_has count None ps [] = if_has count (length ps) _ _ (λ e.
    ap (λ ms. (ms ++ node.Context (length (reverse ps)) ∷ []) ++ []) (all_pred_nodes ps)
    ∙ ap (λ k. (stack_pred_nodes ps ++ node.Context k ∷ []) ++ []) (length-reverse ps ∙ sym e)
    ∙ context_regroup (stack_pred_nodes ps) (node.Context count ∷ []))
context_has count None ps (a ∷ types) = tt
context_has count (Some c) ps types = tt

stepped_has : (s : TypeBuilder) (n : TypeNode) → Has Fits (stepped s n) (nodes_of s ++ n ∷ [])
stepped_has s (node.Con place name) = leaf_regroup (ended_nodes s.context) (stack_pred_nodes s.preds) (stack_nodes s.types) (node.Con place name ∷ [])
stepped_has s (node.Var place name) = leaf_regroup (ended_nodes s.context) (stack_pred_nodes s.preds) (stack_nodes s.types) (node.Var place name ∷ [])
stepped_has s (node.Number place k) = leaf_regroup (ended_nodes s.context) (stack_pred_nodes s.preds) (stack_nodes s.types) (node.Number place k ∷ [])
stepped_has s (node.Unit place) = leaf_regroup (ended_nodes s.context) (stack_pred_nodes s.preds) (stack_nodes s.types) (node.Unit place ∷ [])
stepped_has s (node.Pair place) = joined_has s s.types Pair place (node.Pair place) (λ a b. refl)
stepped_has s (node.Apply place) = joined_has s s.types Apply place (node.Apply place) (λ a b. refl)
stepped_has s (node.Arrow place) = joined_has s s.types Arrow place (node.Arrow place) (λ a b. refl)
stepped_has s (node.Sum place) = joined_has s s.types Sum place (node.Sum place) (λ a b. refl)
stepped_has s (node.Class place name count) = class_has s s.types place name count
stepped_has s node.SumFact = three_has s s.types pred.Sum node.SumFact (λ a1 a2 a3. refl)
stepped_has s node.ProductFact = three_has s s.types pred.Product node.ProductFact (λ a1 a2 a3. refl)
stepped_has s node.PowerFact = two_has s s.types pred.Power node.PowerFact (λ a b. refl)
stepped_has s node.AtMostFact = two_has s s.types pred.AtMost node.AtMostFact (λ a b. refl)
stepped_has s (node.Context count) = context_has count s.context s.preds s.types

keeps : (s : TypeBuilder) (n : TypeNode) (before : List TypeNode) → Fits s before → Has Fits (stepped s n) (before ++ n ∷ [])
keeps s n before h = subst (λ ms. Has Fits (stepped s n) (ms ++ n ∷ [])) h (stepped_has s n)

pub only : (nodes : List TypeNode) → Has Fits (built stepped (Some start) nodes) nodes
only nodes = built_has stepped Fits keeps (Some start) [] nodes refl
