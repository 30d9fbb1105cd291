-- The nodes of a type put that type on the stack, those of a predicate and of a context likewise.
use Rattle.std.proofs.Common.{◌≡◌, ℕ, refl, ap, sym, ◌∙◌, List, [], ◌∷◌, ◌++◌, length, reverse, Option, Some, None, nat_eq, if◌then◌else◌}
use Rattle.std.proofs.lemmas.List.{length-reverse, reverse-reverse}
use Rattle.std.proofs.lemmas.Bool.{eq-eqb}
use mathlib.Core.List.{reverse_aux}
use Rattle.hb_base.specs.declared.place.Place.{Place}
use Rattle.hb_tree.specs.declared.types.PredExpr.{PredExpr}
use Rattle.hb_tree.specs.declared.types.PredExpr.TheVariants as pred
use Rattle.hb_tree.specs.Types.{TypeExpr, TypeKind, AType, Con, Var, Number, Unit as UnitKind, Pair, Apply, Arrow, Sum}
use Rattle.hb_read_types.specs.declared.node.TypeNode.{TypeNode}
use Rattle.hb_read_types.specs.declared.node.TypeNode.TheVariants as node
use Rattle.hb_read_types.specs.Nodes.{type_nodes, kind_nodes, types_nodes, pred_nodes, preds_nodes, context_nodes}
use Rattle.hb_build.specs.declared.type_builder.TypeBuilder.{TypeBuilder}
use Rattle.hb_build.specs.Building.{built}
use Rattle.hb_build.proofs.BuildingLaws.{built_append, refused as refused_by}
use Rattle.hb_build.specs.TypeSteps.{state, start, stepped}

-- a node that is not taken is the end
pub refused : (s : TypeBuilder) (n : TypeNode) (nodes : List TypeNode) → stepped s n ≡ None → built stepped (Some s) (n ∷ nodes) ≡ None
refused s n nodes e = refused_by stepped s n nodes e

-- two types and then a node
two_then : (c : Option (List PredExpr)) (ps : List PredExpr) (types : List TypeExpr) (a b : TypeExpr) (n : TypeNode) → built stepped (Some (state c ps types)) (type_nodes a) ≡ Some (state c ps (a ∷ types)) → built stepped (Some (state c ps (a ∷ types))) (type_nodes b) ≡ Some (state c ps (b ∷ a ∷ types)) → built stepped (Some (state c ps types)) (type_nodes a ++ (type_nodes b ++ n ∷ [])) ≡ stepped (state c ps (b ∷ a ∷ types)) n
two_then c ps types a b n p q =
    built_append stepped (Some (state c ps types)) (type_nodes a) (type_nodes b ++ n ∷ [])
    ∙ ap (λ s. built stepped s (type_nodes b ++ n ∷ [])) p
    ∙ built_append stepped (Some (state c ps (a ∷ types))) (type_nodes b) (n ∷ [])
    ∙ ap (λ s. built stepped s (n ∷ [])) q

mutual
  pub type_found : (c : Option (List PredExpr)) (ps : List PredExpr) (types : List TypeExpr) (a : TypeExpr) → built stepped (Some (state c ps types)) (type_nodes a) ≡ Some (state c ps (a ∷ types))
  type_found c ps types (AType place kind) = kind_found c ps types place kind

  kind_found : (c : Option (List PredExpr)) (ps : List PredExpr) (types : List TypeExpr) (place : Place) (kind : TypeKind) → built stepped (Some (state c ps types)) (kind_nodes place kind) ≡ Some (state c ps (AType place kind ∷ types))
  kind_found c ps types place (Con n) = refl
  kind_found c ps types place (Var n) = refl
  kind_found c ps types place (Number k) = refl
  kind_found c ps types place UnitKind = refl
  kind_found c ps types place (Pair a b) = two_then c ps types a b (node.Pair place) (type_found c ps types a) (type_found c ps (a ∷ types) b)
  kind_found c ps types place (Apply a b) = two_then c ps types a b (node.Apply place) (type_found c ps types a) (type_found c ps (a ∷ types) b)
  kind_found c ps types place (Arrow a b) = two_then c ps types a b (node.Arrow place) (type_found c ps types a) (type_found c ps (a ∷ types) b)
  kind_found c ps types place (Sum a b) = two_then c ps types a b (node.Sum place) (type_found c ps types a) (type_found c ps (a ∷ types) b)

types_found : (c : Option (List PredExpr)) (ps : List PredExpr) (types all : List TypeExpr) → built stepped (Some (state c ps types)) (types_nodes all) ≡ Some (state c ps (reverse_aux all types))
types_found c ps types [] = refl
types_found c ps types (a ∷ all) =
    built_append stepped (Some (state c ps types)) (type_nodes a) (types_nodes all)
    ∙ ap (λ s. built stepped s (types_nodes all)) (type_found c ps types a)
    ∙ types_found c ps (a ∷ types) all

-- three types and then a node
three_then : (c : Option (List PredExpr)) (ps : List PredExpr) (types : List TypeExpr) (a1 a2 a3 : TypeExpr) (n : TypeNode) → built stepped (Some (state c ps types)) (type_nodes a1 ++ (type_nodes a2 ++ (type_nodes a3 ++ n ∷ []))) ≡ stepped (state c ps (a3 ∷ a2 ∷ a1 ∷ types)) n
three_then c ps types a1 a2 a3 n =
    built_append stepped (Some (state c ps types)) (type_nodes a1) (type_nodes a2 ++ (type_nodes a3 ++ n ∷ []))
    ∙ ap (λ s. built stepped s (type_nodes a2 ++ (type_nodes a3 ++ n ∷ []))) (type_found c ps types a1)
    ∙ two_then c ps (a1 ∷ types) a2 a3 n (type_found c ps (a1 ∷ types) a2) (type_found c ps (a2 ∷ a1 ∷ types) a3)

if_same : {A : Type 0} (m n : ℕ) (a b : A) → m ≡ n → (if nat_eq m n then a else b) ≡ a
if_same m n a b e = ap (λ same. if same then a else b) (eq-eqb m n e)

pub pred_found : (c : Option (List PredExpr)) (ps : List PredExpr) (p : PredExpr) → built stepped (Some (state c ps [])) (pred_nodes p) ≡ Some (state c (p ∷ ps) [])
pred_found c ps (pred.Class name all) =
    built_append stepped (Some (state c ps [])) (types_nodes all) (node.Class name.place name.name (length all) ∷ [])
    ∙ ap (λ s. built stepped s (node.Class name.place name.name (length all) ∷ [])) (types_found c ps [] all)
    ∙ if_same (length all) (length (reverse all)) _ _ (sym (length-reverse all))
    ∙ ap (λ ts. Some (state c (pred.Class name ts ∷ ps) [])) (reverse-reverse all)
pred_found c ps (pred.Sum a1 a2 a3) = three_then c ps [] a1 a2 a3 node.SumFact
pred_found c ps (pred.Product a1 a2 a3) = three_then c ps [] a1 a2 a3 node.ProductFact
pred_found c ps (pred.Power a b) = two_then c ps [] a b node.PowerFact (type_found c ps [] a) (type_found c ps (a ∷ []) b)
pred_found c ps (pred.AtMost a b) = two_then c ps [] a b node.AtMostFact (type_found c ps [] a) (type_found c ps (a ∷ []) b)

preds_found : (c : Option (List PredExpr)) (ps all : List PredExpr) → built stepped (Some (state c ps [])) (preds_nodes all) ≡ Some (state c (reverse_aux all ps) [])
preds_found c ps [] = refl
preds_found c ps (p ∷ all) =
    built_append stepped (Some (state c ps [])) (pred_nodes p) (preds_nodes all)
    ∙ ap (λ s. built stepped s (preds_nodes all)) (pred_found c ps p)
    ∙ preds_found c (p ∷ ps) all

pub context_found : (all : List PredExpr) → built stepped (Some start) (context_nodes all) ≡ Some (state (Some all) [] [])
context_found all =
    built_append stepped (Some start) (preds_nodes all) (node.Context (length all) ∷ [])
    ∙ ap (λ s. built stepped s (node.Context (length all) ∷ [])) (preds_found None [] all)
    ∙ if_same (length all) (length (reverse all)) _ _ (sym (length-reverse all))
    ∙ ap (λ ps. Some (state (Some ps) [] [])) (reverse-reverse all)

pub qualified_found : (context : List PredExpr) (a : TypeExpr) → built stepped (Some start) (context_nodes context ++ type_nodes a) ≡ Some (state (Some context) [] (a ∷ []))
qualified_found context a =
    built_append stepped (Some start) (context_nodes context) (type_nodes a)
    ∙ ap (λ s. built stepped s (type_nodes a)) (context_found context)
    ∙ type_found (Some context) [] [] a
