-- The nodes of a type, of a predicate and of a context are those of its form.
use Rattle.std.proofs.Common.{◌≡◌, ℕ, length, refl, ap, sym, ◌∙◌, List, [], ◌∷◌, ◌++◌, Option, Some, None}
use Rattle.hb_base.specs.declared.place.Place.{Place}
use Rattle.hb_tree.specs.declared.types.PredExpr.{PredExpr}
use Rattle.hb_tree.specs.declared.types.PredExpr.TheVariants as pred
use Rattle.hb_tree.specs.Types.{TypeExpr, TypeKind, AType}
use Rattle.hb_tree.specs.Types as tree
use Rattle.hb_read_types.specs.declared.node.TypeNode.{TypeNode}
use Rattle.hb_read_types.specs.declared.node.TypeNode.TheVariants as node
use Rattle.hb_read_types.specs.Nodes.{type_nodes, kind_nodes, types_nodes, pred_nodes, preds_nodes, context_nodes}
use Rattle.hb_read_declarations.specs.Nodes.{typed}
use Rattle.hb_depth.specs.declared.shape.Shape.{Shape}
use Rattle.hb_depth.specs.declared.shape.Kind.TheVariants.{Levels}
use Rattle.hb_depth.specs.Shapes.{shapes, shape, plain, hidden, type_shape}
use Rattle.hb_depth.specs.Forms.{Form, Whole, Forms, one, and, forms, type_form, type_kind_form, pred_form, context_form}
use Rattle.hb_depth.proofs.Posts.{count, post, all_post}
use Rattle.hb_depth.proofs.FormLaws.{and_post, forms_count}

-- these nodes are those of the form, and of the forms
abbrev pub IsType : List TypeNode → Form → Type 0
IsType nodes f = (rest : List Shape) → shapes (typed nodes) rest ≡ post f rest

abbrev pub AreTypes : List TypeNode → Forms → Type 0
AreTypes nodes fs = (rest : List Shape) → shapes (typed nodes) rest ≡ all_post fs rest

pub typed_append : (xs ys : List TypeNode) (rest : List Shape) → shapes (typed (xs ++ ys)) rest ≡ shapes (typed xs) (shapes (typed ys) rest)
typed_append [] ys rest = refl
typed_append (n ∷ xs) ys rest = ap (λ r. type_shape n ∷ r) (typed_append xs ys rest)

pub both : (xs ys : List TypeNode) (fs gs : Forms) → AreTypes xs fs → AreTypes ys gs → AreTypes (xs ++ ys) (and fs gs)
both xs ys fs gs a b rest = typed_append xs ys rest ∙ ap (λ r. shapes (typed xs) r) (b rest) ∙ a (all_post gs rest) ∙ sym (and_post fs gs rest)

-- a node behind those of its parts
pub behind : (xs : List TypeNode) (fs : Forms) (n : TypeNode) (rest : List Shape) → AreTypes xs fs → shapes (typed (xs ++ n ∷ [])) rest ≡ all_post fs (type_shape n ∷ rest)
behind xs fs n rest a = typed_append xs (n ∷ []) rest ∙ a (type_shape n ∷ rest)

closed : (xs : List TypeNode) (fs : Forms) (k : ℕ) (place : Option Place) (n : TypeNode) → AreTypes xs fs → type_shape n ≡ shape (Levels k) place (count fs) → IsType (xs ++ n ∷ []) (Whole k place fs)
closed xs fs k place n a e rest = behind xs fs n rest a ∙ ap (λ s. all_post fs (s ∷ rest)) e

-- a node behind those of two parts, and of three
behind_two : (xs ys : List TypeNode) (f g : Form) (n : TypeNode) (rest : List Shape) → IsType xs f → IsType ys g → shapes (typed (xs ++ (ys ++ n ∷ []))) rest ≡ post f (post g (type_shape n ∷ rest))
behind_two xs ys f g n rest a b =
    typed_append xs (ys ++ n ∷ []) rest
    ∙ a (shapes (typed (ys ++ n ∷ [])) rest)
    ∙ ap (λ r. post f r) (behind ys (one g) n rest b)

behind_three : (xs ys zs : List TypeNode) (f g h : Form) (n : TypeNode) (rest : List Shape) → IsType xs f → IsType ys g → IsType zs h → shapes (typed (xs ++ (ys ++ (zs ++ n ∷ [])))) rest ≡ post f (post g (post h (type_shape n ∷ rest)))
behind_three xs ys zs f g h n rest a b c =
    typed_append xs (ys ++ (zs ++ n ∷ [])) rest
    ∙ a (shapes (typed (ys ++ (zs ++ n ∷ []))) rest)
    ∙ ap (λ r. post f r) (behind_two ys zs g h n rest b c)

mutual
  pub type_post : (t : TypeExpr) → IsType (type_nodes t) (type_form t)
  type_post (AType place kind) rest = type_kind_post kind place rest

  type_kind_post : (kind : TypeKind) (place : Place) → IsType (kind_nodes place kind) (type_kind_form place kind)
  type_kind_post (tree.Con name) place rest = refl
  type_kind_post (tree.Var name) place rest = refl
  type_kind_post (tree.Number k) place rest = refl
  type_kind_post tree.Unit place rest = refl
  type_kind_post (tree.Pair a b) place rest = behind_two (type_nodes a) (type_nodes b) (type_form a) (type_form b) (node.Pair place) rest (type_post a) (type_post b)
  type_kind_post (tree.Apply a b) place rest = behind_two (type_nodes a) (type_nodes b) (type_form a) (type_form b) (node.Apply place) rest (type_post a) (type_post b)
  type_kind_post (tree.Arrow a b) place rest = behind_two (type_nodes a) (type_nodes b) (type_form a) (type_form b) (node.Arrow place) rest (type_post a) (type_post b)
  type_kind_post (tree.Sum a b) place rest = behind_two (type_nodes a) (type_nodes b) (type_form a) (type_form b) (node.Sum place) rest (type_post a) (type_post b)

types_post : (ts : List TypeExpr) → AreTypes (types_nodes ts) (forms type_form ts)
types_post [] rest = refl
types_post (t ∷ ts) rest = both (type_nodes t) (types_nodes ts) (one (type_form t)) (forms type_form ts) (type_post t) (types_post ts) rest

pub pred_post : (p : PredExpr) → IsType (pred_nodes p) (pred_form p)
pred_post (pred.Class name ts) rest =
    closed (types_nodes ts) (forms type_form ts) 1 (Some name.place) (node.Class name.place name.name (length ts)) (types_post ts) (ap (plain name.place) (forms_count type_form ts)) rest
pred_post (pred.Sum a b c) rest = behind_three (type_nodes a) (type_nodes b) (type_nodes c) (type_form a) (type_form b) (type_form c) node.SumFact rest (type_post a) (type_post b) (type_post c)
pred_post (pred.Product a b c) rest = behind_three (type_nodes a) (type_nodes b) (type_nodes c) (type_form a) (type_form b) (type_form c) node.ProductFact rest (type_post a) (type_post b) (type_post c)
pred_post (pred.Power a b) rest = behind_two (type_nodes a) (type_nodes b) (type_form a) (type_form b) node.PowerFact rest (type_post a) (type_post b)
pred_post (pred.AtMost a b) rest = behind_two (type_nodes a) (type_nodes b) (type_form a) (type_form b) node.AtMostFact rest (type_post a) (type_post b)

preds_post : (ps : List PredExpr) → AreTypes (preds_nodes ps) (forms pred_form ps)
preds_post [] rest = refl
preds_post (p ∷ ps) rest = both (pred_nodes p) (preds_nodes ps) (one (pred_form p)) (forms pred_form ps) (pred_post p) (preds_post ps) rest

pub context_post : (ps : List PredExpr) → IsType (context_nodes ps) (context_form ps)
context_post ps rest = closed (preds_nodes ps) (forms pred_form ps) 0 None (node.Context (length ps)) (preds_post ps) (ap hidden (forms_count pred_form ps)) rest
