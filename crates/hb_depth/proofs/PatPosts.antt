-- The nodes of a pattern are those of its form.
use Rattle.std.proofs.Common.{◌≡◌, ℕ, ◌+◌, refl, ap, sym, ◌∙◌, List, [], ◌∷◌, ◌++◌, Option, Some, None}
use Rattle.hb_base.specs.declared.place.Place.{Place}
use Rattle.hb_tree.specs.Patterns.{Pat, APat, PatKind, Pats, NoPats, MorePats, FieldPats, NoFieldPats, MoreFieldPats}
use Rattle.hb_tree.specs.Patterns as tree
use Rattle.hb_read_patterns.specs.declared.node.PatNode.{PatNode}
use Rattle.hb_read_patterns.specs.declared.node.PatNode.TheVariants as node
use Rattle.hb_read_patterns.specs.Nodes.{pat_nodes, kind_nodes, pats_nodes, field_nodes, pats_count, fields_count}
use Rattle.hb_read_expressions.specs.Nodes.{wrapped}
use Rattle.hb_read_declarations.specs.Nodes.{valued}
use Rattle.hb_depth.specs.declared.shape.Shape.{Shape}
use Rattle.hb_depth.specs.declared.shape.Kind.TheVariants.{Levels}
use Rattle.hb_depth.specs.Shapes.{shapes, shape, plain, pat_shape}
use Rattle.hb_depth.specs.Forms.{Form, Whole, Forms, NoForms, MoreForms, one, two, and, pat_form, pat_parts, pats_forms, field_pats_forms}
use Rattle.hb_depth.specs.Forms as form
use Rattle.hb_depth.proofs.Posts.{count, all_post}
use Rattle.hb_depth.proofs.FormLaws.{and_post}

abbrev pub ArePats : List PatNode → Forms → Type 0
ArePats nodes fs = (rest : List Shape) → shapes (valued (wrapped nodes)) rest ≡ all_post fs rest

pub wrapped_append : (xs ys : List PatNode) (rest : List Shape) → shapes (valued (wrapped (xs ++ ys))) rest ≡ shapes (valued (wrapped xs)) (shapes (valued (wrapped ys)) rest)
wrapped_append [] ys rest = refl
wrapped_append (n ∷ xs) ys rest = ap (λ r. pat_shape n ∷ r) (wrapped_append xs ys rest)

both : (xs ys : List PatNode) (fs gs : Forms) → ArePats xs fs → ArePats ys gs → ArePats (xs ++ ys) (and fs gs)
both xs ys fs gs a b rest = wrapped_append xs ys rest ∙ ap (λ r. shapes (valued (wrapped xs)) r) (b rest) ∙ a (all_post gs rest) ∙ sym (and_post fs gs rest)

-- a node behind those of its parts
closed : (xs : List PatNode) (fs : Forms) (k : ℕ) (place : Option Place) (n : PatNode) → ArePats xs fs → pat_shape n ≡ shape (Levels k) place (count fs) → ArePats (xs ++ n ∷ []) (one (Whole k place fs))
closed xs fs k place n a e rest = wrapped_append xs (n ∷ []) rest ∙ a (pat_shape n ∷ rest) ∙ ap (λ s. all_post fs (s ∷ rest)) e

pats_counted : (ps : Pats) → pats_count ps ≡ count (pats_forms ps)
pats_counted NoPats = refl
pats_counted (MorePats p ps) = ap (λ n. n + 1) (pats_counted ps)

fields_counted : (fs : FieldPats) → fields_count fs ≡ count (field_pats_forms fs)
fields_counted NoFieldPats = refl
fields_counted (MoreFieldPats place name p fs) = ap (λ n. n + 1) (fields_counted fs)

mutual
  pub pat_post : (p : Pat) → ArePats (pat_nodes p) (one (pat_form p))
  pat_post (APat number place kind) rest = kind_post kind place rest

  kind_post : (kind : PatKind) (place : Place) → ArePats (kind_nodes place kind) (one (form.plain place (pat_parts kind)))
  kind_post tree.Any place rest = refl
  kind_post (tree.Var name) place rest = refl
  kind_post (tree.Number k) place rest = refl
  kind_post (tree.Bits width k) place rest = refl
  kind_post (tree.Con name ps) place rest = closed (pats_nodes ps) (pats_forms ps) 1 (Some place) (node.Con place name (pats_count ps)) (pats_post ps) (ap (plain place) (pats_counted ps)) rest
  kind_post (tree.Fields name fs) place rest = closed (field_nodes fs) (field_pats_forms fs) 1 (Some place) (node.Fields place name (fields_count fs)) (fields_post fs) (ap (plain place) (fields_counted fs)) rest
  kind_post (tree.Pair a b) place rest =
      closed (pat_nodes a ++ pat_nodes b) (two (pat_form a) (pat_form b)) 1 (Some place) (node.Pair place) (both (pat_nodes a) (pat_nodes b) (one (pat_form a)) (one (pat_form b)) (pat_post a) (pat_post b)) refl rest
  kind_post tree.Unit place rest = refl

  pats_post : (ps : Pats) → ArePats (pats_nodes ps) (pats_forms ps)
  pats_post NoPats rest = refl
  pats_post (MorePats p ps) rest = both (pat_nodes p) (pats_nodes ps) (one (pat_form p)) (pats_forms ps) (pat_post p) (pats_post ps) rest

  fields_post : (fs : FieldPats) → ArePats (field_nodes fs) (field_pats_forms fs)
  fields_post NoFieldPats rest = refl
  fields_post (MoreFieldPats place name p fs) rest =
      both (pat_nodes p ++ node.Field place name ∷ []) (field_nodes fs) (one (form.hidden (one (pat_form p)))) (field_pats_forms fs)
      (closed (pat_nodes p) (one (pat_form p)) 0 None (node.Field place name) (pat_post p) refl) (fields_post fs) rest
