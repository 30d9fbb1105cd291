-- The nodes of forms, as shapes: the parts of a form in their order, and then the form. And what both passes make of them.
use Rattle.std.proofs.Common.{ℕ, ◌+◌, List, ◌∷◌, Some}
use Rattle.hb_depth.specs.declared.chain.Chain.{Chain}
use Rattle.hb_depth.specs.declared.chain.Chain.TheVariants as chain
use Rattle.hb_depth.specs.declared.mark.Mark.{Mark}
use Rattle.hb_depth.specs.declared.shape.Shape.{Shape}
use Rattle.hb_depth.specs.declared.shape.Kind.TheVariants.{Levels, Apply, Arrow}
use Rattle.hb_depth.specs.Shapes.{shape}
use Rattle.hb_depth.specs.Marking.{capped, arguments_in, arrows_in, mark}
use Rattle.hb_depth.specs.Forms.{Form, Whole, Applied, Arrowed, Forms, NoForms, MoreForms}

abbrev pub count : Forms → ℕ
count NoForms = 0
count (MoreForms f fs) = count fs + 1

abbrev mutual
  -- the shapes of a form's nodes, before others
  pub post : Form → List Shape → List Shape
  post (Whole k place parts) rest = all_post parts (shape (Levels k) place (count parts) ∷ rest)
  post (Applied place f x) rest = post f (post x (shape Apply (Some place) 2 ∷ rest))
  post (Arrowed place a b) rest = post a (post b (shape Arrow (Some place) 2 ∷ rest))

  pub all_post : Forms → List Shape → List Shape
  all_post NoForms rest = rest
  all_post (MoreForms f fs) rest = post f (all_post fs rest)

-- what a form is to one that it stands in

abbrev pub chain_of : Form → Chain
chain_of (Applied place f x) = chain.Apply (capped (arguments_in (Some (chain_of f)) + 1))
chain_of (Arrowed place a b) = chain.Arrow (capped (arrows_in (Some (chain_of b)) + 1))
chain_of (Whole k place parts) = chain.Other

abbrev pub chains_of : Forms → List Chain → List Chain
chains_of NoForms chains = chains
chains_of (MoreForms f fs) chains = chains_of fs (chain_of f ∷ chains)

abbrev mutual
  -- the marks of a form's nodes, the last node first, before those of earlier nodes
  pub marks_of : Form → List Mark → List Mark
  marks_of (Whole k place parts) marks = mark (shape (Levels k) place (count parts)) k ∷ all_marks parts marks
  marks_of (Applied place f x) marks = mark (shape Apply (Some place) 2) (capped (arguments_in (Some (chain_of f)) + 1)) ∷ marks_of x (marks_of f marks)
  marks_of (Arrowed place a b) marks = mark (shape Arrow (Some place) 2) (capped (arrows_in (Some (chain_of b)) + 1)) ∷ marks_of b (marks_of a marks)

  pub all_marks : Forms → List Mark → List Mark
  all_marks NoForms marks = marks
  all_marks (MoreForms f fs) marks = all_marks fs (marks_of f marks)
