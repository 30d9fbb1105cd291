-- The first pass makes the marks of a form of its nodes.
use Rattle.std.proofs.Common.{◌≡◌, ℕ, suc, ◌+◌, refl, ap, sym, ◌∙◌, List, ◌∷◌, Some, arith, add-zero, zero-add}
use Rattle.hb_depth.specs.declared.chain.Chain.{Chain}
use Rattle.hb_depth.specs.declared.chain.Chain.TheVariants as chain
use Rattle.hb_depth.specs.declared.mark.Mark.{Mark}
use Rattle.hb_depth.specs.declared.shape.Shape.{Shape}
use Rattle.hb_depth.specs.declared.shape.Kind.TheVariants.{Levels, Apply, Arrow}
use Rattle.hb_depth.specs.Shapes.{shape}
use Rattle.hb_depth.specs.Marking.{dropped, marked}
use Rattle.hb_depth.specs.Forms.{Form, Whole, Applied, Arrowed, Forms, NoForms, MoreForms}
use Rattle.hb_depth.proofs.Posts.{count, post, all_post, chain_of, chains_of, marks_of, all_marks}

count_moved : (m n : ℕ) → (m + 1) + n ≡ m + suc n
count_moved m n = omega arith

drop_back : (fs : Forms) (n : ℕ) (chains : List Chain) → dropped (count fs + n) (chains_of fs chains) ≡ dropped n chains
unfolding dropped
drop_back NoForms n chains = ap (λ m. dropped m chains) (zero-add n)
drop_back (MoreForms f fs) n chains =
    ap (λ m. dropped m (chains_of fs (chain_of f ∷ chains))) (count_moved (count fs) n)
    ∙ drop_back fs (suc n) (chain_of f ∷ chains)

drop_all : (fs : Forms) (chains : List Chain) → dropped (count fs) (chains_of fs chains) ≡ chains
unfolding dropped
drop_all fs chains = ap (λ m. dropped m (chains_of fs chains)) (sym (add-zero (count fs))) ∙ drop_back fs 0 chains

-- a node behind those of its parts, where the parts come off again
closing : (fs : Forms) (chains : List Chain) (marks : List Mark) (rest : List Shape) → marked (chain.Other ∷ dropped (count fs) (chains_of fs chains)) marks rest ≡ marked (chain.Other ∷ chains) marks rest
closing fs chains marks rest = ap (λ cs. marked (chain.Other ∷ cs) marks rest) (drop_all fs chains)

mutual
  pub form_marked : (f : Form) (chains : List Chain) (marks : List Mark) (rest : List Shape) → marked chains marks (post f rest) ≡ marked (chain_of f ∷ chains) (marks_of f marks) rest
  form_marked (Whole k place parts) chains marks rest =
      forms_marked parts chains marks (shape (Levels k) place (count parts) ∷ rest)
      ∙ closing parts chains (marks_of (Whole k place parts) marks) rest
  form_marked (Applied place f x) chains marks rest =
      form_marked f chains marks (post x (shape Apply (Some place) 2 ∷ rest))
      ∙ form_marked x (chain_of f ∷ chains) (marks_of f marks) (shape Apply (Some place) 2 ∷ rest)
  form_marked (Arrowed place a b) chains marks rest =
      form_marked a chains marks (post b (shape Arrow (Some place) 2 ∷ rest))
      ∙ form_marked b (chain_of a ∷ chains) (marks_of a marks) (shape Arrow (Some place) 2 ∷ rest)

  forms_marked : (fs : Forms) (chains : List Chain) (marks : List Mark) (rest : List Shape) → marked chains marks (all_post fs rest) ≡ marked (chains_of fs chains) (all_marks fs marks) rest
  forms_marked NoForms chains marks rest = refl
  forms_marked (MoreForms f fs) chains marks rest =
      form_marked f chains marks (all_post fs rest)
      ∙ forms_marked fs (chain_of f ∷ chains) (marks_of f marks) rest
