-- What the two passes answer for a program's nodes is the first place that is too deep.
use Rattle.std.proofs.Common.{◌≡◌, ap, sym, ◌∙◌, subst, List, [], ◌∷◌, Option, None}
use Rattle.hb_base.specs.declared.place.Place.{Place}
use Rattle.hb_tree.specs.declared.declaration.Program.{Program}
use Rattle.hb_read_declarations.specs.declared.node.DeclNode.{DeclNode}
use Rattle.hb_read_declarations.specs.Nodes.{program_nodes}
use Rattle.hb_depth.specs.declared.mark.Mark.{Mark}
use Rattle.hb_depth.specs.declared.shape.Around.TheVariants.{Other}
use Rattle.hb_depth.specs.Depth.{IsFirst, too_deep}
use Rattle.hb_depth.specs.Forms.{program_form}
use Rattle.hb_depth.specs.Marking.{marked}
use Rattle.hb_depth.specs.Shapes.{shapes}
use Rattle.hb_depth.specs.Walking.{first_from, level, walked}
use Rattle.hb_depth.specs.Written.{IsWrittenProgram}
use Rattle.hb_depth.proofs.Posts.{marks_of}
use Rattle.hb_depth.proofs.MarkingLaws.{form_marked}
use Rattle.hb_depth.proofs.WalkingLaws.{form_walked, capped_zero}
use Rattle.hb_depth.proofs.FirstLaws.{first_found}
use Rattle.hb_depth.proofs.DeclPosts.{program_post}

-- all marks of the nodes of a program
all_marked : (p : Program) → IsWrittenProgram p → marked [] [] (shapes (program_nodes p) []) ≡ marks_of (program_form p) []
all_marked p w = ap (λ s. marked [] [] s) (program_post p w []) ∙ form_marked (program_form p) [] [] []

-- all places that are too deep are looked at
all_walked : (p : Program) → walked (level 1 0 Other ∷ []) None (marks_of (program_form p) []) ≡ first_from None (too_deep p)
all_walked p =
    ap (λ d. walked (level 1 d Other ∷ []) None (marks_of (program_form p) [])) (sym capped_zero)
    ∙ form_walked (program_form p) 0 0 Other [] None []

pub answered : (p : Program) (nodes : List DeclNode) (marks : List Mark) (found : Option Place) → marks ≡ marked [] [] (shapes nodes []) → found ≡ walked (level 1 0 Other ∷ []) None marks → IsWrittenProgram p → nodes ≡ program_nodes p → IsFirst found (too_deep p)
answered p nodes marks found e f w h =
    subst (λ r. IsFirst r (too_deep p)) (sym (f ∙ ap (walked (level 1 0 Other ∷ []) None) (e ∙ ap (λ ns. marked [] [] (shapes ns [])) h ∙ all_marked p w) ∙ all_walked p)) (first_found (too_deep p))
