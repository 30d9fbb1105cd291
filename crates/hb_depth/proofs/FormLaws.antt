-- Forms behind forms, and how many they are.
use Rattle.std.proofs.Common.{◌≡◌, ◌+◌, length, refl, ap, List, [], ◌∷◌, arith}
use Rattle.hb_depth.specs.declared.shape.Shape.{Shape}
use Rattle.hb_depth.specs.Forms.{Form, Forms, NoForms, MoreForms, and, forms}
use Rattle.hb_depth.proofs.Posts.{count, post, all_post}

pub and_post : (fs gs : Forms) (rest : List Shape) → all_post (and fs gs) rest ≡ all_post fs (all_post gs rest)
and_post NoForms gs rest = refl
and_post (MoreForms f fs) gs rest = ap (λ r. post f r) (and_post fs gs rest)

pub and_count : (fs gs : Forms) → count (and fs gs) ≡ count fs + count gs
and_count NoForms gs = omega arith
and_count (MoreForms f fs) gs = omega (arith, and_count fs gs)

pub forms_count : {A : Type 0} (f : A → Form) (xs : List A) → length xs ≡ count (forms f xs)
forms_count f [] = refl
forms_count f (x ∷ xs) = omega (arith, forms_count f xs)
