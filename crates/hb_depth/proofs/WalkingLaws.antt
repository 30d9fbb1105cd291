-- The second pass finds the first place among those of the forms that are too deep.
use Rattle.std.proofs.Common.{◌≡◌, ℕ, zero, suc, ◌+◌, ◌-◌, Bool, true, false, nat_lt, refl, ap, sym, ◌∙◌, List, [], ◌∷◌, ◌++◌, Option, Some, None, arith, add-zero, zero-add, cond}
use Rattle.hb_base.specs.declared.place.Place.{Place}
use Rattle.hb_depth.specs.declared.mark.Mark.{Mark}
use Rattle.hb_depth.specs.declared.shape.Around.{Around}
use Rattle.hb_depth.specs.declared.shape.Around.TheVariants.{Other, Head, Right}
use Rattle.hb_depth.specs.declared.walk.Level.{Level}
use Rattle.hb_depth.specs.Marking.{capped, arguments_in, arrows_in}
use Rattle.hb_depth.specs.Walking.{first_from, earlier, under, noted, level, pushed, kept, walked}
use Rattle.hb_depth.specs.Depth.{arguments, arrows, is_head, is_right, below, itself, deep, all_deep}
use Rattle.hb_depth.specs.Forms.{Form, Whole, Applied, Arrowed, Forms, NoForms, MoreForms}
use Rattle.hb_depth.proofs.Posts.{count, chain_of, marks_of, all_marks}

-- Numbers of levels up to the greatest one.

capped_sum : (a b : ℕ) → capped (capped a + b) ≡ capped (a + b)
unfolding capped
capped_sum a b = omega arith

capped_sums : (a b : ℕ) → capped (capped a + capped b) ≡ capped (a + b)
unfolding capped
capped_sums a b = omega arith

capped_deep : (a : ℕ) → nat_lt 200 (capped a) ≡ nat_lt 200 a
unfolding capped
capped_deep a = grind arith

pub capped_zero : capped 0 ≡ 0
unfolding capped
capped_zero = omega arith

pub under_plain : (joined : Bool) (depth levels : ℕ) → under joined (capped depth) levels ≡ capped (below joined depth levels)
under_plain true depth levels = refl
under_plain false depth levels = capped_sum depth levels

pub under_capped : (joined : Bool) (depth levels : ℕ) → under joined (capped depth) (capped levels) ≡ capped (below joined depth levels)
under_capped true depth levels = refl
under_capped false depth levels = capped_sums depth levels

arguments_found : (f : Form) → arguments_in (Some (chain_of f)) ≡ capped (arguments f)
arguments_found (Whole k place parts) = sym capped_zero
arguments_found (Arrowed place a b) = sym capped_zero
arguments_found (Applied place f x) = ap (λ n. capped (n + 1)) (arguments_found f) ∙ capped_sum (arguments f) 1

arrows_found : (f : Form) → arrows_in (Some (chain_of f)) ≡ capped (arrows f)
arrows_found (Whole k place parts) = sym capped_zero
arrows_found (Applied place f x) = sym capped_zero
arrows_found (Arrowed place a b) = ap (λ n. capped (n + 1)) (arrows_found b) ∙ capped_sum (arrows b) 1

-- the levels of an application and of an arrow, as they are marked

applied_levels : (f x : Form) (place : Place) → capped (arguments_in (Some (chain_of f)) + 1) ≡ capped (arguments f + 1)
applied_levels f x place = arguments_found (Applied place f x)

arrowed_levels : (a b : Form) (place : Place) → capped (arrows_in (Some (chain_of b)) + 1) ≡ capped (arrows b + 1)
arrowed_levels a b place = arrows_found (Arrowed place a b)

-- Parts that are to come.

more_left : (n : ℕ) → nat_lt 1 (suc (suc n)) ≡ true
more_left n = grind arith

one_off : (n : ℕ) → suc (suc n) - 1 ≡ suc n
one_off n = omega arith

pub kept_pushed : (n depth : ℕ) (around : Around) (levels : List Level) → kept (level (suc n) depth around) levels ≡ pushed n depth around levels
kept_pushed zero depth around levels = refl
kept_pushed (suc n) depth around levels =
    ap (λ b. cond b (level (suc (suc n) - 1) depth around ∷ levels) levels) (more_left n)
    ∙ ap (λ m. level m depth around ∷ levels) (one_off n)

-- Places.

pub first_append : (best : Option Place) (ps qs : List Place) → first_from best (ps ++ qs) ≡ first_from (first_from best ps) qs
first_append best [] qs = refl
first_append best (p ∷ ps) qs = first_append (Some (earlier best p)) ps qs

note_if : (b : Bool) (place : Place) (best : Option Place) → cond b (Some (earlier best place)) best ≡ first_from best (cond b (place ∷ []) [])
note_if true place best = refl
note_if false place best = refl

noted_itself : (joined : Bool) (depth : ℕ) (place : Option Place) (best : Option Place) → noted joined (capped depth) place best ≡ first_from best (itself joined depth place)
noted_itself true depth place best = refl
noted_itself false depth None best = refl
noted_itself false depth (Some place) best = ap (λ b. cond b (Some (earlier best place)) best) (capped_deep depth) ∙ note_if (nat_lt 200 depth) place best

-- The step of a node whose parts are to come: the depth of the parts, the level that is left, and the best place so far.
opens : (parts D E n depth : ℕ) (inner around : Around) (levels : List Level) (N M : Option Place) (marks : List Mark) → D ≡ E → N ≡ M → walked (pushed parts D inner (kept (level (suc n) depth around) levels)) N marks ≡ walked (pushed (parts + 0) E inner (pushed n depth around levels)) M marks
opens parts D E n depth inner around levels N M marks e f =
    ap (λ d. walked (pushed parts d inner (kept (level (suc n) depth around) levels)) N marks) e
    ∙ ap (λ ls. walked (pushed parts E inner ls) N marks) (kept_pushed n depth around levels)
    ∙ ap (λ b. walked (pushed parts E inner (pushed n depth around levels)) b marks) f
    ∙ ap (λ m. walked (pushed m E inner (pushed n depth around levels)) M marks) (sym (add-zero parts))

opens_two : (D E n depth : ℕ) (last before around : Around) (levels : List Level) (N M : Option Place) (marks : List Mark) → D ≡ E → N ≡ M → walked (level 1 D last ∷ level 1 D before ∷ kept (level (suc n) depth around) levels) N marks ≡ walked (level 1 E last ∷ level 1 E before ∷ pushed n depth around levels) M marks
opens_two D E n depth last before around levels N M marks e f =
    ap (λ d. walked (level 1 d last ∷ level 1 d before ∷ kept (level (suc n) depth around) levels) N marks) e
    ∙ ap (λ ls. walked (level 1 E last ∷ level 1 E before ∷ ls) N marks) (kept_pushed n depth around levels)
    ∙ ap (λ b. walked (level 1 E last ∷ level 1 E before ∷ pushed n depth around levels) b marks) f

count_moved : (m n : ℕ) → (m + 1) + n ≡ m + suc n
count_moved m n = omega arith

-- places after others, as one list
joined : (levels : List Level) (best : Option Place) (ps qs : List Place) (marks : List Mark) → walked levels (first_from (first_from best ps) qs) marks ≡ walked levels (first_from best (ps ++ qs)) marks
joined levels best ps qs marks = ap (λ b. walked levels b marks) (sym (first_append best ps qs))

joined_two : (levels : List Level) (best : Option Place) (ps qs rs : List Place) (marks : List Mark) → walked levels (first_from (first_from (first_from best ps) qs) rs) marks ≡ walked levels (first_from best (ps ++ (qs ++ rs))) marks
joined_two levels best ps qs rs marks = joined levels (first_from best ps) qs rs marks ∙ joined levels best ps (qs ++ rs) marks

-- A form's marks, from the level that waits for it.

mutual
  pub form_walked : (f : Form) (n depth : ℕ) (around : Around) (levels : List Level) (best : Option Place) (marks : List Mark) → walked (level (suc n) (capped depth) around ∷ levels) best (marks_of f marks) ≡ walked (pushed n (capped depth) around levels) (first_from best (deep around depth f)) marks
  form_walked (Whole k place parts) n depth around levels best marks =
      opens (count parts) (under false (capped depth) k) (capped (depth + k)) n (capped depth) Other around levels (noted false (capped depth) place best) (first_from best (itself false depth place)) (all_marks parts marks) (under_plain false depth k) (noted_itself false depth place best)
      ∙ forms_walked parts 0 (depth + k) (pushed n (capped depth) around levels) (first_from best (itself false depth place)) marks
      ∙ joined (pushed n (capped depth) around levels) best (itself false depth place) (all_deep (depth + k) parts) marks
  form_walked (Applied place f x) n depth around levels best marks =
      opens_two (under (is_head around) (capped depth) (capped (arguments_in (Some (chain_of f)) + 1))) (capped (below (is_head around) depth (arguments f + 1))) n (capped depth) Other Head around levels (noted (is_head around) (capped depth) (Some place) best) (first_from best (itself (is_head around) depth (Some place))) (marks_of x (marks_of f marks)) (ap (λ k. under (is_head around) (capped depth) k) (applied_levels f x place) ∙ under_capped (is_head around) depth (arguments f + 1)) (noted_itself (is_head around) depth (Some place) best)
      ∙ form_walked x 0 (below (is_head around) depth (arguments f + 1)) Other (level 1 (capped (below (is_head around) depth (arguments f + 1))) Head ∷ pushed n (capped depth) around levels) (first_from best (itself (is_head around) depth (Some place))) (marks_of f marks)
      ∙ form_walked f 0 (below (is_head around) depth (arguments f + 1)) Head (pushed n (capped depth) around levels) (first_from (first_from best (itself (is_head around) depth (Some place))) (deep Other (below (is_head around) depth (arguments f + 1)) x)) marks
      ∙ joined_two (pushed n (capped depth) around levels) best (itself (is_head around) depth (Some place)) (deep Other (below (is_head around) depth (arguments f + 1)) x) (deep Head (below (is_head around) depth (arguments f + 1)) f) marks
  form_walked (Arrowed place a b) n depth around levels best marks =
      opens_two (under (is_right around) (capped depth) (capped (arrows_in (Some (chain_of b)) + 1))) (capped (below (is_right around) depth (arrows b + 1))) n (capped depth) Right Other around levels (noted (is_right around) (capped depth) (Some place) best) (first_from best (itself (is_right around) depth (Some place))) (marks_of b (marks_of a marks)) (ap (λ k. under (is_right around) (capped depth) k) (arrowed_levels a b place) ∙ under_capped (is_right around) depth (arrows b + 1)) (noted_itself (is_right around) depth (Some place) best)
      ∙ form_walked b 0 (below (is_right around) depth (arrows b + 1)) Right (level 1 (capped (below (is_right around) depth (arrows b + 1))) Other ∷ pushed n (capped depth) around levels) (first_from best (itself (is_right around) depth (Some place))) (marks_of a marks)
      ∙ form_walked a 0 (below (is_right around) depth (arrows b + 1)) Other (pushed n (capped depth) around levels) (first_from (first_from best (itself (is_right around) depth (Some place))) (deep Right (below (is_right around) depth (arrows b + 1)) b)) marks
      ∙ joined_two (pushed n (capped depth) around levels) best (itself (is_right around) depth (Some place)) (deep Right (below (is_right around) depth (arrows b + 1)) b) (deep Other (below (is_right around) depth (arrows b + 1)) a) marks

  pub forms_walked : (fs : Forms) (n depth : ℕ) (levels : List Level) (best : Option Place) (marks : List Mark) → walked (pushed (count fs + n) (capped depth) Other levels) best (all_marks fs marks) ≡ walked (pushed n (capped depth) Other levels) (first_from best (all_deep depth fs)) marks
  forms_walked NoForms n depth levels best marks = ap (λ m. walked (pushed m (capped depth) Other levels) best marks) (zero-add n)
  forms_walked (MoreForms f fs) n depth levels best marks =
      ap (λ m. walked (pushed m (capped depth) Other levels) best (all_marks fs (marks_of f marks))) (count_moved (count fs) n)
      ∙ forms_walked fs (suc n) depth levels best (marks_of f marks)
      ∙ form_walked f n depth Other levels (first_from best (all_deep depth fs)) marks
      ∙ joined (pushed n (capped depth) Other levels) best (all_deep depth fs) (deep Other depth f) marks
