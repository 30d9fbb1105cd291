-- How several parts come off the stack, one by one.
use Rattle.std.proofs.Common.{◌≡◌, ℕ, zero, suc, ◌-◌, ◌<◌, refl, ap, sym, ◌∙◌, List, [], ◌∷◌, Some, None, arith}
use Rattle.hb_tree.specs.declared.pattern.FieldPat.{FieldPat}
use Rattle.hb_tree.specs.Patterns.{Pat as Tree}
use Rattle.hb_build.specs.declared.pattern_builder.Part.{Part}
use Rattle.hb_build.specs.declared.pattern_builder.Part.TheVariants.{Pat, Field, Row}
use Rattle.hb_build.specs.PatternSteps.{pat_off, field_off, pats_off, fields_off}

-- another pattern is wanted, and none is there
pub no_pat : (left : ℕ) (parts : List Part) (taken : List Tree) → 0 < left → pat_off parts ≡ None → pats_off left parts taken ≡ None
unfolding pats_off
no_pat zero parts taken h e = absurd (omega arith)
no_pat (suc n) (Pat p ∷ parts) taken h e = cc
no_pat (suc n) (Field f ∷ parts) taken h e = refl
no_pat (suc n) (Row ps ∷ parts) taken h e = refl
no_pat (suc n) [] taken h e = refl

same_off : {A : Type 0} (x y : A × List Part) → Some x ≡ Some y → x ≡ y
same_off x y e = cc

-- another pattern is wanted, and is there
pub one_pat : (left : ℕ) (parts rest : List Part) (p : Tree) (taken : List Tree) → 0 < left → pat_off parts ≡ Some (p, rest) → pats_off (left - 1) rest (p ∷ taken) ≡ pats_off left parts taken
unfolding pats_off
one_pat zero parts rest p taken h e = absurd (omega arith)
one_pat (suc n) (Pat q ∷ parts) rest p taken h e =
    let less : suc n - 1 ≡ n = omega arith in
    ap (λ m. pats_off m rest (p ∷ taken)) less ∙ sym (ap (λ off. pats_off n off.1 (off.0 ∷ taken)) (same_off (q, parts) (p, rest) e))
one_pat (suc n) (Field f ∷ parts) rest p taken h e = cc
one_pat (suc n) (Row ps ∷ parts) rest p taken h e = cc
one_pat (suc n) [] rest p taken h e = cc

-- no more patterns are wanted
pub all_pats : (left : ℕ) (parts : List Part) (taken : List Tree) → left ≡ 0 → pats_off left parts taken ≡ Some (taken, parts)
unfolding pats_off
all_pats left parts taken e = ap (λ n. pats_off n parts taken) e

-- the same of fields
pub no_field : (left : ℕ) (parts : List Part) (taken : List FieldPat) → 0 < left → field_off parts ≡ None → fields_off left parts taken ≡ None
unfolding fields_off
no_field zero parts taken h e = absurd (omega arith)
no_field (suc n) (Field f ∷ parts) taken h e = cc
no_field (suc n) (Pat p ∷ parts) taken h e = refl
no_field (suc n) (Row ps ∷ parts) taken h e = refl
no_field (suc n) [] taken h e = refl

pub one_field : (left : ℕ) (parts rest : List Part) (f : FieldPat) (taken : List FieldPat) → 0 < left → field_off parts ≡ Some (f, rest) → fields_off (left - 1) rest (f ∷ taken) ≡ fields_off left parts taken
unfolding fields_off
one_field zero parts rest f taken h e = absurd (omega arith)
one_field (suc n) (Field g ∷ parts) rest f taken h e =
    let less : suc n - 1 ≡ n = omega arith in
    ap (λ m. fields_off m rest (f ∷ taken)) less ∙ sym (ap (λ off. fields_off n off.1 (off.0 ∷ taken)) (same_off (g, parts) (f, rest) e))
one_field (suc n) (Pat p ∷ parts) rest f taken h e = cc
one_field (suc n) (Row ps ∷ parts) rest f taken h e = cc
one_field (suc n) [] rest f taken h e = cc

pub all_fields : (left : ℕ) (parts : List Part) (taken : List FieldPat) → left ≡ 0 → fields_off left parts taken ≡ Some (taken, parts)
unfolding fields_off
all_fields left parts taken e = ap (λ n. fields_off n parts taken) e
