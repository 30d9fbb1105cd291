-- How the operands and the operators of a run come off the stack, two by two.
use Rattle.std.proofs.Common.{◌≡◌, ℕ, zero, suc, ◌-◌, ◌<◌, refl, ap, sym, ◌∙◌, List, [], ◌∷◌, Some, None, arith}
use Rattle.hb_build_expressions.specs.Taking.{two_off, run_off}

-- an operator and an operand are wanted, and not both are there
pub no_pair : {A : Type 0} (left : ℕ) (stack es os : List A) → 0 < left → two_off stack ≡ None → run_off left stack es os ≡ None
unfolding run_off
no_pair zero stack es os h e = absurd (omega arith)
no_pair (suc n) [] es os h e = refl
no_pair (suc n) (x ∷ []) es os h e = refl
no_pair (suc n) (x ∷ y ∷ stack) es os h e = cc

same_two : {A : Type 0} (x y : (A × A) × List A) → Some x ≡ Some y → x ≡ y
same_two x y e = cc

-- they are wanted, and are there
pub one_pair : {A : Type 0} (left : ℕ) (stack rest : List A) (operator operand : A) (es os : List A) → 0 < left → two_off stack ≡ Some ((operator, operand), rest) → run_off (left - 1) rest (operand ∷ es) (operator ∷ os) ≡ run_off left stack es os
unfolding run_off
one_pair zero stack rest operator operand es os h e = absurd (omega arith)
one_pair (suc n) [] rest operator operand es os h e = cc
one_pair (suc n) (x ∷ []) rest operator operand es os h e = cc
one_pair (suc n) (y ∷ x ∷ stack) rest operator operand es os h e =
    let less : suc n - 1 ≡ n = omega arith in
    ap (λ m. run_off m rest (operand ∷ es) (operator ∷ os)) less
    ∙ sym (ap (λ two. run_off n two.1 (two.0.1 ∷ es) (two.0.0 ∷ os)) (same_two ((x, y), stack) ((operator, operand), rest) e))

-- the operand before all operators is not there
pub no_operand : {A : Type 0} (left : ℕ) (stack es os : List A) → left ≡ 0 → stack ≡ [] → run_off left stack es os ≡ None
unfolding run_off
no_operand left stack es os h e = λ i. run_off (h i) (e i) es os

-- it is there
pub first_operand : {A : Type 0} (left : ℕ) (stack rest : List A) (operand : A) (es os : List A) → left ≡ 0 → stack ≡ operand ∷ rest → run_off left stack es os ≡ Some ((operand ∷ es, os), rest)
unfolding run_off
first_operand left stack rest operand es os h e = λ i. run_off (h i) (e i) es os
