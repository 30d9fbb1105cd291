-- How several parts come off a stack, one by one, and that those that were put come off again.
use Rattle.std.proofs.Common.{◌≡◌, ℕ, zero, suc, ◌+◌, ◌-◌, ◌<◌, refl, ap, sym, ◌∙◌, List, [], ◌∷◌, ◌++◌, Some, None, arith}
use Rattle.std.proofs.lemmas.List.{append-nil}
use mathlib.Core.List.{reverse_aux}
use Rattle.hb_build_expressions.specs.Taking.{off}

-- another item is wanted, and none is there
pub no_item : {A : Type 0} (left : ℕ) (stack taken : List A) → 0 < left → stack ≡ [] → off left stack taken ≡ None
unfolding off
no_item zero stack taken h e = absurd (omega arith)
no_item (suc n) [] taken h e = refl
no_item (suc n) (x ∷ stack) taken h e = cc

-- another item is wanted, and is there
pub one_item : {A : Type 0} (left : ℕ) (stack rest : List A) (item : A) (taken : List A) → 0 < left → stack ≡ item ∷ rest → off (left - 1) rest (item ∷ taken) ≡ off left stack taken
unfolding off
one_item zero stack rest item taken h e = absurd (omega arith)
one_item (suc n) stack rest item taken h e =
    let less : suc n - 1 ≡ n = omega arith in
    ap (λ m. off m rest (item ∷ taken)) less ∙ sym (ap (λ items. off (suc n) items taken) e)

-- no more items are wanted
pub all_items : {A : Type 0} (left : ℕ) (stack taken : List A) → left ≡ 0 → off left stack taken ≡ Some (taken, stack)
unfolding off
all_items left stack taken e = ap (λ n. off n stack taken) e

-- so many, and those of the list
abbrev pub from : {A : Type 0} → ℕ → List A → ℕ
from n [] = n
from n (x ∷ xs) = from (n + 1) xs

one_more : (n : ℕ) → n + 1 ≡ suc n
one_more n = omega arith

-- these items come off again, and then n more
pub off_back : {A : Type 0} (xs : List A) (n : ℕ) (stack taken : List A) → off (from n xs) (reverse_aux xs stack) taken ≡ off n stack (xs ++ taken)
unfolding off
off_back [] n stack taken = refl
off_back (x ∷ xs) n stack taken = off_back xs (n + 1) (x ∷ stack) taken ∙ ap (λ m. off m (x ∷ stack) (xs ++ taken)) (one_more n)

pub all_off : {A : Type 0} (xs stack : List A) → off (from 0 xs) (reverse_aux xs stack) [] ≡ Some (xs, stack)
unfolding off
all_off xs stack = off_back xs 0 stack [] ∙ ap (λ l. Some (l, stack)) (append-nil xs)
