-- A number of steps and then another number are as many steps as both together.
use Rattle.std.proofs.Common.{◌≡◌, ℕ, zero, suc, ◌+◌, ◌∷◌, ◌++◌, ap, ◌∙◌, arith}
use Rattle.hb_runs.specs.Stepping.{after, answers}

zero_plus : (n : ℕ) → 0 + n ≡ n
zero_plus n = omega arith

suc_plus : (m n : ℕ) → suc m + n ≡ suc (m + n)
suc_plus m n = omega arith

pub after-add : {S T : Type 0} (step : S → S × T) (m n : ℕ) (s : S) → after step (m + n) s ≡ after step n (after step m s)
unfolding after
after-add step zero n s = ap (λ k. after step k s) (zero_plus n)
after-add step (suc m) n s = ap (λ k. after step k s) (suc_plus m n) ∙ after-add step m n (step s).0

pub answers-add : {S T : Type 0} (step : S → S × T) (m n : ℕ) (s : S) → answers step (m + n) s ≡ answers step m s ++ answers step n (after step m s)
unfolding after answers
answers-add step zero n s = ap (λ k. answers step k s) (zero_plus n)
answers-add step (suc m) n s = ap (λ k. answers step k s) (suc_plus m n) ∙ ap (λ ts. (step s).1 ∷ ts) (answers-add step m n (step s).0)
