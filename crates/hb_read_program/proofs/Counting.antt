-- Sums of counts, and a number that is a digit.
use Rattle.std.proofs.Common.{◌≡◌, ℕ, suc, ◌+◌, ◌≤◌, Bool, true, false, cond, refl, arith}
use Rattle.std.specs.Prelude.{nat_le}
use Rattle.std.proofs.lemmas.Bool.Decides.{nat_tests}
use Rattle.hb_read_program.specs.Rules.{digit_in}

pub none_plus : (n : ℕ) → 0 + n ≡ n
none_plus n = omega arith

pub none_more : (n : ℕ) → n ≡ n + 0
none_more n = omega arith

pub one_more : (n : ℕ) → n + 1 ≡ n + (1 + 0)
one_more n = omega arith

pub counts : (a b : ℕ) → (a + 1) + b ≡ a + (1 + b)
counts a b = omega arith

pub next_suc : (k : ℕ) → k + 1 ≡ suc k
next_suc k = omega arith

pub digit_small : (k : ℕ) → k ≤ 9 → digit_in k ≡ k
digit_small k h = by_test (nat_le k 9) refl
  where
    by_test : (b : Bool) → nat_le k 9 ≡ b → cond b k 9 ≡ k
    by_test true e = refl
    by_test false e = grind (arith, nat_tests, e, h)
