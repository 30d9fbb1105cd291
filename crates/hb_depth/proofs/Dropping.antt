-- How forms are taken off one by one.
use Rattle.std.proofs.Common.{◌≡◌, ℕ, zero, suc, ◌-◌, ◌<◌, refl, ap, sym, ◌∙◌, List, [], arith}
use Rattle.hb_stack.specs.Stacks.{rest_of}
use Rattle.hb_depth.specs.declared.chain.Chain.{Chain}
use Rattle.hb_depth.specs.Marking.{dropped}

pub none_more : (chains : List Chain) → dropped 0 chains ≡ chains
unfolding dropped
none_more chains = refl

pub none_left : (n : ℕ) → dropped n [] ≡ []
unfolding dropped
none_left zero = refl
none_left (suc n) = none_left n

one_off : (n : ℕ) → n ≡ suc n - 1
one_off n = omega arith

pub one_less : (n : ℕ) (chains : List Chain) → 0 < n → dropped n chains ≡ dropped (n - 1) (rest_of chains)
unfolding dropped
one_less zero chains h = absurd (omega (arith, h))
one_less (suc n) chains h = ap (λ m. dropped m (rest_of chains)) (one_off n)

pub none_at : (n : ℕ) (chains : List Chain) → n ≡ 0 → chains ≡ dropped n chains
none_at n chains h = sym (ap (λ m. dropped m chains) h ∙ none_more chains)
