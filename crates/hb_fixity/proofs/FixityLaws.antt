-- How the two ways in which an operator may stand beside another hang together.
use Rattle.std.proofs.Common.{◌≡◌, ℕ, ◌<◌, Bool, true, false, cond, ltb, eqb, ◌&&◌, refl, arith, ◌⊎◌, inl, inr}
use Rattle.std.proofs.lemmas.Bool.Decides.{nat_tests}
use Rattle.hb_tree.specs.declared.declaration.Fix.{Fix}
use Rattle.hb_tree.specs.declared.declaration.Fix.TheVariants.{Left, Right, Neither}
use Rattle.hb_fixity.specs.declared.fixity.Fixity.{Fixity}
use Rattle.hb_fixity.specs.Fixities.{is_left, is_right, goes_left, goes_right}

-- no way of grouping is to both sides
one_side : (f : Fix) → is_left f ≡ true → is_right f ≡ true → ⊥
one_side Left p q = cc
one_side Right p q = cc
one_side Neither p q = cc

-- what a test of the first kind says, over plain variables: n below m, or n is m and both ways are so
abbrev Holds : ℕ → ℕ → Bool → Bool → Type 0
Holds n m a b = (n < m) ⊎ ((n ≡ m) × (a ≡ true) × (b ≡ true))

holds : (n m : ℕ) (a b : Bool) → cond (ltb n m) true (cond (eqb m n) (a && b) false) ≡ true → Holds n m a b
holds n m true true h = grind (arith, nat_tests)
holds n m true false h = grind (arith, nat_tests)
holds n m false b h = grind (arith, nat_tests)

made : (n m : ℕ) (a b : Bool) → Holds n m a b → cond (ltb n m) true (cond (eqb m n) (a && b) false) ≡ true
made n m true true h = grind (arith, nat_tests)
made n m true false h = grind (arith, nat_tests)
made n m false b h = grind (arith, nat_tests)

pub decided : (b : Bool) → (b ≡ true → ⊥) → b ≡ false
decided true h = absurd (h refl)
decided false h = refl

-- an operator that may stand right of another takes it into its left operand never
pub right_not_left : (f g : Fixity) → goes_right f g ≡ true → goes_left f g ≡ false
right_not_left f g h = decided (goes_left f g) (λ k. both f g (holds f.level g.level (is_right f.fix) (is_right g.fix) h) (holds g.level f.level (is_left f.fix) (is_left g.fix) k))
  where
    both : (f g : Fixity) → Holds f.level g.level (is_right f.fix) (is_right g.fix) → Holds g.level f.level (is_left f.fix) (is_left g.fix) → ⊥
    both f g (inl a) (inl b) = omega arith
    both f g (inl a) (inr b) = omega (arith, b.0)
    both f g (inr a) (inl b) = omega (arith, a.0)
    both f g (inr a) (inr b) = one_side f.fix b.1 a.1

-- what stands right of an operator that goes left goes left too
pub right_then_left : (a b c : Fixity) → goes_right a b ≡ true → goes_left a c ≡ true → goes_left b c ≡ true
right_then_left a b c h k = made c.level b.level (is_left b.fix) (is_left c.fix) (both a b c (holds a.level b.level (is_right a.fix) (is_right b.fix) h) (holds c.level a.level (is_left a.fix) (is_left c.fix) k))
  where
    both : (a b c : Fixity) → Holds a.level b.level (is_right a.fix) (is_right b.fix) → Holds c.level a.level (is_left a.fix) (is_left c.fix) → Holds c.level b.level (is_left b.fix) (is_left c.fix)
    both a b c (inl p) (inl q) = inl (omega arith)
    both a b c (inl p) (inr q) = inl (omega (arith, q.0))
    both a b c (inr p) (inl q) = inl (omega (arith, p.0))
    both a b c (inr p) (inr q) = absurd (one_side a.fix q.1 p.1)

-- what goes left of an operator that stands right stands right too
pub left_then_right : (a b c : Fixity) → goes_right a b ≡ true → goes_left c b ≡ true → goes_right a c ≡ true
left_then_right a b c h k = made a.level c.level (is_right a.fix) (is_right c.fix) (both a b c (holds a.level b.level (is_right a.fix) (is_right b.fix) h) (holds b.level c.level (is_left c.fix) (is_left b.fix) k))
  where
    both : (a b c : Fixity) → Holds a.level b.level (is_right a.fix) (is_right b.fix) → Holds b.level c.level (is_left c.fix) (is_left b.fix) → Holds a.level c.level (is_right a.fix) (is_right c.fix)
    both a b c (inl p) (inl q) = inl (omega arith)
    both a b c (inl p) (inr q) = inl (omega (arith, q.0))
    both a b c (inr p) (inl q) = inl (omega (arith, p.0))
    both a b c (inr p) (inr q) = absurd (one_side b.fix q.2 p.2)
