-- Of equations that can be solved, all solutions agree on two types exactly where the closure equates them.
use Rattle.std.proofs.Common.{◌≡◌, ◌≢◌, ℕ, ◌+◌, ◌<◌, ◌==◌, List, [], ◌∷◌, Bool, false, cond, sym, refl, ap, ◌∙◌, subst, arith, ⊎_elim, eq-eqb}
use Rattle.std.proofs.lemmas.Bool.{cases_eq}
use Rattle.std.proofs.lemmas.Bool.Decides.{nat_tests}
use Rattle.hb_types.specs.declared.atom.Atom.TheVariants.{Nat}
use Rattle.hb_types.specs.Finite.{Finite, Single, Applied}
use Rattle.hb_types.specs.Types.{Ty, Unknown, Leaf, Apply}
use Rattle.hb_types.specs.Instance.{instance}
use Rattle.hb_types.specs.Closure.{Equation, Each, Solves, IsAmong, Closure, given, same, turn, join, build, function, argument, IsClosed, IsPart, AreUnlike, Clashes, applied, General}

-- the closure says no more than what all solutions make true
among-solves : (es : List Equation) (s : ℕ → Finite) → Solves s es → (t u : Ty) → IsAmong es t u → instance s t ≡ instance s u
among-solves [] s solves t u i = absurd i
among-solves (e ∷ es) s solves t u i =
    ⊎_elim (λ here. ap (instance s) here.0 ∙ solves.0 ∙ sym (ap (instance s) here.1)) (λ rest. among-solves es s solves.1 t u rest) i

applied-function : (f g x y : Finite) → Applied f x ≡ Applied g y → f ≡ g
applied-function f g x y e = cc

applied-argument : (f g x y : Finite) → Applied f x ≡ Applied g y → x ≡ y
applied-argument f g x y e = cc

pub closed_agree : (es : List Equation) (s : ℕ → Finite) → Solves s es → (t u : Ty) → Closure es t u → instance s t ≡ instance s u
closed_agree es s solves _ _ (given t u i) = among-solves es s solves t u i
closed_agree es s solves _ _ (same t) = refl
closed_agree es s solves _ _ (turn t u c) = sym (closed_agree es s solves t u c)
closed_agree es s solves _ _ (join t u w c d) = closed_agree es s solves t u c ∙ closed_agree es s solves u w d
closed_agree es s solves _ _ (build f g x y c d) =
    ap (λ v. Applied v (instance s x)) (closed_agree es s solves f g c) ∙ ap (λ v. Applied (instance s g) v) (closed_agree es s solves x y d)
closed_agree es s solves _ _ (function f g x y c) =
    applied-function (instance s f) (instance s g) (instance s x) (instance s y) (closed_agree es s solves (Apply f x) (Apply g y) c)
closed_agree es s solves _ _ (argument f g x y c) =
    applied-argument (instance s f) (instance s g) (instance s x) (instance s y) (closed_agree es s solves (Apply f x) (Apply g y) c)

pub closure-closed : (es : List Equation) → IsClosed (Closure es)
closure-closed es = record {
  same = λ t. same t;
  turn = λ t u c. turn t u c;
  join = λ t u w c d. join t u w c d;
  build = λ f g x y c d. build f g x y c d;
  function = λ f g x y c. function f g x y c;
  argument = λ f g x y c. argument f g x y c;
}

-- how large a finite type is
size : Finite → ℕ
size (Single a) = 1
size (Applied f x) = size f + size x + 1

part-less : (s : ℕ → Finite) (t u : Ty) → IsPart t u → size (instance s t) < size (instance s u)
unfolding size
part-less s t (Unknown n) p = absurd p
part-less s t (Leaf a) p = absurd p
part-less s t (Apply f x) p =
    ⊎_elim
    (λ q. ⊎_elim
    (λ e. let same : size (instance s t) ≡ size (instance s f) = ap (λ (v : Ty). size (instance s v)) e in omega (arith, same))
    (λ r. omega (arith, part-less s t f r)) q)
    (λ q. ⊎_elim
    (λ e. let same : size (instance s t) ≡ size (instance s x) = ap (λ (v : Ty). size (instance s v)) e in omega (arith, same))
    (λ r. omega (arith, part-less s t x r)) q)
    p

unlike-differ : (s : ℕ → Finite) (t u : Ty) → AreUnlike t u → instance s t ≡ instance s u → ⊥
unlike-differ s (Unknown n) u h e = h
unlike-differ s (Leaf a) (Unknown n) h e = h
unlike-differ s (Leaf a) (Leaf b) h e = h (cc)
unlike-differ s (Leaf a) (Apply g y) h e = cc
unlike-differ s (Apply f x) (Unknown n) h e = h
unlike-differ s (Apply f x) (Leaf b) h e = cc
unlike-differ s (Apply f x) (Apply g y) h e = h

-- where the closure clashes, there is no solution
pub clash_unsolved : (es : List Equation) → Clashes (Closure es) → (s : ℕ → Finite) → Solves s es → ⊥
clash_unsolved es c s solves =
    let equal : instance s c.left ≡ instance s c.right = closed_agree es s solves c.left c.right c.equated in
    ⊎_elim
    (λ h. unlike-differ s c.left c.right h equal)
    (λ p. let less : size (instance s c.left) < size (instance s c.right) = part-less s c.left c.right p in omega (arith, less, ap size equal))
    c.unlike

-- types that are the same whatever stands for their unknowns are the same
abbrev at_one : ℕ → Finite → Finite → ℕ → Finite
at_one n a b k = cond (k == n) a b

at_one-here : (n : ℕ) (a b : Finite) → at_one n a b n ≡ a
at_one-here n a b = ap (λ (c : Bool). cond c a b) (eq-eqb n n refl)

differs : (k n : ℕ) → k ≢ n → (k == n) ≡ false
differs k n d = grind (arith, nat_tests)

at_one-other : (n k : ℕ) (a b : Finite) → k ≢ n → at_one n a b k ≡ b
at_one-other n k a b d = ap (λ (c : Bool). cond c a b) (differs k n d)

abbrev small : Finite
small = Single (Nat 0)

abbrev large : Finite
large = Applied (Single (Nat 0)) (Single (Nat 0))

small-large : Path Finite (Single (Nat 0)) (Applied (Single (Nat 0)) (Single (Nat 0))) → ⊥
small-large e = cc

pub same-instances : (t u : Ty) → ((s : ℕ → Finite) → instance s t ≡ instance s u) → t ≡ u
same-instances (Unknown n) (Unknown m) h =
    ⊎_elim
    (λ e. ap Unknown (sym e))
    (λ d. absurd (small-large (sym (at_one-here n small large) ∙ h (at_one n small large) ∙ at_one-other n m small large d)))
    (cases_eq m n)
same-instances (Unknown n) (Leaf a) h = let bad : Path Finite (Applied (Single (Nat 0)) (Single (Nat 0))) (Single a) = h (λ k. large) in absurd (cc)
same-instances (Unknown n) (Apply g y) h = let bad : Path Finite (Single (Nat 0)) (Applied (instance (λ k. small) g) (instance (λ k. small) y)) = h (λ k. small) in absurd (cc)
same-instances (Leaf a) (Unknown m) h = let bad : Path Finite (Single a) (Applied (Single (Nat 0)) (Single (Nat 0))) = h (λ k. large) in absurd (cc)
same-instances (Leaf a) (Leaf b) h = let e : Single a ≡ Single b = h (λ k. small) in let f : a ≡ b = cc in ap Leaf f
same-instances (Leaf a) (Apply g y) h = let bad : Path Finite (Single a) (Applied (instance (λ k. small) g) (instance (λ k. small) y)) = h (λ k. small) in absurd (cc)
same-instances (Apply f x) (Unknown m) h = let bad : Path Finite (Applied (instance (λ k. small) f) (instance (λ k. small) x)) (Single (Nat 0)) = h (λ k. small) in absurd (cc)
same-instances (Apply f x) (Leaf b) h = let bad : Path Finite (Applied (instance (λ k. small) f) (instance (λ k. small) x)) (Single b) = h (λ k. small) in absurd (cc)
same-instances (Apply f x) (Apply g y) h =
    ap (λ v. Apply v x) (same-instances f g (λ s. applied-function (instance s f) (instance s g) (instance s x) (instance s y) (h s)))
    ∙ ap (λ v. Apply g v) (same-instances x y (λ s. applied-argument (instance s f) (instance s g) (instance s x) (instance s y) (h s)))

-- types for unknowns, and what becomes of instances
pub instance-applied : (s : ℕ → Finite) (σ : ℕ → Ty) (t : Ty) → instance s (applied σ t) ≡ instance (λ n. instance s (σ n)) t
instance-applied s σ (Unknown n) = refl
instance-applied s σ (Leaf a) = refl
instance-applied s σ (Apply f x) =
    ap (λ v. Applied v (instance s (applied σ x))) (instance-applied s σ f) ∙ ap (λ v. Applied (instance (λ n. instance s (σ n)) f) v) (instance-applied s σ x)

pub applied-applied : (σ τ : ℕ → Ty) (t : Ty) → applied σ (applied τ t) ≡ applied (λ n. applied σ (τ n)) t
applied-applied σ τ (Unknown n) = refl
applied-applied σ τ (Leaf a) = refl
applied-applied σ τ (Apply f x) =
    ap (λ v. Apply v (applied σ (applied τ x))) (applied-applied σ τ f) ∙ ap (λ v. Apply (applied (λ n. applied σ (τ n)) f) v) (applied-applied σ τ x)

pub applied-forced : (R : Ty → Ty → Type 0) → IsClosed R → (σ : ℕ → Ty) → ((n : ℕ) → R (Unknown n) (σ n)) → (t : Ty) → R t (applied σ t)
applied-forced R c σ h (Unknown n) = h n
applied-forced R c σ h (Leaf a) = c.same (Leaf a)
applied-forced R c σ h (Apply f x) = c.build f (applied σ f) x (applied σ x) (applied-forced R c σ h f) (applied-forced R c σ h x)

pub general-solves : (es : List Equation) (σ : ℕ → Ty) → Each (λ t u. applied σ t ≡ applied σ u) es → (s : ℕ → Finite) → Solves (λ n. instance s (σ n)) es
general-solves [] σ h s = tt
general-solves (e ∷ es) σ h s =
    (sym (instance-applied s σ e.left) ∙ ap (instance s) h.0 ∙ instance-applied s σ e.right, general-solves es σ h.1 s)

-- what all solutions agree on, a general solution makes the same
pub general-agree : (es : List Equation) (σ : ℕ → Ty) → Each (λ t u. applied σ t ≡ applied σ u) es → (t u : Ty) → ((r : ℕ → Finite) → Solves r es → instance r t ≡ instance r u) → applied σ t ≡ applied σ u
general-agree es σ h t u agree =
    same-instances (applied σ t) (applied σ u)
    (λ s. instance-applied s σ t ∙ agree (λ n. instance s (σ n)) (general-solves es σ h s) ∙ sym (instance-applied s σ u))

pub general-closed : (R : Ty → Ty → Type 0) → IsClosed R → (es : List Equation) → (g : General R es) → (t u : Ty) → applied g.types t ≡ applied g.types u → R t u
general-closed R c es g t u e =
    c.join t (applied g.types t) u (applied-forced R c g.types g.forced t)
    (subst (λ (v : Ty). R v u) (sym e) (c.turn u (applied g.types u) (applied-forced R c g.types g.forced u)))
