-- What two nodes say together is what their join says with the equations between their parts.
use Rattle.std.proofs.Common.{◌≡◌, ℕ, ◌≤◌, ◌==◌, List, [], ◌∷◌, ◌++◌, length, Option, Some, None, Bool, true, false, cond, sym, refl, ap, ◌∙◌, subst, arith, eq-eqb}
use Rattle.std.proofs.lemmas.Bool.Decides.{nat_tests}
use Rattle.hb_types.specs.declared.atom.Atom.{Atom}
use Rattle.hb_types.specs.declared.atom.Atom.TheVariants.{Var, Con, Nat}
use Rattle.hb_unknowns.specs.declared.node.Entry.{Entry}
use Rattle.hb_unknowns.specs.declared.node.Node.{Node}
use Rattle.hb_unknowns.specs.declared.node.Node.TheVariants.{Free, Link, Leaf, Apply}
use Rattle.hb_unknowns.specs.declared.node.Pair.{Pair}
use Rattle.hb_types.specs.Finite.{Finite, Single, Applied}
use Rattle.hb_unknowns.specs.Joined.{same_atom, joined, parts}
use Rattle.hb_unknowns.specs.Graph.{Says, Within, IsRoot, AreWithin, Agree, one_root}

eqb_of : (n m : ℕ) → (n == m) ≡ true → n ≡ m
eqb_of n m e = grind (arith, nat_tests)

eqb_self : (n : ℕ) → (n == n) ≡ true
eqb_self n = eq-eqb n n refl

-- atoms that pass for the same are the same
pub same_atom-eq : (a b : Atom) → same_atom a b ≡ true → a ≡ b
same_atom-eq (Var n) (Var m) e = ap Var (eqb_of n m e)
same_atom-eq (Var n) (Con m) e = cc
same_atom-eq (Var n) (Nat m) e = cc
same_atom-eq (Con n) (Var m) e = cc
same_atom-eq (Con n) (Con m) e = ap Con (eqb_of n m e)
same_atom-eq (Con n) (Nat m) e = cc
same_atom-eq (Nat n) (Var m) e = cc
same_atom-eq (Nat n) (Con m) e = cc
same_atom-eq (Nat n) (Nat m) e = ap Nat (eqb_of n m e)

pub same_atom-self : (a : Atom) → same_atom a a ≡ true
same_atom-self (Var n) = eqb_self n
same_atom-self (Con n) = eqb_self n
same_atom-self (Nat n) = eqb_self n

kept : (b : Bool) (x z : Node) → Path (Option Node) (cond b (Some x) None) (Some z) → (b ≡ true) × (x ≡ z)
kept true x z e = (refl, cc)
kept false x z e = absurd (cc)

dropped : (b : Bool) (x : Node) → Path (Option Node) (cond b (Some x) None) None → b ≡ false
dropped true x e = absurd (cc)
dropped false x e = refl

-- where there is no join, no type is as both say
pub joined-none : (v : ℕ → Finite) (t : Finite) (x y : Node) → IsRoot x → IsRoot y → joined x y ≡ None → Says v t x → Says v t y → ⊥
joined-none v t Free y hx hy e p q = cc
joined-none v t (Link j) y hx hy e p q = hx
joined-none v t (Leaf a) Free hx hy e p q = cc
joined-none v t (Leaf a) (Link j) hx hy e p q = hy
joined-none v t (Leaf a) (Leaf b) hx hy e p q =
    let differ : same_atom a b ≡ false = dropped (same_atom a b) (Leaf a) e in
    let same : a ≡ b = cc in
    let yes : same_atom a b ≡ true = subst (λ (c : Atom). same_atom a c ≡ true) same (same_atom-self a) in
    cc
joined-none v t (Leaf a) (Apply g y) hx hy e p q = let bad : Single a ≡ Applied (v g) (v y) = sym p ∙ q in cc
joined-none v t (Apply f x) Free hx hy e p q = cc
joined-none v t (Apply f x) (Link j) hx hy e p q = hy
joined-none v t (Apply f x) (Leaf b) hx hy e p q = let bad : Single b ≡ Applied (v f) (v x) = sym q ∙ p in cc
joined-none v t (Apply f x) (Apply g y) hx hy e p q = cc

some_eq : (x z : Node) → Path (Option Node) (Some x) (Some z) → x ≡ z
some_eq x z e = cc

-- the join says what both say
pub joined-says : (v : ℕ → Finite) (t : Finite) (x y z : Node) → joined x y ≡ Some z → Says v t x → Says v t y → Says v t z
joined-says v t Free y z e p q = subst (Says v t) (some_eq y z e) q
joined-says v t (Link j) y z e p q = absurd (cc)
joined-says v t (Leaf a) Free z e p q = subst (Says v t) (some_eq (Leaf a) z e) p
joined-says v t (Leaf a) (Link j) z e p q = absurd (cc)
joined-says v t (Leaf a) (Leaf b) z e p q = subst (Says v t) (kept (same_atom a b) (Leaf a) z e).1 p
joined-says v t (Leaf a) (Apply g y) z e p q = absurd (cc)
joined-says v t (Apply f x) Free z e p q = subst (Says v t) (some_eq (Apply f x) z e) p
joined-says v t (Apply f x) (Link j) z e p q = absurd (cc)
joined-says v t (Apply f x) (Leaf b) z e p q = absurd (cc)
joined-says v t (Apply f x) (Apply g y) z e p q = subst (Says v t) (some_eq (Apply f x) z e) p

-- and their parts are the same
pub parts-agree : (v : ℕ → Finite) (t : Finite) (x y : Node) → Says v t x → Says v t y → Agree v (parts x y)
parts-agree v t Free y p q = tt
parts-agree v t (Link j) y p q = tt
parts-agree v t (Leaf a) y p q = tt
parts-agree v t (Apply f x) Free p q = tt
parts-agree v t (Apply f x) (Link j) p q = tt
parts-agree v t (Apply f x) (Leaf b) p q = tt
parts-agree v t (Apply f x) (Apply g y) p q =
    let e : Applied (v f) (v x) ≡ Applied (v g) (v y) = sym p ∙ q in
    let left : v f ≡ v g = cc in
    let right : v x ≡ v y = cc in
    (left, (right, tt))

-- back: both say what the join says, where the parts are the same
pub joined-first : (v : ℕ → Finite) (t : Finite) (x y z : Node) → joined x y ≡ Some z → Says v t z → Says v t x
joined-first v t Free y z e p = tt
joined-first v t (Link j) y z e p = absurd (cc)
joined-first v t (Leaf a) Free z e p = subst (Says v t) (sym (some_eq (Leaf a) z e)) p
joined-first v t (Leaf a) (Link j) z e p = absurd (cc)
joined-first v t (Leaf a) (Leaf b) z e p = subst (Says v t) (sym (kept (same_atom a b) (Leaf a) z e).1) p
joined-first v t (Leaf a) (Apply g y) z e p = absurd (cc)
joined-first v t (Apply f x) Free z e p = subst (Says v t) (sym (some_eq (Apply f x) z e)) p
joined-first v t (Apply f x) (Link j) z e p = absurd (cc)
joined-first v t (Apply f x) (Leaf b) z e p = absurd (cc)
joined-first v t (Apply f x) (Apply g y) z e p = subst (Says v t) (sym (some_eq (Apply f x) z e)) p

pub joined-second : (v : ℕ → Finite) (t : Finite) (x y z : Node) → joined x y ≡ Some z → Says v t z → Agree v (parts x y) → Says v t y
joined-second v t Free y z e p a = subst (Says v t) (sym (some_eq y z e)) p
joined-second v t (Link j) y z e p a = absurd (cc)
joined-second v t (Leaf a) Free z e p h = tt
joined-second v t (Leaf a) (Link j) z e p h = absurd (cc)
joined-second v t (Leaf a) (Leaf b) z e p h =
    let both = kept (same_atom a b) (Leaf a) z e in
    let said : t ≡ Single a = subst (Says v t) (sym both.1) p in
    said ∙ ap Single (same_atom-eq a b both.0)
joined-second v t (Leaf a) (Apply g y) z e p h = absurd (cc)
joined-second v t (Apply f x) Free z e p h = tt
joined-second v t (Apply f x) (Link j) z e p h = absurd (cc)
joined-second v t (Apply f x) (Leaf b) z e p h = absurd (cc)
joined-second v t (Apply f x) (Apply g y) z e p h =
    let said : t ≡ Applied (v f) (v x) = subst (Says v t) (sym (some_eq (Apply f x) z e)) p in
    said ∙ ap (λ u. Applied u (v x)) h.0 ∙ ap (λ u. Applied (v g) u) h.1.0

-- what a node that is no link speaks of is within, wherever it stands
within-low : (old new : List Entry) (low high : ℕ) (y : Node) → length new ≡ length old → IsRoot y → Within old high y → Within new low y
within-low old new low high Free e r w = tt
within-low old new low high (Link j) e r w = absurd r
within-low old new low high (Leaf a) e r w = tt
within-low old new low high (Apply f x) e r w = (omega (arith, w.0), omega (arith, w.1))

pub joined-within : (old new : List Entry) (low high : ℕ) (x y z : Node) → length new ≡ length old → joined x y ≡ Some z → IsRoot x → IsRoot y → Within old low x → Within old high y → Within new low z
joined-within old new low high Free y z l e s r p q = subst (Within new low) (some_eq y z e) (within-low old new low high y l r q)
joined-within old new low high (Link j) y z l e s r p q = absurd s
joined-within old new low high (Leaf a) Free z l e s r p q = subst (Within new low) (some_eq (Leaf a) z e) tt
joined-within old new low high (Leaf a) (Link j) z l e s r p q = absurd r
joined-within old new low high (Leaf a) (Leaf b) z l e s r p q = subst (Within new low) (kept (same_atom a b) (Leaf a) z e).1 tt
joined-within old new low high (Leaf a) (Apply g y) z l e s r p q = absurd (cc)
joined-within old new low high (Apply f x) Free z l e s r p q = subst (Within new low) (some_eq (Apply f x) z e) (within-low old new low low (Apply f x) l tt p)
joined-within old new low high (Apply f x) (Link j) z l e s r p q = absurd r
joined-within old new low high (Apply f x) (Leaf b) z l e s r p q = absurd (cc)
joined-within old new low high (Apply f x) (Apply g y) z l e s r p q = subst (Within new low) (some_eq (Apply f x) z e) (within-low old new low low (Apply f x) l tt p)

-- the join is no link
pub joined-root : (x y z : Node) → joined x y ≡ Some z → IsRoot x → IsRoot y → IsRoot z
joined-root Free y z e s r = subst IsRoot (some_eq y z e) r
joined-root (Link j) y z e s r = absurd s
joined-root (Leaf a) Free z e s r = subst IsRoot (some_eq (Leaf a) z e) tt
joined-root (Leaf a) (Link j) z e s r = absurd r
joined-root (Leaf a) (Leaf b) z e s r = subst IsRoot (kept (same_atom a b) (Leaf a) z e).1 tt
joined-root (Leaf a) (Apply g y) z e s r = absurd (cc)
joined-root (Apply f x) Free z e s r = subst IsRoot (some_eq (Apply f x) z e) tt
joined-root (Apply f x) (Link j) z e s r = absurd r
joined-root (Apply f x) (Leaf b) z e s r = absurd (cc)
joined-root (Apply f x) (Apply g y) z e s r = subst IsRoot (some_eq (Apply f x) z e) tt

pub parts-within : (old : List Entry) (low high : ℕ) (x y : Node) → Within old low x → Within old high y → AreWithin (length old) (parts x y)
parts-within old low high Free y p q = tt
parts-within old low high (Link j) y p q = tt
parts-within old low high (Leaf a) y p q = tt
parts-within old low high (Apply f x) Free p q = tt
parts-within old low high (Apply f x) (Link j) p q = tt
parts-within old low high (Apply f x) (Leaf b) p q = tt
parts-within old low high (Apply f x) (Apply g y) p q = ((p.0, q.0), ((p.1, q.1), tt))

pub parts-few : (x y : Node) → length (parts x y) ≤ 2
parts-few Free y = omega arith
parts-few (Link j) y = omega arith
parts-few (Leaf a) y = omega arith
parts-few (Apply f x) Free = omega arith
parts-few (Apply f x) (Link j) = omega arith
parts-few (Apply f x) (Leaf b) = omega arith
parts-few (Apply f x) (Apply g y) = omega arith

pub root-one : (x : Node) → IsRoot x → one_root x ≡ 1
root-one Free r = refl
root-one (Link j) r = absurd r
root-one (Leaf a) r = refl
root-one (Apply f x) r = refl

pub one_root-low : (x : Node) → one_root x ≤ 1
one_root-low Free = omega arith
one_root-low (Link j) = omega arith
one_root-low (Leaf a) = omega arith
one_root-low (Apply f x) = omega arith

pub AreWithin-append : (size : ℕ) (ps qs : List Pair) → AreWithin size ps → AreWithin size qs → AreWithin size (ps ++ qs)
AreWithin-append size [] qs p q = q
AreWithin-append size (x ∷ ps) qs p q = (p.0, AreWithin-append size ps qs p.1 q)

pub AreWithin-split : (size : ℕ) (ps qs : List Pair) → AreWithin size (ps ++ qs) → AreWithin size ps × AreWithin size qs
AreWithin-split size [] qs p = (tt, p)
AreWithin-split size (x ∷ ps) qs p = let rest = AreWithin-split size ps qs p.1 in ((p.0, rest.0), rest.1)

pub Agree-append : (v : ℕ → Finite) (ps qs : List Pair) → Agree v ps → Agree v qs → Agree v (ps ++ qs)
Agree-append v [] qs p q = q
Agree-append v (x ∷ ps) qs p q = (p.0, Agree-append v ps qs p.1 q)

pub Agree-split : (v : ℕ → Finite) (ps qs : List Pair) → Agree v (ps ++ qs) → Agree v ps × Agree v qs
Agree-split v [] qs p = (tt, p)
Agree-split v (x ∷ ps) qs p = let rest = Agree-split v ps qs p.1 in ((p.0, rest.0), rest.1)
