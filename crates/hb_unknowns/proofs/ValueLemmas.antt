-- Types at nodes, one of them changed.
use Rattle.std.proofs.Common.{◌≡◌, ◌≢◌, ℕ, ◌<◌, ◌==◌, List, length, Bool, false, cond, sym, refl, ap, ◌∙◌, subst, ⊎_elim, arith, eq-eqb}
use Rattle.std.proofs.lemmas.List.{get_or_past}
use Rattle.std.proofs.lemmas.Bool.{cases_lt}
use Rattle.hb_unknowns.specs.Joined.{at, free}
use Rattle.std.proofs.lemmas.Bool.Decides.{nat_tests}
use Rattle.hb_types.specs.declared.atom.Atom.TheVariants as atom
use Rattle.hb_unknowns.specs.declared.node.Entry.{Entry}
use Rattle.hb_unknowns.specs.declared.node.Node.{Node}
use Rattle.hb_unknowns.specs.declared.node.Node.TheVariants.{Free, Link, Leaf, Apply}
use Rattle.hb_types.specs.Finite.{Finite, Single, Applied}
use Rattle.hb_unknowns.specs.Graph.{Says, Within, Obeys, IsGraph}

-- a type that is as a node says
abbrev pub value : (ℕ → Finite) → Node → Finite
value v Free = Single (atom.Nat 0)
value v (Link j) = v j
value v (Leaf a) = Single a
value v (Apply f x) = Applied (v f) (v x)

pub value-says : (v : ℕ → Finite) (n : Node) → Says v (value v n) n
value-says v Free = tt
value-says v (Link j) = refl
value-says v (Leaf a) = refl
value-says v (Apply f x) = refl

-- v with another type at one node
abbrev pub with_at : (ℕ → Finite) → ℕ → Finite → ℕ → Finite
with_at v place t k = cond (k == place) t (v k)

pub with_at-same : (v : ℕ → Finite) (place : ℕ) (t : Finite) → with_at v place t place ≡ t
with_at-same v place t = ap (λ (b : Bool). cond b t (v place)) (eq-eqb place place refl)

differ : (k place : ℕ) → k ≢ place → (k == place) ≡ false
differ k place n = grind (arith, nat_tests)

pub with_at-other : (v : ℕ → Finite) (place : ℕ) (t : Finite) (k : ℕ) → k ≢ place → with_at v place t k ≡ v k
with_at-other v place t k n = ap (λ (b : Bool). cond b t (v k)) (differ k place n)

-- what a node says depends on its parts alone
pub says-same : (v w : ℕ → Finite) (nodes : List Entry) (k : ℕ) (t : Finite) (n : Node) → Within nodes k n → ((j : ℕ) → j < length nodes → w j ≡ v j) → Says v t n → Says w t n
says-same v w nodes k t Free i e s = tt
says-same v w nodes k t (Link j) i e s = s ∙ sym (e j i.0)
says-same v w nodes k t (Leaf a) i e s = s
says-same v w nodes k t (Apply f x) i e s = s ∙ ap (λ u. Applied u (v x)) (sym (e f i.0)) ∙ ap (λ u. Applied (w f) u) (sym (e x i.1))

-- nodes that are the same below the length obey alike
pub obeys-same : (v w : ℕ → Finite) (nodes : List Entry) → IsGraph nodes → ((j : ℕ) → j < length nodes → w j ≡ v j) → Obeys v nodes → Obeys w nodes
obeys-same v w nodes g e o = record {
  each = λ k.
      ⊎_elim
      (λ lt. subst (λ (t : Finite). Says w t (at nodes k)) (sym (e k lt)) (says-same v w nodes k (v k) (at nodes k) (g.inside k) e (o.each k)))
      (λ ge. subst (Says w (w k)) (sym (ap (λ (q : Entry). q.node) (get_or_past nodes k free ge))) tt)
      (cases_lt k (length nodes));
}
