-- The types of nodes, with their free nodes for unknowns, are a most general solution.
use Rattle.std.proofs.Common.{◌≡◌, ℕ, ◌+◌, ◌<◌, List, [], ◌∷◌, ◌++◌, length, get_or, sym, refl, ap, ◌∙◌, subst, arith, ⊎_elim, length-append}
use Rattle.std.proofs.lemmas.List.{get_or_append_left, get_or_push}
use Rattle.std.proofs.lemmas.Bool.{cases_lt}
use Rattle.hb_types.specs.declared.atom.Atom.TheVariants as atom
use Rattle.hb_types.specs.Finite.{Finite, Single, Applied}
use Rattle.hb_types.specs.Types as tree
use Rattle.hb_types.specs.Types.{Ty}
use Rattle.hb_types.specs.Tables.{type_at}
use Rattle.hb_types.specs.Instance.{instance, values, EachUnknown}
use Rattle.hb_types.proofs.ClosureLemmas.{same-instances}
use Rattle.hb_unknowns.specs.declared.node.Entry.{Entry}
use Rattle.hb_unknowns.specs.declared.node.Node.TheVariants.{Free}
use Rattle.hb_unknowns.specs.declared.full.Found.{Found}
use Rattle.hb_unknowns.specs.Joined.{at}
use Rattle.hb_unknowns.specs.Graph.{Obeys}
use Rattle.hb_unknowns.specs.Full.{IsFreeNode, IsFound}
use Rattle.hb_unknowns.specs.Normal.{IsNodeType, AreNodeTypes, AreNormal}
use Rattle.hb_unknowns.specs.Equations.{Equations, Solves, IsSound, equations}
use Rattle.hb_unknowns.proofs.EquationLemmas.{solves-of}
use Rattle.hb_unknowns.proofs.FullLemmas.{with_free, with_free-obeys, with_free-is, free-open}

-- one node more
pub node-type-of : (nodes : List Entry) (table : List Ty) (node : ℕ) (found : Found) → IsFound nodes table node found → IsNodeType nodes table node found.place
node-type-of nodes table node found f = record { inside = f.inside; means = f.means; free = f.free }

pub node-types-next : (nodes : List Entry) (count : ℕ) (table : List Ty) (places longer : List ℕ) (r : ℕ) → AreNodeTypes nodes count table places → longer ≡ places ++ r ∷ [] → IsNodeType nodes table count r →
    AreNodeTypes nodes (count + 1) table longer
node-types-next nodes count table places longer r a q p = rw q (record {
  size = length-append places (r ∷ []) ∙ ap (λ (k : ℕ). k + 1) a.size;
  each = λ k h.
      ⊎_elim
      (λ lt. subst (IsNodeType nodes table k) (sym (get_or_append_left places (r ∷ []) 0 k (omega (arith, lt, a.size)))) (a.each k lt))
      (λ ge.
      let last : k ≡ count = omega (arith, h, ge) in
      subst (λ (j : ℕ). IsNodeType nodes table j (get_or (places ++ r ∷ []) j 0)) (sym last) (subst (IsNodeType nodes table count) (sym (get_or_push places r 0 count a.size)) p))
      (cases_lt k count);
})

-- where a node is free, its own unknown stands
free-own : (types : List Ty) (nodes : List Entry) (n : ℕ) → IsSound (equations types nodes) → IsFreeNode nodes n → type_at types n ≡ tree.Unknown n
free-own types nodes n g f = by (type_at types n) refl
  where
    by : (t : Ty) → type_at types n ≡ t → type_at types n ≡ tree.Unknown n
    by (tree.Unknown m) e = e ∙ ap tree.Unknown (g.own n m (omega (arith, f.0, g.size)) e)
    by (tree.Leaf a) e =
        absurd (free-open nodes g.solution.0 n g.graph g.solution.1 f.1 (Single a) (λ v o. g.means v o n (omega (arith, f.0, g.size)) ∙ ap (instance v) e))
    by (tree.Apply t u) e =
        let c : ℕ → Finite = λ k. Single (atom.Nat 0) in
        let v : ℕ → Finite = with_free nodes g.solution.0 (λ k. Single (atom.Nat 0)) in
        let bad : Path Finite (Single (atom.Nat 0)) (Applied (instance (with_free nodes g.solution.0 (λ k. Single (atom.Nat 0))) t) (instance (with_free nodes g.solution.0 (λ k. Single (atom.Nat 0))) u)) =
        sym (with_free-is nodes g.solution.0 (λ k. Single (atom.Nat 0)) n f.1)
        ∙ g.means (with_free nodes g.solution.0 (λ k. Single (atom.Nat 0))) (with_free-obeys nodes g.solution.0 (λ k. Single (atom.Nat 0)) g.graph g.solution.1) n (omega (arith, f.0, g.size))
        ∙ ap (instance (with_free nodes g.solution.0 (λ k. Single (atom.Nat 0)))) e in
        absurd (cc)

-- where the unknowns of a type have the same types, it is the same
instance-agree : (P : ℕ → Type 0) (v w : ℕ → Finite) → ((n : ℕ) → P n → v n ≡ w n) → (t : Ty) → EachUnknown P t → instance v t ≡ instance w t
instance-agree P v w h (tree.Unknown n) e = h n e
instance-agree P v w h (tree.Leaf a) e = refl
instance-agree P v w h (tree.Apply f x) e =
    ap (λ u. Applied u (instance v x)) (instance-agree P v w h f e.0) ∙ ap (λ u. Applied (instance w f) u) (instance-agree P v w h x e.1)

normal-same : (types : List Ty) (nodes : List Entry) (table : List Ty) (k place : ℕ) → IsSound (equations types nodes) → IsNodeType nodes table k place → (s : ℕ → Finite) →
    Solves s (equations types nodes) → instance s (type_at table place) ≡ instance s (type_at types k)
normal-same types nodes table k place g f s solves =
    sym (instance-agree (IsFreeNode nodes) (values s types) s (λ n h. ap (instance s) (free-own types nodes n g h)) (type_at table place) f.free)
    ∙ sym (f.means (values s types) solves)

normal-general : (types : List Ty) (nodes : List Entry) (table : List Ty) (places : List ℕ) → IsSound (equations types nodes) → AreNodeTypes nodes (length nodes) table places → (c : ℕ → Finite) →
    (s : ℕ → Finite) × Solves s (equations types nodes) × ((k : ℕ) → k < length types → instance s (type_at types k) ≡ instance c (type_at table (get_or places k 0)))
normal-general types nodes table places g a c =
    let v : ℕ → Finite = with_free nodes g.solution.0 c in
    let o = with_free-obeys nodes g.solution.0 c g.graph g.solution.1 in (
      with_free nodes g.solution.0 c,
      solves-of types nodes nodes (with_free nodes g.solution.0 c) g g.graph refl o o,
      λ k h.
          let f = a.each k (omega (arith, h, g.size)) in
          sym (g.means (with_free nodes g.solution.0 c) o k h) ∙ f.means (with_free nodes g.solution.0 c) o
          ∙ instance-agree (IsFreeNode nodes) (with_free nodes g.solution.0 c) c (λ n e. with_free-is nodes g.solution.0 c n e.1) (type_at table (get_or places k 0)) f.free,
    )

all-normal : (types : List Ty) (nodes : List Entry) (table : List Ty) (places : List ℕ) → IsSound (equations types nodes) → AreNodeTypes nodes (length nodes) table places →
    AreNormal (equations types nodes) table places
all-normal types nodes table places g a = record {
  size = a.size ∙ sym g.size;
  inside = λ k h. (a.each k (omega (arith, h, g.size))).inside;
  same = λ k h. normal-same types nodes table k (get_or places k 0) g (a.each k (omega (arith, h, g.size)));
  general = normal-general types nodes table places g a;
  alike = λ i j p q agree.
      same-instances (type_at table (get_or places i 0)) (type_at table (get_or places j 0))
      (λ c. let s = normal-general types nodes table places g a c in sym (s.2 i p) ∙ agree s.0 s.1 ∙ s.2 j q);
}

pub normal-of : (state : Equations) (types : List Ty) (nodes : List Entry) (table : List Ty) (places : List ℕ) → equations types nodes ≡ state → IsSound (equations types nodes) →
    AreNodeTypes nodes (length nodes) table places → AreNormal state table places
normal-of state types nodes table places e g a = subst (λ (st : Equations). AreNormal st table places) e (all-normal types nodes table places g a)
