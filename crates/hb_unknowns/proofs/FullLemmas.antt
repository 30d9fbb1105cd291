-- What the nodes of a graph are forced to be: a free node may be of any type.
use Rattle.std.proofs.Common.{◌≡◌, ℕ, zero, suc, ◌+◌, ◌<◌, inl, inr, List, [], ◌∷◌, ◌++◌, length, reverse, take, drop, get_or, set, Bool, true, false, ◌&&◌, MatchBool, sym, refl, ap, ◌∙◌, subst, arith, ⊎_elim, length-append, length-set, get_or-set_same, get_or-set_other, append_assoc}
use Rattle.std.proofs.lemmas.List.{get_or_append_left, get_or_push, take_more, take_all, reverse-append}
use Rattle.std.proofs.lemmas.Bool.{cases_eq, cases_lt}
use Rattle.hb_types.specs.declared.atom.Atom.{Atom}
use Rattle.hb_types.specs.declared.atom.Atom.TheVariants as atom
use Rattle.hb_types.specs.Finite.{Finite, Single, Applied}
use Rattle.hb_types.specs.Instance.{instance, values, EachUnknown, IsKnown}
use Rattle.hb_types.specs.Types as tree
use Rattle.hb_types.specs.Types.{Ty}
use Rattle.hb_types.specs.Tables.{type_at, Extends, IsPlaced}
use Rattle.hb_types.proofs.TableLemmas.{type_at-last, more-types}
use Rattle.hb_unknowns.specs.declared.node.Entry.{Entry}
use Rattle.hb_unknowns.specs.declared.node.Node.{Node}
use Rattle.hb_unknowns.specs.declared.node.Node.TheVariants.{Free, Link, Leaf, Apply}
use Rattle.hb_unknowns.specs.declared.full.Found.{Found}
use Rattle.hb_unknowns.specs.Joined.{at}
use Rattle.hb_unknowns.specs.Graph.{Says, Obeys, IsGraph}
use Rattle.hb_unknowns.specs.Order.{IsPart, Member, AreSorted, AllBelow}
use Rattle.hb_unknowns.specs.Full.{IsOpen, IsFreeNode, IsFound, AreFound, IsOrder, found_at, IsFull, IsSame, IsUnforced, AreFullBelow}
use Rattle.hb_unknowns.specs.Equations.{Equations, IsSound, equations}
use Rattle.hb_unknowns.proofs.EquationLemmas.{solves-of}
use Rattle.hb_unknowns.proofs.SolvedLemmas.{rank, rank-part}
use Rattle.hb_unknowns.proofs.OrderLemmas.{member-push, member-reverse, below-at}

-- the type of a node from those of its parts, with the given one where it is free
filled : (ℕ → Finite) → ℕ → (ℕ → Finite) → Node → Finite
filled c k v Free = c k
filled c k v (Link j) = v j
filled c k v (Leaf a) = Single a
filled c k v (Apply f x) = Applied (v f) (v x)

filled-same : (c : ℕ → Finite) (k : ℕ) (v w : ℕ → Finite) (n : Node) → ((p : ℕ) → IsPart p n → v p ≡ w p) → filled c k v n ≡ filled c k w n
unfolding filled
filled-same c k v w Free h = refl
filled-same c k v w (Link j) h = h j refl
filled-same c k v w (Leaf a) h = refl
filled-same c k v w (Apply f x) h = ap (λ u. Applied u (v x)) (h f (inl refl)) ∙ ap (λ u. Applied (w f) u) (h x (inr refl))

filled-says : (c : ℕ → Finite) (k : ℕ) (v w : ℕ → Finite) (n : Node) → ((p : ℕ) → IsPart p n → v p ≡ w p) → Says w (filled c k v n) n
unfolding filled
filled-says c k v w Free h = tt
filled-says c k v w (Link j) h = h j refl
filled-says c k v w (Leaf a) h = refl
filled-says c k v w (Apply f x) h = ap (λ u. Applied u (v x)) (h f (inl refl)) ∙ ap (λ u. Applied (w f) u) (h x (inr refl))

filled-free : (c : ℕ → Finite) (k : ℕ) (v : ℕ → Finite) (n : Node) → n ≡ Free → filled c k v n ≡ c k
unfolding filled
filled-free c k v n e = ap (filled c k v) e

-- as far down as the number says
fill : List Entry → (ℕ → Finite) → ℕ → ℕ → Finite
fill nodes c zero k = c k
fill nodes c (suc n) k = filled c k (fill nodes c n) (at nodes k)

stable : (nodes : List Entry) (v c : ℕ → Finite) → IsGraph nodes → Obeys v nodes → (n m k : ℕ) → rank nodes v k < n → rank nodes v k < m → fill nodes c n k ≡ fill nodes c m k
unfolding fill
stable nodes v c g o zero m k h l = absurd (omega (arith, h))
stable nodes v c g o (suc n) zero k h l = absurd (omega (arith, l))
stable nodes v c g o (suc n) (suc m) k h l =
    filled-same c k (fill nodes c n) (fill nodes c m) (at nodes k)
    (λ p i. let less : rank nodes v p < rank nodes v k = rank-part nodes v k p g o i in stable nodes v c g o n m p (omega (arith, less, h)) (omega (arith, less, l)))

pub with_free : List Entry → (ℕ → Finite) → (ℕ → Finite) → ℕ → Finite
with_free nodes v c k = fill nodes c (suc (rank nodes v k)) k

pub with_free-obeys : (nodes : List Entry) (v c : ℕ → Finite) → IsGraph nodes → Obeys v nodes → Obeys (with_free nodes v c) nodes
unfolding with_free fill
with_free-obeys nodes v c g o = record {
  each = λ k. filled-says c k (fill nodes c (rank nodes v k)) (with_free nodes v c) (at nodes k)
      (λ p i.
      let less : rank nodes v p < rank nodes v k = rank-part nodes v k p g o i in
      stable nodes v c g o (rank nodes v k) (suc (rank nodes v p)) p less (omega arith));
}

pub with_free-is : (nodes : List Entry) (v c : ℕ → Finite) (k : ℕ) → at nodes k ≡ Free → with_free nodes v c k ≡ c k
unfolding with_free fill
with_free-is nodes v c k e = filled-free c k (fill nodes c (rank nodes v k)) (at nodes k) e

abbrev one : ℕ → Finite
one k = Single (atom.Nat 0)

abbrev two : ℕ → Finite
two k = Applied (Single (atom.Nat 0)) (Single (atom.Nat 0))

-- a free node is of no one type
pub free-open : (nodes : List Entry) (v : ℕ → Finite) (k : ℕ) → IsGraph nodes → Obeys v nodes → at nodes k ≡ Free → IsOpen nodes k
free-open nodes v k g o e c all =
    let bad : Path Finite (Single (atom.Nat 0)) (Applied (Single (atom.Nat 0)) (Single (atom.Nat 0))) =
    sym (with_free-is nodes v one k e) ∙ all (with_free nodes v one) (with_free-obeys nodes v one g o)
    ∙ sym (all (with_free nodes v two) (with_free-obeys nodes v two g o)) ∙ with_free-is nodes v two k e in
    cc

says-at : (nodes : List Entry) (v : ℕ → Finite) (k : ℕ) (n : Node) → at nodes k ≡ n → Obeys v nodes → Says v (v k) n
says-at nodes v k n e o = subst (Says v (v k)) e (o.each k)

open-link : (nodes : List Entry) (k part : ℕ) (b : Bool) (t : Ty) → at nodes k ≡ Link part → MatchBool b (IsKnown t) (IsOpen nodes part) → MatchBool b (IsKnown t) (IsOpen nodes k)
open-link nodes k part true t e h = h
open-link nodes k part false t e h = λ c all. h c (λ v o. sym (says-at nodes v k (Link part) e o) ∙ all v o)

left_of : Finite → Finite → Finite
left_of d (Single a) = d
left_of d (Applied f x) = f

right_of : Finite → Finite → Finite
right_of d (Single a) = d
right_of d (Applied f x) = x

left-of : (c f x : Finite) → Applied f x ≡ c → f ≡ left_of c c
unfolding left_of
left-of (Single a) f x e = absurd (cc)
left-of (Applied g y) f x e = cc

right-of : (c f x : Finite) → Applied f x ≡ c → x ≡ right_of c c
unfolding right_of
right-of (Single a) f x e = absurd (cc)
right-of (Applied g y) f x e = cc

open-both : (nodes : List Entry) (k f x : ℕ) (t u : Ty) (a b : Bool) → at nodes k ≡ Apply f x → MatchBool a (IsKnown t) (IsOpen nodes f) → MatchBool b (IsKnown u) (IsOpen nodes x) →
    MatchBool (a && b) (IsKnown (tree.Apply t u)) (IsOpen nodes k)
open-both nodes k f x t u true true e p q = (p, q)
open-both nodes k f x t u true false e p q = λ c all. q (right_of c c) (λ v o. right-of c (v f) (v x) (sym (says-at nodes v k (Apply f x) e o) ∙ all v o))
open-both nodes k f x t u false b e p q = λ c all. p (left_of c c) (λ v o. left-of c (v f) (v x) (sym (says-at nodes v k (Apply f x) e o) ∙ all v o))

pub found-more : (nodes : List Entry) (table new : List Ty) (k : ℕ) (f : Found) → Extends table new → IsFound nodes table k f → IsFound nodes new k f
found-more nodes table new k f x r =
    let same = more-types table new f.place x r.inside in
    record {
      inside = same.1;
      means = λ v o. r.means v o ∙ ap (instance v) (sym same.0);
      known = subst (λ (t : Ty). MatchBool f.known (IsKnown t) (IsOpen nodes k)) (sym same.0) r.known;
      free = subst (EachUnknown (IsFreeNode nodes)) (sym same.0) r.free;
    }

pub found-free : (nodes : List Entry) (table new : List Ty) (k place : ℕ) (v : ℕ → Finite) → IsGraph nodes → Obeys v nodes → k < length nodes → at nodes k ≡ Free →
    place ≡ length table → new ≡ table ++ tree.Unknown k ∷ [] → IsFound nodes new k (record { place = place; known = false })
found-free nodes table new k place v g o h e p q =
    let is : type_at new place ≡ tree.Unknown k = ap (λ ts. type_at ts place) q ∙ type_at-last table (tree.Unknown k) place p in
    record {
      inside = omega (arith, p, ap length q, length-append table (tree.Unknown k ∷ []));
      means = λ w obeys. ap (instance w) (sym is);
      known = free-open nodes v k g o e;
      free = subst (EachUnknown (IsFreeNode nodes)) (sym is) (h, e);
    }

pub found-link : (nodes : List Entry) (table : List Ty) (k part : ℕ) (f : Found) → at nodes k ≡ Link part → IsFound nodes table part f → IsFound nodes table k f
found-link nodes table k part f e r = record {
  inside = r.inside;
  means = λ v o. says-at nodes v k (Link part) e o ∙ r.means v o;
  known = open-link nodes k part f.known (type_at table f.place) e r.known;
  free = r.free;
}

pub found-apply : (nodes : List Entry) (table new : List Ty) (k place f x : ℕ) (p q : Found) (b : Bool) → at nodes k ≡ Apply f x → place ≡ length table →
    new ≡ table ++ tree.Apply (type_at table p.place) (type_at table q.place) ∷ [] → b ≡ (p.known && q.known) → IsFound nodes table f p → IsFound nodes table x q →
    IsFound nodes new k (record { place = place; known = b })
found-apply nodes table new k place f x p q b e h is known r s =
    let whole : Ty = tree.Apply (type_at table p.place) (type_at table q.place) in
    let here : type_at new place ≡ tree.Apply (type_at table p.place) (type_at table q.place) = ap (λ ts. type_at ts place) is ∙ type_at-last table (tree.Apply (type_at table p.place) (type_at table q.place)) place h in
    record {
      inside = omega (arith, h, ap length is, length-append table (tree.Apply (type_at table p.place) (type_at table q.place) ∷ []));
      means = λ v o.
          says-at nodes v k (Apply f x) e o ∙ ap (λ u. Applied u (v x)) (r.means v o) ∙ ap (λ u. Applied (instance v (type_at table p.place)) u) (s.means v o)
          ∙ ap (instance v) (sym here);
      known = subst (λ (t : Ty). MatchBool b (IsKnown t) (IsOpen nodes k)) (sym here)
          (subst (λ (c : Bool). MatchBool c (IsKnown (tree.Apply (type_at table p.place) (type_at table q.place))) (IsOpen nodes k)) (sym known)
          (open-both nodes k f x (type_at table p.place) (type_at table q.place) p.known q.known e r.known s.known));
      free = subst (EachUnknown (IsFreeNode nodes)) (sym here) (r.free, s.free);
    }

-- the nodes so far are found
pub record AreFoundIn (nodes : List Entry) (table : List Ty) (found : List Found) (order : List ℕ) : Type 0 where
  pub size : length found ≡ length nodes
  pub each : (k : ℕ) → Member k order → IsFound nodes table k (found_at found k)

sorted-rest : (nodes : List Entry) (xs ys : List ℕ) → AreSorted nodes (xs ++ ys) → AreSorted nodes ys
sorted-rest nodes [] ys s = s
sorted-rest nodes (x ∷ xs) ys s = sorted-rest nodes xs ys s.1

split : (xs : List ℕ) (i : ℕ) → i < length xs → take i xs ++ get_or xs i 0 ∷ drop (suc i) xs ≡ xs
split [] i h = absurd (omega arith)
split (x ∷ xs) zero h = refl
split (x ∷ xs) (suc i) h = ap (λ ys. x ∷ ys) (split xs i (omega arith))

turn : (xs ys : List ℕ) (x : ℕ) → reverse (xs ++ x ∷ ys) ≡ reverse ys ++ (x ∷ reverse xs)
turn xs ys x = reverse-append xs (x ∷ ys) ∙ ap (λ zs. zs ++ reverse xs) (reverse-append (x ∷ []) ys) ∙ append_assoc (reverse ys) (x ∷ []) (reverse xs)

-- the parts of a node stand before it
pub parts-before : (nodes : List Entry) (order : List ℕ) (i p : ℕ) → AreSorted nodes (reverse order) → i < length order → IsPart p (at nodes (get_or order i 0)) → Member p (take i order)
parts-before nodes order i p s h part =
    let whole : take i order ++ get_or order i 0 ∷ drop (suc i) order ≡ order = split order i h in
    let turned : reverse order ≡ reverse (drop (suc i) order) ++ (get_or order i 0 ∷ reverse (take i order)) =
    sym (ap reverse whole) ∙ turn (take i order) (drop (suc i) order) (get_or order i 0) in
    let rest = sorted-rest nodes (reverse (drop (suc i) order)) (get_or order i 0 ∷ reverse (take i order)) (subst (AreSorted nodes) turned s) in
    member-reverse p (take i order) (rest.0 p part)

pub found-next : (nodes : List Entry) (table new : List Ty) (found : List Found) (order : List ℕ) (i : ℕ) (f : Found) → AllBelow (length nodes) order → i < length order → Extends table new →
    IsFound nodes new (get_or order i 0) f → AreFoundIn nodes table found (take i order) → AreFoundIn nodes new (set found (get_or order i 0) f) (take (i + 1) order)
found-next nodes table new found order i f b h x r a =
    let node : ℕ = get_or order i 0 in
    let inside : get_or order i 0 < length found = omega (arith, below-at (length nodes) order i 0 b h, a.size) in
    record {
      size = length-set found (get_or order i 0) f ∙ a.size;
      each = λ k m.
          ⊎_elim
          (λ e. subst (λ (j : ℕ). IsFound nodes new j (found_at (set found (get_or order i 0) f) j)) (sym e)
          (subst (IsFound nodes new (get_or order i 0)) (sym (get_or-set_same found (get_or order i 0) f (record { place = 0; known = false }) inside)) r))
          (λ n. ⊎_elim
          (λ old. subst (IsFound nodes new k) (sym (get_or-set_other found (get_or order i 0) k f (record { place = 0; known = false }) n)) (found-more nodes table new k (found_at found k) x (a.each k old)))
          (λ e. absurd (n e))
          (member-push k (get_or order i 0) (take i order) (subst (Member k) (take_more order i 0 h) m)))
          (cases_eq k (get_or order i 0));
    }

member-turned : (k : ℕ) (xs : List ℕ) → Member k (reverse xs) → Member k (take (length xs) xs)
member-turned k xs m = subst (Member k) (sym (take_all (length xs) xs (omega arith))) (member-reverse k xs m)

pub found-all : (nodes : List Entry) (table : List Ty) (found : List Found) (order : List ℕ) → IsOrder nodes (reverse order) → AreFoundIn nodes table found (take (length order) order) → AreFound nodes table found
found-all nodes table found order o a = record { each = λ k h. a.each k (member-turned k order (o.whole k h)) }

pub extends-one : (table new : List Ty) (t : Ty) → new ≡ table ++ t ∷ [] → Extends table new
extends-one table new t e = (t ∷ [], e)

pub part-link : (n : Node) (j : ℕ) → n ≡ Link j → IsPart j n
part-link n j e = subst (IsPart j) (sym e) refl

pub part-left : (n : Node) (f x : ℕ) → n ≡ Apply f x → IsPart f n
part-left n f x e = subst (IsPart f) (sym e) (inl refl)

pub part-right : (n : Node) (f x : ℕ) → n ≡ Apply f x → IsPart x n
part-right n f x e = subst (IsPart x) (sym e) (inr refl)

known-each : (P : ℕ → Type 0) (t : Ty) → IsKnown t → EachUnknown P t
known-each P (tree.Unknown n) h = absurd h
known-each P (tree.Leaf a) h = tt
known-each P (tree.Apply f x) h = (known-each P f h.0, known-each P x h.1)

known-same : (s w : ℕ → Finite) (r : Ty) → IsKnown r → instance s r ≡ instance w r
known-same s w (tree.Unknown n) k = absurd k
known-same s w (tree.Leaf a) k = refl
known-same s w (tree.Apply f x) k = ap (λ u. Applied u (instance s x)) (known-same s w f k.0) ∙ ap (λ u. Applied (instance w f) u) (known-same s w x k.1)

-- the type of a known node stands for the unknown there
pub full-known : (types : List Ty) (nodes : List Entry) (place n : ℕ) (r : Ty) → IsSound (equations types nodes) → place < length types → type_at types place ≡ tree.Unknown n →
    IsKnown r → ((v : ℕ → Finite) → Obeys v nodes → v place ≡ instance v r) → IsFull (equations types nodes) (type_at types place) r
full-known types nodes place n r g h e k m =
    let same : IsSame (equations types nodes) (tree.Unknown n) r = λ s solves. known-same s (values s types) r k ∙ sym (m (values s types) solves) ∙ ap (instance s) e in
    subst (λ (t : Ty). IsFull (equations types nodes) t r) (sym e) (record { replaced = inl (k, same); same = same; unforced = known-each (IsUnforced (equations types nodes)) r k })

pub full-open : (types : List Ty) (nodes : List Entry) (place n : ℕ) (r : Ty) → IsSound (equations types nodes) → place < length types → type_at types place ≡ tree.Unknown n →
    IsOpen nodes place → r ≡ tree.Unknown n → IsFull (equations types nodes) (type_at types place) r
full-open types nodes place n r g h e o q =
    let free : IsUnforced (equations types nodes) n = λ forced.
    o forced.0 (λ v w. g.means v w place h ∙ ap (instance v) e ∙ forced.1 v (solves-of types nodes nodes v g g.graph refl w w)) in
    subst (λ (t : Ty). IsFull (equations types nodes) t r) (sym e)
    (subst (IsFull (equations types nodes) (tree.Unknown n)) (sym q) (record { replaced = inr (free, refl); same = λ s solves. refl; unforced = free }))

pub full-leaf : (types : List Ty) (nodes : List Entry) (place : ℕ) (a : Atom) (r : Ty) → type_at types place ≡ tree.Leaf a → r ≡ tree.Leaf a → IsFull (equations types nodes) (type_at types place) r
full-leaf types nodes place a r e q =
    subst (λ (t : Ty). IsFull (equations types nodes) t r) (sym e)
    (subst (IsFull (equations types nodes) (tree.Leaf a)) (sym q) (record { replaced = refl; same = λ s solves. refl; unforced = tt }))

pub full-apply : (types : List Ty) (nodes : List Entry) (place f x : ℕ) (t u r : Ty) → type_at types place ≡ tree.Apply (type_at types f) (type_at types x) → r ≡ tree.Apply t u →
    IsFull (equations types nodes) (type_at types f) t → IsFull (equations types nodes) (type_at types x) u → IsFull (equations types nodes) (type_at types place) r
full-apply types nodes place f x t u r e q a b =
    subst (λ (w : Ty). IsFull (equations types nodes) w r) (sym e)
    (subst (IsFull (equations types nodes) (tree.Apply (type_at types f) (type_at types x))) (sym q) (record {
      replaced = (t, u, refl, a.replaced, b.replaced);
      same = λ s solves. ap (λ w. Applied w (instance s u)) (a.same s solves) ∙ ap (λ w. Applied (instance s (type_at types f)) w) (b.same s solves);
      unforced = (a.unforced, b.unforced);
    }))

pub placed-last : (table new : List Ty) (t : Ty) (place : ℕ) (P : Ty → Type 0) → place ≡ length table → new ≡ table ++ t ∷ [] → P t → IsPlaced new place P
placed-last table new t place P e q p = (
  omega (arith, e, ap length q, length-append table (t ∷ [])),
  subst P (sym (ap (λ ts. type_at ts place) q ∙ type_at-last table t place e)) p,
)

pub found-longer : (nodes : List Entry) (table new : List Ty) (found : List Found) → Extends table new → AreFound nodes table found → AreFound nodes new found
found-longer nodes table new found x a = record { each = λ k h. found-more nodes table new k (found_at found k) x (a.each k h) }

pub full-next : (e : Equations) (count : ℕ) (table new : List Ty) (places longer : List ℕ) (r : ℕ) → Extends table new → AreFullBelow e count table places → longer ≡ places ++ r ∷ [] →
    IsPlaced new r (IsFull e (type_at e.types count)) → AreFullBelow e (count + 1) new longer
full-next e count table new places longer r x a q p = rw q (record {
  size = length-append places (r ∷ []) ∙ ap (λ (k : ℕ). k + 1) a.size;
  each = λ k h.
      ⊎_elim
      (λ lt.
      let old = a.each k lt in
      let same = more-types table new (get_or places k 0) x old.0 in
      subst (λ (j : ℕ). IsPlaced new j (IsFull e (type_at e.types k))) (sym (get_or_append_left places (r ∷ []) 0 k (omega (arith, lt, a.size))))
      (same.1, subst (IsFull e (type_at e.types k)) (sym same.0) old.1))
      (λ ge.
      let last : k ≡ count = omega (arith, h, ge) in
      subst (λ (j : ℕ). IsPlaced new (get_or (places ++ r ∷ []) j 0) (IsFull e (type_at e.types j))) (sym last)
      (subst (λ (j : ℕ). IsPlaced new j (IsFull e (type_at e.types count))) (sym (get_or_push places r 0 count a.size)) p))
      (cases_lt k count);
})
