-- Flags at the nodes of which others speak: a node without one may have any type.
use Rattle.std.proofs.Common.{◌≡◌, ℕ, zero, suc, ◌+◌, ◌<◌, inl, inr, List, [], ◌∷◌, ◌++◌, length, get_or, set, take, Bool, true, false, MatchBool, sym, refl, ap, ◌∙◌, subst, arith, ⊎_elim, length-append, length-set, get_or-set_same, get_or-set_other}
use Rattle.std.proofs.lemmas.List.{get_or_append_left, get_or_push, get_or_past, take_more, take_all}
use Rattle.std.proofs.lemmas.Bool.{cases_eq, cases_lt}
use Rattle.hb_types.specs.Finite.{Finite, Applied}
use Rattle.hb_unknowns.specs.declared.node.Entry.{Entry}
use Rattle.hb_unknowns.specs.declared.node.Node.{Node}
use Rattle.hb_unknowns.specs.declared.node.Node.TheVariants.{Free, Link, Leaf, Apply}
use Rattle.hb_unknowns.specs.declared.node.Pair.{Pair}
use Rattle.hb_unknowns.specs.Joined.{at, entry_at, free, pair}
use Rattle.hb_unknowns.specs.Graph.{Says, Obeys, IsGraph}
use Rattle.hb_unknowns.specs.Order.{IsPart, Member}
use Rattle.hb_unknowns.specs.Referred.{flag_at, AreReferred, AreRaised, IsLoose, IsHarmless}
use Rattle.hb_unknowns.proofs.ValueLemmas.{with_at, with_at-same, with_at-other}
use Rattle.hb_unknowns.proofs.OrderLemmas.{part-inside, member-push}
use Rattle.hb_unknowns.proofs.SolvedLemmas.{AreKept}

pub raised-none : (flags : List Bool) → AreRaised flags flags
raised-none flags = record { size = refl; kept = λ p e. e }

pub raised-more : (a b c : List Bool) → AreRaised a b → AreRaised b c → AreRaised a c
raised-more a b c p q = record { size = q.size ∙ p.size; kept = λ k e. q.kept k (p.kept k e) }

pub flag-here : (flags : List Bool) (place : ℕ) → place < length flags → flag_at (set flags place true) place ≡ true
flag-here flags place h = get_or-set_same flags place true true h

pub flag-past : (flags : List Bool) (place : ℕ) → (place < length flags → ⊥) → flag_at flags place ≡ true
flag-past flags place h = ⊎_elim (λ lt. absurd (h lt)) (λ ge. get_or_past flags place true ge) (cases_lt place (length flags))

pub raised-set : (flags : List Bool) (place : ℕ) → place < length flags → AreRaised flags (set flags place true)
raised-set flags place h = record {
  size = length-set flags place true;
  kept = λ p e.
      ⊎_elim
      (λ q. subst (λ (j : ℕ). flag_at (set flags place true) j ≡ true) (sym q) (flag-here flags place h))
      (λ n. get_or-set_other flags place p true true n ∙ e)
      (cases_eq p place);
}

-- the flags of the parts of the nodes so far
pub refer-next : (nodes : List Entry) (flags new : List Bool) (places : List ℕ) (i : ℕ) → i < length places → AreRaised flags new →
    ((p : ℕ) → IsPart p (at nodes (get_or places i 0)) → flag_at new p ≡ true) →
    ((k p : ℕ) → Member k (take i places) → IsPart p (at nodes k) → flag_at flags p ≡ true) →
    (k p : ℕ) → Member k (take (i + 1) places) → IsPart p (at nodes k) → flag_at new p ≡ true
refer-next nodes flags new places i h r here old k p m is =
    ⊎_elim
    (λ earlier. r.kept p (old k p earlier is))
    (λ e. here p (subst (λ (j : ℕ). IsPart p (at nodes j)) e is))
    (member-push k (get_or places i 0) (take i places) (subst (Member k) (take_more places i 0 h) m))

pub refer-end : (nodes : List Entry) (flags : List Bool) (places : List ℕ) →
    ((k p : ℕ) → Member k (take (length places) places) → IsPart p (at nodes k) → flag_at flags p ≡ true) →
    (k p : ℕ) → Member k places → IsPart p (at nodes k) → flag_at flags p ≡ true
refer-end nodes flags places h k p m is = h k p (subst (Member k) (sym (take_all (length places) places (omega arith))) m) is

-- a node without its flag is no part
pub loose-of : (nodes : List Entry) (flags : List Bool) (place : ℕ) → AreReferred nodes flags → at nodes place ≡ Free → flag_at flags place ≡ false → IsLoose nodes place
loose-of nodes flags place r e f = record {
  is_free = e;
  alone = λ k i. let bad : true ≡ false = sym (r.each k place i) ∙ f in absurd (cc);
}

says-moved : (v w : ℕ → Finite) (t : Finite) (n : Node) → ((p : ℕ) → IsPart p n → v p ≡ w p) → Says w t n → Says v t n
says-moved v w t Free h s = tt
says-moved v w t (Link j) h s = s ∙ sym (h j refl)
says-moved v w t (Leaf a) h s = s
says-moved v w t (Apply f x) h s = s ∙ ap (λ u. Applied u (w x)) (sym (h f (inl refl))) ∙ ap (λ u. Applied (v f) u) (sym (h x (inr refl)))

-- a loose node may have any type
pub loose-obeys : (nodes : List Entry) (place : ℕ) (w : ℕ → Finite) (t : Finite) → IsLoose nodes place → Obeys w nodes → Obeys (with_at w place t) nodes
loose-obeys nodes place w t l o = record {
  each = λ k.
      ⊎_elim
      (λ e. subst (Says (with_at w place t) (with_at w place t k)) (sym (ap (at nodes) e ∙ l.is_free)) tt)
      (λ n.
      subst (λ (u : Finite). Says (with_at w place t) u (at nodes k)) (sym (with_at-other w place t k n))
      (says-moved (with_at w place t) w (w k) (at nodes k)
      (λ p i. with_at-other w place t p (λ e. l.alone k (subst (λ (j : ℕ). IsPart j (at nodes k)) e i)))
      (o.each k)))
      (cases_eq k place);
}

loose-same : (w : ℕ → Finite) (a b : ℕ) → with_at w a (w b) a ≡ with_at w a (w b) b
loose-same w a b =
    ⊎_elim
    (λ e. sym (ap (with_at w a (w b)) e))
    (λ n. with_at-same w a (w b) ∙ sym (with_at-other w a (w b) b n))
    (cases_eq b a)

pub harmless-left : (nodes : List Entry) (p : Pair) → IsLoose nodes p.left → IsHarmless nodes (p ∷ [])
harmless-left nodes p l w o = (with_at w p.left (w p.right), loose-obeys nodes p.left w (w p.right) l o, (loose-same w p.left p.right, tt))

pub harmless-right : (nodes : List Entry) (p : Pair) → IsLoose nodes p.right → IsHarmless nodes (p ∷ [])
harmless-right nodes p l w o = (with_at w p.right (w p.left), loose-obeys nodes p.right w (w p.left) l o, (sym (loose-same w p.right p.left), tt))

pub harmless-right-if : (nodes : List Entry) (p : Pair) (ok : Bool) → MatchBool ok (IsLoose nodes p.right) (Unit {0}) → MatchBool ok (IsHarmless nodes (p ∷ [])) (Unit {0})
harmless-right-if nodes p true l = harmless-right nodes p l
harmless-right-if nodes p false l = tt

-- a list of one pair
pub one-pair : (pairs : List Pair) → length pairs ≡ 1 → pairs ≡ get_or pairs 0 (pair 0 0) ∷ []
one-pair [] h = absurd (omega (arith, h))
one-pair (q ∷ []) h = refl
one-pair (q ∷ r ∷ rs) h = absurd (omega (arith, h))

pub referred-raised : (nodes : List Entry) (old new : List Bool) → AreReferred nodes old → AreRaised old new → AreReferred nodes new
referred-raised nodes old new r h = record { size = h.size ∙ r.size; each = λ k p i. h.kept p (r.each k p i) }

-- the graph after its changes
pub referred-taken : (old new : List Entry) (flags now : List Bool) (starts : List ℕ) → AreKept old new starts → length new ≡ length old → AreReferred old flags → AreRaised flags now →
    ((k p : ℕ) → Member k starts → IsPart p (at new k) → flag_at now p ≡ true) → AreReferred new now
referred-taken old new flags now starts kept size r h parts = record {
  size = h.size ∙ r.size ∙ sym size;
  each = λ k p i.
      ⊎_elim
      (λ m. parts k p m i)
      (λ e. h.kept p (r.each k p (subst (λ (q : Entry). IsPart p q.node) e i)))
      (kept k);
}

pub referred-if : (nodes : List Entry) (flags : List Bool) (ok : Bool) → AreReferred nodes flags → MatchBool ok (AreReferred nodes flags) (Unit {0})
referred-if nodes flags true r = r
referred-if nodes flags false r = tt

-- one more node
pub referred-put : (entries : List Entry) (q : Entry) (flags now : List Bool) → IsGraph entries → AreReferred entries flags → AreRaised (flags ++ false ∷ []) now →
    ((p : ℕ) → IsPart p q.node → flag_at now p ≡ true) → AreReferred (entries ++ q ∷ []) now
referred-put entries q flags now g r h parts = record {
  size = h.size ∙ length-append flags (false ∷ []) ∙ ap (λ (n : ℕ). n + 1) r.size ∙ sym (length-append entries (q ∷ []));
  each = λ k p i.
      ⊎_elim
      (λ lt.
      let was : IsPart p (at entries k) = subst (λ (e : Entry). IsPart p e.node) (get_or_append_left entries (q ∷ []) free k lt) i in
      let inside : p < length entries = part-inside entries k p (at entries k) (g.inside k) was in
      h.kept p (get_or_append_left flags (false ∷ []) true p (omega (arith, inside, r.size)) ∙ r.each k p was))
      (λ ge. ⊎_elim
      (λ e. parts p (subst (λ (x : Entry). IsPart p x.node) (ap (entry_at (entries ++ q ∷ [])) e ∙ get_or_push entries q free (length entries) refl) i))
      (λ ne. absurd (subst (λ (x : Entry). IsPart p x.node) (get_or_past (entries ++ q ∷ []) k free (omega (arith, ge, ne, length-append entries (q ∷ [])))) i))
      (cases_eq k (length entries)))
      (cases_lt k (length entries));
}

no-part : (k p : ℕ) → IsPart p (at [] k) → ⊥
no-part zero p i = i
no-part (suc k) p i = i

pub referred-none : (entries : List Entry) (flags : List Bool) → entries ≡ [] → flags ≡ [] → AreReferred entries flags
referred-none entries flags e f = rw (e, f) (record { size = refl; each = λ k p i. absurd (no-part k p i) })
