-- Going down a graph: nodes that are done have types that obey it, and a node below itself has none.
use Rattle.std.proofs.Common.{◌≡◌, ◌≢◌, ℕ, zero, suc, ◌+◌, ◌-◌, ◌<◌, ◌≤◌, ◌⊎◌, inl, inr, List, [], ◌∷◌, ◌++◌, length, reverse, take, get_or, set, replicate, Bool, true, false, MatchBool, Option, Some, None, sym, refl, ap, ◌∙◌, subst, arith, ⊎_elim, length-set, get_or-set_same, get_or-set_other}
use Rattle.std.proofs.lemmas.List.{reverse-append, take_more, take_all}
use Rattle.std.proofs.lemmas.Bool.{cases_eq, cases_lt}
use Rattle.hb_types.specs.declared.atom.Atom.TheVariants as atom
use Rattle.hb_unknowns.specs.declared.node.Entry.{Entry}
use Rattle.hb_unknowns.specs.declared.node.Node.{Node}
use Rattle.hb_unknowns.specs.declared.node.Node.TheVariants.{Free, Link, Leaf, Apply}
use Rattle.hb_unknowns.specs.declared.order.Mark.{Mark}
use Rattle.hb_unknowns.specs.declared.order.Mark.TheVariants.{New, Open, Done}
use Rattle.hb_types.specs.Finite.{Finite, Single, Applied}
use Rattle.hb_unknowns.specs.Joined.{at}
use Rattle.hb_unknowns.specs.Graph.{Says, Within, IsAbove, Obeys, IsGraph}
use Rattle.hb_unknowns.specs.Full.{IsOrder}
use Rattle.hb_unknowns.specs.Order.{marked, unless_done, first_undone, size, IsPart, Falls, AllFall, Member, AllBelow, Ready, Settled, Walked, Touched, AreClear, AreCleared, IsMet}
use Rattle.hb_unknowns.proofs.ValueLemmas.{value, value-says, with_at, with_at-same, with_at-other}

pub marked_here : (marks : List Mark) (node : ℕ) (m : Mark) → node < length marks → marked (set marks node m) node ≡ m
marked_here marks node m h = get_or-set_same marks node m New h

pub marked_other : (marks : List Mark) (node : ℕ) (m : Mark) (k : ℕ) → k ≢ node → marked (set marks node m) k ≡ marked marks k
marked_other marks node m k n = get_or-set_other marks node k m New n

unless-none : (m : Mark) (p : ℕ) (rest : Option ℕ) → unless_done m p rest ≡ None → (m ≡ Done) × (rest ≡ None)
unless-none New p rest e = absurd (cc)
unless-none Open p rest e = absurd (cc)
unless-none Done p rest e = (refl, e)

first-none : (marks : List Mark) (n : Node) → first_undone marks n ≡ None → Ready marks n
first-none marks Free e = tt
first-none marks (Link j) e = (unless-none (marked marks j) j None e).0
first-none marks (Leaf a) e = tt
first-none marks (Apply f x) e =
    let one = unless-none (marked marks f) f (unless_done (marked marks x) x None) e in
    (one.0, (unless-none (marked marks x) x None one.1).0)

unless-some : (m : Mark) (p q : ℕ) (rest : Option ℕ) → unless_done m p rest ≡ Some q → ((q ≡ p) × (m ≡ Done → ⊥)) ⊎ (rest ≡ Some q)
unless-some New p q rest e = inl (cc, λ d. cc)
unless-some Open p q rest e = inl (cc, λ d. cc)
unless-some Done p q rest e = inr e

no-rest : (q : ℕ) → Path (Option ℕ) None (Some q) → ⊥
no-rest q e = cc

first-some : (marks : List Mark) (n : Node) (p : ℕ) → first_undone marks n ≡ Some p → IsPart p n × (marked marks p ≡ Done → ⊥)
first-some marks Free p e = absurd (no-rest p e)
first-some marks (Link j) p e =
    ⊎_elim
    (λ h. (h.0, subst (λ (k : ℕ). marked marks k ≡ Done → ⊥) (sym h.0) h.1))
    (λ r. absurd (no-rest p r))
    (unless-some (marked marks j) j p None e)
first-some marks (Leaf a) p e = absurd (no-rest p e)
first-some marks (Apply f x) p e =
    ⊎_elim
    (λ h. (inl h.0, subst (λ (k : ℕ). marked marks k ≡ Done → ⊥) (sym h.0) h.1))
    (λ r. ⊎_elim
    (λ h. (inr h.0, subst (λ (k : ℕ). marked marks k ≡ Done → ⊥) (sym h.0) h.1))
    (λ q. absurd (no-rest p q))
    (unless-some (marked marks x) x p None r))
    (unless-some (marked marks f) f p (unless_done (marked marks x) x None) e)

pub part-inside : (nodes : List Entry) (k p : ℕ) (n : Node) → Within nodes k n → IsPart p n → p < length nodes
part-inside nodes k p Free w i = absurd i
part-inside nodes k p (Link j) w i = omega (arith, w.0, i)
part-inside nodes k p (Leaf a) w i = absurd i
part-inside nodes k p (Apply f x) w i = ⊎_elim (λ e. omega (arith, w.0, e)) (λ e. omega (arith, w.1, e)) i

pub part-falls : (nodes : List Entry) (v : ℕ → Finite) (k p : ℕ) (n : Node) → Within nodes k n → Says v (v k) n → IsPart p n → Falls nodes v k p
part-falls nodes v k p Free w s i = absurd i
part-falls nodes v k p (Link j) w s i = inr (ap (λ (q : ℕ). size (v q)) i ∙ ap size (sym s), subst (λ (q : ℕ). IsAbove nodes q k) (sym i) w.1)
part-falls nodes v k p (Leaf a) w s i = absurd i
part-falls nodes v k p (Apply f x) w s i =
    let whole : size (v k) ≡ size (v f) + size (v x) + 1 = ap size s in
    ⊎_elim
    (λ e. let same : size (v p) ≡ size (v f) = ap (λ (q : ℕ). size (v q)) e in inl (omega arith))
    (λ e. let same : size (v p) ≡ size (v x) = ap (λ (q : ℕ). size (v q)) e in inl (omega arith))
    i

above-trans : (nodes : List Entry) (a b c : ℕ) → IsAbove nodes b a → IsAbove nodes c b → IsAbove nodes c a
above-trans nodes a b c p q =
    ⊎_elim
    (λ less. ⊎_elim (λ more. inl (omega (arith, less, more))) (λ same. inl (omega (arith, less, same.0))) q)
    (λ even. ⊎_elim (λ more. inl (omega (arith, even.0, more))) (λ same. inr (same.0 ∙ even.0, omega (arith, even.1, same.1))) q)
    p

falls-trans : (nodes : List Entry) (v : ℕ → Finite) (a b c : ℕ) → Falls nodes v a b → Falls nodes v b c → Falls nodes v a c
falls-trans nodes v a b c p q =
    ⊎_elim
    (λ less. ⊎_elim (λ more. inl (omega (arith, less, more))) (λ same. inl (omega (arith, less, same.0))) q)
    (λ even. ⊎_elim (λ more. inl (omega (arith, even.0, more))) (λ same. inr (same.0 ∙ even.0, above-trans nodes a b c even.1 same.1)) q)
    p

falls-not : (nodes : List Entry) (v : ℕ → Finite) (a : ℕ) → Falls nodes v a a → ⊥
falls-not nodes v a p = ⊎_elim (λ less. omega (arith, less)) (λ even. ⊎_elim (λ l. omega (arith, l)) (λ b. omega (arith, b.1)) even.1) p

all-fall : (nodes : List Entry) (v : ℕ → Finite) (rest : List ℕ) (node part : ℕ) → AllFall nodes v rest node → Falls nodes v node part → AllFall nodes v rest part
all-fall nodes v [] node part a f = tt
all-fall nodes v (top ∷ rest) node part a f = (falls-trans nodes v top node part a.0 f, all-fall nodes v rest node part a.1 f)

member-falls : (nodes : List Entry) (v : ℕ → Finite) (rest : List ℕ) (node c : ℕ) → AllFall nodes v rest node → Member c rest → Falls nodes v c node
member-falls nodes v [] node c a m = absurd m
member-falls nodes v (top ∷ rest) node c a m =
    ⊎_elim (λ e. subst (λ (k : ℕ). Falls nodes v k node) (sym e) a.0) (λ r. member-falls nodes v rest node c a.1 r) m

ready-part : (marks : List Mark) (n : Node) (p : ℕ) → Ready marks n → IsPart p n → marked marks p ≡ Done
ready-part marks Free p r i = absurd i
ready-part marks (Link j) p r i = subst (λ (k : ℕ). marked marks k ≡ Done) (sym i) r
ready-part marks (Leaf a) p r i = absurd i
ready-part marks (Apply f x) p r i =
    ⊎_elim (λ e. subst (λ (k : ℕ). marked marks k ≡ Done) (sym e) r.0) (λ e. subst (λ (k : ℕ). marked marks k ≡ Done) (sym e) r.1) i

pub says-ready : (v w : ℕ → Finite) (marks : List Mark) (t : Finite) (n : Node) → Ready marks n → ((j : ℕ) → marked marks j ≡ Done → w j ≡ v j) → Says v t n → Says w t n
says-ready v w marks t Free r e s = tt
says-ready v w marks t (Link j) r e s = s ∙ sym (e j r)
says-ready v w marks t (Leaf a) r e s = s
says-ready v w marks t (Apply f x) r e s = s ∙ ap (λ u. Applied u (v x)) (sym (e f r.0)) ∙ ap (λ u. Applied (w f) u) (sym (e x r.1))

ready-more : (old new : List Mark) (n : Node) → ((j : ℕ) → marked old j ≡ Done → marked new j ≡ Done) → Ready old n → Ready new n
ready-more old new Free h r = tt
ready-more old new (Link j) h r = h j r
ready-more old new (Leaf a) h r = tt
ready-more old new (Apply f x) h r = (h f r.0, h x r.1)

done-stays : (marks : List Mark) (node : ℕ) → node < length marks → (j : ℕ) → marked marks j ≡ Done → marked (set marks node Done) j ≡ Done
done-stays marks node h j d =
    ⊎_elim
    (λ e. subst (λ (k : ℕ). marked (set marks node Done) k ≡ Done) (sym e) (marked_here marks node Done h))
    (λ n. marked_other marks node Done j n ∙ d)
    (cases_eq j node)

settle-again : (nodes : List Entry) (marks : List Mark) (node : ℕ) (v : ℕ → Finite) → node < length marks → Settled nodes marks v → marked marks node ≡ Done → Settled nodes (set marks node Done) v
settle-again nodes marks node v h s d =
    let was : (k : ℕ) → marked (set marks node Done) k ≡ Done → marked marks k ≡ Done = λ k e.
    ⊎_elim (λ q. subst (λ (j : ℕ). marked marks j ≡ Done) (sym q) d) (λ n. sym (marked_other marks node Done k n) ∙ e) (cases_eq k node) in
    record {
      ready = λ k e. ready-more marks (set marks node Done) (at nodes k) (done-stays marks node h) (s.ready k (was k e));
      says = λ k e. s.says k (was k e);
    }

settle-new : (nodes : List Entry) (marks : List Mark) (node : ℕ) (v : ℕ → Finite) → node < length marks → Settled nodes marks v → (marked marks node ≡ Done → ⊥) → Ready marks (at nodes node) →
    Settled nodes (set marks node Done) (with_at v node (value v (at nodes node)))
settle-new nodes marks node v h s ne r =
    let w : ℕ → Finite = with_at v node (value v (at nodes node)) in
    let same : (j : ℕ) → marked marks j ≡ Done → w j ≡ v j = λ j d. with_at-other v node (value v (at nodes node)) j (λ e. ne (subst (λ (k : ℕ). marked marks k ≡ Done) e d)) in
    record {
      ready = λ k e. ⊎_elim
          (λ q. subst (λ (j : ℕ). Ready (set marks node Done) (at nodes j)) (sym q) (ready-more marks (set marks node Done) (at nodes node) (done-stays marks node h) r))
          (λ n. ready-more marks (set marks node Done) (at nodes k) (done-stays marks node h) (s.ready k (sym (marked_other marks node Done k n) ∙ e)))
          (cases_eq k node);
      says = λ k e. ⊎_elim
          (λ q. subst (λ (j : ℕ). Says w (w j) (at nodes j)) (sym q)
          (subst (λ (t : Finite). Says w t (at nodes node)) (sym (with_at-same v node (value v (at nodes node))))
          (says-ready v w marks (value v (at nodes node)) (at nodes node) r same (value-says v (at nodes node)))))
          (λ n.
          let d : marked marks k ≡ Done = sym (marked_other marks node Done k n) ∙ e in
          subst (λ (t : Finite). Says w t (at nodes k)) (sym (same k d)) (says-ready v w marks (v k) (at nodes k) (s.ready k d) same (s.says k d)))
          (cases_eq k node);
    }

settle : (nodes : List Entry) (marks : List Mark) (node : ℕ) (v : ℕ → Finite) → node < length marks → Settled nodes marks v → Ready marks (at nodes node) →
    (m : Mark) → marked marks node ≡ m → (w : ℕ → Finite) × Settled nodes (set marks node Done) w
settle nodes marks node v h s r New e = (with_at v node (value v (at nodes node)), settle-new nodes marks node v h s (λ d. let bad : New ≡ Done = sym e ∙ d in cc) r)
settle nodes marks node v h s r Open e = (with_at v node (value v (at nodes node)), settle-new nodes marks node v h s (λ d. let bad : Open ≡ Done = sym e ∙ d in cc) r)
settle nodes marks node v h s r Done e = (v, settle-again nodes marks node v h s e)

pub finished : (nodes : List Entry) (marks : List Mark) (node : ℕ) (rest past : List ℕ) → Walked nodes marks (node ∷ rest) past → first_undone marks (at nodes node) ≡ None → Walked nodes (set marks node Done) rest (node ∷ past)
finished nodes marks node rest past w e =
    let within : node < length marks = omega (arith, w.inside.0, w.size) in
    let ready = first-none marks (at nodes node) e in
    let now = settle nodes marks node w.types within w.settled ready (marked marks node) refl in
    record {
      size = length-set marks node Done ∙ w.size;
      inside = w.inside.1;
      over = (w.inside.0, w.over);
      chain = λ v o. (w.chain v o).1;
      opens = λ k o.
          ⊎_elim
          (λ q. let bad : Done ≡ Open = sym (marked_here marks node Done within) ∙ subst (λ (j : ℕ). marked (set marks node Done) j ≡ Open) q o in absurd (cc))
          (λ n. ⊎_elim (λ q. absurd (n q)) (λ m. m) (w.opens k (sym (marked_other marks node Done k n) ∙ o)))
          (cases_eq k node);
      dones = λ k d. ⊎_elim (λ q. inl q) (λ n. inr (w.dones k (sym (marked_other marks node Done k n) ∙ d))) (cases_eq k node);
      sorted = ((λ p i. w.dones p (ready-part marks (at nodes node) p ready i)), w.sorted);
      types = now.0;
      settled = now.1;
    }

opened-was : (marks : List Mark) (part : ℕ) → part < length marks → (k : ℕ) → marked (set marks part Open) k ≡ Done → marked marks k ≡ Done
opened-was marks part h k e =
    ⊎_elim
    (λ q. let bad : Open ≡ Done = sym (marked_here marks part Open h) ∙ subst (λ (j : ℕ). marked (set marks part Open) j ≡ Done) q e in absurd (cc))
    (λ n. sym (marked_other marks part Open k n) ∙ e)
    (cases_eq k part)

opened-settled : (nodes : List Entry) (marks : List Mark) (part : ℕ) (v : ℕ → Finite) → part < length marks → marked marks part ≡ New → Settled nodes marks v → Settled nodes (set marks part Open) v
opened-settled nodes marks part v h new s =
    let was : (k : ℕ) → marked (set marks part Open) k ≡ Done → marked marks k ≡ Done = λ k e.
    ⊎_elim
    (λ q. let bad : Open ≡ Done = sym (marked_here marks part Open h) ∙ subst (λ (j : ℕ). marked (set marks part Open) j ≡ Done) q e in absurd (cc))
    (λ n. sym (marked_other marks part Open k n) ∙ e)
    (cases_eq k part) in
    let stays : (j : ℕ) → marked marks j ≡ Done → marked (set marks part Open) j ≡ Done = λ j d.
    marked_other marks part Open j (λ q. let bad : New ≡ Done = sym new ∙ subst (λ (k : ℕ). marked marks k ≡ Done) q d in cc) ∙ d in
    record {
      ready = λ k e. ready-more marks (set marks part Open) (at nodes k) stays (s.ready k (was k e));
      says = λ k e. s.says k (was k e);
    }

opened-member : (marks : List Mark) (part : ℕ) (line : List ℕ) → ((k : ℕ) → marked marks k ≡ Open → Member k line) →
    (k : ℕ) → marked (set marks part Open) k ≡ Open → Member k (part ∷ line)
opened-member marks part line opens k o = ⊎_elim (λ q. inl q) (λ n. inr (opens k (sym (marked_other marks part Open k n) ∙ o))) (cases_eq k part)

pub visited : (nodes : List Entry) (marks : List Mark) (node part : ℕ) (rest past : List ℕ) → IsGraph nodes → Walked nodes marks (node ∷ rest) past →
    first_undone marks (at nodes node) ≡ Some part → marked marks part ≡ New → Walked nodes (set marks part Open) (part ∷ node ∷ rest) past
visited nodes marks node part rest past g w e new =
    let is = (first-some marks (at nodes node) part e).0 in
    let inside : part < length nodes = part-inside nodes node part (at nodes node) (g.inside node) is in
    record {
      size = length-set marks part Open ∙ w.size;
      inside = (inside, w.inside);
      over = w.over;
      chain = λ v o.
          let old = w.chain v o in
          let falls = part-falls nodes v node part (at nodes node) (g.inside node) (o.each node) is in
          ((falls, all-fall nodes v rest node part old.0 falls), old);
      opens = opened-member marks part (node ∷ rest) w.opens;
      dones = λ k d. w.dones k (opened-was marks part (omega (arith, inside, w.size)) k d);
      sorted = w.sorted;
      types = w.types;
      settled = opened-settled nodes marks part w.types (omega (arith, inside, w.size)) new w.settled;
    }

open_else : (m : Mark) → (m ≡ New → ⊥) → (m ≡ Done → ⊥) → m ≡ Open
open_else New a b = absurd (a refl)
open_else Open a b = refl
open_else Done a b = absurd (b refl)

pub cyclic : (nodes : List Entry) (marks : List Mark) (node part : ℕ) (rest past : List ℕ) → IsGraph nodes → Walked nodes marks (node ∷ rest) past →
    first_undone marks (at nodes node) ≡ Some part → (marked marks part ≡ New → ⊥) → (v : ℕ → Finite) → Obeys v nodes → ⊥
cyclic nodes marks node part rest past g w e old v o =
    let found = first-some marks (at nodes node) part e in
    let falls = part-falls nodes v node part (at nodes node) (g.inside node) (o.each node) found.0 in
    ⊎_elim
    (λ q. falls-not nodes v node (subst (Falls nodes v node) q falls))
    (λ m. falls-not nodes v node (falls-trans nodes v node part node falls (member-falls nodes v rest node part (w.chain v o).0 m)))
    (w.opens part (open_else (marked marks part) old found.1))

pub begun : (nodes : List Entry) (marks : List Mark) (start : ℕ) (past : List ℕ) → Walked nodes marks [] past → start < length nodes → marked marks start ≡ New → Walked nodes (set marks start Open) (start ∷ []) past
begun nodes marks start past w h new = record {
  size = length-set marks start Open ∙ w.size;
  inside = (h, tt);
  over = w.over;
  chain = λ v o. (tt, tt);
  opens = opened-member marks start [] w.opens;
  dones = λ k d. w.dones k (opened-was marks start (omega (arith, h, w.size)) k d);
  sorted = w.sorted;
  types = w.types;
  settled = opened-settled nodes marks start w.types (omega (arith, h, w.size)) new w.settled;
}

pub touched-done : (first marks : List Mark) (node : ℕ) → node < length marks → Touched first marks → Touched first (set marks node Done)
touched-done first marks node h t k e =
    ⊎_elim
    (λ q. let bad : Done ≡ New = sym (marked_here marks node Done h) ∙ subst (λ (j : ℕ). marked (set marks node Done) j ≡ New) q e in absurd (cc))
    (λ n. t k (sym (marked_other marks node Done k n) ∙ e))
    (cases_eq k node)

pub touched-open : (first marks : List Mark) (node : ℕ) → node < length marks → Touched first marks → Touched first (set marks node Open)
touched-open first marks node h t k e =
    ⊎_elim
    (λ q. let bad : Open ≡ New = sym (marked_here marks node Open h) ∙ subst (λ (j : ℕ). marked (set marks node Open) j ≡ New) q e in absurd (cc))
    (λ n. t k (sym (marked_other marks node Open k n) ∙ e))
    (cases_eq k node)

pub top-first : (items rest : List ℕ) (node : ℕ) → items ≡ rest ++ node ∷ [] → reverse items ≡ node ∷ reverse rest
top-first items rest node e = ap reverse e ∙ reverse-append rest (node ∷ [])

pub walked-start : (nodes : List Entry) (marks : List Mark) → AreClear nodes marks → Walked nodes marks [] []
walked-start nodes marks h = record {
  size = h.size;
  inside = tt;
  over = tt;
  chain = λ v o. tt;
  opens = λ k o. let bad : New ≡ Open = sym (h.new k) ∙ o in absurd (cc);
  dones = λ k d. let bad : New ≡ Done = sym (h.new k) ∙ d in absurd (cc);
  sorted = tt;
  types = λ k. Single (atom.Nat 0);
  settled = record {
    ready = λ k d. let bad : New ≡ Done = sym (h.new k) ∙ d in absurd (cc);
    says = λ k d. let bad : New ≡ Done = sym (h.new k) ∙ d in absurd (cc);
  };
}

done_else : (m : Mark) → (m ≡ New → ⊥) → (m ≡ Open → ⊥) → m ≡ Done
done_else New a b = absurd (a refl)
done_else Open a b = absurd (b refl)
done_else Done a b = refl

pub done-at : (nodes : List Entry) (marks : List Mark) (past : List ℕ) → Walked nodes marks [] past → (k : ℕ) → (marked marks k ≡ New → ⊥) → marked marks k ≡ Done
done-at nodes marks past w k n = done_else (marked marks k) n (w.opens k)

-- the top of a stack, and the rest
pub top-of : (items : List ℕ) (x : ℕ) → 0 < length items → x ≡ get_or items (length items - 1) x → reverse items ≡ x ∷ reverse (take (length items - 1) items)
top-of items x h e =
    let more : take (length items - 1 + 1) items ≡ take (length items - 1) items ++ get_or items (length items - 1) x ∷ [] = take_more items (length items - 1) x (omega arith) in
    let whole : take (length items - 1 + 1) items ≡ items = take_all (length items - 1 + 1) items (omega arith) in
    top-first items (take (length items - 1) items) x (sym whole ∙ more ∙ ap (λ (y : ℕ). take (length items - 1) items ++ y ∷ []) (sym e))

pub member-push : (k x : ℕ) (xs : List ℕ) → Member k (xs ++ x ∷ []) → Member k xs ⊎ (k ≡ x)
member-push k x [] m = ⊎_elim (λ e. inr e) (λ n. absurd n) m
member-push k x (y ∷ ys) m = ⊎_elim (λ e. inl (inl e)) (λ r. ⊎_elim (λ p. inl (inr p)) (λ e. inr e) (member-push k x ys r)) m

pub member-reverse : (k : ℕ) (xs : List ℕ) → Member k (reverse xs) → Member k xs
member-reverse k [] m = m
member-reverse k (x ∷ xs) m =
    ⊎_elim (λ r. inr (member-reverse k xs r)) (λ e. inl e)
    (member-push k x (reverse xs) (subst (Member k) (reverse-append (x ∷ []) xs) m))

pub below-push : (n x : ℕ) (xs : List ℕ) → AllBelow n (xs ++ x ∷ []) → AllBelow n xs × (x < n)
below-push n x [] a = (tt, a.0)
below-push n x (y ∷ ys) a = let rest = below-push n x ys a.1 in ((a.0, rest.0), rest.1)

pub below-reverse : (n : ℕ) (xs : List ℕ) → AllBelow n (reverse xs) → AllBelow n xs
below-reverse n [] a = tt
below-reverse n (x ∷ xs) a =
    let apart = below-push n x (reverse xs) (subst (AllBelow n) (reverse-append (x ∷ []) xs) a) in
    (apart.1, below-reverse n xs apart.0)

pub below-at : (n : ℕ) (xs : List ℕ) (i d : ℕ) → AllBelow n xs → i < length xs → get_or xs i d < n
below-at n [] i d a h = absurd (omega arith)
below-at n (x ∷ xs) zero d a h = a.0
below-at n (x ∷ xs) (suc i) d a h = below-at n xs i d a.1 (omega arith)

pub member-at : (xs : List ℕ) (i d : ℕ) → i < length xs → Member (get_or xs i d) xs
member-at [] i d h = absurd (omega arith)
member-at (x ∷ xs) zero d h = inl refl
member-at (x ∷ xs) (suc i) d h = inr (member-at xs i d (omega arith))

cleared-one : (nodes : List Entry) (first second third : List Mark) (stack past : List ℕ) → Walked nodes first (reverse stack) (reverse past) →
    AreCleared first stack second → AreCleared second past third → (k : ℕ) (m : Mark) → marked first k ≡ m → marked third k ≡ New
cleared-one nodes first second third stack past w p q k New e = q.kept k (p.kept k e)
cleared-one nodes first second third stack past w p q k Open e = q.kept k (p.taken k (member-reverse k stack (w.opens k e)))
cleared-one nodes first second third stack past w p q k Done e = q.taken k (member-reverse k past (w.dones k e))

-- the marks of a line and of the finished nodes are all that there are
pub cleared : (nodes : List Entry) (first second third : List Mark) (stack past : List ℕ) → Walked nodes first (reverse stack) (reverse past) →
    AreCleared first stack second → AreCleared second past third → AreClear nodes third
cleared nodes first second third stack past w p q = record {
  size = q.size ∙ p.size ∙ w.size;
  new = λ k. cleared-one nodes first second third stack past w p q k (marked first k) refl;
}

pub clear-start : (marks : List Mark) → AreCleared marks [] marks
clear-start marks = record { size = refl; kept = λ k e. e; taken = λ k m. absurd m }

new-set : (marks : List Mark) (place : ℕ) → place < length marks → (k : ℕ) → (k ≡ place) ⊎ (marked marks k ≡ New) → marked (set marks place New) k ≡ New
new-set marks place h k e =
    ⊎_elim
    (λ q. ap (marked (set marks place New)) q ∙ marked_here marks place New h)
    (λ n. ⊎_elim (λ q. absurd (n q)) (λ o. marked_other marks place New k n ∙ o) e)
    (cases_eq k place)

pub clear-one : (old marks : List Mark) (places : List ℕ) (i : ℕ) → AllBelow (length old) places → i < length places → AreCleared old (take i places) marks →
    AreCleared old (take (i + 1) places) (set marks (get_or places i 0) New)
clear-one old marks places i a h c =
    let inside : get_or places i 0 < length marks = omega (arith, below-at (length old) places i 0 a h, c.size) in
    record {
      size = length-set marks (get_or places i 0) New ∙ c.size;
      kept = λ k e. new-set marks (get_or places i 0) inside k (inr (c.kept k e));
      taken = λ k m. ⊎_elim
          (λ r. new-set marks (get_or places i 0) inside k (inr (c.taken k r)))
          (λ e. new-set marks (get_or places i 0) inside k (inl e))
          (member-push k (get_or places i 0) (take i places) (subst (Member k) (take_more places i 0 h) m));
    }

pub clear-end : (old marks : List Mark) (places : List ℕ) → AreCleared old (take (length places) places) marks → AreCleared old places marks
clear-end old marks places c = subst (λ ps. AreCleared old ps marks) (take_all (length places) places (omega arith)) c

-- the starts so far are no longer new
pub starts-more : (marks : List Mark) (starts : List ℕ) (i : ℕ) → i < length starts → ((k : ℕ) → Member k (take i starts) → marked marks k ≡ New → ⊥) →
    (marked marks (get_or starts i 0) ≡ New → ⊥) → (k : ℕ) → Member k (take (i + 1) starts) → marked marks k ≡ New → ⊥
starts-more marks starts i h old here k m new =
    ⊎_elim
    (λ r. old k r new)
    (λ e. here (subst (λ (j : ℕ). marked marks j ≡ New) e new))
    (member-push k (get_or starts i 0) (take i starts) (subst (Member k) (take_more starts i 0 h) m))

pub not-new : (old begun now : List Mark) (start : ℕ) → begun ≡ set old start Open → start < length old → Touched begun now → marked now start ≡ New → ⊥
not-new old begun now start e h t new =
    let was : marked (set old start Open) start ≡ New = subst (λ ms. marked ms start ≡ New) e (t start new) in
    let bad : Open ≡ New = sym (marked_here old start Open h) ∙ was in cc

pub still-touched : (old begun now : List Mark) (start : ℕ) → begun ≡ set old start Open → start < length old → Touched begun now → Touched old now
still-touched old begun now start e h t k new =
    let was : marked (set old start Open) k ≡ New = subst (λ ms. marked ms k ≡ New) e (t k new) in
    ⊎_elim
    (λ q. absurd (let bad : Open ≡ New = sym (marked_here old start Open h) ∙ subst (λ (j : ℕ). marked (set old start Open) j ≡ New) q was in cc))
    (λ n. sym (marked_other old start Open k n) ∙ was)
    (cases_eq k start)

pub met-all : (nodes : List Entry) (marks : List Mark) (past starts : List ℕ) → Walked nodes marks [] (reverse past) →
    ((k : ℕ) → Member k (take (length starts) starts) → marked marks k ≡ New → ⊥) → IsMet nodes marks past starts
met-all nodes marks past starts w n = record {
  walked = w;
  met = λ k m. done-at nodes marks (reverse past) w k (n k (subst (Member k) (sym (take_all (length starts) starts (omega arith))) m));
}

replicated : (n k : ℕ) → marked (replicate n New) k ≡ New
replicated zero k = refl
replicated (suc n) zero = refl
replicated (suc n) (suc k) = replicated n k

pub clear-all : (nodes : List Entry) (marks : List Mark) → marks ≡ replicate (length nodes) New → length marks ≡ length nodes → AreClear nodes marks
clear-all nodes marks e h = record { size = h; new = λ k. ap (λ ms. marked ms k) e ∙ replicated (length nodes) k }

pub below-one : (n m x : ℕ) (xs : List ℕ) → n ≤ m → x < m → AllBelow n xs → AllBelow m (xs ++ x ∷ [])
below-one n m x [] h l a = (l, tt)
below-one n m x (y ∷ ys) h l a = (omega (arith, h, a.0), below-one n m x ys h l a.1)

member-left : (k x : ℕ) (xs : List ℕ) → Member k xs → Member k (xs ++ x ∷ [])
member-left k x [] m = absurd m
member-left k x (y ∷ ys) m = ⊎_elim (λ e. inl e) (λ r. inr (member-left k x ys r)) m

member-last : (k x : ℕ) (xs : List ℕ) → k ≡ x → Member k (xs ++ x ∷ [])
member-last k x [] e = inl e
member-last k x (y ∷ ys) e = inr (member-last k x ys e)

pub number-next : (n : ℕ) (xs new : List ℕ) → new ≡ xs ++ n ∷ [] → AllBelow n xs → ((k : ℕ) → k < n → Member k xs) → AllBelow (n + 1) new × ((k : ℕ) → k < n + 1 → Member k new)
number-next n xs new e a m = rw e (
  below-one n (n + 1) n xs (omega arith) (omega arith) a,
  λ k h. ⊎_elim (λ lt. member-left k n xs (m k lt)) (λ ge. member-last k n xs (omega (arith, h, ge))) (cases_lt k n),
)

pub order-of : (nodes : List Entry) (marks : List Mark) (past starts : List ℕ) (ok : Bool) → (v : ℕ → Finite) × Obeys v nodes →
    MatchBool ok (IsMet nodes marks past starts) ((v : ℕ → Finite) → Obeys v nodes → ⊥) → ((k : ℕ) → k < length nodes → Member k starts) → IsOrder nodes (reverse past)
order-of nodes marks past starts true s m w = record { sorted = m.walked.sorted; within = m.walked.over; whole = λ k h. m.walked.dones k (m.met k (w k h)) }
order-of nodes marks past starts false s m w = absurd (m s.0 s.1)
