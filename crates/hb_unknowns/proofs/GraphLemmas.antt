-- Linking two roots keeps what a graph and the equations that wait say.
use Rattle.std.proofs.Common.{◌≡◌, ◌≢◌, ℕ, ◌+◌, ◌*◌, ◌<◌, ◌≤◌, List, [], ◌∷◌, ◌++◌, length, set, Some, None, inl, inr, sym, refl, ap, ◌∙◌, subst, arith, ⊎_elim, length-append, length-set, get_or-set_same, get_or-set_other}
use Rattle.std.proofs.Math.Nat.{mul-le-mul_left}
use Rattle.std.specs.List.{sum_by}
use Rattle.std.proofs.lemmas.List.Sums.{sum_by-set}
use Rattle.std.proofs.lemmas.Bool.{cases_eq, cases_lt}
use Rattle.hb_unknowns.specs.declared.node.Entry.{Entry}
use Rattle.hb_unknowns.specs.declared.node.Node.{Node}
use Rattle.hb_unknowns.specs.declared.node.Node.TheVariants.{Free, Link, Leaf, Apply}
use Rattle.hb_unknowns.specs.declared.node.Pair.{Pair}
use Rattle.hb_types.specs.Finite.{Finite}
use Rattle.hb_unknowns.specs.Joined.{at, entry_at, level_at, free, joined, parts}
use Rattle.hb_unknowns.specs.Graph.{Says, Within, IsAbove, IsRoot, AreWithin, Agree, one_root, Obeys, IsGraph, Turned, Clashes, work, Met, Unified, IsImpossible}
use Rattle.hb_unknowns.proofs.NodeLemmas.{joined-none, joined-says, parts-agree, joined-first, joined-second, joined-within, parts-within, parts-few, root-one, one_root-low, AreWithin-append, AreWithin-split, Agree-append, Agree-split}

-- the graph with the lower of two roots linked to the other one
abbrev pub entry : Node → ℕ → Entry
entry node level = record { node = node; level = level }

abbrev pub with_link : List Entry → ℕ → ℕ → Node → ℕ → List Entry
with_link nodes low high both raised = set (set nodes high (entry (Link low) (level_at nodes high))) low (entry both raised)

pub above-differs : (nodes : List Entry) (low high : ℕ) → IsAbove nodes low high → low ≢ high
above-differs nodes low high h e = ⊎_elim (λ l. omega (arith, l, ap (level_at nodes) e)) (λ b. omega (arith, b.1, e)) h

entry_low : (nodes : List Entry) (low high : ℕ) (both : Node) (r : ℕ) → low < length nodes → entry_at (with_link nodes low high both r) low ≡ entry both r
entry_low nodes low high both r h =
    get_or-set_same (set nodes high (entry (Link low) (level_at nodes high))) low (entry both r) free (omega (arith, h, length-set nodes high (entry (Link low) (level_at nodes high))))

entry_high : (nodes : List Entry) (low high : ℕ) (both : Node) (r : ℕ) → low ≢ high → high < length nodes → entry_at (with_link nodes low high both r) high ≡ entry (Link low) (level_at nodes high)
entry_high nodes low high both r n k =
    get_or-set_other (set nodes high (entry (Link low) (level_at nodes high))) low high (entry both r) free (λ e. n (sym e))
    ∙ get_or-set_same nodes high (entry (Link low) (level_at nodes high)) free k

entry_other : (nodes : List Entry) (low high : ℕ) (both : Node) (r k : ℕ) → k ≢ low → k ≢ high → entry_at (with_link nodes low high both r) k ≡ entry_at nodes k
entry_other nodes low high both r k p q =
    get_or-set_other (set nodes high (entry (Link low) (level_at nodes high))) low k (entry both r) free p
    ∙ get_or-set_other nodes high k (entry (Link low) (level_at nodes high)) free q

-- what holds of the new entry at each place
by_place : (P : ℕ → Entry → Type 0) (nodes : List Entry) (low high : ℕ) (both : Node) (r : ℕ) → low ≢ high → low < length nodes → high < length nodes →
    P low (entry both r) → P high (entry (Link low) (level_at nodes high)) → ((k : ℕ) → k ≢ low → k ≢ high → P k (entry_at nodes k)) →
    (k : ℕ) → P k (entry_at (with_link nodes low high both r) k)
by_place P nodes low high both r d l h here there others k =
    ⊎_elim
    (λ e. subst (λ (j : ℕ). P j (entry_at (with_link nodes low high both r) j)) (sym e) (subst (P low) (sym (entry_low nodes low high both r l)) here))
    (λ n. ⊎_elim
    (λ e. subst (λ (j : ℕ). P j (entry_at (with_link nodes low high both r) j)) (sym e) (subst (P high) (sym (entry_high nodes low high both r d h)) there))
    (λ m. subst (P k) (sym (entry_other nodes low high both r k n m)) (others k n m))
    (cases_eq k high))
    (cases_eq k low)

-- and what held of the old one
by_old : (P : ℕ → Node → Type 0) (nodes : List Entry) (low high : ℕ) (both : Node) (r : ℕ) →
    P low (at nodes low) → P high (at nodes high) → ((k : ℕ) → P k (at (with_link nodes low high both r) k)) → (k : ℕ) → P k (at nodes k)
by_old P nodes low high both r here there each k =
    ⊎_elim
    (λ e. subst (λ (j : ℕ). P j (at nodes j)) (sym e) here)
    (λ n. ⊎_elim
    (λ e. subst (λ (j : ℕ). P j (at nodes j)) (sym e) there)
    (λ m. subst (P k) (ap (λ (q : Entry). q.node) (entry_other nodes low high both r k n m)) (each k))
    (cases_eq k high))
    (cases_eq k low)

one_of : Entry → ℕ
one_of e = one_root e.node

roots_less : (nodes : List Entry) (low high : ℕ) (both : Node) (r : ℕ) → low ≢ high → low < length nodes → high < length nodes → IsRoot (at nodes low) → IsRoot (at nodes high) →
    sum_by (λ (e : Entry). one_root e.node) (with_link nodes low high both r) + 1 ≤ sum_by (λ (e : Entry). one_root e.node) nodes
roots_less nodes low high both r d l h rl rh =
    let linked : Entry = entry (Link low) (level_at nodes high) in
    let first = sum_by-set (λ (e : Entry). one_root e.node) nodes high linked free h in
    let second = sum_by-set (λ (e : Entry). one_root e.node) (set nodes high linked) low (entry both r) free (omega (arith, l, length-set nodes high linked)) in
    let here : entry_at (set nodes high linked) low ≡ entry_at nodes low = get_or-set_other nodes high low linked free d in
    let one : one_root (at (set nodes high linked) low) ≡ 1 = ap (λ (e : Entry). one_root e.node) here ∙ root-one (at nodes low) rl in
    omega (arith, first, second, one, root-one (at nodes high) rh, one_root-low both)

-- levels: only the upper one's may have fallen
level_low : (nodes : List Entry) (low high : ℕ) (both : Node) (r : ℕ) → low < length nodes → level_at (with_link nodes low high both r) low ≡ r
level_low nodes low high both r l = ap (λ (e : Entry). e.level) (entry_low nodes low high both r l)

level_rest : (nodes : List Entry) (low high : ℕ) (both : Node) (r k : ℕ) → low ≢ high → high < length nodes → k ≢ low → level_at (with_link nodes low high both r) k ≡ level_at nodes k
level_rest nodes low high both r k d h n =
    ⊎_elim
    (λ e. ap (level_at (with_link nodes low high both r)) e ∙ ap (λ (q : Entry). q.level) (entry_high nodes low high both r d h) ∙ sym (ap (level_at nodes) e))
    (λ m. ap (λ (e : Entry). e.level) (entry_other nodes low high both r k n m))
    (cases_eq k high)

still-above : (nodes : List Entry) (low high : ℕ) (both : Node) (r j k : ℕ) → low ≢ high → low < length nodes → high < length nodes → r ≤ level_at nodes low → k ≢ low →
    IsAbove nodes j k → IsAbove (with_link nodes low high both r) j k
still-above nodes low high both r j k d l h less n above =
    let same : level_at (with_link nodes low high both r) k ≡ level_at nodes k = level_rest nodes low high both r k d h n in
    ⊎_elim
    (λ e.
    let now : level_at (with_link nodes low high both r) j ≡ r = ap (level_at (with_link nodes low high both r)) e ∙ level_low nodes low high both r l in
    let was : level_at nodes j ≡ level_at nodes low = ap (level_at nodes) e in
    ⊎_elim
    (λ lower. inl (omega (arith, lower, now, was, same, less)))
    (λ even. ⊎_elim (λ lt. inl (omega (arith, even.0, now, was, same, lt))) (λ ge. inr (omega (arith, even.0, now, was, same, less, ge), even.1)) (cases_lt r (level_at nodes low)))
    above)
    (λ m.
    let stays : level_at (with_link nodes low high both r) j ≡ level_at nodes j = level_rest nodes low high both r j d h m in
    ⊎_elim (λ lower. inl (omega (arith, lower, stays, same))) (λ even. inr (stays ∙ even.0 ∙ sym same, even.1)) above)
    (cases_eq j low)

within-others : (nodes : List Entry) (low high : ℕ) (both : Node) (r k : ℕ) (n : Node) → low ≢ high → low < length nodes → high < length nodes → r ≤ level_at nodes low → k ≢ low →
    length (with_link nodes low high both r) ≡ length nodes → Within nodes k n → Within (with_link nodes low high both r) k n
within-others nodes low high both r k Free d l h less q s w = tt
within-others nodes low high both r k (Link j) d l h less q s w = (omega (arith, w.0), still-above nodes low high both r j k d l h less q w.1)
within-others nodes low high both r k (Leaf a) d l h less q s w = tt
within-others nodes low high both r k (Apply f x) d l h less q s w = (omega (arith, w.0), omega (arith, w.1))

pub linked : (nodes : List Entry) (pending : List Pair) (low high : ℕ) (both : Node) (r : ℕ) → IsAbove nodes low high → low < length nodes → high < length nodes → r ≤ level_at nodes low →
    IsGraph nodes → AreWithin (length nodes) pending → IsRoot (at nodes low) → IsRoot (at nodes high) → joined (at nodes low) (at nodes high) ≡ Some both →
    Turned low high nodes pending (with_link nodes low high both r) (pending ++ parts (at nodes low) (at nodes high))
linked nodes pending low high both r above l h less g w rl rh e =
    let d : low ≢ high = above-differs nodes low high above in
    let new : List Entry = with_link nodes low high both r in
    let size : length (with_link nodes low high both r) ≡ length nodes = length-set (set nodes high (entry (Link low) (level_at nodes high))) low (entry both r) ∙ length-set nodes high (entry (Link low) (level_at nodes high)) in
    record {
      graph = record {
        inside = by_place (λ k q. Within (with_link nodes low high both r) k q.node) nodes low high both r d l h
            (joined-within nodes (with_link nodes low high both r) low high (at nodes low) (at nodes high) both size e rl rh (g.inside low) (g.inside high))
            (omega (arith, size, l), still-above nodes low high both r low high d l h less (λ q. d (sym q)) above)
            (λ k p q. within-others nodes low high both r k (at nodes k) d l h less p size (g.inside k));
      };
      size = size;
      within = subst (λ (n : ℕ). AreWithin n (pending ++ parts (at nodes low) (at nodes high))) (sym size)
          (AreWithin-append (length nodes) pending (parts (at nodes low) (at nodes high)) w
          (parts-within nodes low high (at nodes low) (at nodes high) (g.inside low) (g.inside high)));
      less = omega (arith, roots_less nodes low high both r d l h rl rh, length-append pending (parts (at nodes low) (at nodes high)), parts-few (at nodes low) (at nodes high));
      same = λ v. (
        λ all.
            let obeys = all.0 in
            let equal : v low ≡ v high = all.1 in
            let other : Says v (v low) (at nodes high) = subst (λ (t : Finite). Says v t (at nodes high)) (sym equal) (obeys.each high) in (
              record {
                each = by_place (λ k q. Says v (v k) q.node) nodes low high both r d l h
                    (joined-says v (v low) (at nodes low) (at nodes high) both e (obeys.each low) other) (sym equal) (λ k p q. obeys.each k);
              },
              Agree-append v pending (parts (at nodes low) (at nodes high)) all.2 (parts-agree v (v low) (at nodes low) (at nodes high) (obeys.each low) other),
            ),
        λ all.
            let obeys = all.0 in
            let agree = Agree-split v pending (parts (at nodes low) (at nodes high)) all.1 in
            let said : Says v (v low) both = subst (λ (q : Entry). Says v (v low) q.node) (entry_low nodes low high both r l) (obeys.each low) in
            let equal : v high ≡ v low = subst (λ (q : Entry). Says v (v high) q.node) (entry_high nodes low high both r d h) (obeys.each high) in
            let second : Says v (v low) (at nodes high) = joined-second v (v low) (at nodes low) (at nodes high) both e said agree.1 in (
              record {
                each = by_old (λ k n. Says v (v k) n) nodes low high both r
                    (joined-first v (v low) (at nodes low) (at nodes high) both e said)
                    (subst (λ (t : Finite). Says v t (at nodes high)) (sym equal) second) obeys.each;
              },
              sym equal,
              agree.0,
            ),
      );
    }

pub clashed : (nodes : List Entry) (low high : ℕ) → IsRoot (at nodes low) → IsRoot (at nodes high) → joined (at nodes low) (at nodes high) ≡ None → Clashes low high nodes
clashed nodes low high rl rh e v obeys equal =
    joined-none v (v low) (at nodes low) (at nodes high) rl rh e (obeys.each low)
    (subst (λ (t : Finite). Says v t (at nodes high)) (sym equal) (obeys.each high))

-- two nodes with one root are the same already
pub idle : (nodes : List Entry) (pending : List Pair) (left right : ℕ) → IsGraph nodes → AreWithin (length nodes) pending →
    ((v : ℕ → Finite) → Obeys v nodes → v left ≡ v right) → Turned left right nodes pending nodes pending
idle nodes pending left right g w same = record {
  graph = g;
  size = refl;
  within = w;
  less = omega arith;
  same = λ v. (λ all. (all.0, all.2), λ all. (all.0, same v all.0, all.1));
}

-- an equation of two nodes is that of their roots
pub turned-roots : (nodes new : List Entry) (pending left_over : List Pair) (left right a b : ℕ) →
    ((v : ℕ → Finite) → Obeys v nodes → v left ≡ v a) → ((v : ℕ → Finite) → Obeys v nodes → v right ≡ v b) →
    Turned a b nodes pending new left_over → Turned left right nodes pending new left_over
turned-roots nodes new pending left_over left right a b l r t = record {
  graph = t.graph;
  size = t.size;
  within = t.within;
  less = t.less;
  same = λ v. (
    λ all. (t.same v).0 (all.0, sym (l v all.0) ∙ all.1 ∙ r v all.0, all.2),
    λ all. let back = (t.same v).1 all in (back.0, l v back.0 ∙ back.1 ∙ sym (r v back.0), back.2),
  );
}

pub turned-flip : (nodes new : List Entry) (pending left_over : List Pair) (a b : ℕ) → Turned a b nodes pending new left_over → Turned b a nodes pending new left_over
turned-flip nodes new pending left_over a b t = record {
  graph = t.graph;
  size = t.size;
  within = t.within;
  less = t.less;
  same = λ v. (λ all. (t.same v).0 (all.0, sym all.1, all.2), λ all. let back = (t.same v).1 all in (back.0, sym back.1, back.2));
}

pub clashes-roots : (nodes : List Entry) (left right a b : ℕ) →
    ((v : ℕ → Finite) → Obeys v nodes → v left ≡ v a) → ((v : ℕ → Finite) → Obeys v nodes → v right ≡ v b) →
    Clashes a b nodes → Clashes left right nodes
clashes-roots nodes left right a b l r c v obeys equal = c v obeys (sym (l v obeys) ∙ equal ∙ r v obeys)

pub clashes-flip : (nodes : List Entry) (a b : ℕ) → Clashes a b nodes → Clashes b a nodes
clashes-flip nodes a b c v obeys equal = c v obeys (sym equal)

pub met-start : (nodes : List Entry) (pending : List Pair) → IsGraph nodes → AreWithin (length nodes) pending → Met nodes pending nodes pending
met-start nodes pending g w = record { graph = g; size = refl; within = w; same = λ v. (λ all. all, λ all. all) }

pub met-turn : (old nodes new : List Entry) (waiting before rest left_over : List Pair) (p : Pair) → Met old waiting nodes before → before ≡ rest ++ p ∷ [] →
    Turned p.left p.right nodes rest new left_over → Met old waiting new left_over
met-turn old nodes new waiting before rest left_over p m e t = record {
  graph = t.graph;
  size = t.size ∙ m.size;
  within = t.within;
  same = λ v. (
    λ all.
        let now = (m.same v).0 all in
        let apart = Agree-split v rest (p ∷ []) (subst (Agree v) e now.1) in
        (t.same v).0 (now.0, apart.1.0, apart.0),
    λ all.
        let now = (t.same v).1 all in
        (m.same v).1 (now.0, subst (Agree v) (sym e) (Agree-append v rest (p ∷ []) now.2 (now.1, tt))),
  );
}

pub met-end : (old nodes : List Entry) (waiting before : List Pair) → Met old waiting nodes before → before ≡ [] → Unified old waiting nodes
met-end old nodes waiting before m e = record {
  graph = m.graph;
  size = m.size;
  same = λ v. (λ all. ((m.same v).0 all).0, λ obeys. (m.same v).1 (obeys, subst (Agree v) (sym e) tt));
}

pub met-clash : (old nodes : List Entry) (waiting before rest : List Pair) (p : Pair) → Met old waiting nodes before → before ≡ rest ++ p ∷ [] →
    Clashes p.left p.right nodes → IsImpossible old waiting
met-clash old nodes waiting before rest p m e c v obeys agree =
    let now = (m.same v).0 (obeys, agree) in
    let apart = Agree-split v rest (p ∷ []) (subst (Agree v) e now.1) in
    c v now.0 apart.1.0

pub last-within : (size : ℕ) (before rest : List Pair) (p : Pair) → AreWithin size before → before ≡ rest ++ p ∷ [] →
    (p.left < size) × (p.right < size) × AreWithin size rest
last-within size before rest p w e =
    let apart = AreWithin-split size rest (p ∷ []) (subst (AreWithin size) e w) in
    (apart.1.0.0, apart.1.0.1, apart.0)

pub last-work : (nodes : List Entry) (before rest : List Pair) (p : Pair) → before ≡ rest ++ p ∷ [] → work nodes before ≡ work nodes rest + 1
last-work nodes before rest p e = rw e (omega (arith, length-append rest (p ∷ [])))

-- how far down a node stands: links lead to less
pub above-less : (nodes : List Entry) (j k : ℕ) → IsAbove nodes j k → j < length nodes → level_at nodes j * length nodes + j < level_at nodes k * length nodes + k
above-less nodes j k above h =
    ⊎_elim
    (λ lower.
    let less : level_at nodes j + 1 ≤ level_at nodes k = omega (arith, lower) in
    omega (arith, h, mul-le-mul_left (length nodes) less))
    (λ even. let same : length nodes * level_at nodes j ≡ length nodes * level_at nodes k = ap (λ (q : ℕ). length nodes * q) even.0 in omega (arith, same, even.1))
    above

pub link-less : (nodes : List Entry) (place next : ℕ) (n : Node) → IsGraph nodes → at nodes place ≡ n → n ≡ Link next → level_at nodes next * length nodes + next < level_at nodes place * length nodes + place
link-less nodes place next n g e f =
    let w : Within nodes place (Link next) = subst (Within nodes place) (e ∙ f) (g.inside place) in
    above-less nodes next place w.1 w.0
