-- A graph that was changed at some nodes has types where those nodes and all below them have.
use Rattle.std.proofs.Common.{◌≡◌, ℕ, zero, suc, ◌+◌, ◌*◌, ◌<◌, ◌≤◌, ◌⊎◌, inl, inr, List, [], ◌∷◌, length, sym, refl, ap, ◌∙◌, subst, arith, ⊎_elim}
use Rattle.std.proofs.Math.Nat.{mul-le-mul_left}
use Rattle.std.specs.List.{sum_by}
use Rattle.std.proofs.lemmas.List.Sums.{sum_by-cons}
use Rattle.hb_types.specs.Finite.{Finite, Single, Applied}
use Rattle.hb_types.specs.declared.atom.Atom.TheVariants as atom
use Rattle.hb_unknowns.specs.declared.node.Entry.{Entry}
use Rattle.hb_unknowns.specs.declared.node.Node.{Node}
use Rattle.hb_unknowns.specs.declared.node.Node.TheVariants.{Free, Link, Leaf, Apply}
use Rattle.hb_unknowns.specs.declared.order.Mark.{Mark}
use Rattle.hb_unknowns.specs.declared.order.Mark.TheVariants.{New, Open, Done}
use Rattle.hb_unknowns.specs.Joined.{at, entry_at, level_at}
use Rattle.hb_unknowns.specs.Graph.{Says, IsAbove, Obeys, IsGraph}
use Rattle.hb_unknowns.specs.Order.{marked, size, IsPart, Falls, Member, IsReached}
use Rattle.hb_unknowns.proofs.ValueLemmas.{value}
use Rattle.hb_unknowns.proofs.OrderLemmas.{part-inside, part-falls, says-ready}

value-parts : (v w : ℕ → Finite) (n : Node) → ((p : ℕ) → IsPart p n → v p ≡ w p) → value v n ≡ value w n
value-parts v w Free h = refl
value-parts v w (Link j) h = h j refl
value-parts v w (Leaf a) h = refl
value-parts v w (Apply f x) h = ap (λ u. Applied u (v x)) (h f (inl refl)) ∙ ap (λ u. Applied (w f) u) (h x (inr refl))

says-parts : (v w : ℕ → Finite) (n : Node) → ((p : ℕ) → IsPart p n → v p ≡ w p) → Says w (value v n) n
says-parts v w Free h = tt
says-parts v w (Link j) h = h j refl
says-parts v w (Leaf a) h = refl
says-parts v w (Apply f x) h = ap (λ u. Applied u (v x)) (h f (inl refl)) ∙ ap (λ u. Applied (w f) u) (h x (inr refl))

level_of : Entry → ℕ
level_of e = e.level

level-low : (nodes : List Entry) (k : ℕ) → level_at nodes k ≤ sum_by (λ (e : Entry). e.level) nodes
level-low [] k = omega arith
level-low (e ∷ es) zero = omega (arith, sum_by-cons (λ (q : Entry). q.level) e es)
level-low (e ∷ es) (suc k) = omega (arith, sum_by-cons (λ (q : Entry). q.level) e es, level-low es k)

-- more than any place with its level
abbrev pub wide : List Entry → ℕ
wide nodes = length nodes * (sum_by (λ (e : Entry). e.level) nodes + 1)

abbrev pub key : List Entry → ℕ → ℕ
key nodes k = length nodes * level_at nodes k + k

abbrev pub rank : List Entry → (ℕ → Finite) → ℕ → ℕ
rank nodes w k = wide nodes * size (w k) + key nodes k

key-low : (nodes : List Entry) (k : ℕ) → k < length nodes → key nodes k < wide nodes
key-low nodes k h =
    let low : level_at nodes k + 1 ≤ sum_by (λ (e : Entry). e.level) nodes + 1 = omega (arith, level-low nodes k) in
    omega (arith, h, mul-le-mul_left (length nodes) low)

key-above : (nodes : List Entry) (j k : ℕ) → IsAbove nodes j k → j < length nodes → key nodes j < key nodes k
key-above nodes j k above h =
    ⊎_elim
    (λ lower.
    let less : level_at nodes j + 1 ≤ level_at nodes k = omega (arith, lower) in
    omega (arith, h, mul-le-mul_left (length nodes) less))
    (λ even. let same : length nodes * level_at nodes j ≡ length nodes * level_at nodes k = ap (λ (q : ℕ). length nodes * q) even.0 in omega (arith, same, even.1))
    above

rank-falls : (nodes : List Entry) (w : ℕ → Finite) (k p : ℕ) → Falls nodes w k p → p < length nodes → rank nodes w p < rank nodes w k
rank-falls nodes w k p f h =
    ⊎_elim
    (λ less.
    let more : size (w p) + 1 ≤ size (w k) = omega (arith, less) in
    omega (arith, key-low nodes p h, mul-le-mul_left (wide nodes) more))
    (λ even.
    let same : wide nodes * size (w p) ≡ wide nodes * size (w k) = ap (λ (q : ℕ). wide nodes * q) even.0 in
    omega (arith, same, key-above nodes p k even.1 h))
    f

pub rank-part : (nodes : List Entry) (w : ℕ → Finite) (k p : ℕ) → IsGraph nodes → Obeys w nodes → IsPart p (at nodes k) → rank nodes w p < rank nodes w k
rank-part nodes w k p g o i =
    rank-falls nodes w k p (part-falls nodes w k p (at nodes k) (g.inside k) (o.each k) i) (part-inside nodes k p (at nodes k) (g.inside k) i)

abbrev choose : Mark → Finite → Finite → Finite
choose New a b = b
choose Open a b = b
choose Done a b = a

-- as far down as the number says: a node that is done has its type, any other one that of its parts
fill : List Entry → List Mark → (ℕ → Finite) → ℕ → ℕ → Finite
fill nodes marks t zero k = Single (atom.Nat 0)
fill nodes marks t (suc n) k = choose (marked marks k) (t k) (value (fill nodes marks t n) (at nodes k))

stable : (nodes : List Entry) (marks : List Mark) (t w : ℕ → Finite) → IsGraph nodes → Obeys w nodes → (n m k : ℕ) → rank nodes w k < n → rank nodes w k < m →
    fill nodes marks t n k ≡ fill nodes marks t m k
unfolding fill
stable nodes marks t w g o zero m k h l = absurd (omega (arith, h))
stable nodes marks t w g o (suc n) zero k h l = absurd (omega (arith, l))
stable nodes marks t w g o (suc n) (suc m) k h l =
    ap (choose (marked marks k) (t k))
    (value-parts (fill nodes marks t n) (fill nodes marks t m) (at nodes k)
    (λ p i.
    let less : rank nodes w p < rank nodes w k = rank-part nodes w k p g o i in
    stable nodes marks t w g o n m p (omega (arith, less, h)) (omega (arith, less, l))))

filled : List Entry → List Mark → (ℕ → Finite) → (ℕ → Finite) → ℕ → Finite
filled nodes marks t w k = fill nodes marks t (suc (rank nodes w k)) k

filled-done : (nodes : List Entry) (marks : List Mark) (t w : ℕ → Finite) (k : ℕ) → marked marks k ≡ Done → filled nodes marks t w k ≡ t k
unfolding filled fill
filled-done nodes marks t w k e = ap (λ (m : Mark). choose m (t k) (value (fill nodes marks t (rank nodes w k)) (at nodes k))) e

choose-other : (m : Mark) (a b : Finite) → (m ≡ Done → ⊥) → choose m a b ≡ b
choose-other New a b n = refl
choose-other Open a b n = refl
choose-other Done a b n = absurd (n refl)

filled-other : (nodes : List Entry) (marks : List Mark) (t w : ℕ → Finite) (k : ℕ) → (marked marks k ≡ Done → ⊥) → filled nodes marks t w k ≡ value (fill nodes marks t (rank nodes w k)) (at nodes k)
unfolding filled fill
filled-other nodes marks t w k n = choose-other (marked marks k) (t k) (value (fill nodes marks t (rank nodes w k)) (at nodes k)) n

filled-part : (nodes : List Entry) (marks : List Mark) (t w : ℕ → Finite) → IsGraph nodes → Obeys w nodes → (k p : ℕ) → IsPart p (at nodes k) →
    fill nodes marks t (rank nodes w k) p ≡ filled nodes marks t w p
unfolding filled
filled-part nodes marks t w g o k p i =
    let less : rank nodes w p < rank nodes w k = rank-part nodes w k p g o i in
    stable nodes marks t w g o (rank nodes w k) (suc (rank nodes w p)) p less (omega arith)

done_or : (m : Mark) → (m ≡ Done) ⊎ (m ≡ Done → ⊥)
done_or New = inr (λ e. cc)
done_or Open = inr (λ e. cc)
done_or Done = inl refl

-- the nodes that are not starts are as they were
abbrev pub AreKept : List Entry → List Entry → List ℕ → Type 0
AreKept old new starts = (k : ℕ) → Member k starts ⊎ (entry_at new k ≡ entry_at old k)

pub reached-solved : (old new : List Entry) (starts : List ℕ) (w : ℕ → Finite) → IsGraph old → Obeys w old → AreKept old new starts → IsReached new starts → (v : ℕ → Finite) × Obeys v new
reached-solved old new starts w g o kept r =
    let t : ℕ → Finite = r.met.walked.types in
    let v : ℕ → Finite = filled old r.marks r.met.walked.types w in (
      filled old r.marks r.met.walked.types w,
      record {
        each = λ k.
            ⊎_elim
            (λ d.
            subst (λ (u : Finite). Says (filled old r.marks r.met.walked.types w) u (at new k)) (sym (filled-done old r.marks r.met.walked.types w k d))
            (says-ready r.met.walked.types (filled old r.marks r.met.walked.types w) r.marks (r.met.walked.types k) (at new k) (r.met.walked.settled.ready k d)
            (λ j e. filled-done old r.marks r.met.walked.types w j e) (r.met.walked.settled.says k d)))
            (λ n.
            let same : at new k ≡ at old k = ⊎_elim (λ m. absurd (n (r.met.met k m))) (λ e. ap (λ (q : Entry). q.node) e) (kept k) in
            subst (Says (filled old r.marks r.met.walked.types w) (filled old r.marks r.met.walked.types w k)) (sym same)
            (subst (λ (u : Finite). Says (filled old r.marks r.met.walked.types w) u (at old k)) (sym (filled-other old r.marks r.met.walked.types w k n))
            (says-parts (fill old r.marks r.met.walked.types (rank old w k)) (filled old r.marks r.met.walked.types w) (at old k) (filled-part old r.marks r.met.walked.types w g o k))))
            (done_or (marked r.marks k));
      },
    )
