-- Reading a run from left to right gives the one tree that is right, or the first clash.
use Rattle.std.proofs.Common.{◌≡◌, Bool, true, false, not, cond, refl, sym, ap, ◌∙◌, subst, List, [], ◌∷◌, ◌++◌, map, Option, Some, None, append_assoc}
use Rattle.std.proofs.lemmas.List.{append-nil}
use Rattle.hb_tree.specs.Expressions.{Expr}
use Rattle.hb_fixity.specs.declared.fixity.Fixity.{Fixity}
use Rattle.hb_fixity.specs.declared.fixity.Operator.{Operator}
use Rattle.hb_fixity.specs.Fixities.{goes_left, goes_right, OpTree, Operand, Operation, fits_left, fits_right, IsRight, RightOperand, RightOperation, first_operand, others, Groups, IsFirstClash, operator_applied, expr_of}
use Rattle.hb_fixity.specs.Reading.{State, kept, closed, closed_all, clashes_on, clash_of, put, reads, start, ended, grouped}
use Rattle.hb_fixity.proofs.FixityLaws.{right_not_left, right_then_left, left_then_right}

Opens : Type 0 → Type 0
Opens T = List (T × Operator)

-- a run whose operands are trees of their own
abbrev leaf : Operator × Expr → Operator × OpTree
leaf p = (p.0, Operand p.1)

abbrev leaves : List (Operator × Expr) → List (Operator × OpTree)
leaves ps = map leaf ps

-- Below, reading the operands and operators of a tree that is right gives that tree.

-- what is open once a tree is read, and its last operand
abbrev spine : OpTree → List (OpTree × Operator) → List (OpTree × Operator)
spine (Operand e) s = s
spine (Operation op l r) s = spine r ((l, op) ∷ s)

abbrev tip : OpTree → OpTree
tip (Operand e) = Operand e
tip (Operation op l r) = tip r

-- the last open operator may have the tree as its right operand
abbrev Fits : List (OpTree × Operator) → OpTree → Type 0
Fits [] t = Unit {0}
Fits (p ∷ ps) t = fits_right p.1 t ≡ true

-- the same, of the operator of a tree
abbrev FitsOperator : List (OpTree × Operator) → Operator → Type 0
FitsOperator [] op = Unit {0}
FitsOperator (p ∷ ps) op = goes_right p.1.fixity op.fixity ≡ true

goes_on_left : (op inner : Operator) (t : OpTree) → fits_right inner t ≡ true → goes_left inner.fixity op.fixity ≡ true → fits_left op t ≡ true
goes_on_left op inner (Operand e) h k = refl
goes_on_left op inner (Operation o l r) h k = right_then_left inner.fixity o.fixity op.fixity h k

kept_here : (f : Fixity) (p : OpTree × Operator) (s : List (OpTree × Operator)) → goes_left p.1.fixity f ≡ true → kept f (p ∷ s) ≡ kept f s
kept_here f p s h = rw h refl

closed_here : (f : Fixity) (p : OpTree × Operator) (s : List (OpTree × Operator)) (t : OpTree) → goes_left p.1.fixity f ≡ true → closed Operation f (p ∷ s) t ≡ closed Operation f s (Operation p.1 p.0 t)
closed_here f p s t h = rw h refl

kept_spine : (op : Operator) (t : OpTree) (s : List (OpTree × Operator)) → IsRight t → fits_left op t ≡ true → kept op.fixity (spine t s) ≡ kept op.fixity s
kept_spine op (Operand e) s h k = refl
kept_spine op (Operation o l r) s (RightOperation _ _ _ a b hl hr) k =
    kept_spine op r ((l, o) ∷ s) hr (goes_on_left op o r b k) ∙ kept_here op.fixity (l, o) s k

closed_spine : (op : Operator) (t : OpTree) (s : List (OpTree × Operator)) → IsRight t → fits_left op t ≡ true → closed Operation op.fixity (spine t s) (tip t) ≡ closed Operation op.fixity s t
closed_spine op (Operand e) s h k = refl
closed_spine op (Operation o l r) s (RightOperation _ _ _ a b hl hr) k =
    closed_spine op r ((l, o) ∷ s) hr (goes_on_left op o r b k) ∙ closed_here op.fixity (l, o) s r k

closed_all_spine : (t : OpTree) (s : List (OpTree × Operator)) → closed_all Operation (spine t s) (tip t) ≡ closed_all Operation s t
closed_all_spine (Operand e) s = refl
closed_all_spine (Operation o l r) s = closed_all_spine r ((l, o) ∷ s)

kept_all : (s : List (OpTree × Operator)) (op : Operator) → FitsOperator s op → kept op.fixity s ≡ s
kept_all [] op h = refl
kept_all (p ∷ s) op h = rw (right_not_left p.1.fixity op.fixity h) refl

closed_none : (s : List (OpTree × Operator)) (op : Operator) (t : OpTree) → FitsOperator s op → closed Operation op.fixity s t ≡ t
closed_none [] op t h = refl
closed_none (p ∷ s) op t h = rw (right_not_left p.1.fixity op.fixity h) refl

no_clash : (s : List (OpTree × Operator)) (op : Operator) → FitsOperator s op → clashes_on s op.fixity ≡ false
no_clash [] op h = refl
no_clash (p ∷ s) op h = ap not h

fits_inner : (s : List (OpTree × Operator)) (op : Operator) (l : OpTree) → FitsOperator s op → fits_left op l ≡ true → Fits s l
fits_inner [] op l h k = tt
fits_inner (p ∷ s) op (Operand e) h k = refl
fits_inner (p ∷ s) op (Operation o a b) h k = left_then_right p.1.fixity op.fixity o.fixity h k

fits_operator : (s : List (OpTree × Operator)) (op : Operator) (l r : OpTree) → Fits s (Operation op l r) → FitsOperator s op
fits_operator [] op l r h = tt
fits_operator (p ∷ s) op l r h = h

abbrev at : List (OpTree × Operator) → OpTree → State OpTree
at s t = record { open_ones = s; now = t; clash = None }

put_spine : (op : Operator) (l next : OpTree) (s : List (OpTree × Operator)) → IsRight l → fits_left op l ≡ true → FitsOperator s op
    → put Operation (at (spine l s) (tip l)) op next ≡ at ((l, op) ∷ s) next
put_spine op l next s hl a h =
    let k : kept op.fixity (spine l s) ≡ s = kept_spine op l s hl a ∙ kept_all s op h in
    let c : closed Operation op.fixity (spine l s) (tip l) ≡ l = closed_spine op l s hl a ∙ closed_none s op l h in
    let n : clashes_on (kept op.fixity (spine l s)) op.fixity ≡ false = ap (λ x. clashes_on x op.fixity) k ∙ no_clash s op h in
    let e : clash_of None (clashes_on (kept op.fixity (spine l s)) op.fixity) op ≡ None = ap (λ b. clash_of None b op) n in
    λ i. record { open_ones = (c i, op) ∷ k i; now = next; clash = e i }

reads_append : (s : State OpTree) (ps qs : List (Operator × OpTree)) → reads Operation s (ps ++ qs) ≡ reads Operation (reads Operation s ps) qs
reads_append s [] qs = refl
reads_append s (p ∷ ps) qs = reads_append (put Operation s p.0 p.1) ps qs

leaves_append : (ps qs : List (Operator × Expr)) → leaves (ps ++ qs) ≡ leaves ps ++ leaves qs
leaves_append [] qs = refl
leaves_append (p ∷ ps) qs = ap (λ x. leaf p ∷ x) (leaves_append ps qs)

reads_tree : (t : OpTree) (s : List (OpTree × Operator)) → IsRight t → Fits s t
    → reads Operation (at s (Operand (first_operand t))) (leaves (others t)) ≡ at (spine t s) (tip t)
reads_tree (Operand e) s h f = refl
reads_tree (Operation op l r) s (RightOperation _ _ _ a b hl hr) f =
    let o : FitsOperator s op = fits_operator s op l r f in
    ap (reads Operation (at s (Operand (first_operand l)))) (leaves_append (others l) ((op, first_operand r) ∷ others r))
    ∙ reads_append (at s (Operand (first_operand l))) (leaves (others l)) (leaves ((op, first_operand r) ∷ others r))
    ∙ ap (λ x. reads Operation x (leaves ((op, first_operand r) ∷ others r))) (reads_tree l s hl (fits_inner s op l o a))
    ∙ ap (λ x. reads Operation x (leaves (others r))) (put_spine op l (Operand (first_operand r)) s hl a o)
    ∙ reads_tree r ((l, op) ∷ s) hr b

abbrev grouped_tree : Expr → List (Operator × Expr) → State OpTree
grouped_tree first rest = ended Operation (reads Operation (start (Operand first)) (leaves rest))

complete : (first : Expr) (rest : List (Operator × Expr)) (t : OpTree) → Groups first rest t → grouped_tree first rest ≡ at [] t
complete first rest t g =
    let e : reads Operation (start (Operand first)) (leaves rest) ≡ at (spine t []) (tip t) =
    (λ i. reads Operation (start (Operand (sym g.begins i))) (leaves (sym g.goes_on i))) ∙ reads_tree t [] g.right tt in
    ap (ended Operation) e ∙ ap (at []) (closed_all_spine t [])

-- Below, what is read without a clash is a tree that is right.

-- open operators with left operands that fit, each in the right operand of the one before
abbrev IsGood : List (OpTree × Operator) → Type 0
IsGood [] = Unit {0}
IsGood (p ∷ ps) = IsRight p.0 × (fits_left p.1 p.0 ≡ true) × FitsOperator ps p.1 × IsGood ps

record Good (s : List (OpTree × Operator)) (t : OpTree) : Type 0 where
  is_good : IsGood s
  right : IsRight t
  fits : Fits s t

fits_from : (s : List (OpTree × Operator)) (op : Operator) (l r : OpTree) → FitsOperator s op → Fits s (Operation op l r)
fits_from [] op l r h = tt
fits_from (p ∷ s) op l r h = h

joined : (p : OpTree × Operator) (s : List (OpTree × Operator)) (t : OpTree) → Good (p ∷ s) t → Good s (Operation p.1 p.0 t)
joined p s t g = record {
  is_good = g.is_good.3;
  right = RightOperation p.1 p.0 t g.is_good.1 g.fits g.is_good.0 g.right;
  fits = fits_from s p.1 p.0 t g.is_good.2;
}

record GoodBefore (op : Operator) (s : List (OpTree × Operator)) (t : OpTree) : Type 0 where
  good : Good s t
  left : fits_left op t ≡ true

closes_well : (op : Operator) (s : List (OpTree × Operator)) (t : OpTree) → Good s t → fits_left op t ≡ true → GoodBefore op (kept op.fixity s) (closed Operation op.fixity s t)
closes_well op [] t g h = record { good = g; left = h }
closes_well op (p ∷ s) t g h = by_test (goes_left p.1.fixity op.fixity) refl (λ e. closes_well op s (Operation p.1 p.0 t) (joined p s t g) e)
  where
    by_test : (b : Bool) → goes_left p.1.fixity op.fixity ≡ b → (goes_left p.1.fixity op.fixity ≡ true → GoodBefore op (kept op.fixity s) (closed Operation op.fixity s (Operation p.1 p.0 t)))
        → GoodBefore op (cond b (kept op.fixity s) (p ∷ s)) (cond b (closed Operation op.fixity s (Operation p.1 p.0 t)) t)
    by_test true e k = k e
    by_test false e k = record { good = g; left = h }

all_closed : (s : List (OpTree × Operator)) (t : OpTree) → Good s t → IsRight (closed_all Operation s t)
all_closed [] t g = g.right
all_closed (p ∷ s) t g = all_closed s (Operation p.1 p.0 t) (joined p s t g)

-- the operands and operators of all that is read
abbrev whole : List (OpTree × Operator) → OpTree → OpTree
whole s t = closed_all Operation s t

closed_whole : (f : Fixity) (s : List (OpTree × Operator)) (t : OpTree) → whole (kept f s) (closed Operation f s t) ≡ whole s t
closed_whole f [] t = refl
closed_whole f (p ∷ s) t = by_test (goes_left p.1.fixity f) (closed_whole f s (Operation p.1 p.0 t))
  where
    by_test : (b : Bool) → whole (kept f s) (closed Operation f s (Operation p.1 p.0 t)) ≡ whole s (Operation p.1 p.0 t)
        → whole (cond b (kept f s) (p ∷ s)) (cond b (closed Operation f s (Operation p.1 p.0 t)) t) ≡ whole s (Operation p.1 p.0 t)
    by_test true k = k
    by_test false k = refl

record Longer (t u : OpTree) (ps : List (Operator × Expr)) : Type 0 where
  begins : first_operand u ≡ first_operand t
  goes_on : others u ≡ others t ++ ps

whole_longer : (s : List (OpTree × Operator)) (t u : OpTree) (ps : List (Operator × Expr)) → Longer t u ps → Longer (whole s t) (whole s u) ps
whole_longer [] t u ps h = h
whole_longer (p ∷ s) t u ps h =
    let step : others p.0 ++ (p.1, first_operand u) ∷ others u ≡ others p.0 ++ (p.1, first_operand t) ∷ (others t ++ ps) = λ i. others p.0 ++ (p.1, h.begins i) ∷ h.goes_on i in
    let grown : others p.0 ++ (p.1, first_operand t) ∷ (others t ++ ps) ≡ (others p.0 ++ (p.1, first_operand t) ∷ others t) ++ ps = sym (append_assoc (others p.0) ((p.1, first_operand t) ∷ others t) ps) in
    whole_longer s (Operation p.1 p.0 t) (Operation p.1 p.0 u) ps (record { begins = refl; goes_on = step ∙ grown })

-- what was read so far, without a clash
record Read (first : Expr) (ps : List (Operator × Expr)) (s : State OpTree) : Type 0 where
  good : Good s.open_ones s.now
  leaf_now : (e : Expr) × (s.now ≡ Operand e)
  begins : first_operand (whole s.open_ones s.now) ≡ first
  goes_on : others (whole s.open_ones s.now) ≡ ps

read_start : (first : Expr) → Read first [] (start (Operand first))
read_start first = record {
  good = record { is_good = tt; right = RightOperand first; fits = tt };
  leaf_now = (first, refl);
  begins = refl;
  goes_on = refl;
}

fits_leaf : (op : Operator) (t : OpTree) (e : Expr) → t ≡ Operand e → fits_left op t ≡ true
fits_leaf op t e h = ap (fits_left op) h

good_push : (s : List (OpTree × Operator)) (t : OpTree) (op : Operator) (e : Expr) → GoodBefore op s t → clashes_on s op.fixity ≡ false → Good ((t, op) ∷ s) (Operand e)
good_push s t op e h k = record { is_good = (h.good.right, h.left, no_clash_fits s k, h.good.is_good); right = RightOperand e; fits = refl }
  where
    no_clash_fits : (s : List (OpTree × Operator)) → clashes_on s op.fixity ≡ false → FitsOperator s op
    no_clash_fits [] k = tt
    no_clash_fits (p ∷ s) k = negated (goes_right p.1.fixity op.fixity) k
      where
        negated : (b : Bool) → not b ≡ false → b ≡ true
        negated true h = refl
        negated false h = cc

read_put : (first : Expr) (ps : List (Operator × Expr)) (s : State OpTree) (op : Operator) (e : Expr) → Read first ps s → clashes_on (kept op.fixity s.open_ones) op.fixity ≡ false
    → Read first (ps ++ (op, e) ∷ []) (put Operation s op (Operand e))
read_put first ps s op e r k =
    let t = closed Operation op.fixity s.open_ones s.now in
    let longer : Longer (whole (kept op.fixity s.open_ones) t) (whole (kept op.fixity s.open_ones) (Operation op t (Operand e))) ((op, e) ∷ []) =
    whole_longer (kept op.fixity s.open_ones) t (Operation op t (Operand e)) ((op, e) ∷ []) (record { begins = refl; goes_on = refl }) in
    record {
      good = good_push (kept op.fixity s.open_ones) t op e (closes_well op s.open_ones s.now r.good (fits_leaf op s.now r.leaf_now.0 r.leaf_now.1)) k;
      leaf_now = (e, refl);
      begins = longer.begins ∙ ap first_operand (closed_whole op.fixity s.open_ones s.now) ∙ r.begins;
      goes_on = longer.goes_on ∙ ap (λ x. others x ++ (op, e) ∷ []) (closed_whole op.fixity s.open_ones s.now) ∙ ap (λ x. x ++ (op, e) ∷ []) r.goes_on;
    }

read_groups : (first : Expr) (ps : List (Operator × Expr)) (s : State OpTree) → Read first ps s → Groups first ps (whole s.open_ones s.now)
read_groups first ps s r = record { right = all_closed s.open_ones s.now r.good; begins = r.begins; goes_on = r.goes_on }

-- a clash that is known stays known
stays : (s : State OpTree) (first : Operator) (ps : List (Operator × OpTree)) → s.clash ≡ Some first → (reads Operation s ps).clash ≡ Some first
stays s first [] h = h
stays s first (p ∷ ps) h = stays (put Operation s p.0 p.1) first ps (ap (λ c. clash_of c (clashes_on (kept p.0.fixity s.open_ones) p.0.fixity) p.0) h)

-- Below, what a whole run is read as: the run that was read before, and what is left.

record Sound (first : Expr) (before rest : List (Operator × Expr)) (s : State OpTree) : Type 0 where
  good : s.clash ≡ None → Groups first (before ++ rest) (whole s.open_ones s.now)
  first_one : (op : Operator) → s.clash ≡ Some op → IsFirstClash first (before ++ rest) op

sound_clash : (first : Expr) (before after : List (Operator × Expr)) (s : State OpTree) (op : Operator) (e : Expr) → Read first before s → s ≡ reads Operation (start (Operand first)) (leaves before) → s.clash ≡ None
    → clashes_on (kept op.fixity s.open_ones) op.fixity ≡ true → IsFirstClash first (before ++ (op, e) ∷ after) op
sound_clash first before after s op e r h n k = record {
  before = before;
  operand = e;
  after = after;
  split = refl;
  good_before = (whole s.open_ones s.now, read_groups first before s r);
  none = λ t g. none_left (ap (λ x. x.clash) (complete first (before ++ (op, e) ∷ []) t g));
}
  where
    told : (reads Operation (start (Operand first)) (leaves (before ++ (op, e) ∷ []))).clash ≡ Some op
    told = ap (λ x. (reads Operation (start (Operand first)) x).clash) (leaves_append before ((op, e) ∷ []))
        ∙ ap (λ x. x.clash) (reads_append (start (Operand first)) (leaves before) (leaves ((op, e) ∷ [])))
        ∙ ap (λ x. (put Operation x op (Operand e)).clash) (sym h)
        ∙ (λ i. clash_of (n i) (k i) op)

    none_left : (reads Operation (start (Operand first)) (leaves (before ++ (op, e) ∷ []))).clash ≡ None → ⊥
    none_left e0 = let d : Some op ≡ None = sym told ∙ e0 in cc

sound : (first : Expr) (before rest : List (Operator × Expr)) (s : State OpTree) → Read first before s → s ≡ reads Operation (start (Operand first)) (leaves before) → s.clash ≡ None
    → Sound first before rest (reads Operation s (leaves rest))
sound first before [] s r h n = record {
  good = λ _. subst (λ x. Groups first x (whole s.open_ones s.now)) (sym (append-nil before)) (read_groups first before s r);
  first_one = λ op e. let d : Some op ≡ None = sym e ∙ n in cc;
}
sound first before (p ∷ rest) s r h n =
    by_test (clashes_on (kept p.0.fixity s.open_ones) p.0.fixity) refl
    (λ e. sound first (before ++ (p.0, p.1) ∷ []) rest (put Operation s p.0 (Operand p.1)) (read_put first before s p.0 p.1 r e)
    (ap (λ x. put Operation x p.0 (Operand p.1)) h ∙ sym (reads_append (start (Operand first)) (leaves before) (leaves (p ∷ []))) ∙ ap (reads Operation (start (Operand first))) (sym (leaves_append before (p ∷ []))))
    (λ j. clash_of (n j) (e j) p.0))
  where
    same_some : {x y : Operator} → Some x ≡ Some y → x ≡ y
    same_some q = cc

    by_test : (b : Bool) → clashes_on (kept p.0.fixity s.open_ones) p.0.fixity ≡ b
        → (clashes_on (kept p.0.fixity s.open_ones) p.0.fixity ≡ false → Sound first (before ++ p ∷ []) rest (reads Operation (put Operation s p.0 (Operand p.1)) (leaves rest)))
        → Sound first before (p ∷ rest) (reads Operation (put Operation s p.0 (Operand p.1)) (leaves rest))
    by_test true e k =
        let told : (reads Operation (put Operation s p.0 (Operand p.1)) (leaves rest)).clash ≡ Some p.0 = stays (put Operation s p.0 (Operand p.1)) p.0 (leaves rest) (λ i. clash_of (n i) (e i) p.0) in
        record {
          good = λ c. let d : Some p.0 ≡ None = sym told ∙ c in cc;
          first_one = λ op c. let d : p.0 ≡ op = same_some (sym told ∙ c) in subst (λ x. IsFirstClash first (before ++ p ∷ rest) x) d (sound_clash first before rest s p.0 p.1 r h n e);
        }
    by_test false e k =
        let i : Sound first (before ++ p ∷ []) rest (reads Operation (put Operation s p.0 (Operand p.1)) (leaves rest)) = k e in
        let a : (before ++ p ∷ []) ++ rest ≡ before ++ p ∷ rest = append_assoc before (p ∷ []) rest in
        record {
          good = λ c. subst (λ x. Groups first x (whole (reads Operation (put Operation s p.0 (Operand p.1)) (leaves rest)).open_ones (reads Operation (put Operation s p.0 (Operand p.1)) (leaves rest)).now)) a (i.good c);
          first_one = λ op c. subst (λ x. IsFirstClash first x op) a (i.first_one op c);
        }

-- Below, the reading of expressions is that of trees.

abbrev seen : OpTree × Operator → Expr × Operator
seen p = (expr_of p.0, p.1)

abbrev seen_state : State OpTree → State Expr
seen_state s = record { open_ones = map seen s.open_ones; now = expr_of s.now; clash = s.clash }

kept_seen : (f : Fixity) (s : List (OpTree × Operator)) → kept f (map seen s) ≡ map seen (kept f s)
kept_seen f [] = refl
kept_seen f (p ∷ s) = by_test (goes_left p.1.fixity f) (kept_seen f s)
  where
    by_test : (b : Bool) → kept f (map seen s) ≡ map seen (kept f s) → cond b (kept f (map seen s)) (seen p ∷ map seen s) ≡ map seen (cond b (kept f s) (p ∷ s))
    by_test true k = k
    by_test false k = refl

closed_seen : (f : Fixity) (s : List (OpTree × Operator)) (t : OpTree) → closed operator_applied f (map seen s) (expr_of t) ≡ expr_of (closed Operation f s t)
closed_seen f [] t = refl
closed_seen f (p ∷ s) t = by_test (goes_left p.1.fixity f) (closed_seen f s (Operation p.1 p.0 t))
  where
    by_test : (b : Bool) → closed operator_applied f (map seen s) (operator_applied p.1 (expr_of p.0) (expr_of t)) ≡ expr_of (closed Operation f s (Operation p.1 p.0 t))
        → cond b (closed operator_applied f (map seen s) (operator_applied p.1 (expr_of p.0) (expr_of t))) (expr_of t) ≡ expr_of (cond b (closed Operation f s (Operation p.1 p.0 t)) t)
    by_test true k = k
    by_test false k = refl

closed_all_seen : (s : List (OpTree × Operator)) (t : OpTree) → closed_all operator_applied (map seen s) (expr_of t) ≡ expr_of (closed_all Operation s t)
closed_all_seen [] t = refl
closed_all_seen (p ∷ s) t = closed_all_seen s (Operation p.1 p.0 t)

clashes_seen : (f : Fixity) (s : List (OpTree × Operator)) → clashes_on (map seen s) f ≡ clashes_on s f
clashes_seen f [] = refl
clashes_seen f (p ∷ s) = refl

put_seen : (s : State OpTree) (op : Operator) (e : Expr) → put operator_applied (seen_state s) op e ≡ seen_state (put Operation s op (Operand e))
put_seen s op e =
    let k = kept_seen op.fixity s.open_ones in
    let c = closed_seen op.fixity s.open_ones s.now in
    let n : clashes_on (kept op.fixity (map seen s.open_ones)) op.fixity ≡ clashes_on (kept op.fixity s.open_ones) op.fixity = ap (λ x. clashes_on x op.fixity) k ∙ clashes_seen op.fixity (kept op.fixity s.open_ones) in
    λ i. record { open_ones = (c i, op) ∷ k i; now = e; clash = clash_of s.clash (n i) op }

reads_seen : (s : State OpTree) (ps : List (Operator × Expr)) → reads operator_applied (seen_state s) ps ≡ seen_state (reads Operation s (leaves ps))
reads_seen s [] = refl
reads_seen s (p ∷ ps) = ap (λ x. reads operator_applied x ps) (put_seen s p.0 p.1) ∙ reads_seen (put Operation s p.0 (Operand p.1)) ps

grouped_seen : (first : Expr) (rest : List (Operator × Expr)) → grouped first rest ≡ seen_state (grouped_tree first rest)
grouped_seen first rest =
    let r = reads Operation (start (Operand first)) (leaves rest) in
    ap (ended operator_applied) (reads_seen (start (Operand first)) rest) ∙ (λ i. record { open_ones = []; now = closed_all_seen r.open_ones r.now i; clash = r.clash })

whole_run : (first : Expr) (rest : List (Operator × Expr)) → Sound first [] rest (reads Operation (start (Operand first)) (leaves rest))
whole_run first rest = sound first [] rest (start (Operand first)) (read_start first) refl refl

-- without a clash the run groups, and the expression is what it groups to
pub grouped_right : (first : Expr) (rest : List (Operator × Expr)) (tree : Expr) (clash : Option Operator) → tree ≡ (grouped first rest).now → clash ≡ (grouped first rest).clash → clash ≡ None → (t : OpTree) × Groups first rest t × (tree ≡ expr_of t)
grouped_right first rest tree clash h k n =
    let e = grouped_seen first rest in
    let r = reads Operation (start (Operand first)) (leaves rest) in
    (whole r.open_ones r.now, (whole_run first rest).good (sym (k ∙ ap (λ x. x.clash) e) ∙ n), h ∙ ap (λ x. x.now) e)

-- what a run groups to is answered
pub grouped_only : (first : Expr) (rest : List (Operator × Expr)) (tree : Expr) (clash : Option Operator) → tree ≡ (grouped first rest).now → clash ≡ (grouped first rest).clash → (t : OpTree) → Groups first rest t → (clash ≡ None) × (tree ≡ expr_of t)
grouped_only first rest tree clash h k t g =
    let e : grouped first rest ≡ seen_state (at [] t) = grouped_seen first rest ∙ ap seen_state (complete first rest t g) in
    (k ∙ ap (λ x. x.clash) e, h ∙ ap (λ x. x.now) e)

-- a clash is the first one
pub grouped_clash : (first : Expr) (rest : List (Operator × Expr)) (clash : Option Operator) → clash ≡ (grouped first rest).clash → (op : Operator) → clash ≡ Some op → IsFirstClash first rest op
grouped_clash first rest clash k op n = (whole_run first rest).first_one op (sym (k ∙ ap (λ x. x.clash) (grouped_seen first rest)) ∙ n)
