-- Taking in equations keeps the solutions that make them true, and no others; a type that is put changes none.
use Rattle.std.proofs.Common.{◌≡◌, ℕ, zero, suc, ◌+◌, ◌<◌, ◌⊎◌, ◌↔◌, inl, inr, List, [], ◌∷◌, ◌++◌, length, Bool, true, false, MatchBool, sym, refl, ap, ◌∙◌, subst, arith, ⊎_elim, length-append, get_or-set_other, append-nil}
use Rattle.std.proofs.lemmas.List.{get_or_append_left, get_or_push, get_or_past}
use Rattle.std.proofs.lemmas.Bool.{cases_eq, cases_lt}
use Rattle.hb_types.specs.declared.table.Form.{Form}
use Rattle.hb_types.specs.declared.table.Form.TheVariants as form
use Rattle.hb_types.specs.declared.atom.Atom.TheVariants as atom
use Rattle.hb_types.specs.Finite.{Finite, Single, Applied}
use Rattle.hb_types.specs.Instance.{instance, values}
use Rattle.hb_types.specs.Types.{Ty, Unknown}
use Rattle.hb_types.specs.Tables.{type_at, built, HasPartsBelow}
use Rattle.hb_types.proofs.TableLemmas.{type_at-left, type_at-last, extends-more}
use Rattle.hb_unknowns.specs.declared.node.Entry.{Entry}
use Rattle.hb_unknowns.specs.declared.node.Node.{Node}
use Rattle.hb_unknowns.specs.declared.node.Node.TheVariants.{Free, Link, Leaf, Apply}
use Rattle.hb_unknowns.specs.declared.node.Pair.{Pair}
use Rattle.hb_unknowns.specs.declared.order.Mark.{Mark}
use Rattle.hb_unknowns.specs.declared.order.Mark.TheVariants.{New}
use Rattle.hb_unknowns.specs.declared.trail.Change.{Change}
use Rattle.hb_unknowns.specs.Joined.{at, entry_at, level_at, free}
use Rattle.hb_unknowns.specs.Graph.{Says, Within, Obeys, IsGraph, Agree, Unified, IsImpossible}
use Rattle.hb_unknowns.specs.Order.{marked, IsPart, Member, AllBelow, AreClear, IsReached}
use Rattle.hb_unknowns.specs.Referred.{flag_at, AreReferred, AreRaised, IsHarmless}
use Rattle.hb_unknowns.specs.Trail.{restored, written_places, AreInside, IsTracked}
use Rattle.hb_unknowns.specs.Equations.{Equations, Solves, IsSound, IsOwn, IsPut, AreEqual, AreEquated, IsEquated, HaveNoSolution, HasNoSolution, IsGrown, IsTaken, equations, node_of}
use Rattle.hb_unknowns.proofs.ReferredLemmas.{referred-taken}
use Rattle.hb_unknowns.proofs.ValueLemmas.{obeys-same}
use Rattle.hb_unknowns.proofs.SolvedLemmas.{AreKept, reached-solved}

pub places-below : (size : ℕ) (cs : List Change) → AreInside size cs → AllBelow size (written_places cs)
places-below size [] h = tt
places-below size (c ∷ cs) h = (h.0, places-below size cs h.1)

-- what was not written is as it was
restored-kept : (cs : List Change) (entries : List Entry) (k : ℕ) → Member k (written_places cs) ⊎ (entry_at entries k ≡ entry_at (restored cs entries) k)
restored-kept [] entries k = inr refl
restored-kept (c ∷ cs) entries k =
    ⊎_elim
    (λ e. inl (inl e))
    (λ n. ⊎_elim
    (λ m. inl (inr m))
    (λ same. inr (same ∙ sym (get_or-set_other (restored cs entries) c.place k c.entry free n)))
    (restored-kept cs entries k))
    (cases_eq k c.place)

pub kept-of : (old new : List Entry) (cs : List Change) → IsTracked old [] new cs → AreKept old new (written_places cs)
kept-of old new cs t k =
    ⊎_elim (λ m. inl m) (λ e. inr (e ∙ ap (λ es. entry_at es k) t.back)) (restored-kept cs new k)

pub taken-end : (ok : Bool) (old new : List Entry) (pending : List Pair) (cs : List Change) → IsGraph old → (v : ℕ → Finite) × Obeys v old → IsTracked old [] new cs → Unified old pending new →
    MatchBool ok (IsReached new (written_places cs)) ((v : ℕ → Finite) → Obeys v new → ⊥) → MatchBool ok (IsTaken old pending new) (IsImpossible old pending)
taken-end true old new pending cs g solved t u r = record {
  graph = u.graph;
  size = u.size;
  same = u.same;
  solution = reached-solved old new (written_places cs) solved.0 g solved.1 (kept-of old new cs t) r;
}
taken-end false old new pending cs g solved t u r = λ v o a. r v ((u.same v).0 (o, a))

-- equations that harm nothing
pub taken-harmless : (old new : List Entry) (pending : List Pair) → (v : ℕ → Finite) × Obeys v old → Unified old pending new → IsHarmless old pending → IsTaken old pending new
taken-harmless old new pending solved u h =
    let now = h solved.0 solved.1 in
    record {
      graph = u.graph;
      size = u.size;
      same = u.same;
      solution = (now.0, (u.same now.0).0 (now.1, now.2));
    }

pub referred-end : (old new : List Entry) (flags now : List Bool) (cs : List Change) → IsTracked old [] new cs → AreReferred old flags → AreRaised flags now →
    ((k p : ℕ) → Member k (written_places cs) → IsPart p (at new k) → flag_at now p ≡ true) → AreReferred new now
referred-end old new flags now cs t r h parts = referred-taken old new flags now (written_places cs) (kept-of old new cs t) t.size r h parts

pub agree-equal : (s : ℕ → Finite) (types : List Ty) (pairs : List Pair) → Agree (values s types) pairs → AreEqual s types pairs
agree-equal s types [] a = tt
agree-equal s types (p ∷ ps) a = (a.0, agree-equal s types ps a.1)

pub equal-agree : (s : ℕ → Finite) (types : List Ty) (pairs : List Pair) → AreEqual s types pairs → Agree (values s types) pairs
equal-agree s types [] a = tt
equal-agree s types (p ∷ ps) a = (a.0, equal-agree s types ps a.1)

-- what obeys the graph solves the equations
pub solves-of : (types : List Ty) (old new : List Entry) (v : ℕ → Finite) → IsSound (equations types old) → IsGraph new → length new ≡ length old → Obeys v old → Obeys v new → Obeys (values v types) new
solves-of types old new v g graph size o p = obeys-same v (values v types) new graph (λ j h. sym (g.means v o j (omega (arith, h, g.size, size)))) p

all-equated : (types : List Ty) (entries new : List Entry) (pairs : List Pair) → IsSound (equations types entries) → IsTaken entries pairs new → AreEquated (equations types entries) pairs (equations types new)
all-equated types entries new pairs g t = record {
  types = refl;
  same = λ s. (
    λ solves. let back = (t.same (values s types)).1 solves in (back.0, agree-equal s types pairs back.1),
    λ both. (t.same (values s types)).0 (both.0, equal-agree s types pairs both.1),
  );
  solution = (t.solution.0, solves-of types entries new t.solution.0 g t.graph t.size ((t.same t.solution.0).1 t.solution.1).0 t.solution.1);
}

pub equated-of : (state : Equations) (types : List Ty) (entries new : List Entry) (pairs waiting : List Pair) → equations types entries ≡ state → IsSound (equations types entries) → waiting ≡ pairs →
    IsTaken entries waiting new → AreEquated state pairs (equations types new)
equated-of state types entries new pairs waiting e g w t =
    subst (λ (st : Equations). AreEquated st pairs (equations types new)) e (all-equated types entries new pairs g (subst (λ ps. IsTaken entries ps new) w t))

pub equated-one : (old new : Equations) (p : Pair) → AreEquated old (p ∷ []) new → IsEquated old p.left p.right new
equated-one old new p t = record {
  types = t.types;
  same = λ s. ((λ solves. let both = (t.same s).0 solves in (both.0, both.1.0)), λ both. (t.same s).1 (both.0, (both.1, tt)));
  solution = t.solution;
}

pub no-solution : (state : Equations) (types : List Ty) (entries : List Entry) (pairs waiting : List Pair) → equations types entries ≡ state → waiting ≡ pairs → IsImpossible entries waiting → HaveNoSolution state pairs
no-solution state types entries pairs waiting e w none =
    subst (λ (st : Equations). HaveNoSolution st pairs) e
    (λ s solves equal. none (values s types) solves (subst (Agree (values s types)) (sym w) (equal-agree s types pairs equal)))

pub no-solution-one : (state : Equations) (p : Pair) → HaveNoSolution state (p ∷ []) → HasNoSolution state p.left p.right
no-solution-one state p none s solves equal = none s solves (equal, tt)

pub sound-taken : (types : List Ty) (entries new : List Entry) (pairs : List Pair) → IsSound (equations types entries) → IsTaken entries pairs new → IsSound (equations types new)
sound-taken types entries new pairs g t = record {
  graph = t.graph;
  size = g.size ∙ sym t.size;
  means = λ v o k h. g.means v ((t.same v).1 o).0 k h;
  solution = t.solution;
  own = g.own;
}

-- one more entry
entry : Node → ℕ → Entry
entry node level = record { node = node; level = level }

at_left : (entries : List Entry) (q : Entry) (k : ℕ) → k < length entries → entry_at (entries ++ q ∷ []) k ≡ entry_at entries k
at_left entries q k h = get_or_append_left entries (q ∷ []) free k h

at_end : (entries : List Entry) (q : Entry) → entry_at (entries ++ q ∷ []) (length entries) ≡ q
at_end entries q = get_or_push entries q free (length entries) refl

at_past : (entries : List Entry) (q : Entry) (k : ℕ) → length entries < k → entry_at (entries ++ q ∷ []) k ≡ free
at_past entries q k h = get_or_past (entries ++ q ∷ []) k free (omega (arith, length-append entries (q ∷ [])))

by_place : (P : ℕ → Entry → Type 0) (entries : List Entry) (q : Entry) → ((k : ℕ) → k < length entries → P k (entry_at entries k)) → P (length entries) q →
    ((k : ℕ) → length entries < k → P k free) → (k : ℕ) → P k (entry_at (entries ++ q ∷ []) k)
by_place P entries q left here past k =
    ⊎_elim
    (λ lt. subst (P k) (sym (at_left entries q k lt)) (left k lt))
    (λ ge. ⊎_elim
    (λ e. subst (λ (j : ℕ). P j (entry_at (entries ++ q ∷ []) j)) (sym e) (subst (P (length entries)) (sym (at_end entries q)) here))
    (λ ne. let gt : length entries < k = omega (arith, ge, ne) in subst (P k) (sym (at_past entries q k gt)) (past k gt))
    (cases_eq k (length entries)))
    (cases_lt k (length entries))

within-longer : (entries : List Entry) (q : Entry) (k : ℕ) (n : Node) → k < length entries → Within entries k n → Within (entries ++ q ∷ []) k n
within-longer entries q k Free h w = tt
within-longer entries q k (Link j) h w =
    let one : level_at (entries ++ q ∷ []) j ≡ level_at entries j = ap (λ (e : Entry). e.level) (at_left entries q j w.0) in
    let two : level_at (entries ++ q ∷ []) k ≡ level_at entries k = ap (λ (e : Entry). e.level) (at_left entries q k h) in (
      omega (arith, w.0, length-append entries (q ∷ [])),
      ⊎_elim (λ l. inl (omega (arith, l, one, two))) (λ b. inr (one ∙ b.0 ∙ sym two, b.1)) w.1,
    )
within-longer entries q k (Leaf a) h w = tt
within-longer entries q k (Apply f x) h w = (omega (arith, w.0, length-append entries (q ∷ [])), omega (arith, w.1, length-append entries (q ∷ [])))

within-form : (entries : List Entry) (q : Entry) (n : Form) → HasPartsBelow (length entries) n → Within (entries ++ q ∷ []) (length entries) (node_of n)
within-form entries q (form.Unknown n) h = tt
within-form entries q (form.Leaf a) h = tt
within-form entries q (form.Apply f x) h = (omega (arith, h.0, length-append entries (q ∷ [])), omega (arith, h.1, length-append entries (q ∷ [])))

graph-put : (entries : List Entry) (n : Form) (level : ℕ) → IsGraph entries → HasPartsBelow (length entries) n → IsGraph (entries ++ record { node = node_of n; level = level } ∷ [])
graph-put entries n level g h =
    let q : Entry = record { node = node_of n; level = level } in
    record {
      inside = by_place (λ k e. Within (entries ++ record { node = node_of n; level = level } ∷ []) k e.node) entries (record { node = node_of n; level = level })
          (λ k lt. within-longer entries (record { node = node_of n; level = level }) k (at entries k) lt (g.inside k))
          (within-form entries (record { node = node_of n; level = level }) n h)
          (λ k gt. tt);
    }

obeys-left : (v : ℕ → Finite) (entries : List Entry) (q : Entry) → Obeys v (entries ++ q ∷ []) → Obeys v entries
obeys-left v entries q o = record {
  each = λ k. ⊎_elim
      (λ lt. subst (λ (e : Entry). Says v (v k) e.node) (at_left entries q k lt) (o.each k))
      (λ ge. subst (λ (e : Entry). Says v (v k) e.node) (sym (get_or_past entries k free ge)) tt)
      (cases_lt k (length entries));
}

obeys-more : (v : ℕ → Finite) (entries : List Entry) (q : Entry) → Obeys v entries → Says v (v (length entries)) q.node → Obeys v (entries ++ q ∷ [])
obeys-more v entries q o s = record { each = by_place (λ k e. Says v (v k) e.node) entries q (λ k lt. o.each k) s (λ k gt. tt) }

says-built : (s : ℕ → Finite) (types more : List Ty) (t : Finite) (n : Form) → HasPartsBelow (length types) n → ((k : ℕ) → k < length types → type_at more k ≡ type_at types k) →
    t ≡ instance s (built types n) → Says (values s more) t (node_of n)
says-built s types more t (form.Unknown n) h e q = tt
says-built s types more t (form.Leaf a) h e q = q
says-built s types more t (form.Apply f x) h e q =
    q ∙ ap (λ u. Applied (instance s u) (instance s (type_at types x))) (sym (e f h.0)) ∙ ap (λ u. Applied (instance s (type_at more f)) (instance s u)) (sym (e x h.1))

built-says : (v : ℕ → Finite) (types : List Ty) (place : ℕ) (n : Form) → HasPartsBelow place n → IsOwn place n → ((k : ℕ) → k < place → v k ≡ instance v (type_at types k)) →
    Says v (v place) (node_of n) → v place ≡ instance v (built types n)
built-says v types place (form.Unknown n) h own e s = ap v (sym own)
built-says v types place (form.Leaf a) h own e s = s
built-says v types place (form.Apply f x) h own e s = s ∙ ap (λ u. Applied u (v x)) (e f h.0) ∙ ap (λ u. Applied (instance v (type_at types f)) u) (e x h.1)

own-built : (types : List Ty) (place m : ℕ) (n : Form) → IsOwn place n → built types n ≡ Unknown m → m ≡ place
own-built types place m (form.Unknown n) own e = let same : n ≡ m = cc in sym same ∙ own
own-built types place m (form.Leaf a) own e = absurd (cc)
own-built types place m (form.Apply f x) own e = absurd (cc)

record IsAdded (types : List Ty) (entries : List Entry) (n : Form) (level : ℕ) : Type 0 where
  pub sound : IsSound (equations (types ++ built types n ∷ []) (entries ++ record { node = node_of n; level = level } ∷ []))
  pub same : (s : ℕ → Finite) → Solves s (equations (types ++ built types n ∷ []) (entries ++ record { node = node_of n; level = level } ∷ [])) ↔ Solves s (equations types entries)

added-same : (types : List Ty) (entries : List Entry) (n : Form) (level : ℕ) → IsSound (equations types entries) → HasPartsBelow (length types) n → (s : ℕ → Finite) →
    Solves s (equations (types ++ built types n ∷ []) (entries ++ record { node = node_of n; level = level } ∷ [])) ↔ Solves s (equations types entries)
added-same types entries n level g h s =
    let more : List Ty = types ++ built types n ∷ [] in
    let left : (k : ℕ) → k < length types → type_at (types ++ built types n ∷ []) k ≡ type_at types k = λ k lt. type_at-left types (built types n) k lt in (
      λ solves.
          obeys-same (values s (types ++ built types n ∷ [])) (values s types) entries g.graph
          (λ j lt. ap (instance s) (sym (left j (omega (arith, lt, g.size)))))
          (obeys-left (values s (types ++ built types n ∷ [])) entries (record { node = node_of n; level = level }) solves),
      λ solves.
          obeys-more (values s (types ++ built types n ∷ [])) entries (record { node = node_of n; level = level })
          (obeys-same (values s types) (values s (types ++ built types n ∷ [])) entries g.graph (λ j lt. ap (instance s) (left j (omega (arith, lt, g.size)))) solves)
          (says-built s types (types ++ built types n ∷ []) (values s (types ++ built types n ∷ []) (length entries)) n h left
          (ap (instance s) (type_at-last types (built types n) (length entries) (sym g.size)))),
    )

added : (types : List Ty) (entries : List Entry) (n : Form) (level : ℕ) → IsSound (equations types entries) → HasPartsBelow (length types) n → IsOwn (length types) n → IsAdded types entries n level
added types entries n level g h own =
    let old = solves-of types entries entries g.solution.0 g g.graph refl g.solution.1 g.solution.1 in
    record {
      sound = record {
        graph = graph-put entries n level g.graph (subst (λ (k : ℕ). HasPartsBelow k n) g.size h);
        size = length-append types (built types n ∷ []) ∙ ap (λ (k : ℕ). k + 1) g.size ∙ sym (length-append entries (record { node = node_of n; level = level } ∷ []));
        means = λ v o k lt.
            let before : (j : ℕ) → j < length types → v j ≡ instance v (type_at types j) = λ j l. g.means v (obeys-left v entries (record { node = node_of n; level = level }) o) j l in
            ⊎_elim
            (λ less. before k less ∙ ap (instance v) (sym (type_at-left types (built types n) k less)))
            (λ ge.
            let last : k ≡ length types = omega (arith, lt, ge, length-append types (built types n ∷ [])) in
            let end : length types ≡ length entries = g.size in
            let said : Says v (v (length types)) (node_of n) =
            subst (λ (j : ℕ). Says v (v j) (node_of n)) (sym g.size)
            (subst (λ (e : Entry). Says v (v (length entries)) e.node) (at_end entries (record { node = node_of n; level = level })) (o.each (length entries))) in
            ap v last ∙ built-says v types (length types) n h own before said ∙ ap (instance v) (sym (type_at-last types (built types n) k last)))
            (cases_lt k (length types));
        solution = (values g.solution.0 (types ++ built types n ∷ []), (added-same types entries n level g h g.solution.0).1 old);
        own = λ k m lt u.
            ⊎_elim
            (λ less. g.own k m less (sym (type_at-left types (built types n) k less) ∙ u))
            (λ ge.
            let last : k ≡ length types = omega (arith, lt, ge, length-append types (built types n ∷ [])) in
            own-built types (length types) m n own (sym (type_at-last types (built types n) k last) ∙ u) ∙ sym last)
            (cases_lt k (length types));
      };
      same = λ s. added-same types entries n level g h s;
    }

marked-push : (marks : List Mark) → ((k : ℕ) → marked marks k ≡ New) → (k : ℕ) → marked (marks ++ New ∷ []) k ≡ New
marked-push [] h zero = refl
marked-push [] h (suc k) = refl
marked-push (m ∷ ms) h zero = h 0
marked-push (m ∷ ms) h (suc k) = marked-push ms (λ j. h (suc j)) k

pub clear-push : (entries : List Entry) (marks : List Mark) (q : Entry) → AreClear entries marks → AreClear (entries ++ q ∷ []) (marks ++ New ∷ [])
clear-push entries marks q c = record {
  size = length-append marks (New ∷ []) ∙ ap (λ (k : ℕ). k + 1) c.size ∙ sym (length-append entries (q ∷ []));
  new = marked-push marks c.new;
}

pub clear-size : (old new : List Entry) (marks : List Mark) → length new ≡ length old → AreClear old marks → AreClear new marks
clear-size old new marks e c = record { size = c.size ∙ sym e; new = c.new }

pub sound-put : (types new_types : List Ty) (entries new_entries : List Entry) (n : Form) (node : Node) (level : ℕ) → IsSound (equations types entries) → node ≡ node_of n →
    new_types ≡ types ++ built types n ∷ [] → new_entries ≡ entries ++ record { node = node; level = level } ∷ [] → HasPartsBelow (length types) n → IsOwn (length types) n →
    IsSound (equations new_types new_entries)
sound-put types new_types entries new_entries n node level g e p q h own = rw (p, q, e) (added types entries n level g h own).sound

pub put-of : (state : Equations) (types new_types : List Ty) (entries new_entries : List Entry) (n : Form) (node : Node) (level place : ℕ) → equations types entries ≡ state →
    IsSound (equations types entries) → node ≡ node_of n → new_types ≡ types ++ built types n ∷ [] → new_entries ≡ entries ++ record { node = node; level = level } ∷ [] → place ≡ length types →
    HasPartsBelow (length types) n → IsOwn (length types) n → IsPut state (equations new_types new_entries) (built state.types n) place
put-of state types new_types entries new_entries n node level place s g e p q at h own =
    subst (λ (st : Equations). IsPut st (equations new_types new_entries) (built st.types n) place) s
    (record { next = at; types = p; same = rw (p, q, e) (added types entries n level g h own).same })

-- types that are put one after another
pub grown-same : (old new : Equations) → new ≡ old → IsGrown old new
grown-same old new e = rw e (record { types = ([], sym (append-nil old.types)); same = λ s. (λ h. h, λ h. h) })

pub grown-put : (old new : Equations) (t : Ty) (place : ℕ) → IsPut old new t place → IsGrown old new
grown-put old new t place p = record { types = (t ∷ [], p.types); same = p.same }

pub grown-more : (a b c : Equations) → IsGrown a b → IsGrown b c → IsGrown a c
grown-more a b c p q = record {
  types = extends-more a.types b.types c.types p.types q.types;
  same = λ s. (λ h. (p.same s).0 ((q.same s).0 h), λ h. (q.same s).1 ((p.same s).1 h));
}

no-form : (k : ℕ) → at [] k ≡ Free
no-form zero = refl
no-form (suc k) = refl

pub sound-none : (types : List Ty) (entries : List Entry) → types ≡ [] → entries ≡ [] → IsSound (equations types entries)
sound-none types entries e f = rw (e, f) (record {
  graph = record { inside = λ k. tt };
  size = refl;
  means = λ v o k h. absurd (omega (arith, h));
  solution = ((λ k. Single (atom.Nat 0)), record { each = λ k. tt });
  own = λ k n h u. absurd (omega (arith, h));
})

pub clear-none : (entries : List Entry) (marks : List Mark) → entries ≡ [] → marks ≡ [] → AreClear entries marks
clear-none entries marks e f = rw (e, f) (record { size = refl; new = λ k. refl })
