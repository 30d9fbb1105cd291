-- Equations have a general solution, which the closure forces, or the closure clashes.
use Rattle.std.proofs.Common.{◌≡◌, ◌≢◌, ℕ, zero, suc, ◌+◌, ◌<◌, ◌≤◌, ◌==◌, ◌⊎◌, inl, inr, List, [], ◌∷◌, length, Bool, true, false, cond, sym, refl, ap, ◌∙◌, subst, arith, ⊎_elim, eq-eqb}
use Rattle.std.proofs.lemmas.Bool.{cases_eq}
use Rattle.std.proofs.lemmas.Bool.Decides.{nat_tests}
use Rattle.hb_types.specs.declared.atom.Atom.{Atom}
use Rattle.hb_types.specs.declared.atom.Atom.TheVariants.{Var, Con, Nat}
use Rattle.hb_types.specs.Finite.{Finite, Single, Applied}
use Rattle.hb_types.specs.Types.{Ty, Unknown, Leaf, Apply}
use Rattle.hb_types.specs.Instance.{instance, EachUnknown}
use Rattle.hb_types.specs.Closure.{Equation, Each, Solves, IsAmong, Closure, given, same, turn, join, build, function, argument, IsClosed, IsPart, Clashes, applied, General}
use Rattle.hb_types.proofs.ClosureLemmas.{applied-applied, applied-forced, general-agree, general-closed, general-solves, closure-closed, closed_agree, clash_unsolved}

atom-cases : (a b : Atom) → (a ≡ b) ⊎ (a ≡ b → ⊥)
atom-cases (Var n) (Var m) = ⊎_elim (λ e. inl (ap Var e)) (λ d. inr (λ e. d (cc))) (cases_eq n m)
atom-cases (Var n) (Con m) = inr (λ e. cc)
atom-cases (Var n) (Nat m) = inr (λ e. cc)
atom-cases (Con n) (Var m) = inr (λ e. cc)
atom-cases (Con n) (Con m) = ⊎_elim (λ e. inl (ap Con e)) (λ d. inr (λ e. d (cc))) (cases_eq n m)
atom-cases (Con n) (Nat m) = inr (λ e. cc)
atom-cases (Nat n) (Var m) = inr (λ e. cc)
atom-cases (Nat n) (Con m) = inr (λ e. cc)
atom-cases (Nat n) (Nat m) = ⊎_elim (λ e. inl (ap Nat e)) (λ d. inr (λ e. d (cc))) (cases_eq n m)

-- lists of the unknowns that are still open
Member : ℕ → List ℕ → Type 0
Member n [] = ⊥
Member n (m ∷ ms) = (n ≡ m) ⊎ Member n ms

remove : ℕ → List ℕ → List ℕ
remove n [] = []
remove n (m ∷ ms) = cond (m == n) (remove n ms) (m ∷ remove n ms)

length-cond : (b : Bool) (m : ℕ) (ms : List ℕ) → length (cond b ms (m ∷ ms)) ≤ length ms + 1
length-cond true m ms = omega arith
length-cond false m ms = omega arith

remove-le : (n : ℕ) (ms : List ℕ) → length (remove n ms) ≤ length ms
unfolding remove
remove-le n [] = omega arith
remove-le n (m ∷ ms) = omega (arith, length-cond (m == n) m (remove n ms), remove-le n ms)

remove-less : (n : ℕ) (ms : List ℕ) → Member n ms → length (remove n ms) < length ms
unfolding remove Member
remove-less n [] h = absurd h
remove-less n (m ∷ ms) h =
    ⊎_elim
    (λ e.
    let here : (m == n) ≡ true = eq-eqb m n (sym e) in
    let same : length (cond (m == n) (remove n ms) (m ∷ remove n ms)) ≡ length (remove n ms) = ap (λ (b : Bool). length (cond b (remove n ms) (m ∷ remove n ms))) here in
    omega (arith, same, remove-le n ms))
    (λ r. omega (arith, length-cond (m == n) m (remove n ms), remove-less n ms r))
    h

differs : (k n : ℕ) → k ≢ n → (k == n) ≡ false
differs k n d = grind (arith, nat_tests)

member-cond : (b : Bool) (k m : ℕ) (ms : List ℕ) → Member k ms → Member k (cond b ms (m ∷ ms))
unfolding Member
member-cond true k m ms h = h
member-cond false k m ms h = inr h

member-remove : (n k : ℕ) (ms : List ℕ) → Member k ms → k ≢ n → Member k (remove n ms)
unfolding remove Member
member-remove n k [] h d = h
member-remove n k (m ∷ ms) h d =
    ⊎_elim
    (λ e.
    let here : (m == n) ≡ false = differs m n (λ q. d (e ∙ q)) in
    subst (λ (b : Bool). Member k (cond b (remove n ms) (m ∷ remove n ms))) (sym here) (inl e))
    (λ r. member-cond (m == n) k m (remove n ms) (member-remove n k ms r d))
    h

each-map : (P Q : ℕ → Type 0) (t : Ty) → ((n : ℕ) → P n → Q n) → EachUnknown P t → EachUnknown Q t
each-map P Q (Unknown n) h e = h n e
each-map P Q (Leaf a) h e = tt
each-map P Q (Apply f x) h e = (each-map P Q f h e.0, each-map P Q x h e.1)

each-both : (P Q : ℕ → Type 0) (t : Ty) → EachUnknown P t → EachUnknown Q t → EachUnknown (λ n. P n × Q n) t
each-both P Q (Unknown n) e f = (e, f)
each-both P Q (Leaf a) e f = tt
each-both P Q (Apply g x) e f = (each-both P Q g e.0 f.0, each-both P Q x e.1 f.1)

each-applied : (P Q : ℕ → Type 0) (σ : ℕ → Ty) (t : Ty) → ((n : ℕ) → P n → EachUnknown Q (σ n)) → EachUnknown P t → EachUnknown Q (applied σ t)
each-applied P Q σ (Unknown n) h e = h n e
each-applied P Q σ (Leaf a) h e = tt
each-applied P Q σ (Apply f x) h e = (each-applied P Q σ f h e.0, each-applied P Q σ x h e.1)

abbrev AllIn : List ℕ → List Equation → Type 0
AllIn vs es = Each (λ t u. EachUnknown (λ n. Member n vs) t × EachUnknown (λ n. Member n vs) u) es

-- the unknown n is the type, a part of it, or not in it
occurs : (n : ℕ) (t : Ty) → ((t ≡ Unknown n) ⊎ IsPart (Unknown n) t) ⊎ EachUnknown (λ m. m ≢ n) t
occurs n (Unknown m) = ⊎_elim (λ e. inl (inl (ap Unknown e))) (λ d. inr d) (cases_eq m n)
occurs n (Leaf a) = inr tt
occurs n (Apply f x) =
    ⊎_elim
    (λ in-f. inl (inr (inl (⊎_elim (λ e. inl (sym e)) (λ p. inr p) in-f))))
    (λ not-f. ⊎_elim
    (λ in-x. inl (inr (inr (⊎_elim (λ e. inl (sym e)) (λ p. inr p) in-x))))
    (λ not-x. inr (not-f, not-x))
    (occurs n x))
    (occurs n f)

-- n bound to t
abbrev bound : ℕ → Ty → ℕ → Ty
bound n t m = cond (m == n) t (Unknown m)

bound-here : (n : ℕ) (t : Ty) → bound n t n ≡ t
bound-here n t = ap (λ (b : Bool). cond b t (Unknown n)) (eq-eqb n n refl)

bound-other : (n m : ℕ) (t : Ty) → m ≢ n → bound n t m ≡ Unknown m
bound-other n m t d = ap (λ (b : Bool). cond b t (Unknown m)) (differs m n d)

bound-absent : (n : ℕ) (t u : Ty) → EachUnknown (λ m. m ≢ n) u → applied (bound n t) u ≡ u
bound-absent n t (Unknown m) d = bound-other n m t d
bound-absent n t (Leaf a) d = refl
bound-absent n t (Apply f x) d = ap (λ v. Apply v (applied (bound n t) x)) (bound-absent n t f d.0) ∙ ap (λ v. Apply f v) (bound-absent n t x d.1)

bound-forced : (R : Ty → Ty → Type 0) → IsClosed R → (n : ℕ) (t : Ty) → R (Unknown n) t → (m : ℕ) → R (Unknown m) (bound n t m)
bound-forced R c n t r m =
    ⊎_elim
    (λ e. subst (λ (k : ℕ). R (Unknown k) (bound n t k)) (sym e) (subst (R (Unknown n)) (sym (bound-here n t)) r))
    (λ d. subst (R (Unknown m)) (sym (bound-other n m t d)) (c.same (Unknown m)))
    (cases_eq m n)

bound-in : (n : ℕ) (t : Ty) (vs : List ℕ) → EachUnknown (λ m. Member m vs) t → EachUnknown (λ m. m ≢ n) t → (m : ℕ) → Member m vs → EachUnknown (λ k. Member k (remove n vs)) (bound n t m)
bound-in n t vs a d m i =
    ⊎_elim
    (λ e.
    subst (λ (k : ℕ). EachUnknown (λ j. Member j (remove n vs)) (bound n t k)) (sym e)
    (subst (EachUnknown (λ j. Member j (remove n vs))) (sym (bound-here n t))
    (each-map (λ k. Member k vs × (k ≢ n)) (λ k. Member k (remove n vs)) t (λ k both. member-remove n k vs both.0 both.1) (each-both (λ k. Member k vs) (λ k. k ≢ n) t a d))))
    (λ q. subst (EachUnknown (λ j. Member j (remove n vs))) (sym (bound-other n m t q)) (member-remove n m vs i q))
    (cases_eq m n)

abbrev equation : Ty → Ty → Equation
equation t u = record { left = t; right = u }

replaced : (ℕ → Ty) → List Equation → List Equation
replaced σ [] = []
replaced σ (e ∷ es) = record { left = applied σ e.left; right = applied σ e.right } ∷ replaced σ es

replaced-in : (n : ℕ) (t : Ty) (vs : List ℕ) (es : List Equation) → EachUnknown (λ m. Member m vs) t → EachUnknown (λ m. m ≢ n) t → AllIn vs es → AllIn (remove n vs) (replaced (bound n t) es)
unfolding replaced
replaced-in n t vs [] a d i = tt
replaced-in n t vs (e ∷ es) a d i = (
  (
    each-applied (λ m. Member m vs) (λ m. Member m (remove n vs)) (bound n t) e.left (bound-in n t vs a d) i.0.0,
    each-applied (λ m. Member m vs) (λ m. Member m (remove n vs)) (bound n t) e.right (bound-in n t vs a d) i.0.1,
  ),
  replaced-in n t vs es a d i.1,
)

replaced-each : (R : Ty → Ty → Type 0) → IsClosed R → (σ : ℕ → Ty) → ((n : ℕ) → R (Unknown n) (σ n)) → (es : List Equation) → Each R es → Each R (replaced σ es)
unfolding replaced
replaced-each R c σ h [] r = tt
replaced-each R c σ h (e ∷ es) r = (
  c.join (applied σ e.left) e.left (applied σ e.right) (c.turn e.left (applied σ e.left) (applied-forced R c σ h e.left))
      (c.join e.left e.right (applied σ e.right) r.0 (applied-forced R c σ h e.right)),
  replaced-each R c σ h es r.1,
)

replaced-solves : (σ τ : ℕ → Ty) (es : List Equation) → Each (λ t u. applied σ t ≡ applied σ u) (replaced τ es) → Each (λ t u. applied (λ n. applied σ (τ n)) t ≡ applied (λ n. applied σ (τ n)) u) es
unfolding replaced
replaced-solves σ τ [] h = tt
replaced-solves σ τ (e ∷ es) h = (sym (applied-applied σ τ e.left) ∙ h.0 ∙ applied-applied σ τ e.right, replaced-solves σ τ es h.1)

-- a solution of what is left once n is bound, for all
composed : (R : Ty → Ty → Type 0) → IsClosed R → (n : ℕ) (t : Ty) (es : List Equation) → R (Unknown n) t → EachUnknown (λ m. m ≢ n) t → General R (replaced (bound n t) es) → General R (equation (Unknown n) t ∷ es)
composed R c n t es r d g = record {
  types = λ m. applied g.types (bound n t m);
  forced = λ m. c.join (Unknown m) (bound n t m) (applied g.types (bound n t m)) (bound-forced R c n t r m) (applied-forced R c g.types g.forced (bound n t m));
  solves = (
    ap (applied g.types) (bound-here n t) ∙ ap (applied g.types) (sym (bound-absent n t t d)) ∙ applied-applied g.types (bound n t) t,
    replaced-solves g.types (bound n t) es g.solves,
  );
}

turned : (R : Ty → Ty → Type 0) (t u : Ty) (es : List Equation) → General R (equation t u ∷ es) → General R (equation u t ∷ es)
turned R t u es g = record { types = g.types; forced = g.forced; solves = (sym g.solves.0, g.solves.1) }

idle : (R : Ty → Ty → Type 0) (t u : Ty) (es : List Equation) → t ≡ u → General R es → General R (equation t u ∷ es)
idle R t u es e g = record { types = g.types; forced = g.forced; solves = (ap (applied g.types) e, g.solves) }

apart : (R : Ty → Ty → Type 0) (f g x y : Ty) (es : List Equation) → General R (equation f g ∷ equation x y ∷ es) → General R (equation (Apply f x) (Apply g y) ∷ es)
apart R f g x y es s = record {
  types = s.types;
  forced = s.forced;
  solves = (ap (λ v. Apply v (applied s.types x)) s.solves.0 ∙ ap (λ v. Apply (applied s.types g) v) s.solves.1.0, s.solves.1.1);
}

weight : Ty → ℕ
weight (Unknown n) = 1
weight (Leaf a) = 1
weight (Apply f x) = weight f + weight x + 1

weights : List Equation → ℕ
weights [] = 0
weights (e ∷ es) = weight e.left + weight e.right + weights es

weight-some : (t : Ty) → 0 < weight t
unfolding weight
weight-some (Unknown n) = omega arith
weight-some (Leaf a) = omega arith
weight-some (Apply f x) = omega arith

abbrev Answer : (Ty → Ty → Type 0) → List Equation → Type 0
Answer R es = Clashes R ⊎ General R es

map-answer : (R : Ty → Ty → Type 0) (es fs : List Equation) → (General R es → General R fs) → Answer R es → Answer R fs
map-answer R es fs h a = ⊎_elim (λ c. inl c) (λ g. inr (h g)) a

-- with fewer open unknowns
abbrev Outer : (Ty → Ty → Type 0) → List ℕ → Type 0
Outer R vs = (n : ℕ) → Member n vs → (es : List Equation) → AllIn (remove n vs) es → Each R es → Answer R es

-- with a smaller weight
abbrev Inner : (Ty → Ty → Type 0) → List ℕ → ℕ → Type 0
Inner R vs w = (es : List Equation) → weights es < w → AllIn vs es → Each R es → Answer R es

bind : (R : Ty → Ty → Type 0) → IsClosed R → (vs : List ℕ) → Outer R vs → (w : ℕ) → Inner R vs w → (n : ℕ) (t : Ty) (es : List Equation) → weights es < w → Member n vs →
    EachUnknown (λ m. Member m vs) t → AllIn vs es → R (Unknown n) t → Each R es → Answer R (equation (Unknown n) t ∷ es)
bind R c vs outer w inner n t es l i a b r q =
    ⊎_elim
    (λ found. ⊎_elim
    (λ e. map-answer R es (equation (Unknown n) t ∷ es) (idle R (Unknown n) t es (sym e)) (inner es l b q))
    (λ p. inl (record { left = Unknown n; right = t; equated = r; unlike = inr p }))
    found)
    (λ d. map-answer R (replaced (bound n t) es) (equation (Unknown n) t ∷ es) (composed R c n t es r d)
    (outer n i (replaced (bound n t) es) (replaced-in n t vs es a d b) (replaced-each R c (bound n t) (bound-forced R c n t r) es q)))
    (occurs n t)

step : (R : Ty → Ty → Type 0) → IsClosed R → (vs : List ℕ) → Outer R vs → (w : ℕ) → Inner R vs w → (t u : Ty) (es : List Equation) → weight t + weight u + weights es < w + 1 →
    EachUnknown (λ m. Member m vs) t → EachUnknown (λ m. Member m vs) u → AllIn vs es → R t u → Each R es → Answer R (equation t u ∷ es)
unfolding weight weights
step R c vs outer w inner (Unknown n) u es l a b i r q = bind R c vs outer w inner n u es (omega (arith, l, weight-some u)) a b i r q
step R c vs outer w inner (Leaf p) (Unknown m) es l a b i r q =
    map-answer R (equation (Unknown m) (Leaf p) ∷ es) (equation (Leaf p) (Unknown m) ∷ es) (turned R (Unknown m) (Leaf p) es)
    (bind R c vs outer w inner m (Leaf p) es (omega (arith, l)) b a i (c.turn (Leaf p) (Unknown m) r) q)
step R c vs outer w inner (Leaf p) (Leaf o) es l a b i r q =
    ⊎_elim
    (λ e. map-answer R es (equation (Leaf p) (Leaf o) ∷ es) (idle R (Leaf p) (Leaf o) es (ap Leaf e)) (inner es (omega (arith, l)) i q))
    (λ d. inl (record { left = Leaf p; right = Leaf o; equated = r; unlike = inl d }))
    (atom-cases p o)
step R c vs outer w inner (Leaf p) (Apply g y) es l a b i r q = inl (record { left = Leaf p; right = Apply g y; equated = r; unlike = inl tt })
step R c vs outer w inner (Apply f x) (Unknown m) es l a b i r q =
    map-answer R (equation (Unknown m) (Apply f x) ∷ es) (equation (Apply f x) (Unknown m) ∷ es) (turned R (Unknown m) (Apply f x) es)
    (bind R c vs outer w inner m (Apply f x) es (omega (arith, l)) b a i (c.turn (Apply f x) (Unknown m) r) q)
step R c vs outer w inner (Apply f x) (Leaf o) es l a b i r q = inl (record { left = Apply f x; right = Leaf o; equated = r; unlike = inl tt })
step R c vs outer w inner (Apply f x) (Apply g y) es l a b i r q =
    map-answer R (equation f g ∷ equation x y ∷ es) (equation (Apply f x) (Apply g y) ∷ es) (apart R f g x y es)
    (inner (equation f g ∷ equation x y ∷ es) (omega (arith, l)) ((a.0, b.0), ((a.1, b.1), i)) (c.function f g x y r, (c.argument f g x y r, q)))

within : (R : Ty → Ty → Type 0) → IsClosed R → (vs : List ℕ) → Outer R vs → (w : ℕ) → Inner R vs w
unfolding weights
within R c vs outer zero es l i q = absurd (omega (arith, l))
within R c vs outer (suc w) [] l i q = inr (record { types = Unknown; forced = λ n. c.same (Unknown n); solves = tt })
within R c vs outer (suc w) (e ∷ es) l i q =
    step R c vs outer w (within R c vs outer w) e.left e.right es (omega (arith, l)) i.0.0 i.0.1 i.1 q.0 q.1

all : (R : Ty → Ty → Type 0) → IsClosed R → (k : ℕ) (vs : List ℕ) → length vs < k → (es : List Equation) → AllIn vs es → Each R es → Answer R es
all R c zero vs h es i q = absurd (omega (arith, h))
all R c (suc k) vs h es i q =
    within R c vs (λ n m fs j r. all R c k (remove n vs) (omega (arith, h, remove-less n vs m)) fs j r) (suc (weights es)) es (omega arith) i q

-- all unknowns of the equations
unknowns : Ty → List ℕ → List ℕ
unknowns (Unknown n) vs = n ∷ vs
unknowns (Leaf a) vs = vs
unknowns (Apply f x) vs = unknowns f (unknowns x vs)

unknowns-keep : (t : Ty) (vs : List ℕ) (n : ℕ) → Member n vs → Member n (unknowns t vs)
unfolding unknowns Member
unknowns-keep (Unknown m) vs n h = inr h
unknowns-keep (Leaf a) vs n h = h
unknowns-keep (Apply f x) vs n h = unknowns-keep f (unknowns x vs) n (unknowns-keep x vs n h)

unknowns-all : (t : Ty) (vs : List ℕ) → EachUnknown (λ n. Member n (unknowns t vs)) t
unfolding unknowns Member
unknowns-all (Unknown m) vs = inl refl
unknowns-all (Leaf a) vs = tt
unknowns-all (Apply f x) vs = (
  unknowns-all f (unknowns x vs),
  each-map (λ n. Member n (unknowns x vs)) (λ n. Member n (unknowns f (unknowns x vs))) x (λ n h. unknowns-keep f (unknowns x vs) n h) (unknowns-all x vs),
)

unknowns_of : List Equation → List ℕ
unknowns_of [] = []
unknowns_of (e ∷ es) = unknowns e.left (unknowns e.right (unknowns_of es))

in-more : (vs ws : List ℕ) → ((n : ℕ) → Member n vs → Member n ws) → (es : List Equation) → AllIn vs es → AllIn ws es
in-more vs ws h [] i = tt
in-more vs ws h (e ∷ es) i = (
  (each-map (λ n. Member n vs) (λ n. Member n ws) e.left h i.0.0, each-map (λ n. Member n vs) (λ n. Member n ws) e.right h i.0.1),
  in-more vs ws h es i.1,
)

all-in : (es : List Equation) → AllIn (unknowns_of es) es
unfolding unknowns_of
all-in [] = tt
all-in (e ∷ es) =
    let right : List ℕ = unknowns e.right (unknowns_of es) in (
      (
        unknowns-all e.left (unknowns e.right (unknowns_of es)),
        each-map (λ n. Member n (unknowns e.right (unknowns_of es))) (λ n. Member n (unknowns e.left (unknowns e.right (unknowns_of es)))) e.right
            (λ n h. unknowns-keep e.left (unknowns e.right (unknowns_of es)) n h) (unknowns-all e.right (unknowns_of es)),
      ),
      in-more (unknowns_of es) (unknowns e.left (unknowns e.right (unknowns_of es)))
          (λ n h. unknowns-keep e.left (unknowns e.right (unknowns_of es)) n (unknowns-keep e.right (unknowns_of es) n h)) es (all-in es),
    )

-- in each relation that is closed and has the equations: a clash, or a general solution that it forces
pub unify : (R : Ty → Ty → Type 0) → IsClosed R → (es : List Equation) → Each R es → Clashes R ⊎ General R es
unify R c es q = all R c (suc (length (unknowns_of es))) (unknowns_of es) (omega arith) es (all-in es) q

each-among : (es fs : List Equation) → ((t u : Ty) → IsAmong es t u → IsAmong fs t u) → Each (Closure fs) es
each-among [] fs h = tt
each-among (e ∷ es) fs h = (given e.left e.right (h e.left e.right (inl (refl, refl))), each-among es fs (λ t u i. h t u (inr i)))

pub closure-each : (es : List Equation) → Each (Closure es) es
closure-each es = each-among es es (λ t u i. i)

-- what all solutions agree on, the closure equates
pub agree_closed : (es : List Equation) (s : ℕ → Finite) → Solves s es → (t u : Ty) → ((r : ℕ → Finite) → Solves r es → instance r t ≡ instance r u) → Closure es t u
agree_closed es s solves t u agree =
    ⊎_elim
    (λ clash. absurd (clash_unsolved es clash s solves))
    (λ g. general-closed (Closure es) (closure-closed es) es g t u (general-agree es g.types g.solves t u agree))
    (unify (Closure es) (closure-closed es) es (closure-each es))

-- equations without a solution clash
pub unsolved_clash : (es : List Equation) → ((s : ℕ → Finite) → Solves s es → ⊥) → Clashes (Closure es)
unsolved_clash es none =
    ⊎_elim
    (λ clash. clash)
    (λ g. absurd (none (λ n. instance (λ k. Single (Nat 0)) (g.types n)) (general-solves es g.types g.solves (λ k. Single (Nat 0)))))
    (unify (Closure es) (closure-closed es) es (closure-each es))

-- the closure is the least relation of its kind
among-holds : (R : Ty → Ty → Type 0) (es : List Equation) → Each R es → (t u : Ty) → IsAmong es t u → R t u
among-holds R [] q t u i = absurd i
among-holds R (e ∷ es) q t u i =
    ⊎_elim (λ here. subst (λ (v : Ty). R v u) (sym here.0) (subst (R e.left) (sym here.1) q.0)) (λ rest. among-holds R es q.1 t u rest) i

pub closure_least : (R : Ty → Ty → Type 0) → IsClosed R → (es : List Equation) → Each R es → (t u : Ty) → Closure es t u → R t u
closure_least R c es q _ _ (given t u i) = among-holds R es q t u i
closure_least R c es q _ _ (same t) = c.same t
closure_least R c es q _ _ (turn t u d) = c.turn t u (closure_least R c es q t u d)
closure_least R c es q _ _ (join t u w d e) = c.join t u w (closure_least R c es q t u d) (closure_least R c es q u w e)
closure_least R c es q _ _ (build f g x y d e) = c.build f g x y (closure_least R c es q f g d) (closure_least R c es q x y e)
closure_least R c es q _ _ (function f g x y d) = c.function f g x y (closure_least R c es q (Apply f x) (Apply g y) d)
closure_least R c es q _ _ (argument f g x y d) = c.argument f g x y (closure_least R c es q (Apply f x) (Apply g y) d)

-- a general solution that the closure forces is the most general one, and changes nothing a second time
pub general-fits : (es : List Equation) → (g : General (Closure es) es) → (s : ℕ → Finite) → Solves s es → (n : ℕ) → s n ≡ instance s (g.types n)
general-fits es g s solves n = closed_agree es s solves (Unknown n) (g.types n) (g.forced n)

instance-fits : (σ : ℕ → Ty) (s : ℕ → Finite) → ((n : ℕ) → s n ≡ instance s (σ n)) → (t : Ty) → instance s t ≡ instance s (applied σ t)
instance-fits σ s fits (Unknown n) = fits n
instance-fits σ s fits (Leaf a) = refl
instance-fits σ s fits (Apply f x) =
    ap (λ v. Applied v (instance s x)) (instance-fits σ s fits f) ∙ ap (λ v. Applied (instance s (applied σ f)) v) (instance-fits σ s fits x)

solves-from : (es : List Equation) (σ : ℕ → Ty) → Each (λ t u. applied σ t ≡ applied σ u) es → (s : ℕ → Finite) → ((n : ℕ) → s n ≡ instance s (σ n)) → Solves s es
solves-from [] σ h s fits = tt
solves-from (e ∷ es) σ h s fits =
    (instance-fits σ s fits e.left ∙ ap (instance s) h.0 ∙ sym (instance-fits σ s fits e.right), solves-from es σ h.1 s fits)

pub fits-general : (es : List Equation) → (g : General (Closure es) es) → (s : ℕ → Finite) → ((n : ℕ) → s n ≡ instance s (g.types n)) → Solves s es
fits-general es g s fits = solves-from es g.types g.solves s fits

pub general-settled : (es : List Equation) → (g : General (Closure es) es) → (n : ℕ) → applied g.types (g.types n) ≡ g.types n
general-settled es g n =
    sym (general-agree es g.types g.solves (Unknown n) (g.types n) (λ r solves. closed_agree es r solves (Unknown n) (g.types n) (g.forced n)))
