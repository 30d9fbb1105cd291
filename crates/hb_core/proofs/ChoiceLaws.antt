-- The instance that is chosen for a predicate is the one by which it holds.
use Rattle.std.proofs.Common.{◌≡◌, ◌⊎◌, ℕ, zero, suc, ◌+◌, ◌<◌, ◌==◌, Bool, true, false, cond, List, [], ◌∷◌, ◌++◌, length, Option, Some, None, refl, sym, ap, ◌∙◌, arith, inl, inr, eqb-true, eq-eqb}
use Rattle.std.proofs.lemmas.Bool.{eqb-false, and_from, true≢false}
use Rattle.std.specs.Prelude.{slice_get}
use Rattle.hb_types.specs.declared.atom.Atom.{Atom}
use Rattle.hb_types.specs.declared.atom.Atom.TheVariants.{Var, Con, Nat}
use Rattle.hb_types.specs.Types.{Ty, Unknown, Leaf, Apply}
use Rattle.hb_types.specs.Put.{type_for, put, puts}
use Rattle.hb_core.specs.TypeForms.{same_atom, same_type, same_types}
use Rattle.hb_core.specs.View.{Instance}
use Rattle.hb_core.specs.Choice.{Met, met, met_all, type_met, types_from, instance_types, is_at, Choice, choose, Occurs, OccursInSome, NamesItsVariables, AreApart}

-- each entry has the type that stands for its variable
abbrev AreOf : List Ty → List Met → Type 0
AreOf ts [] = Unit {0}
AreOf ts (m ∷ ms) = (m.type ≡ type_for ts m.variable) × AreOf ts ms

abbrev HasEntry : ℕ → List Met → Type 0
HasEntry v [] = ⊥
HasEntry v (m ∷ ms) = (m.variable ≡ v) ⊎ HasEntry v ms

are_of-append : (ts : List Ty) (ms ns : List Met) → AreOf ts ms → AreOf ts ns → AreOf ts (ms ++ ns)
are_of-append ts [] ns a b = b
are_of-append ts (m ∷ ms) ns a b = (a.0, are_of-append ts ms ns a.1 b)

has-left : (v : ℕ) (ms ns : List Met) → HasEntry v ms → HasEntry v (ms ++ ns)
has-left v [] ns h = absurd h
has-left v (m ∷ ms) ns (inl h) = inl h
has-left v (m ∷ ms) ns (inr h) = inr (has-left v ms ns h)

has-right : (v : ℕ) (ms ns : List Met) → HasEntry v ns → HasEntry v (ms ++ ns)
has-right v [] ns h = h
has-right v (m ∷ ms) ns h = inr (has-right v ms ns h)

met_of : (ts : List Ty) (h : Ty) → AreOf ts (met h (put ts h))
met_of ts (Unknown n) = tt
met_of ts (Leaf (Var v)) = (refl, tt)
met_of ts (Leaf (Con c)) = tt
met_of ts (Leaf (Nat n)) = tt
met_of ts (Apply f x) = are_of-append ts _ _ (met_of ts f) (met_of ts x)

met_all_of : (ts hs : List Ty) → AreOf ts (met_all hs (puts ts hs))
met_all_of ts [] = tt
met_all_of ts (h ∷ hs) = are_of-append ts _ _ (met_of ts h) (met_all_of ts hs)

met_has : (ts : List Ty) (v : ℕ) (h : Ty) → Occurs v h → HasEntry v (met h (put ts h))
met_has ts v (Unknown n) is = absurd is
met_has ts v (Leaf (Var w)) is = inl is
met_has ts v (Leaf (Con c)) is = absurd is
met_has ts v (Leaf (Nat n)) is = absurd is
met_has ts v (Apply f x) (inl is) = has-left v _ _ (met_has ts v f is)
met_has ts v (Apply f x) (inr is) = has-right v (met f (put ts f)) _ (met_has ts v x is)

met_all_has : (ts : List Ty) (v : ℕ) (hs : List Ty) → OccursInSome v hs → HasEntry v (met_all hs (puts ts hs))
met_all_has ts v [] is = absurd is
met_all_has ts v (h ∷ hs) (inl is) = has-left v _ _ (met_has ts v h is)
met_all_has ts v (h ∷ hs) (inr is) = has-right v (met h (put ts h)) _ (met_all_has ts v hs is)

by_test : (b : Bool) (m v : ℕ) → (m == v) ≡ b → (t u r : Ty) → (m ≡ v → t ≡ r) → ((m ≡ v → ⊥) → u ≡ r) → cond b t u ≡ r
by_test true m v e t u r same other = same (eqb-true m v e)
by_test false m v e t u r same other = other (λ is. eqb-false m v e is)

type_met_is : (ts : List Ty) (v : ℕ) (ms : List Met) → AreOf ts ms → HasEntry v ms → type_met ms v ≡ type_for ts v
type_met_is ts v [] of has = absurd has
type_met_is ts v (m ∷ ms) of has =
    by_test (m.variable == v) m.variable v refl m.type (type_met ms v) (type_for ts v)
    (λ same. of.0 ∙ ap (type_for ts) same)
    (λ other. type_met_is ts v ms of.1 (later other has))
  where
    later : (m.variable ≡ v → ⊥) → (m.variable ≡ v) ⊎ HasEntry v ms → HasEntry v ms
    later other (inl is) = absurd (other is)
    later other (inr is) = is

types_from_is : (ms : List Met) (v : ℕ) (ts : List Ty) → ((j : ℕ) → j < length ts → type_met ms (v + j) ≡ type_for ts j) → types_from ms v (length ts) ≡ ts
types_from_is ms v [] is = refl
types_from_is ms v (t ∷ ts) is = λ i. (ap (type_met ms) (plus_zero v) ∙ is 0 (omega arith)) i ∷ types_from_is ms (suc v) ts (λ j below. ap (type_met ms) (plus_suc v j) ∙ is (suc j) (omega (arith, below))) i
  where
    plus_zero : (n : ℕ) → n ≡ n + 0
    plus_zero n = omega arith

    plus_suc : (n j : ℕ) → suc n + j ≡ n + suc j
    plus_suc n j = omega arith

-- an instance is taken at just the types whose head the predicate is
pub instance_types_are : (i : Instance) (ts : List Ty) → NamesItsVariables i → length ts ≡ i.variables → instance_types i (puts ts i.head) ≡ ts
instance_types_are i ts names long =
    ap (types_from (met_all i.head (puts ts i.head)) 0) (sym long)
    ∙ types_from_is (met_all i.head (puts ts i.head)) 0 ts
    (λ j below. ap (type_met (met_all i.head (puts ts i.head))) (zero_plus j)
    ∙ type_met_is ts j (met_all i.head (puts ts i.head)) (met_all_of ts i.head) (met_all_has ts j i.head (names j (under j long below))))
  where
    zero_plus : (j : ℕ) → 0 + j ≡ j
    zero_plus j = omega arith

    under : (j : ℕ) {m n : ℕ} → m ≡ n → j < m → j < n
    under j e below = omega (arith, e, below)

same_itself : (n : ℕ) → (n == n) ≡ true
same_itself n = eq-eqb n n refl

atom_itself : (a : Atom) → same_atom a a ≡ true
atom_itself (Var v) = same_itself v
atom_itself (Con c) = same_itself c
atom_itself (Nat n) = same_itself n

type_itself : (t : Ty) → same_type t t ≡ true
type_itself (Unknown n) = same_itself n
type_itself (Leaf a) = atom_itself a
type_itself (Apply f x) = and_from _ _ (type_itself f) (type_itself x)

types_themselves : (ts : List Ty) → same_types ts ts ≡ true
types_themselves [] = refl
types_themselves (t ∷ ts) = and_from _ _ (type_itself t) (types_themselves ts)

is_at_its_head : (i : Instance) (ts : List Ty) → NamesItsVariables i → length ts ≡ i.variables → is_at i i.class (puts ts i.head) ≡ true
is_at_its_head i ts names long =
    and_from _ _ (same_itself i.class) (ap (λ us. same_types (puts us i.head) (puts ts i.head)) (instance_types_are i ts names long) ∙ types_themselves (puts ts i.head))

abbrev tail_apart : Instance → List Instance → Type 0
tail_apart i is = AreApart (i ∷ is) → AreApart is

apart_tail : (i : Instance) (is : List Instance) → tail_apart i is
apart_tail i is apart m n j k class args at_m at_n e f = less m n (apart (suc m) (suc n) j k class args at_m at_n e f)
  where
    less : (m n : ℕ) → suc m ≡ suc n → m ≡ n
    less m n e = omega (arith, e)

picked : (b : Bool) (x y z : Option Choice) → (b ≡ true → x ≡ z) → (b ≡ false → y ≡ z) → cond b x y ≡ z
picked true x y z first rest = first refl
picked false x y z first rest = rest refl

-- where an instance's head at types is a predicate, the predicate chooses that instance at those types
pub chosen_is : (is : List Instance) → AreApart is → (n : ℕ) (i : Instance) (ts : List Ty) → slice_get is n ≡ Some i → NamesItsVariables i → length ts ≡ i.variables
    → choose is i.class (puts ts i.head) ≡ Some (record { instance = i; types = ts })
chosen_is [] apart n i ts at names long = absurd (none_some at)
  where
    none_some : {A : Type 0} {x : A} → None ≡ Some x → ⊥
    none_some e = cc
chosen_is (j ∷ is) apart zero i ts at names long =
    picked (is_at j i.class (puts ts i.head)) _ _ _
    (λ e. ap (λ k. Some (record { instance = k; types = instance_types k (puts ts i.head) })) (got at) ∙ ap (λ us. Some (record { instance = i; types = us })) (instance_types_are i ts names long))
    (λ e. absurd (true≢false (sym (is_at_its_head i ts names long) ∙ ap (λ k. is_at k i.class (puts ts i.head)) (sym (got at)) ∙ e)))
  where
    got : {A : Type 0} {x y : A} → Some x ≡ Some y → x ≡ y
    got e = cc
chosen_is (j ∷ is) apart (suc n) i ts at names long =
    picked (is_at j i.class (puts ts i.head)) _ _ _
    (λ e. absurd (nothing_before n (apart 0 (suc n) j i i.class (puts ts i.head) refl at e (is_at_its_head i ts names long))))
    (λ e. chosen_is is (apart_tail j is apart) n i ts at names long)
  where
    nothing_before : (n : ℕ) → 0 ≡ suc n → ⊥
    nothing_before n e = omega (arith, e)
