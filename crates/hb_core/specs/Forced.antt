-- Which equations between types the typing rules force on a definition, and the typing that is forced.
use Rattle.std.specs.Prelude.{◌≡◌, ◌⊎◌, ℕ, ◌+◌, ◌*◌, ◌^◌, ◌<◌, ◌≤◌, List, [], ◌∷◌, length, slice_get, Some}
use Rattle.std.specs.List.{Contains}
use Rattle.hb_base.specs.declared.name.Name.{Name}
use Rattle.hb_types.specs.Types.{Ty, Apply}
use Rattle.hb_types.specs.Closure.{Clashes}
use Rattle.hb_types.specs.declared.scheme.Pred.{Pred}
use Rattle.hb_core.specs.TypeForms.{number_type, form}
use Rattle.hb_types.specs.Put.{puts}
use Rattle.hb_core.specs.View.{View, Instance}
use Rattle.hb_core.specs.Facts.{bit_width, cell_type}
use Rattle.hb_core.specs.Entailment.{pred_at}
use Rattle.hb_core.specs.ExpressionTypes.{bit_field_type, selected_type}
use Rattle.hb_core.specs.Demands.{Same, Follows, FollowsAlone, Selects, Updates, Never, At, at}

-- a dependency of a class: the parameters at these places tell those at others
pub record Dependency : Type 0 where
  pub from : List ℕ
  pub to : List ℕ

-- a definition: a top-level one, a method in an instance, or the initialiser of an area
pub record Definition : Type 0 where
  pub givens : List Pred
  pub demands : List At

-- the predicates of the nodes up to k, and the givens
pub data IsPredicate (d : Definition) (k : ℕ) : Pred → Type 0 where
  given : (p : Pred) → Contains d.givens p → IsPredicate d k p
  demanded : (n : ℕ) (p : Pred) → n ≤ k → Contains d.demands (at n (Follows p)) → IsPredicate d k p
  demanded_alone : (n : ℕ) (p : Pred) → n ≤ k → Contains d.demands (at n (FollowsAlone p)) → IsPredicate d k p

-- what numbers force: of n + m = p any one from the other two, and the like; numbers run to 2^64 - 1
pub data NumberForces : Pred → Ty → ℕ → Type 0 where
  sum_last : (n m : ℕ) (p : Ty) → n + m < 2 ^ 64 → NumberForces (pred_at 0 (number_type n ∷ number_type m ∷ p ∷ [])) p (n + m)
  sum_left : (n m : ℕ) (t : Ty) → n + m < 2 ^ 64 → NumberForces (pred_at 0 (t ∷ number_type m ∷ number_type (n + m) ∷ [])) t n
  sum_right : (n m : ℕ) (t : Ty) → n + m < 2 ^ 64 → NumberForces (pred_at 0 (number_type n ∷ t ∷ number_type (n + m) ∷ [])) t m
  product_last : (n m : ℕ) (p : Ty) → n * m < 2 ^ 64 → NumberForces (pred_at 1 (number_type n ∷ number_type m ∷ p ∷ [])) p (n * m)
  product_left : (n m : ℕ) (t : Ty) → 0 < m → n * m < 2 ^ 64 → NumberForces (pred_at 1 (t ∷ number_type m ∷ number_type (n * m) ∷ [])) t n
  product_right : (n m : ℕ) (t : Ty) → 0 < n → n * m < 2 ^ 64 → NumberForces (pred_at 1 (number_type n ∷ t ∷ number_type (n * m) ∷ [])) t m
  power_last : (n : ℕ) (t : Ty) → n < 64 → NumberForces (pred_at 2 (number_type n ∷ t ∷ [])) t (2 ^ n)
  power_first : (n : ℕ) (t : Ty) → n < 64 → NumberForces (pred_at 2 (t ∷ number_type (2 ^ n) ∷ [])) t n

-- what bit data and cells force: `BitRep` the width from the type, `Cell` the type of what it holds from the area
pub data FormForces (P : View) : Pred → Ty → Ty → Type 0 where
  width : (t n : Ty) (w : ℕ) → bit_width P (form t) ≡ Some w → FormForces P (pred_at 7 (t ∷ n ∷ [])) n (number_type w)
  content : (a t u : Ty) → cell_type (form a) ≡ Some u → FormForces P (pred_at 8 (a ∷ t ∷ [])) t u

mutual
  -- the least relation between types that has the equations of the nodes up to k, and is closed under equality, under taking
  -- applied types apart, and under what predicates force
  pub data Forced (P : View) (depends : ℕ → List Dependency) (d : Definition) (k : ℕ) : Ty → Ty → Type 0 where
    stated : (n : ℕ) (t u : Ty) → n ≤ k → Contains d.demands (at n (Same t u)) → Forced P depends d k t u
    same : (t : Ty) → Forced P depends d k t t
    turn : (t u : Ty) → Forced P depends d k t u → Forced P depends d k u t
    join : (t u w : Ty) → Forced P depends d k t u → Forced P depends d k u w → Forced P depends d k t w
    build : (f g x y : Ty) → Forced P depends d k f g → Forced P depends d k x y → Forced P depends d k (Apply f x) (Apply g y)
    function : (f g x y : Ty) → Forced P depends d k (Apply f x) (Apply g y) → Forced P depends d k f g
    argument : (f g x y : Ty) → Forced P depends d k (Apply f x) (Apply g y) → Forced P depends d k x y
    -- two predicates that agree at a dependency's left agree at its right
    alike : (p q : Pred) (c : Dependency) (i : ℕ) (t u : Ty)
        → IsPredicate d k p → IsPredicate d k q → p.class ≡ q.class → Contains (depends p.class) c
        → AgreeAt P depends d k p.args q.args c.from
        → Contains c.to i → slice_get p.args i ≡ Some t → slice_get q.args i ≡ Some u → Forced P depends d k t u
    -- a predicate that agrees with an instance at a dependency's left takes the instance's right
    instanced : (p : Pred) (m : ℕ) (h : Instance) (ts : List Ty) (c : Dependency) (i : ℕ) (t u : Ty)
        → IsPredicate d k p → slice_get P.instances m ≡ Some h → h.class ≡ p.class → length ts ≡ h.variables → Contains (depends p.class) c
        → AgreeAt P depends d k p.args (puts ts h.head) c.from
        → Contains c.to i → slice_get p.args i ≡ Some t → slice_get (puts ts h.head) i ≡ Some u → Forced P depends d k t u
    -- a predicate that is one whose numbers, bit data or cells force a type
    numbered : (p q : Pred) (t : Ty) (n : ℕ)
        → IsPredicate d k p → p.class ≡ q.class → AreSame P depends d k p.args q.args → NumberForces q t n → Forced P depends d k t (number_type n)
    formed : (p q : Pred) (t u : Ty)
        → IsPredicate d k p → p.class ≡ q.class → AreSame P depends d k p.args q.args → FormForces P q t u → Forced P depends d k t u
    -- a selection forces its type from that of its value, and an update that of the field
    selected : (n : ℕ) (t s u r : Ty) (x : Name)
        → n ≤ k → Contains d.demands (at n (Selects t x u)) → Forced P depends d k t s → selected_type P s x ≡ Some r → Forced P depends d k u r
    updated : (n : ℕ) (t s u r : Ty) (x : Name)
        → n ≤ k → Contains d.demands (at n (Updates t x u)) → Forced P depends d k t s → bit_field_type P s x ≡ Some r → Forced P depends d k u r

  -- two lists of types are the same one by one
  pub data AreSame (P : View) (depends : ℕ → List Dependency) (d : Definition) (k : ℕ) : List Ty → List Ty → Type 0 where
    none_same : AreSame P depends d k [] []
    more_same : (t u : Ty) (ts us : List Ty) → Forced P depends d k t u → AreSame P depends d k ts us → AreSame P depends d k (t ∷ ts) (u ∷ us)

  -- two lists of types agree at these places
  pub data AgreeAt (P : View) (depends : ℕ → List Dependency) (d : Definition) (k : ℕ) : List Ty → List Ty → List ℕ → Type 0 where
    at_none : (ts us : List Ty) → AgreeAt P depends d k ts us []
    at_more : (ts us : List Ty) (i : ℕ) (is : List ℕ) (t u : Ty) → slice_get ts i ≡ Some t → slice_get us i ≡ Some u → Forced P depends d k t u → AgreeAt P depends d k ts us is → AgreeAt P depends d k ts us (i ∷ is)

-- the equations of the nodes up to k clash: unlike types are one, or a type and a part of it; or a node up to k has no types at all
abbrev pub ClashesAt : View → (ℕ → List Dependency) → Definition → ℕ → Type 0
ClashesAt P depends d k = Clashes (Forced P depends d k) ⊎ ((n : ℕ) × (n ≤ k) × Contains d.demands (at n Never))

-- the first node whose equations, with those before it, clash
pub record IsFirstClash (P : View) (depends : ℕ → List Dependency) (d : Definition) (k : ℕ) : Type 0 where
  pub clashes : ClashesAt P depends d k
  pub first : (n : ℕ) → n < k → ¬ ClashesAt P depends d n
