-- Equations between types, and the least closure under equality and taking applied types apart.
use Rattle.std.specs.Prelude.{◌≡◌, ℕ, ◌⊎◌, List, [], ◌∷◌}
use Rattle.hb_types.specs.Finite.{Finite}
use Rattle.hb_types.specs.Types.{Ty, Unknown, Leaf, Apply}
use Rattle.hb_types.specs.Instance.{instance}

-- two types that are to be one
pub record Equation : Type 0 where
  pub left : Ty
  pub right : Ty

abbrev pub Each : (Ty → Ty → Type 0) → List Equation → Type 0
Each R [] = Unit {0}
Each R (e ∷ es) = R e.left e.right × Each R es

-- with s for the unknowns, all equations are true
abbrev pub Solves : (ℕ → Finite) → List Equation → Type 0
Solves s es = Each (λ t u. instance s t ≡ instance s u) es

abbrev pub IsAmong : List Equation → Ty → Ty → Type 0
IsAmong [] t u = ⊥
IsAmong (e ∷ es) t u = ((t ≡ e.left) × (u ≡ e.right)) ⊎ IsAmong es t u

pub data Closure (es : List Equation) : Ty → Ty → Type 0 where
  given : (t u : Ty) → IsAmong es t u → Closure es t u
  same : (t : Ty) → Closure es t t
  turn : (t u : Ty) → Closure es t u → Closure es u t
  join : (t u w : Ty) → Closure es t u → Closure es u w → Closure es t w
  build : (f g x y : Ty) → Closure es f g → Closure es x y → Closure es (Apply f x) (Apply g y)
  function : (f g x y : Ty) → Closure es (Apply f x) (Apply g y) → Closure es f g
  argument : (f g x y : Ty) → Closure es (Apply f x) (Apply g y) → Closure es x y

-- what a relation has that is closed under equality and taking applied types apart
pub record IsClosed (R : Ty → Ty → Type 0) : Type 0 where
  pub same : (t : Ty) → R t t
  pub turn : (t u : Ty) → R t u → R u t
  pub join : (t u w : Ty) → R t u → R u w → R t w
  pub build : (f g x y : Ty) → R f g → R x y → R (Apply f x) (Apply g y)
  pub function : (f g x y : Ty) → R (Apply f x) (Apply g y) → R f g
  pub argument : (f g x y : Ty) → R (Apply f x) (Apply g y) → R x y

abbrev pub IsPart : Ty → Ty → Type 0
IsPart t (Unknown n) = ⊥
IsPart t (Leaf a) = ⊥
IsPart t (Apply f x) = ((t ≡ f) ⊎ IsPart t f) ⊎ ((t ≡ x) ⊎ IsPart t x)

-- two types that no finite types make one
abbrev pub AreUnlike : Ty → Ty → Type 0
AreUnlike (Unknown n) u = ⊥
AreUnlike (Leaf a) (Unknown n) = ⊥
AreUnlike (Leaf a) (Leaf b) = a ≡ b → ⊥
AreUnlike (Leaf a) (Apply g y) = Unit {0}
AreUnlike (Apply f x) (Unknown n) = ⊥
AreUnlike (Apply f x) (Leaf b) = Unit {0}
AreUnlike (Apply f x) (Apply g y) = ⊥

-- two types are equated that are unlike, or of which one is a part of the other
pub record Clashes (R : Ty → Ty → Type 0) : Type 0 where
  pub left : Ty
  pub right : Ty
  pub equated : R left right
  pub unlike : AreUnlike left right ⊎ IsPart left right

-- a type with a type in the place of each unknown
abbrev pub applied : (ℕ → Ty) → Ty → Ty
applied σ (Unknown n) = σ n
applied σ (Leaf a) = Leaf a
applied σ (Apply f x) = Apply (applied σ f) (applied σ x)

-- types for the unknowns that make the equations true, and that the relation forces
pub record General (R : Ty → Ty → Type 0) (es : List Equation) : Type 0 where
  pub types : ℕ → Ty
  pub forced : (n : ℕ) → R (Unknown n) (types n)
  pub solves : Each (λ t u. applied types t ≡ applied types u) es
