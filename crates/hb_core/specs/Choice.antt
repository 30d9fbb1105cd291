-- Which instance a class predicate at ground types chooses: the one whose head it is at some types. No two heads of an
-- accepted source have a common instance.
use Rattle.std.specs.Prelude.{◌≡◌, ◌⊎◌, ℕ, zero, suc, ◌<◌, ◌==◌, ◌&&◌, Bool, true, cond, List, [], ◌∷◌, ◌++◌, slice_get, Option, Some, None}
use Rattle.hb_types.specs.Types.{Ty, Unknown, Leaf, Apply}
use Rattle.hb_types.specs.declared.atom.Atom.TheVariants.{Var}
use Rattle.hb_types.specs.Put.{puts}
use Rattle.hb_core.specs.TypeForms.{same_types}
use Rattle.hb_core.specs.View.{Instance}

-- a variable of a head, and the type that stands at its place
pub record Met : Type 0 where
  pub variable : ℕ
  pub type : Ty

-- where a type has the form of a head, what stands at the head's variables
abbrev pub met : Ty → Ty → List Met
met (Leaf (Var v)) t = record { variable = v; type = t } ∷ []
met (Apply f x) (Apply g y) = met f g ++ met x y
met h t = []

abbrev pub met_all : List Ty → List Ty → List Met
met_all (h ∷ hs) (t ∷ ts) = met h t ++ met_all hs ts
met_all hs ts = []

-- the first type for a variable
abbrev pub type_met : List Met → ℕ → Ty
type_met [] v = Unknown 0
type_met (m ∷ ms) v = cond (m.variable == v) m.type (type_met ms v)

-- the types for so many variables, from one on
abbrev pub types_from : List Met → ℕ → ℕ → List Ty
types_from ms v zero = []
types_from ms v (suc n) = type_met ms v ∷ types_from ms (suc v) n

-- the types at which an instance is taken for these arguments
abbrev pub instance_types : Instance → List Ty → List Ty
instance_types i args = types_from (met_all i.head args) 0 i.variables

-- the head at these types is the predicate
abbrev pub is_at : Instance → ℕ → List Ty → Bool
is_at i class args = (i.class == class) && same_types (puts (instance_types i args) i.head) args

-- an instance, and the types for its variables
pub record Choice : Type 0 where
  pub instance : Instance
  pub types : List Ty

abbrev pub choose : List Instance → ℕ → List Ty → Option Choice
choose [] class args = None
choose (i ∷ more) class args = cond (is_at i class args) (Some (record { instance = i; types = instance_types i args })) (choose more class args)

-- ---- when there is one choice at most

-- the variable stands in a type, in some type of a list
abbrev pub Occurs : ℕ → Ty → Type 0
Occurs v (Leaf (Var w)) = w ≡ v
Occurs v (Apply f x) = Occurs v f ⊎ Occurs v x
Occurs v t = ⊥

abbrev pub OccursInSome : ℕ → List Ty → Type 0
OccursInSome v [] = ⊥
OccursInSome v (t ∷ ts) = Occurs v t ⊎ OccursInSome v ts

-- the variables of an instance are those of its head
abbrev pub NamesItsVariables : Instance → Type 0
NamesItsVariables i = (v : ℕ) → v < i.variables → OccursInSome v i.head

-- no two instances are at one predicate
abbrev pub AreApart : List Instance → Type 0
AreApart instances =
    (m n : ℕ) (i j : Instance) (class : ℕ) (args : List Ty)
    → slice_get instances m ≡ Some i
    → slice_get instances n ≡ Some j
    → is_at i class args ≡ true
    → is_at j class args ≡ true
    → m ≡ n
