-- Kinds that fit all whole types of a program, and the least such kinds.
use Rattle.std.specs.Prelude.{◌≡◌, ℕ, nat_eq, if◌then◌else◌, List, [], ◌∷◌, length, map, slice_get, All, Option, Some, None, option_and_then}
use Rattle.hb_base.specs.declared.name.Name.{Name}
use Rattle.hb_tree.specs.declared.types.NameAt.{NameAt}
use Rattle.hb_tree.specs.declared.declaration.Decl.{Decl}
use Rattle.hb_types.specs.Kinds.{Kind, Star, Nat, Area, Arrow}
use Rattle.hb_kind.specs.TypeNames.{TypeForm, DataType, BitdataType, StructType, DeclaredType, declared_types, DeclaredClass, declared_classes}
use Rattle.hb_kind.specs.Kinding.{Kinds, Context, kind_of_name, HasKind}
use Rattle.hb_kind.specs.Wholes.{Wanted, Is, OfParameter, AnyKind, NoKind, Owner, OfType, OfClass, NoOwner, Whole, Placed, whole_types}

-- kinds of the declared parameters, and those of the variables of each group by its number
pub record Assignment : Type 0 where
  pub kinds : Kinds
  pub own : ℕ → Name → Kind

-- ---- variables

-- the kind of the first parameter of a name, if it is one
abbrev pub parameter_kind : List NameAt → List Kind → Name → Option Kind
parameter_kind [] ks name = None
parameter_kind (p ∷ ps) [] name = None
parameter_kind (p ∷ ps) (k ∷ ks) name = if nat_eq p.name.0 name.0 then Some k else parameter_kind ps ks name

abbrev or_own : Option Kind → Kind → Kind
or_own (Some k) j = k
or_own None j = j

abbrev pub kinds_at : List (List Kind) → ℕ → List Kind
kinds_at kss n = or_none (slice_get kss n)
  where
    or_none : Option (List Kind) → List Kind
    or_none (Some ks) = ks
    or_none None = []

abbrev pub variable_kind : Kinds → (Name → Kind) → Owner → Name → Kind
variable_kind K own (OfType n params) name = or_own (parameter_kind params (kinds_at K.types n) name) (own name)
variable_kind K own (OfClass n params) name = or_own (parameter_kind params (kinds_at K.classes n) name) (own name)
variable_kind K own NoOwner name = own name

-- ---- what fits

abbrev pub Meets : Kinds → Wanted → Kind → Type 0
Meets K (Is j) k = j ≡ k
Meets K (OfParameter c i) k = slice_get (kinds_at K.classes c) i ≡ Some k
Meets K AnyKind k = Unit {0}
Meets K NoKind k = ⊥

abbrev context : List Decl → Assignment → Placed → Context
context ds A p = record { constructors = kind_of_name ds A.kinds; variables = variable_kind A.kinds (A.own p.group) p.owner }

abbrev pub FitsWhole : List Decl → Assignment → Placed → Type 0
FitsWhole ds A p = (k : Kind) × HasKind (context ds A p) p.whole.of k × Meets A.kinds p.whole.wanted k

abbrev form_arity : TypeForm → ℕ
form_arity (DataType params) = length params
form_arity BitdataType = 0
form_arity StructType = 0

-- each type and class has as many kinds as parameters
pub record HasArities (ds : List Decl) (K : Kinds) : Type 0 where
  pub types : map (λ ks. length ks) K.types ≡ map (λ t. form_arity t.form) (declared_types ds)
  pub classes : map (λ ks. length ks) K.classes ≡ map (λ c. length c.params) (declared_classes ds)

pub record Fits (ds : List Decl) (ps : List Placed) (A : Assignment) : Type 0 where
  pub arities : HasArities ds A.kinds
  pub wholes : All (FitsWhole ds A) ps

-- there are kinds that fit these whole types
abbrev pub AreKinded : List Decl → List Placed → Type 0
AreKinded ds ps = (A : Assignment) × Fits ds ps A

-- ---- the least

-- the kind of types is below every kind
abbrev pub IsBelow : Kind → Kind → Type 0
IsBelow Star k = Unit {0}
IsBelow Nat k = k ≡ Nat
IsBelow Area k = k ≡ Area
IsBelow (Arrow i j) k = (a b : Kind) × (k ≡ Arrow a b) × IsBelow i a × IsBelow j b

abbrev pub AreBelow : List Kind → List Kind → Type 0
AreBelow [] [] = Unit {0}
AreBelow (j ∷ js) (k ∷ ks) = IsBelow j k × AreBelow js ks
AreBelow js ks = ⊥

abbrev pub AllBelow : List (List Kind) → List (List Kind) → Type 0
AllBelow [] [] = Unit {0}
AllBelow (js ∷ jss) (ks ∷ kss) = AreBelow js ks × AllBelow jss kss
AllBelow jss kss = ⊥

-- kinds that fit the whole program, and that are below all others which do: a parameter that nothing fixes has the kind of types
pub record AreLeast (ds : List Decl) (K : Kinds) : Type 0 where
  pub own : ℕ → Name → Kind
  pub fit : Fits ds (whole_types ds) (record { kinds = K; own = own })
  pub types : (A : Assignment) → Fits ds (whole_types ds) A → AllBelow K.types A.kinds.types
  pub classes : (A : Assignment) → Fits ds (whole_types ds) A → AllBelow K.classes A.kinds.classes
