-- The rules of kinds: which kind a type has.
use Rattle.std.specs.Prelude.{◌≡◌, List, [], ◌∷◌, ◌++◌, Option, Some, ℕ, slice_get, option_and_then}
use Rattle.hb_base.specs.declared.name.Name.{Name}
use Rattle.hb_tree.specs.Types as tree
use Rattle.hb_tree.specs.Types.{TypeExpr, AType, TypeKind}
use Rattle.hb_tree.specs.declared.declaration.Decl.{Decl}
use Rattle.hb_types.specs.Kinds.{Kind, Star, Nat, Area, Arrow}
use Rattle.hb_kind.specs.TypeNames.{TypeForm, DataType, BitdataType, StructType, DeclaredType, declared_types, type_number}

-- the kinds of the parameters of each declared type and of each declared class
pub record Kinds : Type 0 where
  pub types : List (List Kind)
  pub classes : List (List Kind)

-- from the kinds of arguments to that of the result
abbrev pub arrows : List Kind → Kind → Kind
arrows [] k = k
arrows (j ∷ js) k = Arrow j (arrows js k)

-- Unsigned, Signed, Bit, Ix, NonZero, M, In, Out, Ref, arrows, Stored, BE and Array
abbrev pub built_in_kinds : List Kind
built_in_kinds =
    Star ∷ Star ∷ Arrow Nat Star ∷ Arrow Nat Star ∷ Arrow Star Star ∷ Arrow Star Star ∷ Arrow Star Star ∷ Arrow Star Star
    ∷ Arrow Area Star ∷ Arrow Star (Arrow Star Star) ∷ Arrow Star Area ∷ Arrow Star Area ∷ Arrow Nat (Arrow Area Area) ∷ []

abbrev pub form_kind : TypeForm → List Kind → Kind
form_kind (DataType params) ks = arrows ks Star
form_kind BitdataType ks = Star
form_kind StructType ks = Area

abbrev pub declared_kinds : List DeclaredType → List (List Kind) → List Kind
declared_kinds [] kss = []
declared_kinds (t ∷ ts) [] = []
declared_kinds (t ∷ ts) (ks ∷ kss) = form_kind t.form ks ∷ declared_kinds ts kss

-- the kind of each type constructor, by its number
abbrev pub type_kinds : List Decl → Kinds → List Kind
type_kinds ds K = built_in_kinds ++ declared_kinds (declared_types ds) K.types

abbrev pub kind_of_name : List Decl → Kinds → Name → Option Kind
kind_of_name ds K name = option_and_then (λ n. slice_get (type_kinds ds K) n) (type_number ds name)

-- what kinds the names in a type have
pub record Context : Type 0 where
  pub constructors : Name → Option Kind
  pub variables : Name → Kind

-- the types that `()` and pairs stand for
abbrev unit_name : Name
unit_name = record { 0 = 23 }

abbrev pair_name : Name
pair_name = record { 0 = 24 }

abbrev mutual
  pub HasKind : Context → TypeExpr → Kind → Type 0
  HasKind G (AType at t) k = FormHasKind G t k

  pub FormHasKind : Context → TypeKind → Kind → Type 0
  FormHasKind G (tree.Con c) k = G.constructors c ≡ Some k
  FormHasKind G (tree.Var x) k = G.variables x ≡ k
  FormHasKind G (tree.Number n) k = Nat ≡ k
  FormHasKind G tree.Unit k = G.constructors unit_name ≡ Some k
  FormHasKind G (tree.Pair a b) k = (i j : Kind) × (G.constructors pair_name ≡ Some (Arrow i (Arrow j k))) × HasKind G a i × HasKind G b j
  FormHasKind G (tree.Apply f x) k = (j : Kind) × HasKind G f (Arrow j k) × HasKind G x j
  FormHasKind G (tree.Arrow a b) k = (Star ≡ k) × HasKind G a Star × HasKind G b Star
  FormHasKind G (tree.Sum a b) k = (Nat ≡ k) × HasKind G a Nat × HasKind G b Nat
