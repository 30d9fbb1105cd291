-- Which types and classes a program declares, in text order, and the numbers that the names of types and classes have.
use Rattle.std.specs.Prelude.{ℕ, ◌+◌, nat_eq, if◌then◌else◌, List, [], ◌∷◌, ◌++◌, Option, Some, None}
use Rattle.hb_base.specs.declared.name.Name.{Name}
use Rattle.hb_tree.specs.declared.types.NameAt.{NameAt}
use Rattle.hb_tree.specs.declared.declaration.Decl.{Decl}
use Rattle.hb_tree.specs.declared.declaration.Decl.TheVariants as decl

-- what a declared type is made of: a data type has parameters
pub data TypeForm : Type 0 where
  DataType : List NameAt → TypeForm
  BitdataType : TypeForm
  StructType : TypeForm

pub record DeclaredType : Type 0 where
  pub name : Name
  pub form : TypeForm

abbrev a_type : Name → TypeForm → DeclaredType
a_type name form = record { name = name; form = form }

abbrev pub declared_types : List Decl → List DeclaredType
declared_types [] = []
declared_types (decl.Data at name params cons ∷ ds) = a_type name.name (DataType params) ∷ declared_types ds
declared_types (decl.Bitdata at name width cons ∷ ds) = a_type name.name BitdataType ∷ declared_types ds
declared_types (decl.Struct at name bytes parts ∷ ds) = a_type name.name StructType ∷ declared_types ds
declared_types (d ∷ ds) = declared_types ds

pub record DeclaredClass : Type 0 where
  pub name : Name
  pub params : List NameAt

abbrev pub declared_classes : List Decl → List DeclaredClass
declared_classes [] = []
declared_classes (decl.Class at context name params depends sigs ∷ ds) = record { name = name.name; params = params } ∷ declared_classes ds
declared_classes (d ∷ ds) = declared_classes ds

abbrev a_name : ℕ → ℕ → Name × ℕ
a_name name number = (record { 0 = name }, number)

-- the built-in types by their names: Unsigned, Signed, Bit, Ix, NonZero, M, In, Out, Ref, Stored, BE and Array. The number 9 is
-- that of arrows, which have no name.
abbrev pub built_in_names : List (Name × ℕ)
built_in_names =
    a_name 8 0 ∷ a_name 9 1 ∷ a_name 10 2 ∷ a_name 11 3 ∷ a_name 12 4 ∷ a_name 13 5 ∷ a_name 1 6 ∷ a_name 2 7 ∷ a_name 14 8
    ∷ a_name 15 10 ∷ a_name 16 11 ∷ a_name 17 12 ∷ []

-- the names of declared types, from a number on
abbrev pub type_numbers : ℕ → List DeclaredType → List (Name × ℕ)
type_numbers n [] = []
type_numbers n (t ∷ ts) = (t.name, n) ∷ type_numbers (n + 1) ts

-- the names of declared classes, from a number on
abbrev pub class_numbers : ℕ → List DeclaredClass → List (Name × ℕ)
class_numbers n [] = []
class_numbers n (c ∷ cs) = (c.name, n) ∷ class_numbers (n + 1) cs

-- the number that the first entry of a name has
abbrev pub number_of : List (Name × ℕ) → Name → Option ℕ
number_of [] name = None
number_of (e ∷ es) name = if nat_eq e.0.0 name.0 then Some e.1 else number_of es name

-- the number of a type: the built-in ones from 0, the declared ones from 13
abbrev pub type_number : List Decl → Name → Option ℕ
type_number ds name = number_of (built_in_names ++ type_numbers 13 (declared_types ds)) name

-- the number of a declared class, from 0
abbrev pub class_number : List Decl → Name → Option ℕ
class_number ds name = number_of (class_numbers 0 (declared_classes ds)) name
