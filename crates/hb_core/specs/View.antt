-- What the meaning looks up in an accepted source: a record of functions, so that it speaks of no table. Numbers count
-- the declarations of one kind in text order, the prelude's first.
use Rattle.std.specs.Prelude.{ℕ, List, Option}
use Rattle.hb_base.specs.declared.name.Name.{Name}
use Rattle.hb_base.specs.declared.place.Place.{Place}
use Rattle.hb_types.specs.Types.{Ty}
use Rattle.hb_types.specs.declared.scheme.Pred.{Pred}
use Rattle.hb_types.specs.declared.scheme.Scheme.{Scheme}
use Rattle.hb_tree.specs.Expressions.{Equations}
use Rattle.hb_tree.specs.Initials.{InitExpr}
use Rattle.hb_bits.specs.Members.{Member}
use Rattle.hb_core.specs.Prims.{Prim}

-- what a name stands for
pub data Target : Type 0 where
  NoTarget : Target
  Local : ℕ → Target
  Top : ℕ → Target
  Method : ℕ → Target
  Primitive : Prim → Target
  Constructor : ℕ → Target
  Area : ℕ → Target
  APort : ℕ → Target

-- a method: its class by the number that the class has in predicates, the number of that class's parameters, and its place among the methods of its class
pub record MethodOf : Type 0 where
  pub class : ℕ
  pub parameters : ℕ
  pub place : ℕ

-- an instance: its class, the number of its variables, its head, its context, and its equations by the place of the
-- method in the class
pub record Instance : Type 0 where
  pub class : ℕ
  pub variables : ℕ
  pub head : List Ty
  pub context : List Pred
  pub equations : ℕ → Option Equations

-- a field of a bitdata constructor: `at`, how many bits stand after it, its width, and its type
pub record BitField : Type 0 where
  pub name : Name
  pub at : ℕ
  pub width : ℕ
  pub of : Ty

-- a constructor: of a data type with so many arguments, or of a bitdata type with the bits that its tags fix, most
-- significant first, and its fields in text order
pub data Con : Type 0 where
  DataCon : ℕ → Con
  BitCon : List Member → List BitField → Con

-- a bitdata type: its width, and its constructors
pub record BitType : Type 0 where
  pub width : ℕ
  pub constructors : List ℕ

-- a field of a struct
pub record StructField : Type 0 where
  pub name : Name
  pub of : Ty

pub record AreaDecl : Type 0 where
  pub of : Ty
  pub initial : Option InitExpr

pub record View : Type 0 where
  -- what the name at a node stands for, in expressions and patterns
  pub target : ℕ → Target
  -- the type of a node, over the variables of its definition
  pub type_of : ℕ → Ty
  -- the types that the use of a name at a node takes, over the same variables
  pub uses : ℕ → List Ty
  -- the local that the variable pattern of this number binds; for a local definition, the local that the rows bind
  -- whose first expression has this number. No two binders of the source have one number
  pub binder : ℕ → ℕ
  -- the local of the index of the `each` whose name stands at this place
  pub index_at : Place → ℕ
  -- the rows of a top-level definition
  pub tops : ℕ → Option Equations
  pub methods : ℕ → Option MethodOf
  -- the context of a class over its parameters, by the number that the class has in predicates
  pub supers : ℕ → List Pred
  pub instances : List Instance
  pub constructors : ℕ → Option Con
  -- bitdata types and structs, by the number of the declared type
  pub bit_types : ℕ → Option BitType
  pub structs : ℕ → Option (List StructField)
  pub areas : List AreaDecl
  -- the type of a local
  pub local_type : ℕ → Ty
  -- the type of what a name stands for that is no local, with what it asks of its variables: of a method the class comes
  -- first
  pub scheme : Target → Option Scheme
  -- the number of `main` among the top-level definitions
  pub main : ℕ
  -- constructors of the prelude
  pub unit : ℕ
  pub pair : ℕ
  pub nothing : ℕ
  pub just : ℕ
  -- types of the prelude
  pub bool_type : Ty
  pub unit_type : Ty
