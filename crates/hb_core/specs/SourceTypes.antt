-- When the annotation of a whole source fits: the rows of each definition have the type of its signature, those of a
-- method in an instance the method's type there, and the cells of an area the types that the area's type gives them.
use Rattle.std.specs.Prelude.{◌≡◌, ℕ, zero, suc, ◌-◌, ◌==◌, cond, List, [], ◌∷◌, ◌++◌, length, drop, slice_get, find, Option, Some, None, option_map, option_and_then}
use Rattle.hb_types.specs.Types.{Ty, Leaf}
use Rattle.hb_types.specs.declared.atom.Atom.TheVariants.{Var}
use Rattle.hb_types.specs.declared.scheme.Scheme.{Scheme}
use Rattle.hb_tree.specs.Expressions.{Equations}
use Rattle.hb_tree.specs.Initials.{InitExpr, Each, Fields, Cell, FieldInits, NoFieldInits, MoreFieldInits}
use Rattle.hb_types.specs.Put.{put}
use Rattle.hb_core.specs.TypeForms.{Ix, Action, at_one, number_type, form}
use Rattle.hb_core.specs.View.{View, Top, Method, MethodOf, Instance, StructField, AreaDecl}
use Rattle.hb_core.specs.Environments.{node}
use Rattle.hb_core.specs.Evaluation.{struct_of}
use Rattle.hb_core.specs.Initialisation.{Elements, elements_in}
use Rattle.hb_core.specs.Facts.{cell_type, is_index}
use Rattle.hb_core.specs.Entailment.{put_preds}
use Rattle.hb_core.specs.ExpressionTypes.{FitsExpr, FitsRows}

-- ---- definitions

-- each top-level definition, by its signature
abbrev pub FitsTops : View → Type 0
FitsTops P = (d : ℕ) (rows : Equations) (scheme : Scheme) → P.tops d ≡ Some rows → P.scheme (Top d) ≡ Some scheme → FitsRows P scheme.preds rows scheme.body

-- `main` is an action without result, and asks nothing
abbrev pub FitsMain : View → Type 0
FitsMain P = (scheme : Scheme) → P.scheme (Top P.main) ≡ Some scheme → (scheme.body ≡ at_one Action P.unit_type) × (scheme.preds ≡ [])

-- ---- instances

-- so many variables, from one on
abbrev pub variables_from : ℕ → ℕ → List Ty
variables_from v zero = []
variables_from v (suc n) = Leaf (Var v) ∷ variables_from (suc v) n

-- what stands for the variables of a method in an instance: the types of the head, and then the method's own variables,
-- which follow those of the instance
abbrev pub method_types : Instance → MethodOf → Scheme → List Ty
method_types i m scheme = i.head ++ variables_from i.variables (length scheme.kinds - m.parameters)

-- the rows of a method in an instance; the instance's context is given, and what the method asks beside its class
abbrev pub FitsMethod : View → Instance → MethodOf → Scheme → Equations → Type 0
FitsMethod P i m scheme rows =
    FitsRows P (i.context ++ put_preds (method_types i m scheme) (drop 1 scheme.preds)) rows (put (method_types i m scheme) scheme.body)

abbrev pub FitsInstances : View → Type 0
FitsInstances P =
    (n : ℕ) (i : Instance) (number : ℕ) (m : MethodOf) (scheme : Scheme) (rows : Equations)
    → slice_get P.instances n ≡ Some i
    → P.methods number ≡ Some m
    → m.class ≡ i.class
    → P.scheme (Method number) ≡ Some scheme
    → i.equations m.place ≡ Some rows
    → FitsMethod P i m scheme rows

-- ---- areas

-- the arrays for which an `each` can stand have 1 to 2^31 elements
abbrev pub each_in : Option Ty → Option Elements
each_in t = option_and_then (λ part. cond (is_index part.count) (Some part) None) (option_and_then (λ u. elements_in (form u)) t)

abbrev pub struct_in : View → Option Ty → Option (List StructField)
struct_in P t = option_and_then (λ u. struct_of P (form u)) t

abbrev pub HasType : Ty → Option Ty → Type 0
HasType t (Some u) = t ≡ u
HasType t None = Unit {0}

-- the index of an `each` over an array
abbrev pub IsIndexOf : Ty → Option Elements → Type 0
IsIndexOf t (Some part) = t ≡ at_one Ix (number_type part.count)
IsIndexOf t None = Unit {0}

-- An initialiser of another form than its type, and a field that its struct lacks, constrain nothing.
abbrev mutual
  pub FitsInit : View → InitExpr → Option Ty → Type 0
  FitsInit P (Cell place e) t = HasType (P.type_of (node e)) (option_and_then (λ u. cell_type (form u)) t) × FitsExpr P [] e
  FitsInit P (Each place x i) t = IsIndexOf (P.local_type (P.index_at x.place)) (each_in t) × FitsInit P i (option_map (λ part. part.of) (each_in t))
  FitsInit P (Fields place fs) t = FitsFields P fs (struct_in P t)

  pub FitsFields : View → FieldInits → Option (List StructField) → Type 0
  FitsFields P NoFieldInits fields = Unit {0}
  FitsFields P (MoreFieldInits x i fs) fields =
      FitsInit P i (option_map (λ f. f.of) (option_and_then (find (λ f. f.name.0 == x.name.0)) fields)) × FitsFields P fs fields

abbrev pub FitsAreas : View → Type 0
FitsAreas P = (n : ℕ) (d : AreaDecl) (i : InitExpr) → slice_get P.areas n ≡ Some d → d.initial ≡ Some i → FitsInit P i (Some d.of)

-- ---- the whole

pub record Fits (P : View) : Type 0 where
  pub tops : FitsTops P
  pub main : FitsMain P
  pub instances : FitsInstances P
  pub areas : FitsAreas P
