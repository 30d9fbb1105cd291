-- The initialisers of areas, cell by cell in order of address; and which cells have one.
use Rattle.std.specs.Prelude.{ℕ, zero, suc, ◌==◌, Bool, true, false, cond, List, [], ◌∷◌, ◌++◌, slice_get, Option, Some, None, option_map, option_and_then}
use Rattle.hb_base.specs.declared.place.Place.{Place}
use Rattle.hb_types.specs.Types.{Ty}
use Rattle.hb_tree.specs.Expressions.{Expr, NoBinds, Equations, NoEquations, MoreEquations}
use Rattle.hb_tree.specs.Initials.{InitExpr, Each, Fields, Cell, FieldInits, NoFieldInits, MoreFieldInits}
use Rattle.hb_steps.specs.Tree.{Due}
use Rattle.hb_core.specs.Asks.{Calls, Turns, Initialises, Tree}
use Rattle.hb_core.specs.Environments.{node}
use Rattle.hb_core.specs.Evaluation.{with, struct_of}
use Rattle.hb_core.specs.TypeForms.{Form, Of, Array, form, type_number}
use Rattle.hb_core.specs.Values.{OfCell, Part, Field, Element, Number, NoVals, Env, NoEnv, Bind}
use Rattle.hb_core.specs.View.{View, StructField, AreaDecl}

abbrev pub Later : Type 0
Later = Unit {0} → Tree

-- ---- arrays and structs

pub record Elements : Type 0 where
  pub count : ℕ
  pub of : Ty

abbrev pub elements_in : Form → Option Elements
elements_in (Of Array (n ∷ a ∷ [])) = option_map (λ count. record { count = count; of = a }) (type_number n)
elements_in f = None

-- so many elements from one on, each after a step of its own
unfoldable pub turns : ℕ → ℕ → (ℕ → Later → Tree) → Later → Tree
turns zero i element k = k tt
turns (suc left) i element k = Due Turns (λ v. element i (λ u. turns left (suc i) element k))

-- fields from one on
unfoldable pub over_fields : List StructField → ℕ → (StructField → ℕ → Later → Tree) → Later → Tree
over_fields [] i field k = k tt
over_fields (f ∷ fs) i field k = field f i (λ u. over_fields fs (suc i) field k)

abbrev pub either : Bool → Later → Later → Tree
either true this other = this tt
either false this other = other tt

-- ---- initialisers

-- the body of a cell's expression
abbrev pub cell_rows : Place → Expr → Equations
cell_rows place e = MoreEquations [] place e NoBinds NoEquations

unfoldable mutual
  -- the part of an area at a path, with the indices of the arrays around; `k` is what comes after it
  pub initialises : View → InitExpr → Ty → ℕ → List Part → Env → Later → Tree
  initialises P (Cell place e) t area path env k =
      Due (Calls (OfCell (node e)) (cell_rows place e) [] env NoVals 0) (λ v. Due (Initialises area path v) (λ w. k tt))
  initialises P (Each place x i) t area path env k =
      with (elements_in (form t)) (λ part. turns part.count 0 (λ index next. initialises P i part.of area (path ++ Element index ∷ []) (Bind (P.index_at x.place) (Number index) env) next) k)
  initialises P (Fields place fs) t area path env k =
      with (struct_of P (form t)) (λ fields. over_fields fields 0 (λ f number next. initialises_field P fs f area (path ++ Field number ∷ []) env next) k)

  -- the field of a struct, if it has an initialiser
  pub initialises_field : View → FieldInits → StructField → ℕ → List Part → Env → Later → Tree
  initialises_field P NoFieldInits f area path env k = k tt
  initialises_field P (MoreFieldInits x i fs) f area path env k =
      either (x.name.0 == f.name.0) (λ u. initialises P i f.of area path env k) (λ u. initialises_field P fs f area path env k)

abbrev pub initialises_area : View → ℕ → AreaDecl → Option InitExpr → Later → Tree
initialises_area P area d None k = k tt
initialises_area P area d (Some i) k = initialises P i d.of area [] NoEnv k

-- areas from one on
unfoldable pub initialises_areas : View → List AreaDecl → ℕ → Later → Tree
initialises_areas P [] area k = k tt
initialises_areas P (d ∷ ds) area k = initialises_area P area d d.initial (λ u. initialises_areas P ds (suc area) k)

-- ---- which cells have an initialiser

abbrev pub field_of : View → Ty → ℕ → Option StructField
field_of P t i = option_and_then (λ fields. slice_get fields i) (struct_of P (form t))

abbrev pub if_some : {A : Type 0} → Option A → (A → Bool) → Bool
if_some None test = false
if_some (Some x) test = test x

abbrev mutual
  -- the initialiser of a type has one for the cell at this path
  pub covers : View → InitExpr → Ty → List Part → Bool
  covers P (Cell place e) t path = true
  covers P (Each place x i) t (Element index ∷ path) = if_some (elements_in (form t)) (λ part. covers P i part.of path)
  covers P (Fields place fs) t (Field number ∷ path) = covers_field P fs (field_of P t number) path
  covers P i t path = false

  pub covers_field : View → FieldInits → Option StructField → List Part → Bool
  covers_field P (MoreFieldInits x i fs) (Some f) path = cond (x.name.0 == f.name.0) (covers P i f.of path) (covers_field P fs (Some f) path)
  covers_field P fs f path = false

abbrev pub initial_covers : View → Option InitExpr → Ty → List Part → Bool
initial_covers P None t path = false
initial_covers P (Some i) t path = covers P i t path

abbrev pub area_covers : View → Option AreaDecl → List Part → Bool
area_covers P None path = false
area_covers P (Some d) path = initial_covers P d.initial d.of path
