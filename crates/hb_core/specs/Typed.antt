-- The typing that a source forces: the annotation whose types are those that the equations of its definitions force, and where there
-- is none.
use Rattle.std.specs.Prelude.{◌≡◌, ◌⊎◌, ℕ, suc, ◌<◌, ◌==◌, if◌then◌else◌, List, [], ◌∷◌, ◌++◌, length, drop, slice_get, find, Option, Some, None, option_map, option_and_then}
use Rattle.std.specs.List.{Contains}
use Rattle.hb_types.specs.Types.{Ty, Unknown}
use Rattle.hb_types.specs.Instance.{IsKnown}
use Rattle.hb_types.specs.declared.scheme.Pred.{Pred}
use Rattle.hb_types.specs.declared.scheme.Scheme.{Scheme}
use Rattle.hb_tree.specs.Expressions.{Equations}
use Rattle.hb_tree.specs.Initials.{InitExpr, Each, Fields, Cell, FieldInits, NoFieldInits, MoreFieldInits}
use Rattle.hb_core.specs.TypeForms.{Ix, Action, at_one, number_type, form}
use Rattle.hb_types.specs.Put.{put}
use Rattle.hb_core.specs.View.{View, Top, Method, MethodOf, Instance, StructField, AreaDecl}
use Rattle.hb_core.specs.Environments.{node, rows_node}
use Rattle.hb_core.specs.Initialisation.{Elements}
use Rattle.hb_core.specs.Facts.{cell_type}
use Rattle.hb_core.specs.Entailment.{Entails, put_preds}
use Rattle.hb_core.specs.SourceTypes.{Fits, method_types, each_in, struct_in}
use Rattle.hb_core.specs.Demands.{Follows, FollowsAlone, Never, At, at, same_at, expr_demands, rows_demands}
use Rattle.hb_core.specs.Forced.{Dependency, Definition, Forced, ClashesAt}

-- ---- unknowns in the place of types

-- what has a type that is sought: a node, a type that the use of a name at a node takes, a local, and the result of a statement
pub data Spot : Type 0 where
  OfNode : ℕ → Spot
  OfUse : ℕ → ℕ → Spot
  OfLocal : ℕ → Spot
  OfResult : ℕ → Spot

-- each has a number of its own
abbrev pub AreDifferent : (Spot → ℕ) → Type 0
AreDifferent number = (s t : Spot) → number s ≡ number t → s ≡ t

abbrev pub unknown_uses : (Spot → ℕ) → ℕ → ℕ → List Ty → List Ty
unknown_uses number n i [] = []
unknown_uses number n i (t ∷ ts) = Unknown (number (OfUse n i)) ∷ unknown_uses number n (suc i) ts

-- a source with unknowns in the place of all types of nodes, uses and locals
abbrev pub opened : (Spot → ℕ) → View → View
opened number P = record {
  target = P.target;
  type_of = λ n. Unknown (number (OfNode n));
  uses = λ n. unknown_uses number n 0 (P.uses n);
  binder = P.binder;
  index_at = P.index_at;
  tops = P.tops;
  methods = P.methods;
  supers = P.supers;
  instances = P.instances;
  constructors = P.constructors;
  bit_types = P.bit_types;
  structs = P.structs;
  areas = P.areas;
  local_type = λ l. Unknown (number (OfLocal l));
  scheme = P.scheme;
  main = P.main;
  unit = P.unit;
  pair = P.pair;
  nothing = P.nothing;
  just = P.just;
  bool_type = P.bool_type;
  unit_type = P.unit_type;
}

abbrev pub results : (Spot → ℕ) → ℕ → Ty
results number n = Unknown (number (OfResult n))

-- ---- definitions

-- `main` is an action without result and asks nothing; this belongs to the root of its first row's expression
abbrev pub main_demands : View → ℕ → Scheme → ℕ → List At
main_demands P d scheme n = if d == P.main then same_at n scheme.body (at_one Action P.unit_type) ++ asks_nothing scheme.preds else []
  where
    asks_nothing : List Pred → List At
    asks_nothing [] = []
    asks_nothing (p ∷ ps) = at n Never ∷ []

-- the cells of an initialiser; one of another form than its type, and a field that its struct lacks, demand nothing
abbrev pub holds_at : ℕ → Ty → Option Ty → List At
holds_at n t (Some u) = same_at n t u
holds_at n t None = []

abbrev pub index_at : ℕ → Ty → Option Elements → List At
index_at n t (Some part) = same_at n t (at_one Ix (number_type part.count))
index_at n t None = []

-- the node with which an initialiser begins
abbrev mutual
  pub first_node : InitExpr → ℕ
  first_node (Cell place e) = node e
  first_node (Each place x i) = first_node i
  first_node (Fields place fs) = first_field fs

  pub first_field : FieldInits → ℕ
  first_field NoFieldInits = 0
  first_field (MoreFieldInits x i fs) = first_node i

abbrev mutual
  pub init_demands : View → (ℕ → Ty) → InitExpr → Option Ty → List At
  init_demands P R (Cell place e) t = expr_demands P R e ++ holds_at (node e) (P.type_of (node e)) (option_and_then (λ u. cell_type (form u)) t)
  init_demands P R (Each place x i) t =
      index_at (first_node i) (P.local_type (P.index_at x.place)) (each_in t) ++ init_demands P R i (option_map (λ part. part.of) (each_in t))
  init_demands P R (Fields place fs) t = fields_demands P R fs (struct_in P t)

  pub fields_demands : View → (ℕ → Ty) → FieldInits → Option (List StructField) → List At
  fields_demands P R NoFieldInits fields = []
  fields_demands P R (MoreFieldInits x i fs) fields =
      init_demands P R i (option_map (λ f. f.of) (option_and_then (find (λ f. f.name.0 == x.name.0)) fields)) ++ fields_demands P R fs fields

-- the definitions of a source: those at the top, the methods of instances, and the initialisers of areas
pub data IsDefinition (P : View) (R : ℕ → Ty) : Definition → Type 0 where
  top : (d : ℕ) (rows : Equations) (scheme : Scheme) → P.tops d ≡ Some rows → P.scheme (Top d) ≡ Some scheme → IsDefinition P R (record { givens = scheme.preds; demands = rows_demands P R rows scheme.body ++ main_demands P d scheme (rows_node rows) })
  method : (n : ℕ) (i : Instance) (number : ℕ) (m : MethodOf) (scheme : Scheme) (rows : Equations) → slice_get P.instances n ≡ Some i → P.methods number ≡ Some m → m.class ≡ i.class → P.scheme (Method number) ≡ Some scheme → i.equations m.place ≡ Some rows → IsDefinition P R (record { givens = i.context ++ put_preds (method_types i m scheme) (drop 1 scheme.preds); demands = rows_demands P R rows (put (method_types i m scheme) scheme.body) })
  area : (n : ℕ) (d : AreaDecl) (i : InitExpr) → slice_get P.areas n ≡ Some d → d.initial ≡ Some i → IsDefinition P R (record { givens = []; demands = init_demands P R i (Some d.of) })

-- ---- what is forced

-- some definition's equations, of all its nodes, make this type that one
abbrev pub IsForcedTo : View → (ℕ → Ty) → (ℕ → List Dependency) → Ty → Ty → Type 0
IsForcedTo G R depends t u = (d : Definition) × IsDefinition G R d × (k : ℕ) × Forced G depends d k t u

-- no definition has a node at which its equations clash
abbrev pub HasNoClash : View → (ℕ → Ty) → (ℕ → List Dependency) → Type 0
HasNoClash G R depends = (d : Definition) (k : ℕ) → IsDefinition G R d → ¬ ClashesAt G depends d k

-- the first node at which a source's equations clash
pub record IsTypeClash (G : View) (R : ℕ → Ty) (depends : ℕ → List Dependency) (k : ℕ) : Type 0 where
  pub clashes : (d : Definition) × IsDefinition G R d × ClashesAt G depends d k
  pub first : (n : ℕ) (d : Definition) → n < k → IsDefinition G R d → ¬ ClashesAt G depends d n

-- the annotation P of so many nodes is the one that is forced: it fits, no node clashes, and each of its types is forced
pub record Typed (P : View) (depends : ℕ → List Dependency) (number : Spot → ℕ) (count : ℕ) : Type 0 where
  pub fits : Fits P
  pub no_clash : HasNoClash (opened number P) (results number) depends
  pub nodes : (n : ℕ) → n < count → IsKnown (P.type_of n) × IsForcedTo (opened number P) (results number) depends (Unknown (number (OfNode n))) (P.type_of n)
  pub uses : (n i : ℕ) (t : Ty) → n < count → slice_get (P.uses n) i ≡ Some t → IsKnown t × IsForcedTo (opened number P) (results number) depends (Unknown (number (OfUse n i))) t

-- a node has a type that is not forced: its own, or one that its use takes
abbrev pub IsAmbiguousAt : View → (Spot → ℕ) → (ℕ → List Dependency) → ℕ → Type 0
IsAmbiguousAt P number depends n =
    ((t : Ty) → IsKnown t → ¬ IsForcedTo (opened number P) (results number) depends (Unknown (number (OfNode n))) t)
    ⊎ ((i : ℕ) × (i < length (P.uses n)) × ((t : Ty) → IsKnown t → ¬ IsForcedTo (opened number P) (results number) depends (Unknown (number (OfUse n i))) t))

-- a node has a predicate that does not follow, at the types of the annotation P
abbrev pub IsUnsolvedAt : View → (ℕ → Ty) → ℕ → Pred → Type 0
IsUnsolvedAt P R n p =
    (d : Definition) × IsDefinition P R d
    × ((Contains d.demands (at n (Follows p)) × ¬ Entails P d.givens p) ⊎ (Contains d.demands (at n (FollowsAlone p)) × ¬ Entails P [] p))
