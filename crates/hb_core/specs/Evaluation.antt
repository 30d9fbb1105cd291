-- The evaluation of an expression at ground types: strict, the head first, then the arguments from left to right. It
-- gives the tree of due steps that ends in what comes after the value.
--
-- `ts` are the types for the variables of the definition. `low` is how many bytes of rooms are in use where a call in
-- tail position stands: the room of the body around is left then. `high` is how many are in use where any other call
-- stands. `k` is what comes after the value.
use Rattle.std.specs.Prelude.{ℕ, zero, suc, Bool, true, false, List, [], ◌∷◌, ◌++◌, length, take, drop, map, position, ◌==◌, Option, Some, None, option_map, option_and_then}
use Rattle.hb_base.specs.declared.name.Name.{Name}
use Rattle.hb_base.specs.declared.place.Place.{Place}
use Rattle.hb_types.specs.Types.{Ty}
use Rattle.hb_bits.specs.Bits.{place_at, digits}
use Rattle.hb_bits.specs.Members.{Member, Fixed, Free}
use Rattle.hb_tree.specs.Patterns.{Pat}
use Rattle.hb_tree.specs.Expressions as expr
use Rattle.hb_tree.specs.Expressions.{Expr, AnExpr, ExprKind, FieldExprs, NoFieldExprs, MoreFieldExprs, Alts, NoAlts, MoreAlts, Stmts, NoStmts, TakeThen, LetThen, DoThen, Binds, NoBinds, MoreBinds, Equations, NoEquations, MoreEquations}
use Rattle.hb_steps.specs.Tree.{Wrong, Due}
use Rattle.hb_core.specs.Asks.{Calls, Runs, Returns, Halts, ReadsPort, WritesPort, ReadsCell, WritesCell, Tree, Next}
use Rattle.hb_core.specs.Prims as prim
use Rattle.hb_core.specs.Prims.{Prim}
use Rattle.hb_types.specs.Put.{put, puts}
use Rattle.hb_core.specs.TypeForms.{Form, Of, Ref, Declared, form}
use Rattle.hb_core.specs.Values.{Site, OfRows, OfLambda, OfSteps, Field, Val, Vals, NoVals, MoreVals, Number, Pattern, Built, Reference, Port, Function, Making, Computing, Steps, Acting, Env, NoEnv, Bind, Group, and_one}
use Rattle.hb_core.specs.View.{View, Target, NoTarget, Local, Top, Method, Primitive, Constructor, Area, APort, MethodOf, Con, DataCon, BitCon, BitField, StructField}
use Rattle.hb_core.specs.Numbers.{value_at, number_of, bits_at}
use Rattle.hb_core.specs.Environments.{node, rows_node, rows_arity, functions_first, find}
use Rattle.hb_core.specs.Matching.{Match, Hits, Misses, Unfit, matches, row_matches, con_of, field_named, value_of_field}
use Rattle.hb_core.specs.Primitives.{arity, computed}
use Rattle.hb_core.specs.Choice.{Choice, choose}

-- ---- going on

-- goes on with a value; where there is none, there is no rule
abbrev pub with : {A : Type 0} → Option A → (A → Tree) → Tree
with None k = Wrong
with (Some x) k = k x

-- goes on with what is bound, or with what comes where nothing matched
abbrev pub matched : Match → (Env → Tree) → (Unit {0} → Tree) → Tree
matched (Hits env) hit miss = hit env
matched Misses hit miss = miss tt
matched Unfit hit miss = Wrong

-- a branch by `True` or `False`
abbrev pub by_truth : Val → (Unit {0} → Tree) → (Unit {0} → Tree) → Tree
by_truth (Pattern (true ∷ [])) holding failing = holding tt
by_truth (Pattern (false ∷ [])) holding failing = failing tt
by_truth v holding failing = Wrong

-- ---- application

-- rows at types in an environment: called at once where they have no parameter, and otherwise a function
abbrev pub starts : ℕ → Site → Equations → List Ty → Env → ℕ → Next → Tree
starts zero site rows ts env low k = Due (Calls site rows ts env NoVals low) k
starts (suc left) site rows ts env low k = k (Function site left rows ts env NoVals)

abbrev pub starts_rows : Equations → List Ty → Env → ℕ → Next → Tree
starts_rows rows ts env low k = starts (rows_arity rows) (OfRows (rows_node rows)) rows ts env low k

-- a primitive or a constructor that waits for so many arguments
abbrev pub waits_primitive : ℕ → View → Prim → List Ty → Next → Tree
waits_primitive zero P p ts k = with (computed P p ts NoVals) k
waits_primitive (suc left) P p ts k = k (Computing p left ts NoVals)

abbrev pub waits_constructor : ℕ → ℕ → Next → Tree
waits_constructor zero c k = k (Built c NoVals)
waits_constructor (suc left) c k = k (Making c left NoVals)

-- a value applied to one more argument
abbrev pub applies : View → Val → Val → ℕ → Next → Tree
applies P (Function site zero rows ts env vs) v low k = Due (Calls site rows ts env (and_one vs v) low) k
applies P (Function site (suc left) rows ts env vs) v low k = k (Function site left rows ts env (and_one vs v))
applies P (Making c zero vs) v low k = k (Built c (and_one vs v))
applies P (Making c (suc left) vs) v low k = k (Making c left (and_one vs v))
applies P (Computing p zero ts vs) v low k = with (computed P p ts (and_one vs v)) k
applies P (Computing p (suc left) ts vs) v low k = k (Computing p left ts (and_one vs v))
applies P f v low k = Wrong

-- ---- actions

-- the first type that a primitive is taken at, and the second
abbrev pub at_first : List Ty → (Ty → Tree) → Tree
at_first [] k = Wrong
at_first (t ∷ ts) k = k t

abbrev pub at_second : List Ty → (Ty → Tree) → Tree
at_second (t ∷ u ∷ ts) k = k u
at_second ts k = Wrong

-- the action of a primitive with its arguments
abbrev pub acts_on_one : Prim → List Ty → Val → Next → Tree
acts_on_one prim.Return ts v k = Due (Returns v) k
acts_on_one prim.Halt ts (Number code) k = Due (Halts code) k
acts_on_one prim.ReadPort ts (Port port) k = at_first ts (λ t. Due (ReadsPort t port) k)
acts_on_one prim.ReadRef ts (Reference area path) k = at_second ts (λ t. Due (ReadsCell t area path) k)
acts_on_one p ts v k = Wrong

abbrev pub acts_on_two : Prim → Val → Val → Next → Tree
acts_on_two prim.WritePort (Port port) v k = with (number_of v) (λ n. Due (WritesPort port n) k)
acts_on_two prim.WriteRef (Reference area path) v k = Due (WritesCell area path v) k
acts_on_two p v w k = Wrong

abbrev pub acts : Prim → List Ty → Vals → Next → Tree
acts p ts (MoreVals v NoVals) k = acts_on_one p ts v k
acts p ts (MoreVals v (MoreVals w NoVals)) k = acts_on_two p v w k
acts p ts vs k = Wrong

-- the run of an action: one step, where `low` is in use under it
abbrev pub performs : Val → ℕ → Next → Tree
performs (Steps site ss ts env) low k = Due (Runs site ss ts env low) k
performs (Acting p ts vs) low k = acts p ts vs k
performs v low k = Wrong

-- ---- bit data

-- the tags of a constructor, with 0 for the bits of its fields
abbrev pub blank_bit : Member → Bool
blank_bit (Fixed b) = b
blank_bit Free = false

abbrev pub blank : List Member → List Bool
blank ms = map blank_bit ms

-- the one constructor of a bitdata type
abbrev pub only_one : List ℕ → Option ℕ
only_one (c ∷ []) = Some c
only_one cs = None

abbrev pub fields_of_con : Con → Option (List BitField)
fields_of_con (BitCon ms fields) = Some fields
fields_of_con (DataCon n) = None

-- the fields of a type that is a bitdata type with one constructor
abbrev pub fields_of_form : View → Form → Option (List BitField)
fields_of_form P (Of (Declared t) []) =
    option_and_then (λ bits. option_and_then (λ c. option_and_then fields_of_con (P.constructors c)) (only_one bits.constructors)) (P.bit_types t)
fields_of_form P f = None

abbrev pub fields_of : View → Ty → Option (List BitField)
fields_of P t = fields_of_form P (form t)

-- the bits of a value that stands in a field
abbrev pub field_bits : BitField → Val → Option (List Bool)
field_bits f v = option_map (digits f.width) (number_of v)

-- bits with a value in the place of a field
abbrev pub with_field : Option BitField → Val → List Bool → Option (List Bool)
with_field (Some f) v bits = option_map (λ part. place_at f.at part bits) (field_bits f v)
with_field None v bits = None

-- ---- selection

abbrev pub struct_of : View → Form → Option (List StructField)
struct_of P (Of (Declared t) []) = P.structs t
struct_of P f = None

-- the struct that a reference's type names
abbrev pub struct_under : View → Form → Option (List StructField)
struct_under P (Of Ref (t ∷ [])) = struct_of P (form t)
struct_under P f = None

-- the place of a field in a struct
abbrev pub field_place : Name → List StructField → Option ℕ
field_place x fields = position (λ f. f.name.0 == x.0) fields

-- the value of a field of bits, or the reference to a field of a struct
abbrev pub selects : View → Ty → Name → Val → Option Val
selects P t x (Pattern bits) = option_and_then (λ fields. value_of_field P bits (field_named x fields)) (fields_of P t)
selects P t x (Reference area path) =
    option_map (λ i. Reference area (path ++ Field i ∷ [])) (option_and_then (field_place x) (struct_under P (form t)))
selects P t x v = None

-- ---- names

-- the equation of the chosen instance, at the instance's types and then the method's own
abbrev pub method_rows : View → MethodOf → List Ty → ℕ → Next → Choice → Tree
method_rows P m own low k choice = with (choice.instance.equations m.place) (λ rows. starts_rows rows (choice.types ++ own) NoEnv low k)

-- a method at types: first those of the class, then its own
abbrev pub uses_method : View → List Ty → ℕ → Next → MethodOf → Tree
uses_method P ts low k m = with (choose P.instances m.class (take m.parameters ts)) (method_rows P m (drop m.parameters ts) low k)

abbrev pub constructs : ℕ → Next → Con → Tree
constructs c k (DataCon n) = waits_constructor n c k
constructs c k (BitCon ms fields) = k (Pattern (blank ms))

-- what a name stands for, used at types
abbrev pub uses_target : View → Target → List Ty → Env → ℕ → Next → Tree
uses_target P (Local l) ts env low k = with (find P l env) k
uses_target P (Top d) ts env low k = with (P.tops d) (λ rows. starts_rows rows ts NoEnv low k)
uses_target P (Method m) ts env low k = with (P.methods m) (uses_method P ts low k)
uses_target P (Primitive p) ts env low k = waits_primitive (arity P p) P p ts k
uses_target P (Constructor c) ts env low k = with (P.constructors c) (constructs c k)
uses_target P (Area a) ts env low k = k (Reference a [])
uses_target P (APort p) ts env low k = k (Port p)
uses_target P NoTarget ts env low k = Wrong

-- ---- expressions

-- the rows of a lambda
abbrev pub lambda_rows : List Pat → Place → Expr → Equations
lambda_rows ps place e = MoreEquations ps place e NoBinds NoEquations

-- what a construction begins with, and the fields that it gives
abbrev pub built_from : Con → Option (List Bool × List BitField)
built_from (BitCon ms fields) = Some (blank ms, fields)
built_from (DataCon n) = None

abbrev pub built_fields : Option Con → Option (List Bool × List BitField)
built_fields con = option_and_then built_from con

abbrev pub by_arity : ℕ → (Unit {0} → Tree) → (Unit {0} → Tree) → Tree
by_arity zero binding function = binding tt
by_arity (suc n) binding function = function tt

-- a group comes in where its first function stands
abbrev pub with_group : Bool → Binds → List Ty → Env → Env
with_group true bs ts env = Group bs ts env
with_group false bs ts env = env

abbrev pub pattern_next : (List Bool → Tree) → Val → Tree
pattern_next next (Pattern bits) = next bits
pattern_next next v = Wrong

unfoldable mutual
  pub eval : View → Expr → List Ty → Env → ℕ → ℕ → Next → Tree
  eval P (AnExpr n place kind) ts env low high k = eval_kind P kind n place ts env low high k

  pub eval_kind : View → ExprKind → ℕ → Place → List Ty → Env → ℕ → ℕ → Next → Tree
  eval_kind P (expr.Var x) n place ts env low high k = uses_target P (P.target n) (puts ts (P.uses n)) env low k
  eval_kind P (expr.Con x) n place ts env low high k = uses_target P (P.target n) (puts ts (P.uses n)) env low k
  eval_kind P (expr.Number m) n place ts env low high k = with (value_at P (put ts (P.type_of n)) m) k
  eval_kind P (expr.Bits width m) n place ts env low high k = k (bits_at width m)
  eval_kind P expr.Unit n place ts env low high k = k (Built P.unit NoVals)
  eval_kind P (expr.Apply f x) n place ts env low high k = eval P f ts env high high (λ v. eval P x ts env high high (λ w. applies P v w low k))
  eval_kind P (expr.Lambda ps e) n place ts env low high k = starts (length ps) (OfLambda n) (lambda_rows ps place e) ts env low k
  eval_kind P (expr.Let bs e) n place ts env low high k = eval_binds P bs true ts env high (λ inner. eval P e ts inner low high k)
  eval_kind P (expr.If c e f) n place ts env low high k =
      eval P c ts env high high (λ v. by_truth v (λ u. eval P e ts env low high k) (λ u. eval P f ts env low high k))
  eval_kind P (expr.Case e alts) n place ts env low high k = eval P e ts env high high (λ v. eval_alts P alts v ts env low high k)
  eval_kind P (expr.Do ss) n place ts env low high k = k (Steps (OfSteps n) ss ts env)
  eval_kind P (expr.Select e x) n place ts env low high k =
      eval P e ts env high high (λ v. with (selects P (put ts (P.type_of (node e))) x v) k)
  eval_kind P (expr.Build x fs) n place ts env low high k =
      with (built_fields (con_of P (P.target n))) (λ con. eval_fields P fs con.1 con.0 ts env high (λ bits. k (Pattern bits)))
  eval_kind P (expr.Update e fs) n place ts env low high k =
      eval P e ts env high high (pattern_next (λ bits. with (fields_of P (put ts (P.type_of (node e)))) (λ fields. eval_fields P fs fields bits ts env high (λ more. k (Pattern more)))))
  -- neither stands in a source whose names are resolved
  eval_kind P (expr.Run es os) n place ts env low high k = Wrong
  eval_kind P (expr.Pair e f) n place ts env low high k = Wrong

  -- fields one after another, each put in its place among the bits
  pub eval_fields : View → FieldExprs → List BitField → List Bool → List Ty → Env → ℕ → (List Bool → Tree) → Tree
  eval_fields P NoFieldExprs fields bits ts env high k = k bits
  eval_fields P (MoreFieldExprs place x e fs) fields bits ts env high k =
      eval P e ts env high high (λ v. with (with_field (field_named x fields) v bits) (λ more. eval_fields P fs fields more ts env high k))

  -- the first alternative that matches
  pub eval_alts : View → Alts → Val → List Ty → Env → ℕ → ℕ → Next → Tree
  eval_alts P NoAlts v ts env low high k = Wrong
  eval_alts P (MoreAlts p e alts) v ts env low high k =
      matched (matches P p v env) (λ inner. eval P e ts inner low high k) (λ u. eval_alts P alts v ts env low high k)

  -- the first row that matches, with what its `where` defines
  pub eval_rows : View → Equations → Vals → List Ty → Env → ℕ → ℕ → Next → Tree
  eval_rows P NoEquations vs ts env low high k = Wrong
  eval_rows P (MoreEquations ps place e local rows) vs ts env low high k =
      matched (row_matches P ps vs env)
      (λ inner. eval_binds P local true ts inner high (λ whole. eval P e ts whole low high k))
      (λ u. eval_rows P rows vs ts env low high k)

  -- local definitions in order: those without parameters are evaluated, and functions that stand next to each other come
  -- in as one group, where the first of them stands; `first` says that no function stands right before
  pub eval_binds : View → Binds → Bool → List Ty → Env → ℕ → (Env → Tree) → Tree
  eval_binds P NoBinds first ts env high k = k env
  eval_binds P (MoreBinds x place rows bs) first ts env high k =
      by_arity (rows_arity rows)
      (λ u. eval_rows P rows NoVals ts env high high (λ v. eval_binds P bs true ts (Bind (P.binder (rows_node rows)) v env) high k))
      (λ u. eval_binds P bs false ts (with_group first (functions_first (MoreBinds x place rows bs)) ts env) high k)

  -- statements in order: each but the last is evaluated and run; the last one is evaluated, and run in tail position
  pub eval_stmts : View → Stmts → List Ty → Env → ℕ → ℕ → Next → Tree
  eval_stmts P NoStmts ts env low high k = Wrong
  eval_stmts P (TakeThen p e ss) ts env low high k =
      eval P e ts env high high (λ v. performs v high (λ w. matched (matches P p w env) (λ inner. eval_stmts P ss ts inner low high k) (λ u. Wrong)))
  eval_stmts P (LetThen bs ss) ts env low high k = eval_binds P bs true ts env high (λ inner. eval_stmts P ss ts inner low high k)
  eval_stmts P (DoThen e NoStmts) ts env low high k = eval P e ts env high high (λ v. performs v low k)
  eval_stmts P (DoThen e ss) ts env low high k = eval P e ts env high high (λ v. performs v high (λ w. eval_stmts P ss ts env low high k))
