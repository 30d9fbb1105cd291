-- Small sources for the examples: how their parts are written, and what is looked up in them. The locals have the numbers
-- of their binders, and the prelude's `Bool`, `Unit`, `Maybe` and `Pair` stand first.
use Rattle.std.proofs.Common.{ℕ, List, [], ◌∷◌, ◌++◌, Option, Some, None, true, false}
use Rattle.std.specs.Prelude.{◌==◌, cond, slice_get}
use Rattle.hb_base.specs.declared.name.Name.{Name}
use Rattle.hb_base.specs.declared.place.Place.{Place}
use Rattle.hb_bits.specs.Members.{Fixed}
use Rattle.hb_types.specs.declared.atom.Atom.TheVariants as atom
use Rattle.hb_types.specs.Types.{Ty, Leaf, Apply as On}
use Rattle.hb_tree.specs.Patterns as pat
use Rattle.hb_tree.specs.Patterns.{Pat}
use Rattle.hb_tree.specs.Expressions as expr
use Rattle.hb_tree.specs.Expressions.{Expr, NoBinds, Equations, NoEquations, MoreEquations}
use Rattle.hb_base.specs.declared.script.ScriptLine.{ScriptLine}
use Rattle.hb_base.specs.declared.step.Stop.{Stop}
use Rattle.hb_runs.specs.Outcome.{Outcome}
use Rattle.hb_runs.specs.System.{Finished, By, Stuck}
use Rattle.hb_steps.specs.Tree.{does}
use Rattle.hb_core.specs.Actions.{answer}
use Rattle.hb_core.specs.Events.{Event}
use Rattle.hb_core.specs.Meaning.{whole}
use Rattle.hb_core.specs.Values.{Site}
use Rattle.hb_core.specs.View.{View, Target, NoTarget, Instance, MethodOf, Con, DataCon, BitCon, BitType, StructField, AreaDecl}

-- ---- numbers at which something stands

pub record Entry (A : Type 0) : Type 0 where
  pub at : ℕ
  pub is : A

abbrev pub is_at : {A : Type 0} → ℕ → A → Entry A
is_at n x = record { at = n; is = x }

abbrev pub among : {A : Type 0} → A → List (Entry A) → ℕ → A
among other [] n = other
among other (x ∷ xs) n = cond (x.at == n) x.is (among other xs n)

abbrev pub found : {A : Type 0} → List (Entry A) → ℕ → Option A
found [] n = None
found (x ∷ xs) n = cond (x.at == n) (Some x.is) (found xs n)

-- ---- parts of a source

abbrev pub name : ℕ → Name
name n = record { 0 = n }

abbrev pub place : Place
place = record { line = 0; col = 0 }

-- the expression of this number, and a variable by its number alone
abbrev pub e : ℕ → expr.ExprKind → Expr
e n kind = expr.AnExpr n place kind

abbrev pub v : ℕ → Expr
v n = e n (expr.Var (name 0))

abbrev pub p : ℕ → pat.PatKind → Pat
p n kind = pat.APat n place kind

abbrev pub pv : ℕ → Pat
pv n = p n (pat.Var (name 0))

-- an application to one and to two arguments
abbrev pub call : ℕ → Expr → Expr → Expr
call n f x = e n (expr.Apply f x)

abbrev pub call_two : ℕ → Expr → ℕ → Expr → Expr → Expr
call_two n f m x y = e n (expr.Apply (e m (expr.Apply f x)) y)

abbrev pub row : List Pat → Expr → Equations
row ps body = MoreEquations ps place body NoBinds NoEquations

abbrev pub con : ℕ → Ty
con c = Leaf (atom.Con c)

abbrev pub nat : ℕ → Ty
nat n = Leaf (atom.Nat n)

abbrev pub unsigned : Ty
unsigned = con 0

abbrev pub bit : ℕ → Ty
bit n = On (con 2) (nat n)

abbrev pub stored : Ty → Ty
stored t = On (con 10) t

abbrev pub array : ℕ → Ty → Ty
array n a = On (On (con 12) (nat n)) a

-- ---- what is looked up

pub record Sample : Type 0 where
  pub targets : List (Entry Target)
  pub types : List (Entry Ty)
  pub taken_at : List (Entry (List Ty))
  pub tops : List Equations
  pub methods : List MethodOf
  pub instances : List Instance
  pub bitdata : List (Entry BitType)
  pub structs : List (Entry (List StructField))
  pub constructors : List Con
  pub areas : List AreaDecl

abbrev pub nothing_written : Sample
nothing_written = record {
  targets = [];
  types = [];
  taken_at = [];
  tops = [];
  methods = [];
  instances = [];
  bitdata = [];
  structs = [];
  constructors = [];
  areas = [];
}

-- `False`, `True`, `Unit`, `Nothing`, `Just` and `Pair`
abbrev pub of_prelude : List Con
of_prelude =
    BitCon (Fixed false ∷ []) [] ∷ BitCon (Fixed true ∷ []) [] ∷ DataCon 0 ∷ DataCon 0 ∷ DataCon 1 ∷ DataCon 2 ∷ []

abbrev pub bool : BitType
bool = record { width = 1; constructors = 0 ∷ 1 ∷ [] }

-- the first definition is `main`
abbrev pub view : Sample → View
view s = record {
  target = among NoTarget s.targets;
  type_of = among unsigned s.types;
  uses = among [] s.taken_at;
  binder = λ n. n;
  index_at = λ at. at.line;
  tops = slice_get s.tops;
  methods = slice_get s.methods;
  instances = s.instances;
  constructors = slice_get (of_prelude ++ s.constructors);
  bit_types = found (is_at 0 bool ∷ s.bitdata);
  structs = found s.structs;
  areas = s.areas;
  main = 0;
  unit = 2;
  pair = 5;
  nothing = 3;
  just = 4;
  supers = λ n. [];
  local_type = λ n. unsigned;
  scheme = λ t. None;
  bool_type = con 13;
  unit_type = con 14;
}

-- ---- what it shows

-- what a sample shows, where bodies have these rooms at all types
abbrev pub outcome : Sample → (Site → ℕ) → ℕ → List ScriptLine → ℕ → Outcome Event (Finished Stop)
outcome s room stack script n = does (answer (view s) (λ site ts. room site) stack script) n (whole (view s))

abbrev pub so_far : List Event → Outcome Event (Finished Stop)
so_far trace = record { trace = trace; end = None }

abbrev pub ended : List Event → Stop → Outcome Event (Finished Stop)
ended trace end = record { trace = trace; end = Some (By end) }

abbrev pub stuck : List Event → Outcome Event (Finished Stop)
stuck trace = record { trace = trace; end = Some Stuck }

-- a script of lines of one port
abbrev pub lines : ℕ → List ℕ → List ScriptLine
lines port [] = []
lines port (n ∷ ns) = record { port = port; value = n } ∷ lines port ns
