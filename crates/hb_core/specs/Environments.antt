-- What the locals of an environment are.
use Rattle.std.specs.Prelude.{ℕ, zero, suc, ◌==◌, cond, List, length, Option, Some, None}
use Rattle.hb_types.specs.Types.{Ty}
use Rattle.hb_tree.specs.Expressions.{Expr, AnExpr, Binds, NoBinds, MoreBinds, Equations, NoEquations, MoreEquations}
use Rattle.hb_core.specs.Values.{OfRows, Val, NoVals, Function, Env, NoEnv, Bind, Group}
use Rattle.hb_core.specs.View.{View}

abbrev pub node : Expr → ℕ
node (AnExpr n place kind) = n

-- the number of the first row's expression, by which rows are known
abbrev pub rows_node : Equations → ℕ
rows_node NoEquations = 0
rows_node (MoreEquations ps place e local rows) = node e

-- how many parameters rows have
abbrev pub rows_arity : Equations → ℕ
rows_arity NoEquations = 0
rows_arity (MoreEquations ps place e local rows) = length ps

-- the rows of functions that stand next to each other, as far as they go
abbrev pub functions_kept : ℕ → Binds → Binds → Binds
functions_kept zero bs rest = NoBinds
functions_kept (suc n) bs rest = bs

abbrev pub functions_first : Binds → Binds
functions_first NoBinds = NoBinds
functions_first (MoreBinds x place rows bs) = functions_kept (rows_arity rows) (MoreBinds x place rows (functions_first bs)) bs

-- a local function with its group: all that a function needs to be called
abbrev pub function_of : Equations → ℕ → List Ty → Env → Option Val
function_of rows zero ts env = None
function_of rows (suc left) ts env = Some (Function (OfRows (rows_node rows)) left rows ts env NoVals)

-- the function of a group that is this local; its environment is the one with the group
abbrev pub find_function : View → ℕ → Binds → List Ty → Env → Option Val → Option Val
find_function P local NoBinds ts env other = other
find_function P local (MoreBinds x place rows bs) ts env other =
    cond (P.binder (rows_node rows) == local) (function_of rows (rows_arity rows) ts env) (find_function P local bs ts env other)

abbrev pub find : View → ℕ → Env → Option Val
find P local NoEnv = None
find P local (Bind l v env) = cond (l == local) (Some v) (find P local env)
find P local (Group bs ts env) = find_function P local bs ts (Group bs ts env) (find P local env)
