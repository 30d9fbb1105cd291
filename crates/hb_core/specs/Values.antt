-- Values at ground types, and the environments in which code is evaluated.
use Rattle.std.specs.Prelude.{ℕ, Bool, List}
use Rattle.hb_types.specs.Types.{Ty}
use Rattle.hb_tree.specs.Expressions.{Stmts, Binds, Equations}
use Rattle.hb_core.specs.Prims.{Prim}

-- a place in the code whose evaluation is a call or a run: the rows of a definition, by the number of the first row's
-- expression; a lambda or a `do` by its number; and the expression of a cell by its number. The number of a
-- definition's expression may be that of a lambda too, so the kind goes with it
pub data Site : Type 0 where
  OfRows : ℕ → Site
  OfLambda : ℕ → Site
  OfSteps : ℕ → Site
  OfCell : ℕ → Site

-- one step of a path into an area: the field of a struct by its place among the fields, or the element of an array
pub data Part : Type 0 where
  Field : ℕ → Part
  Element : ℕ → Part

mutual
  -- In what waits for arguments the number says how many are missing beside the next one.
  pub data Val : Type 0 where
    -- an Unsigned, a NonZero, the 32 bits of a Signed, or an index
    Number : ℕ → Val
    -- a value of a bit type or of a bitdata type: its bits, the most significant first
    Pattern : List Bool → Val
    -- a constructor of a data type with all its arguments
    Built : ℕ → Vals → Val
    -- an area, and the path into it
    Reference : ℕ → List Part → Val
    Port : ℕ → Val
    -- rows with the types for the variables of their definition, the environment, and the arguments so far
    Function : Site → ℕ → Equations → List Ty → Env → Vals → Val
    -- a constructor with its arguments so far
    Making : ℕ → ℕ → Vals → Val
    -- a primitive at types, with its arguments so far
    Computing : Prim → ℕ → List Ty → Vals → Val
    -- the action of a `do`
    Steps : Site → Stmts → List Ty → Env → Val
    -- the action of a primitive at types, with all its arguments
    Acting : Prim → List Ty → Vals → Val

  pub data Vals : Type 0 where
    NoVals : Vals
    MoreVals : Val → Vals → Vals

  -- locals by their numbers, the innermost first
  pub data Env : Type 0 where
    NoEnv : Env
    Bind : ℕ → Val → Env → Env
    -- functions that stand next to each other, at the types of the definition that they stand in: each sees the others
    Group : Binds → List Ty → Env → Env

-- one more at the end
abbrev pub and_one : Vals → Val → Vals
and_one NoVals v = MoreVals v NoVals
and_one (MoreVals w ws) v = MoreVals w (and_one ws v)

abbrev pub one : Val → Vals
one v = MoreVals v NoVals
