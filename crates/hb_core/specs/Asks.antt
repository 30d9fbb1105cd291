-- What the steps of an evaluation ask for.
use Rattle.std.specs.Prelude.{ℕ, List}
use Rattle.hb_base.specs.declared.step.Stop.{Stop}
use Rattle.hb_types.specs.Types.{Ty}
use Rattle.hb_tree.specs.Expressions.{Stmts, Equations}
use Rattle.hb_steps.specs.Tree.{Run}
use Rattle.hb_core.specs.Values.{Site, Part, Val, Vals, Env}

-- each of these is one step
pub data Ask : Type 0 where
  -- a call of rows at types, in an environment, with arguments; the bytes in use under it
  Calls : Site → Equations → List Ty → Env → Vals → ℕ → Ask
  -- a run of the statements of a `do`; the bytes in use under it
  Runs : Site → Stmts → List Ty → Env → ℕ → Ask
  Returns : Val → Ask
  Halts : ℕ → Ask
  -- a port of values of a type
  ReadsPort : Ty → ℕ → Ask
  WritesPort : ℕ → ℕ → Ask
  -- a cell with values of a type
  ReadsCell : Ty → ℕ → List Part → Ask
  WritesCell : ℕ → List Part → Val → Ask
  -- a turn of an `each`
  Turns : Ask
  -- a cell gets its first value
  Initialises : ℕ → List Part → Val → Ask

-- what is left to be done: a tree of due steps
abbrev pub Tree : Type 0
Tree = Run Ask Val Stop

-- what comes after a value
abbrev pub Next : Type 0
Next = Val → Tree
