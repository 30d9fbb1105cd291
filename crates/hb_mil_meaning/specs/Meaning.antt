-- What a block program shows. A step or a tail done is one count, and a count shows at most one event, or the end.
use Rattle.std.specs.Prelude.{ℕ, List, [], ◌∷◌, ◌++◌, take, slice_get, Option, Some, None, option_map, option_and_then}
use Rattle.hb_base.specs.declared.script.ScriptLine.{ScriptLine}
use Rattle.hb_base.specs.declared.step.Stop.{Stop}
use Rattle.hb_base.specs.declared.step.Stop.TheVariants as stop
use Rattle.hb_mil.specs.declared.form.Atom.{Atom}
use Rattle.hb_mil.specs.declared.form.Operation.{Operation}
use Rattle.hb_mil.specs.declared.form.Operation.TheVariants.{Primitive, Make, Build, Cut, Place, Has, Offset, Part, Call, Apply, Perform, ReadCell, WriteCell, ReadPort, WritePort, CellAt, Initialise}
use Rattle.hb_mil.specs.declared.form.Step.{Step}
use Rattle.hb_mil.specs.declared.form.Tail.{Tail}
use Rattle.hb_mil.specs.declared.form.Tail.TheVariants.{Return, Jump, Enter, Run, Switch, Goto, Halt, Done}
use Rattle.hb_mil.specs.declared.form.Block.{Block}
use Rattle.hb_runs.specs.Outcome.{Outcome, nothing_yet}
use Rattle.hb_runs.specs.System.{Finished, End, Wrong, told}
use Rattle.hb_mil_meaning.specs.Values.{Val, Number, Built, Reference, vals}
use Rattle.hb_mil_meaning.specs.Events.{Event, no_cells}
use Rattle.hb_mil_meaning.specs.Primitives.{computed}
use Rattle.hb_mil_meaning.specs.Operations.{value, values, made, part, cut, placed, has, moved, cell_at}
use Rattle.hb_mil_meaning.specs.States.{Setting, State, Turn, gives, goes, called, calls, jumps, returns}
use Rattle.hb_mil_meaning.specs.Labels.{entry, applied, performed}
use Rattle.hb_mil_meaning.specs.Accesses.{reads_port, writes_port, reads_cell, puts_in}

-- ---- steps

abbrev pub placed_in : Option Val → Option Val → ℕ → ℕ → Option Val
placed_in (Some v) (Some w) at width = placed at width v w
placed_in v w at width = None

-- what an operation does, with the steps behind it left
abbrev pub does : Setting → Operation → State → Turn
does s (Primitive number numbers atoms) t = gives (option_and_then (computed number numbers) (values t.now.locals atoms)) t
does s (Make class label atoms) t = gives (option_and_then (made s.mil.classes class label) (values t.now.locals atoms)) t
does s (Build constructor atoms) t = gives (option_map (λ vs. Built constructor (vals vs)) (values t.now.locals atoms)) t
does s (Cut a at width) t = gives (option_and_then (cut at width) (value t.now.locals a)) t
does s (Place a at width b) t = gives (placed_in (value t.now.locals a) (value t.now.locals b) at width) t
does s (Has a mask bits) t = gives (option_and_then (has mask bits) (value t.now.locals a)) t
does s (Offset a bytes) t = gives (option_and_then (moved bytes) (value t.now.locals a)) t
does s (Part a constructor place) t = gives (option_and_then (part constructor place) (value t.now.locals a)) t
does s (CellAt area offset indices) t = gives (cell_at t.now.locals indices (Reference area offset)) t
does s (Call block atoms) t = calls (entry (slice_get s.mil.blocks block) (values t.now.locals atoms)) s t
does s (Apply f a) t = calls (applied s.mil t.now f a) s t
does s (Perform f) t = calls (performed s.mil t.now f) s t
does s (ReadCell a form) t = reads_cell (value t.now.locals a) form s t
does s (WriteCell a form b) t = puts_in (value t.now.locals a) (value t.now.locals b) form s t
does s (Initialise a form b) t = puts_in (value t.now.locals a) (value t.now.locals b) form s t
does s (ReadPort a bytes) t = reads_port (value t.now.locals a) bytes s t
does s (WritePort a bytes b) t = writes_port (value t.now.locals a) (value t.now.locals b) bytes s t

-- ---- tails

-- the number of a constructor, or a number
abbrev pub choice : Val → Option ℕ
choice (Built k vs) = Some k
choice (Number n) = Some n
choice v = None

-- the block of that number among the targets
abbrev pub chosen : List Block → List ℕ → Option Val → Option Block
chosen blocks targets v = option_and_then (slice_get blocks) (option_and_then (slice_get targets) (option_and_then choice v))

-- the first so many locals, and a value behind them, if there is one
abbrev pub kept : List Val → ℕ → Option Atom → Option (List Val)
kept locals count None = Some (take count locals)
kept locals count (Some a) = option_map (λ v. take count locals ++ v ∷ []) (value locals a)

abbrev pub halts : Option Val → Turn
halts (Some (Number code)) = End (stop.Halt code)
halts v = Wrong

abbrev pub closes : Setting → Tail → State → Turn
closes s (Return a) t = returns (value t.now.locals a) t
closes s (Jump block atoms) t = jumps (entry (slice_get s.mil.blocks block) (values t.now.locals atoms)) s t
closes s (Enter f a) t = jumps (applied s.mil t.now f a) s t
closes s (Run f) t = jumps (performed s.mil t.now f) s t
closes s (Switch a targets) t = goes (chosen s.mil.blocks targets (value t.now.locals a)) (Some t.now.locals) t
closes s (Goto block count a) t = goes (slice_get s.mil.blocks block) (kept t.now.locals count a) t
closes s (Halt a) t = halts (value t.now.locals a)
closes s Done t = End stop.Done

-- ---- turns

abbrev pub with_steps : List Step → State → State
with_steps steps t = record t { now = record t.now { steps = steps } }

abbrev pub next : List Step → Setting → State → Turn
next [] s t = closes s t.now.block.tail t
next (step ∷ steps) s t = does s step.operation (with_steps steps t)

-- one count
unfoldable pub turn : Setting → State → Turn
turn s t = next t.now.steps s t

-- ---- runs

-- the first block has no parameters, and takes the room of its body on an empty stack
abbrev pub begun : Setting → List ScriptLine → Block → State
begun s lines block = record {
  now = called s.mil.rooms (record { block = block; arguments = [] }) 0;
  waiting = [];
  lines = lines;
  cells = no_cells;
}

abbrev pub shown_from : Option Block → Setting → List ScriptLine → ℕ → Outcome Event (Finished Stop)
shown_from None s lines n = nothing_yet
shown_from (Some block) s lines n = told (turn s) n (begun s lines block)

-- what so many counts of a block program show, with these lines as inputs
abbrev pub runs : Setting → List ScriptLine → ℕ → Outcome Event (Finished Stop)
runs s lines n = shown_from (slice_get s.mil.blocks s.mil.entry) s lines n
