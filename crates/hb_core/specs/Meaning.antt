-- What a source means: the events, the cells and the end that so many steps show, over the rooms of its bodies, a stack
-- and a script.
use Rattle.std.specs.Prelude.{ℕ, Bool, cond, List, [], slice_index, slice_get, Option, Some, None}
use Rattle.hb_base.specs.declared.step.Step.{Step}
use Rattle.hb_base.specs.declared.step.Stop.{Stop}
use Rattle.hb_base.specs.declared.step.Stop.TheVariants as stop
use Rattle.hb_base.specs.declared.script.ScriptLine.{ScriptLine}
use Rattle.hb_types.specs.Types.{Ty}
use Rattle.hb_runs.specs.Outcome.{Outcome}
use Rattle.hb_runs.specs.System.{Finished}
use Rattle.hb_runs.specs.Inner.{publicly}
use Rattle.hb_steps.specs.Tree.{Over, does}
use Rattle.hb_core.specs.Actions.{answer}
use Rattle.hb_core.specs.Asks.{Tree}
use Rattle.hb_core.specs.Evaluation.{with, starts_rows, performs}
use Rattle.hb_core.specs.Events.{Held, Event, public, cells_after}
use Rattle.hb_core.specs.Initialisation.{initialises_areas, area_covers}
use Rattle.hb_core.specs.Values.{Site, Part, NoEnv}
use Rattle.hb_core.specs.View.{View}

-- ---- the whole run

-- `main` is called, and its value is run; then the end of `main` is a step
abbrev pub runs_main : View → Tree
runs_main P = with (P.tops P.main) (λ rows. starts_rows rows [] NoEnv 0 (λ v. performs v 0 (λ w. Over stop.Done)))

-- the cells in order of address, and then `main`
abbrev pub whole : View → Tree
whole P = initialises_areas P P.areas 0 (λ u. runs_main P)

-- the room of a body at its types, from the list of rooms by the body's number
abbrev pub room_from : (Site → List Ty → ℕ) → List ℕ → Site → List Ty → ℕ
room_from number rooms site ts = slice_index rooms (number site ts)

-- what so many steps show, with the events inside: `number` is the number of each body at its types in the list of rooms
abbrev pub runs : View → (Site → List Ty → ℕ) → List ℕ → ℕ → List ScriptLine → ℕ → Outcome Event (Finished Stop)
runs P number rooms stack script n = does (answer P (room_from number rooms) stack script) n (whole P)

-- ---- what is shown

-- a cell: its initialisation has not come yet; or it has no initialiser and was not written yet; or it holds a value
pub data CellState : Type 0 where
  Blank : CellState
  Zero : CellState
  Holds : Held → CellState

abbrev pub cell_state : Bool → Option Held → CellState
cell_state initialised (Some h) = Holds h
cell_state initialised None = cond initialised Blank Zero

-- the state of the cell of an area at a path
abbrev pub cell_in : View → List Event → ℕ → List Part → CellState
cell_in P trace area path = cell_state (area_covers P (slice_get P.areas area) path) (cells_after trace area path)

-- no end says that the run is going on
pub record Meaning : Type 0 where
  pub trace : List Step
  pub cells : ℕ → List Part → CellState
  pub end : Option (Finished Stop)

abbrev pub shown : View → Outcome Event (Finished Stop) → Meaning
shown P o = record { trace = (publicly public o).trace; cells = cell_in P o.trace; end = o.end }

abbrev pub says : View → (Site → List Ty → ℕ) → List ℕ → ℕ → List ScriptLine → ℕ → Meaning
says P number rooms stack script n = shown P (runs P number rooms stack script n)
