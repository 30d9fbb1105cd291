-- What a run of the machine shows: the port events of so many steps, and the end, or none while the run is going.
use Rattle.std.specs.Prelude.{ℕ, Bool, true, false, List, filter, Option, Some, None}
use Rattle.hb_base.specs.declared.step.Step.{Step}
use Rattle.hb_base.specs.declared.step.Step.TheVariants.{Going, Read, Wrote, Ended}
use Rattle.hb_base.specs.declared.step.Stop.{Stop}
use Rattle.hb_base.specs.declared.step.Stop.TheVariants.{Steps}
use Rattle.hb_runs.specs.Outcome.{Outcome}
use Rattle.hb_runs.specs.Stepping.{after, answers}
use Rattle.hb_runs.specs.System.{Turn, Quiet, Event, End}
use Rattle.hb_isa.specs.State.{State}
use Rattle.hb_isa.specs.Table.{table}

abbrev pub is_event : Step → Bool
is_event Going = false
is_event (Read port value) = true
is_event (Wrote port value) = true
is_event (Ended stop) = false

-- the reads and writes of ports among the answers of steps
abbrev pub events : List Step → List Step
events steps = filter is_event steps

-- how a run is said to have ended, where the steps allowed are done
abbrev pub stop_of : Option Stop → Stop
stop_of None = Steps
stop_of (Some stop) = stop

-- what the first steps of a machine show, whatever its step is
abbrev pub shown_by : (State → State × Step) → State → ℕ → Outcome Step Stop
shown_by step s steps = record { trace = events (answers step steps s); end = (after step steps s).ended }

-- what the first steps from a state show
unfoldable pub shown : State → ℕ → Outcome Step Stop
shown s steps = shown_by table s steps

-- a step as the turn of a system: it goes on in silence, or with an event, or the run ends. No step lacks a rule
unfoldable pub turn_of : State × Step → Turn State Step Stop
turn_of (s, Going) = Quiet s
turn_of (s, Read port value) = Event (Read port value) s
turn_of (s, Wrote port value) = Event (Wrote port value) s
turn_of (s, Ended stop) = End stop

-- a machine by its steps, as a system
abbrev pub turn_by : (State → State × Step) → State → Turn State Step Stop
turn_by step s = turn_of (step s)

unfoldable pub turn : State → Turn State Step Stop
turn s = turn_by table s
