-- How each step is answered: calls and runs take their room, ports and cells are read and written.
use Rattle.std.specs.Prelude.{ℕ, ◌+◌, nat_le, Bool, true, false, List, Option, Some, None}
use Rattle.hb_base.specs.declared.step.Stop.{Stop}
use Rattle.hb_base.specs.declared.step.Stop.TheVariants as stop
use Rattle.hb_base.specs.declared.script.ScriptLine.{ScriptLine}
use Rattle.hb_types.specs.Types.{Ty}
use Rattle.hb_steps.specs.Tree.{Wrong, Then, Goes, Shows, Stops, Answers}
use Rattle.hb_core.specs.Asks.{Ask, Calls, Runs, Returns, Halts, ReadsPort, WritesPort, ReadsCell, WritesCell, Turns, Initialises, Tree, Next}
use Rattle.hb_core.specs.Evaluation.{with, eval_rows, eval_stmts}
use Rattle.hb_core.specs.Events.{Held, held, value_held, Event, Read, Wrote, Put, cells_after, next_line}
use Rattle.hb_core.specs.Numbers.{value_at}
use Rattle.hb_core.specs.Values.{Site, Part, Val, Built, NoVals}
use Rattle.hb_core.specs.View.{View}

abbrev pub Answer : Type 0
Answer = Then Ask Val Event Stop

-- the bytes in use once a body is entered: the body goes on, or they are more than the stack has
abbrev pub opened : Bool → (ℕ → Tree) → ℕ → Answer
opened true body high = Goes (body high)
opened false body high = Stops stop.Stack

abbrev pub opens : ℕ → ℕ → (ℕ → Tree) → Answer
opens stack high body = opened (nat_le high stack) body high

abbrev pub unit : View → Val
unit P = Built P.unit NoVals

-- the line that was taken, as a value of the port's type
abbrev pub took : View → Ty → ℕ → Option ℕ → Next → Answer
took P t port None k = Stops (stop.InputEnd port)
took P t port (Some n) k = Shows (Read port n) (with (value_at P t n) k)

-- what a cell holds; where it never got a value, zero
abbrev pub found : View → Ty → Option Held → Next → Answer
found P t (Some h) k = Goes (k (value_held h))
found P t None k = Goes (with (value_at P t 0) k)

abbrev pub puts_in : View → ℕ → List Part → Option Held → Next → Answer
puts_in P area path (Some h) k = Shows (Put area path h) (k (unit P))
puts_in P area path None k = Goes Wrong

-- `room` is the room of each body at its types
abbrev pub answer : View → (Site → List Ty → ℕ) → ℕ → List ScriptLine → Answers Ask Val Event Stop
answer P room stack script trace (Calls site rows ts env vs under) k = opens stack (under + room site ts) (λ high. eval_rows P rows vs ts env under high k)
answer P room stack script trace (Runs site ss ts env under) k = opens stack (under + room site ts) (λ high. eval_stmts P ss ts env under high k)
answer P room stack script trace (Returns v) k = Goes (k v)
answer P room stack script trace (Halts code) k = Stops (stop.Halt code)
answer P room stack script trace (ReadsPort t port) k = took P t port (next_line port script trace) k
answer P room stack script trace (WritesPort port n) k = Shows (Wrote port n) (k (unit P))
answer P room stack script trace (ReadsCell t area path) k = found P t (cells_after trace area path) k
answer P room stack script trace (WritesCell area path v) k = puts_in P area path (held v) k
answer P room stack script trace Turns k = Goes (k (unit P))
answer P room stack script trace (Initialises area path v) k = puts_in P area path (held v) k
