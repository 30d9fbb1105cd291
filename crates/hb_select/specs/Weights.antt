-- How many instructions a count of a flat program takes at most.
use Rattle.std.specs.Prelude.{ℕ, List, [], ◌∷◌, slice_get, Option, Some, None}
use Rattle.hb_base.specs.declared.port.Port.{Port}
use Rattle.hb_base.specs.declared.script.ScriptLine.{ScriptLine}
use Rattle.hb_flat.specs.declared.form.FlatStep.{FlatStep}
use Rattle.hb_flat.specs.declared.form.FlatStep.TheVariants.{Set, Alu, Load, Store}
use Rattle.hb_flat.specs.declared.form.FlatTail.{FlatTail}
use Rattle.hb_flat.specs.declared.form.FlatTail.TheVariants.{Done}
use Rattle.hb_flat.specs.declared.form.FlatBlock.{FlatBlock}
use Rattle.hb_flat.specs.declared.form.Flat.{Flat}
use Rattle.hb_flat.specs.Meaning.{Thread, Turn, Quiet, Event, End, turn, entered}
use Rattle.hb_base.specs.declared.step.Step.{Step}
use Rattle.hb_base.specs.declared.step.Stop.{Stop}
use Rattle.hb_runs.specs.System.{Turn as Turned, Quiet as Goes, Event as Shows, End as Ends, System, weighed}

abbrev pub step_weight : FlatStep → ℕ
step_weight (Set word a) = 4
step_weight (Alu word op a b) = 7
step_weight (Load word address width) = 5
step_weight (Store address width a) = 5

abbrev pub tail_weight : FlatTail → ℕ
tail_weight Done = 2

-- the weight of the next count
abbrev pub next_weight : List FlatStep → FlatTail → ℕ
next_weight [] tail = tail_weight tail
next_weight (step ∷ steps) tail = step_weight step

abbrev pub weight : Thread → ℕ
weight t = next_weight t.steps t.tail

-- ---- a flat program as a system, in which no turn lacks a rule

unfoldable pub turned : Turn → Turned Thread Step Stop
turned (Quiet t) = Goes t
turned (Event event t) = Shows event t
turned (End stop) = Ends stop

abbrev pub system_of : List Port → System Thread Step Stop
system_of ports = record { turn = λ t. turned (turn ports t); weight = weight }

unfoldable pub weighed_from : Option FlatBlock → List Port → List ScriptLine → ℕ → ℕ
weighed_from None ports lines n = 0
weighed_from (Some block) ports lines n = weighed (system_of ports) n (entered block lines)

-- what so many counts of a program weigh, with these ports and these lines as inputs
unfoldable pub weights : Flat → List Port → List ScriptLine → ℕ → ℕ
weights flat ports lines n = weighed_from (slice_get flat.blocks flat.entry) ports lines n
