-- How many instructions a count of a flat program with frames takes at most, what it enters and what it resumes included.
use Rattle.std.specs.Prelude.{ℕ, ◌+◌, ◌*◌, List, [], ◌∷◌, length}
use Rattle.hb_base.specs.declared.port.Port.{Port}
use Rattle.hb_base.specs.declared.step.Step.{Step as Shown}
use Rattle.hb_base.specs.declared.step.Stop.{Stop}
use Rattle.hb_runs.specs.System.{System}
use Rattle.hb_frames.specs.declared.form.Step.{Step}
use Rattle.hb_frames.specs.declared.form.Step.TheVariants.{Set, Alu, Multiply, Divide, Remainder, Load, Store, Call}
use Rattle.hb_frames.specs.declared.form.Tail.{Tail}
use Rattle.hb_frames.specs.declared.form.Tail.TheVariants.{Done, Halt, Return, Goto, Jump, Switch}
use Rattle.hb_frames.specs.declared.form.Frames.{Frames}
use Rattle.hb_frames_meaning.specs.State.{Thread}
use Rattle.hb_frames_meaning.specs.Meaning.{turn}

-- A product, a quotient or a remainder takes at most 1,000 instructions beside those for its words. An argument or a result takes five instructions to be handed over, and five to be taken
abbrev pub step_weight : Step → ℕ
step_weight (Set word a) = 6
step_weight (Alu word op a b) = 10
step_weight (Multiply word a b) = 1009
step_weight (Divide word a b) = 1009
step_weight (Remainder word a b) = 1009
step_weight (Load word address size) = 7
step_weight (Store address size a) = 7
step_weight (Call block arguments results) = 10 * length arguments + 9

abbrev pub tail_weight : Tail → ℕ
tail_weight Done = 2
tail_weight (Halt code) = 5
tail_weight (Return results) = 10 * length results + 5
tail_weight (Goto block) = 2
tail_weight (Jump block arguments) = 10 * length arguments + 13
tail_weight (Switch number blocks) = 2 * length blocks + 4

-- the weight of the next count
abbrev pub next_weight : List Step → Tail → ℕ
next_weight [] tail = tail_weight tail
next_weight (step ∷ steps) tail = step_weight step

abbrev pub weight : Thread → ℕ
weight t = next_weight t.now.steps t.now.tail

abbrev pub system_of : Frames → List Port → System Thread Shown Stop
system_of frames ports = record { turn = turn frames ports; weight = weight }
