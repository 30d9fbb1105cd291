-- What one turn of `run` does: a step, and the line of what it shows.
use Rattle.std.specs.Prelude.{◌≡◌, ℕ, List, Option, IsSome}
use Rattle.hb_io.specs.Counts.{Rose}
use Rattle.hb_io.specs.Taken.{appended, TookFront}
use Rattle.hb_script.specs.Lines.{line_of}
use Rattle.hb_isa.specs.State.{State}
use Rattle.hb_isa.specs.Table.{table}
use Rattle.hb_mach.specs.declared.turn.Turn.{Turn}
use Rattle.hb_mach.specs.declared.turn.Turn.TheVariants.{Goes, Ends, Fails}

pub record TurnGoes (old new : State) (before now : Option (List ℕ)) (faults_before faults_now : ℕ) : Type 0 where
  pub state : new ≡ (table old).0
  pub line : now ≡ appended before (line_of old.ports (table old).1)
  pub faults : faults_now ≡ faults_before

-- a step that ends the run shows no line
pub record TurnEnds (old new : State) (before now : Option (List ℕ)) (faults_before faults_now : ℕ) : Type 0 where
  pub goes : TurnGoes old new before now faults_before faults_now
  pub ended : IsSome new.ended

pub record TurnFails (old new : State) (before now : Option (List ℕ)) (faults_before faults_now : ℕ) : Type 0 where
  pub state : new ≡ (table old).0
  pub front : TookFront before (line_of old.ports (table old).1) now
  pub fault : Rose faults_before faults_now

abbrev pub Turned : Turn → State → State → Option (List ℕ) → Option (List ℕ) → ℕ → ℕ → Type 0
Turned Goes = TurnGoes
Turned Ends = TurnEnds
Turned Fails = TurnFails
