-- How the machine goes from one state to another: walks of the system that it is.
use Rattle.std.proofs.Common.{◌≡◌, ℕ, ◌+◌, ◌≤◌, List, [], ◌∷◌, ◌++◌, ap, arith}
use Rattle.hb_base.specs.declared.port.Port.{Port}
use Rattle.hb_base.specs.declared.step.Step.{Step}
use Rattle.hb_base.specs.declared.step.Step.TheVariants.{Going, Read, Wrote, Ended}
use Rattle.hb_base.specs.declared.step.Stop.{Stop}
use Rattle.hb_runs.specs.System.{End, System, weighed, each_one}
use Rattle.hb_runs.specs.Simulation.{Walk}
use Rattle.hb_runs.proofs.Walks as walks
use Rattle.hb_runs.proofs.Counting.{counted-most}
use Rattle.hb_isa.specs.Run.{events, turn_of, turn}
use Rattle.hb_isa.specs.State.{State}
use Rattle.hb_isa.specs.Table.{table}
use Rattle.hb_isa.specs.Touches.{IsAllowed}
use Rattle.hb_select.specs.Law.{NoCell}

-- what is asked of each state in which an instruction is done: its access is allowed
abbrev pub IsFine : List Port → ℕ → State → Type 0
IsFine ports stack s = IsAllowed NoCell ports stack s

-- so many instructions lead there, and show these events
abbrev pub Goes : List Port → ℕ → State → ℕ → List Step → State → Type 0
Goes ports stack from count seen to = Walk turn (IsFine ports stack) count seen from to

-- a step after which the run goes on
abbrev pub GoesOn : Step → Type 0
GoesOn Going = Unit {0}
GoesOn (Read port value) = Unit {0}
GoesOn (Wrote port value) = Unit {0}
GoesOn (Ended stop) = ⊥

pub one_step : (ports : List Port) (stack : ℕ) (s t : State) (answer : Step) → table s ≡ (t, answer) → GoesOn answer → IsFine ports stack s → Goes ports stack s 1 (events (answer ∷ [])) t
unfolding turn turn_of
one_step ports stack s t Going e on fine = walks.goes turn (IsFine ports stack) s t (ap turn_of e) fine
one_step ports stack s t (Read port value) e on fine = walks.shows turn (IsFine ports stack) s t (Read port value) (ap turn_of e) fine
one_step ports stack s t (Wrote port value) e on fine = walks.shows turn (IsFine ports stack) s t (Wrote port value) (ap turn_of e) fine
one_step ports stack s t (Ended stop) e on fine = absurd on

pub nowhere : (ports : List Port) (stack : ℕ) (s : State) → Goes ports stack s 0 [] s
nowhere ports stack s = walks.stays turn (IsFine ports stack) s

-- one way after another
pub together : (ports : List Port) (stack : ℕ) (s t u : State) (m n : ℕ) (before later : List Step) → Goes ports stack s m before t → Goes ports stack t n later u → Goes ports stack s (m + n) (before ++ later) u
together ports stack s t u m n before later g h = walks.together turn (IsFine ports stack) s t u m n before later g h

-- a step that ends the run
pub ends_now : (s t : State) (stop : Stop) → table s ≡ (t, Ended stop) → turn s ≡ End stop
unfolding turn turn_of
ends_now s t stop e = ap turn_of e

-- the machine as a system: an instruction weighs one
abbrev pub machine : System State Step Stop
machine = each_one turn

pub at_most : (s : State) (count most : ℕ) → count ≤ most → weighed machine count s ≤ most
at_most s count most within = omega (arith, within, counted-most turn count s)
