-- What a run of a block program has still to do, and what it stands in.
use Rattle.std.specs.Prelude.{ℕ, ◌+◌, nat_le, Bool, true, false, List, [], ◌∷◌, ◌++◌, slice_index, Option, Some, None}
use Rattle.hb_base.specs.declared.port.Port.{Port}
use Rattle.hb_base.specs.declared.script.ScriptLine.{ScriptLine}
use Rattle.hb_base.specs.declared.step.Stop.{Stop}
use Rattle.hb_base.specs.declared.step.Stop.TheVariants as stop
use Rattle.hb_area.specs.declared.form.CellForm.{CellForm}
use Rattle.hb_mil.specs.declared.form.Step.{Step}
use Rattle.hb_mil.specs.declared.form.Block.{Block}
use Rattle.hb_mil.specs.declared.form.Mil.{Mil}
use Rattle.hb_runs.specs.System as system
use Rattle.hb_runs.specs.System.{Quiet, End, Wrong}
use Rattle.hb_mil_meaning.specs.Values.{Val}
use Rattle.hb_mil_meaning.specs.Events.{Event, Cells}

-- the program, the bytes of its stack, its ports in text order, and how the cell of an area so many bytes after its
-- begin stands, if there is one
pub record Setting : Type 0 where
  pub mil : Mil
  pub stack : ℕ
  pub ports : List Port
  pub form_at : ℕ → ℕ → Option CellForm

-- a call in progress: its block, the steps left of it, the locals so far, the room of its body, and the bytes in use
-- under it
pub record Call : Type 0 where
  pub block : Block
  pub steps : List Step
  pub locals : List Val
  pub room : ℕ
  pub under : ℕ

-- the call that goes on, and those that wait for a value, the last one first; the lines that no port has taken; and
-- what cells hold
pub record State : Type 0 where
  pub now : Call
  pub waiting : List Call
  pub lines : List ScriptLine
  pub cells : Cells

abbrev pub Turn : Type 0
Turn = system.Turn State Event Stop

-- ---- locals

abbrev pub with_local : Val → Call → Call
with_local v call = record call { locals = call.locals ++ v ∷ [] }

-- a step sets the next local
abbrev pub gives : Option Val → State → Turn
gives None t = Wrong
gives (Some v) t = Quiet (record t { now = with_local v t.now })

-- ---- blocks of the same body

-- the call goes on at a block, with these locals
abbrev pub goes_on : Block → List Val → Call → Call
goes_on block locals call = record call { block = block; steps = block.steps; locals = locals }

abbrev pub goes : Option Block → Option (List Val) → State → Turn
goes (Some block) (Some locals) t = Quiet (record t { now = goes_on block locals t.now })
goes block locals t = Wrong

-- ---- calls

-- a block that begins, and what its parameters are
pub record Entry : Type 0 where
  pub block : Block
  pub arguments : List Val

-- a block of no body takes no room
abbrev pub room_of : List ℕ → Option ℕ → ℕ
room_of rooms None = 0
room_of rooms (Some body) = slice_index rooms body

abbrev pub called : List ℕ → Entry → ℕ → Call
called rooms entry under = record {
  block = entry.block;
  steps = entry.block.steps;
  locals = entry.arguments;
  room = room_of rooms entry.block.body;
  under = under;
}

abbrev pub opened : Bool → State → Turn
opened true t = Quiet t
opened false t = End stop.Stack

-- a call goes on before others that wait, or the bytes in use are more than the stack has
abbrev pub opens : ℕ → Call → List Call → State → Turn
opens stack call waiting t = opened (nat_le (call.under + call.room) stack) (record t { now = call; waiting = waiting })

abbrev pub calls : Option Entry → Setting → State → Turn
calls None s t = Wrong
calls (Some entry) s t = opens s.stack (called s.mil.rooms entry (t.now.under + t.now.room)) (t.now ∷ t.waiting) t

-- in the place of the block
abbrev pub jumps : Option Entry → Setting → State → Turn
jumps None s t = Wrong
jumps (Some entry) s t = opens s.stack (called s.mil.rooms entry t.now.under) t.waiting t

abbrev pub resumes : List Call → Val → State → Turn
resumes [] v t = Wrong
resumes (call ∷ more) v t = Quiet (record t { now = with_local v call; waiting = more })

-- the call is over
abbrev pub returns : Option Val → State → Turn
returns None t = Wrong
returns (Some v) t = resumes t.waiting v t
