-- What a run shows grows by at most one event or the end a step.
use Rattle.std.proofs.Common.{◌≡◌, ℕ, zero, suc, ◌%◌, ◌==◌, Bool, true, false, if◌then◌else◌, List, [], ◌∷◌, ◌++◌, Option, Some, None, refl, ap, position, append-nil}
use Rattle.hb_asm.specs.declared.instr.Instr.{Instr}
use Rattle.hb_asm.specs.declared.instr.Instr.TheVariants.{Lui, Auipc, Jal, Jalr, Branch, Load, Store, OpImm, Op, Fence, Ecall, Ebreak}
use Rattle.hb_asm.specs.declared.instr.LoadOp.{LoadOp}
use Rattle.hb_asm.specs.declared.instr.StoreOp.{StoreOp}
use Rattle.hb_base.specs.declared.step.Step.{Step}
use Rattle.hb_base.specs.declared.step.Step.TheVariants.{Going, Read, Wrote, Ended}
use Rattle.hb_base.specs.declared.step.Stop.{Stop}
use Rattle.hb_base.specs.declared.step.Stop.TheVariants.{Misaligned, Unmapped, InputEnd, Illegal, Break}
use Rattle.hb_runs.specs.Outcome.{Outcome, GrowsTo, Stays, Shows, Ends, Grows}
use Rattle.hb_runs.specs.Stepping.{after, answers}
use Rattle.hb_asm.specs.Arithmetic.{load_size, store_size, extended, low_part}
use Rattle.hb_base.specs.Inputs.{first_value}
use Rattle.hb_isa.specs.Memory.{Memory, load, store}
use Rattle.hb_isa.specs.State.{State}
use Rattle.hb_isa.specs.Table.{table, running, fetched, execute, computed, branching, jumping, loading, loading_memory, loading_port, reading, storing, storing_memory, storing_port, ending, is_read_at, is_written_at, instruction_at_pc}
use Rattle.hb_isa.specs.Run.{events, shown}

-- the end before a step, the end after it, and what it answers
pub data Turn : Option Stop → Option Stop → Step → Type 0 where
  Quiet : Turn None None Going
  Reads : (port value : ℕ) → Turn None None (Read port value)
  Writes : (port value : ℕ) → Turn None None (Wrote port value)
  Stops : (stop : Stop) → Turn None (Some stop) (Ended stop)
  Over : (stop : Stop) → Turn (Some stop) (Some stop) (Ended stop)

abbrev pub Turns : State → State × Step → Type 0
Turns s r = Turn s.ended r.0.ended r.1

either : (s : State) (b : Bool) (x y : State × Step) → Turns s x → Turns s y → Turns s (if b then x else y)
either s true x y p q = p
either s false x y p q = q

turns-ending : (stop : Stop) (s : State) → s.ended ≡ None → Turns s (ending stop s)
turns-ending stop s e = rw e (Stops stop)

turns-computed : (rd word : ℕ) (s : State) → s.ended ≡ None → Turns s (computed rd word s)
unfolding computed
turns-computed rd word s e = rw e Quiet

turns-branching : (taken : Bool) (target : ℕ) (s : State) → s.ended ≡ None → Turns s (branching taken target s)
unfolding branching
turns-branching false target s e = rw e Quiet
turns-branching true target s e = either s (target % 4 == 0) _ _ (rw e Quiet) (turns-ending Misaligned s e)

turns-jumping : (rd target : ℕ) (s : State) → s.ended ≡ None → Turns s (jumping rd target s)
unfolding jumping
turns-jumping rd target s e = either s (target % 4 == 0) _ _ (rw e Quiet) (turns-ending Misaligned s e)

turns-reading : (value : Option ℕ) (port : ℕ) (op : LoadOp) (rd : ℕ) (s : State) → s.ended ≡ None → Turns s (reading value port op rd s)
unfolding reading
turns-reading None port op rd s e = turns-ending (InputEnd port) s e
turns-reading (Some value) port op rd s e = rw e (Reads port value)

turns-loading_port : (port : Option ℕ) (op : LoadOp) (rd : ℕ) (s : State) → s.ended ≡ None → Turns s (loading_port port op rd s)
unfolding loading_port
turns-loading_port None op rd s e = turns-ending Unmapped s e
turns-loading_port (Some port) op rd s e = turns-reading (first_value port s.lines) port op rd s e

turns-loading_memory : (number : Option ℕ) (op : LoadOp) (rd address : ℕ) (s : State) → s.ended ≡ None → Turns s (loading_memory number op rd address s)
unfolding loading_memory
turns-loading_memory (Some number) op rd address s e = turns-computed rd (extended op number) s e
turns-loading_memory None op rd address s e = turns-loading_port (position (is_read_at address (load_size op)) s.ports) op rd s e

turns-loading : (op : LoadOp) (rd address : ℕ) (s : State) → s.ended ≡ None → Turns s (loading op rd address s)
unfolding loading
turns-loading op rd address s e =
    either s (address % load_size op == 0) _ _ (turns-loading_memory (load s.memory address (load_size op)) op rd address s e) (turns-ending Misaligned s e)

turns-storing_port : (port : Option ℕ) (word : ℕ) (s : State) → s.ended ≡ None → Turns s (storing_port port word s)
unfolding storing_port
turns-storing_port None word s e = turns-ending Unmapped s e
turns-storing_port (Some port) word s e = rw e (Writes port word)

turns-storing_memory : (memory : Option Memory) (op : StoreOp) (address word : ℕ) (s : State) → s.ended ≡ None → Turns s (storing_memory memory op address word s)
unfolding storing_memory
turns-storing_memory (Some memory) op address word s e = rw e Quiet
turns-storing_memory None op address word s e = turns-storing_port (position (is_written_at address (store_size op)) s.ports) (low_part op word) s e

turns-storing : (op : StoreOp) (address word : ℕ) (s : State) → s.ended ≡ None → Turns s (storing op address word s)
unfolding storing
turns-storing op address word s e =
    either s (address % store_size op == 0) _ _ (turns-storing_memory (store s.memory address (store_size op) word) op address word s e) (turns-ending Misaligned s e)

turns-execute : (instr : Instr) (s : State) → s.ended ≡ None → Turns s (execute instr s)
unfolding execute
turns-execute (Lui rd imm) s e = turns-computed rd _ s e
turns-execute (Auipc rd imm) s e = turns-computed rd _ s e
turns-execute (Jal rd imm) s e = turns-jumping rd _ s e
turns-execute (Jalr rd rs1 imm) s e = turns-jumping rd _ s e
turns-execute (Branch op rs1 rs2 imm) s e = turns-branching _ _ s e
turns-execute (Load op rd rs1 imm) s e = turns-loading op rd _ s e
turns-execute (Store op rs1 rs2 imm) s e = turns-storing op _ _ s e
turns-execute (OpImm op rd rs1 imm) s e = turns-computed rd _ s e
turns-execute (Op op rd rs1 rs2) s e = turns-computed rd _ s e
turns-execute (Fence high rd) s e = rw e Quiet
turns-execute Ecall s e = turns-ending _ s e
turns-execute Ebreak s e = turns-ending Break s e

turns-fetched : (fetch : Option (Option Instr)) (s : State) → s.ended ≡ None → Turns s (fetched fetch s)
unfolding fetched
turns-fetched None s e = turns-ending Unmapped s e
turns-fetched (Some None) s e = turns-ending Illegal s e
turns-fetched (Some (Some instr)) s e = turns-execute instr s e

turns-running : (ended : Option Stop) (s : State) → s.ended ≡ ended → Turns s (running ended s)
unfolding running
turns-running (Some stop) s e = rw e (Over stop)
turns-running None s e = turns-fetched (instruction_at_pc s) s e

-- what one step of the table can do
pub turns : (s : State) → Turns s (table s)
unfolding table
turns s = turns-running s.ended s refl

-- ---- one step more at the end

pub after-suc : (n : ℕ) (s : State) → after table (suc n) s ≡ (table (after table n s)).0
unfolding after
after-suc zero s = refl
after-suc (suc n) s = after-suc n (table s).0

pub answers-suc : (n : ℕ) (s : State) → answers table (suc n) s ≡ answers table n s ++ (table (after table n s)).1 ∷ []
unfolding after answers
answers-suc zero s = refl
answers-suc (suc n) s = ap (λ steps. (table s).1 ∷ steps) (answers-suc n (table s).0)

pub events-append : (xs ys : List Step) → events (xs ++ ys) ≡ events xs ++ events ys
events-append [] ys = refl
events-append (Going ∷ xs) ys = events-append xs ys
events-append (Read port value ∷ xs) ys = ap (λ steps. Read port value ∷ steps) (events-append xs ys)
events-append (Wrote port value ∷ xs) ys = ap (λ steps. Wrote port value ∷ steps) (events-append xs ys)
events-append (Ended stop ∷ xs) ys = events-append xs ys

-- what has been shown, and what one step's answer adds
abbrev pub Grown : List Step → Option Stop → Option Stop → Step → Type 0
Grown trace before now step = GrowsTo (record { trace = trace; end = before }) (record { trace = trace ++ events (step ∷ []); end = now })

grown : (trace : List Step) (before now : Option Stop) (step : Step) → Turn before now step → Grown trace before now step
grown trace _ _ _ Quiet = rw append-nil (Stays refl)
grown trace _ _ _ (Reads port value) = Shows (Read port value) refl refl
grown trace _ _ _ (Writes port value) = Shows (Wrote port value) refl refl
grown trace _ _ _ (Stops stop) = rw append-nil (Ends stop refl refl)
grown trace _ _ _ (Over stop) = rw append-nil (Stays refl)

pub shown-suc : (s : State) (n : ℕ) → GrowsTo (shown s n) (shown s (suc n))
unfolding shown
shown-suc s n =
    let now = after table n s in
    rw (answers-suc n s, after-suc n s, events-append (answers table n s) ((table now).1 ∷ []))
    (grown (events (answers table n s)) now.ended (table now).0.ended (table now).1 (turns now))

pub shown-grows : (s : State) → s.ended ≡ None → Grows (shown s)
unfolding shown after answers
shown-grows s going = record { starts = ap with_end going; grows = λ n. shown-suc s n }
  where
    with_end : Option Stop → Outcome Step Stop
    with_end end = record { trace = []; end = end }
