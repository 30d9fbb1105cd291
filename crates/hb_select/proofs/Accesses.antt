-- What the table lets through is allowed where memory has no areas but a stack, and the ports are these.
use Rattle.std.proofs.Common.{◌≡◌, ℕ, ◌≤◌, List, Option, Some, None, sym, subst, arith, position}
use Rattle.std.specs.Prelude.{IfSome}
use Rattle.hb_asm.specs.declared.instr.Instr.{Instr}
use Rattle.hb_asm.specs.declared.instr.Instr.TheVariants.{Lui, Auipc, Jal, Jalr, Branch, Load, Store, OpImm, Op, Fence, Ecall, Ebreak}
use Rattle.hb_asm.specs.declared.instr.LoadOp.{LoadOp}
use Rattle.hb_asm.specs.declared.instr.LoadOp.TheVariants.{Lb, Lh, Lw, Lbu, Lhu}
use Rattle.hb_asm.specs.declared.instr.StoreOp.{StoreOp}
use Rattle.hb_asm.specs.declared.instr.StoreOp.TheVariants.{Sb, Sh, Sw}
use Rattle.hb_asm.specs.Arithmetic.{load_size, store_size}
use Rattle.hb_base.specs.declared.port.Port.{Port}
use Rattle.hb_base.specs.declared.step.Step.{Step}
use Rattle.hb_base.specs.declared.step.Step.TheVariants.{Going, Read, Wrote, Ended}
use Rattle.hb_base.specs.declared.step.Stop.{Stop}
use Rattle.hb_isa.specs.Memory.{Memory}
use Rattle.hb_isa.specs.State.{State}
use Rattle.hb_isa.specs.Table.{table, instruction_at_pc, is_read_at, is_written_at}
use Rattle.hb_isa.specs.Touches.{Access, Loads, Stores, Lies, AtPort, OnStack, Allowed, access_of, access_at, touched, touches}
use Rattle.hb_isa.proofs.MemoryLaws.{within-low, within-high}
use Rattle.hb_isa.proofs.TouchLaws.{Through, InAreas, InStack, OnPort, IsThrough, IsLetThrough, touches-through}
use Rattle.hb_select.specs.Law.{NoCell}
use Rattle.hb_select.proofs.Frames.{IsFrame}
use Rattle.hb_select.proofs.Goes.{IsFine, GoesOn}

-- ---- an access has a byte at least

abbrev bytes_of : Access → ℕ
bytes_of (Loads address size) = size
bytes_of (Stores address size) = size

load_least : (op : LoadOp) → 1 ≤ load_size op
unfolding load_size
load_least Lb = omega arith
load_least Lh = omega arith
load_least Lw = omega arith
load_least Lbu = omega arith
load_least Lhu = omega arith

store_least : (op : StoreOp) → 1 ≤ store_size op
unfolding store_size
store_least Sb = omega arith
store_least Sh = omega arith
store_least Sw = omega arith

abbrev HasByte : Access → Type 0
HasByte access = 1 ≤ bytes_of access

instr_least : (instr : Instr) (s : State) → IfSome (access_of instr s) HasByte
unfolding access_of
instr_least (Lui rd imm) s = tt
instr_least (Auipc rd imm) s = tt
instr_least (Jal rd imm) s = tt
instr_least (Jalr rd rs1 imm) s = tt
instr_least (Branch op rs1 rs2 imm) s = tt
instr_least (Load op rd rs1 imm) s = load_least op
instr_least (Store op rs1 rs2 imm) s = store_least op
instr_least (OpImm op rd rs1 imm) s = tt
instr_least (Op op rd rs1 rs2) s = tt
instr_least (Fence high rd) s = tt
instr_least Ecall s = tt
instr_least Ebreak s = tt

fetch_least : (fetch : Option (Option Instr)) (s : State) → IfSome (access_at fetch s) HasByte
unfolding access_at
fetch_least None s = tt
fetch_least (Some None) s = tt
fetch_least (Some (Some instr)) s = instr_least instr s

ended_least : (ended : Option Stop) (s : State) → IfSome (touched ended s) HasByte
unfolding touched
ended_least (Some stop) s = tt
ended_least None s = fetch_least (instruction_at_pc s) s

touches_least : (s : State) → IfSome (touches s) HasByte
unfolding touches
touches_least s = ended_least s.ended s

-- ---- and is allowed

lies : (stack : ℕ) (words : List ℕ) (memory : Memory) (port : Option ℕ) (address size : ℕ) → IsFrame stack words memory → 1 ≤ size → Through memory port address size → Lies NoCell port stack address size
lies stack words memory port address size frame least (InAreas w) =
    absurd (omega (arith, least, frame.low, frame.areas, within-low memory.areas address size w, within-high memory.areas address size w))
lies stack words memory port address size frame least (InStack w) =
    OnStack
    (omega (arith, frame.base, within-low memory.stack address size w))
    (omega (arith, frame.base, frame.size, frame.most, within-high memory.stack address size w))
lies stack words memory port address size frame least (OnPort there) = AtPort there

allowed : (ports : List Port) (stack : ℕ) (words : List ℕ) (s : State) (access : Access) → IsFrame stack words s.memory → s.ports ≡ ports → HasByte access → IsThrough s access → Allowed NoCell ports stack access
allowed ports stack words s (Loads address size) frame same least h =
    (h.0, subst (λ (ps : List Port). Lies NoCell (position (is_read_at address size) ps) stack address size) same (lies stack words s.memory _ address size frame least h.1))
allowed ports stack words s (Stores address size) frame same least h =
    (h.0, subst (λ (ps : List Port). Lies NoCell (position (is_written_at address size) ps) stack address size) same (lies stack words s.memory _ address size frame least h.1))

both : (o : Option Access) (P Q R : Access → Type 0) → IfSome o P → IfSome o Q → ((access : Access) → P access → Q access → R access) → IfSome o R
both None P Q R p q f = tt
both (Some access) P Q R p q f = f access p q

pub goes_through : (answer : Step) → GoesOn answer → IsLetThrough answer
goes_through Going on = tt
goes_through (Read port value) on = tt
goes_through (Wrote port value) on = tt
goes_through (Ended stop) on = absurd on

pub fine_step : (ports : List Port) (stack : ℕ) (words : List ℕ) (s t : State) (answer : Step) → IsFrame stack words s.memory → s.ports ≡ ports → table s ≡ (t, answer) → IsLetThrough answer → IsFine ports stack s
fine_step ports stack words s t answer frame same e h =
    let through : IsLetThrough (table s).1 = subst (λ (r : State × Step). IsLetThrough r.1) (sym e) h in
    both (touches s) HasByte (IsThrough s) (Allowed NoCell ports stack) (touches_least s) (touches-through s through)
    (λ access least let_through. allowed ports stack words s access frame same least let_through)
