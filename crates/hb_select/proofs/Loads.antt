-- What the instructions do that load an operand, set a word, and meet a port.
use Rattle.std.proofs.Common.{◌≡◌, ℕ, ◌+◌, ◌%◌, ◌^◌, ◌<◌, ◌==◌, false, if◌then◌else◌, List, [], ◌∷◌, ◌++◌, length, slice_index, slice_set, Some, refl, ap, ◌∙◌, arith}
use Rattle.std.specs.Prelude.{ℤ}
use Rattle.hb_asm.specs.declared.instr.AluOp.TheVariants.{Add}
use Rattle.hb_asm.specs.declared.instr.LoadOp.TheVariants.{Lw}
use Rattle.hb_asm.specs.declared.instr.StoreOp.TheVariants.{Sw}
use Rattle.hb_asm.specs.declared.instr.Instr.{Instr}
use Rattle.hb_asm.specs.declared.instr.Instr.TheVariants.{Lui, OpImm, Load, Store}
use Rattle.hb_base.specs.declared.port.Port.{Port}
use Rattle.hb_base.specs.declared.script.ScriptLine.{ScriptLine}
use Rattle.hb_base.specs.declared.step.Step.{Step}
use Rattle.hb_base.specs.declared.step.Step.TheVariants.{Going}
use Rattle.hb_flat.specs.declared.form.Operand.{Operand}
use Rattle.hb_flat.specs.declared.form.Operand.TheVariants.{Word, Number}
use Rattle.hb_flat.specs.Meaning.{value_of}
use Rattle.hb_flat.specs.Rules.{IsOperand}
use Rattle.hb_asm.specs.Arithmetic.{wrapped, unsigned, alu_of, load_size, extended, store_size}
use Rattle.hb_isa.specs.Memory.{Memory, load, store}
use Rattle.hb_isa.specs.State.{State}
use Rattle.hb_isa.specs.Table.{table, execute, computed, loading, loading_memory, storing, storing_memory, goes_on, upper}
use Rattle.hb_select.specs.Code.{upper_part, lower_part, address_of, operand_code, put_code}
use Rattle.hb_select.proofs.Numbers.{upper-fits, lower-fits, parts-whole, address-fits}
use Rattle.hb_select.proofs.Accesses.{fine_step}
use Rattle.hb_select.proofs.Goes.{Goes, one_step, together}
use Rattle.hb_select.proofs.Frames.{sets_word, Stored}
use Rattle.hb_select.proofs.Places.{IsAt, Puts, does, on, changed, computes, put_again}

-- ---- LUI, and what completes its number

lui_does : (register imm : ℕ) (s : State) → execute (Lui register imm) s ≡ computed register (upper imm) s
unfolding execute
lui_does register imm s = refl

lui : (ports : List Port) (stack : ℕ) (register number : ℕ) (left : List Instr) (words : List ℕ) (lines : List ScriptLine) (s : State)
    → IsAt ports stack (Lui register (upper_part number) ∷ left) words lines s → register < 32 → (register == 0) ≡ false
    → Puts ports stack left words lines register (upper (upper_part number)) 1 [] s
lui ports stack register number left words lines s is r live =
    computes ports stack (Lui register (upper_part number)) left words lines register (upper (upper_part number)) s is (r, upper-fits number) r live (lui_does register (upper_part number) s)

sum_from : (register : ℕ) (s : State) (imm : ℤ) → (register == 0) ≡ false → (if register == 0 then 0 else slice_index s.registers register) ≡ slice_index s.registers register
sum_from register s imm live = rw live refl

-- the sum of the upper and the lower part, as an instruction computes it
sum_is : (register number : ℕ) (s : State) → (register == 0) ≡ false → number < 2 ^ 32 → slice_index s.registers register ≡ upper (upper_part number)
    → wrapped ((if register == 0 then 0 else slice_index s.registers register) + unsigned (lower_part number)) ≡ number
sum_is register number s live small e = rw (live, e) (parts-whole number small)

addi_does : (register number : ℕ) (s : State) → (register == 0) ≡ false → number < 2 ^ 32 → slice_index s.registers register ≡ upper (upper_part number)
    → execute (OpImm Add register register (lower_part number)) s ≡ computed register number s
unfolding execute alu_of
addi_does register number s live small e = ap (λ v. computed register v s) (sum_is register number s live small e)

aligned : (k : ℕ) → address_of k % 4 ≡ 0
aligned k = omega arith

load_word : (address value register : ℕ) (s : State) → address % 4 ≡ 0 → load s.memory address 4 ≡ Some value → loading Lw register address s ≡ computed register value s
unfolding loading loading_memory load_size extended
load_word address value register s whole e = rw (whole, e) refl

lw_does : (register k value : ℕ) (s : State) → (register == 0) ≡ false → slice_index s.registers register ≡ upper (upper_part (address_of k)) → load s.memory (address_of k) 4 ≡ Some value
    → execute (Load Lw register register (lower_part (address_of k))) s ≡ computed register value s
unfolding execute
lw_does register k value s live e holds =
    ap (λ a. loading Lw register a s) (sum_is register (address_of k) s live (address-fits k) e) ∙ load_word (address_of k) value register s (aligned k) holds

-- ---- an operand in a register

number_fits : (words n : ℕ) → IsOperand words (Number n) → n < 2 ^ 32
number_fits words n h = h

pub loads : (ports : List Port) (stack register : ℕ) (a : Operand) (left : List Instr) (words : List ℕ) (lines : List ScriptLine) (s : State)
    → IsAt ports stack (operand_code register a ++ left) words lines s → IsOperand (length words) a → register < 32 → (register == 0) ≡ false
    → Puts ports stack left words lines register (value_of words a) 2 [] s
loads ports stack register (Number n) left words lines s is fits r live =
    let rest = OpImm Add register register (lower_part n) ∷ left in
    let first : Puts ports stack rest words lines register (upper (upper_part n)) 1 [] s = lui ports stack register n rest words lines s is r live in
    let second : Puts ports stack left words lines register n 1 [] first.next =
    computes ports stack (OpImm Add register register (lower_part n)) left words lines register n first.next first.is (r, r, lower-fits n) r live
    (addi_does register n first.next live fits first.puts) in
    put_again ports stack rest left words lines register (upper (upper_part n)) n s first second
loads ports stack register (Word k) left words lines s is fits r live =
    let rest = Load Lw register register (lower_part (address_of k)) ∷ left in
    let first : Puts ports stack rest words lines register (upper (upper_part (address_of k))) 1 [] s = lui ports stack register (address_of k) rest words lines s is r live in
    let second : Puts ports stack left words lines register (slice_index words k) 1 [] first.next =
    computes ports stack (Load Lw register register (lower_part (address_of k))) left words lines register (slice_index words k) first.next first.is (r, r, lower-fits (address_of k)) r live
    (lw_does register k (slice_index words k) first.next live first.puts (first.is.frame.holds k fits)) in
    put_again ports stack rest left words lines register (upper (upper_part (address_of k))) (slice_index words k) s first second

-- ---- a word of the frame set to what x5 holds

pub record Keeps (ports : List Port) (stack : ℕ) (left : List Instr) (words : List ℕ) (lines : List ScriptLine) (count : ℕ) (seen : List Step) (s : State) : Type 0 where
  pub next : State
  pub goes : Goes ports stack s count seen next
  pub is : IsAt ports stack left words lines next

store_word : (address value : ℕ) (new : Memory) (s : State) → address % 4 ≡ 0 → store s.memory address 4 value ≡ Some new → storing Sw address value s ≡ (goes_on (record s { memory = new }), Going)
unfolding storing storing_memory store_size
store_word address value new s whole e = rw (whole, e) refl

sw_does : (k value : ℕ) (new : Memory) (s : State) → slice_index s.registers 7 ≡ upper (upper_part (address_of k)) → slice_index s.registers 5 ≡ value → store s.memory (address_of k) 4 value ≡ Some new
    → execute (Store Sw 7 5 (lower_part (address_of k))) s ≡ (goes_on (record s { memory = new }), Going)
unfolding execute
sw_does k value new s e v stores =
    ap (λ a. storing Sw a (slice_index s.registers 5) s) (sum_is 7 (address_of k) s refl (address-fits k) e)
    ∙ ap (λ w. storing Sw (address_of k) w s) v ∙ store_word (address_of k) value new s (aligned k) stores

pub sets : (ports : List Port) (stack k value : ℕ) (left : List Instr) (words : List ℕ) (lines : List ScriptLine) (s : State)
    → IsAt ports stack (put_code k ++ left) words lines s → k < length words → value < 2 ^ 32 → slice_index s.registers 5 ≡ value
    → Keeps ports stack left (slice_set words k value) lines 2 [] s
sets ports stack k value left words lines s is h small v =
    let instr = Store Sw 7 5 (lower_part (address_of k)) in
    let first : Puts ports stack (instr ∷ left) words lines 7 (upper (upper_part (address_of k))) 1 [] s = lui ports stack 7 (address_of k) (instr ∷ left) words lines s is (omega arith) refl in
    let now = first.next in
    let stored : Stored stack words now.memory k value = sets_word stack words now.memory k value first.is.frame h small in
    let next : State = goes_on (changed now.registers lines stored.new now) in
    let e : table now ≡ (next, Going) =
    does ports stack instr left words lines now first.is (omega arith, omega arith, lower-fits (address_of k))
    ∙ sw_does k value stored.new now first.puts (first.others 5 (omega arith) ∙ v) stored.stores
    ∙ ap (λ (ls : List ScriptLine). (goes_on (changed now.registers ls stored.new now), Going)) first.is.waiting in
    record {
      next = next;
      goes = together ports stack s now next 1 1 [] [] first.goes (one_step ports stack now next Going e tt (fine_step ports stack words now next Going first.is.frame first.is.with_ports e tt));
      is = on ports stack instr left words (slice_set words k value) lines lines now.registers stored.new now first.is first.is.wide stored.is;
    }
