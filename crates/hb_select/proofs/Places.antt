-- A machine that is about to do given instructions, and what each of them does to it.
use Rattle.std.proofs.Common.{◌≡◌, ◌≢◌, ℕ, zero, suc, ◌+◌, ◌-◌, ◌*◌, ◌/◌, ◌<◌, ◌≤◌, ◌==◌, true, false, nat_le, if◌then◌else◌, List, [], ◌∷◌, length, drop, map, slice_get, slice_index, slice_set, Some, None, option_map, refl, ap, ◌∙◌, arith, length-set, get_or-set_same, get_or-set_other}
use Rattle.std.proofs.lemmas.Bool.{le-leb}
use Rattle.hb_asm.specs.declared.instr.Instr.{Instr}
use Rattle.hb_asm.specs.Coding.{code_of, decode_of}
use Rattle.hb_asm.specs.InRange.{InRange}
use Rattle.hb_asm.proofs.Coding.{decode-code}
use Rattle.hb_base.specs.declared.port.Port.{Port}
use Rattle.hb_base.specs.declared.script.ScriptLine.{ScriptLine}
use Rattle.hb_base.specs.declared.step.Step.{Step}
use Rattle.hb_base.specs.declared.step.Step.TheVariants.{Going}
use Rattle.hb_asm.specs.Arithmetic.{wrapped}
use Rattle.hb_isa.specs.Memory.{Memory}
use Rattle.hb_isa.specs.Run.{events}
use Rattle.hb_isa.specs.State.{State}
use Rattle.hb_isa.specs.Table.{table, running, fetched, execute, computed, goes_on, word_at_pc}
use Rattle.hb_select.proofs.Goes.{Goes, GoesOn, one_step, together}
use Rattle.hb_select.proofs.Frames.{IsFrame}
use Rattle.hb_select.proofs.Accesses.{fine_step, goes_through}

-- ---- lists from a place on

at_place : (xs : List ℕ) (n x : ℕ) (ys : List ℕ) → drop n xs ≡ x ∷ ys → slice_get xs n ≡ Some x
at_place [] zero x ys e = absurd (no_nil e)
  where
    no_nil : [] ≡ x ∷ ys → ⊥
    no_nil e = cc
at_place [] (suc n) x ys e = absurd (no_nil e)
  where
    no_nil : [] ≡ x ∷ ys → ⊥
    no_nil e = cc
at_place (y ∷ xs) zero x ys e = same e
  where
    same : y ∷ xs ≡ x ∷ ys → Some y ≡ Some x
    same e = cc
at_place (y ∷ xs) (suc n) x ys e = at_place xs n x ys e

past_place : (xs : List ℕ) (n x : ℕ) (ys : List ℕ) → drop n xs ≡ x ∷ ys → drop (suc n) xs ≡ ys
past_place [] zero x ys e = absurd (no_nil e)
  where
    no_nil : [] ≡ x ∷ ys → ⊥
    no_nil e = cc
past_place [] (suc n) x ys e = absurd (no_nil e)
  where
    no_nil : [] ≡ x ∷ ys → ⊥
    no_nil e = cc
past_place (y ∷ xs) zero x ys e = same e
  where
    same : y ∷ xs ≡ x ∷ ys → xs ≡ ys
    same e = cc
past_place (y ∷ xs) (suc n) x ys e = past_place xs n x ys e

-- ---- a machine about to do these instructions, with such a frame and such lines

pub record IsAt (ports : List Port) (stack : ℕ) (left : List Instr) (words : List ℕ) (lines : List ScriptLine) (s : State) : Type 0 where
  pub place : ℕ
  pub here : s.pc ≡ 65536 + 4 * place
  pub low : place + length left ≤ 134201344
  pub code : drop place s.code ≡ map code_of left
  pub with_ports : s.ports ≡ ports
  pub going : s.ended ≡ None
  pub wide : length s.registers ≡ 32
  pub waiting : s.lines ≡ lines
  pub frame : IsFrame stack words s.memory

word_at : (code : List ℕ) (pc place word : ℕ) → pc ≡ 65536 + 4 * place → slice_get code place ≡ Some word → (if nat_le 65536 pc then slice_get code ((pc - 65536) / 4) else None) ≡ Some word
word_at code pc place word e h =
    let low : nat_le 65536 pc ≡ true = le-leb _ _ (omega arith) in
    let at : (pc - 65536) / 4 ≡ place = omega arith in
    rw (low, at) h

executes : (s : State) (instr : Instr) → s.ended ≡ None → word_at_pc s ≡ Some (code_of instr) → InRange instr → table s ≡ execute instr s
unfolding table running fetched
executes s instr going word range =
    ap (λ ended. running ended s) going ∙ ap (λ w. fetched (option_map decode_of w) s) word ∙ ap (λ i. fetched (Some i) s) (decode-code instr range)

-- the first of them is done
pub does : (ports : List Port) (stack : ℕ) (instr : Instr) (left : List Instr) (words : List ℕ) (lines : List ScriptLine) (s : State)
    → IsAt ports stack (instr ∷ left) words lines s → InRange instr → table s ≡ execute instr s
does ports stack instr left words lines s is range =
    executes s instr is.going (word_at s.code s.pc is.place (code_of instr) is.here (at_place s.code is.place (code_of instr) (map code_of left) is.code)) range

next_place : (pc place : ℕ) → pc ≡ 65536 + 4 * place → place + 1 ≤ 134201344 → wrapped (pc + 4) ≡ 65536 + 4 * suc place
next_place pc place e h = omega arith

-- the machine with other registers, lines and memory
abbrev pub changed : List ℕ → List ScriptLine → Memory → State → State
changed registers lines memory s = record s { registers = registers; lines = lines; memory = memory }

-- and goes on to the others
pub on : (ports : List Port) (stack : ℕ) (instr : Instr) (left : List Instr) (words words' : List ℕ) (lines lines' : List ScriptLine) (registers : List ℕ) (memory : Memory) (s : State)
    → IsAt ports stack (instr ∷ left) words lines s → length registers ≡ 32 → IsFrame stack words' memory
    → IsAt ports stack left words' lines' (goes_on (changed registers lines' memory s))
on ports stack instr left words words' lines lines' registers memory s is wide frame = record {
  place = suc is.place;
  here = next_place s.pc is.place is.here (omega (arith, is.low));
  low = omega (arith, is.low);
  code = past_place s.code is.place (code_of instr) (map code_of left) is.code;
  with_ports = is.with_ports;
  going = is.going;
  wide = wide;
  waiting = refl;
  frame = frame;
}

-- ---- one register gets a value, and the others stay

pub record Puts (ports : List Port) (stack : ℕ) (left : List Instr) (words : List ℕ) (lines : List ScriptLine) (register value count : ℕ) (seen : List Step) (s : State) : Type 0 where
  pub next : State
  pub goes : Goes ports stack s count seen next
  pub is : IsAt ports stack left words lines next
  pub puts : slice_index next.registers register ≡ value
  pub others : (q : ℕ) → q ≢ register → slice_index next.registers q ≡ slice_index s.registers q

pub put_one : (ports : List Port) (stack : ℕ) (instr : Instr) (left : List Instr) (words : List ℕ) (lines lines' : List ScriptLine) (register value : ℕ) (answer : Step) (s : State)
    → IsAt ports stack (instr ∷ left) words lines s → register < 32
    → table s ≡ (goes_on (changed (slice_set s.registers register value) lines' s.memory s), answer) → GoesOn answer
    → Puts ports stack left words lines' register value 1 (events (answer ∷ [])) s
put_one ports stack instr left words lines lines' register value answer s is r e on_goes = record {
  next = goes_on (changed (slice_set s.registers register value) lines' s.memory s);
  goes =
      one_step ports stack s (goes_on (changed (slice_set s.registers register value) lines' s.memory s)) answer e on_goes
      (fine_step ports stack words s (goes_on (changed (slice_set s.registers register value) lines' s.memory s)) answer is.frame is.with_ports e (goes_through answer on_goes));
  is = on ports stack instr left words words lines lines' (slice_set s.registers register value) s.memory s is (length-set s.registers register value ∙ is.wide) is.frame;
  puts = get_or-set_same s.registers register value 0 (omega (arith, is.wide));
  others = λ q h. get_or-set_other s.registers register q value 0 h;
}

computed_is : (register value : ℕ) (s : State) → (register == 0) ≡ false → computed register value s ≡ (goes_on (record s { registers = slice_set s.registers register value }), Going)
unfolding computed
computed_is register value s h = rw h refl

-- an instruction that computes
pub computes : (ports : List Port) (stack : ℕ) (instr : Instr) (left : List Instr) (words : List ℕ) (lines : List ScriptLine) (register value : ℕ) (s : State)
    → IsAt ports stack (instr ∷ left) words lines s → InRange instr → register < 32 → (register == 0) ≡ false → execute instr s ≡ computed register value s
    → Puts ports stack left words lines register value 1 [] s
computes ports stack instr left words lines register value s is range r live e =
    put_one ports stack instr left words lines lines register value Going s is r
    (does ports stack instr left words lines s is range ∙ e ∙ computed_is register value s live
    ∙ ap (λ (ls : List ScriptLine). (goes_on (changed (slice_set s.registers register value) ls s.memory s), Going)) is.waiting) tt

-- one register and then the same again
pub put_again : (ports : List Port) (stack : ℕ) (left left' : List Instr) (words : List ℕ) (lines : List ScriptLine) (register v value : ℕ) (s : State)
    → (first : Puts ports stack left words lines register v 1 [] s) → Puts ports stack left' words lines register value 1 [] first.next
    → Puts ports stack left' words lines register value 2 [] s
put_again ports stack left left' words lines register v value s first second = record {
  next = second.next;
  goes = together ports stack s first.next second.next 1 1 [] [] first.goes second.goes;
  is = second.is;
  puts = second.puts;
  others = λ q h. second.others q h ∙ first.others q h;
}
