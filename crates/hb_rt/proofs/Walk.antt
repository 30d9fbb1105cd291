-- A walk through a routine: what each of its instructions does, and how steps join.
use Rattle.std.proofs.Common.{◌≡◌, ◌≢◌, ℕ, zero, suc, ◌+◌, ◌-◌, ◌*◌, ◌/◌, ◌%◌, ◌<◌, ◌≤◌, ◌^◌, ◌==◌, Bool, true, false, List, [], ◌∷◌, ◌++◌, length, get_or, set, map, Some, None, ℤ, refl, ap, sym, ◌∙◌, subst, arith, get_or-set_other, length-set, zero-add, add-zero, nat_le}
use Rattle.std.specs.Prelude.{if◌then◌else◌, slice_get, option_map, Contains}
use Rattle.std.proofs.lemmas.Bool.{cond_both, cond-true, cond-false, eqb-true, eqb-false, eq-eqb, ne_eqb, le-leb}
use Rattle.std.proofs.lemmas.Grind.{get_or-set_at}
use Rattle.std.proofs.lemmas.Option.{none-some, slice_get-map, slice_get_within}
use Rattle.hb_asm.specs.declared.instr.BranchOp.{BranchOp}
use Rattle.hb_asm.specs.declared.instr.Instr.{Instr}
use Rattle.hb_asm.specs.declared.instr.Instr.TheVariants.{OpImm, Op, Branch}
use Rattle.hb_asm.specs.Coding.{code_of, decode_of}
use Rattle.hb_asm.specs.InRange.{InRange}
use Rattle.hb_asm.proofs.Coding.{decode-code}
use Rattle.hb_base.specs.declared.step.Step.TheVariants.{Going}
use Rattle.hb_asm.specs.Arithmetic.{alu_of, is_taken, unsigned, wrapped}
use Rattle.hb_isa.specs.State.{State, code_base, register, with_register}
use Rattle.hb_isa.specs.Table.{table, running, fetched, execute, computed, branching, goes_on, goes_to, word_at_pc, instruction_at_pc, from_here}
use Rattle.hb_rt.specs.Routine.{IsRunning, StandsAtPc, StandsIn, Leads, Leaves}
use Rattle.hb_isa.specs.Run.{turn, turn_of}
use Rattle.hb_runs.proofs.Walks as walks
use Rattle.hb_rt.proofs.Slots.{Slots, look, put, IsSlot, IsSlot-small, look-put, slots_of, look_kept, AreWords, look_word}

-- ---- registers

register-written :
    (s : State) (rd word q : ℕ)
    → length s.registers ≡ 32
    → 0 < rd
    → rd < 32
    → register (with_register rd word s) q ≡ (if q == rd then word else register s q)
register-written s rd word q e a b =
    cond_both (rd == 0) _ _ (λ rs. (if q == 0 then 0 else get_or rs q 0) ≡ (if q == rd then word else register s q))
    (λ t. let z = eqb-true rd 0 t in absurd (omega arith))
    (λ _.
    cond_both (q == rd) _ _ (λ x. (if q == 0 then 0 else get_or (set s.registers rd word) q 0) ≡ x)
    (λ t.
    let same = eqb-true q rd t in
    let lt : rd < length s.registers = omega arith in
    let nonzero : q ≡ 0 → ⊥ = λ z. omega arith in
    cond-false (q == 0) 0 (get_or (set s.registers rd word) q 0) (ne_eqb q 0 nonzero)
    ∙ get_or-set_at s.registers rd q word 0 same lt)
    (λ t.
    let other : q ≢ rd = eqb-false q rd t in
    ap (λ x. if q == 0 then 0 else x) (get_or-set_other s.registers rd q word 0 other)))

-- ---- steps that are joined

pub Leads-join :
    {routine : List Instr} {from m n : ℕ} {s t u : State}
    → Leads routine from m s t
    → Leads routine from n t u
    → Leads routine from (m + n) s u
Leads-join {routine} {from} {m} {n} {s} {t} {u} p q = walks.together turn (StandsIn routine from) s t u m n [] [] p q

-- one step, and none
Leads-one : (routine : List Instr) (from : ℕ) (s t : State) → StandsIn routine from s → table s ≡ (t, Going) → Leads routine from 1 s t
unfolding turn turn_of
Leads-one routine from s t stands e = walks.goes turn (StandsIn routine from) s t (ap turn_of e) stands

Leads-none : (routine : List Instr) (from : ℕ) (s : State) → Leads routine from 0 s s
Leads-none routine from s = walks.stays turn (StandsIn routine from) s

-- ---- where a walk stands

-- the state differs from the one at the start in its pc, which is k instructions on, its count and its slots
pub record At (start : State) (k : ℕ) (f : Slots) (t : State) : Type 0 where
  pub code : t.code ≡ start.code
  pub ports : t.ports ≡ start.ports
  pub memory : t.memory ≡ start.memory
  pub lines : t.lines ≡ start.lines
  pub going : t.ended ≡ None
  pub pc : t.pc ≡ start.pc + 4 * k
  pub size : length t.registers ≡ 32
  pub reads : (r : ℕ) → register t r ≡ look f (register start) r

-- so many steps through the routine lead there
pub record Walks (routine : List Instr) (start : State) (n : ℕ) (t : State) (k : ℕ) (f : Slots) : Type 0 where
  pub end : State
  pub leads : Leads routine start.pc n t end
  pub at : At start k f end

pub Walks-join :
    (routine : List Instr) (start : State) (m n : ℕ) (t : State) (j k : ℕ) (f g : Slots)
    → Walks routine start m t j f
    → ((u : State) → At start j f u → Walks routine start n u k g)
    → Walks routine start (m + n) t k g
Walks-join routine start m n t j k f g p q =
    let r = q p.end p.at in record { end = r.end; leads = Leads-join p.leads r.leads; at = r.at }

pub Walks-then :
    (routine : List Instr) (start : State) (m n : ℕ) (t : State) (j k : ℕ) (f g : Slots) (p : Walks routine start m t j f)
    → Walks routine start n p.end k g
    → Walks routine start (m + n) t k g
Walks-then routine start m n t j k f g p q =
    record { end = q.end; leads = Leads-join p.leads q.leads; at = q.at }

-- ---- the instruction at a place

slice_get-behind : (xs ys : List ℕ) (k : ℕ) → slice_get (xs ++ ys) (length xs + k) ≡ slice_get ys k
slice_get-behind [] ys k = ap (slice_get ys) (zero-add k)
slice_get-behind (x ∷ xs) ys k =
    let e : length (x ∷ xs) + k ≡ suc (length xs + k) = omega arith in
    ap (slice_get (x ∷ (xs ++ ys))) e ∙ slice_get-behind xs ys k

slice_get-front :
    (xs ys : List ℕ) (k x : ℕ) → slice_get xs k ≡ Some x → slice_get (xs ++ ys) k ≡ Some x
slice_get-front [] ys k x e = absurd (none-some x e)
slice_get-front (y ∷ xs) ys zero x e = e
slice_get-front (y ∷ xs) ys (suc k) x e = slice_get-front xs ys k x e

word_at :
    (routine : List Instr) (start : State) (k : ℕ) (f : Slots) (t : State) (i : Instr)
    → StandsAtPc routine start
    → At start k f t
    → slice_get routine k ≡ Some i
    → word_at_pc t ≡ Some (code_of i)
word_at routine start k f t i stands at e =
    let words : List ℕ = map code_of routine in
    let place : (t.pc - 65536) / 4 ≡ length stands.before + k = omega (arith, at.pc, stands.pc) in
    let here : slice_get words k ≡ Some (code_of i) =
    slice_get-map code_of routine k ∙ ap (option_map code_of) e in
    let high : code_base ≤ t.pc = omega (arith, at.pc, stands.pc) in
    let code : t.code ≡ stands.before ++ (words ++ stands.behind) = at.code ∙ stands.code in
    cond-true (nat_le code_base t.pc) (slice_get t.code ((t.pc - code_base) / 4)) None (le-leb code_base t.pc high)
    ∙ (ap (slice_get t.code) place
    ∙ (ap (λ c. slice_get c (length stands.before + k)) code
    ∙ (slice_get-behind stands.before (words ++ stands.behind) k
    ∙ slice_get-front words stands.behind k (code_of i) here)))

instruction_at :
    (routine : List Instr) (start : State) (k : ℕ) (f : Slots) (t : State) (i : Instr)
    → StandsAtPc routine start
    → At start k f t
    → slice_get routine k ≡ Some i
    → InRange i
    → instruction_at_pc t ≡ Some (Some i)
instruction_at routine start k f t i stands at e fits =
    ap (option_map decode_of) (word_at routine start k f t i stands at e) ∙ ap Some (decode-code i fits)

stands_in :
    (routine : List Instr) (start : State) (k : ℕ) (f : Slots) (t : State) (i : Instr)
    → StandsAtPc routine start
    → At start k f t
    → slice_get routine k ≡ Some i
    → InRange i
    → StandsIn routine start.pc t
stands_in routine start k f t i stands at e fits =
    record {
      place = k;
      pc = at.pc;
      instr = i;
      there = e;
      fetched = instruction_at routine start k f t i stands at e fits;
    }

table_at :
    (routine : List Instr) (start : State) (k : ℕ) (f : Slots) (t : State) (i : Instr)
    → StandsAtPc routine start
    → At start k f t
    → slice_get routine k ≡ Some i
    → InRange i
    → table t ≡ execute i t
unfolding table running fetched
table_at routine start k f t i stands at e fits =
    ap (λ o. running o t) at.going
    ∙ ap (λ o. fetched o t) (instruction_at routine start k f t i stands at e fits)

-- ---- one instruction that computes

-- the slots after it, and which register it sets
abbrev pub effect : (ℕ → ℕ) → Instr → Slots → Slots
effect rest (OpImm op rd rs1 imm) f = put rd (alu_of op (look f rest rs1) (unsigned imm)) f
effect rest (Op op rd rs1 rs2) f = put rd (alu_of op (look f rest rs1) (look f rest rs2)) f
effect rest _ f = f

abbrev pub Sets : Instr → Type 0
Sets (OpImm op rd rs1 imm) = IsSlot rd
Sets (Op op rd rs1 rs2) = IsSlot rd
Sets _ = ⊥

at_computed :
    (routine : List Instr) (start : State) (k : ℕ) (f : Slots) (t : State) (rd word : ℕ)
    → StandsAtPc routine start
    → At start k f t
    → k < length routine
    → IsSlot rd
    → At start (suc k) (put rd word f) (goes_on (with_register rd word t))
at_computed routine start k f t rd word stands at within slot =
    let small = IsSlot-small rd slot in
    record {
      code = at.code;
      ports = at.ports;
      memory = at.memory;
      lines = at.lines;
      going = at.going;
      pc = omega (arith, at.pc, stands.low);
      size =
          cond_both
          (rd == 0)
          t.registers
          (set t.registers rd word)
          (λ rs. length rs ≡ 32)
          (λ _. at.size)
          (λ _. length-set t.registers rd word ∙ at.size);
      reads = λ r.
          register-written t rd word r at.size small.0 small.1
          ∙ (ap (λ x. if r == rd then word else x) (at.reads r) ∙ sym (look-put rd slot f (register start) word r));
    }

computing :
    (routine : List Instr) (start : State) (k : ℕ) (f : Slots) (t : State) (rd word : ℕ)
    → StandsAtPc routine start
    → At start k f t
    → k < length routine
    → IsSlot rd
    → StandsIn routine start.pc t
    → table t ≡ computed rd word t
    → Walks routine start 1 t (suc k) (put rd word f)
unfolding computed
computing routine start k f t rd word stands at within slot here e =
    let u : State = goes_on (with_register rd word t) in
    record {
      end = u;
      leads = Leads-one routine start.pc t u here e;
      at = at_computed routine start k f t rd word stands at within slot;
    }

pub step :
    (routine : List Instr) (start : State) (k : ℕ) (f : Slots) (t : State) (i : Instr)
    → StandsAtPc routine start
    → At start k f t
    → slice_get routine k ≡ Some i
    → InRange i
    → Sets i
    → Walks routine start 1 t (suc k) (effect (register start) i f)
unfolding execute
step routine start k f t (OpImm op rd rs1 imm) stands at e fits slot =
    computing routine start k f t rd (alu_of op (look f (register start) rs1) (unsigned imm)) stands at
    (slice_get_within routine k (OpImm op rd rs1 imm) e)
    slot
    (stands_in routine start k f t (OpImm op rd rs1 imm) stands at e fits)
    (table_at routine start k f t (OpImm op rd rs1 imm) stands at e fits
    ∙ ap (λ x. computed rd (alu_of op x (unsigned imm)) t) (at.reads rs1))
step routine start k f t (Op op rd rs1 rs2) stands at e fits slot =
    computing routine start k f t rd (alu_of op (look f (register start) rs1) (look f (register start) rs2)) stands at
    (slice_get_within routine k (Op op rd rs1 rs2) e)
    slot
    (stands_in routine start k f t (Op op rd rs1 rs2) stands at e fits)
    (table_at routine start k f t (Op op rd rs1 rs2) stands at e fits
    ∙ (ap (λ x. computed rd (alu_of op x (register t rs2)) t) (at.reads rs1)
    ∙ ap (λ x. computed rd (alu_of op (look f (register start) rs1) x) t) (at.reads rs2)))
step routine start k f t _ stands at e fits slot = absurd slot

-- ---- a run of instructions that compute

abbrev pub effects : (ℕ → ℕ) → List Instr → Slots → Slots
effects rest [] f = f
effects rest (i ∷ is) f = effects rest is (effect rest i f)

-- these instructions stand in the routine from a place on
abbrev pub Segment : List Instr → ℕ → List Instr → Type 0
Segment routine k [] = Unit {0}
Segment routine k (i ∷ is) = (slice_get routine k ≡ Some i) × InRange i × Sets i × Segment routine (suc k) is

pub walk :
    (is : List Instr) (routine : List Instr) (start : State) (k : ℕ) (f : Slots) (t : State)
    → StandsAtPc routine start
    → At start k f t
    → Segment routine k is
    → Walks routine start (length is) t (k + length is) (effects (register start) is f)
walk [] routine start k f t stands at seg =
    record { end = t; leads = Leads-none routine start.pc t; at = subst (λ n. At start n f t) (sym (add-zero k)) at }
walk (i ∷ is) routine start k f t stands at seg =
    let g : Slots = effect (register start) i f in
    let joined =
    Walks-join routine start 1 (length is) t (suc k) (suc k + length is) g (effects (register start) is g)
    (step routine start k f t i stands at seg.0 seg.1 seg.2)
    (λ u there. walk is routine start (suc k) g u stands there seg.3) in
    let n : 1 + length is ≡ length (i ∷ is) = omega arith in
    let j : suc k + length is ≡ k + length (i ∷ is) = omega arith in
    subst
    (λ m. Walks routine start m t (k + length (i ∷ is)) (effects (register start) is g))
    n
    (subst (λ m. Walks routine start (1 + length is) t m (effects (register start) is g)) j joined)

-- ---- a branch

at_elsewhere :
    (start : State) (k j : ℕ) (f : Slots) (t : State) (target : ℕ)
    → At start k f t
    → target ≡ start.pc + 4 * j
    → At start j f (goes_to target t)
at_elsewhere start k j f t target at e =
    record {
      code = at.code;
      ports = at.ports;
      memory = at.memory;
      lines = at.lines;
      going = at.going;
      pc = e;
      size = at.size;
      reads = at.reads;
    }

-- to instruction j where it is taken, and on where not
pub branch :
    (routine : List Instr) (start : State) (k j : ℕ) (f : Slots) (t : State) (op : BranchOp) (rs1 rs2 : ℕ) (imm : ℤ)
    (taken : Bool)
    → StandsAtPc routine start
    → At start k f t
    → slice_get routine k ≡ Some (Branch op rs1 rs2 imm)
    → InRange (Branch op rs1 rs2 imm)
    → is_taken op (look f (register start) rs1) (look f (register start) rs2) ≡ taken
    → from_here t imm ≡ start.pc + 4 * j
    → Walks routine start 1 t (if taken then j else suc k) f
unfolding execute branching
branch routine start k j f t op rs1 rs2 imm true stands at e fits test target =
    let u : State = goes_to (from_here t imm) t in
    let within : k < length routine = slice_get_within routine k (Branch op rs1 rs2 imm) e in
    let whole : from_here t imm % 4 ≡ 0 = omega (arith, target, stands.pc) in
    let done : table t ≡ (u, Going) =
    table_at routine start k f t (Branch op rs1 rs2 imm) stands at e fits
    ∙ (ap (λ x. branching (is_taken op x (register t rs2)) (from_here t imm) t) (at.reads rs1)
    ∙ (ap (λ x. branching (is_taken op (look f (register start) rs1) x) (from_here t imm) t) (at.reads rs2)
    ∙ (ap (λ x. branching x (from_here t imm) t) test
    ∙ cond-true (from_here t imm % 4 == 0) _ _ (eq-eqb (from_here t imm % 4) 0 whole)))) in
    record {
      end = u;
      leads = Leads-one routine start.pc t u (stands_in routine start k f t (Branch op rs1 rs2 imm) stands at e fits) done;
      at = at_elsewhere start k j f t (from_here t imm) at target;
    }
branch routine start k j f t op rs1 rs2 imm false stands at e fits test target =
    let u : State = goes_on t in
    let within : k < length routine = slice_get_within routine k (Branch op rs1 rs2 imm) e in
    let done : table t ≡ (u, Going) =
    table_at routine start k f t (Branch op rs1 rs2 imm) stands at e fits
    ∙ (ap (λ x. branching (is_taken op x (register t rs2)) (from_here t imm) t) (at.reads rs1)
    ∙ (ap (λ x. branching (is_taken op (look f (register start) rs1) x) (from_here t imm) t) (at.reads rs2)
    ∙ ap (λ x. branching x (from_here t imm) t) test)) in
    record {
      end = u;
      leads = Leads-one routine start.pc t u (stands_in routine start k f t (Branch op rs1 rs2 imm) stands at e fits) done;
      at = at_elsewhere start k (suc k) f t (wrapped (t.pc + 4)) at (omega (arith, at.pc, stands.low));
    }

-- ---- begin and end of a walk

pub begin : (start : State) → IsRunning start → At start 0 (slots_of (register start)) start
begin start running =
    record {
      code = refl;
      ports = refl;
      memory = refl;
      lines = refl;
      going = running.going;
      pc = omega arith;
      size = running.registers;
      reads = λ r.
          sym (look_kept (slots_of (register start)) (register start) r
          (λ _. refl) (λ _. refl) (λ _. refl) (λ _. refl) (λ _. refl) (λ _. refl));
    }

-- what a register holds there
pub holds :
    (start : State) (k : ℕ) (f : Slots) (t : State) (r word : ℕ)
    → At start k f t
    → look f (register start) r ≡ word
    → register t r ≡ word
holds start k f t r word at e = at.reads r ∙ e

pub finish :
    (routine : List Instr) (changed : List ℕ) (start : State) (f : Slots) (t : State)
    → IsRunning start
    → At start (length routine) f t
    → AreWords f
    → ((r : ℕ) → (Contains changed r → ⊥) → look f (register start) r ≡ register start r)
    → Leaves routine changed start t
finish routine changed start f t running at words kept =
    record {
      pc = at.pc;
      code = at.code;
      ports = at.ports;
      memory = at.memory;
      lines = at.lines;
      running =
          record {
            going = at.going;
            registers = at.size;
            words = λ r. subst (λ x. x < 2 ^ 32) (sym (at.reads r)) (look_word f (register start) r words (running.words r));
          };
      kept = λ r out. at.reads r ∙ kept r out;
    }

-- ---- lists of instructions

pub same_cons : {i j : Instr} {is js : List Instr} → i ≡ j → is ≡ js → i ∷ is ≡ j ∷ js
same_cons p q = cc
