-- Each count of a flat program is done by its own instructions, of which there are no more than it weighs.
use Rattle.std.proofs.Common.{◌≡◌, ℕ, ◌*◌, ◌%◌, ◌^◌, ◌<◌, List, [], ◌∷◌, ◌++◌, length, slice_index, slice_set, Option, Some, None, IsSome, refl, sym, ◌∙◌, subst, arith, append_assoc, length-set}
use Rattle.std.specs.Prelude.{pos, All}
use Rattle.std.specs.List.{flat_map}
use Rattle.std.proofs.lemmas.List.Elements.{All-head, All-tail}
use Rattle.hb_asm.specs.declared.instr.AluOp.{AluOp}
use Rattle.hb_asm.specs.declared.instr.Instr.{Instr}
use Rattle.hb_asm.specs.declared.instr.Instr.TheVariants.{Op, Load as LoadInstr, Store as StoreInstr}
use Rattle.hb_base.specs.declared.port.Port.{Port}
use Rattle.hb_base.specs.declared.script.ScriptLine.{ScriptLine}
use Rattle.hb_base.specs.declared.step.Step.{Step}
use Rattle.hb_base.specs.declared.step.Step.TheVariants.{Read, Wrote}
use Rattle.hb_base.specs.declared.step.Stop.TheVariants.{InputEnd, Done as DoneStop}
use Rattle.hb_base.specs.Ports.{ArePorts}
use Rattle.hb_flat.specs.declared.form.Operand.{Operand}
use Rattle.hb_flat.specs.declared.form.Operand.TheVariants.{Word, Number}
use Rattle.hb_flat.specs.declared.form.FlatStep.{FlatStep}
use Rattle.hb_flat.specs.declared.form.FlatStep.TheVariants.{Set, Alu, Load, Store}
use Rattle.hb_flat.specs.declared.form.FlatTail.{FlatTail}
use Rattle.hb_flat.specs.declared.form.FlatTail.TheVariants.{Done}
use Rattle.hb_flat.specs.Meaning.{Thread, Turn, value_of, read_at, written_at, taking, reading, writing, does, closes, next, turn}
use Rattle.hb_flat.specs.Rules.{IsOperand, IsStep}
use Rattle.hb_asm.specs.Arithmetic.{alu_of}
use Rattle.hb_base.specs.Inputs.{first_value, without_first, AreInputs}
use Rattle.hb_isa.specs.State.{State}
use Rattle.hb_isa.proofs.InputLaws.{AreInputs-without_first}
use Rattle.hb_select.specs.Code.{operand_code, put_code, load_of, store_of, step_code, tail_code, code_from}
use Rattle.hb_runs.specs.Simulation.{Matches as MatchesTurn}
use Rattle.hb_select.specs.Weights.{weight, next_weight, turned}
use Rattle.hb_select.proofs.Numbers.{alu-fits}
use Rattle.hb_select.proofs.Goes.{Goes, IsFine, machine, at_most, together}
use Rattle.hb_select.proofs.Frames.{IsFrame}
use Rattle.hb_select.proofs.Places.{IsAt, Puts}
use Rattle.hb_select.proofs.Loads.{loads, sets, Keeps}
use Rattle.hb_select.proofs.Meetings.{Halts, met-small, read-met, written-met, line-fits, takes, lacks, gives, operates, is_done}

-- the machine is about to do what the thread has still to do
pub record Follows (ports : List Port) (stack : ℕ) (t : Thread) (s : State) : Type 0 where
  pub is : IsAt ports stack (code_from t.steps t.tail) t.words t.lines s
  pub rules : ArePorts ports
  pub steps : All (IsStep ports (length t.words)) t.steps
  pub inputs : AreInputs ports t.lines

-- what a count does, the machine does in so many instructions at most
abbrev pub Matches : List Port → ℕ → ℕ → State → Turn → Type 0
Matches ports stack most s moved = MatchesTurn machine (IsFine ports stack) (Follows ports stack) most s (turned moved)

none_is_some : IsSome {T = ℕ} None → ⊥
none_is_some e = cc

code_from-step : (step : FlatStep) (steps : List FlatStep) (tail : FlatTail) → code_from (step ∷ steps) tail ≡ step_code step ++ code_from steps tail
unfolding code_from
code_from-step step steps tail = append_assoc (step_code step) (flat_map step_code steps) (tail_code tail)

-- the same instructions, written in another way
again : (ports : List Port) (stack : ℕ) (left left' : List Instr) (words : List ℕ) (lines : List ScriptLine) (s : State) → left ≡ left' → IsAt ports stack left words lines s → IsAt ports stack left' words lines s
again ports stack left left' words lines s e is = subst (λ (is : List Instr). IsAt ports stack is words lines s) e is

operand-fits : (stack : ℕ) (words : List ℕ) (a : Operand) (s : State) → IsFrame stack words s.memory → IsOperand (length words) a → value_of words a < 2 ^ 32
operand-fits stack words (Word k) s frame h = frame.fits k h
operand-fits stack words (Number n) s frame h = h

-- x5 is left as it was
stays : (now before : List ℕ) (value : ℕ) → slice_index now 5 ≡ slice_index before 5 → slice_index before 5 ≡ value → slice_index now 5 ≡ value
stays now before value e f = e ∙ f

-- ---- the instructions of each step

set_done : (ports : List Port) (stack word : ℕ) (a : Operand) (left : List Instr) (words : List ℕ) (lines : List ScriptLine) (s : State)
    → IsAt ports stack (step_code (Set word a) ++ left) words lines s → word < length words → IsOperand (length words) a
    → Keeps ports stack left (slice_set words word (value_of words a)) lines 4 [] s
set_done ports stack word a left words lines s is h fits =
    let first : Puts ports stack (put_code word ++ left) words lines 5 (value_of words a) 2 [] s =
    loads ports stack 5 a (put_code word ++ left) words lines s
    (again ports stack _ (operand_code 5 a ++ (put_code word ++ left)) words lines s (append_assoc (operand_code 5 a) (put_code word) left) is) fits (omega arith) refl in
    let last : Keeps ports stack left (slice_set words word (value_of words a)) lines 2 [] first.next =
    sets ports stack word (value_of words a) left words lines first.next first.is h (operand-fits stack words a first.next first.is.frame fits) first.puts in
    record { next = last.next; goes = together ports stack s first.next last.next 2 2 [] [] first.goes last.goes; is = last.is }

alu_done : (ports : List Port) (stack word : ℕ) (op : AluOp) (a b : Operand) (left : List Instr) (words : List ℕ) (lines : List ScriptLine) (s : State)
    → IsAt ports stack (step_code (Alu word op a b) ++ left) words lines s → word < length words → IsOperand (length words) a → IsOperand (length words) b
    → Keeps ports stack left (slice_set words word (alu_of op (value_of words a) (value_of words b))) lines 7 [] s
alu_done ports stack word op a b left words lines s is h fits fits' =
    let third = Op op 5 5 6 ∷ (put_code word ++ left) in
    let second = (operand_code 6 b ++ Op op 5 5 6 ∷ put_code word) ++ left in
    let value = alu_of op (value_of words a) (value_of words b) in
    let first : Puts ports stack second words lines 5 (value_of words a) 2 [] s =
    loads ports stack 5 a second words lines s
    (again ports stack _ (operand_code 5 a ++ second) words lines s (append_assoc (operand_code 5 a) (operand_code 6 b ++ Op op 5 5 6 ∷ put_code word) left) is) fits (omega arith) refl in
    let next : Puts ports stack third words lines 6 (value_of words b) 2 [] first.next =
    loads ports stack 6 b third words lines first.next
    (again ports stack second (operand_code 6 b ++ third) words lines first.next (append_assoc (operand_code 6 b) (Op op 5 5 6 ∷ put_code word) left) first.is) fits' (omega arith) refl in
    let kept : slice_index next.next.registers 5 ≡ value_of words a = stays next.next.registers first.next.registers (value_of words a) (next.others 5 (omega arith)) first.puts in
    let done : Puts ports stack (put_code word ++ left) words lines 5 value 1 [] next.next =
    operates ports stack op (value_of words a) (value_of words b) (put_code word ++ left) words lines next.next next.is kept next.puts in
    let small : value < 2 ^ 32 = alu-fits op (value_of words a) (value_of words b) (operand-fits stack words a done.next done.is.frame fits) (operand-fits stack words b done.next done.is.frame fits') in
    let last : Keeps ports stack left (slice_set words word value) lines 2 [] done.next = sets ports stack word value left words lines done.next done.is h small done.puts in
    let loaded : Goes ports stack s 4 [] next.next = together ports stack s first.next next.next 2 2 [] [] first.goes next.goes in
    let operated : Goes ports stack s 5 [] done.next = together ports stack s next.next done.next 4 1 [] [] loaded done.goes in
    record { next = last.next; goes = together ports stack s done.next last.next 5 2 [] [] operated last.goes; is = last.is }

-- ---- each kind of count

set_matches : (ports : List Port) (stack word : ℕ) (a : Operand) (t : Thread) (s : State)
    → Follows ports stack (record t { steps = Set word a ∷ t.steps }) s → Matches ports stack 4 s (does ports (Set word a) t)
unfolding does turned
set_matches ports stack word a t s f =
    let ok = All-head (IsStep ports (length t.words)) (Set word a) t.steps f.steps in
    let rest = All-tail (IsStep ports (length t.words)) (Set word a) t.steps f.steps in
    let value = value_of t.words a in
    let k : Keeps ports stack (code_from t.steps t.tail) (slice_set t.words word value) t.lines 4 [] s =
    set_done ports stack word a (code_from t.steps t.tail) t.words t.lines s
    (again ports stack _ (step_code (Set word a) ++ code_from t.steps t.tail) t.words t.lines s (code_from-step (Set word a) t.steps t.tail) f.is) ok.0 ok.1 in
    record {
      turns = 4;
      to = k.next;
      least = omega arith;
      walk = k.goes;
      bounded = at_most s 4 _ (omega arith);
      holds = record {
        is = k.is;
        rules = f.rules;
        steps = subst (λ n. All (IsStep ports n) t.steps) (sym (length-set t.words word value)) rest;
        inputs = f.inputs;
      };
    }

alu_matches : (ports : List Port) (stack word : ℕ) (op : AluOp) (a b : Operand) (t : Thread) (s : State)
    → Follows ports stack (record t { steps = Alu word op a b ∷ t.steps }) s → Matches ports stack 7 s (does ports (Alu word op a b) t)
unfolding does turned
alu_matches ports stack word op a b t s f =
    let ok = All-head (IsStep ports (length t.words)) (Alu word op a b) t.steps f.steps in
    let rest = All-tail (IsStep ports (length t.words)) (Alu word op a b) t.steps f.steps in
    let value = alu_of op (value_of t.words a) (value_of t.words b) in
    let k : Keeps ports stack (code_from t.steps t.tail) (slice_set t.words word value) t.lines 7 [] s =
    alu_done ports stack word op a b (code_from t.steps t.tail) t.words t.lines s
    (again ports stack _ (step_code (Alu word op a b) ++ code_from t.steps t.tail) t.words t.lines s (code_from-step (Alu word op a b) t.steps t.tail) f.is) ok.0 ok.1 ok.2 in
    record {
      turns = 7;
      to = k.next;
      least = omega arith;
      walk = k.goes;
      bounded = at_most s 7 _ (omega arith);
      holds = record {
        is = k.is;
        rules = f.rules;
        steps = subst (λ n. All (IsStep ports n) t.steps) (sym (length-set t.words word value)) rest;
        inputs = f.inputs;
      };
    }

reads_matches : (ports : List Port) (stack word address width : ℕ) (t : Thread) (s : State)
    → Follows ports stack (record t { steps = Load word (Number address) width ∷ t.steps }) s → word < length t.words → IsSome (read_at ports address width)
    → Matches ports stack 5 s (reading (read_at ports address width) word t)
unfolding reading taking turned
reads_matches ports stack word address width t s f h some = by_port (read_at ports address width) refl some
  where
    rest : All (IsStep ports (length t.words)) t.steps
    rest = All-tail (IsStep ports (length t.words)) (Load word (Number address) width) t.steps f.steps

    left : List Instr
    left = code_from t.steps t.tail

    load : Instr
    load = LoadInstr (load_of width) 5 5 (pos 0)

    -- the address is in x5
    first : address < 2 ^ 32 → Puts ports stack (load ∷ (put_code word ++ left)) t.words t.lines 5 address 2 [] s
    first small =
        loads ports stack 5 (Number address) (load ∷ (put_code word ++ left)) t.words t.lines s
        (again ports stack _ (step_code (Load word (Number address) width) ++ left) t.words t.lines s (code_from-step (Load word (Number address) width) t.steps t.tail) f.is) small (omega arith) refl

    by_line : (place : ℕ) → read_at ports address width ≡ Some place → (value : Option ℕ) → first_value place t.lines ≡ value → Matches ports stack 5 s (taking value place word t)
    by_line place found None none =
        let met = read-met ports address width place f.rules found in
        let before = first (met-small address width met) in
        let last : Halts ports stack (InputEnd place) 0 before.next =
        lacks ports stack (put_code word ++ left) t.words t.lines address width place before.next (record { is = before.is; met = met; holds = before.puts }) found none in
        record {
          turns = 2;
          last = last.last;
          walk = together ports stack s before.next last.last 2 0 [] [] before.goes last.goes;
          good = last.fine;
          ends = last.ends;
          bounded = at_most s 3 _ (omega arith);
        }
    by_line place found (Some value) line =
        let met = read-met ports address width place f.rules found in
        let before = first (met-small address width met) in
        let waiting = without_first place t.lines in
        let event : List Step = Read place value ∷ [] in
        let taken : Puts ports stack (put_code word ++ left) t.words waiting 5 value 1 event before.next =
        takes ports stack (put_code word ++ left) t.words t.lines address width place value before.next (record { is = before.is; met = met; holds = before.puts }) found line in
        let last : Keeps ports stack left (slice_set t.words word value) waiting 2 [] taken.next =
        sets ports stack word value left t.words waiting taken.next taken.is h (line-fits _ ports t.lines place value f.rules f.inputs found line) taken.puts in
        let middle : Goes ports stack s 3 event taken.next = together ports stack s before.next taken.next 2 1 [] event before.goes taken.goes in
        record {
          turns = 5;
          to = last.next;
          least = omega arith;
          walk = together ports stack s taken.next last.next 3 2 event [] middle last.goes;
          bounded = at_most s 5 _ (omega arith);
          holds = record {
            is = last.is;
            rules = f.rules;
            steps = subst (λ n. All (IsStep ports n) t.steps) (sym (length-set t.words word value)) rest;
            inputs = AreInputs-without_first ports t.lines place f.inputs;
          };
        }

    by_port : (place : Option ℕ) → read_at ports address width ≡ place → IsSome place → Matches ports stack 5 s (reading place word t)
    by_port None found some = absurd (none_is_some some)
    by_port (Some place) found some = by_line place found (first_value place t.lines) refl

load_matches : (ports : List Port) (stack word : ℕ) (address : Operand) (width : ℕ) (t : Thread) (s : State)
    → Follows ports stack (record t { steps = Load word address width ∷ t.steps }) s → Matches ports stack 5 s (does ports (Load word address width) t)
unfolding does turned
load_matches ports stack word (Word k) width t s f = absurd (All-head (IsStep ports (length t.words)) (Load word (Word k) width) t.steps f.steps).1
load_matches ports stack word (Number address) width t s f =
    let ok = All-head (IsStep ports (length t.words)) (Load word (Number address) width) t.steps f.steps in
    reads_matches ports stack word address width t s f ok.0 ok.1

writes_matches : (ports : List Port) (stack address width : ℕ) (a : Operand) (t : Thread) (s : State)
    → Follows ports stack (record t { steps = Store (Number address) width a ∷ t.steps }) s → IsSome (written_at ports address width) → IsOperand (length t.words) a
    → Matches ports stack 5 s (writing (written_at ports address width) (value_of t.words a % 2 ^ (8 * width)) t)
unfolding writing turned
writes_matches ports stack address width a t s f some fits = by_port (written_at ports address width) refl some
  where
    rest : All (IsStep ports (length t.words)) t.steps
    rest = All-tail (IsStep ports (length t.words)) (Store (Number address) width a) t.steps f.steps

    left : List Instr
    left = code_from t.steps t.tail

    store : Instr
    store = StoreInstr (store_of width) 5 6 (pos 0)

    value : ℕ
    value = value_of t.words a

    by_port : (place : Option ℕ) → written_at ports address width ≡ place → IsSome place → Matches ports stack 5 s (writing place (value % 2 ^ (8 * width)) t)
    by_port None found some = absurd (none_is_some some)
    by_port (Some place) found some =
        let met = written-met ports address width place f.rules found in
        let small = met-small address width met in
        let second = (operand_code 6 a ++ store ∷ []) ++ left in
        let first : Puts ports stack second t.words t.lines 5 address 2 [] s =
        loads ports stack 5 (Number address) second t.words t.lines s
        (again ports stack _ (operand_code 5 (Number address) ++ second) t.words t.lines s (code_from-step (Store (Number address) width a) t.steps t.tail) f.is) small (omega arith) refl in
        let next : Puts ports stack (store ∷ left) t.words t.lines 6 value 2 [] first.next =
        loads ports stack 6 a (store ∷ left) t.words t.lines first.next
        (again ports stack second (operand_code 6 a ++ store ∷ left) t.words t.lines first.next (append_assoc (operand_code 6 a) (store ∷ []) left) first.is) fits (omega arith) refl in
        let event : List Step = Wrote place (value % 2 ^ (8 * width)) ∷ [] in
        let last : Keeps ports stack left t.words t.lines 1 event next.next =
        gives ports stack left t.words t.lines address width place value next.next
        (record { is = next.is; met = met; holds = stays next.next.registers first.next.registers address (next.others 5 (omega arith)) first.puts }) found next.puts (operand-fits stack t.words a next.next next.is.frame fits) in
        let loaded : Goes ports stack s 4 [] next.next = together ports stack s first.next next.next 2 2 [] [] first.goes next.goes in
        record {
          turns = 5;
          to = last.next;
          least = omega arith;
          walk = together ports stack s next.next last.next 4 1 [] event loaded last.goes;
          bounded = at_most s 5 _ (omega arith);
          holds = record { is = last.is; rules = f.rules; steps = rest; inputs = f.inputs };
        }

store_matches : (ports : List Port) (stack : ℕ) (address : Operand) (width : ℕ) (a : Operand) (t : Thread) (s : State)
    → Follows ports stack (record t { steps = Store address width a ∷ t.steps }) s → Matches ports stack 5 s (does ports (Store address width a) t)
unfolding does turned
store_matches ports stack (Word k) width a t s f = absurd (All-head (IsStep ports (length t.words)) (Store (Word k) width a) t.steps f.steps).0
store_matches ports stack (Number address) width a t s f =
    let ok = All-head (IsStep ports (length t.words)) (Store (Number address) width a) t.steps f.steps in
    writes_matches ports stack address width a t s f ok.0 ok.1

tail_matches : (ports : List Port) (stack : ℕ) (tail : FlatTail) (words : List ℕ) (lines : List ScriptLine) (s : State)
    → IsAt ports stack (code_from [] tail) words lines s → Matches ports stack 2 s (closes tail)
unfolding closes code_from turned
tail_matches ports stack Done words lines s is =
    let h : Halts ports stack DoneStop 1 s = is_done ports stack words lines s is in
    record { turns = 1; last = h.last; walk = h.goes; good = h.fine; ends = h.ends; bounded = at_most s 2 _ (omega arith) }

step_matches : (ports : List Port) (stack : ℕ) (step : FlatStep) (t : Thread) (s : State)
    → Follows ports stack (record t { steps = step ∷ t.steps }) s → Matches ports stack (next_weight (step ∷ t.steps) t.tail) s (does ports step t)
step_matches ports stack (Set word a) t s f = set_matches ports stack word a t s f
step_matches ports stack (Alu word op a b) t s f = alu_matches ports stack word op a b t s f
step_matches ports stack (Load word address width) t s f = load_matches ports stack word address width t s f
step_matches ports stack (Store address width a) t s f = store_matches ports stack address width a t s f

next_matches : (ports : List Port) (stack : ℕ) (steps : List FlatStep) (t : Thread) (s : State)
    → Follows ports stack (record t { steps = steps }) s → Matches ports stack (next_weight steps t.tail) s (next ports steps t)
unfolding next
next_matches ports stack [] t s f = tail_case t.tail f.is
  where
    tail_case : (tail : FlatTail) → IsAt ports stack (code_from [] tail) t.words t.lines s → Matches ports stack (next_weight [] tail) s (closes tail)
    tail_case Done is = tail_matches ports stack Done t.words t.lines s is
next_matches ports stack (step ∷ steps) t s f = step_matches ports stack step (record t { steps = steps }) s f

-- each count
pub matches : (ports : List Port) (stack : ℕ) (t : Thread) (s : State) → Follows ports stack t s → Matches ports stack (weight t) s (turn ports t)
unfolding turn
matches ports stack t s f = next_matches ports stack t.steps t s f
