-- What the instructions do that meet a port, compute, or end the program.
use Rattle.std.proofs.Common.{◌≡◌, ℕ, ◌+◌, ◌*◌, ◌%◌, ◌^◌, ◌<◌, ◌≤◌, inl, inr, ◌==◌, Bool, ◌&&◌, List, [], ◌∷◌, get_or, slice_get, slice_index, slice_set, position, Option, Some, None, IsSomeAnd, refl, ap, ◌∙◌, subst, arith}
use Rattle.std.specs.Prelude.{pos}
use Rattle.std.proofs.lemmas.Bool.{eqb-true, and_parts}
use Rattle.std.proofs.lemmas.Int.{ints}
use Rattle.std.proofs.lemmas.List.Elements.{All-get_or}
use Rattle.std.proofs.lemmas.List.Quantifiers.{position-Some}
use Rattle.std.proofs.lemmas.Option.{slice_get-get_or}
use Rattle.hb_asm.specs.declared.instr.AluOp.{AluOp}
use Rattle.hb_asm.specs.declared.instr.AluOp.TheVariants.{Add}
use Rattle.hb_asm.specs.declared.instr.LoadOp.{LoadOp}
use Rattle.hb_asm.specs.declared.instr.StoreOp.{StoreOp}
use Rattle.hb_asm.specs.declared.instr.Instr.{Instr}
use Rattle.hb_asm.specs.declared.instr.Instr.TheVariants.{Op, OpImm, Ecall, Load, Store}
use Rattle.hb_asm.specs.InRange.{IsImmediate}
use Rattle.hb_base.specs.declared.port.Dir.TheVariants.{In}
use Rattle.hb_base.specs.declared.port.Port.{Port}
use Rattle.hb_base.specs.declared.script.ScriptLine.{ScriptLine}
use Rattle.hb_base.specs.declared.step.Step.TheVariants.{Read, Wrote, Ended}
use Rattle.hb_base.specs.declared.step.Stop.{Stop}
use Rattle.hb_base.specs.declared.step.Stop.TheVariants.{InputEnd, Done}
use Rattle.hb_base.specs.Ports.{IsWidth, IsPort, ArePorts}
use Rattle.hb_flat.specs.Meaning.{is_at, read_at, written_at}
use Rattle.hb_asm.specs.Arithmetic.{wrapped, unsigned, alu_of, load_size, extended, store_size, low_part}
use Rattle.hb_base.specs.Inputs.{first_value, without_first, AreInputs}
use Rattle.hb_isa.specs.Memory.{load, store}
use Rattle.hb_isa.specs.State.{State}
use Rattle.hb_isa.specs.Table.{table, execute, computed, loading, loading_memory, loading_port, reading, storing, storing_memory, storing_port, ending, called, counted, goes_on, is_read_at, is_written_at}
use Rattle.hb_isa.proofs.InputLaws.{first_value-fits}
use Rattle.hb_select.specs.Code.{load_of, store_of}
use Rattle.hb_select.proofs.Numbers.{plus_nothing}
use Rattle.hb_runs.specs.System.{End as TurnEnd}
use Rattle.hb_isa.specs.Run.{turn}
use Rattle.hb_isa.proofs.TouchLaws.{IsLetThrough}
use Rattle.hb_select.proofs.Accesses.{fine_step}
use Rattle.hb_select.proofs.Goes.{Goes, IsFine, one_step, together, nowhere, ends_now}
use Rattle.hb_select.proofs.Frames.{IsFrame, no_load, no_store}
use Rattle.hb_select.proofs.Places.{IsAt, Puts, does, on, changed, put_one, computes}
use Rattle.hb_select.proofs.Loads.{Keeps}

-- ---- a port that is found at an address

pub record IsMet (address width : ℕ) : Type 0 where
  pub wide : IsWidth width
  pub high : 2 ^ 31 ≤ address
  pub within : address + width ≤ 2 ^ 32
  pub aligned : address % width ≡ 0

a_port : Port
a_port = record { name = []; dir = In; width = 0; address = 0 }

met_port : (port : Port) (address width : ℕ) → IsPort port → port.address ≡ address → port.width ≡ width → IsMet address width
met_port port address width is a w = record {
  wide = subst IsWidth w is.wide;
  high = subst (λ n. 2 ^ 31 ≤ n) a is.high;
  within = subst (λ n. address + n ≤ 2 ^ 32) w (subst (λ n. n + port.width ≤ 2 ^ 32) a is.within);
  aligned = subst (λ n. address % n ≡ 0) w (subst (λ n. n % port.width ≡ 0) a is.aligned);
}

met : (test : Port → Bool) (ports : List Port) (address width place : ℕ) → ArePorts ports → position (λ port. test port && is_at address width port) ports ≡ Some place → IsMet address width
met test ports address width place rules e =
    let found = position-Some (λ port. test port && is_at address width port) ports place a_port e in
    let port = get_or ports place a_port in
    let parts = and_parts (test port) (is_at address width port) found.1 in
    let both = and_parts (port.address == address) (port.width == width) parts.1 in
    met_port port address width (All-get_or IsPort ports place a_port found.0 rules.each) (eqb-true _ _ both.0) (eqb-true _ _ both.1)

pub read-met : (ports : List Port) (address width place : ℕ) → ArePorts ports → read_at ports address width ≡ Some place → IsMet address width
read-met ports address width place rules e = met _ ports address width place rules e

pub written-met : (ports : List Port) (address width place : ℕ) → ArePorts ports → written_at ports address width ≡ Some place → IsMet address width
written-met ports address width place rules e = met _ ports address width place rules e

-- a line's value is a number of 32 bits
width-fits : (width value : ℕ) → IsWidth width → value < 2 ^ (8 * width) → value < 2 ^ 32
width-fits width value (inl w) h = let k : value < 2 ^ (8 * 1) = subst (λ n. value < 2 ^ (8 * n)) w h in omega arith
width-fits width value (inr (inl w)) h = let k : value < 2 ^ (8 * 2) = subst (λ n. value < 2 ^ (8 * n)) w h in omega arith
width-fits width value (inr (inr w)) h = let k : value < 2 ^ (8 * 4) = subst (λ n. value < 2 ^ (8 * n)) w h in omega arith

event-fits : (port : Option Port) (p : Port) (value : ℕ) → port ≡ Some p → IsPort p → IsSomeAnd port (λ q. value < 2 ^ (8 * q.width)) → value < 2 ^ 32
event-fits port p value e is h = width-fits p.width value is.wide (subst (λ (o : Option Port). IsSomeAnd o (λ q. value < 2 ^ (8 * q.width))) e h)

pub line-fits : (test : Port → Bool) (ports : List Port) (lines : List ScriptLine) (place value : ℕ) → ArePorts ports → AreInputs ports lines → position test ports ≡ Some place → first_value place lines ≡ Some value → value < 2 ^ 32
line-fits test ports lines place value rules inputs e first =
    let found = position-Some test ports place a_port e in
    let there : slice_get ports place ≡ Some (get_or ports place a_port) = slice_get-get_or ports place a_port found.0 in
    event-fits (slice_get ports place) (get_or ports place a_port) value there (All-get_or IsPort ports place a_port found.0 rules.each) (first_value-fits ports lines place value inputs first)

-- ---- loads

load_of-size : (width : ℕ) → IsWidth width → load_size (load_of width) ≡ width
unfolding load_size
load_of-size width (inl w) = rw w refl
load_of-size width (inr (inl w)) = rw w refl
load_of-size width (inr (inr w)) = rw w refl

load_of-extended : (width value : ℕ) → IsWidth width → extended (load_of width) value ≡ value
unfolding extended
load_of-extended width value (inl w) = rw w refl
load_of-extended width value (inr (inl w)) = rw w refl
load_of-extended width value (inr (inr w)) = rw w refl

meets_none : (op : LoadOp) (address width place : ℕ) (s : State) → load_size op ≡ width → position (is_read_at address width) s.ports ≡ Some place → loading_memory None op 5 address s ≡ reading (first_value place s.lines) place op 5 s
unfolding loading_memory loading_port
meets_none op address width place s size found =
    ap (λ n. loading_port (position (is_read_at address n) s.ports) op 5 s) size ∙ ap (λ (o : Option ℕ). loading_port o op 5 s) found

loads_port : (op : LoadOp) (address width place : ℕ) (s : State) → load_size op ≡ width → address % width ≡ 0 → load s.memory address width ≡ None → position (is_read_at address width) s.ports ≡ Some place
    → loading op 5 address s ≡ reading (first_value place s.lines) place op 5 s
unfolding loading
loads_port op address width place s size whole none found = rw (size, whole, none) (meets_none op address width place s size found)

reads_line : (op : LoadOp) (place value : ℕ) (s : State) → extended op value ≡ value
    → reading (Some value) place op 5 s ≡ (goes_on (changed (slice_set s.registers 5 value) (without_first place s.lines) s.memory s), Read place value)
unfolding reading
reads_line op place value s e = ap (λ v. (goes_on (changed (slice_set s.registers 5 v) (without_first place s.lines) s.memory s), Read place value)) e

no_line : (op : LoadOp) (place : ℕ) (s : State) → reading None place op 5 s ≡ ending (InputEnd place) s
unfolding reading
no_line op place s = refl

load_at : (op : LoadOp) (address : ℕ) (s : State) → address < 2 ^ 32 → slice_index s.registers 5 ≡ address → execute (Load op 5 5 (pos 0)) s ≡ loading op 5 address s
unfolding execute
load_at op address s small e = ap (λ a. loading op 5 a s) (ap (λ v. wrapped (v + unsigned (pos 0))) e ∙ plus_nothing address small)

nothing_fits : IsImmediate (pos 0)
nothing_fits = (omega (arith, ints), omega (arith, ints))

-- the machine is about to load from the port
pub record Meets (ports : List Port) (stack : ℕ) (instr : Instr) (left : List Instr) (words : List ℕ) (lines : List ScriptLine) (address width place : ℕ) (s : State) : Type 0 where
  pub is : IsAt ports stack (instr ∷ left) words lines s
  pub met : IsMet address width
  pub holds : slice_index s.registers 5 ≡ address

pub met-small : (address width : ℕ) → IsMet address width → address < 2 ^ 32
met-small address width m = wide m.wide
  where
    wide : IsWidth width → address < 2 ^ 32
    wide (inl w) = omega (arith, m.within)
    wide (inr (inl w)) = omega (arith, m.within)
    wide (inr (inr w)) = omega (arith, m.within)

load_reads : (ports : List Port) (stack : ℕ) (left : List Instr) (words : List ℕ) (lines : List ScriptLine) (address width place : ℕ) (s : State)
    → Meets ports stack (Load (load_of width) 5 5 (pos 0)) left words lines address width place s → read_at ports address width ≡ Some place
    → table s ≡ reading (first_value place lines) place (load_of width) 5 s
load_reads ports stack left words lines address width place s m found =
    does ports stack (Load (load_of width) 5 5 (pos 0)) left words lines s m.is (omega arith, omega arith, nothing_fits)
    ∙ load_at (load_of width) address s (met-small address width m.met) m.holds
    ∙ loads_port (load_of width) address width place s (load_of-size width m.met.wide) m.met.aligned (no_load stack words s.memory address width m.is.frame m.met.high)
    (ap (λ (ps : List Port). position (is_read_at address width) ps) m.is.with_ports ∙ found)
    ∙ ap (λ (ls : List ScriptLine). reading (first_value place ls) place (load_of width) 5 s) m.is.waiting

pub takes : (ports : List Port) (stack : ℕ) (left : List Instr) (words : List ℕ) (lines : List ScriptLine) (address width place value : ℕ) (s : State)
    → Meets ports stack (Load (load_of width) 5 5 (pos 0)) left words lines address width place s → read_at ports address width ≡ Some place → first_value place lines ≡ Some value
    → Puts ports stack left words (without_first place lines) 5 value 1 (Read place value ∷ []) s
takes ports stack left words lines address width place value s m found first =
    put_one ports stack (Load (load_of width) 5 5 (pos 0)) left words lines (without_first place lines) 5 value (Read place value) s m.is (omega arith)
    (load_reads ports stack left words lines address width place s m found
    ∙ ap (λ (v : Option ℕ). reading v place (load_of width) 5 s) first
    ∙ reads_line (load_of width) place value s (load_of-extended width value m.met.wide)
    ∙ ap (λ (ls : List ScriptLine). (goes_on (changed (slice_set s.registers 5 value) (without_first place ls) s.memory s), Read place value)) m.is.waiting)
    tt

-- ---- an end

-- so many instructions lead to one that ends the run
pub record Halts (ports : List Port) (stack : ℕ) (stop : Stop) (count : ℕ) (s : State) : Type 0 where
  pub last : State
  pub goes : Goes ports stack s count [] last
  pub fine : IsFine ports stack last
  pub ends : turn last ≡ TurnEnd stop

halts_now : (ports : List Port) (stack : ℕ) (words : List ℕ) (stop : Stop) (s : State) → IsFrame stack words s.memory → s.ports ≡ ports → IsLetThrough (Ended stop) → table s ≡ ending stop s → Halts ports stack stop 0 s
halts_now ports stack words stop s frame same let_through e =
    let next : State = record s { ended = Some stop; done = counted s.done } in
    record {
      last = s;
      goes = nowhere ports stack s;
      fine = fine_step ports stack words s next (Ended stop) frame same e let_through;
      ends = ends_now s next stop e;
    }

pub lacks : (ports : List Port) (stack : ℕ) (left : List Instr) (words : List ℕ) (lines : List ScriptLine) (address width place : ℕ) (s : State)
    → Meets ports stack (Load (load_of width) 5 5 (pos 0)) left words lines address width place s → read_at ports address width ≡ Some place → first_value place lines ≡ None
    → Halts ports stack (InputEnd place) 0 s
lacks ports stack left words lines address width place s m found first =
    halts_now ports stack words (InputEnd place) s m.is.frame m.is.with_ports tt
    (load_reads ports stack left words lines address width place s m found ∙ ap (λ (v : Option ℕ). reading v place (load_of width) 5 s) first ∙ no_line (load_of width) place s)

-- ---- stores

store_of-size : (width : ℕ) → IsWidth width → store_size (store_of width) ≡ width
unfolding store_size
store_of-size width (inl w) = rw w refl
store_of-size width (inr (inl w)) = rw w refl
store_of-size width (inr (inr w)) = rw w refl

whole : (value : ℕ) → value < 2 ^ 32 → value ≡ value % 2 ^ (8 * 4)
whole value h = omega arith

store_of-low : (width value : ℕ) → IsWidth width → value < 2 ^ 32 → low_part (store_of width) value ≡ value % 2 ^ (8 * width)
unfolding low_part
store_of-low width value (inl w) h = rw w refl
store_of-low width value (inr (inl w)) h = rw w refl
store_of-low width value (inr (inr w)) h = rw w (whole value h)

stores_none : (op : StoreOp) (address width place value : ℕ) (s : State) → store_size op ≡ width → position (is_written_at address width) s.ports ≡ Some place → storing_memory None op address value s ≡ (goes_on s, Wrote place (low_part op value))
unfolding storing_memory storing_port
stores_none op address width place value s size found =
    ap (λ n. storing_port (position (is_written_at address n) s.ports) (low_part op value) s) size ∙ ap (λ (o : Option ℕ). storing_port o (low_part op value) s) found

stores_port : (op : StoreOp) (address width place value : ℕ) (s : State) → store_size op ≡ width → address % width ≡ 0 → store s.memory address width value ≡ None → position (is_written_at address width) s.ports ≡ Some place
    → storing op address value s ≡ (goes_on s, Wrote place (low_part op value))
unfolding storing
stores_port op address width place value s size aligned none found = rw (size, aligned, none) (stores_none op address width place value s size found)

store_at : (op : StoreOp) (address value : ℕ) (s : State) → address < 2 ^ 32 → slice_index s.registers 5 ≡ address → slice_index s.registers 6 ≡ value → execute (Store op 5 6 (pos 0)) s ≡ storing op address value s
unfolding execute
store_at op address value s small e v =
    ap (λ a. storing op a (slice_index s.registers 6) s) (ap (λ n. wrapped (n + unsigned (pos 0))) e ∙ plus_nothing address small) ∙ ap (λ n. storing op address n s) v

pub gives : (ports : List Port) (stack : ℕ) (left : List Instr) (words : List ℕ) (lines : List ScriptLine) (address width place value : ℕ) (s : State)
    → Meets ports stack (Store (store_of width) 5 6 (pos 0)) left words lines address width place s → written_at ports address width ≡ Some place
    → slice_index s.registers 6 ≡ value → value < 2 ^ 32
    → Keeps ports stack left words lines 1 (Wrote place (value % 2 ^ (8 * width)) ∷ []) s
gives ports stack left words lines address width place value s m found v small =
    let instr = Store (store_of width) 5 6 (pos 0) in
    let next : State = goes_on (changed s.registers lines s.memory s) in
    let e : table s ≡ (next, Wrote place (value % 2 ^ (8 * width))) =
    does ports stack instr left words lines s m.is (omega arith, omega arith, nothing_fits)
    ∙ store_at (store_of width) address value s (met-small address width m.met) m.holds v
    ∙ stores_port (store_of width) address width place value s (store_of-size width m.met.wide) m.met.aligned (no_store stack words s.memory address width value m.is.frame m.met.high)
    (ap (λ (ps : List Port). position (is_written_at address width) ps) m.is.with_ports ∙ found)
    ∙ ap (λ (n : ℕ). (goes_on s, Wrote place n)) (store_of-low width value m.met.wide small)
    ∙ ap (λ (ls : List ScriptLine). (goes_on (changed s.registers ls s.memory s), Wrote place (value % 2 ^ (8 * width)))) m.is.waiting in
    record {
      next = next;
      goes = one_step ports stack s next (Wrote place (value % 2 ^ (8 * width))) e tt (fine_step ports stack words s next (Wrote place (value % 2 ^ (8 * width))) m.is.frame m.is.with_ports e tt);
      is = on ports stack instr left words words lines lines s.registers s.memory s m.is m.is.wide m.is.frame;
    }

-- ---- computing

op_does : (op : AluOp) (a b : ℕ) (s : State) → slice_index s.registers 5 ≡ a → slice_index s.registers 6 ≡ b → execute (Op op 5 5 6) s ≡ computed 5 (alu_of op a b) s
unfolding execute
op_does op a b s e f = ap (λ v. computed 5 (alu_of op v (slice_index s.registers 6)) s) e ∙ ap (λ v. computed 5 (alu_of op a v) s) f

pub operates : (ports : List Port) (stack : ℕ) (op : AluOp) (a b : ℕ) (left : List Instr) (words : List ℕ) (lines : List ScriptLine) (s : State)
    → IsAt ports stack (Op op 5 5 6 ∷ left) words lines s → slice_index s.registers 5 ≡ a → slice_index s.registers 6 ≡ b
    → Puts ports stack left words lines 5 (alu_of op a b) 1 [] s
operates ports stack op a b left words lines s is e f =
    computes ports stack (Op op 5 5 6) left words lines 5 (alu_of op a b) s is (omega arith, omega arith, omega arith) (omega arith) refl (op_does op a b s e f)

-- ---- the end

call_does : (s : State) → execute (OpImm Add 17 0 (pos 0)) s ≡ computed 17 0 s
unfolding execute alu_of
call_does s = refl

ecall_does : (s : State) → slice_index s.registers 17 ≡ 0 → execute Ecall s ≡ ending Done s
unfolding execute
ecall_does s call = ap (λ number. ending (called number (slice_index s.registers 10)) s) call

pub is_done : (ports : List Port) (stack : ℕ) (words : List ℕ) (lines : List ScriptLine) (s : State) → IsAt ports stack (OpImm Add 17 0 (pos 0) ∷ Ecall ∷ []) words lines s → Halts ports stack Done 1 s
is_done ports stack words lines s is =
    let first : Puts ports stack (Ecall ∷ []) words lines 17 0 1 [] s =
    computes ports stack (OpImm Add 17 0 (pos 0)) (Ecall ∷ []) words lines 17 0 s is (omega arith, omega arith, nothing_fits) (omega arith) refl (call_does s) in
    let now = first.next in
    let last : Halts ports stack Done 0 now = halts_now ports stack words Done now first.is.frame first.is.with_ports tt (does ports stack Ecall [] words lines now first.is tt ∙ ecall_does now first.puts) in
    record {
      last = last.last;
      goes = together ports stack s now last.last 1 0 [] [] first.goes last.goes;
      fine = last.fine;
      ends = last.ends;
    }
