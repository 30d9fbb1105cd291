-- The flat program of a source shows at each count what the source says, from the run of `main`'s `do` on.
use Rattle.std.proofs.Common.{◌≡◌, ◌≢◌, ℕ, zero, suc, ◌+◌, ◌*◌, ◌%◌, ◌^◌, ◌<◌, ◌≤◌, List, [], ◌∷◌, ◌++◌, length, Option, Some, None, refl, sym, ap, subst, ◌∙◌, arith, ◌⊎◌, inl, inr, length-append, get_or-set_other, get_or-set_same}
use Rattle.std.specs.Prelude.{slice_get, slice_index, slice_set, All, IsSomeAnd, bit_and, bit_or, bit_xor}
use Rattle.std.proofs.lemmas.Nat.{xor_lt, or_lt, and_le_l}
use Rattle.std.proofs.lemmas.Bool.{cases_lt}
use Rattle.std.proofs.Math.ListN.{length-set}
use Rattle.std.proofs.Math.Seq.{get_or-append_seam}
use Rattle.std.proofs.lemmas.List.{get_or_append_left}
use Rattle.hb_base.specs.declared.port.Port.{Port}
use Rattle.hb_base.specs.declared.script.ScriptLine.{ScriptLine}
use Rattle.hb_base.specs.declared.step.Step.{Step}
use Rattle.hb_base.specs.declared.step.Step.TheVariants.{Read as ShowsRead}
use Rattle.hb_base.specs.declared.step.Stop.{Stop}
use Rattle.hb_base.specs.declared.step.Stop.TheVariants.{InputEnd}
use Rattle.hb_base.specs.Ports.{ArePorts}
use Rattle.hb_base.specs.Inputs.{AreInputs, first_value, without_first}
use Rattle.hb_asm.specs.Arithmetic.{alu_of}
use Rattle.hb_runs.specs.Outcome.{Outcome}
use Rattle.hb_flat.specs.declared.form.Operand.{Operand}
use Rattle.hb_flat.specs.declared.form.Operand.TheVariants.{Word, Number}
use Rattle.hb_flat.specs.declared.form.FlatStep.{FlatStep}
use Rattle.hb_flat.specs.declared.form.FlatStep.TheVariants.{Load, Store}
use Rattle.hb_flat.specs.declared.form.FlatTail.TheVariants.{Done as DoneTail}
use Rattle.hb_flat.specs.Meaning.{value_of, taking, reading, writing, does, closes, next, turn, followed, shown, read_at, written_at}
use Rattle.hb_second.specs.declared.source.Atom.{Atom}
use Rattle.hb_second.specs.declared.source.Atom.TheVariants.{Literal, Variable}
use Rattle.hb_second.specs.declared.source.Operator.{Operator}
use Rattle.hb_second.specs.declared.source.Operator.TheVariants.{Add, Sub, And, Or, Xor}
use Rattle.hb_second.specs.declared.source.Argument.TheVariants.{Atom as OneAtom, Operation}
use Rattle.hb_second.specs.declared.source.Statement.{Statement}
use Rattle.hb_second.specs.declared.source.Statement.TheVariants.{Read, Write}
use Rattle.hb_second.specs.Meaning.{operate, value, goes, after_event, ended}
use Rattle.hb_mach.proofs.PortLaws.{first_value-event, AreInputs-without_first}
use Rattle.hb_second_code.specs.Rules.{IsAtom, AreStatements}
use Rattle.hb_second_code.specs.Lowering.{operand_of, alu_op_of, reads, steps_of}
use Rattle.hb_second_code.proofs.Places.{written, read, get_is}

-- the words of the frame hold the values of the variables that are bound, and there is one word more
pub record Holds (values words : List ℕ) (scratch : ℕ) : Type 0 where
  pub same : (k : ℕ) → k < length values → slice_index words k ≡ slice_index values k
  pub bytes : (k : ℕ) → k < length values → slice_index values k < 256
  pub frame : scratch < length words
  pub below : length values ≤ scratch

value_is : (values words : List ℕ) (scratch : ℕ) → Holds values words scratch → (a : Atom) → IsAtom (length values) a → value_of words (operand_of a) ≡ value values a
value_is values words scratch h (Literal v) fits = refl
value_is values words scratch h (Variable k) fits = h.same k fits

byte_is : (values words : List ℕ) (scratch : ℕ) → Holds values words scratch → (a : Atom) → IsAtom (length values) a → value values a < 256
byte_is values words scratch h (Literal v) fits = fits
byte_is values words scratch h (Variable k) fits = h.bytes k fits

low_byte : (v : ℕ) → v < 256 → v % 2 ^ (8 * 1) ≡ v
low_byte v h = omega arith

-- what the operator gives on words, cut to a byte, is what it gives on bytes
operated : (op : Operator) (a b : ℕ) → a < 256 → b < 256 → alu_of (alu_op_of op) a b % 2 ^ (8 * 1) ≡ operate op a b
unfolding alu_of
operated Add a b ha hb = omega arith
operated Sub a b ha hb = omega arith
operated And a b ha hb = let le = and_le_l a b in low_byte (bit_and a b) (omega arith)
operated Or a b ha hb = low_byte (bit_or a b) (or_lt 8 a b ha hb)
operated Xor a b ha hb = low_byte (bit_xor a b) (xor_lt 8 a b ha hb)

operate_byte : (op : Operator) (a b : ℕ) → a < 256 → b < 256 → operate op a b < 256
operate_byte Add a b ha hb = omega arith
operate_byte Sub a b ha hb = omega arith
operate_byte And a b ha hb = let le = and_le_l a b in omega arith
operate_byte Or a b ha hb = or_lt 8 a b ha hb
operate_byte Xor a b ha hb = xor_lt 8 a b ha hb

-- ---- one statement

-- a write that stands before steps that go as the statements after it go
stored : (ports : List Port) (n port : ℕ) (a : Atom) (ss : List Statement) (values words : List ℕ) (lines : List ScriptLine) (address : ℕ) (operand : Operand) (steps : List FlatStep) → written_at ports address 1 ≡ Some port → value_of words operand % 2 ^ (8 * 1) ≡ value values a
    → goes n ss values lines ≡ shown ports n (record { steps = steps; tail = DoneTail; words = words; lines = lines })
    → goes (suc n) (Write port (OneAtom a) ∷ ss) values lines ≡ shown ports (suc n) (record { steps = Store (Number address) 1 operand ∷ steps; tail = DoneTail; words = words; lines = lines })
unfolding goes shown followed turn next does writing
stored ports n port a ss values words lines address operand steps at low later = rw (at, low, later) refl

-- a word that no variable has
other_word : (values words : List ℕ) (scratch v : ℕ) → Holds values words scratch → Holds values (slice_set words scratch v) scratch
other_word values words scratch v h = record {
  same = λ k below. let ne : k ≢ scratch = omega (arith, h.below) in rw get_or-set_other (h.same k below);
  bytes = h.bytes;
  frame = rw length-set h.frame;
  below = h.below;
}

scratch_word : (values words : List ℕ) (scratch v : ℕ) → Holds values words scratch → slice_index (slice_set words scratch v) scratch ≡ v
scratch_word values words scratch v h = let lt : scratch < length words = h.frame in rw get_or-set_same refl

-- one variable more
one_more : (values words : List ℕ) (scratch v : ℕ) → Holds values words scratch → v < 256 → length values + 1 ≤ scratch → Holds (values ++ v ∷ []) (slice_set words (length values) v) scratch
one_more values words scratch v h byte room = record {
  same = λ k below. by_place k (omega (arith, below, length-append values (v ∷ []))) (cases_lt k (length values));
  bytes = λ k below. bytes_at k (omega (arith, below, length-append values (v ∷ []))) (cases_lt k (length values));
  frame = rw length-set h.frame;
  below = omega (arith, length-append values (v ∷ []), room);
}
  where
    last : slice_index (values ++ v ∷ []) (length values) ≡ v
    last = get_or-append_seam values v [] 0

    first : (k : ℕ) → k < length values → slice_index (values ++ v ∷ []) k ≡ slice_index values k
    first k below = get_or_append_left values (v ∷ []) 0 k below

    by_place : (k : ℕ) → k ≤ length values → (k < length values) ⊎ (length values ≤ k) → slice_index (slice_set words (length values) v) k ≡ slice_index (values ++ v ∷ []) k
    by_place k le (inl lt) = let ne : k ≢ length values = omega arith in rw get_or-set_other (h.same k lt ∙ sym (first k lt))
    by_place k le (inr ge) =
        let e : k ≡ length values = omega arith in
        let lt : length values < length words = omega (arith, h.frame, h.below) in
        rw e (rw get_or-set_same (sym last))

    bytes_at : (k : ℕ) → k ≤ length values → (k < length values) ⊎ (length values ≤ k) → slice_index (values ++ v ∷ []) k < 256
    bytes_at k le (inl lt) = rw (first k lt) (h.bytes k lt)
    bytes_at k le (inr ge) = let e : k ≡ length values = omega arith in rw (e, last) byte

-- ---- all statements

input_byte : (ports : List Port) (lines : List ScriptLine) (port v : ℕ) → All (λ (p : Port). p.width ≡ 1) ports → AreInputs ports lines → first_value port lines ≡ Some v → v < 256
input_byte ports lines port v bytes inputs e = by_port (slice_get ports port) refl (first_value-event ports lines port v inputs e)
  where
    by_port : (o : Option Port) → slice_get ports port ≡ o → IsSomeAnd o (λ p. v < 2 ^ (8 * p.width)) → v < 256
    by_port None eo h = absurd h
    by_port (Some p) eo h =
        let got = get_is ports port p eo in
        let wide : p.width ≡ 1 = subst (λ (q : Port). q.width ≡ 1) got.1 (bytes port p got.0) in
        subst (λ w. v < 2 ^ (8 * w)) wide h

-- a read, by the port's first line
by_line : ℕ → ℕ → List Statement → List ℕ → List ScriptLine → Option ℕ → Outcome Step Stop
unfolding goes
by_line n port ss values lines None = ended (InputEnd port)
by_line n port ss values lines (Some v) = after_event (ShowsRead port v) (goes n ss (values ++ v ∷ []) (without_first port lines))

goes_read : (n port : ℕ) (ss : List Statement) (values : List ℕ) (lines : List ScriptLine) (o : Option ℕ) → first_value port lines ≡ o → goes (suc n) (Read port ∷ ss) values lines ≡ by_line n port ss values lines o
unfolding goes by_line
goes_read n port ss values lines None e = ap (λ (o : Option ℕ). elim o [ None ↦ ended (InputEnd port) | Some v ↦ after_event (ShowsRead port v) (goes n ss (values ++ v ∷ []) (without_first port lines)) ]) e
goes_read n port ss values lines (Some v) e = ap (λ (o : Option ℕ). elim o [ None ↦ ended (InputEnd port) | Some v ↦ after_event (ShowsRead port v) (goes n ss (values ++ v ∷ []) (without_first port lines)) ]) e

read_goes : (ports : List Port) (n port bound : ℕ) (ss : List Statement) (values words : List ℕ) (lines : List ScriptLine) (address : ℕ) (steps : List FlatStep) → read_at ports address 1 ≡ Some port → (o : Option ℕ) → first_value port lines ≡ o
    → ((v : ℕ) → first_value port lines ≡ Some v → goes n ss (values ++ v ∷ []) (without_first port lines) ≡ shown ports n (record { steps = steps; tail = DoneTail; words = slice_set words bound v; lines = without_first port lines }))
    → goes (suc n) (Read port ∷ ss) values lines ≡ shown ports (suc n) (record { steps = Load bound (Number address) 1 ∷ steps; tail = DoneTail; words = words; lines = lines })
unfolding by_line shown followed turn next does reading taking
read_goes ports n port bound ss values words lines address steps at None e later = goes_read n port ss values lines None e ∙ rw (at, e) refl
read_goes ports n port bound ss values words lines address steps at (Some v) e later = goes_read n port ss values lines (Some v) e ∙ rw (at, e) (ap (after_event (ShowsRead port v)) (later v e))

module _ (ports : List Port) (scratch : ℕ) (rules : ArePorts ports) (bytes : All (λ (p : Port). p.width ≡ 1) ports) where
  pub follows : (n : ℕ) (ss : List Statement) (values words : List ℕ) (lines : List ScriptLine) → AreStatements ports (length values) ss → AreInputs ports lines → Holds values words scratch → length values + reads ss ≤ scratch
      → goes n ss values lines ≡ shown ports n (record { steps = steps_of ports scratch (length values) ss; tail = DoneTail; words = words; lines = lines })
  unfolding goes shown followed turn next does closes
  follows zero ss values words lines fits inputs h room = refl
  follows (suc n) [] values words lines fits inputs h room = refl
  follows (suc n) (Read port ∷ ss) values words lines fits inputs h room =
      read_goes ports n port (length values) ss values words lines _ _ (read ports port rules bytes fits.0) _ refl
      (λ v e.
      let longer : length (values ++ v ∷ []) ≡ length values + 1 = length-append values (v ∷ []) in
      let byte = input_byte ports lines port v bytes inputs e in
      let more = one_more values words scratch v h byte (omega (arith, room)) in
      let left : length (values ++ v ∷ []) + reads ss ≤ scratch = omega (arith, room, longer) in
      let rest = follows n ss (values ++ v ∷ []) (slice_set words (length values) v) (without_first port lines) (subst (λ k. AreStatements ports k ss) (sym longer) fits.1) (AreInputs-without_first ports lines port inputs) more left in
      subst (λ k. goes n ss (values ++ v ∷ []) (without_first port lines) ≡ shown ports n (record { steps = steps_of ports scratch k ss; tail = DoneTail; words = slice_set words (length values) v; lines = without_first port lines })) longer rest)
  follows (suc n) (Write port (OneAtom a) ∷ ss) values words lines fits inputs h room =
      stored ports n port a ss values words lines _ (operand_of a) _ (written ports port rules bytes fits.0)
      (ap (λ v. v % 2 ^ (8 * 1)) (value_is values words scratch h a fits.1) ∙ low_byte (value values a) (byte_is values words scratch h a fits.1))
      (follows n ss values words lines fits.2 inputs h room)
  follows (suc zero) (Write port (Operation a op b) ∷ ss) values words lines fits inputs h room = refl
  follows (suc (suc n)) (Write port (Operation a op b) ∷ ss) values words lines fits inputs h room =
      let x = value_of words (operand_of a) in
      let y = value_of words (operand_of b) in
      let gives = alu_of (alu_op_of op) x y in
      stored ports n port (Literal (operate op (value values a) (value values b))) ss values (slice_set words scratch gives) lines _ (Word scratch) _ (written ports port rules bytes fits.0)
      (ap (λ v. v % 2 ^ (8 * 1)) (scratch_word values words scratch gives h)
      ∙ ap (λ v. alu_of (alu_op_of op) v y % 2 ^ (8 * 1)) (value_is values words scratch h a fits.1.0)
      ∙ ap (λ v. alu_of (alu_op_of op) (value values a) v % 2 ^ (8 * 1)) (value_is values words scratch h b fits.1.1)
      ∙ operated op (value values a) (value values b) (byte_is values words scratch h a fits.1.0) (byte_is values words scratch h b fits.1.1))
      (follows n ss values (slice_set words scratch gives) lines fits.2 inputs (other_word values words scratch gives h) room)
