-- The flat program of a source keeps the rules of flat programs and has few steps, and each shows what the other shows.
use Rattle.std.proofs.Common.{◌≡◌, ℕ, ◌+◌, ◌-◌, ◌*◌, ◌<◌, ◌≤◌, List, [], ◌∷◌, length, Option, Some, refl, sym, ◌∙◌, arith, length-append}
use Rattle.std.specs.Prelude.{All, replicate, IsSome}
use Rattle.std.proofs.lemmas.List.{length-replicate}
use Rattle.std.proofs.lemmas.List.Elements.{All-nil, All-cons, All-append}
use Rattle.hb_base.specs.declared.port.Port.{Port}
use Rattle.hb_base.specs.declared.script.ScriptLine.{ScriptLine}
use Rattle.hb_base.specs.declared.port.Dir.TheVariants.{Out}
use Rattle.hb_base.specs.Ports.{ArePorts}
use Rattle.hb_base.specs.Inputs.{AreInputs}
use Rattle.hb_runs.specs.Outcome.{SameRuns}
use Rattle.hb_flat.specs.declared.form.FlatBlock.{FlatBlock}
use Rattle.hb_flat.specs.declared.form.Operand.TheVariants.{Word}
use Rattle.hb_flat.specs.declared.form.FlatStep.TheVariants.{Alu, Load, Store}
use Rattle.hb_flat.specs.Meaning.{runs, shown_from}
use Rattle.hb_flat.specs.Rules.{IsOperand, IsStep, IsBlock, IsFlat}
use Rattle.hb_second.specs.declared.source.Atom.{Atom}
use Rattle.hb_second.specs.declared.source.Atom.TheVariants.{Literal, Variable}
use Rattle.hb_second.specs.declared.source.Argument.{Argument}
use Rattle.hb_second.specs.declared.source.Argument.TheVariants.{Atom as OneAtom, Operation}
use Rattle.hb_second.specs.declared.source.Statement.{Statement}
use Rattle.hb_second.specs.declared.source.Statement.TheVariants.{Read, Write}
use Rattle.hb_second.specs.declared.source.Source.{Source}
use Rattle.hb_second.specs.Meaning.{says}
use Rattle.hb_second_code.specs.Rules.{GoesAt, IsAtom, IsArgument, AreStatements, IsProgram}
use Rattle.hb_second_code.specs.Lowering.{operand_of, alu_op_of, address_of, reads, write_steps, steps_of, block_of, flat_of, stack_size}
use Rattle.hb_second_code.proofs.Places.{written, read}
use Rattle.hb_second_code.proofs.Follows.{Holds, follows}

none_bound : (scratch : ℕ) → Holds [] (replicate (scratch + 1) 0) scratch
none_bound scratch = record {
  same = λ k below. absurd (omega arith);
  bytes = λ k below. absurd (omega arith);
  frame = rw length-replicate (omega arith);
  below = omega arith;
}

goes_same : (source : Source) (lines : List ScriptLine) → IsProgram source → AreInputs source.ports lines → (n : ℕ) → says source lines (n + 2) ≡ runs (flat_of source) source.ports lines n
unfolding says runs shown_from
goes_same source lines rules inputs n =
    let two : n + 2 - 2 ≡ n = omega arith in
    rw two (follows source.ports (reads source.statements) rules.rules rules.bytes n source.statements [] (replicate (reads source.statements + 1) 0) lines rules.statements inputs (none_bound (reads source.statements)) (omega arith))

says_early : (source : Source) (lines : List ScriptLine) (n : ℕ) → says source lines n ≡ says source lines (n - 2 + 2)
unfolding says
says_early source lines n = let e : n - 2 + 2 - 2 ≡ n - 2 = omega arith in rw e refl

pub same_runs : (source : Source) (lines : List ScriptLine) → IsProgram source → AreInputs source.ports lines → SameRuns (says source lines) (runs (flat_of source) source.ports lines)
same_runs source lines rules inputs = record {
  each_source_count = λ n. (n - 2, sym (goes_same source lines rules inputs (n - 2)) ∙ sym (says_early source lines n));
  each_target_count = λ m. (m + 2, sym (goes_same source lines rules inputs m));
}

operand_fits : (words bound : ℕ) (a : Atom) → bound < words → IsAtom bound a → IsOperand words (operand_of a)
operand_fits words bound (Literal v) room fits = omega arith
operand_fits words bound (Variable k) room fits = omega arith

module _ (ports : List Port) (scratch : ℕ) (rules : ArePorts ports) (bytes : All (λ (p : Port). p.width ≡ 1) ports) where
  is_there : (o : Option ℕ) (n : ℕ) → o ≡ Some n → IsSome o
  is_there o n e = rw e refl

  writes_fit : (bound port : ℕ) (argument : Argument) → GoesAt ports port Out → IsArgument bound argument → bound ≤ scratch → All (IsStep ports (scratch + 1)) (write_steps ports scratch port argument)
  writes_fit bound port (OneAtom a) goes fits room =
      All-cons (IsStep ports (scratch + 1)) (Store (address_of ports port) 1 (operand_of a)) [] (is_there _ port (written ports port rules bytes goes), operand_fits (scratch + 1) bound a (omega arith) fits) (All-nil _)
  writes_fit bound port (Operation a op b) goes fits room =
      All-cons (IsStep ports (scratch + 1)) (Alu scratch (alu_op_of op) (operand_of a) (operand_of b)) (Store (address_of ports port) 1 (Word scratch) ∷ []) (omega arith, operand_fits (scratch + 1) bound a (omega arith) fits.0, operand_fits (scratch + 1) bound b (omega arith) fits.1)
      (All-cons (IsStep ports (scratch + 1)) (Store (address_of ports port) 1 (Word scratch)) [] (is_there _ port (written ports port rules bytes goes), omega arith) (All-nil _))

  steps_fit : (ss : List Statement) (bound : ℕ) → AreStatements ports bound ss → bound + reads ss ≤ scratch → All (IsStep ports (scratch + 1)) (steps_of ports scratch bound ss)
  steps_fit [] bound fits room = All-nil _
  steps_fit (Read port ∷ ss) bound fits room =
      All-cons (IsStep ports (scratch + 1)) (Load bound (address_of ports port) 1) _ (omega (arith, room), is_there _ port (read ports port rules bytes fits.0)) (steps_fit ss (bound + 1) fits.1 (omega (arith, room)))
  steps_fit (Write port argument ∷ ss) bound fits room =
      All-append (IsStep ports (scratch + 1)) (write_steps ports scratch port argument) (steps_of ports scratch bound ss) (writes_fit bound port argument fits.0 fits.1 (omega arith)) (steps_fit ss bound fits.2 room)

-- no more reads than statements
pub reads_few : (ss : List Statement) → reads ss ≤ length ss
reads_few [] = omega arith
reads_few (Read port ∷ ss) = omega (arith, reads_few ss)
reads_few (Write port argument ∷ ss) = omega (arith, reads_few ss)

pub flat_fits : (source : Source) → IsProgram source → IsFlat (flat_of source) source.ports
flat_fits source p = record {
  rules = p.rules;
  single = refl;
  entry = refl;
  rooms = refl;
  stack_whole = refl;
  stack_least = omega arith;
  stack_most = omega arith;
  blocks =
      All-cons (IsBlock source.ports stack_size) (block_of source) []
      (record { frame = omega (arith, reads_few source.statements, p.few); steps = steps_fit source.ports (reads source.statements) p.rules p.bytes source.statements 0 p.statements (omega arith) })
      (All-nil _);
}

-- ---- how many steps there are

written_few : (ports : List Port) (scratch port : ℕ) (argument : Argument) → length (write_steps ports scratch port argument) ≤ 2
written_few ports scratch port (OneAtom a) = omega arith
written_few ports scratch port (Operation a op b) = omega arith

-- at most two steps for each statement
steps_few : (ports : List Port) (scratch : ℕ) (ss : List Statement) (bound : ℕ) → length (steps_of ports scratch bound ss) ≤ 2 * length ss
steps_few ports scratch [] bound = omega arith
steps_few ports scratch (Read port ∷ ss) bound = omega (arith, steps_few ports scratch ss (bound + 1))
steps_few ports scratch (Write port argument ∷ ss) bound =
    let both = length-append (write_steps ports scratch port argument) (steps_of ports scratch bound ss) in
    omega (arith, both, written_few ports scratch port argument, steps_few ports scratch ss bound)

pub blocks_few : (source : Source) → IsProgram source → All (λ (block : FlatBlock). length block.steps ≤ 2000) (flat_of source).blocks
blocks_few source p =
    All-cons (λ (block : FlatBlock). length block.steps ≤ 2000) (block_of source) []
    (omega (arith, p.few, steps_few source.ports (reads source.statements) source.statements 0))
    (All-nil _)
