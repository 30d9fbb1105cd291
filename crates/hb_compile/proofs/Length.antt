-- How many words the code of a flat program of few steps has.
use Rattle.std.proofs.Common.{◌≡◌, ℕ, ◌+◌, ◌*◌, ◌≤◌, List, [], ◌∷◌, ◌++◌, length, slice_get, refl, sym, subst, ◌∙◌, arith, length-append}
use Rattle.std.specs.Prelude.{All, pos}
use Rattle.std.specs.List.{flat_map}
use Rattle.std.proofs.lemmas.List.{length-map}
use Rattle.std.proofs.lemmas.List.Elements.{All-head}
use Rattle.hb_asm.specs.declared.instr.Instr.{Instr}
use Rattle.hb_asm.specs.declared.instr.Instr.TheVariants.{Op, Load as LoadInstr, Store as StoreInstr}
use Rattle.hb_asm.specs.declared.part.AsmPart.TheVariants.{Instr as part}
use Rattle.hb_flat.specs.declared.form.Operand.{Operand}
use Rattle.hb_flat.specs.declared.form.Operand.TheVariants.{Word, Number}
use Rattle.hb_flat.specs.declared.form.FlatStep.{FlatStep}
use Rattle.hb_flat.specs.declared.form.FlatStep.TheVariants.{Set, Alu, Load, Store}
use Rattle.hb_flat.specs.declared.form.FlatTail.{FlatTail}
use Rattle.hb_flat.specs.declared.form.FlatTail.TheVariants.{Done}
use Rattle.hb_flat.specs.declared.form.FlatBlock.{FlatBlock}
use Rattle.hb_flat.specs.declared.form.Flat.{Flat}
use Rattle.hb_select.specs.Code.{operand_code, put_code, step_code, tail_code, code_from, block_code, program, parts_of, words_of, word_of, load_of, store_of}

-- ---- one step

after_operand : (register : ℕ) (a : Operand) (rest : List Instr) → length (operand_code register a ++ rest) ≡ 2 + length rest
after_operand register (Word word) rest = omega arith
after_operand register (Number number) rest = omega arith

step_short : (step : FlatStep) → length (step_code step) ≤ 7
step_short (Set word a) = omega (arith, after_operand 5 a (put_code word))
step_short (Alu word op a b) =
    let last = Op op 5 5 6 ∷ put_code word in
    omega (arith, after_operand 5 a (operand_code 6 b ++ last), after_operand 6 b last)
step_short (Load word address width) = omega (arith, after_operand 5 address (LoadInstr (load_of width) 5 5 (pos 0) ∷ put_code word))
step_short (Store address width a) =
    let last = StoreInstr (store_of width) 5 6 (pos 0) ∷ [] in
    omega (arith, after_operand 5 address (operand_code 6 a ++ last), after_operand 6 a last)

steps_short : (steps : List FlatStep) → length (flat_map step_code steps) ≤ 7 * length steps
steps_short [] = omega arith
steps_short (step ∷ steps) = omega (arith, length-append (step_code step) (flat_map step_code steps), step_short step, steps_short steps)

-- ---- a block

-- so many words can be the code of an image
pub record Fits (words : ℕ) : Type 0 where
  pub least : 1 ≤ words
  pub most : words ≤ 14002

tail_two : (tail : FlatTail) → length (tail_code tail) ≡ 2
tail_two Done = refl

code_short : (steps : List FlatStep) (tail : FlatTail) → length steps ≤ 2000 → Fits (length (code_from steps tail))
unfolding code_from
code_short steps tail few =
    let both = length-append (flat_map step_code steps) (tail_code tail) in
    record {
      least = omega (arith, both, tail_two tail);
      most = omega (arith, both, tail_two tail, steps_short steps, few);
    }

blocks_short :
    (blocks : List FlatBlock) (entry : ℕ)
    → length blocks ≡ 1
    → entry ≡ 0
    → All (λ (block : FlatBlock). length block.steps ≤ 2000) blocks
    → Fits (length (block_code (slice_get blocks entry)))
blocks_short [] entry single first few = absurd (omega (arith, single))
blocks_short (block ∷ blocks) entry single first few =
    rw first (code_short block.steps block.tail (All-head (λ (b : FlatBlock). length b.steps ≤ 2000) block blocks few))

-- ---- the whole program

pub words_short :
    (flat : Flat)
    → length flat.blocks ≡ 1
    → flat.entry ≡ 0
    → All (λ (block : FlatBlock). length block.steps ≤ 2000) flat.blocks
    → Fits (length (words_of (parts_of flat)))
words_short flat single first few =
    let same : length (words_of (parts_of flat)) ≡ length (program flat) = length-map (parts_of flat) word_of ∙ length-map (program flat) part in
    subst Fits (sym same) (blocks_short flat.blocks flat.entry single first few)
