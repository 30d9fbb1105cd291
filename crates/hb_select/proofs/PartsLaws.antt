-- Which parts a program has, and that the fields of its instructions are in range.
use Rattle.std.proofs.Common.{◌≡◌, ℕ, ◌<◌, ◌≤◌, List, [], ◌∷◌, ◌++◌, length, take, map, get_or, slice_get, Option, Some, None, ap, sym, ◌∙◌, subst, arith}
use Rattle.std.specs.Prelude.{All, pos}
use Rattle.std.specs.List.{flat_map}
use Rattle.std.proofs.lemmas.Int.{ints}
use Rattle.std.proofs.lemmas.List.{take_all, map-append}
use Rattle.std.proofs.lemmas.List.Elements.{All-nil, All-cons, All-append, All-map}
use Rattle.std.proofs.lemmas.Option.{slice_get-get_or}
use Rattle.hb_asm.specs.declared.instr.Instr.{Instr}
use Rattle.hb_asm.specs.declared.instr.Instr.TheVariants.{Op, Load as LoadInstr, Store as StoreInstr}
use Rattle.hb_asm.specs.declared.part.AsmPart.{AsmPart}
use Rattle.hb_asm.specs.declared.part.AsmPart.TheVariants.{Instr as part}
use Rattle.hb_asm.specs.InRange.{InRange, IsImmediate}
use Rattle.hb_flat.specs.declared.form.Operand.{Operand}
use Rattle.hb_flat.specs.declared.form.Operand.TheVariants.{Word, Number}
use Rattle.hb_flat.specs.declared.form.FlatStep.{FlatStep}
use Rattle.hb_flat.specs.declared.form.FlatStep.TheVariants.{Set, Alu, Load, Store}
use Rattle.hb_flat.specs.declared.form.FlatTail.{FlatTail}
use Rattle.hb_flat.specs.declared.form.FlatTail.TheVariants.{Done}
use Rattle.hb_flat.specs.declared.form.FlatBlock.{FlatBlock}
use Rattle.hb_flat.specs.declared.form.Flat.{Flat}
use Rattle.hb_select.specs.Code.{operand_code, put_code, step_code, tail_code, code_from, block_code, program, parts_of, load_of, store_of, address_of, IsPart}
use Rattle.hb_select.proofs.Numbers.{upper-fits, lower-fits}

-- ---- the parts, in the loop that puts them

pub all_parts : (items : List FlatStep) (i : ℕ) (blocks : List FlatBlock) (entry : ℕ) (block : FlatBlock) (before after : List AsmPart)
    → items ≡ block.steps → length items ≤ i → before ≡ map part (flat_map step_code (take i items)) → after ≡ before ++ map part (tail_code block.tail)
    → entry < length blocks → block ≡ get_or blocks entry block → after ≡ map part (block_code (slice_get blocks entry))
unfolding code_from
all_parts items i blocks entry block before after same past so_far last low found =
    let whole : take i items ≡ block.steps = take_all i items past ∙ same in
    let stands : slice_get blocks entry ≡ Some block = slice_get-get_or blocks entry block low ∙ ap (λ (b : FlatBlock). Some b) (sym found) in
    last ∙ ap (λ (ps : List AsmPart). ps ++ map part (tail_code block.tail)) (so_far ∙ ap (λ (steps : List FlatStep). map part (flat_map step_code steps)) whole)
    ∙ sym (map-append part (flat_map step_code block.steps) (tail_code block.tail))
    ∙ ap (λ (o : Option FlatBlock). map part (block_code o)) (sym stands)

-- ---- the range of each field

two : (i j : Instr) → InRange i → InRange j → All InRange (i ∷ j ∷ [])
two i j h k = All-cons InRange i (j ∷ []) h (All-cons InRange j [] k (All-nil InRange))

nothing_fits : IsImmediate (pos 0)
nothing_fits = (omega (arith, ints), omega (arith, ints))

operand_range : (register : ℕ) (a : Operand) → register < 32 → All InRange (operand_code register a)
operand_range register (Number n) h = two _ _ (h, upper-fits n) (h, h, lower-fits n)
operand_range register (Word k) h = two _ _ (h, upper-fits (address_of k)) (h, h, lower-fits (address_of k))

put_range : (word : ℕ) → All InRange (put_code word)
put_range word = two _ _ (omega arith, upper-fits (address_of word)) (omega arith, omega arith, lower-fits (address_of word))

load_range : (width : ℕ) → InRange (LoadInstr (load_of width) 5 5 (pos 0))
load_range width = (omega arith, omega arith, nothing_fits)

store_range : (width : ℕ) → InRange (StoreInstr (store_of width) 5 6 (pos 0))
store_range width = (omega arith, omega arith, nothing_fits)

step_range : (step : FlatStep) → All InRange (step_code step)
step_range (Set word a) = All-append InRange (operand_code 5 a) (put_code word) (operand_range 5 a (omega arith)) (put_range word)
step_range (Alu word op a b) =
    All-append InRange (operand_code 5 a) (operand_code 6 b ++ Op op 5 5 6 ∷ put_code word) (operand_range 5 a (omega arith))
    (All-append InRange (operand_code 6 b) (Op op 5 5 6 ∷ put_code word) (operand_range 6 b (omega arith))
    (All-cons InRange (Op op 5 5 6) (put_code word) (omega arith, omega arith, omega arith) (put_range word)))
step_range (Load word address width) =
    All-append InRange (operand_code 5 address) (LoadInstr (load_of width) 5 5 (pos 0) ∷ put_code word) (operand_range 5 address (omega arith))
    (All-cons InRange (LoadInstr (load_of width) 5 5 (pos 0)) (put_code word) (load_range width) (put_range word))
step_range (Store address width a) =
    All-append InRange (operand_code 5 address) (operand_code 6 a ++ StoreInstr (store_of width) 5 6 (pos 0) ∷ []) (operand_range 5 address (omega arith))
    (All-append InRange (operand_code 6 a) (StoreInstr (store_of width) 5 6 (pos 0) ∷ []) (operand_range 6 a (omega arith))
    (All-cons InRange (StoreInstr (store_of width) 5 6 (pos 0)) [] (store_range width) (All-nil InRange)))

steps_range : (steps : List FlatStep) → All InRange (flat_map step_code steps)
steps_range [] = All-nil InRange
steps_range (step ∷ steps) = All-append InRange (step_code step) (flat_map step_code steps) (step_range step) (steps_range steps)

tail_range : (tail : FlatTail) → All InRange (tail_code tail)
tail_range Done = two _ _ (omega arith, omega arith, nothing_fits) tt

block_range : (block : Option FlatBlock) → All InRange (block_code block)
unfolding code_from
block_range None = All-nil InRange
block_range (Some block) = All-append InRange (flat_map step_code block.steps) (tail_code block.tail) (steps_range block.steps) (tail_range block.tail)

pub parts_range : (flat : Flat) (parts : List AsmPart) → parts ≡ parts_of flat → All IsPart parts
parts_range flat parts e = subst (All IsPart) (sym e) (All-map IsPart part (program flat) (block_range (slice_get flat.blocks flat.entry)))
