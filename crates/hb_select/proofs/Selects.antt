-- That every image of a program with its instructions shows what the program shows.
use Rattle.std.proofs.Common.{◌≡◌, ℕ, ◌*◌, ◌≤◌, List, [], ◌∷◌, length, map, slice_get, replicate, Option, Some, refl, ap, sym, ◌∙◌, subst, arith}
use Rattle.std.specs.Prelude.{All}
use Rattle.std.proofs.lemmas.List.{length-map, length-replicate}
use Rattle.std.proofs.lemmas.List.Elements.{All-head}
use Rattle.hb_asm.specs.declared.instr.Instr.{Instr}
use Rattle.hb_asm.specs.declared.part.Asm.{Asm}
use Rattle.hb_asm.specs.declared.part.AsmPart.TheVariants.{Instr as part}
use Rattle.hb_asm.specs.Coding.{code_of}
use Rattle.hb_base.specs.Ports.{ArePorts}
use Rattle.hb_base.specs.declared.port.Port.{Port}
use Rattle.hb_base.specs.declared.script.ScriptLine.{ScriptLine}
use Rattle.hb_flat.specs.declared.form.FlatBlock.{FlatBlock}
use Rattle.hb_flat.specs.declared.form.Flat.{Flat}
use Rattle.hb_flat.specs.Meaning.{entered, runs, shown_from}
use Rattle.hb_flat.specs.Rules.{IsBlock, IsStep, IsFlat}
use Rattle.hb_base.specs.Inputs.{AreInputs}
use Rattle.hb_isa.specs.State.{started}
use Rattle.hb_runs.specs.Law.{Law}
use Rattle.hb_select.specs.Code.{code_from, block_code, program, parts_of, words_of}
use Rattle.hb_select.specs.Weights.{weights, weighed_from}
use Rattle.hb_select.specs.Law.{course_of_flat, course_of_code, most_words, KeepsLaw, AccessLaw}
use Rattle.hb_select.proofs.Frames.{begins}
use Rattle.hb_select.proofs.Places.{IsAt}
use Rattle.hb_select.proofs.Turns.{Follows}
use Rattle.hb_select.proofs.Simulation.{keeps_law, keeps_accesses}

-- ---- the words of instructions

words_of-parts : (instrs : List Instr) → words_of (map part instrs) ≡ map code_of instrs
words_of-parts [] = refl
words_of-parts (i ∷ is) = ap (λ ws. code_of i ∷ ws) (words_of-parts is)

-- ---- the block with which a program begins

first_block : (blocks : List FlatBlock) (entry : ℕ) → length blocks ≡ 1 → entry ≡ 0 → (block : FlatBlock) × (slice_get blocks entry ≡ Some block) × (blocks ≡ block ∷ [])
first_block [] entry one at = absurd (omega arith)
first_block (block ∷ []) entry one at = (block, ap (λ i. slice_get (block ∷ []) i) at, refl)
first_block (block ∷ other ∷ rest) entry one at = absurd (omega arith)

-- ---- the start

starts : (code : List ℕ) (ports : List Port) (stack : ℕ) (lines : List ScriptLine) (left : List Instr) (words : ℕ) → stack ≤ 16777216 → length left ≤ most_words → code ≡ map code_of left → 4 * words ≤ stack
    → IsAt ports stack left (replicate words 0) lines (started code ports 0 stack lines)
starts code ports stack lines left words most short is room = record {
  place = 0;
  here = refl;
  low = omega (arith, short);
  code = is;
  with_ports = refl;
  going = refl;
  wide = refl;
  waiting = refl;
  frame = begins stack words most room;
}

starts_block : (code : List ℕ) (ports : List Port) (stack : ℕ) (lines : List ScriptLine) (block : FlatBlock) → ArePorts ports → stack ≤ 16777216 → length (code_from block.steps block.tail) ≤ most_words
    → code ≡ map code_of (code_from block.steps block.tail) → IsBlock ports stack block → AreInputs ports lines
    → Follows ports stack (entered block lines) (started code ports 0 stack lines)
starts_block code ports stack lines block rules most short same is inputs = record {
  is = starts code ports stack lines (code_from block.steps block.tail) block.words most short same is.frame;
  rules = rules;
  steps = subst (λ n. All (IsStep ports n) block.steps) (sym (length-replicate block.words 0)) is.steps;
  inputs = inputs;
}

-- ---- the law

block_law : (flat : Flat) (code : List ℕ) (ports : List Port) (lines : List ScriptLine) (block : FlatBlock) → slice_get flat.blocks flat.entry ≡ Some block → Follows ports flat.stack (entered block lines) (started code ports 0 flat.stack lines)
    → Law (course_of_flat flat ports lines) (course_of_code code ports flat.stack lines)
unfolding runs shown_from weights weighed_from
block_law flat code ports lines block e f =
    subst (λ (o : Option FlatBlock). Law (record { shows = shown_from o ports lines; costs = weighed_from o ports lines }) (course_of_code code ports flat.stack lines)) (sym e)
    (keeps_law ports flat.stack (entered block lines) (started code ports 0 flat.stack lines) f)

-- the block with which the program begins, and the machine about to do it
record Begun (flat : Flat) (asm : Asm) (ports : List Port) (lines : List ScriptLine) : Type 0 where
  block : FlatBlock
  stands : slice_get flat.blocks flat.entry ≡ Some block
  follows : Follows ports flat.stack (entered block lines) (started (words_of asm.parts) ports 0 flat.stack lines)

begun : (flat : Flat) (asm : Asm) → asm.parts ≡ parts_of flat → (ports : List Port) (lines : List ScriptLine) → IsFlat flat ports → length asm.parts ≤ most_words → AreInputs ports lines → Begun flat asm ports lines
begun flat asm parts ports lines is short inputs =
    let found = first_block flat.blocks flat.entry is.single is.entry in
    let block = found.0 in
    let stands = found.1 in
    let left = code_from block.steps block.tail in
    let same : program flat ≡ left = ap block_code stands in
    let code : words_of asm.parts ≡ map code_of left = ap words_of parts ∙ words_of-parts (program flat) ∙ ap (map code_of) same in
    let count : length asm.parts ≡ length left = ap length parts ∙ length-map (program flat) part ∙ ap length same in
    let all : All (IsBlock ports flat.stack) (block ∷ []) = subst (λ (bs : List FlatBlock). All (IsBlock ports flat.stack) bs) found.2 is.blocks in
    let fits : IsBlock ports flat.stack block = All-head (IsBlock ports flat.stack) block [] all in
    record {
      block = block;
      stands = stands;
      follows = starts_block (words_of asm.parts) ports flat.stack lines block is.rules is.stack_most (omega (arith, short, count)) code fits inputs;
    }

pub keeps : (flat : Flat) (asm : Asm) → asm.parts ≡ parts_of flat → KeepsLaw flat asm
keeps flat asm parts ports lines is short inputs =
    let b = begun flat asm parts ports lines is short inputs in
    block_law flat (words_of asm.parts) ports lines b.block b.stands b.follows

pub accesses : (flat : Flat) (asm : Asm) → asm.parts ≡ parts_of flat → AccessLaw flat asm
accesses flat asm parts ports lines is short inputs =
    let b = begun flat asm parts ports lines is short inputs in
    keeps_accesses ports flat.stack (entered b.block lines) (started (words_of asm.parts) ports 0 flat.stack lines) b.follows
