-- What it is that instructions do what a flat program does.
use Rattle.std.specs.Prelude.{ℕ, ◌≤◌, List, length}
use Rattle.hb_asm.specs.declared.part.Asm.{Asm}
use Rattle.hb_base.specs.declared.port.Port.{Port}
use Rattle.hb_base.specs.declared.script.ScriptLine.{ScriptLine}
use Rattle.hb_base.specs.declared.step.Step.{Step}
use Rattle.hb_base.specs.declared.step.Stop.{Stop}
use Rattle.hb_flat.specs.declared.form.Flat.{Flat}
use Rattle.hb_flat.specs.Meaning.{runs}
use Rattle.hb_flat.specs.Rules.{IsFlat}
use Rattle.hb_base.specs.Inputs.{AreInputs}
use Rattle.hb_isa.specs.State.{started}
use Rattle.hb_isa.specs.Run.{shown}
use Rattle.hb_isa.specs.Table.{table}
use Rattle.hb_isa.specs.Touches.{IsAllowed}
use Rattle.hb_runs.specs.Stepping.{after}
use Rattle.hb_runs.specs.Law.{Course, Law}
use Rattle.hb_select.specs.Code.{words_of}
use Rattle.hb_select.specs.Weights.{weights}

-- the most words of code that stand below the areas
abbrev pub most_words : ℕ
most_words = 134201344

-- a flat program by its counts, and what they weigh
abbrev pub course_of_flat : Flat → List Port → List ScriptLine → Course Step Stop
course_of_flat flat ports lines = record { shows = runs flat ports lines; costs = weights flat ports lines }

-- code over ports, with a stack and no areas, by its instructions, which cost one each
abbrev pub course_of_code : List ℕ → List Port → ℕ → List ScriptLine → Course Step Stop
course_of_code code ports stack lines = record { shows = shown (started code ports 0 stack lines); costs = λ steps. steps }

-- over any ports over which the program keeps its rules, and whatever its inputs are, the code shows what the program
-- shows, and the converse, within the instructions that the counts weigh
abbrev pub KeepsLaw : Flat → Asm → Type 0
KeepsLaw flat asm =
    (ports : List Port) (lines : List ScriptLine)
    → IsFlat flat ports
    → length asm.parts ≤ most_words
    → AreInputs ports lines
    → Law (course_of_flat flat ports lines) (course_of_code (words_of asm.parts) ports flat.stack lines)

-- ---- where accesses lie

-- there are no areas, and so no cells
abbrev pub NoCell : ℕ → ℕ → Type 0
NoCell address size = ⊥

-- over the same ports and inputs, each instruction accesses nothing, or the stack region or a port, at its alignment
abbrev pub AccessLaw : Flat → Asm → Type 0
AccessLaw flat asm =
    (ports : List Port) (lines : List ScriptLine)
    → IsFlat flat ports
    → length asm.parts ≤ most_words
    → AreInputs ports lines
    → (steps : ℕ)
    → IsAllowed NoCell ports flat.stack (after table steps (started (words_of asm.parts) ports 0 flat.stack lines))
