-- The instruction at a place is that of the word there.
use Rattle.std.proofs.Common.{◌≡◌, ◌-◌, ◌/◌, ◌<◌, ◌≤◌, true, false, nat_le, List, map, slice_get, Option, None, refl, ap, ◌∙◌}
use Rattle.std.proofs.lemmas.Bool.{le-leb, lt-leb}
use Rattle.std.proofs.lemmas.Option.{slice_get-map}
use Rattle.hb_asm.specs.declared.instr.Instr.{Instr}
use Rattle.hb_asm.specs.Coding.{decode_of}
use Rattle.hb_isa.specs.State.{State, code_base}
use Rattle.hb_isa.specs.Table.{instruction_at_pc}

pub fetch-below : (s : State) → s.pc < code_base → instruction_at_pc s ≡ None
fetch-below s h = let low : nat_le code_base s.pc ≡ false = lt-leb _ _ h in rw low refl

pub fetch-above : (s : State) (instrs : List (Option Instr)) (fetched : Option (Option Instr)) → code_base ≤ s.pc → instrs ≡ map decode_of s.code
    → fetched ≡ slice_get instrs ((s.pc - code_base) / 4) → fetched ≡ instruction_at_pc s
fetch-above s instrs fetched h e f =
    let low : nat_le code_base s.pc ≡ true = le-leb _ _ h in
    rw low (f ∙ ap (λ (xs : List (Option Instr)). slice_get xs ((s.pc - code_base) / 4)) e ∙ slice_get-map decode_of s.code ((s.pc - code_base) / 4))

pub ruleset fetches = (fetch-below, fetch-above)
