-- What the routine for multiplication does.
use Rattle.std.specs.Prelude.{◌≡◌, ℕ, ◌*◌, ◌%◌, ◌^◌, List, [], ◌∷◌}
use Rattle.hb_asm.specs.declared.instr.Instr.{Instr}
use Rattle.hb_isa.specs.State.{State, register}
use Rattle.hb_rt.specs.Routine.{IsPlain, IsRunning, StandsAtPc, Passes}

-- the most instructions that it has
abbrev pub multiply_length : ℕ
multiply_length = 9

-- the most steps that it takes
abbrev pub multiply_steps : ℕ
multiply_steps = 226

-- the registers that it may change
abbrev pub multiply_changes : List ℕ
multiply_changes = 5 ∷ 6 ∷ 10 ∷ 11 ∷ []

-- x10 becomes the product of x10 and x11, of which the low 32 bits stay
pub record Multiplies (routine : List Instr) : Type 0 where
  pub plain : IsPlain routine multiply_length
  pub product :
      (s : State)
      → IsRunning s
      → StandsAtPc routine s
      → Passes routine multiply_steps multiply_changes (λ t. register t 10 ≡ (register s 10 * register s 11) % 2 ^ 32) s
