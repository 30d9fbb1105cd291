-- What the routine for division does.
use Rattle.std.specs.Prelude.{◌≡◌, ◌≢◌, ℕ, ◌/◌, ◌%◌, List, [], ◌∷◌}
use Rattle.hb_asm.specs.declared.instr.Instr.{Instr}
use Rattle.hb_isa.specs.State.{State, register}
use Rattle.hb_rt.specs.Routine.{IsPlain, IsRunning, StandsAtPc, Passes}

-- the most instructions that it has
abbrev pub divide_length : ℕ
divide_length = 17

-- the most steps that it takes
abbrev pub divide_steps : ℕ
divide_steps = 389

-- the registers that it may change
abbrev pub divide_changes : List ℕ
divide_changes = 5 ∷ 6 ∷ 7 ∷ 10 ∷ 11 ∷ 28 ∷ []

-- x10 becomes the quotient of x10 by x11, and x11 the remainder, where x11 is not 0
pub record Divides (routine : List Instr) : Type 0 where
  pub plain : IsPlain routine divide_length
  pub quotient :
      (s : State)
      → IsRunning s
      → StandsAtPc routine s
      → register s 11 ≢ 0
      → Passes
      routine
      divide_steps
      divide_changes
      (λ t. (register t 10 ≡ register s 10 / register s 11) × (register t 11 ≡ register s 10 % register s 11))
      s
