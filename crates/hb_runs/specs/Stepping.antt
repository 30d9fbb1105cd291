-- A machine by its steps: a step goes from a state to a state, with an answer.
use Rattle.std.specs.Prelude.{ℕ, zero, suc, List, [], ◌∷◌}

-- the state after n steps
unfoldable pub after : {S T : Type 0} → (S → S × T) → ℕ → S → S
after step zero s = s
after step (suc n) s = after step n (step s).0

-- what the first n steps answer, in order
unfoldable pub answers : {S T : Type 0} → (S → S × T) → ℕ → S → List T
answers step zero s = []
answers step (suc n) s = (step s).1 ∷ answers step n (step s).0
