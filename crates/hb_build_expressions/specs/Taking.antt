-- How parts come off a stack, whose top is the first of its list.
use Rattle.std.specs.Prelude.{◌≡◌, ℕ, zero, suc, List, [], ◌∷◌, Option, Some, None}

-- so many items off the stack, before those that are off already; and what is left
unfoldable pub off : {A : Type 0} → ℕ → List A → List A → Option (List A × List A)
off zero stack taken = Some (taken, stack)
off (suc n) (x ∷ stack) taken = off n stack (x ∷ taken)
off (suc n) [] taken = None

-- these were taken off, and this is left; or they are not there
abbrev pub TakenOff : {A S : Type 0} → Option (A × S) → Option A → S → Type 0
TakenOff wanted None left = wanted ≡ None
TakenOff wanted (Some taken) left = wanted ≡ Some (taken, left)

-- the last two items, in the order in which they were put, and what is left
abbrev pub two_off : {A : Type 0} → List A → Option ((A × A) × List A)
two_off (b ∷ a ∷ stack) = Some ((a, b), stack)
two_off _ = None

-- the item, where it is the only one
abbrev pub lone : {A : Type 0} → List A → Option A
lone (x ∷ []) = Some x
lone _ = None

-- the operands and the operators of a run, and the items before them
abbrev pub Run : Type 0 → Type 0
Run A = (List A × List A) × List A

-- an operand, and so many operators with an operand before each, before those that are off already
unfoldable pub run_off : {A : Type 0} → ℕ → List A → List A → List A → Option (Run A)
run_off zero (e ∷ rest) es os = Some ((e ∷ es, os), rest)
run_off (suc n) (e ∷ o ∷ rest) es os = run_off n rest (e ∷ es) (o ∷ os)
run_off n _ es os = None
