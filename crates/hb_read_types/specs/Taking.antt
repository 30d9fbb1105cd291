-- A reader took a token or left it.
use Rattle.std.specs.Prelude.{◌≡◌, Bool, true, false, Option, Some, None, is_some}

-- it took it, and stands where the machine's move leads; or there is no move, and nothing changed
abbrev pub Took : {State : Type 0} → Bool → Option State → State → State → Type 0
Took true moved old new = moved ≡ Some new
Took false moved old new = (moved ≡ None) × (new ≡ old)

-- one of two readings took a token, and is where its move leads; or there is no move, and nothing changed
abbrev pub TookSide : {State : Type 0} → Bool → Option State → Option State → Option State → Type 0
TookSide true moved old new = (moved ≡ new) × (is_some new ≡ true)
TookSide false moved old new = (moved ≡ None) × (new ≡ old)

-- what is whole was put out and the reader is at its next start; or it is not whole, and nothing changed
abbrev pub Ended : {State Value : Type 0} → Bool → Option Value → (Value → State) → State → State → Type 0
Ended true (Some value) next old new = new ≡ next value
Ended false None next old new = new ≡ old
Ended _ _ next old new = ⊥
