-- A stack is a list with its top at the front.
use Rattle.std.specs.Prelude.{◌≡◌, Bool, true, false, List, [], ◌∷◌, Option, Some, None}

-- what was taken from the top, and what is left
abbrev pub Popped : {A : Type 0} → List A → Option A → List A → Type 0
Popped old None new = (old ≡ []) × (new ≡ [])
Popped old (Some item) new = old ≡ item ∷ new

abbrev pub first_of : {A : Type 0} → List A → Option A
first_of [] = None
first_of (x ∷ xs) = Some x

abbrev pub rest_of : {A : Type 0} → List A → List A
rest_of [] = []
rest_of (x ∷ xs) = xs

abbrev pub is_empty : {A : Type 0} → List A → Bool
is_empty [] = true
is_empty (a ∷ rest) = false
