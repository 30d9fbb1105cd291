-- How the entries with their numbers of due marks, the outermost first, are the layers of a stack.
use Rattle.std.specs.Prelude.{ℕ, suc, zero, List, [], ◌∷◌}
use Rattle.hb_layout.specs.declared.stack.Open.{Open}
use Rattle.hb_layout.specs.Stacks.{Stack, opened, due}

-- so many due marks on top of a stack
unfoldable pub marked : ℕ → Stack → Stack
marked zero s = s
marked (suc n) s = due ∷ marked n s

abbrev pub layers_on : Stack → List Open → Stack
layers_on s [] = s
layers_on s (o ∷ os) = layers_on (opened o.entry ∷ marked o.under s) os

abbrev pub layers : List Open → ℕ → Stack
layers os n = marked n (layers_on [] os)
