-- Tables whose nodes are made of earlier ones, whatever the nodes are.
use Rattle.std.specs.Prelude.{ℕ, List, [], ◌∷◌, ◌++◌, slice_index_or}

-- what nodes stand for that follow others, where build says what a node stands for after those before it
abbrev pub made_from : {F T : Type 0} → (List T → F → T) → List T → List F → List T
made_from build ts [] = ts
made_from build ts (n ∷ ns) = made_from build (ts ++ build ts n ∷ []) ns

-- each node stands after its parts
pub record AreLaidBy {F : Type 0} (HasPartsBelow : ℕ → F → Type 0) (blank : F) (ns : List F) : Type 0 where
  pub each : (place : ℕ) → HasPartsBelow place (slice_index_or ns place blank)
