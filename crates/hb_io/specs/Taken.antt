-- What a sink has taken, where it tells that.
use Rattle.std.specs.Prelude.{◌≡◌, ℕ, List, ◌++◌, take, Option, None, Some}

-- the bytes taken once these are taken too; a sink that does not tell goes on not telling
abbrev pub appended : Option (List ℕ) → List ℕ → Option (List ℕ)
appended None bytes = None
appended (Some taken) bytes = Some (taken ++ bytes)

-- some first bytes of these were taken, and no more
abbrev pub TookFront : Option (List ℕ) → List ℕ → Option (List ℕ) → Type 0
TookFront old bytes new = (count : ℕ) × (new ≡ appended old (take count bytes))
