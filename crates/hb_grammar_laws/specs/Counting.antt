-- How many things may be read from tokens: at most four for each token.
use Rattle.std.specs.Prelude.{ℕ, ◌+◌, ◌*◌, ◌≤◌, List, length}
use Rattle.hb_tokens.specs.declared.token.Token.{Token}

-- so many things are at most four for each of the tokens ts before us
abbrev pub AreFew : ℕ → List Token → List Token → Type 0
AreFew things ts us = things + 4 * length us ≤ 4 * length ts
