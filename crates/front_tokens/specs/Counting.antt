-- How many laid-out tokens a source has.
use Rattle.std.specs.Prelude.{◌≡◌, ℕ, List, length}
use Rattle.hb_base.specs.Names.{fixed_names}
use Rattle.hb_tokens.specs.declared.token.Token.{Token}
use Rattle.hb_front.specs.Front.{LaysOut}

-- the source is laid out as so many tokens, with the table of its names behind the fixed ones
pub record Counts (source : List ℕ) (count : ℕ) : Type 0 where
  pub names : List (List ℕ)
  pub laid : List Token
  pub laid_out : LaysOut fixed_names source names laid
  pub counted : count ≡ length laid
