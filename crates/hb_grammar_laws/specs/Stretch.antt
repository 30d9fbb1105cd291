-- What a family of the grammar reads is a stretch of tokens: whatever follows the stretch, the family reads it there, and
-- the same of it.
use Rattle.std.specs.Prelude.{◌≡◌, List, ◌++◌}
use Rattle.hb_tokens.specs.declared.token.Token.{Token}

-- the tokens ts are a stretch and then us; `Reads` holds of the stretch before any tokens, and those tokens
pub record Stretch (Reads : List Token → List Token → Type 0) (ts us : List Token) : Type 0 where
  pub stretch : List Token
  pub before : ts ≡ stretch ++ us
  pub always : (following : List Token) → Reads (stretch ++ following) following
