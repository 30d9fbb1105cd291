-- A reader that begins behind nodes of others reads the same, and its nodes come behind those.
use Rattle.std.specs.Prelude.{◌≡◌, List, ◌++◌}
use Rattle.hb_tokens.specs.declared.token.Token.{Token}
use Rattle.hb_grammar.specs.Reading.{Reader, Runs}

-- the nodes ls are those before, and nodes that the tokens ts begin with
pub record ReadBehind {Node : Type 0} (Reads : List Token → List Node → List Token → Type 0) (before : List Node) (ts : List Token) (ls : List Node) (us : List Token) : Type 0 where
  pub nodes : List Node
  pub read : Reads ts nodes us
  pub behind : ls ≡ before ++ nodes

pub record ExactBehind {State Node : Type 0} (reader : Reader State (List Node)) (start : List Node → State) (Reads : List Token → List Node → List Token → Type 0) : Type 0 where
  pub sound : {ts us : List Token} {ls : List Node} → (before : List Node) → Runs reader (start before) ts ls us → ReadBehind Reads before ts ls us
  pub complete : {ts us : List Token} {ls : List Node} → (before : List Node) → ReadBehind Reads before ts ls us → Runs reader (start before) ts ls us
