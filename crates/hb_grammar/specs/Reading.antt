-- A reader takes tokens one at a time. At each moment it may be that the tokens taken are a whole thing of its kind.
use Rattle.std.specs.Prelude.{◌≡◌, List, [], ◌∷◌, Option, Some}
use Rattle.hb_tokens.specs.declared.token.Token.{Token}

-- the state at the start, the state after a token that can stand there, and what was read where it is whole
pub record Reader (State Value : Type 0) : Type 0 where
  pub start : State
  pub move : State → Token → Option State
  pub done : State → Option Value

-- from this state the tokens ts begin with what makes the value a, and us are left
pub data Runs {State Value : Type 0} (reader : Reader State Value) : State → List Token → Value → List Token → Type 0 where
  stop : {s : State} {ts : List Token} {a : Value} → reader.done s ≡ Some a → Runs reader s ts a ts
  take : {s r : State} {t : Token} {ts us : List Token} {a : Value} → reader.move s t ≡ Some r → Runs reader r ts a us → Runs reader s (t ∷ ts) a us

-- the states that tokens lead to
pub data Reached {State Value : Type 0} (reader : Reader State Value) : State → Type 0 where
  at_start : Reached reader reader.start
  after : {s r : State} {t : Token} → Reached reader s → reader.move s t ≡ Some r → Reached reader r

-- the reader reads just what the grammar's family says, and whatever it has taken can be completed
pub record Exact {State Value : Type 0} (reader : Reader State Value) (Reads : List Token → Value → List Token → Type 0) : Type 0 where
  pub sound : {ts us : List Token} {a : Value} → Runs reader reader.start ts a us → Reads ts a us
  pub complete : {ts us : List Token} {a : Value} → Reads ts a us → Runs reader reader.start ts a us
  pub alive : {s : State} → Reached reader s → (ts : List Token) × ((a : Value) × Runs reader s ts a [])
