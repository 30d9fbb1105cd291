-- Runs of a reader inside a longer list of tokens, as a reader above it needs them.
use Rattle.std.proofs.Common.{◌≡◌, List, ◌∷◌, ◌++◌, Some, refl, ◌⊎◌, inl, inr}
use Rattle.hb_tokens.specs.declared.token.Token.{Token}
use Rattle.hb_grammar.specs.Reading.{Reader, Runs, stop, take}

-- the first token is taken, and the rest is a run
pub record Takes {State Value : Type 0} (reader : Reader State Value) (s : State) (t : Token) (ts : List Token) (a : Value) (us : List Token) : Type 0 where
  pub next : State
  pub is : reader.move s t ≡ Some next
  pub rest : Runs reader next ts a us

-- nothing is taken
pub record Ends {State Value : Type 0} (reader : Reader State Value) (s : State) (ts : List Token) (a : Value) (us : List Token) : Type 0 where
  pub is : reader.done s ≡ Some a
  pub left : ts ≡ us

pub takes_or_ends : {State Value : Type 0} (reader : Reader State Value) (s : State) (t : Token) (ts : List Token) (a : Value) (us : List Token) → Runs reader s (t ∷ ts) a us → Takes reader s t ts a us ⊎ Ends reader s (t ∷ ts) a us
takes_or_ends reader s t ts a us (stop e) = inr (record { is = e; left = refl })
takes_or_ends reader s t ts a us (take e run) = inl (record { next = _; is = e; rest = run })

-- more tokens after what is left
pub runs_longer : {State Value : Type 0} (reader : Reader State Value) (s : State) (ts : List Token) (a : Value) (us vs : List Token) → Runs reader s ts a us → Runs reader s (ts ++ vs) a (us ++ vs)
runs_longer reader s ts a us vs (stop e) = stop e
runs_longer reader s ts a us vs (take {t = t} {ts = rest} e run) = take e (runs_longer reader _ rest a us vs run)
