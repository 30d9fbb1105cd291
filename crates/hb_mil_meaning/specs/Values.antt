-- The values of a block program.
use Rattle.std.specs.Prelude.{ℕ, List, [], ◌∷◌}
use Rattle.hb_values.specs.declared.class.Member.{Member}

mutual
  pub data Val : Type 0 where
    -- a word that is no address: a number, bits, or an index
    Number : ℕ → Val
    -- the number of a constructor in its type, and all its arguments
    Built : ℕ → Vals → Val
    -- a function or an action: what it is made from, the numbers of a primitive, and what it has captured
    Closed : Member → List ℕ → Vals → Val
    -- the place in an area that is so many bytes after its begin
    Reference : ℕ → ℕ → Val
    Port : ℕ → Val

  pub data Vals : Type 0 where
    NoVals : Vals
    MoreVals : Val → Vals → Vals

abbrev pub vals : List Val → Vals
vals [] = NoVals
vals (v ∷ vs) = MoreVals v (vals vs)

abbrev pub listed : Vals → List Val
listed NoVals = []
listed (MoreVals v vs) = v ∷ listed vs
