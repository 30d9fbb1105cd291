-- When it loses nothing to take a token wherever it can be taken. Each frame has a first set, the tokens that it may take; and
-- a should-not-follow set, the tokens that it may take where it is nullable. Where what stands behind a frame begins with no
-- token of its should-not-follow set, at most one reading goes on with a token. (Edelmann, Hamza and Kunčak, "Zippy LL(1)
-- Parsing with Derivatives", PLDI 2020.)
use Rattle.std.specs.Prelude.{◌≡◌, ℕ, Bool, true, false, is_some, List, [], ◌∷◌, Some}
use Rattle.hb_tokens.specs.declared.token.Token.{Token}
use Rattle.hb_engine.specs.Tables.{Turn, Table, Row}

abbrev pub either : Bool → Bool → Bool
either true b = true
either false b = b

abbrev pub both : Bool → Bool → Bool
both true b = b
both false b = false

-- all of these are nullable
abbrev pub nullable : {F N : Type 0} → Table F N → List F → Bool
nullable table [] = true
nullable table (f ∷ fs) = both (is_some (table.null f)) (nullable table fs)

-- the tokens that these may take, one behind the other
abbrev pub firsts : {F N : Type 0} → Table F N → (F → ℕ → Bool) → List F → ℕ → Bool
firsts table first [] c = false
firsts table first (f ∷ fs) c = either (first f c) (both (is_some (table.null f)) (firsts table first fs c))

-- no token is in both sets
abbrev pub Apart : (ℕ → Bool) → (ℕ → Bool) → Type 0
Apart a b = (c : ℕ) → a c ≡ true → b c ≡ true → ⊥

-- frames in the place of one that has this should-not-follow set
pub data Chain {F N : Type 0} (table : Table F N) (Fit : F → Type 0) (first follow : F → ℕ → Bool) (up : ℕ → Bool) : List F → Type 0 where
  chain_end : Chain table Fit first follow up []
  link : {f : F} {fs : List F} → Fit f → Apart (follow f) (firsts table first fs) → (nullable table fs ≡ true → (c : ℕ) → follow f c ≡ true → up c ≡ true) → Chain table Fit first follow up fs → Chain table Fit first follow up (f ∷ fs)

-- what is asked of a table. `Fit` are the frames that come about, and a token counts by its code
pub record Lawful {F N : Type 0} (table : Table F N) (code : Token → ℕ) (Fit : F → Type 0) (first follow : F → ℕ → Bool) : Type 0 where
  pub begins : {f : F} {t : Token} {n : Turn F N} → Fit f → table.turn f t ≡ Some n → first f (code t) ≡ true
  pub ends : {f : F} {t : Token} {n : Turn F N} {ns : List N} → Fit f → table.null f ≡ Some ns → table.turn f t ≡ Some n → follow f (code t) ≡ true
  pub turns : {f : F} {t : Token} {n : Turn F N} → Fit f → table.turn f t ≡ Some n → Chain table Fit first follow (follow f) n.frames
  pub finishes : {f : F} → Fit f → (ts : List Token) × ((ms : List N) × Row table (f ∷ []) ts ms [])
