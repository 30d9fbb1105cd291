-- A grammar as a table, and the machine that runs it. A frame stands for what is still to come: a symbol, or a thing that is
-- half read. The table says what a token makes of a frame, and what a frame is that no token is read for.
use Rattle.std.specs.Prelude.{◌≡◌, List, [], ◌∷◌, ◌++◌, Option, Some, None}
use Rattle.hb_tokens.specs.declared.token.Token.{Token}
use Rattle.hb_grammar.specs.Reading.{Reader}

-- what takes the place of a frame, the first part of it first, and the nodes that are put out at once
pub record Turn (Frame Node : Type 0) : Type 0 where
  pub frames : List Frame
  pub nodes : List Node

pub record Table (Frame Node : Type 0) : Type 0 where
  pub turn : Frame → Token → Option (Turn Frame Node)
  pub null : Frame → Option (List Node)

-- what is still to come, and what was put out
pub record Thread (Frame Node : Type 0) : Type 0 where
  pub frames : List Frame
  pub nodes : List Node

abbrev pub thread : {F N : Type 0} → List F → List N → Thread F N
thread frames nodes = record { frames = frames; nodes = nodes }

-- a frame takes the token wherever it can; else it is nothing, and the next one may take it
abbrev pub turned : {F N : Type 0} → Option (Turn F N) → Option (List N) → List F → List N → (List N → Option (Thread F N)) → Option (Thread F N)
turned (Some turn) nothing fs out next = Some (thread (turn.frames ++ fs) (out ++ turn.nodes))
turned None (Some nodes) fs out next = next (out ++ nodes)
turned None None fs out next = None

abbrev pub moved : {F N : Type 0} → Table F N → List F → List N → Token → Option (Thread F N)
moved table [] out t = None
moved table (f ∷ fs) out t = turned (table.turn f t) (table.null f) fs out (λ ns. moved table fs ns t)

-- all that is still to come may be nothing
abbrev pub put_behind : {N : Type 0} → Option (List N) → List N → (List N → Option (List N)) → Option (List N)
put_behind None out next = None
put_behind (Some nodes) out next = next (out ++ nodes)

abbrev pub whole : {F N : Type 0} → Table F N → List F → List N → Option (List N)
whole table [] out = Some out
whole table (f ∷ fs) out = put_behind (table.null f) out (λ ns. whole table fs ns)

abbrev pub engine : {F N : Type 0} → Table F N → F → Reader (Thread F N) (List N)
engine table f = record { start = thread (f ∷ []) []; move = λ s t. moved table s.frames s.nodes t; done = λ s. whole table s.frames s.nodes }

-- what the table says as a grammar: the tokens ts begin with what these frames stand for, these nodes are put out for it, and
-- us are left
pub data Row {F N : Type 0} (table : Table F N) : List F → List Token → List N → List Token → Type 0 where
  row_end : {ts : List Token} → Row table [] ts [] ts
  row_null : {f : F} {fs : List F} {ns ms : List N} {ts us : List Token} → table.null f ≡ Some ns → Row table fs ts ms us → Row table (f ∷ fs) ts (ns ++ ms) us
  row_turn : {f : F} {fs : List F} {n : Turn F N} {ms : List N} {t : Token} {ts us : List Token} → table.turn f t ≡ Some n → Row table (n.frames ++ fs) ts ms us → Row table (f ∷ fs) (t ∷ ts) (n.nodes ++ ms) us
