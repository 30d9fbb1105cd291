-- What happens in a run: values that ports give and take, and values that cells get. The latter are not shown to the
-- outside; what cells hold is read off them.
use Rattle.std.specs.Prelude.{ℕ, suc, ◌==◌, ◌&&◌, Bool, true, false, cond, List, [], ◌∷◌, slice_get, Option, Some, None}
use Rattle.hb_base.specs.declared.step.Step.{Step}
use Rattle.hb_base.specs.declared.step.Step.TheVariants as step
use Rattle.hb_base.specs.declared.script.ScriptLine.{ScriptLine}
use Rattle.hb_runs.specs.Inner.{left_by}
use Rattle.hb_core.specs.Values.{Part, Field, Element, Val, Number, Pattern, Reference}

-- a value that a cell can hold: a number, bits, or a reference
pub data Held : Type 0 where
  Word : ℕ → Held
  Bits : List Bool → Held
  Address : ℕ → List Part → Held

abbrev pub held : Val → Option Held
held (Number n) = Some (Word n)
held (Pattern bits) = Some (Bits bits)
held (Reference area path) = Some (Address area path)
held v = None

abbrev pub value_held : Held → Val
value_held (Word n) = Number n
value_held (Bits bits) = Pattern bits
value_held (Address area path) = Reference area path

pub data Event : Type 0 where
  -- of a port, the number of the value
  Read : ℕ → ℕ → Event
  Wrote : ℕ → ℕ → Event
  -- the cell of an area at a path has this value from here on
  Put : ℕ → List Part → Held → Event

-- what is shown of it to the outside
abbrev pub public : Event → Option Step
public (Read port n) = Some (step.Read port n)
public (Wrote port n) = Some (step.Wrote port n)
public (Put area path h) = None

-- ---- cells

abbrev pub same_part : Part → Part → Bool
same_part (Field i) (Field j) = i == j
same_part (Element i) (Element j) = i == j
same_part a b = false

abbrev pub same_path : List Part → List Part → Bool
same_path [] [] = true
same_path (a ∷ as') (b ∷ bs) = same_part a b && same_path as' bs
same_path p q = false

-- what each cell holds that has got a value
abbrev pub Cells : Type 0
Cells = ℕ → List Part → Option Held

abbrev pub no_cells : Cells
no_cells area path = None

abbrev pub changed : Cells → Event → Cells
changed cells (Put area path h) = λ a p. cond ((a == area) && same_path p path) (Some h) (cells a p)
changed cells (Read port n) = cells
changed cells (Wrote port n) = cells

-- the cells after these events
abbrev pub cells_after : List Event → Cells
cells_after trace = left_by changed no_cells trace

-- ---- lines of the script

-- the values of the lines of one port
abbrev pub lines_of : ℕ → List ScriptLine → List ℕ
lines_of port [] = []
lines_of port (line ∷ lines) = cond (line.port == port) (line.value ∷ lines_of port lines) (lines_of port lines)

-- how many lines of a port are taken
abbrev pub taken : ℕ → List Event → ℕ
taken port [] = 0
taken port (Read p n ∷ trace) = cond (p == port) (suc (taken port trace)) (taken port trace)
taken port (Wrote p n ∷ trace) = taken port trace
taken port (Put area path h ∷ trace) = taken port trace

-- the first line of a port that is not taken yet
abbrev pub next_line : ℕ → List ScriptLine → List Event → Option ℕ
next_line port script trace = slice_get (lines_of port script) (taken port trace)
