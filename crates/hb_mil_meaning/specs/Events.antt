-- What happens in a run: values that ports give and take, and values that cells get. The latter are not shown to the
-- outside; what cells hold is read off them.
use Rattle.std.specs.Prelude.{ℕ, ◌*◌, ◌%◌, ◌^◌, ◌==◌, ◌&&◌, Bool, cond, List, Option, Some, None}
use Rattle.hb_base.specs.declared.step.Step.{Step}
use Rattle.hb_base.specs.declared.step.Step.TheVariants as step
use Rattle.hb_area.specs.declared.form.CellForm.{CellForm}
use Rattle.hb_runs.specs.Inner.{left_by}
use Rattle.hb_mil_meaning.specs.Values.{Val, Number, Reference}

-- what a cell can hold: a word, or the place in an area that is so many bytes after its begin
pub data Held : Type 0 where
  Word : ℕ → Held
  Address : ℕ → ℕ → Held

pub data Event : Type 0 where
  -- of a port, the number of the value
  Read : ℕ → ℕ → Event
  Wrote : ℕ → ℕ → Event
  -- the cell of an area, so many bytes after its begin, which stands so, has this value from here on
  Put : ℕ → ℕ → CellForm → Held → Event

-- what is shown of it to the outside
abbrev pub public : Event → Option Step
public (Read port n) = Some (step.Read port n)
public (Wrote port n) = Some (step.Wrote port n)
public (Put area offset form held) = None

-- ---- cells

-- so many low bytes of a number
abbrev pub low_bytes : ℕ → ℕ → ℕ
low_bytes bytes n = n % 2 ^ (8 * bytes)

abbrev pub address_in : Bool → ℕ → ℕ → Option Held
address_in fits area offset = cond fits (Some (Address area offset)) None

-- what a cell of so many bytes holds of a value: the low bytes of a word, or an address, which has four
abbrev pub held_in : ℕ → Val → Option Held
held_in bytes (Number n) = Some (Word (low_bytes bytes n))
held_in bytes (Reference area offset) = address_in (bytes == 4) area offset
held_in bytes v = None

-- a cell that never got a value holds zero
abbrev pub value_held : Option Held → Val
value_held None = Number 0
value_held (Some (Word n)) = Number n
value_held (Some (Address area offset)) = Reference area offset

-- what each cell holds that has got a value, by the area and the bytes after its begin
abbrev pub Cells : Type 0
Cells = ℕ → ℕ → Option Held

abbrev pub no_cells : Cells
no_cells area offset = None

abbrev pub with_cell : Cells → ℕ → ℕ → Held → Cells
with_cell cells area offset held = λ a o. cond ((a == area) && (o == offset)) (Some held) (cells a o)

abbrev pub changed : Cells → Event → Cells
changed cells (Read port n) = cells
changed cells (Wrote port n) = cells
changed cells (Put area offset form held) = with_cell cells area offset held

-- the cells after these events
abbrev pub cells_after : List Event → Cells
cells_after trace = left_by changed no_cells trace
