-- The bytes of a cell.
use Rattle.std.specs.Prelude.{ℕ, zero, suc, ◌/◌, ◌%◌, if◌then◌else◌, List, [], ◌∷◌, reverse}
use Rattle.hb_area.specs.declared.form.CellForm.{CellForm}

-- so many bytes of a number, the least significant first
abbrev pub bytes_of : ℕ → ℕ → List ℕ
bytes_of zero value = []
bytes_of (suc count) value = value % 256 ∷ bytes_of count (value / 256)

-- a value as it stands in a cell, in the cell's byte order
abbrev pub encoded : CellForm → ℕ → List ℕ
encoded form value = if form.big then reverse (bytes_of form.bytes value) else bytes_of form.bytes value
