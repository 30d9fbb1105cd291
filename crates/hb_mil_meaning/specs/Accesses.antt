-- Reads and writes of ports and cells.
use Rattle.std.specs.Prelude.{ℕ, ◌==◌, ◌&&◌, not, Bool, true, false, slice_get, Option, Some, None}
use Rattle.hb_base.specs.declared.port.Dir.{Dir}
use Rattle.hb_base.specs.declared.port.Dir.TheVariants.{In, Out}
use Rattle.hb_base.specs.declared.port.Port as port_form
use Rattle.hb_base.specs.declared.step.Stop.TheVariants as stop
use Rattle.hb_base.specs.Inputs.{first_value, without_first}
use Rattle.hb_area.specs.declared.form.CellForm.{CellForm}
use Rattle.hb_runs.specs.System.{Event as Shows, End, Wrong}
use Rattle.hb_mil_meaning.specs.Values.{Val, Number, Built, Reference, Port, NoVals}
use Rattle.hb_mil_meaning.specs.Events.{Held, Read, Wrote, Put, low_bytes, held_in, value_held, with_cell}
use Rattle.hb_mil_meaning.specs.States.{Setting, State, Turn, with_local, gives}

-- ---- ports

abbrev pub is_in : Dir → Bool
is_in In = true
is_in Out = false

abbrev pub is_out : Dir → Bool
is_out In = false
is_out Out = true

-- a port of values of so many bytes that is read, or written
abbrev pub is_read : ℕ → Option port_form.Port → Bool
is_read bytes None = false
is_read bytes (Some port) = is_in port.dir && (port.width == bytes)

abbrev pub is_written : ℕ → Option port_form.Port → Bool
is_written bytes None = false
is_written bytes (Some port) = is_out port.dir && (port.width == bytes)

-- the port's first line is taken
abbrev pub takes : Option ℕ → ℕ → State → Turn
takes None port t = End (stop.InputEnd port)
takes (Some n) port t = Shows (Read port n) (record t { now = with_local (Number n) t.now; lines = without_first port t.lines })

abbrev pub reads : Bool → ℕ → State → Turn
reads false port t = Wrong
reads true port t = takes (first_value port t.lines) port t

abbrev pub reads_port : Option Val → ℕ → Setting → State → Turn
reads_port (Some (Port port)) bytes s t = reads (is_read bytes (slice_get s.ports port)) port t
reads_port v bytes s t = Wrong

-- what a write gives
abbrev pub unit : Val
unit = Built 0 NoVals

abbrev pub writes : Bool → ℕ → ℕ → State → Turn
writes false port n t = Wrong
writes true port n t = Shows (Wrote port n) (record t { now = with_local unit t.now })

abbrev pub writes_port : Option Val → Option Val → ℕ → Setting → State → Turn
writes_port (Some (Port port)) (Some (Number n)) bytes s t = writes (is_written bytes (slice_get s.ports port)) port (low_bytes bytes n) t
writes_port v w bytes s t = Wrong

-- ---- cells

abbrev pub agrees : Bool → Bool → Bool
agrees true b = b
agrees false b = not b

abbrev pub is_cell : CellForm → Option CellForm → Bool
is_cell form None = false
is_cell form (Some cell) = (cell.bytes == form.bytes) && agrees cell.big form.big

abbrev pub finds : Bool → Option Held → State → Turn
finds false held t = Wrong
finds true held t = gives (Some (value_held held)) t

abbrev pub reads_cell : Option Val → CellForm → Setting → State → Turn
reads_cell (Some (Reference area offset)) form s t = finds (is_cell form (s.form_at area offset)) (t.cells area offset) t
reads_cell v form s t = Wrong

abbrev pub puts : Bool → Option Held → ℕ → ℕ → CellForm → State → Turn
puts true (Some held) area offset form t =
    Shows (Put area offset form held) (record t { now = with_local unit t.now; cells = with_cell t.cells area offset held })
puts there held area offset form t = Wrong

abbrev pub puts_value : Option Val → ℕ → ℕ → CellForm → Setting → State → Turn
puts_value None area offset form s t = Wrong
puts_value (Some v) area offset form s t = puts (is_cell form (s.form_at area offset)) (held_in form.bytes v) area offset form t

abbrev pub puts_in : Option Val → Option Val → CellForm → Setting → State → Turn
puts_in (Some (Reference area offset)) v form s t = puts_value v area offset form s t
puts_in place v form s t = Wrong
