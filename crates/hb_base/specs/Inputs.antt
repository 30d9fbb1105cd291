-- The inputs that a run has not taken yet: a port takes the first line of its own.
use Rattle.std.specs.Prelude.{◌≡◌, ℕ, ◌*◌, ◌^◌, ◌<◌, ◌==◌, if◌then◌else◌, List, [], ◌∷◌, slice_get, All, Option, Some, None, IsSomeAnd}
use Rattle.hb_base.specs.declared.port.Dir.TheVariants.{In}
use Rattle.hb_base.specs.declared.port.Port.{Port}
use Rattle.hb_base.specs.declared.script.ScriptLine.{ScriptLine}

-- the value of the port's first line
abbrev pub first_value : ℕ → List ScriptLine → Option ℕ
first_value port [] = None
first_value port (line ∷ lines) = if line.port == port then Some line.value else first_value port lines

-- the lines without the port's first one
abbrev pub without_first : ℕ → List ScriptLine → List ScriptLine
without_first port [] = []
without_first port (line ∷ lines) = if line.port == port then lines else line ∷ without_first port lines

-- the line names an In port, and has a value of its width
abbrev pub IsInput : List Port → ScriptLine → Type 0
IsInput ports line = IsSomeAnd (slice_get ports line.port) (λ port. (port.dir ≡ In) × (line.value < 2 ^ (8 * port.width)))

abbrev pub AreInputs : List Port → List ScriptLine → Type 0
AreInputs ports lines = All (IsInput ports) lines
