-- How the lines not yet taken are kept: all lines, and for each port the place from which on its lines wait.
use Rattle.std.specs.Prelude.{◌≡◌, ℕ, ◌+◌, ◌<◌, ◌≤◌, Bool, true, false, ◌==◌, nat_le, if◌then◌else◌, List, [], ◌∷◌, length, slice_get, slice_index, Option, Some, None}
use Rattle.hb_base.specs.declared.script.ScriptLine.{ScriptLine}

-- the lines that wait, of those that stand from this place on
unfoldable pub waiting : ℕ → List ScriptLine → List ℕ → List ScriptLine
waiting at [] cursors = []
waiting at (line ∷ lines) cursors =
    if nat_le (slice_index cursors line.port) at then line ∷ waiting (at + 1) lines cursors else waiting (at + 1) lines cursors

abbrev pub is_of : ℕ → Option ScriptLine → Bool
is_of port None = false
is_of port (Some line) = line.port == port

-- a line of the port stands at this place
abbrev pub names : ℕ → List ScriptLine → ℕ → Bool
names port lines place = is_of port (slice_get lines place)

-- no line of the port stands between these places
abbrev pub NoneBetween : ℕ → List ScriptLine → ℕ → ℕ → Type 0
NoneBetween port lines from to = (place : ℕ) → from ≤ place → place < to → names port lines place ≡ false

-- the first line of the port from a place on
pub record IsFirstFrom (port : ℕ) (lines : List ScriptLine) (from place : ℕ) : Type 0 where
  pub within : place < length lines
  pub above : from ≤ place
  pub here : names port lines place ≡ true
  pub none_before : NoneBetween port lines from place
