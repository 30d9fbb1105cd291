-- The state of a flat program with frames.
use Rattle.std.specs.Prelude.{ℕ, ◌+◌, ◌*◌, Bool, true, false, ◌==◌, nat_le, nat_lt, if◌then◌else◌, List, [], ◌∷◌, Option, None}
use Rattle.hb_base.specs.declared.script.ScriptLine.{ScriptLine}
use Rattle.hb_frames.specs.declared.form.Home.{Home}
use Rattle.hb_frames.specs.declared.form.Home.TheVariants.{Stack, Shared, Start}
use Rattle.hb_frames.specs.declared.form.Step.{Step}
use Rattle.hb_frames.specs.declared.form.Tail.{Tail}
use Rattle.hb_isa.specs.Memory.{Region}

-- the words of a frame: a word has no value before it is set
abbrev pub Words : Type 0
Words = ℕ → Option ℕ

abbrev pub none_set : Words
none_set = λ word. None

abbrev pub set_word : ℕ → Option ℕ → Words → Words
set_word word value words = λ other. if other == word then value else words other

-- what a block has still to do, on its words
pub record Frame : Type 0 where
  pub home : Home
  pub steps : List Step
  pub tail : Tail
  pub words : Words

-- a frame that waits for the results of a call, and the words that take them
pub record Waiting : Type 0 where
  pub frame : Frame
  pub results : List ℕ

-- the frame that is at work, those that wait, the one that called first, the bytes of the areas, and the lines that no
-- port has taken
pub record Thread : Type 0 where
  pub now : Frame
  pub below : List Waiting
  pub areas : Region
  pub lines : List ScriptLine

-- ---- homes

-- the words of a home. In the last word of a frame on the stack the return address stands
unfoldable pub has_word : Home → ℕ → Bool
has_word (Stack room) word = nat_le (4 * word + 8) room
has_word Shared word = nat_lt word 215
has_word Start word = nat_lt word 40

-- the bytes of the stack that a home holds
unfoldable pub room_of : Home → ℕ
room_of (Stack room) = room
room_of Shared = 0
room_of Start = 0

unfoldable pub held_below : List Waiting → ℕ
held_below [] = 0
held_below (w ∷ ws) = room_of w.frame.home + held_below ws

unfoldable pub same_home : Home → Home → Bool
same_home (Stack room) (Stack other) = room == other
same_home Shared Shared = true
same_home Start Start = true
same_home _ _ = false

-- the most arguments and results of a call
abbrev pub most_passed : ℕ
most_passed = 215
