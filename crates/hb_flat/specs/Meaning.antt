-- What a flat program shows. A step or a tail done is one count, and a count shows at most one port event, or the end.
use Rattle.std.specs.Prelude.{ℕ, zero, suc, ◌*◌, ◌%◌, ◌^◌, Bool, true, false, ◌&&◌, ◌==◌, List, [], ◌∷◌, slice_get, slice_index, slice_set, replicate, position, Option, Some, None}
use Rattle.hb_base.specs.declared.port.Dir.{Dir}
use Rattle.hb_base.specs.declared.port.Dir.TheVariants.{In, Out}
use Rattle.hb_base.specs.declared.port.Port.{Port}
use Rattle.hb_base.specs.declared.script.ScriptLine.{ScriptLine}
use Rattle.hb_base.specs.declared.step.Step.{Step}
use Rattle.hb_base.specs.declared.step.Step.TheVariants.{Read, Wrote}
use Rattle.hb_base.specs.declared.step.Stop.{Stop}
use Rattle.hb_base.specs.declared.step.Stop.TheVariants.{Done, InputEnd, Unmapped}
use Rattle.hb_asm.specs.Arithmetic.{alu_of}
use Rattle.hb_base.specs.Inputs.{first_value, without_first}
use Rattle.hb_runs.specs.Outcome.{Outcome, nothing_yet}
use Rattle.hb_flat.specs.declared.form.Operand.{Operand}
use Rattle.hb_flat.specs.declared.form.Operand.TheVariants.{Word, Number}
use Rattle.hb_flat.specs.declared.form.FlatStep.{FlatStep}
use Rattle.hb_flat.specs.declared.form.FlatStep.TheVariants.{Set, Alu, Load, Store}
use Rattle.hb_flat.specs.declared.form.FlatTail.{FlatTail}
use Rattle.hb_flat.specs.declared.form.FlatTail.TheVariants.{Done as DoneTail}
use Rattle.hb_flat.specs.declared.form.FlatBlock.{FlatBlock}
use Rattle.hb_flat.specs.declared.form.Flat.{Flat}

-- what a program has still to do: the steps and the tail of its block, the words of the frame, and the lines that no
-- port has taken
pub record Thread : Type 0 where
  pub steps : List FlatStep
  pub tail : FlatTail
  pub words : List ℕ
  pub lines : List ScriptLine

-- what one count does: it goes on in silence, or with an event, or the program ends
pub data Turn : Type 0 where
  Quiet : Thread → Turn
  Event : Step → Thread → Turn
  End : Stop → Turn

-- ---- operands and words

abbrev pub value_of : List ℕ → Operand → ℕ
value_of words (Word n) = slice_index words n
value_of words (Number n) = n

-- a word of the frame gets a value
abbrev pub with_word : ℕ → ℕ → Thread → Thread
with_word word value t = record t { words = slice_set t.words word value }

-- ---- ports

-- a port is met at exactly its address, with exactly its width
abbrev pub is_in : Dir → Bool
is_in In = true
is_in Out = false

abbrev pub is_out : Dir → Bool
is_out In = false
is_out Out = true

abbrev pub is_at : ℕ → ℕ → Port → Bool
is_at address width port = (port.address == address) && (port.width == width)

-- the number of the port that is read there, or written there
abbrev pub read_at : List Port → ℕ → ℕ → Option ℕ
read_at ports address width = position (λ port. is_in port.dir && is_at address width port) ports

abbrev pub written_at : List Port → ℕ → ℕ → Option ℕ
written_at ports address width = position (λ port. is_out port.dir && is_at address width port) ports

-- ---- steps

-- the word gets the port's first line
unfoldable pub taking : Option ℕ → ℕ → ℕ → Thread → Turn
taking None port word t = End (InputEnd port)
taking (Some value) port word t = Event (Read port value) (with_word word value (record t { lines = without_first port t.lines }))

unfoldable pub reading : Option ℕ → ℕ → Thread → Turn
reading None word t = End Unmapped
reading (Some port) word t = taking (first_value port t.lines) port word t

unfoldable pub writing : Option ℕ → ℕ → Thread → Turn
writing None value t = End Unmapped
writing (Some port) value t = Event (Wrote port value) t

-- what a step does to what is left after it
unfoldable pub does : List Port → FlatStep → Thread → Turn
does ports (Set word a) t = Quiet (with_word word (value_of t.words a) t)
does ports (Alu word op a b) t = Quiet (with_word word (alu_of op (value_of t.words a) (value_of t.words b)) t)
does ports (Load word address width) t = reading (read_at ports (value_of t.words address) width) word t
does ports (Store address width a) t = writing (written_at ports (value_of t.words address) width) (value_of t.words a % 2 ^ (8 * width)) t

unfoldable pub closes : FlatTail → Turn
closes DoneTail = End Done

unfoldable pub next : List Port → List FlatStep → Thread → Turn
next ports [] t = closes t.tail
next ports (step ∷ steps) t = does ports step (record t { steps = steps })

-- one count
unfoldable pub turn : List Port → Thread → Turn
turn ports t = next ports t.steps t

-- ---- runs

-- an event, and then what is shown after it
abbrev pub shows_first : Step → Outcome Step Stop → Outcome Step Stop
shows_first event outcome = record { trace = event ∷ outcome.trace; end = outcome.end }

abbrev pub ended_as : Stop → Outcome Step Stop
ended_as stop = record { trace = []; end = Some stop }

-- a count, and what comes after it; after an end there is nothing
unfoldable pub followed : (Thread → Outcome Step Stop) → Turn → Outcome Step Stop
followed later (Quiet t) = later t
followed later (Event event t) = shows_first event (later t)
followed later (End stop) = ended_as stop

-- what so many counts show
unfoldable pub shown : List Port → ℕ → Thread → Outcome Step Stop
shown ports zero t = nothing_yet
shown ports (suc n) t = followed (shown ports n) (turn ports t)

-- a block begins with all words zero
abbrev pub entered : FlatBlock → List ScriptLine → Thread
entered block lines = record { steps = block.steps; tail = block.tail; words = replicate block.words 0; lines = lines }

unfoldable pub shown_from : Option FlatBlock → List Port → List ScriptLine → ℕ → Outcome Step Stop
shown_from None ports lines n = nothing_yet
shown_from (Some block) ports lines n = shown ports n (entered block lines)

-- what so many counts of a flat program show, with these ports and these lines as inputs
unfoldable pub runs : Flat → List Port → List ScriptLine → ℕ → Outcome Step Stop
runs flat ports lines n = shown_from (slice_get flat.blocks flat.entry) ports lines n
