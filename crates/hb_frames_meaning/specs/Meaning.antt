-- What a flat program with frames shows. A step or a tail done is one count, and a count shows at most one port event, or
-- the end. Where there is no rule the turn is wrong.
use Rattle.std.specs.Prelude.{ℕ, zero, suc, ◌+◌, ◌*◌, ◌/◌, ◌%◌, ◌^◌, Bool, true, false, ◌&&◌, ◌==◌, nat_le, if◌then◌else◌, List, [], ◌∷◌, length, slice_get, replicate, map, position, Option, Some, None}
use Rattle.hb_base.specs.declared.port.Port.{Port}
use Rattle.hb_base.specs.declared.script.ScriptLine.{ScriptLine}
use Rattle.hb_base.specs.declared.step.Step.{Step as Shown}
use Rattle.hb_base.specs.declared.step.Step.TheVariants.{Read, Wrote}
use Rattle.hb_base.specs.declared.step.Stop.{Stop}
use Rattle.hb_base.specs.declared.step.Stop.TheVariants.{Done as IsDone, Halt as IsHalt, Stack as StackFull, InputEnd}
use Rattle.hb_base.specs.Inputs.{first_value, without_first}
use Rattle.hb_asm.specs.Arithmetic.{alu_of}
use Rattle.hb_isa.specs.Memory.{areas_base, number_in, put_in, is_within}
use Rattle.hb_isa.specs.Table.{is_read_at, is_written_at}
use Rattle.hb_runs.specs.System.{Turn, Quiet, Event, End, Wrong, Finished, told}
use Rattle.hb_runs.specs.Outcome.{Outcome, nothing_yet}
use Rattle.hb_frames.specs.declared.form.Operand.{Operand}
use Rattle.hb_frames.specs.declared.form.Operand.TheVariants.{Word, Number}
use Rattle.hb_frames.specs.declared.form.Home.{Home}
use Rattle.hb_frames.specs.declared.form.Home.TheVariants.{Stack, Shared, Start}
use Rattle.hb_frames.specs.declared.form.Step.{Step}
use Rattle.hb_frames.specs.declared.form.Step.TheVariants.{Set, Alu, Multiply, Divide, Remainder, Load, Store, Call}
use Rattle.hb_frames.specs.declared.form.Tail.{Tail}
use Rattle.hb_frames.specs.declared.form.Tail.TheVariants.{Done, Halt, Return, Goto, Jump, Switch}
use Rattle.hb_frames.specs.declared.form.Block.{Block}
use Rattle.hb_frames.specs.declared.form.Frames.{Frames}
use Rattle.hb_frames_meaning.specs.State.{Words, none_set, set_word, Frame, Waiting, Thread, has_word, held_below, same_home, most_passed}

-- a turn of a flat program
abbrev pub Turned : Type 0
Turned = Turn Thread Shown Stop

-- the turn, where it has a rule
unfoldable pub ensure : Bool → Turned → Turned
ensure true turned = turned
ensure false turned = Wrong

-- ---- operands and words

abbrev pub value_of : Words → Operand → Option ℕ
value_of words (Word word) = words word
value_of words (Number number) = Some number

abbrev pub values_of : Words → List Operand → List (Option ℕ)
values_of words operands = map (value_of words) operands

abbrev pub with_words : Words → Thread → Thread
with_words words t = record t { now = record t.now { words = words } }

-- a word of the frame gets a value, or none
unfoldable pub puts : ℕ → Option ℕ → Thread → Turned
puts word value t = ensure (has_word t.now.home word) (Quiet (with_words (set_word word value t.now.words) t))

-- ---- computing

unfoldable pub computes : ℕ → (ℕ → ℕ → ℕ) → Option ℕ → Option ℕ → Thread → Turned
computes word f None b t = Wrong
computes word f (Some a) None t = Wrong
computes word f (Some a) (Some b) t = puts word (Some (f a b)) t

-- nothing is divided by 0
unfoldable pub divides : ℕ → (ℕ → ℕ → ℕ) → Option ℕ → Option ℕ → Thread → Turned
divides word f a None t = Wrong
divides word f a (Some zero) t = Wrong
divides word f a (Some (suc b)) t = computes word f a (Some (suc b)) t

-- ---- loads and stores

-- 1, 2 or 4 bytes, at an address that their number divides
abbrev pub is_width : ℕ → Bool
is_width size = if size == 1 then true else (if size == 2 then true else size == 4)

abbrev pub is_aligned : ℕ → ℕ → Bool
is_aligned address size = is_width size && (address % size == 0)

-- the word gets the port's first line
unfoldable pub taking : Option ℕ → ℕ → ℕ → Thread → Turned
taking None port word t = End (InputEnd port)
taking (Some value) port word t =
    ensure (has_word t.now.home word) (Event (Read port value) (with_words (set_word word (Some value) t.now.words) (record t { lines = without_first port t.lines })))

unfoldable pub reading : Option ℕ → ℕ → Thread → Turned
reading None word t = Wrong
reading (Some port) word t = taking (first_value port t.lines) port word t

-- the Bool says whether all the bytes are in areas
unfoldable pub loading : Bool → List Port → ℕ → ℕ → ℕ → Thread → Turned
loading true ports word address size t = puts word (Some (number_in t.areas address size)) t
loading false ports word address size t = reading (position (is_read_at address size) ports) word t

unfoldable pub loads : List Port → ℕ → Option ℕ → ℕ → Thread → Turned
loads ports word None size t = Wrong
loads ports word (Some address) size t = ensure (is_aligned address size) (loading (is_within t.areas address size) ports word address size t)

unfoldable pub writing : Option ℕ → ℕ → Thread → Turned
writing None value t = Wrong
writing (Some port) value t = Event (Wrote port value) t

unfoldable pub storing : Bool → List Port → ℕ → ℕ → ℕ → Thread → Turned
storing true ports address size value t = Quiet (record t { areas = put_in t.areas address size value })
storing false ports address size value t = writing (position (is_written_at address size) ports) (value % 2 ^ (8 * size)) t

unfoldable pub stores : List Port → Option ℕ → ℕ → Option ℕ → Thread → Turned
stores ports None size value t = Wrong
stores ports (Some address) size None t = Wrong
stores ports (Some address) size (Some value) t =
    ensure (is_aligned address size) (storing (is_within t.areas address size) ports address size value t)

-- ---- calls

-- each named word takes its value, the first one first; values past the last name are dropped, and each name has a value
unfoldable pub set_words : Home → List (Option ℕ) → List (Option ℕ) → Words → Option Words
set_words home [] values words = Some words
set_words home (name ∷ names) [] words = None
set_words home (None ∷ names) (value ∷ values) words = set_words home names values words
set_words home (Some word ∷ names) (value ∷ values) words =
    if has_word home word then set_words home names values (set_word word value words) else None

-- a word for each value, where no value is left out
abbrev pub all_named : List ℕ → List (Option ℕ)
all_named names = map Some names

-- where arguments stay in their place
unfoldable pub value_at : Option (Option ℕ) → Option ℕ
value_at None = None
value_at (Some value) = value

abbrev pub in_place : List (Option ℕ) → Words
in_place values = λ word. value_at (slice_get values word)

abbrev pub frame_of : Block → Words → Frame
frame_of block words = record { home = block.home; steps = block.steps; tail = block.tail; words = words }

abbrev pub opened : Block → Words → List Waiting → Thread → Thread
opened block words below t = record { now = frame_of block words; below = below; areas = t.areas; lines = t.lines }

-- the Bool says whether the frame fits
unfoldable pub opens : Bool → Block → Option Words → List Waiting → Thread → Turned
opens fits block None below t = Wrong
opens false block (Some words) below t = End StackFull
opens true block (Some words) below t = Quiet (opened block words below t)

-- a block with which the program begins is never called
unfoldable pub enters_home : Home → ℕ → Block → List (Option ℕ) → List (Option ℕ) → List Waiting → Thread → Turned
enters_home (Stack room) stack block names values below t =
    opens (nat_le (room + held_below below) stack) block (set_words (Stack room) names values none_set) below t
enters_home Shared stack block names values below t = Quiet (opened block (in_place values) below t)
enters_home Start stack block names values below t = Wrong

unfoldable pub enters_at : Option (List (Option ℕ)) → ℕ → Block → List (Option ℕ) → List Waiting → Thread → Turned
enters_at None stack block values below t = Wrong
enters_at (Some names) stack block values below t =
    ensure (nat_le (length values) most_passed) (enters_home block.home stack block names values below t)

unfoldable pub enters : ℕ → Option Block → List (Option ℕ) → List Waiting → Thread → Turned
enters stack None values below t = Wrong
enters stack (Some block) values below t = enters_at block.entry stack block values below t

-- a block on the shared words calls no block
unfoldable pub may_call : Home → Bool
may_call (Stack room) = true
may_call Shared = false
may_call Start = true

-- the results go to the frame that waits for them
unfoldable pub resumes : Option Words → Frame → List Waiting → Thread → Turned
resumes None frame below t = Wrong
resumes (Some words) frame below t = Quiet (record t { now = record frame { words = words }; below = below })

unfoldable pub returns : List (Option ℕ) → List Waiting → Thread → Turned
returns values [] t = Wrong
returns values (w ∷ ws) t =
    ensure (nat_le (length values) most_passed) (resumes (set_words w.frame.home (all_named w.results) values w.frame.words) w.frame ws t)

-- ---- steps

unfoldable pub does : Frames → List Port → Step → Thread → Turned
does frames ports (Set word a) t = puts word (value_of t.now.words a) t
does frames ports (Alu word op a b) t = computes word (alu_of op) (value_of t.now.words a) (value_of t.now.words b) t
does frames ports (Multiply word a b) t = computes word (λ x y. (x * y) % 2 ^ 32) (value_of t.now.words a) (value_of t.now.words b) t
does frames ports (Divide word a b) t = divides word (λ x y. x / y) (value_of t.now.words a) (value_of t.now.words b) t
does frames ports (Remainder word a b) t = divides word (λ x y. x % y) (value_of t.now.words a) (value_of t.now.words b) t
does frames ports (Load word address size) t = loads ports word (value_of t.now.words address) size t
does frames ports (Store address size a) t = stores ports (value_of t.now.words address) size (value_of t.now.words a) t
does frames ports (Call block arguments results) t =
    ensure (may_call t.now.home)
    (enters frames.stack (slice_get frames.blocks block) (values_of t.now.words arguments) (record { frame = t.now; results = results } ∷ t.below) t)

-- ---- tails

-- another block of the same home. One that is called has another beginning
unfoldable pub goes_in : Option (List (Option ℕ)) → Block → Thread → Turned
goes_in (Some names) block t = Wrong
goes_in None block t =
    ensure (same_home block.home t.now.home) (Quiet (record t { now = frame_of block t.now.words }))

unfoldable pub goes : Option Block → Thread → Turned
goes None t = Wrong
goes (Some block) t = goes_in block.entry block t

unfoldable pub goes_to : List Block → Option ℕ → Thread → Turned
goes_to blocks None t = Wrong
goes_to blocks (Some block) t = goes (slice_get blocks block) t

unfoldable pub switches : List Block → List ℕ → Option ℕ → Thread → Turned
switches blocks targets None t = Wrong
switches blocks targets (Some number) t = goes_to blocks (slice_get targets number) t

unfoldable pub halts : Option ℕ → Turned
halts None = Wrong
halts (Some code) = End (IsHalt code)

unfoldable pub closes : Frames → Tail → Thread → Turned
closes frames Done t = End IsDone
closes frames (Halt code) t = halts (value_of t.now.words code)
closes frames (Return results) t = returns (values_of t.now.words results) t.below t
closes frames (Goto block) t = goes (slice_get frames.blocks block) t
closes frames (Jump block arguments) t = enters frames.stack (slice_get frames.blocks block) (values_of t.now.words arguments) t.below t
closes frames (Switch number targets) t = switches frames.blocks targets (value_of t.now.words number) t

-- ---- runs

abbrev pub after_step : List Step → Thread → Thread
after_step steps t = record t { now = record t.now { steps = steps } }

unfoldable pub next : Frames → List Port → List Step → Thread → Turned
next frames ports [] t = closes frames t.now.tail t
next frames ports (step ∷ steps) t = does frames ports step (after_step steps t)

-- one count
unfoldable pub turn : Frames → List Port → Thread → Turned
turn frames ports t = next frames ports t.now.steps t

-- the first block begins with no word set and all bytes zero
abbrev pub begun : Block → ℕ → List ScriptLine → Thread
begun block areas lines = record {
  now = frame_of block none_set;
  below = [];
  areas = record { base = areas_base; bytes = replicate areas 0 };
  lines = lines;
}

unfoldable pub told_from : Option Block → Frames → List Port → ℕ → List ScriptLine → ℕ → Outcome Shown (Finished Stop)
told_from None frames ports areas lines n = nothing_yet
told_from (Some block) frames ports areas lines n = told (turn frames ports) n (begun block areas lines)

-- what so many counts show, with these ports, so many bytes of areas, and these lines as inputs
unfoldable pub runs : Frames → List Port → ℕ → List ScriptLine → ℕ → Outcome Shown (Finished Stop)
runs frames ports areas lines n = told_from (slice_get frames.blocks frames.entry) frames ports areas lines n
