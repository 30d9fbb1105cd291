-- A program that keeps its rules meets a port at each address that it reads or writes.
use Rattle.std.proofs.Common.{◌≡◌, ◌≢◌, ℕ, zero, suc, List, [], ◌∷◌, length, Option, Some, None, IsSome, refl, sym, subst, slice_get, length-set}
use Rattle.std.specs.Prelude.{All}
use Rattle.std.proofs.lemmas.List.{length-replicate}
use Rattle.std.proofs.lemmas.List.Elements.{All-head, All-tail}
use Rattle.hb_base.specs.declared.port.Port.{Port}
use Rattle.hb_base.specs.declared.script.ScriptLine.{ScriptLine}
use Rattle.hb_base.specs.declared.step.Step.{Step}
use Rattle.hb_base.specs.declared.step.Stop.{Stop}
use Rattle.hb_base.specs.declared.step.Stop.TheVariants.{Done, InputEnd, Unmapped}
use Rattle.hb_base.specs.Inputs.{first_value}
use Rattle.hb_runs.specs.Outcome.{Outcome}
use Rattle.hb_flat.specs.declared.form.Operand.TheVariants.{Word, Number}
use Rattle.hb_flat.specs.declared.form.FlatStep.{FlatStep}
use Rattle.hb_flat.specs.declared.form.FlatStep.TheVariants.{Set, Alu, Load, Store}
use Rattle.hb_flat.specs.declared.form.FlatTail.{FlatTail}
use Rattle.hb_flat.specs.declared.form.FlatTail.TheVariants.{Done as DoneTail}
use Rattle.hb_flat.specs.declared.form.FlatBlock.{FlatBlock}
use Rattle.hb_flat.specs.declared.form.Flat.{Flat}
use Rattle.hb_flat.specs.Meaning.{Thread, Turn, Quiet, Event, End, taking, reading, writing, does, closes, next, turn, followed, shown, entered, shown_from, runs, read_at, written_at}
use Rattle.hb_flat.specs.Rules.{IsStep, IsBlock, IsFlat}

abbrev IsReady : List Port → Thread → Type 0
IsReady ports t = All (IsStep ports (length t.words)) t.steps

-- what is left after a count keeps the rules too, and the count does not end at a missing port
abbrev HasRule : List Port → Turn → Type 0
HasRule ports (Quiet t) = IsReady ports t
HasRule ports (Event event t) = IsReady ports t
HasRule ports (End stop) = stop ≢ Unmapped

none_is_some : IsSome {T = ℕ} None → ⊥
none_is_some e = cc

taking-rule : (ports : List Port) (value : Option ℕ) (port word : ℕ) (t : Thread) → IsReady ports t → HasRule ports (taking value port word t)
unfolding taking
taking-rule ports None port word t ready = ends
  where
    ends : InputEnd port ≢ Unmapped
    ends e = cc
taking-rule ports (Some value) port word t ready = subst (λ n. All (IsStep ports n) t.steps) (sym (length-set t.words word value)) ready

reading-rule : (ports : List Port) (port : Option ℕ) (word : ℕ) (t : Thread) → IsSome port → IsReady ports t → HasRule ports (reading port word t)
unfolding reading
reading-rule ports None word t some ready = absurd (none_is_some some)
reading-rule ports (Some port) word t some ready = taking-rule ports (first_value port t.lines) port word t ready

writing-rule : (ports : List Port) (port : Option ℕ) (value : ℕ) (t : Thread) → IsSome port → IsReady ports t → HasRule ports (writing port value t)
unfolding writing
writing-rule ports None value t some ready = absurd (none_is_some some)
writing-rule ports (Some port) value t some ready = ready

does-rule : (ports : List Port) (step : FlatStep) (t : Thread) → IsStep ports (length t.words) step → IsReady ports t → HasRule ports (does ports step t)
unfolding does
does-rule ports (Set word a) t is ready = subst (λ n. All (IsStep ports n) t.steps) (sym (length-set t.words word _)) ready
does-rule ports (Alu word op a b) t is ready = subst (λ n. All (IsStep ports n) t.steps) (sym (length-set t.words word _)) ready
does-rule ports (Load word (Word k) width) t is ready = absurd is.1
does-rule ports (Load word (Number address) width) t is ready = reading-rule ports (read_at ports address width) word t is.1 ready
does-rule ports (Store (Word k) width a) t is ready = absurd is.0
does-rule ports (Store (Number address) width a) t is ready = writing-rule ports (written_at ports address width) _ t is.0 ready

closes-rule : (ports : List Port) (tail : FlatTail) → HasRule ports (closes tail)
unfolding closes
closes-rule ports DoneTail = ends
  where
    ends : Done ≢ Unmapped
    ends e = cc

next-rule : (ports : List Port) (steps : List FlatStep) (t : Thread) → All (IsStep ports (length t.words)) steps → HasRule ports (next ports steps t)
unfolding next
next-rule ports [] t ready = closes-rule ports t.tail
next-rule ports (step ∷ steps) t ready =
    does-rule ports step (record t { steps = steps }) (All-head (IsStep ports (length t.words)) step steps ready) (All-tail (IsStep ports (length t.words)) step steps ready)

-- each count has a rule
pub turn-rule : (ports : List Port) (t : Thread) → IsReady ports t → HasRule ports (turn ports t)
unfolding turn
turn-rule ports t ready = next-rule ports t.steps t ready

same_stop : (a b : Stop) → Some a ≡ Some b → a ≡ b
same_stop a b e = cc

followed-rule : (ports : List Port) (later : Thread → Outcome Step Stop) (moved : Turn) → HasRule ports moved → ((t : Thread) → IsReady ports t → (later t).end ≢ Some Unmapped) → (followed later moved).end ≢ Some Unmapped
unfolding followed
followed-rule ports later (Quiet t) rule rest = rest t rule
followed-rule ports later (Event event t) rule rest = rest t rule
followed-rule ports later (End stop) rule rest = λ e. rule (same_stop stop Unmapped e)

going : (None ≡ Some Unmapped) → ⊥
going e = cc

shown-rule : (ports : List Port) (n : ℕ) (t : Thread) → IsReady ports t → (shown ports n t).end ≢ Some Unmapped
unfolding shown
shown-rule ports zero t ready = going
shown-rule ports (suc n) t ready = followed-rule ports (shown ports n) (turn ports t) (turn-rule ports t ready) (λ u r. shown-rule ports n u r)

block_at : (P : FlatBlock → Type 0) (blocks : List FlatBlock) (place : ℕ) (block : FlatBlock) → All P blocks → slice_get blocks place ≡ Some block → P block
block_at P [] place block all e = absurd (none e)
  where
    none : (None ≡ Some block) → ⊥
    none e = cc
block_at P (first ∷ rest) zero block all e = subst P (same e) (All-head P first rest all)
  where
    same : Some first ≡ Some block → first ≡ block
    same e = cc
block_at P (first ∷ rest) (suc place) block all e = block_at P rest place block (All-tail P first rest all) e

from_block : (flat : Flat) (ports : List Port) (lines : List ScriptLine) (n : ℕ) (block : Option FlatBlock) → slice_get flat.blocks flat.entry ≡ block → IsFlat flat ports → (shown_from block ports lines n).end ≢ Some Unmapped
unfolding shown_from
from_block flat ports lines n None e is = going
from_block flat ports lines n (Some block) e is =
    let fits : IsBlock ports flat.stack block = block_at (IsBlock ports flat.stack) flat.blocks flat.entry block is.blocks e in
    shown-rule ports n (entered block lines) (subst (λ k. All (IsStep ports k) block.steps) (sym (length-replicate block.words 0)) fits.steps)

-- no count of a program that keeps its rules ends at a missing port
pub runs-rule : (flat : Flat) (ports : List Port) (lines : List ScriptLine) (n : ℕ) → IsFlat flat ports → (runs flat ports lines n).end ≢ Some Unmapped
unfolding runs
runs-rule flat ports lines n is = from_block flat ports lines n (slice_get flat.blocks flat.entry) refl is
