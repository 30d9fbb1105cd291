-- What a flat program shows grows by at most one event or the end a count.
use Rattle.std.proofs.Common.{◌≡◌, ℕ, zero, suc, List, Option, Some, None, refl, ap, slice_get}
use Rattle.hb_base.specs.declared.port.Port.{Port}
use Rattle.hb_base.specs.declared.script.ScriptLine.{ScriptLine}
use Rattle.hb_base.specs.declared.step.Step.{Step}
use Rattle.hb_base.specs.declared.step.Stop.{Stop}
use Rattle.hb_runs.specs.Outcome.{Outcome, nothing_yet, GrowsTo, Stays, Shows, Ends, Grows}
use Rattle.hb_flat.specs.declared.form.FlatBlock.{FlatBlock}
use Rattle.hb_flat.specs.declared.form.Flat.{Flat}
use Rattle.hb_flat.specs.Meaning.{Thread, Turn, Quiet, Event, End, turn, followed, shown, shows_first, entered, shown_from, runs}

-- an event before both
later_grows : (event : Step) (o p : Outcome Step Stop) → GrowsTo o p → GrowsTo (shows_first event o) (shows_first event p)
later_grows event o p (Stays same) = Stays (ap (shows_first event) same)
later_grows event o p (Shows other going same) = Shows other going (ap (shows_first event) same)
later_grows event o p (Ends stop going same) = Ends stop going (ap (shows_first event) same)

first_grows : (later : Thread → Outcome Step Stop) (t : Turn) → ((u : Thread) → later u ≡ nothing_yet) → GrowsTo nothing_yet (followed later t)
unfolding followed
first_grows later (Quiet t) none = Stays (none t)
first_grows later (Event event t) none = Shows event refl (ap (shows_first event) (none t))
first_grows later (End stop) none = Ends stop refl refl

followed_grows : (later more : Thread → Outcome Step Stop) (t : Turn) → ((u : Thread) → GrowsTo (later u) (more u)) → GrowsTo (followed later t) (followed more t)
unfolding followed
followed_grows later more (Quiet t) grow = grow t
followed_grows later more (Event event t) grow = later_grows event (later t) (more t) (grow t)
followed_grows later more (End stop) grow = Stays refl

pub shown-grows : (ports : List Port) (n : ℕ) (t : Thread) → GrowsTo (shown ports n t) (shown ports (suc n) t)
unfolding shown
shown-grows ports zero t = first_grows (shown ports zero) (turn ports t) (λ u. refl)
shown-grows ports (suc n) t = followed_grows (shown ports n) (shown ports (suc n)) (turn ports t) (λ u. shown-grows ports n u)

from_block : (block : Option FlatBlock) (ports : List Port) (lines : List ScriptLine) → Grows (shown_from block ports lines)
unfolding shown_from shown
from_block None ports lines = record { starts = refl; grows = λ n. Stays refl }
from_block (Some block) ports lines = record { starts = refl; grows = λ n. shown-grows ports n (entered block lines) }

pub runs-grows : (flat : Flat) (ports : List Port) (lines : List ScriptLine) → Grows (runs flat ports lines)
unfolding runs
runs-grows flat ports lines = from_block (slice_get flat.blocks flat.entry) ports lines
