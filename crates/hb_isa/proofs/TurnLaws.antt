-- The machine as a system, a step a turn: it shows the same.
use Rattle.std.proofs.Common.{◌≡◌, ℕ, zero, suc, List, [], ◌∷◌, Option, Some, None, refl, ap, sym, ◌∙◌}
use Rattle.std.specs.Prelude.{option_map}
use Rattle.hb_base.specs.declared.step.Step.{Step}
use Rattle.hb_base.specs.declared.step.Step.TheVariants.{Going, Read, Wrote, Ended}
use Rattle.hb_base.specs.declared.step.Stop.{Stop}
use Rattle.hb_runs.specs.Outcome.{Outcome}
use Rattle.hb_runs.specs.Stepping.{after, answers}
use Rattle.hb_runs.specs.System.{Finished, By, told, followed, over, by_end, shows_first, reached, reached_after}
use Rattle.hb_isa.specs.State.{State}
use Rattle.hb_isa.specs.Table.{table, running}
use Rattle.hb_isa.specs.Run.{events, shown, turn_of, turn}
use Rattle.hb_isa.proofs.RunLaws.{Turn, Quiet, Reads, Writes, Stops, Over, turns}

-- after an end nothing moves
stays_over : (stop : Stop) (s : State) → s.ended ≡ Some stop → table s ≡ (s, Ended stop)
unfolding table running
stays_over stop s e = ap (λ ended. running ended s) e

after_over : (n : ℕ) (stop : Stop) (s : State) → s.ended ≡ Some stop → after table n s ≡ s
unfolding after
after_over zero stop s e = refl
after_over (suc n) stop s e = ap (λ (r : State × Step). after table n r.0) (stays_over stop s e) ∙ after_over n stop s e

answers_over : (n : ℕ) (stop : Stop) (s : State) → s.ended ≡ Some stop → events (answers table n s) ≡ []
unfolding answers
answers_over zero stop s e = refl
answers_over (suc n) stop s e = ap (λ (r : State × Step). events (r.1 ∷ answers table n r.0)) (stays_over stop s e) ∙ answers_over n stop s e

parts : (x y : List Step) (a b : Option Stop) → x ≡ y → a ≡ b → Path (Outcome Step Stop) (record { trace = x; end = a }) (record { trace = y; end = b })
parts x y a b e f = cc

pub shown-over : (n : ℕ) (stop : Stop) (s : State) → s.ended ≡ Some stop → shown s n ≡ over stop
unfolding shown
shown-over n stop s e = parts _ _ _ _ (answers_over n stop s e) (ap (λ (t : State). t.ended) (after_over n stop s e) ∙ e)

-- a step, and what is shown from there on
shown_from : ℕ → State × Step → Outcome Step Stop
shown_from n r = record { trace = events (r.1 ∷ answers table n r.0); end = (after table n r.0).ended }

by_turn : (n : ℕ) (next : State) (answer : Step) (before now : Option Stop) → before ≡ None → next.ended ≡ now → Turn before now answer
    → ((s : State) → s.ended ≡ None → told turn n s ≡ by_end (shown s n)) → followed (told turn n) (turn_of (next, answer)) ≡ by_end (shown_from n (next, answer))
unfolding followed turn_of shown_from shown
by_turn n next _ _ _ going now Quiet same = same next now
by_turn n next _ _ _ going now (Reads port value) same = ap (shows_first (Read port value)) (same next now)
by_turn n next _ _ _ going now (Writes port value) same = ap (shows_first (Wrote port value)) (same next now)
by_turn n next _ _ _ going now (Stops stop) same = ap by_end (sym (shown-over n stop next now))
by_turn n next _ _ _ going now (Over stop) same = absurd (not_none stop going)
  where
    not_none : (stop : Stop) → Some stop ≡ None → ⊥
    not_none stop e = cc

with_end : Option Stop → Outcome Step (Finished Stop)
with_end end = record { trace = []; end = option_map By end }

pub told-shown : (n : ℕ) (s : State) → s.ended ≡ None → told turn n s ≡ by_end (shown s n)
unfolding told turn shown after answers with_end shown_from
told-shown zero s going = ap with_end (sym going)
told-shown (suc n) s going = by_turn n (table s).0 (table s).1 s.ended (table s).0.ended going refl (turns s) (λ t still. told-shown n t still)

-- ---- where it is after so many steps

not_over : (n : ℕ) (s : State) (stop : Stop) → s.ended ≡ Some stop → (after table n s).ended ≡ None → ⊥
not_over n s stop e going = no (sym (ap (λ (t : State). t.ended) (after_over n stop s e) ∙ e) ∙ going)
  where
    no : Some stop ≡ None → ⊥
    no e = cc

reached_turn : (n : ℕ) (next t : State) (answer : Step) → reached_after (reached turn n) (turn_of (next, answer)) ≡ Some t → ((s : State) → reached turn n s ≡ Some t → after table n s ≡ t) → after table n next ≡ t
unfolding reached_after turn_of
reached_turn n next t Going e rest = rest next e
reached_turn n next t (Read port value) e rest = rest next e
reached_turn n next t (Wrote port value) e rest = rest next e
reached_turn n next t (Ended stop) e rest = absurd (no e)
  where
    no : None ≡ Some t → ⊥
    no e = cc

pub reached-after : (n : ℕ) (s t : State) → reached turn n s ≡ Some t → after table n s ≡ t
unfolding reached after turn
reached-after zero s t e = some e
  where
    some : Some s ≡ Some t → s ≡ t
    some e = cc
reached-after (suc n) s t e = reached_turn n (table s).0 t (table s).1 e (λ u f. reached-after n u t f)

going_turn : (n : ℕ) (next : State) (answer : Step) (before now : Option Stop) → next.ended ≡ now → Turn before now answer → (after table n next).ended ≡ None
    → ((s : State) → (after table n s).ended ≡ None → reached turn n s ≡ Some (after table n s)) → reached_after (reached turn n) (turn_of (next, answer)) ≡ Some (after table n next)
unfolding reached_after turn_of
going_turn n next _ _ _ now Quiet going rest = rest next going
going_turn n next _ _ _ now (Reads port value) going rest = rest next going
going_turn n next _ _ _ now (Writes port value) going rest = rest next going
going_turn n next _ _ _ now (Stops stop) going rest = absurd (not_over n next stop now going)
going_turn n next _ _ _ now (Over stop) going rest = absurd (not_over n next stop now going)

-- while the run is going, the state after so many steps is reached
pub after-reached : (n : ℕ) (s : State) → (after table n s).ended ≡ None → reached turn n s ≡ Some (after table n s)
unfolding reached after turn
after-reached zero s going = refl
after-reached (suc n) s going = going_turn n (table s).0 (table s).1 s.ended (table s).0.ended refl (turns s) going (λ u still. after-reached n u still)
