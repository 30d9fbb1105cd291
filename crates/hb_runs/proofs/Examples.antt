-- Small systems, as examples of what systems show and weigh, and of a law between two of them.
use Rattle.std.proofs.Common.{◌≡◌, ℕ, zero, suc, List, [], ◌∷◌, Option, Some, None, refl}
use Rattle.hb_runs.specs.Outcome.{Outcome}
use Rattle.hb_runs.specs.System.{Turn, Quiet, Event, End, Wrong, Finished, By, Stuck, System, followed, told, weighed, weighed_after, reached, reached_after}
use Rattle.hb_runs.specs.Inner.{put_first, public_of, left_by, public_with, with_cells}

-- counts down with an event for each number, and at 0 ends by it
counting : ℕ → Turn ℕ ℕ ℕ
counting zero = End 0
counting (suc n) = Event n n

-- has no rule at 0
stuck_at_nothing : ℕ → Turn ℕ ℕ ℕ
stuck_at_nothing zero = Wrong
stuck_at_nothing (suc n) = Quiet n

abbrev shown : {E : Type 0} → List E → Option (Finished ℕ) → Outcome E (Finished ℕ)
shown trace end = record { trace = trace; end = end }

each_turn_shows_its_event : told counting 2 3 ≡ shown (2 ∷ 1 ∷ []) None
unfolding told followed counting
each_turn_shows_its_event = refl

the_end_is_a_turn_of_its_own : told counting 3 3 ≡ shown (2 ∷ 1 ∷ 0 ∷ []) None
unfolding told followed counting
the_end_is_a_turn_of_its_own = refl

after_an_end_nothing_is_shown : told counting 9 3 ≡ shown (2 ∷ 1 ∷ 0 ∷ []) (Some (By 0))
unfolding told followed counting
after_an_end_nothing_is_shown = refl

no_rule_is_no_end_of_the_meaning : told stuck_at_nothing 5 2 ≡ shown [] (Some Stuck)
unfolding told followed stuck_at_nothing
no_rule_is_no_end_of_the_meaning = refl

abbrev weighing : System ℕ ℕ ℕ
weighing = record { turn = counting; weight = λ n. suc n }

weights_are_summed : weighed weighing 2 3 ≡ 7
unfolding weighed weighed_after counting
weights_are_summed = refl

after_an_end_nothing_is_weighed : weighed weighing 9 3 ≡ 10
unfolding weighed weighed_after counting
after_an_end_nothing_is_weighed = refl

a_state_is_reached_before_the_end : reached counting 3 3 ≡ Some 0
unfolding reached reached_after counting
a_state_is_reached_before_the_end = refl

none_is_reached_behind_it : reached counting 4 3 ≡ None
unfolding reached reached_after counting
none_is_reached_behind_it = refl

-- ---- events inside: writes of a cell, and one port

data Inner : Type 0 where
  Cell : ℕ → Inner
  Port : ℕ → Inner

port : Inner → Option ℕ
port (Cell n) = None
port (Port n) = Some n

cell : ℕ → Inner → ℕ
cell held (Cell n) = n
cell held (Port n) = held

public_events_alone_are_shown : public_of port (Cell 1 ∷ Port 7 ∷ Cell 2 ∷ Port 8 ∷ []) ≡ 7 ∷ 8 ∷ []
unfolding public_of put_first port
public_events_alone_are_shown = refl

the_last_write_is_left : left_by cell 0 (Cell 1 ∷ Port 7 ∷ Cell 2 ∷ Port 8 ∷ []) ≡ 2
unfolding left_by cell
the_last_write_is_left = refl

each_event_has_what_the_cell_held : with_cells {S = ℕ} cell port 0 (record { trace = Cell 1 ∷ Port 7 ∷ Cell 2 ∷ Port 8 ∷ []; end = Some 5 })
    ≡ record { trace = (7, 1) ∷ (8, 2) ∷ []; end = Some (5, 2) }
unfolding public_with left_by put_first cell port
each_event_has_what_the_cell_held = refl
