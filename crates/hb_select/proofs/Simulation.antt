-- The machine simulates a flat program, and so keeps the law with it.
use Rattle.std.proofs.Common.{◌≡◌, ℕ, zero, suc, List, Option, Some, None, refl, ap, sym, ◌∙◌, subst}
use Rattle.std.specs.Prelude.{option_map, IfSome}
use Rattle.hb_base.specs.declared.port.Port.{Port}
use Rattle.hb_base.specs.declared.step.Step.{Step}
use Rattle.hb_base.specs.declared.step.Stop.{Stop}
use Rattle.hb_flat.specs.Meaning.{Thread, Turn, Quiet, Event, End, turn as flat_turn, followed as flat_followed, shown as flat_shown}
use Rattle.hb_isa.specs.Run.{shown, turn}
use Rattle.hb_isa.specs.State.{State}
use Rattle.hb_isa.specs.Table.{table}
use Rattle.hb_isa.specs.Touches.{Access, Allowed, touches, touched}
use Rattle.hb_isa.proofs.TurnLaws.{told-shown, after-reached}
use Rattle.hb_runs.specs.Stepping.{after}
use Rattle.hb_select.specs.Law.{NoCell}
use Rattle.hb_runs.specs.Outcome.{Outcome}
use Rattle.hb_runs.specs.System.{Finished, By, Stuck, told, followed, IsSane, weighed, by_end, shows_first}
use Rattle.hb_runs.specs.Law.{Law, course_of, by_turns}
use Rattle.hb_runs.specs.Simulation.{Simulates}
use Rattle.hb_runs.proofs.Counting.{counted}
use Rattle.hb_runs.proofs.LawLaws.{seen_plainly}
use Rattle.hb_runs.proofs.Simulating.{law, always}
use Rattle.hb_select.specs.Weights.{turned, system_of}
use Rattle.hb_select.proofs.Goes.{IsFine, machine}
use Rattle.hb_select.proofs.Turns.{Follows, matches}

-- ---- a flat program as a system shows what it shows

turn-told : (n : ℕ) (later : Thread → Outcome Step (Finished Stop)) (before : Thread → Outcome Step Stop) (moved : Turn) → ((t : Thread) → later t ≡ by_end (before t))
    → followed later (turned moved) ≡ by_end (flat_followed before moved)
unfolding followed turned flat_followed
turn-told n later before (Quiet t) same = same t
turn-told n later before (Event event t) same = ap (shows_first event) (same t)
turn-told n later before (End stop) same = refl

pub flat-told : (ports : List Port) (n : ℕ) (t : Thread) → told (system_of ports).turn n t ≡ by_end (flat_shown ports n t)
unfolding told flat_shown
flat-told ports zero t = refl
flat-told ports (suc n) t = turn-told n (told (system_of ports).turn n) (flat_shown ports n) (flat_turn ports t) (λ u. flat-told ports n u)

-- it has a rule for everything
never_stuck : (o : Outcome Step Stop) → (by_end o).end ≡ Some Stuck → ⊥
never_stuck o e = by o.end e
  where
    by : (end : Option Stop) → option_map By end ≡ Some Stuck → ⊥
    by None e = cc
    by (Some stop) e = cc

pub flat-sane : (ports : List Port) (t : Thread) → IsSane (system_of ports).turn t
flat-sane ports t n = λ stuck. never_stuck (flat_shown ports n t) (ap (λ (o : Outcome Step (Finished Stop)). o.end) (sym (flat-told ports n t)) ∙ stuck)

-- ---- the law

pub simulates : (ports : List Port) (stack : ℕ) → Simulates (system_of ports) machine (λ t. IsFine ports stack) (Follows ports stack)
simulates ports stack t s f = matches ports stack t s f

plain : (ports : List Port) (t : Thread) (s : State) → s.ended ≡ None → Law (course_of (system_of ports) t) (by_turns turn s)
    → Law (record { shows = λ n. flat_shown ports n t; costs = λ n. weighed (system_of ports) n t }) (record { shows = λ n. shown s n; costs = λ n. n })
plain ports t s going law = seen_plainly _ _ (record {
  each_count = λ n.
      let w = law.each_count n in
      record { turns = w.turns; same = sym (told-shown w.turns s going) ∙ w.same ∙ flat-told ports n t; bounded = w.bounded };
  each_turn = λ m.
      let p = law.each_turn m in
      record {
        count = p.count;
        same = sym (flat-told ports p.count t) ∙ p.same ∙ told-shown m s going;
        bounded = λ e. p.bounded (ap (λ (o : Outcome Step (Finished Stop)). o.end) (told-shown m s going) ∙ e);
      };
})

pub keeps_law : (ports : List Port) (stack : ℕ) (t : Thread) (s : State) → Follows ports stack t s
    → Law (record { shows = λ n. flat_shown ports n t; costs = λ n. weighed (system_of ports) n t }) (record { shows = λ n. shown s n; costs = λ n. n })
keeps_law ports stack t s f =
    plain ports t s f.is.going
    (counted (course_of (system_of ports) t) turn s (law (system_of ports) machine (λ t. IsFine ports stack) (Follows ports stack) (simulates ports stack) t s f (flat-sane ports t)))

-- ---- where accesses lie

touches_nothing : (s : State) (stop : Stop) → s.ended ≡ Some stop → touches s ≡ None
unfolding touches touched
touches_nothing s stop e = ap (λ ended. touched ended s) e

pub keeps_accesses : (ports : List Port) (stack : ℕ) (t : Thread) (s : State) → Follows ports stack t s → (steps : ℕ) → IsFine ports stack (after table steps s)
keeps_accesses ports stack t s f steps = by (after table steps s).ended refl
  where
    by : (ended : Option Stop) → (after table steps s).ended ≡ ended → IsFine ports stack (after table steps s)
    by None e =
        (always (system_of ports) machine (λ t. IsFine ports stack) (Follows ports stack) (simulates ports stack) t s f (flat-sane ports t) steps (after table steps s) (after-reached steps s e)).good
    by (Some stop) e = subst (λ (access : Option Access). IfSome access (Allowed NoCell ports stack)) (sym (touches_nothing (after table steps s) stop e)) tt
