-- From the simulation of each turn to the law, and to what holds at each turn of the lower system.
use Rattle.std.proofs.Common.{◌≡◌, ◌≢◌, ℕ, zero, suc, ◌+◌, ◌-◌, ◌<◌, ◌≤◌, List, [], ◌∷◌, Some, None, refl, ap, sym, ◌∙◌, subst, arith, ⊎_elim}
use Rattle.std.proofs.lemmas.Bool.{cases_lt}
use Rattle.hb_runs.specs.Outcome.{Outcome}
use Rattle.hb_runs.specs.System.{Turn, Quiet, Event, End, Wrong, Finished, By, Stuck, System, over, followed, told, IsSane, weighed, weighed_after, reached, reached_after}
use Rattle.hb_runs.specs.Law.{course_of, Law, Forward}
use Rattle.hb_runs.specs.Simulation.{Walk, Moves, Stops, Matches, Simulates, Under, Always}
use Rattle.hb_runs.proofs.SystemLaws.{told-grows, weighed-rises, reached-add, weighed-add, is_reached, shows_before}
use Rattle.hb_runs.proofs.Walks.{after_walk}
use Rattle.hb_runs.proofs.Halves.{whole}

end_of : {E S : Type 0} (o p : Outcome E S) → o ≡ p → o.end ≡ p.end
end_of o p e = ap (λ (q : Outcome _ _). q.end) e

-- so many turns show this within this cost, and while the run is going there are no fewer of them than this count
record Half {U E S : Type 0} (lower : System U E S) (count : ℕ) (outcome : Outcome E (Finished S)) (cost : ℕ) (u : U) : Type 0 where
  turns : ℕ
  same : told lower.turn turns u ≡ outcome
  bounded : weighed lower turns u ≤ cost
  least : outcome.end ≡ None → count ≤ turns

not_none : {R : Type 0} (r : R) → Some r ≡ None → ⊥
not_none r e = cc

plus_one : (n : ℕ) → n + 1 ≡ suc n
plus_one n = omega arith

moved : {U E S : Type 0} (lower : System U E S) (Good Holds : U → Type 0) (most count cost : ℕ) (seen : List E) (later : Outcome E (Finished S)) (u : U)
    → (m : Moves lower Good Holds most seen u) → Half lower count later cost m.to → Half lower (suc count) (shows_before seen later) (most + cost) u
moved lower Good Holds most count cost seen later u m rest = record {
  turns = m.turns + rest.turns;
  same = after_walk lower.turn Good u m.to m.turns rest.turns seen m.walk ∙ ap (shows_before seen) rest.same;
  bounded = omega (arith, weighed-add lower m.turns rest.turns u m.to m.walk.arrives, m.bounded, rest.bounded);
  least = λ going. omega (arith, rest.least going, m.least);
}

last_turn : {U E S : Type 0} (turn : U → Turn U E S) (last : U) (end : S) → turn last ≡ End end → told turn 1 last ≡ over (By end)
unfolding told followed
last_turn turn last end e = ap (followed (told turn 0)) e

stopped : {U E S : Type 0} (lower : System U E S) (Good : U → Type 0) (most count : ℕ) (end : S) (u : U) → (m : Stops lower Good most end u) → Half lower (suc count) (over (By end)) (most + 0) u
stopped lower Good most count end u m = record {
  turns = suc m.turns;
  same = ap (λ k. told lower.turn k u) (sym (plus_one m.turns)) ∙ after_walk lower.turn Good u m.last m.turns 1 [] m.walk ∙ ap (shows_before []) (last_turn lower.turn m.last end m.ends);
  bounded = omega (arith, m.bounded);
  least = λ going. absurd (not_none (By end) going);
}

module _ {T U E S : Type 0} (upper : System T E S) (lower : System U E S) (Good Related : T → U → Type 0) (simulates : Simulates upper lower Good Related) where
  by_turn : (n most : ℕ) (Fine : U → Type 0) (u : U) (turned : Turn T E S) → Matches lower Fine Related most u turned → (followed (told upper.turn n) turned).end ≢ Some Stuck
      → ((t : T) (v : U) → Related t v → (told upper.turn n t).end ≢ Some Stuck → Half lower n (told upper.turn n t) (weighed upper n t) v)
      → Half lower (suc n) (followed (told upper.turn n) turned) (most + weighed_after (weighed upper n) turned) u
  unfolding followed weighed_after
  by_turn n most Fine u (Quiet t) m sane rest = moved lower Fine (Related t) most n (weighed upper n t) [] (told upper.turn n t) u m (rest t m.to m.holds sane)
  by_turn n most Fine u (Event event t) m sane rest = moved lower Fine (Related t) most n (weighed upper n t) (event ∷ []) (told upper.turn n t) u m (rest t m.to m.holds sane)
  by_turn n most Fine u (End end) m sane rest = stopped lower Fine most n end u m
  by_turn n most Fine u Wrong m sane rest = absurd (sane refl)

  half : (n : ℕ) (t : T) (u : U) → Related t u → (told upper.turn n t).end ≢ Some Stuck → Half lower n (told upper.turn n t) (weighed upper n t) u
  unfolding told weighed
  half zero t u related sane = record { turns = 0; same = refl; bounded = omega arith; least = λ going. omega arith }
  half (suc n) t u related sane = by_turn n (upper.weight t) (Good t) u (upper.turn t) (simulates t u related) sane (λ s v r still. half n s v r still)

  pub forward : (t : T) (u : U) → Related t u → IsSane upper.turn t → (n : ℕ) → Forward (course_of upper t) (course_of lower u) n
  forward t u related sane n =
      let h = half n t u related (sane n) in
      record { within = record { turns = h.turns; same = h.same; bounded = h.bounded }; least = h.least }

  -- the law, where the upper system is never stuck
  pub law : (t : T) (u : U) → Related t u → IsSane upper.turn t → Law (course_of upper t) (course_of lower u)
  law t u related sane =
      whole (course_of upper t) (course_of lower u) (told-grows upper.turn t) (told-grows lower.turn u) (λ n. weighed-rises upper n t) (λ n. weighed-rises lower n u)
      (forward t u related sane)

  -- ---- what holds at each turn

  sane_after : (t : T) (turned : Turn T E S) → IsSane upper.turn t → upper.turn t ≡ turned → (n : ℕ) → (followed (told upper.turn n) turned).end ≢ Some Stuck
  unfolding told
  sane_after t turned sane e n = λ stuck. sane (suc n) (end_of _ _ (ap (followed (told upper.turn n)) e) ∙ stuck)

  one_more : (t : T) (turned : Turn T E S) (s : T) (v : U) → upper.turn t ≡ turned → ((n : ℕ) → reached_after (reached upper.turn n) turned ≡ reached upper.turn n s) → Under upper Good s v → Under upper Good t v
  unfolding reached
  one_more t turned s v e same under = record {
    count = suc under.count;
    state = under.state;
    there = ap (reached_after (reached upper.turn under.count)) e ∙ same under.count ∙ under.there;
    good = under.good;
  }

  now : (t : T) (v : U) → Good t v → Under upper Good t v
  unfolding reached
  now t v good = record { count = 0; state = t; there = refl; good = good }

  past_last : (k : ℕ) (last v : U) (end : S) → lower.turn last ≡ End end → reached lower.turn (suc k) last ≡ Some v → ⊥
  unfolding reached reached_after
  past_last k last v end e r = no (sym (ap (reached_after (reached lower.turn k)) e) ∙ r)
    where
      no : None ≡ Some v → ⊥
      no f = cc

  -- on a walk, or behind it
  on_walk : (m : ℕ) (seen : List E) (turns : ℕ) (Fine : U → Type 0) (u w v : U) → Walk lower.turn Fine turns seen u w → reached lower.turn m u ≡ Some v → turns ≤ m → reached lower.turn (m - turns) w ≡ Some v
  on_walk m seen turns Fine u w v g r high =
      let same : turns + (m - turns) ≡ m = omega (arith, high) in
      sym (reached-add lower.turn turns (m - turns) u w g.arrives) ∙ ap (λ i. reached lower.turn i u) same ∙ r

  by_kind : (fuel m : ℕ) (t : T) (u v : U) (turned : Turn T E S) → m ≤ fuel → upper.turn t ≡ turned → Matches lower (Good t) Related (upper.weight t) u turned → IsSane upper.turn t → reached lower.turn m u ≡ Some v
      → ((k : ℕ) (s : T) (w : U) → suc k ≤ fuel → Related s w → IsSane upper.turn s → reached lower.turn k w ≡ Some v → Under upper Good s v)
      → Under upper Good t v
  unfolding followed reached reached_after
  by_kind fuel m t u v (Quiet s) within e g sane r rest =
      ⊎_elim
      (λ (low : m < g.turns). now t v (g.walk.fine m v low r))
      (λ (high : g.turns ≤ m). one_more t (Quiet s) s v e (λ n. refl) (rest (m - g.turns) s g.to (omega (arith, within, high, g.least)) g.holds (sane_after t (Quiet s) sane e) (on_walk m [] g.turns (Good t) u g.to v g.walk r high)))
      (cases_lt m g.turns)
  by_kind fuel m t u v (Event event s) within e g sane r rest =
      ⊎_elim
      (λ (low : m < g.turns). now t v (g.walk.fine m v low r))
      (λ (high : g.turns ≤ m). one_more t (Event event s) s v e (λ n. refl) (rest (m - g.turns) s g.to (omega (arith, within, high, g.least)) g.holds (sane_after t (Event event s) sane e) (on_walk m (event ∷ []) g.turns (Good t) u g.to v g.walk r high)))
      (cases_lt m g.turns)
  by_kind fuel m t u v (End end) within e g sane r rest =
      ⊎_elim
      (λ (low : m < g.turns). now t v (g.walk.fine m v low r))
      (λ (high : g.turns ≤ m). now t v (at_last (m - g.turns) g.last (on_walk m [] g.turns (Good t) u g.last v g.walk r high) g.good g.ends))
      (cases_lt m g.turns)
    where
      at_last : (k : ℕ) (last : U) → reached lower.turn k last ≡ Some v → Good t last → lower.turn last ≡ End end → Good t v
      at_last zero last r good ends = subst (Good t) (is_reached last v r) good
      at_last (suc k) last r good ends = absurd (past_last k last v end ends r)
  by_kind fuel m t u v Wrong within e g sane r rest = absurd (sane_after t Wrong sane e 0 refl)

  found : (fuel m : ℕ) (t : T) (u v : U) → m ≤ fuel → Related t u → IsSane upper.turn t → reached lower.turn m u ≡ Some v → Under upper Good t v
  found zero m t u v within related sane r = by_kind zero m t u v (upper.turn t) within refl (simulates t u related) sane r (λ k s w less. absurd (omega (arith, less)))
  found (suc fuel) m t u v within related sane r =
      by_kind (suc fuel) m t u v (upper.turn t) within refl (simulates t u related) sane r (λ k s w less q still at. found fuel k s w v (omega (arith, less)) q still at)

  pub always : (t : T) (u : U) → Related t u → IsSane upper.turn t → Always upper lower Good t u
  always t u related sane = λ turns v r. found turns turns t u v (omega arith) related sane r
