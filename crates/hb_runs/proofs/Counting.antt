-- Where each turn weighs one, turns are counted.
use Rattle.std.proofs.Common.{◌≡◌, ℕ, zero, suc, ◌+◌, ◌≤◌, Some, None, refl, ap, ◌∙◌, subst, arith}
use Rattle.hb_runs.specs.Outcome.{Outcome}
use Rattle.hb_runs.specs.System.{Turn, Quiet, Event, End, Wrong, Finished, By, shows_first, followed, told, weighed, weighed_after, each_one}
use Rattle.hb_runs.specs.Law.{Course, course_of, by_turns, Law}

one_more : (n : ℕ) → 1 + n ≡ suc n
one_more n = omega arith

not_none : {R : Type 0} (r : R) → Some r ≡ None → ⊥
not_none r e = cc

-- the turns that are counted show all that is shown
same_turn : {T E S : Type 0} (turn : T → Turn T E S) (n : ℕ) (turned : Turn T E S) → ((t : T) → told turn (weighed (each_one turn) n t) t ≡ told turn n t)
    → followed (told turn (weighed_after (weighed (each_one turn) n) turned)) turned ≡ followed (told turn n) turned
unfolding followed weighed_after
same_turn turn n (Quiet t) same = same t
same_turn turn n (Event event t) same = ap (shows_first event) (same t)
same_turn turn n (End end) same = refl
same_turn turn n Wrong same = refl

pub counted-same : {T E S : Type 0} (turn : T → Turn T E S) (n : ℕ) (t : T) → told turn (weighed (each_one turn) n t) t ≡ told turn n t
unfolding told weighed
counted-same turn zero t = refl
counted-same turn (suc n) t =
    ap (λ k. told turn k t) (one_more (weighed_after (weighed (each_one turn) n) (turn t))) ∙ same_turn turn n (turn t) (λ u. counted-same turn n u)

-- while a run is going, all turns are counted, and the next one
all_turn : {T E S : Type 0} (later more : T → ℕ) (outcome : T → Outcome E (Finished S)) (n : ℕ) (turned : Turn T E S) → (followed outcome turned).end ≡ None
    → ((t : T) → (outcome t).end ≡ None → more t ≡ suc n) → 1 + weighed_after more turned ≡ suc (suc n)
unfolding followed weighed_after
all_turn later more outcome n (Quiet t) going all = omega (arith, all t going)
all_turn later more outcome n (Event event t) going all = omega (arith, all t going)
all_turn later more outcome n (End end) going all = absurd (not_none (By end) going)
all_turn later more outcome n Wrong going all = absurd (not_none _ going)

one_turn : {T E S : Type 0} (turned : Turn T E S) → weighed_after (λ t. 0) turned ≡ 0
unfolding weighed_after
one_turn (Quiet t) = refl
one_turn (Event event t) = refl
one_turn (End end) = refl
one_turn Wrong = refl

pub counted-going : {T E S : Type 0} (turn : T → Turn T E S) (n : ℕ) (t : T) → (told turn n t).end ≡ None → weighed (each_one turn) (suc n) t ≡ suc n
unfolding told weighed
counted-going turn zero t going = ap (λ k. 1 + k) (one_turn (turn t))
counted-going turn (suc n) t going = all_turn (weighed (each_one turn) n) (weighed (each_one turn) (suc n)) (told turn n) n (turn t) going (λ u e. counted-going turn n u e)

-- so a law that counts the turns of the lower system bounds their number
pub counted : {U E S : Type 0} (upper : Course E (Finished S)) (turn : U → Turn U E S) (u : U) → Law upper (course_of (each_one turn) u) → Law upper (by_turns turn u)
counted upper turn u law = record {
  each_count = λ n.
      let w = law.each_count n in
      record { turns = weighed (each_one turn) w.turns u; same = counted-same turn w.turns u ∙ w.same; bounded = w.bounded };
  each_turn = λ m.
      let p = law.each_turn m in
      record { count = p.count; same = p.same; bounded = λ going. subst (λ k. k ≤ upper.costs (suc p.count)) (counted-going turn m u going) (p.bounded going) };
}

-- and no more turns than are done
after_most : {T E S : Type 0} (later : T → ℕ) (n : ℕ) (turned : Turn T E S) → ((t : T) → later t ≤ n) → 1 + weighed_after later turned ≤ suc n
unfolding weighed_after
after_most later n (Quiet t) most = omega (arith, most t)
after_most later n (Event event t) most = omega (arith, most t)
after_most later n (End end) most = omega arith
after_most later n Wrong most = omega arith

pub counted-most : {T E S : Type 0} (turn : T → Turn T E S) (n : ℕ) (t : T) → weighed (each_one turn) n t ≤ n
unfolding weighed
counted-most turn zero t = omega arith
counted-most turn (suc n) t = after_most (weighed (each_one turn) n) n (turn t) (λ u. counted-most turn n u)
