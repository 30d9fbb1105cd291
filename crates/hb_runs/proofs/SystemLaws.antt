-- What a system shows grows by at most one event or the end a turn, and some turns after others are as many together.
use Rattle.std.proofs.Common.{◌≡◌, ℕ, zero, suc, ◌+◌, ◌≤◌, List, ◌++◌, Option, Some, None, refl, ap, ◌∙◌, arith}
use Rattle.hb_runs.specs.Outcome.{Outcome, nothing_yet, GrowsTo, Stays, Shows, Ends, Grows}
use Rattle.hb_runs.specs.System.{Turn, Quiet, Event, End, Wrong, Finished, By, Stuck, System, shows_first, followed, told, weighed_after, weighed, reached_after, reached}

-- ---- growth

-- an event before both
later_grows : {E S : Type 0} (event : E) (o p : Outcome E S) → GrowsTo o p → GrowsTo (shows_first event o) (shows_first event p)
later_grows event o p (Stays same) = Stays (ap (shows_first event) same)
later_grows event o p (Shows other going same) = Shows other going (ap (shows_first event) same)
later_grows event o p (Ends end going same) = Ends end going (ap (shows_first event) same)

first_grows : {T E S : Type 0} (later : T → Outcome E (Finished S)) (t : Turn T E S) → ((u : T) → later u ≡ nothing_yet) → GrowsTo nothing_yet (followed later t)
unfolding followed
first_grows later (Quiet t) none = Stays (none t)
first_grows later (Event event t) none = Shows event refl (ap (shows_first event) (none t))
first_grows later (End end) none = Ends (By end) refl refl
first_grows later Wrong none = Ends Stuck refl refl

followed_grows : {T E S : Type 0} (later more : T → Outcome E (Finished S)) (t : Turn T E S) → ((u : T) → GrowsTo (later u) (more u)) → GrowsTo (followed later t) (followed more t)
unfolding followed
followed_grows later more (Quiet t) grow = grow t
followed_grows later more (Event event t) grow = later_grows event (later t) (more t) (grow t)
followed_grows later more (End end) grow = Stays refl
followed_grows later more Wrong grow = Stays refl

pub told-suc : {T E S : Type 0} (turn : T → Turn T E S) (n : ℕ) (t : T) → GrowsTo (told turn n t) (told turn (suc n) t)
unfolding told
told-suc turn zero t = first_grows (told turn zero) (turn t) (λ u. refl)
told-suc turn (suc n) t = followed_grows (told turn n) (told turn (suc n)) (turn t) (λ u. told-suc turn n u)

pub told-grows : {T E S : Type 0} (turn : T → Turn T E S) (t : T) → Grows (λ n. told turn n t)
unfolding told
told-grows turn t = record { starts = refl; grows = λ n. told-suc turn n t }

-- ---- weights rise

after_rises : {T E S : Type 0} (before later : T → ℕ) (t : Turn T E S) → ((u : T) → before u ≤ later u) → weighed_after before t ≤ weighed_after later t
unfolding weighed_after
after_rises before later (Quiet t) more = more t
after_rises before later (Event event t) more = more t
after_rises before later (End end) more = omega arith
after_rises before later Wrong more = omega arith

pub weighed-rises : {T E S : Type 0} (system : System T E S) (n : ℕ) (t : T) → weighed system n t ≤ weighed system (suc n) t
unfolding weighed
weighed-rises system zero t = omega arith
weighed-rises system (suc n) t = omega (arith, after_rises (weighed system n) (weighed system (suc n)) (system.turn t) (λ u. weighed-rises system n u))

-- ---- some turns, and then others

zero_plus : (n : ℕ) → 0 + n ≡ n
zero_plus n = omega arith

suc_plus : (m n : ℕ) → suc m + n ≡ suc (m + n)
suc_plus m n = omega arith

not_reached : {T : Type 0} (t : T) → None ≡ Some t → ⊥
not_reached t e = cc

pub is_reached : {T : Type 0} (t u : T) → Some t ≡ Some u → t ≡ u
is_reached t u e = cc

-- events, and then what is shown after them
abbrev pub shows_before : {E S : Type 0} → List E → Outcome E S → Outcome E S
shows_before seen outcome = record { trace = seen ++ outcome.trace; end = outcome.end }

reached_turn : {T E S : Type 0} (before later rest : T → Option T) (u : T) (moved : Turn T E S) → reached_after before moved ≡ Some u → ((v : T) → before v ≡ Some u → later v ≡ rest u) → reached_after later moved ≡ rest u
unfolding reached_after
reached_turn before later rest u (Quiet v) e go = go v e
reached_turn before later rest u (Event event v) e go = go v e
reached_turn before later rest u (End end) e go = absurd (not_reached u e)
reached_turn before later rest u Wrong e go = absurd (not_reached u e)

pub reached-add : {T E S : Type 0} (turn : T → Turn T E S) (m n : ℕ) (t u : T) → reached turn m t ≡ Some u → reached turn (m + n) t ≡ reached turn n u
unfolding reached
reached-add turn zero n t u e = ap (λ k. reached turn k t) (zero_plus n) ∙ ap (reached turn n) (is_reached t u e)
reached-add turn (suc m) n t u e =
    ap (λ k. reached turn k t) (suc_plus m n) ∙ reached_turn (reached turn m) (reached turn (m + n)) (reached turn n) u (turn t) e (λ v f. reached-add turn m n v u f)

told_turn : {T E S : Type 0} (before : T → Option T) (first later : T → Outcome E (Finished S)) (rest : Outcome E (Finished S)) (u : T) (moved : Turn T E S) → reached_after before moved ≡ Some u
    → ((v : T) → before v ≡ Some u → later v ≡ shows_before (first v).trace rest) → followed later moved ≡ shows_before (followed first moved).trace rest
unfolding reached_after followed
told_turn before first later rest u (Quiet v) e go = go v e
told_turn before first later rest u (Event event v) e go = ap (shows_first event) (go v e)
told_turn before first later rest u (End end) e go = absurd (not_reached u e)
told_turn before first later rest u Wrong e go = absurd (not_reached u e)

pub told-add : {T E S : Type 0} (turn : T → Turn T E S) (m n : ℕ) (t u : T) → reached turn m t ≡ Some u → told turn (m + n) t ≡ shows_before (told turn m t).trace (told turn n u)
unfolding reached told
told-add turn zero n t u e = ap (λ k. told turn k t) (zero_plus n) ∙ ap (told turn n) (is_reached t u e)
told-add turn (suc m) n t u e =
    ap (λ k. told turn k t) (suc_plus m n)
    ∙ told_turn (reached turn m) (told turn m) (told turn (m + n)) (told turn n u) u (turn t) e (λ v f. told-add turn m n v u f)

weighed_turn : {T E S : Type 0} (before : T → Option T) (first later : T → ℕ) (rest : ℕ) (u : T) (moved : Turn T E S) → reached_after before moved ≡ Some u
    → ((v : T) → before v ≡ Some u → later v ≡ first v + rest) → weighed_after later moved ≡ weighed_after first moved + rest
unfolding reached_after weighed_after
weighed_turn before first later rest u (Quiet v) e go = go v e
weighed_turn before first later rest u (Event event v) e go = go v e
weighed_turn before first later rest u (End end) e go = absurd (not_reached u e)
weighed_turn before first later rest u Wrong e go = absurd (not_reached u e)

pub weighed-add : {T E S : Type 0} (system : System T E S) (m n : ℕ) (t u : T) → reached system.turn m t ≡ Some u → weighed system (m + n) t ≡ weighed system m t + weighed system n u
unfolding reached weighed
weighed-add system zero n t u e = ap (λ k. weighed system k t) (zero_plus n) ∙ ap (weighed system n) (is_reached t u e) ∙ zero_before (weighed system n u)
  where
    zero_before : (n : ℕ) → n ≡ 0 + n
    zero_before n = omega arith
weighed-add system (suc m) n t u e =
    let rest = weighed_turn (reached system.turn m) (weighed system m) (weighed system (m + n)) (weighed system n u) u (system.turn t) e (λ v f. weighed-add system m n v u f) in
    ap (λ k. weighed system k t) (suc_plus m n) ∙ sum (system.weight t) _ _ _ rest
  where
    sum : (a b c d : ℕ) → b ≡ c + d → a + b ≡ a + c + d
    sum a b c d e = omega (arith, e)
