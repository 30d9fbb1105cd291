-- From the forward half of a law with its bound to the whole law.
use Rattle.std.proofs.Common.{◌≡◌, ℕ, zero, suc, ◌<◌, ◌≤◌, ◌⊎◌, inl, inr, ⊎_elim, Option, Some, None, refl, ap, sym, ◌∙◌, arith}
use Rattle.std.proofs.lemmas.Bool.{cases_lt}
use Rattle.hb_runs.specs.Outcome.{Outcome, nothing_yet, GrowsTo, Stays, Shows, Ends, Grows}
use Rattle.hb_runs.specs.Law.{Course, Paid, Law, Forward, IsRising}
use Rattle.hb_runs.proofs.Between.{between}

rises : (costs : ℕ → ℕ) → IsRising costs → (n m : ℕ) → n ≤ m → costs n ≤ costs m
rises costs more n zero le = let e : n ≡ 0 = omega arith in rw e (omega arith)
rises costs more n (suc m) le =
    ⊎_elim
    (λ (l : n < suc m). omega (arith, rises costs more n m (omega (arith, l)), more m))
    (λ (l : suc m ≤ n). let e : n ≡ suc m = omega (arith, le, l) in rw e (omega arith))
    (cases_lt n (suc m))

-- after an end nothing new is shown
ended_stays : {E S : Type 0} (o p : Outcome E S) (end : S) → o.end ≡ Some end → GrowsTo o p → p ≡ o
ended_stays o p end e (Stays same) = same
ended_stays o p end e (Shows event going same) = absurd (not_both o.end end going e)
  where
    not_both : {S : Type 0} (a : Option S) (end : S) → a ≡ None → a ≡ Some end → ⊥
    not_both a end e f = cc
ended_stays o p end e (Ends other going same) = absurd (not_both o.end end going e)
  where
    not_both : {S : Type 0} (a : Option S) (end : S) → a ≡ None → a ≡ Some end → ⊥
    not_both a end e f = cc

over_stays : {E S : Type 0} (run : ℕ → Outcome E S) → ((n : ℕ) → GrowsTo (run n) (run (suc n))) → (n m : ℕ) (end : S) → n ≤ m → (run n).end ≡ Some end → run m ≡ run n
over_stays run grows n zero end le e = let f : n ≡ 0 = omega arith in ap run (sym f)
over_stays run grows n (suc m) end le e =
    ⊎_elim
    (λ (l : n < suc m).
    let before = over_stays run grows n m end (omega (arith, l)) e in
    let still : (run m).end ≡ Some end = ap (λ (o : Outcome _ _). o.end) before ∙ e in
    ended_stays (run m) (run (suc m)) end still (grows m) ∙ before)
    (λ (l : suc m ≤ n). let f : suc m ≡ n = omega (arith, le, l) in ap run f)
    (cases_lt n (suc m))

module _ {E S : Type 0} (upper lower : Course E S) (above : Grows upper.shows) (below : Grows lower.shows) (dearer : IsRising upper.costs) (more : IsRising lower.costs) (half : (n : ℕ) → Forward upper lower n) where
  abbrev at : ℕ → ℕ
  at n = (half n).within.turns

  -- the turns lie between those of one count and those of the next
  boundary : (m n : ℕ) → at n ≤ m → m < at (suc n) → Paid upper lower m
  boundary m n low high = by (between lower.shows below.grows (upper.shows n) (upper.shows (suc n)) (above.grows n) (at n) m (at (suc n)) low (omega arith) (half n).within.same (half (suc n)).within.same)
    where
      paid : lower.costs (suc m) ≤ upper.costs (suc n)
      paid = omega (arith, rises lower.costs more (suc m) (at (suc n)) (omega (arith, high)), (half (suc n)).within.bounded)

      by : (lower.shows m ≡ upper.shows n) ⊎ (lower.shows m ≡ upper.shows (suc n)) → Paid upper lower m
      by (inl e) = record { count = n; same = sym e; bounded = λ going. paid }
      by (inr e) = record { count = suc n; same = sym e; bounded = λ going. omega (arith, paid, dearer (suc n)) }

  -- or before all of them, where nothing is shown yet
  first : (m : ℕ) → m < at 0 → Paid upper lower m
  first m high = by (between lower.shows below.grows nothing_yet nothing_yet (Stays refl) 0 m (at 0) (omega arith) (omega (arith, high)) below.starts ((half 0).within.same ∙ above.starts))
    where
      paid : lower.costs (suc m) ≤ upper.costs 1
      paid = omega (arith, rises lower.costs more (suc m) (at 0) (omega (arith, high)), (half 0).within.bounded, dearer 0)

      here : lower.shows m ≡ nothing_yet → Paid upper lower m
      here e = record { count = 0; same = above.starts ∙ sym e; bounded = λ going. paid }

      by : (lower.shows m ≡ nothing_yet) ⊎ (lower.shows m ≡ nothing_yet) → Paid upper lower m
      by (inl e) = here e
      by (inr e) = here e

  find : (m n : ℕ) → m < at n → Paid upper lower m
  find m zero high = first m high
  find m (suc n) high = ⊎_elim (λ (lower : m < at n). find m n lower) (λ (low : at n ≤ m). boundary m n low high) (cases_lt m (at n))

  -- or behind those of more counts than turns: then the run is over
  last : (m : ℕ) → at (suc m) ≤ m → Paid upper lower m
  last m low = by (upper.shows (suc m)).end refl
    where
      by : (end : Option S) → (upper.shows (suc m)).end ≡ end → Paid upper lower m
      by None e = absurd (omega (arith, low, (half (suc m)).least e))
      by (Some end) e =
          let there = (half (suc m)).within.same in
          let ended : (lower.shows (at (suc m))).end ≡ Some end = ap (λ (o : Outcome E S). o.end) there ∙ e in
          let same : lower.shows m ≡ upper.shows (suc m) = over_stays lower.shows below.grows (at (suc m)) m end low ended ∙ there in
          record { count = suc m; same = sym same; bounded = λ going. absurd (not_both _ end going (ap (λ (o : Outcome E S). o.end) same ∙ e)) }
        where
          not_both : (a : Option S) (end : S) → a ≡ None → a ≡ Some end → ⊥
          not_both a end e f = cc

  pub whole : Law upper lower
  whole = record {
    each_count = λ n. (half n).within;
    each_turn = λ m. ⊎_elim (λ (high : m < at (suc m)). find m (suc m) high) (λ (low : at (suc m) ≤ m). last m low) (cases_lt m (at (suc m)));
  }
