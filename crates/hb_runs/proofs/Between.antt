-- Of a run that grows, what is shown between two counts.
use Rattle.std.proofs.Common.{◌≡◌, ℕ, zero, suc, ◌+◌, ◌<◌, ◌≤◌, ◌⊎◌, inl, inr, ⊎_elim, [], ◌∷◌, length, Option, Some, None, ap, sym, ◌∙◌, subst, arith, length-append}
use Rattle.std.proofs.lemmas.Bool.{cases_lt}
use Rattle.hb_runs.specs.Outcome.{Outcome, GrowsTo, Stays, Shows, Ends}

abbrev end_size : {S : Type 0} → Option S → ℕ
end_size None = 0
end_size (Some stop) = 1

-- how much is shown: the events, and one for an end
abbrev size : {E S : Type 0} → Outcome E S → ℕ
size o = length o.trace + end_size o.end

same_or_more : {E S : Type 0} (o p : Outcome E S) → GrowsTo o p → (p ≡ o) ⊎ (size p ≡ suc (size o))
same_or_more o p (Stays same) = inl same
same_or_more o p (Shows event going e) = inr (rw (e, going) (omega (arith, length-append o.trace (event ∷ []))))
same_or_more o p (Ends stop going e) = inr (rw (e, going) (omega arith))

abbrev IsGrowing : {E S : Type 0} → (ℕ → Outcome E S) → Type 0
IsGrowing run = (n : ℕ) → GrowsTo (run n) (run (suc n))

no_less : {E S : Type 0} (o p : Outcome E S) → (p ≡ o) ⊎ (size p ≡ suc (size o)) → size o ≤ size p
no_less o p (inl e) = let f : size p ≡ size o = ap size e in omega arith
no_less o p (inr e) = omega arith

rises : {E S : Type 0} (run : ℕ → Outcome E S) → IsGrowing run → (n m : ℕ) → n ≤ m → size (run n) ≤ size (run m)
rises run grows n zero le = let e : n ≡ 0 = omega arith in rw e (omega arith)
rises run grows n (suc m) le =
    ⊎_elim
    (λ l. omega (arith, rises run grows n m (omega arith), no_less (run m) (run (suc m)) (same_or_more (run m) (run (suc m)) (grows m))))
    (λ (l : suc m ≤ n). let e : n ≡ suc m = omega arith in rw e (omega arith))
    (cases_lt n (suc m))

-- where no more is shown, the same is shown
still : {E S : Type 0} (run : ℕ → Outcome E S) → IsGrowing run → (n m : ℕ) → n ≤ m → size (run m) ≤ size (run n) → run m ≡ run n
still run grows n zero le same = let e : n ≡ 0 = omega arith in ap run (sym e)
still run grows n (suc m) le same =
    ⊎_elim
    (λ l. step (omega arith) (λ less. still run grows n m (omega arith) less) (same_or_more (run m) (run (suc m)) (grows m)))
    (λ l. let e : suc m ≡ n = omega arith in ap run e)
    (cases_lt n (suc m))
  where
    step : n ≤ m → (size (run m) ≤ size (run n) → run m ≡ run n) → (run (suc m) ≡ run m) ⊎ (size (run (suc m)) ≡ suc (size (run m))) → run (suc m) ≡ run n
    step l before (inl e) = e ∙ before (subst (λ o. size o ≤ size (run n)) e same)
    step l before (inr e) = absurd (omega (arith, e, same, rises run grows n m l))

-- between two counts that show no more than one thing more, one of the two is shown
pub between : {E S : Type 0} (run : ℕ → Outcome E S) → IsGrowing run → (o p : Outcome E S) → GrowsTo o p → (low m high : ℕ) → low ≤ m → m ≤ high → run low ≡ o → run high ≡ p → (run m ≡ o) ⊎ (run m ≡ p)
between run grows o p grow low m high below above first last = by (same_or_more o p grow) (cases_lt (size o) (size (run m)))
  where
    same_first : size (run low) ≡ size o
    same_first = ap size first

    same_last : size (run high) ≡ size p
    same_last = ap size last

    by : (p ≡ o) ⊎ (size p ≡ suc (size o)) → (size o < size (run m)) ⊎ (size (run m) ≤ size o) → (run m ≡ o) ⊎ (run m ≡ p)
    by more (inr l) = inl (still run grows low m below (omega (arith, same_first)) ∙ first)
    by (inl e) (inl l) = let f : size p ≡ size o = ap size e in absurd (omega (arith, same_last, f, rises run grows m high above))
    by (inr e) (inl l) = inr (sym (still run grows m high above (omega (arith, same_last, e))) ∙ last)
