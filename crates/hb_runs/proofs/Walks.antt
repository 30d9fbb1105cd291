-- Walks of a system: single turns, and one walk after another.
use Rattle.std.proofs.Common.{◌≡◌, ℕ, zero, suc, ◌+◌, ◌-◌, ◌<◌, ◌≤◌, List, [], ◌∷◌, ◌++◌, Some, refl, ap, sym, ◌∙◌, subst, arith, ⊎_elim}
use Rattle.std.proofs.lemmas.Bool.{cases_lt}
use Rattle.hb_runs.specs.Outcome.{Outcome}
use Rattle.hb_runs.specs.System.{Turn, Quiet, Event, Finished, followed, told, reached, reached_after}
use Rattle.hb_runs.specs.Simulation.{Walk}
use Rattle.hb_runs.proofs.SystemLaws.{reached-add, told-add, is_reached, shows_before}

module _ {U E S : Type 0} (turn : U → Turn U E S) (Good : U → Type 0) where
  pub stays : (u : U) → Walk turn Good 0 [] u u
  unfolding reached told
  stays u = record { arrives = refl; shows = refl; fine = λ k v less e. absurd (omega (arith, less)) }

  -- one turn, in silence or with an event
  pub goes : (u v : U) → turn u ≡ Quiet v → Good u → Walk turn Good 1 [] u v
  unfolding reached reached_after told followed
  goes u v e good = record {
    arrives = ap (λ (moved : Turn U E S). reached_after (reached turn 0) moved) e;
    shows = ap (λ (moved : Turn U E S). (followed (told turn 0) moved).trace) e;
    fine = λ k w less r. first k w less r;
  }
    where
      first : (k : ℕ) (w : U) → k < 1 → reached turn k u ≡ Some w → Good w
      first zero w less r = subst Good (is_reached u w r) good
      first (suc k) w less r = absurd (omega (arith, less))

  pub shows : (u v : U) (event : E) → turn u ≡ Event event v → Good u → Walk turn Good 1 (event ∷ []) u v
  unfolding reached reached_after told followed
  shows u v event e good = record {
    arrives = ap (λ (moved : Turn U E S). reached_after (reached turn 0) moved) e;
    shows = ap (λ (moved : Turn U E S). (followed (told turn 0) moved).trace) e;
    fine = λ k w less r. first k w less r;
  }
    where
      first : (k : ℕ) (w : U) → k < 1 → reached turn k u ≡ Some w → Good w
      first zero w less r = subst Good (is_reached u w r) good
      first (suc k) w less r = absurd (omega (arith, less))

  -- one walk after another
  pub together : (u v w : U) (m n : ℕ) (before later : List E) → Walk turn Good m before u v → Walk turn Good n later v w → Walk turn Good (m + n) (before ++ later) u w
  together u v w m n before later g h = record {
    arrives = reached-add turn m n u v g.arrives ∙ h.arrives;
    shows =
        ap (λ (o : Outcome E (Finished S)). o.trace) (told-add turn m n u v g.arrives)
        ∙ ap (λ (es : List E). es ++ (told turn n v).trace) g.shows ∙ ap (λ (es : List E). before ++ es) h.shows;
    fine = λ k x less e.
        ⊎_elim
        (λ (low : k < m). g.fine k x low e)
        (λ (high : m ≤ k).
        let same : m + (k - m) ≡ k = omega (arith, high) in
        h.fine (k - m) x (omega (arith, less, high)) (sym (reached-add turn m (k - m) u v g.arrives) ∙ ap (λ i. reached turn i u) same ∙ e))
        (cases_lt k m);
  }

  -- after a walk, what is shown is what is shown after its events
  pub after_walk : (u v : U) (m n : ℕ) (seen : List E) → Walk turn Good m seen u v → told turn (m + n) u ≡ shows_before seen (told turn n v)
  after_walk u v m n seen g = told-add turn m n u v g.arrives ∙ ap (λ (es : List E). shows_before es (told turn n v)) g.shows

-- a property may be weakened
pub weakened : {U E S : Type 0} (turn : U → Turn U E S) (Good Fair : U → Type 0) (n : ℕ) (seen : List E) (u v : U) → ((w : U) → Good w → Fair w) → Walk turn Good n seen u v → Walk turn Fair n seen u v
weakened turn Good Fair n seen u v fair g = record { arrives = g.arrives; shows = g.shows; fine = λ k w less e. fair w (g.fine k w less e) }
