-- Laws of passes in a row, and what follows from a law.
use Rattle.std.proofs.Common.{◌≡◌, ◌≢◌, ℕ, List, Option, Some, None, refl, ap, sym, ◌∙◌, arith}
use Rattle.std.specs.Prelude.{option_map}
use Rattle.hb_runs.specs.Outcome.{Outcome, SameRuns}
use Rattle.hb_runs.specs.System.{Finished, By, Stuck, by_end}
use Rattle.hb_runs.specs.Law.{Course, Law}
use Rattle.hb_runs.specs.Inner.{publicly, with_cells, seen_by}

end_of : {E S : Type 0} (o p : Outcome E S) → o ≡ p → o.end ≡ p.end
end_of o p e = ap (λ (q : Outcome _ _). q.end) e

-- ---- in a row

pub composes : {E S : Type 0} (first second third : Course E S) → Law first second → Law second third → Law first third
composes first second third upper lower = record {
  each_count = λ n.
      let above = upper.each_count n in
      let below = lower.each_count above.turns in
      record { turns = below.turns; same = below.same ∙ above.same; bounded = omega (arith, above.bounded, below.bounded) };
  each_turn = λ m.
      let below = lower.each_turn m in
      let above = upper.each_turn below.count in
      record {
        count = above.count;
        same = above.same ∙ below.same;
        bounded = λ going.
            let still : (second.shows below.count).end ≡ None = end_of _ _ below.same ∙ going in
            omega (arith, below.bounded going, above.bounded still);
      };
}

pub same_runs : {E S : Type 0} (upper lower : Course E S) → Law upper lower → SameRuns upper.shows lower.shows
same_runs upper lower law = record {
  each_source_count = λ n. let w = law.each_count n in (w.turns, w.same);
  each_target_count = λ m. let p = law.each_turn m in (p.count, sym p.same);
}

-- ---- never stuck, above and so below

pub sane_below : {E S : Type 0} (upper lower : Course E (Finished S)) → Law upper lower → ((n : ℕ) → (upper.shows n).end ≢ Some Stuck) → (m : ℕ) → (lower.shows m).end ≢ Some Stuck
sane_below upper lower law sane m = λ stuck. let p = law.each_turn m in sane p.count (end_of _ _ p.same ∙ stuck)

-- ---- seen by a function that leaves a run that is going so

pub seen : {E S P R : Type 0} (view : Outcome E S → Outcome P R) → ((o : Outcome E S) → (view o).end ≡ None → o.end ≡ None) → (upper lower : Course E S) → Law upper lower → Law (seen_by view upper) (seen_by view lower)
seen view going upper lower law = record {
  each_count = λ n. let w = law.each_count n in record { turns = w.turns; same = ap view w.same; bounded = w.bounded };
  each_turn = λ m. let p = law.each_turn m in record { count = p.count; same = ap view p.same; bounded = λ e. p.bounded (going (lower.shows m) e) };
}

-- by its public events
pub seen_publicly : {E P S : Type 0} (public : E → Option P) (upper lower : Course E S) → Law upper lower → Law (seen_by (publicly public) upper) (seen_by (publicly public) lower)
seen_publicly public upper lower law = seen (publicly public) (λ o e. e) upper lower law

mapped_none : {S R : Type 0} (f : S → R) (o : Option S) → option_map f o ≡ None → o ≡ None
mapped_none f None e = refl
mapped_none f (Some s) e = absurd (no_none (f s) e)
  where
    no_none : {R : Type 0} (r : R) → Some r ≡ None → ⊥
    no_none r e = cc

-- and by what cells hold at each of them and at the end
pub seen_with_cells : {C E P S : Type 0} (change : C → E → C) (public : E → Option P) (cells : C) (upper lower : Course E S) → Law upper lower
    → Law (seen_by (with_cells change public cells) upper) (seen_by (with_cells change public cells) lower)
seen_with_cells change public cells upper lower law = seen (with_cells change public cells) (λ o e. mapped_none _ o.end e) upper lower law

-- ---- of forms that have a rule for everything

same_end : {S : Type 0} (a b : Option S) → option_map By a ≡ option_map By b → a ≡ b
same_end None None e = refl
same_end None (Some b) e = absurd (no_some (By b) e)
  where
    no_some : {R : Type 0} (r : R) → None ≡ Some r → ⊥
    no_some r e = cc
same_end (Some a) None e = absurd (no_none (By a) e)
  where
    no_none : {R : Type 0} (r : R) → Some r ≡ None → ⊥
    no_none r e = cc
same_end (Some a) (Some b) e = cc

parts : {E S : Type 0} (o p : Outcome E S) → o.trace ≡ p.trace → o.end ≡ p.end → o ≡ p
parts o p e f = make o.trace p.trace o.end p.end e f
  where
    make : {E S : Type 0} (t u : List E) (a b : Option S) → t ≡ u → a ≡ b → Path (Outcome E S) (record { trace = t; end = a }) (record { trace = u; end = b })
    make t u a b e f = cc

pub by_end-same : {E S : Type 0} (o p : Outcome E S) → by_end o ≡ by_end p → o ≡ p
by_end-same o p e = parts o p (ap (λ (q : Outcome _ (Finished _)). q.trace) e) (same_end o.end p.end (end_of _ _ e))

going_by_end : {S : Type 0} (a : Option S) → a ≡ None → option_map By a ≡ None
going_by_end a e = rw e refl

pub seen_plainly : {E S : Type 0} (upper lower : Course E S) → Law (seen_by by_end upper) (seen_by by_end lower) → Law upper lower
seen_plainly upper lower law = record {
  each_count = λ n. let w = law.each_count n in record { turns = w.turns; same = by_end-same _ _ w.same; bounded = w.bounded };
  each_turn = λ m. let p = law.each_turn m in record { count = p.count; same = by_end-same _ _ p.same; bounded = λ e. p.bounded (going_by_end _ e) };
}
