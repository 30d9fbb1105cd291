-- What a run has shown so far, and how what it shows may grow from one count to the next.
use Rattle.std.specs.Prelude.{◌≡◌, ℕ, suc, List, [], ◌∷◌, ◌++◌, Option, Some, None}

-- the events so far, and the end, or none while the run is going
pub record Outcome (E S : Type 0) : Type 0 where
  pub trace : List E
  pub end : Option S

-- nothing shown yet
abbrev pub nothing_yet : {E S : Type 0} → Outcome E S
nothing_yet = record { trace = []; end = None }

-- one count more: nothing new, one event more, or the end; after an end there is nothing new
pub data GrowsTo {E S : Type 0} (o p : Outcome E S) : Type 0 where
  Stays : p ≡ o → GrowsTo o p
  Shows : (event : E) → o.end ≡ None → p ≡ record { trace = o.trace ++ event ∷ []; end = None } → GrowsTo o p
  Ends : (end : S) → o.end ≡ None → p ≡ record { trace = o.trace; end = Some end } → GrowsTo o p

-- a run by counts, from nothing on
pub record Grows {E S : Type 0} (run : ℕ → Outcome E S) : Type 0 where
  pub starts : run 0 ≡ nothing_yet
  pub grows : (n : ℕ) → GrowsTo (run n) (run (suc n))

-- each shows what the other shows
pub record SameRuns {E S : Type 0} (source target : ℕ → Outcome E S) : Type 0 where
  pub each_source_count : (n : ℕ) → (m : ℕ) × (target m ≡ source n)
  pub each_target_count : (m : ℕ) → (n : ℕ) × (target m ≡ source n)
