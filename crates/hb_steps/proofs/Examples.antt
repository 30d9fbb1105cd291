-- A small language of numbers that are read and written, as an example: what its runs show.
use Rattle.std.proofs.Common.{◌≡◌, ℕ, suc, ◌+◌, List, [], ◌∷◌, Option, Some, None, refl}
use Rattle.std.specs.Prelude.{slice_get}
use Rattle.hb_runs.specs.Outcome.{Outcome}
use Rattle.hb_runs.specs.System.{Finished, By, Stuck, followed, told}
use Rattle.hb_steps.specs.Tree.{Run, Over, Wrong, Due, Then, Shows, Stops, Answers, answered, stepped, does}

data Ask : Type 0 where
  Reads : Ask
  Writes : ℕ → Ask

data Seen : Type 0 where
  Got : ℕ → Seen
  Put : ℕ → Seen

data Ends : Type 0 where
  Done : Ends
  InputEnd : Ends

taken : List Seen → ℕ
taken [] = 0
taken (Got n ∷ seen) = suc (taken seen)
taken (Put n ∷ seen) = taken seen

got : Option ℕ → (ℕ → Run Ask ℕ Ends) → Then Ask ℕ Seen Ends
got None next = Stops InputEnd
got (Some n) next = Shows (Got n) (next n)

-- the next number of the script, by how many were read so far
by_script : List ℕ → Answers Ask ℕ Seen Ends
by_script script trace Reads next = got (slice_get script (taken trace)) next
by_script script trace (Writes n) next = Shows (Put n) (next n)

-- two numbers are read, and their sum is written
sum : Run Ask ℕ Ends
sum = Due Reads (λ x. Due Reads (λ y. Due (Writes (x + y)) (λ z. Over Done)))

abbrev shown : List Seen → Option (Finished Ends) → Outcome Seen (Finished Ends)
shown trace end = record { trace = trace; end = end }

a_step_shows_its_event : does (by_script (3 ∷ 4 ∷ [])) 2 sum ≡ shown (Got 3 ∷ Got 4 ∷ []) None
unfolding told followed stepped answered taken got by_script sum
a_step_shows_its_event = refl

the_end_is_a_step_of_its_own : does (by_script (3 ∷ 4 ∷ [])) 3 sum ≡ shown (Got 3 ∷ Got 4 ∷ Put 7 ∷ []) None
unfolding told followed stepped answered taken got by_script sum
the_end_is_a_step_of_its_own = refl

after_the_end_nothing_is_shown : does (by_script (3 ∷ 4 ∷ [])) 9 sum ≡ shown (Got 3 ∷ Got 4 ∷ Put 7 ∷ []) (Some (By Done))
unfolding told followed stepped answered taken got by_script sum
after_the_end_nothing_is_shown = refl

a_script_ends_a_run_early : does (by_script (3 ∷ [])) 9 sum ≡ shown (Got 3 ∷ []) (Some (By InputEnd))
unfolding told followed stepped answered taken got by_script sum
a_script_ends_a_run_early = refl

what_has_no_rule_is_stuck : does (by_script []) 1 Wrong ≡ shown [] (Some Stuck)
unfolding told followed stepped
what_has_no_rule_is_stuck = refl
