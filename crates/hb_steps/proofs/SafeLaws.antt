-- A run that is safe is never stuck.
use Rattle.std.proofs.Common.{◌≡◌, ◌≢◌, ℕ, zero, suc, List, [], ◌∷◌, ◌++◌, Some, None}
use Rattle.hb_runs.specs.System.{By, Stuck, IsSane, followed, told}
use Rattle.hb_steps.specs.Tree.{Run, Then, Goes, Shows, Stops, Answers, at, answered, stepped, step}
use Rattle.hb_steps.specs.Relations.{Safe, SafeOver, SafeDue, SafeThen, AnswersSafe}

not_stuck : {S : Type 0} (end : S) → Some (By end) ≡ Some Stuck → ⊥
not_stuck end e = cc

going : {R : Type 0} (r : R) → None ≡ Some r → ⊥
going r e = cc

module _ {A V T E S : Type 0} (Asks : T → A → Type 0) (Has : T → V → Type 0) (Fine : List E → Type 0) (f : Answers A V E S) (safe : AnswersSafe Asks Has Fine f) where
  abbrev Rest : ℕ → Type 0
  Rest n = (r : Run A V S) (trace : List E) → Fine trace → Safe Asks Has r → (told (step f) n (at r trace)).end ≢ Some Stuck

  safe_then : (n : ℕ) (trace : List E) (x : Then A V E S) → Fine trace → SafeThen Asks Has Fine trace x → Rest n → (followed (told (step f) n) (answered trace x)).end ≢ Some Stuck
  unfolding followed answered
  safe_then n trace (Goes r) fine is rest = rest r trace fine is
  safe_then n trace (Shows event r) fine is rest = rest r (trace ++ event ∷ []) is.0 is.1
  safe_then n trace (Stops end) fine is rest = not_stuck end

  safe_step : (n : ℕ) (trace : List E) (r : Run A V S) → Fine trace → Safe Asks Has r → Rest n → (followed (told (step f) n) (stepped f trace r)).end ≢ Some Stuck
  unfolding followed stepped
  safe_step n trace _ fine (SafeOver end) rest = not_stuck end
  safe_step n trace _ fine (SafeDue t a k asks next) rest = safe_then n trace (f trace a k) fine (safe trace t a k fine asks next) rest

  from_trace : (n : ℕ) → Rest n
  unfolding told
  from_trace zero r trace fine is = going Stuck
  from_trace (suc n) r trace fine is = safe_step n trace r fine is (from_trace n)

  pub never_stuck : (r : Run A V S) → Fine [] → Safe Asks Has r → IsSane (step f) (at r [])
  never_stuck r fine is n = from_trace n r [] fine is
