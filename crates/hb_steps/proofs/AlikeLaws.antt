-- Runs that are alike show the same at each count.
use Rattle.std.proofs.Common.{◌≡◌, ℕ, zero, suc, List, [], ◌∷◌, ◌++◌, refl, ap, sym, ◌∙◌}
use Rattle.hb_runs.specs.Outcome.{Grows}
use Rattle.hb_runs.specs.System.{By, over, shows_first, followed, told}
use Rattle.hb_runs.proofs.SystemLaws.{told-grows}
use Rattle.hb_steps.specs.Tree.{Run, Then, Goes, Shows, Stops, Answers, at, answered, stepped, step, does}
use Rattle.hb_steps.specs.Relations.{Alike, BothOver, BothWrong, BothDue, AlikeThen, AnswersAlike}

module _ {A V B W E S : Type 0} (Asks : A → B → Type 0) (Same : V → W → Type 0) (f : Answers A V E S) (g : Answers B W E S) (alike : AnswersAlike Asks Same f g) where
  abbrev Rest : ℕ → Type 0
  Rest n = (r : Run A V S) (q : Run B W S) (trace : List E) → Alike Asks Same r q → told (step g) n (at q trace) ≡ told (step f) n (at r trace)

  same_then : (n : ℕ) (trace : List E) (x : Then A V E S) (y : Then B W E S) → AlikeThen Asks Same x y → Rest n → followed (told (step g) n) (answered trace y) ≡ followed (told (step f) n) (answered trace x)
  unfolding followed answered
  same_then n trace (Goes r) (Goes q) is rest = rest r q trace is
  same_then n trace (Shows event r) (Shows other q) is rest =
      ap (λ e. shows_first e (told (step g) n (at q (trace ++ e ∷ [])))) (sym is.0) ∙ ap (shows_first event) (rest r q (trace ++ event ∷ []) is.1)
  same_then n trace (Stops end) (Stops other) is rest = ap (λ s. over (By s)) (sym is)
  same_then n trace (Goes r) (Shows other q) is rest = absurd is
  same_then n trace (Goes r) (Stops other) is rest = absurd is
  same_then n trace (Shows event r) (Goes q) is rest = absurd is
  same_then n trace (Shows event r) (Stops other) is rest = absurd is
  same_then n trace (Stops end) (Goes q) is rest = absurd is
  same_then n trace (Stops end) (Shows other q) is rest = absurd is

  same_step : (n : ℕ) (trace : List E) (r : Run A V S) (q : Run B W S) → Alike Asks Same r q → Rest n → followed (told (step g) n) (stepped g trace q) ≡ followed (told (step f) n) (stepped f trace r)
  unfolding followed stepped
  same_step n trace _ _ (BothOver end) rest = refl
  same_step n trace _ _ BothWrong rest = refl
  same_step n trace _ _ (BothDue a b k l asks next) rest = same_then n trace (f trace a k) (g trace b l) (alike trace a b k l asks next) rest

  from_trace : (n : ℕ) → Rest n
  unfolding told
  from_trace zero r q trace is = refl
  from_trace (suc n) r q trace is = same_step n trace r q is (from_trace n)

  pub alike_shows : (n : ℕ) (r : Run A V S) (q : Run B W S) → Alike Asks Same r q → does g n q ≡ does f n r
  alike_shows n r q is = from_trace n r q [] is

-- what is shown grows by at most one event or the end a step
pub grows : {A V E S : Type 0} (answer : Answers A V E S) (run : Run A V S) → Grows (λ n. does answer n run)
grows answer run = told-grows (step answer) (at run [])
