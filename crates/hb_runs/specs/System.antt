-- A system: its states, what one turn does, and what that turn weighs. What a system shows and weighs is defined here,
-- once for all forms of a program.
use Rattle.std.specs.Prelude.{◌≢◌, ℕ, zero, suc, ◌+◌, [], ◌∷◌, Option, Some, None, option_map}
use Rattle.hb_runs.specs.Outcome.{Outcome, nothing_yet}

-- one turn: it goes on in silence, or with an event, or the run ends, or there is no rule for it. `Wrong` is no end of
-- any meaning
pub data Turn (T E S : Type 0) : Type 0 where
  Quiet : T → Turn T E S
  Event : E → T → Turn T E S
  End : S → Turn T E S
  Wrong : Turn T E S

-- how a run is over: by an end of its meaning, or stuck where there is no rule
pub data Finished (S : Type 0) : Type 0 where
  By : S → Finished S
  Stuck : Finished S

pub record System (T E S : Type 0) : Type 0 where
  pub turn : T → Turn T E S
  pub weight : T → ℕ

-- ---- what it shows

-- an event, and then what is shown after it
abbrev pub shows_first : {E S : Type 0} → E → Outcome E S → Outcome E S
shows_first event outcome = record { trace = event ∷ outcome.trace; end = outcome.end }

abbrev pub over : {E S : Type 0} → S → Outcome E S
over end = record { trace = []; end = Some end }

-- a turn, and what comes after it; after an end there is nothing
unfoldable pub followed : {T E S : Type 0} → (T → Outcome E (Finished S)) → Turn T E S → Outcome E (Finished S)
followed later (Quiet t) = later t
followed later (Event event t) = shows_first event (later t)
followed later (End end) = over (By end)
followed later Wrong = over Stuck

-- what so many turns show
unfoldable pub told : {T E S : Type 0} → (T → Turn T E S) → ℕ → T → Outcome E (Finished S)
told turn zero t = nothing_yet
told turn (suc n) t = followed (told turn n) (turn t)

-- no number of turns comes to where there is no rule
abbrev pub IsSane : {T E S : Type 0} → (T → Turn T E S) → T → Type 0
IsSane turn t = (n : ℕ) → (told turn n t).end ≢ Some Stuck

-- an outcome of a form that has a rule for everything
abbrev pub by_end : {E S : Type 0} → Outcome E S → Outcome E (Finished S)
by_end outcome = record { trace = outcome.trace; end = option_map By outcome.end }

-- ---- what it weighs

-- what the turns after this one weigh; after an end there are none
unfoldable pub weighed_after : {T E S : Type 0} → (T → ℕ) → Turn T E S → ℕ
weighed_after later (Quiet t) = later t
weighed_after later (Event event t) = later t
weighed_after later (End end) = 0
weighed_after later Wrong = 0

-- what so many turns weigh
unfoldable pub weighed : {T E S : Type 0} → System T E S → ℕ → T → ℕ
weighed system zero t = 0
weighed system (suc n) t = system.weight t + weighed_after (weighed system n) (system.turn t)

-- ---- where it is

unfoldable pub reached_after : {T E S : Type 0} → (T → Option T) → Turn T E S → Option T
reached_after later (Quiet t) = later t
reached_after later (Event event t) = later t
reached_after later (End end) = None
reached_after later Wrong = None

-- the state after so many turns, or none where the run is over by then
unfoldable pub reached : {T E S : Type 0} → (T → Turn T E S) → ℕ → T → Option T
reached turn zero t = Some t
reached turn (suc n) t = reached_after (reached turn n) (turn t)

-- each turn weighs one
abbrev pub each_one : {T E S : Type 0} → (T → Turn T E S) → System T E S
each_one turn = record { turn = turn; weight = λ t. 1 }
