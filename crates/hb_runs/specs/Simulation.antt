-- What it is that one system does what another one does: each turn of the upper system is done by turns of the lower
-- one, at least one of them, and they weigh no more. Each of them has a property, which may speak of the upper state.
use Rattle.std.specs.Prelude.{◌≡◌, ℕ, suc, ◌<◌, ◌≤◌, List, [], ◌∷◌, Some}
use Rattle.hb_runs.specs.System.{Turn, Quiet, Event, End, Wrong, System, told, weighed, reached}

-- so many turns lead there and show these events, and each of them is done in a state with the property
pub record Walk {U E S : Type 0} (turn : U → Turn U E S) (Good : U → Type 0) (turns : ℕ) (seen : List E) (from to : U) : Type 0 where
  pub arrives : reached turn turns from ≡ Some to
  pub shows : (told turn turns from).trace ≡ seen
  pub fine : (k : ℕ) (u : U) → k < turns → reached turn k from ≡ Some u → Good u

-- a turn that goes on is done by a walk to a state where this holds
pub record Moves {U E S : Type 0} (lower : System U E S) (Good Holds : U → Type 0) (most : ℕ) (seen : List E) (from : U) : Type 0 where
  pub turns : ℕ
  pub to : U
  pub least : 1 ≤ turns
  pub walk : Walk lower.turn Good turns seen from to
  pub bounded : weighed lower turns from ≤ most
  pub holds : Holds to

-- a turn that ends the run is done by a walk and a last turn, which ends it
pub record Stops {U E S : Type 0} (lower : System U E S) (Good : U → Type 0) (most : ℕ) (end : S) (from : U) : Type 0 where
  pub turns : ℕ
  pub last : U
  pub walk : Walk lower.turn Good turns [] from last
  pub good : Good last
  pub ends : lower.turn last ≡ End end
  pub bounded : weighed lower (suc turns) from ≤ most

-- where the upper system has no rule, nothing is asked
abbrev pub Matches : {T U E S : Type 0} → System U E S → (U → Type 0) → (T → U → Type 0) → ℕ → U → Turn T E S → Type 0
Matches lower Good Related most u (Quiet t) = Moves lower Good (Related t) most [] u
Matches lower Good Related most u (Event event t) = Moves lower Good (Related t) most (event ∷ []) u
Matches lower Good Related most u (End end) = Stops lower Good most end u
Matches lower Good Related most u Wrong = Unit {0}

abbrev pub Simulates : {T U E S : Type 0} → System T E S → System U E S → (T → U → Type 0) → (T → U → Type 0) → Type 0
Simulates {T} {U} upper lower Good Related = (t : T) (u : U) → Related t u → Matches lower (Good t) Related (upper.weight t) u (upper.turn t)

-- the property holds of a lower state and one that the upper system comes to
pub record Under {T U E S : Type 0} (upper : System T E S) (Good : T → U → Type 0) (t : T) (v : U) : Type 0 where
  pub count : ℕ
  pub state : T
  pub there : reached upper.turn count t ≡ Some state
  pub good : Good state v

-- it holds so of each state that the lower system comes to
abbrev pub Always : {T U E S : Type 0} → System T E S → System U E S → (T → U → Type 0) → T → U → Type 0
Always {T} {U} upper lower Good t u = (turns : ℕ) (v : U) → reached lower.turn turns u ≡ Some v → Under upper Good t v
