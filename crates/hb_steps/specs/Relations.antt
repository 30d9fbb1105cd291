-- When two runs are alike step by step, and when a run meets no missing rule. Both are relations on trees, and speak of
-- no count.
use Rattle.std.specs.Prelude.{◌≡◌, List, [], ◌∷◌, ◌++◌}
use Rattle.hb_steps.specs.Tree.{Run, Over, Wrong, Due, Then, Goes, Shows, Stops, Answers}

-- ---- alike

-- both are over by the same end, or both lack a rule, or steps are due that ask alike; and for all values that are the
-- same, what follows is alike
pub data Alike {A V B W S : Type 0} (Asks : A → B → Type 0) (Same : V → W → Type 0) : Run A V S → Run B W S → Type 0 where
  BothOver : (end : S) → Alike Asks Same (Over end) (Over end)
  BothWrong : Alike Asks Same Wrong Wrong
  BothDue : (a : A) (b : B) (k : V → Run A V S) (l : W → Run B W S) → Asks a b → ((v : V) (w : W) → Same v w → Alike Asks Same (k v) (l w)) → Alike Asks Same (Due a k) (Due b l)

abbrev pub AlikeThen : {A V B W E S : Type 0} → (A → B → Type 0) → (V → W → Type 0) → Then A V E S → Then B W E S → Type 0
AlikeThen Asks Same (Goes r) (Goes q) = Alike Asks Same r q
AlikeThen Asks Same (Shows event r) (Shows other q) = (event ≡ other) × Alike Asks Same r q
AlikeThen Asks Same (Stops end) (Stops other) = end ≡ other
AlikeThen Asks Same _ _ = ⊥

-- steps that ask alike are answered alike, after the same trace
abbrev pub AnswersAlike : {A V B W E S : Type 0} → (A → B → Type 0) → (V → W → Type 0) → Answers A V E S → Answers B W E S → Type 0
AnswersAlike {A} {V} {B} {W} {E} {S} Asks Same f g =
    (trace : List E) (a : A) (b : B) (k : V → Run A V S) (l : W → Run B W S)
    → Asks a b
    → ((v : V) (w : W) → Same v w → Alike Asks Same (k v) (l w))
    → AlikeThen Asks Same (f trace a k) (g trace b l)

-- ---- safe

-- there is a rule; and where a step is due that asks for a value of some type, what follows is safe for all values that
-- have that type
pub data Safe {A V T S : Type 0} (Asks : T → A → Type 0) (Has : T → V → Type 0) : Run A V S → Type 0 where
  SafeOver : (end : S) → Safe Asks Has (Over end)
  SafeDue : (t : T) (a : A) (k : V → Run A V S) → Asks t a → ((v : V) → Has t v → Safe Asks Has (k v)) → Safe Asks Has (Due a k)

-- what it leads to is safe, and the trace stays one that is allowed
abbrev pub SafeThen : {A V T E S : Type 0} → (T → A → Type 0) → (T → V → Type 0) → (List E → Type 0) → List E → Then A V E S → Type 0
SafeThen Asks Has Fine trace (Goes r) = Safe Asks Has r
SafeThen Asks Has Fine trace (Shows event r) = Fine (trace ++ event ∷ []) × Safe Asks Has r
SafeThen Asks Has Fine trace (Stops end) = Unit {0}

abbrev pub AnswersSafe : {A V T E S : Type 0} → (T → A → Type 0) → (T → V → Type 0) → (List E → Type 0) → Answers A V E S → Type 0
AnswersSafe {A} {V} {T} {E} {S} Asks Has Fine f =
    (trace : List E) (t : T) (a : A) (k : V → Run A V S)
    → Fine trace
    → Asks t a
    → ((v : V) → Has t v → Safe Asks Has (k v))
    → SafeThen Asks Has Fine trace (f trace a k)
