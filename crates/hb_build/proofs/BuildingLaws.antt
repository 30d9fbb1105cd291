-- What holds of building from nodes, whatever the steps are.
use Rattle.std.proofs.Common.{◌≡◌, refl, ap, sym, ◌∙◌, subst, List, [], ◌∷◌, ◌++◌, Option, Some, None}
use Rattle.std.proofs.lemmas.List.{append_assoc, append-nil}
use Rattle.hb_build.specs.Building.{after, built}

-- some nodes, and then others
pub built_append : {State Node : Type 0} (step : State → Node → Option State) (s : Option State) (xs ys : List Node) → built step s (xs ++ ys) ≡ built step (built step s xs) ys
built_append step s [] ys = refl
built_append step s (x ∷ xs) ys = built_append step (after step s x) xs ys

pub built_none : {State Node : Type 0} (step : State → Node → Option State) (nodes : List Node) → built step None nodes ≡ None
built_none step [] = refl
built_none step (n ∷ nodes) = built_none step nodes

-- a node that is not taken is the end
pub refused : {State Node : Type 0} (step : State → Node → Option State) (s : State) (n : Node) (nodes : List Node) → step s n ≡ None → built step (Some s) (n ∷ nodes) ≡ None
refused step s n nodes e = ap (λ next. built step next nodes) e ∙ built_none step nodes

-- a node behind those of its parts
pub then : {State Node : Type 0} (step : State → Node → Option State) (first second : State) (nodes : List Node) (n : Node) → built step (Some first) nodes ≡ Some second → built step (Some first) (nodes ++ n ∷ []) ≡ step second n
then step first second nodes n e = built_append step (Some first) nodes (n ∷ []) ∙ ap (λ s. built step s (n ∷ [])) e

-- the nodes of one part behind those of another
pub both : {State Node : Type 0} (step : State → Node → Option State) (first second third : State) (xs ys : List Node) → built step (Some first) xs ≡ Some second → built step (Some second) ys ≡ Some third → built step (Some first) (xs ++ ys) ≡ Some third
both step first second third xs ys e f = built_append step (Some first) xs ys ∙ ap (λ s. built step s ys) e ∙ f

-- what is built fits these nodes, if there is anything
abbrev pub Has : {State Node : Type 0} → (State → List Node → Type 0) → Option State → List Node → Type 0
Has Fits None nodes = Unit {0}
Has Fits (Some s) nodes = Fits s nodes

after_has : {State Node : Type 0} (step : State → Node → Option State) (Fits : State → List Node → Type 0) → ((s : State) (n : Node) (before : List Node) → Fits s before → Has Fits (step s n) (before ++ n ∷ [])) → (s : Option State) (n : Node) (before : List Node) → Has Fits s before → Has Fits (after step s n) (before ++ n ∷ [])
after_has step Fits keeps None n before h = tt
after_has step Fits keeps (Some s) n before h = keeps s n before h

-- where each step keeps to its nodes, the whole does
pub built_has : {State Node : Type 0} (step : State → Node → Option State) (Fits : State → List Node → Type 0) → ((s : State) (n : Node) (before : List Node) → Fits s before → Has Fits (step s n) (before ++ n ∷ [])) → (s : Option State) (before nodes : List Node) → Has Fits s before → Has Fits (built step s nodes) (before ++ nodes)
built_has step Fits keeps s before [] h = subst (Has Fits s) (sym (append-nil before)) h
built_has step Fits keeps s before (n ∷ nodes) h =
    subst (Has Fits (built step (after step s n) nodes)) (append_assoc before (n ∷ []) nodes)
    (built_has step Fits keeps (after step s n) (before ++ n ∷ []) nodes (after_has step Fits keeps s n before h))

-- a value is its own where both are there
pub same : {A : Type 0} (a b : A) → Some a ≡ Some b → a ≡ b
same a b e = cc
