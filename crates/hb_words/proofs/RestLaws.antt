-- What words say, one word after another.
use Rattle.std.proofs.Common.{◌≡◌, ℕ, List, [], ◌∷◌, ◌++◌, Option, Some, None, refl, sym, ap, ◌∙◌, append_assoc}
use Rattle.hb_words.specs.declared.words.Kind.TheVariants.{Name, StepsWord}
use Rattle.hb_words.specs.declared.words.Rest.{Rest}
use Rattle.hb_words.specs.Words.{kind_of, number_of, nothing_said, joined, with_name, with_steps, said, numbered, rest_of}

abbrev rest : Option ℕ → List (List ℕ) → Rest
rest steps names = record { steps = steps; names = names }

-- ---- nothing said before

pub joined_first : (o : Option Rest) → joined nothing_said o ≡ o
joined_first None = refl
joined_first (Some r) = refl

-- ---- a name more

pub joined_name : (s : Option ℕ) (ns ws : List (List ℕ)) (o : Option Rest) → joined (record { steps = s; names = ns }) (joined (record { steps = None; names = ws }) o) ≡ joined (record { steps = s; names = ns ++ ws }) o
joined_name s ns ws None = refl
joined_name s ns ws (Some r) = by_steps s r.steps r.names
  where
    by_steps : (s t : Option ℕ) (more : List (List ℕ)) → joined (record { steps = s; names = ns }) (Some (record { steps = t; names = ws ++ more })) ≡ joined (record { steps = s; names = ns ++ ws }) (Some (record { steps = t; names = more }))
    by_steps None t more = ap (λ (names : List (List ℕ)). Some (record { steps = t; names = names })) (sym (append_assoc ns ws more))
    by_steps (Some n) None more = ap (λ (names : List (List ℕ)). Some (record { steps = Some n; names = names })) (sym (append_assoc ns ws more))
    by_steps (Some n) (Some m) more = refl

-- ---- the first of some words

pub rest_name : (w : List ℕ) (ws : List (List ℕ)) → kind_of w ≡ Name → rest_of (w ∷ ws) ≡ with_name w (rest_of ws)
rest_name w [] e = ap (λ k. said k w [] (Some nothing_said) None) e
rest_name w (x ∷ ws) e = ap (λ k. said k w (x ∷ ws) (rest_of (x ∷ ws)) (with_steps (number_of x) (rest_of ws))) e

pub rest_numbered : (w : List ℕ) (ws : List (List ℕ)) → kind_of w ≡ StepsWord → rest_of (w ∷ ws) ≡ numbered ws
rest_numbered w [] e = ap (λ k. said k w [] (Some nothing_said) None) e
rest_numbered w (x ∷ ws) e = ap (λ k. said k w (x ∷ ws) (rest_of (x ∷ ws)) (with_steps (number_of x) (rest_of ws))) e

-- ---- a word taken off the front

pub read_name : (old new : Rest) (w : List ℕ) (ws : List (List ℕ)) → kind_of w ≡ Name → new.names ≡ old.names ++ w ∷ [] → new.steps ≡ old.steps → joined new (rest_of ws) ≡ joined old (rest_of (w ∷ ws))
read_name old new w ws e names steps =
    ap (λ (ns : List (List ℕ)). joined (rest new.steps ns) (rest_of ws)) names
    ∙ ap (λ (s : Option ℕ). joined (rest s (old.names ++ w ∷ [])) (rest_of ws)) steps
    ∙ sym (joined_name old.steps old.names (w ∷ []) (rest_of ws))
    ∙ sym (ap (λ (o : Option Rest). joined old o) (rest_name w ws e))
