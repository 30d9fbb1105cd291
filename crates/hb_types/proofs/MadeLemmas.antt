-- A table of nodes grows at its end: each place keeps what it stands for, and its node says what that is.
use Rattle.std.proofs.Common.{◌≡◌, ℕ, zero, suc, ◌+◌, ◌<◌, ◌≤◌, List, [], ◌∷◌, ◌++◌, length, get_or, sym, refl, ◌∙◌, subst, arith, ⊎_elim, length-append}
use Rattle.std.proofs.lemmas.List.{get_or_append_left, get_or_push, get_or_past}
use Rattle.std.proofs.lemmas.Bool.{cases_eq, cases_lt}
use Rattle.hb_types.specs.Made.{made_from, AreLaidBy}

pub made-push : {F T : Type 0} (build : List T → F → T) (ts : List T) (ns : List F) (n : F) → made_from build ts (ns ++ n ∷ []) ≡ made_from build ts ns ++ build (made_from build ts ns) n ∷ []
made-push build ts [] n = refl
made-push build ts (m ∷ ns) n = made-push build (ts ++ build ts m ∷ []) ns n

pub length-made : {F T : Type 0} (build : List T → F → T) (ts : List T) (ns : List F) → length (made_from build ts ns) ≡ length ts + length ns
length-made build ts [] = omega arith
length-made build ts (m ∷ ns) = omega (arith, length-made build (ts ++ build ts m ∷ []) ns, length-append ts (build ts m ∷ []))

pub made-keeps : {F T : Type 0} (build : List T → F → T) (none : T) (ts : List T) (ns : List F) (k : ℕ) → k < length ts → get_or (made_from build ts ns) k none ≡ get_or ts k none
made-keeps build none ts [] k h = refl
made-keeps build none ts (m ∷ ns) k h =
    made-keeps build none (ts ++ build ts m ∷ []) ns k (omega (arith, h, length-append ts (build ts m ∷ []))) ∙ get_or_append_left ts (build ts m ∷ []) none k h

-- what a node stands for depends on its parts alone
abbrev pub DependsOnParts : {F T : Type 0} → (List T → F → T) → T → (ℕ → F → Type 0) → Type 0
DependsOnParts {F} {T} build none Below = (a b : List T) (place : ℕ) (n : F) → Below place n → ((k : ℕ) → k < place → get_or a k none ≡ get_or b k none) → build a n ≡ build b n

pub made-at : {F T : Type 0} (build : List T → F → T) (none : T) (Below : ℕ → F → Type 0) (blank : F) → DependsOnParts build none Below → (ts : List T) (ns : List F) (j k : ℕ) → j < length ns → k ≡ length ts + j →
    ((i : ℕ) → Below (length ts + i) (get_or ns i blank)) → get_or (made_from build ts ns) k none ≡ build (made_from build ts ns) (get_or ns j blank)
made-at build none Below blank same ts [] j k h e w = absurd (omega (arith, h))
made-at build none Below blank same ts (m ∷ ns) zero k h e w =
    let here : k ≡ length ts = omega (arith, e) in
    let parts : Below (length ts) m = subst (λ (p : ℕ). Below p m) (omega arith) (w 0) in
    made-keeps build none (ts ++ build ts m ∷ []) ns k (omega (arith, here, length-append ts (build ts m ∷ []))) ∙ get_or_push ts (build ts m) none k (sym here)
    ∙ same ts (made_from build ts (m ∷ ns)) (length ts) m parts (λ i l. sym (made-keeps build none ts (m ∷ ns) i l))
made-at build none Below blank same ts (m ∷ ns) (suc j) k h e w =
    let more : length (ts ++ build ts m ∷ []) ≡ length ts + 1 = length-append ts (build ts m ∷ []) in
    made-at build none Below blank same (ts ++ build ts m ∷ []) ns j k (omega (arith, h)) (omega (arith, e, more))
    (λ i. subst (λ (p : ℕ). Below p (get_or ns i blank)) (omega (arith, more)) (w (suc i)))

pub made-at-start : {F T : Type 0} (build : List T → F → T) (none : T) (Below : ℕ → F → Type 0) (blank : F) → DependsOnParts build none Below → (ns : List F) (k : ℕ) → AreLaidBy Below blank ns → k < length ns →
    get_or (made_from build [] ns) k none ≡ build (made_from build [] ns) (get_or ns k blank)
made-at-start build none Below blank same ns k w h = made-at build none Below blank same [] ns k k h (omega arith) (λ i. subst (λ (p : ℕ). Below p (get_or ns i blank)) (omega arith) (w.each i))

past-parts : {F : Type 0} (Below : ℕ → F → Type 0) (blank : F) → ((k : ℕ) → Below k blank) → (place : ℕ) (ns : List F) (k : ℕ) → length ns ≤ k → Below place (get_or ns k blank)
past-parts Below blank none place ns k h = subst (Below place) (sym (get_or_past ns k blank h)) (none place)

pub laid-more : {F : Type 0} (Below : ℕ → F → Type 0) (blank : F) → ((k : ℕ) → Below k blank) → (ns : List F) (n : F) → AreLaidBy Below blank ns → Below (length ns) n → AreLaidBy Below blank (ns ++ n ∷ [])
laid-more Below blank none ns n w h = record {
  each = λ k.
      ⊎_elim
      (λ lt. subst (Below k) (sym (get_or_append_left ns (n ∷ []) blank k lt)) (w.each k))
      (λ ge. ⊎_elim
      (λ e. subst (λ (j : ℕ). Below j (get_or (ns ++ n ∷ []) j blank)) (sym e) (subst (Below (length ns)) (sym (get_or_push ns n blank (length ns) refl)) h))
      (λ ne. past-parts Below blank none k (ns ++ n ∷ []) k (omega (arith, length-append ns (n ∷ []))))
      (cases_eq k (length ns)))
      (cases_lt k (length ns));
}

pub laid-empty : {F : Type 0} (Below : ℕ → F → Type 0) (blank : F) → ((k : ℕ) → Below k blank) → (ns : List F) → ns ≡ [] → AreLaidBy Below blank ns
laid-empty Below blank none ns e = record { each = λ k. past-parts Below blank none k ns k (rw e (omega arith)) }
