-- Counted due marks and the layers that they stand for.
use Rattle.std.proofs.Common.{◌≡◌, ℕ, Bool, true, false, nat_lt, suc, zero, ◌+◌, ◌-◌, ◌≤◌, ◌<◌, List, [], ◌∷◌, ◌++◌, length, take, Option, Some, None, refl, sym, ap, ◌∙◌, arith}
use Rattle.std.specs.List.{slice_get}
use Rattle.std.proofs.lemmas.Bool.{lt-ltb}
use Rattle.hb_layout.specs.declared.entry.Entry.{Entry}
use Rattle.hb_layout.specs.declared.stack.Open.{Open}
use Rattle.hb_layout.specs.Stacks.{Stack, opened, due, innermost, under, unmarked, open_count, has_mark}
use Rattle.hb_layout.specs.Views.{marked, layers, layers_on}

-- an entry put last is the innermost
pub layers_on_more : (s : Stack) (os : List Open) (o : Open) → layers_on s (os ++ o ∷ []) ≡ opened o.entry ∷ marked o.under (layers_on s os)
layers_on_more s [] o = refl
layers_on_more s (p ∷ os) o = layers_on_more (opened p.entry ∷ marked p.under s) os o

pub marked_more : (n : ℕ) (s : Stack) → marked (n + 1) s ≡ due ∷ marked n s
unfolding marked
marked_more n s = let e : n + 1 ≡ suc n = omega arith in rw e refl

pub marked_none : (s : Stack) → marked 0 s ≡ s
unfolding marked
marked_none s = refl

pub innermost_marked : (n : ℕ) (s : Stack) → innermost (marked n s) ≡ innermost s
unfolding marked
innermost_marked zero s = refl
innermost_marked (suc n) s = innermost_marked n s

pub under_marked : (n : ℕ) (s : Stack) → under (marked n s) ≡ under s
unfolding marked
under_marked zero s = refl
under_marked (suc n) s = under_marked n s

pub unmarked_marked : (n : ℕ) (s : Stack) → unmarked (marked n s) ≡ unmarked s
unfolding marked
unmarked_marked zero s = refl
unmarked_marked (suc n) s = unmarked_marked n s

pub count_marked : (n : ℕ) (s : Stack) → open_count (marked n s) ≡ open_count s
unfolding marked
count_marked zero s = refl
count_marked (suc n) s = count_marked n s

pub length_marked : (n : ℕ) (s : Stack) → length (marked n s) ≡ n + length s
unfolding marked
length_marked zero s = omega arith
length_marked (suc n) s = let e : length (marked n s) ≡ n + length s = length_marked n s in omega arith

pub due_at_most : (os : List Open) (n : ℕ) → n ≤ length (layers os n)
due_at_most os n = omega (arith, length_marked n (layers_on [] os))

-- the entries alone have no due mark on top
bare_on : (s : Stack) (os : List Open) → unmarked s ≡ s → unmarked (layers_on s os) ≡ layers_on s os
bare_on s [] e = e
bare_on s (o ∷ os) e = bare_on (opened o.entry ∷ marked o.under s) os refl

pub unmarked_layers : (os : List Open) (n m : ℕ) → m ≡ 0 → layers os m ≡ unmarked (layers os n)
unmarked_layers os n m e = rw (e, marked_none, unmarked_marked) (sym (bare_on [] os refl))

pub innermost_none : (n : ℕ) → innermost (layers [] n) ≡ None
innermost_none n = innermost_marked n []

pub innermost_last : (os : List Open) (o : Open) (n : ℕ) → innermost (layers (os ++ o ∷ []) n) ≡ Some o.entry
innermost_last os o n = innermost_marked n (layers_on [] (os ++ o ∷ [])) ∙ ap innermost (layers_on_more [] os o)

pub under_last : (os : List Open) (o : Open) (n : ℕ) → under (layers (os ++ o ∷ []) n) ≡ layers os o.under
under_last os o n = under_marked n (layers_on [] (os ++ o ∷ [])) ∙ ap under (layers_on_more [] os o)

pub layers_last : (os : List Open) (o : Open) → layers (os ++ o ∷ []) 0 ≡ opened o.entry ∷ layers os o.under
layers_last os o = marked_none (layers_on [] (os ++ o ∷ [])) ∙ layers_on_more [] os o

count_on : (s : Stack) (os : List Open) → open_count (layers_on s os) ≡ open_count s + length os
count_on s [] = omega arith
count_on s (o ∷ os) =
    let e : open_count (layers_on (opened o.entry ∷ marked o.under s) os) ≡ suc (open_count (marked o.under s)) + length os = count_on (opened o.entry ∷ marked o.under s) os in
    let f : open_count (marked o.under s) ≡ open_count s = count_marked o.under s in
    omega arith

pub count_layers : (os : List Open) (n : ℕ) → open_count (layers os n) ≡ length os
count_layers os n = let e = count_on [] os in let f = count_marked n (layers_on [] os) in omega arith

pub under_nothing : (os os' : List Open) (n k : ℕ) → os ≡ os' ++ [] → os' ≡ take (k - 1) os → k ≡ 0 → layers os' 0 ≡ under (layers os n)
under_nothing os os' n k e t z =
    let f : os' ≡ [] = t ∙ rw z refl in
    let g : os ≡ [] = e ∙ ap (λ xs. xs ++ []) f in
    rw (f, g) (marked_none [] ∙ sym (under_marked n []))

abbrev pub entry_of : Option Open → Option Entry
entry_of None = None
entry_of (Some o) = Some o.entry

top_on : (s : Stack) (o : Open) (os : List Open) → entry_of (slice_get (o ∷ os) (length os)) ≡ innermost (layers_on s (o ∷ os))
top_on s o [] = refl
top_on s o (p ∷ os) = top_on (opened o.entry ∷ marked o.under s) p os

top_of : (os : List Open) → entry_of (slice_get os (length os - 1)) ≡ innermost (layers_on [] os)
top_of [] = refl
top_of (o ∷ os) = let e : suc (length os) - 1 ≡ length os = omega arith in rw e (top_on [] o os)

pub innermost_is : (os : List Open) (n : ℕ) (o : Option Open) → o ≡ slice_get os (length os - 1) → entry_of o ≡ innermost (layers os n)
innermost_is os n o e = ap entry_of e ∙ (top_of os ∙ sym (innermost_marked n (layers_on [] os)))

bare_mark : (s : Stack) (os : List Open) → has_mark s ≡ false → has_mark (layers_on s os) ≡ false
bare_mark s [] e = e
bare_mark s (o ∷ os) e = bare_mark (opened o.entry ∷ marked o.under s) os refl

pub has_mark_layers : (os : List Open) (n : ℕ) → nat_lt 0 n ≡ has_mark (layers os n)
unfolding marked
has_mark_layers os zero = sym (bare_mark [] os refl)
has_mark_layers os (suc n) = lt-ltb 0 (suc n) (omega arith)

pub take_mark_layers : (os : List Open) (n : ℕ) → has_mark (layers os n) ≡ true → layers os n ≡ due ∷ layers os (n - 1)
take_mark_layers os n h = by n h where
  by : (k : ℕ) → has_mark (layers os k) ≡ true → layers os k ≡ due ∷ layers os (k - 1)
  by zero g = let f : has_mark (layers_on [] os) ≡ false = bare_mark [] os refl in let e : has_mark (layers_on [] os) ≡ true = ap has_mark (sym (marked_none (layers_on [] os))) ∙ g in cc
  by (suc k) g = let e : suc k - 1 ≡ k = omega arith in let f : suc k ≡ k + 1 = omega arith in rw (e, f) (marked_more k (layers_on [] os))

pub mark_positive : (os : List Open) (n : ℕ) → has_mark (layers os n) ≡ true → 0 < n
mark_positive os zero h = let f : has_mark (layers_on [] os) ≡ false = bare_mark [] os refl in let e : has_mark (layers_on [] os) ≡ true = ap has_mark (sym (marked_none (layers_on [] os))) ∙ h in absurd (clash (has_mark (layers_on [] os)) f e) where
  clash : (b : Bool) → b ≡ false → b ≡ true → ⊥
  clash b x y = cc
mark_positive os (suc n) h = omega arith
