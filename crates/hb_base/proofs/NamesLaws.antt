-- The texts of a set of byte strings, and what a look-up and an insertion do to them. The byte string of a key is
-- its part.
use Rattle.std.proofs.Common.{◌≡◌, ℕ, suc, ◌+◌, ◌<◌, ◌≤◌, ◌^◌, ◌-◌, Bool, true, false, length, List, [], ◌∷◌, ◌++◌, map, slice_get, Some, ap, refl, sym, subst, ◌∙◌, arith, length-append, cond, take, get_or}
use Rattle.std.specs.List.{list_any, IsDistinct, AllByRecursion, find}
use Rattle.std.specs.Option.{option_map}
use Rattle.std.specs.Prelude.{if◌then◌else◌, ◌||◌, IfSome}
use Rattle.std.specs.Str.{bytes_eq}
use Rattle.std.proofs.lemmas.Option.{slice_get-map}
use Rattle.std.proofs.lemmas.List.{map-append, length-map}
use Rattle.std.proofs.Math.Seq.{take-suc}
use Rattle.std.proofs.lemmas.Slice.Eq.{bytes_eq-Decides}
use Rattle.hb_base.specs.Names.{with_text, with_texts, AreDistinct, IsTable}

-- a test of the parts is a test of the keys
list_any_map : {K : Type 0} (part : K → List ℕ) (test : List ℕ → Bool) (keys : List K) → list_any test (map part keys) ≡ list_any (λ key. test (part key)) keys
list_any_map part test [] = refl
list_any_map part test (key ∷ keys) = ap (λ b. test (part key) || b) (list_any_map part test keys)

found_passes : {K : Type 0} (test : K → Bool) (keys : List K) → IfSome (find test keys) (λ key. test key ≡ true)
found_passes test [] = tt
found_passes test (key ∷ keys) = by (test key) refl (found_passes test keys)
  where
    by : (b : Bool) → test key ≡ b → IfSome (find test keys) (λ k. test k ≡ true) → IfSome (cond b (Some key) (find test keys)) (λ k. test k ≡ true)
    by true e rest = e
    by false e rest = rest

-- a text that a key has is known
pub known_stays : {K : Type 0} (part : K → List ℕ) (keys : List K) (text : List ℕ) → list_any (λ key. bytes_eq text (part key)) keys ≡ true → map part keys ≡ with_text (map part keys) text
known_stays part keys text found = rw (list_any_map part (bytes_eq text) keys ∙ found) refl

pub known_stands :
    {K : Type 0} (part : K → List ℕ) (keys : List K) (text : List ℕ) (i : ℕ) (key : K)
    → slice_get keys i ≡ Some key
    → find (λ k. bytes_eq text (part k)) keys ≡ Some key
    → slice_get (map part keys) i ≡ Some text
known_stands part keys text i key stored found =
    let same = subst (λ o. IfSome o (λ k. bytes_eq text (part k) ≡ true)) found (found_passes (λ k. bytes_eq text (part k)) keys) in
    slice_get-map part keys i ∙ ap (option_map part) stored ∙ ap Some (sym ((bytes_eq-Decides text (part key)).0 same))

-- keys of distinct texts
distinct_apart : {K : Type 0} (part : K → List ℕ) (key : K) (keys : List K) → AllByRecursion (λ k. bytes_eq (part key) (part k) ≡ false) keys → AllByRecursion (λ t. bytes_eq (part key) t ≡ false) (map part keys)
distinct_apart part key [] apart = tt
distinct_apart part key (k ∷ keys) apart = (apart.0, distinct_apart part key keys apart.1)

pub distinct_texts : {K : Type 0} (part : K → List ℕ) (keys : List K) → IsDistinct (λ a b. bytes_eq (part a) (part b)) keys → AreDistinct (map part keys)
unfolding IsDistinct
distinct_texts part [] distinct = tt
distinct_texts part (key ∷ keys) distinct = (distinct_apart part key keys distinct.0, distinct_texts part keys distinct.1)

-- a text that no key has goes last
pub new_last :
    {K : Type 0} (part : K → List ℕ) (keys new : List K) (text : List ℕ) (key : K)
    → part key ≡ text
    → list_any (λ k. bytes_eq text (part k)) keys ≡ false
    → new ≡ (if list_any (λ k. bytes_eq (part key) (part k)) keys then keys else keys ++ key ∷ [])
    → new ≡ keys ++ key ∷ []
new_last part keys new text key e absent made = made ∙ rw (e, absent) refl

pub new_texts :
    {K : Type 0} (part : K → List ℕ) (keys new : List K) (text : List ℕ) (key : K)
    → part key ≡ text
    → list_any (λ k. bytes_eq text (part k)) keys ≡ false
    → new ≡ keys ++ key ∷ []
    → map part new ≡ with_text (map part keys) text
new_texts part keys new text key e absent made =
    ap (map part) made ∙ map-append part keys (key ∷ []) ∙ ap (λ t. map part keys ++ t ∷ []) e ∙ rw (list_any_map part (bytes_eq text) keys ∙ absent) refl

pub new_stands :
    {K : Type 0} (part : K → List ℕ) (new : List K) (text : List ℕ) (i : ℕ) (key stored : K)
    → part key ≡ text
    → slice_get new i ≡ Some stored
    → bytes_eq (part key) (part stored) ≡ true
    → slice_get (map part new) i ≡ Some text
new_stands part new text i key stored e at same =
    slice_get-map part new i ∙ ap (option_map part) at ∙ ap Some (sym ((bytes_eq-Decides (part key) (part stored)).0 same) ∙ e)

pub new_table :
    {K : Type 0} (part : K → List ℕ) (keys new : List K) (key : K)
    → length (map part keys) < 2 ^ 32 - 1
    → new ≡ keys ++ key ∷ []
    → IsDistinct (λ a b. bytes_eq (part a) (part b)) new
    → IsTable (map part new)
new_table part keys new key room made distinct =
    let old : length (map part keys) ≡ length keys = length-map keys part in
    let size : length (map part new) ≡ length keys + 1 = length-map new part ∙ ap length made ∙ length-append keys (key ∷ []) in
    record { few = omega (arith, old, size, room); distinct = distinct_texts part new distinct }

-- a table grows by at most one text at a time
pub with_text_size : (table : List (List ℕ)) (text : List ℕ) → length (with_text table text) ≤ length table + 1
with_text_size table text = by (list_any (bytes_eq text) table)
  where
    by : (b : Bool) → length (if b then table else table ++ text ∷ []) ≤ length table + 1
    by true = omega arith
    by false = omega (arith, length-append table (text ∷ []))

with_texts_last : (table texts : List (List ℕ)) (text : List ℕ) → with_texts table (texts ++ text ∷ []) ≡ with_text (with_texts table texts) text
unfolding with_texts
with_texts_last table [] text = refl
with_texts_last table (t ∷ texts) text = with_texts_last (with_text table t) texts text

pub one_text_more :
    {K : Type 0} (part : K → List ℕ) (table : List (List ℕ)) (keys : List K) (i : ℕ) (d : K)
    → i < length keys
    → with_texts table (map part (take (suc i) keys)) ≡ with_text (with_texts table (map part (take i keys))) (part (get_or keys i d))
one_text_more part table keys i d within =
    ap (λ ks. with_texts table (map part ks)) (take-suc keys i d within)
    ∙ ap (with_texts table) (map-append part (take i keys) (get_or keys i d ∷ []))
    ∙ with_texts_last table (map part (take i keys)) (part (get_or keys i d))

-- taking in one text more
pub one_more :
    {K : Type 0} (part : K → List ℕ) (table now new : List (List ℕ)) (keys : List K) (i : ℕ) (d : K)
    → i < length keys
    → (now ≡ with_texts table (map part (take i keys))) × (length now ≤ length table + i)
    → new ≡ with_text now (part (get_or keys i d))
    → (new ≡ with_texts table (map part (take (i + 1) keys))) × (length new ≤ length table + (i + 1))
one_more part table now new keys i d within before made =
    let after : i + 1 ≡ suc i = omega arith in (
      made ∙ ap (λ t. with_text t (part (get_or keys i d))) before.0 ∙ sym (one_text_more part table keys i d within) ∙ ap (λ k. with_texts table (map part (take k keys))) (sym after),
      omega (arith, before.1, with_text_size now (part (get_or keys i d)), ap length made),
    )
