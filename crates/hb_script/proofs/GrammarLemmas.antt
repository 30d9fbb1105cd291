-- A line is read as the grammar says, in both directions.
use Rattle.std.proofs.Common.{◌≡◌, ℕ, zero, suc, ◌<◌, ◌≤◌, Bool, true, false, ltb, eqb, List, [], ◌∷◌, ◌++◌, length, take, drop, get_or, All, Option, Some, None, refl, sym, ap, subst, ◌∙◌, arith, inl, inr}
use Rattle.std.specs.Prelude.{position, filter}
use Rattle.std.specs.List.{slice_split, position_or_len}
use Rattle.std.proofs.lemmas.Bool.{not-false, eqb-true, eq-eqb, or_cases, or_left, or_right}
use Rattle.std.proofs.lemmas.List.{append-nil, take-append-drop, drop_more, get_or-take, length-take}
use Rattle.std.proofs.lemmas.List.Elements.{All-head, All-tail}
use Rattle.std.proofs.lemmas.List.Sums.{passes_at_first, fails_before_first}
use Rattle.std.proofs.lemmas.List.Splits.{slice_split_at, slice_split_none}
use Rattle.hb_script.specs.Scripts.{is_blank, is_no_blank, words}
use Rattle.hb_script.specs.Grammar.{IsBlank}
use Rattle.hb_script.proofs.WordLemmas.{found_at, not_found, BeginsWord, no_word, word_begins, one_word, word_ends, begins_apart, blank_skipped, kept}

-- ---- blanks

pub blank_from : (c : ℕ) → is_blank c ≡ true → IsBlank c
blank_from c e = elim (or_cases (eqb c 32) (eqb c 9) e) [ inl space ↦ inl (eqb-true c 32 space) | inr tab ↦ inr (eqb-true c 9 tab) ]

pub blank_to : (c : ℕ) → IsBlank c → is_blank c ≡ true
blank_to c (inl space) = or_left (eqb c 32) (eqb c 9) (eq-eqb c 32 space)
blank_to c (inr tab) = or_right (eqb c 32) (eqb c 9) (eq-eqb c 9 tab)

front_blank : (line : List ℕ) (n : ℕ) → n ≤ position_or_len is_no_blank line → All IsBlank (take n line)
front_blank line n le k d lt =
    let before : k < n = omega (arith, length-take n line) in
    let fails = fails_before_first is_no_blank line k d (omega arith) in
    rw (get_or-take n line k d before) (blank_from (get_or line k d) (not-false (is_blank (get_or line k d)) fails))

all_blank : (line : List ℕ) → length line ≤ position_or_len is_no_blank line → All IsBlank line
all_blank line far k d lt = blank_from (get_or line k d) (not-false (is_blank (get_or line k d)) (fails_before_first is_no_blank line k d (omega arith)))

-- ---- the first word of a line

-- nothing, or a blank first
abbrev pub IsAway : List ℕ → Type 0
IsAway [] = Unit {0}
IsAway (c ∷ cs) = IsBlank c

pub record WordFirst (line word rest : List ℕ) : Type 0 where
  pub left : List ℕ
  pub parts : line ≡ left ++ (word ++ rest)
  pub left_blank : All IsBlank left
  pub begins : BeginsWord word
  pub away : IsAway rest
  pub words_are : words line ≡ word ∷ words rest

-- no word, or a first word
pub data Cases (line : List ℕ) : Type 0 where
  NoWord : words line ≡ [] → All IsBlank line → Cases line
  AWord : (word rest : List ℕ) → WordFirst line word rest → Cases line

front_begins : (line : List ℕ) (k : ℕ) → 0 < k → BeginsWord line → BeginsWord (take k line)
front_begins line zero more begins = absurd (omega arith)
front_begins line (suc k) more begins = record { first = begins.first; others = take k begins.others; is = rw begins.is refl; plain = begins.plain }

ended : (line : List ℕ) (n : ℕ) → position is_no_blank line ≡ Some n → (o : Option ℕ) → position is_blank (drop n line) ≡ o → Cases line
ended line n e None f =
    let h = found_at is_no_blank line n e in
    let b = word_begins line n e in
    let parts : line ≡ take n line ++ (drop n line ++ []) = sym (take-append-drop n line) ∙ ap (λ (xs : List ℕ). take n line ++ xs) (sym (append-nil (drop n line))) in
    AWord (drop n line) [] (record { left = take n line; parts = parts; left_blank = front_blank line n (omega (arith, h.1)); begins = b.1; away = tt; words_are = b.0 ∙ one_word (drop n line) b.1 f })
ended line n e (Some k) f =
    let h = found_at is_no_blank line n e in
    let b = word_begins line n e in
    let word = drop n line in
    let g = found_at is_blank word k f in
    let blank : IsBlank (get_or word k 0) = blank_from (get_or word k 0) (rw g.1 at (passes_at_first is_blank word 0 (omega (arith, g.0, g.1)))) in
    let away : IsAway (drop k word) = subst IsAway (sym (drop_more word k 0 g.0)) blank in
    let parts : line ≡ take n line ++ (take k word ++ drop k word) = sym (take-append-drop n line) ∙ ap (λ (xs : List ℕ). take n line ++ xs) (sym (take-append-drop k word)) in
    let apart = begins_apart word b.1 in
    AWord (take k word) (drop k word) (record { left = take n line; parts = parts; left_blank = front_blank line n (omega (arith, h.1)); begins = front_begins word k (omega (arith, apart, g.1)) b.1; away = away; words_are = b.0 ∙ word_ends word k b.1 f })

begun : (line : List ℕ) → (o : Option ℕ) → position is_no_blank line ≡ o → Cases line
begun line None e = NoWord (no_word line e) (all_blank line (not_found is_no_blank line e))
begun line (Some n) e = ended line n e (position is_blank (drop n line)) refl

pub cases : (line : List ℕ) → Cases line
cases line = begun line (position is_no_blank line) refl

-- ---- words that are put together

pub words_behind : (left xs : List ℕ) → All IsBlank left → words (left ++ xs) ≡ words xs
words_behind [] xs blank = refl
words_behind (c ∷ cs) xs blank = blank_skipped c (cs ++ xs) (blank_to c (All-head IsBlank c cs blank)) ∙ words_behind cs xs (All-tail IsBlank c cs blank)

-- no blank
abbrev pub IsPlain : List ℕ → Type 0
IsPlain word = All (λ c. is_blank c ≡ false) word

abbrev is_word : List ℕ → Bool
is_word word = ltb 0 (length word)

pub words_first : (word rest : List ℕ) → 0 < length word → IsPlain word → IsAway rest → words (word ++ rest) ≡ word ∷ words rest
words_first word [] long plain away =
    ap words (append-nil word) ∙ ap (filter is_word) (slice_split_none is_blank word plain) ∙ kept word [] long
words_first word (c ∷ cs) long plain away =
    let blank = blank_to c away in
    ap (filter is_word) (slice_split_at is_blank word c cs plain blank) ∙ kept word (slice_split is_blank cs) long ∙ ap (λ (ws : List (List ℕ)). word ∷ ws) (sym (blank_skipped c cs blank))
