-- A text is its first line and the lines after it, and a line its first word and the words after it.
use Rattle.std.proofs.Common.{◌≡◌, ℕ, suc, ◌+◌, ◌<◌, ◌≤◌, Bool, true, false, cond, eqb, ltb, List, [], ◌∷◌, length, take, drop, get_or, Option, Some, None, not, refl, sym, ap, ◌∙◌, arith}
use Rattle.std.specs.Prelude.{position, filter}
use Rattle.std.specs.List.{All, onto_first, slice_split, position_or_len}
use Rattle.std.specs.Str.Lines.{lines, lines_of_parts, strip_carriage_return}
use Rattle.std.proofs.lemmas.Bool.{ltb-true, ltb-false, lt-ltb, ne_eqb, cond-true, cond-false}
use Rattle.std.proofs.lemmas.List.{drop_all, drop_more, length-take}
use Rattle.std.proofs.lemmas.List.Sums.{passes_at_first, fails_before_first}
use Rattle.std.proofs.lemmas.List.Splits.{slice_split_first, slice_split_none, slice_split-cons_yes}
use Rattle.hb_script.specs.Scripts.{is_blank, is_no_blank, is_feed, words}

-- ---- what `position` answers

chosen : (b : Bool) (k n : ℕ) → cond b (Some k) None ≡ Some n → (b ≡ true) × (k ≡ n)
chosen true k n e = (refl, cc)
chosen false k n e = absurd cc

abbrev pub none : Option ℕ
none = None

missed : (b : Bool) (k : ℕ) → cond b (Some k) None ≡ none → b ≡ false
missed true k e = absurd cc
missed false k e = refl

pub found_at : (p : ℕ → Bool) (xs : List ℕ) (n : ℕ) → position p xs ≡ Some n → (n < length xs) × (position_or_len p xs ≡ n)
found_at p xs n e =
    let h = chosen (ltb (position_or_len p xs) (length xs)) (position_or_len p xs) n e in
    let lt : position_or_len p xs < length xs = ltb-true _ _ h.0 in
    (omega (arith, h.1), h.1)

pub not_found : (p : ℕ → Bool) (xs : List ℕ) → position p xs ≡ none → length xs ≤ position_or_len p xs
not_found p xs e = ltb-false _ _ (missed (ltb (position_or_len p xs) (length xs)) (position_or_len p xs) e)

-- ---- lines

cut : (b : Bool) (c : ℕ) (parts : List (List ℕ)) → (part : List ℕ) × (others : List (List ℕ)) × (cond b ([] ∷ parts) (onto_first c parts) ≡ part ∷ others)
cut true c parts = ([], parts, refl)
cut false c [] = (c ∷ [], [], refl)
cut false c (part ∷ parts) = (c ∷ part, parts, refl)

parts_begin : (p : ℕ → Bool) (xs : List ℕ) → (part : List ℕ) × (others : List (List ℕ)) × (slice_split p xs ≡ part ∷ others)
parts_begin p [] = ([], [], refl)
parts_begin p (c ∷ cs) = cut (p c) c (slice_split p cs)

more_lines : (line : List ℕ) (parts : List (List ℕ)) (part : List ℕ) (others : List (List ℕ)) → parts ≡ part ∷ others → lines_of_parts (line ∷ parts) ≡ strip_carriage_return line ∷ lines_of_parts parts
more_lines line parts part others e = rw e refl

pub line_ends : (text : List ℕ) (n : ℕ) → position is_feed text ≡ Some n → lines text ≡ strip_carriage_return (take n text) ∷ lines (drop (n + 1) text)
line_ends text n e =
    let h = found_at is_feed text n e in
    let first = slice_split_first is_feed text 0 (omega (arith, h.0, h.1)) in
    let split : slice_split is_feed text ≡ take n text ∷ slice_split is_feed (drop (n + 1) text) = rw h.1 at first in
    let rest = parts_begin is_feed (drop (n + 1) text) in
    ap lines_of_parts split ∙ more_lines (take n text) (slice_split is_feed (drop (n + 1) text)) rest.0 rest.1 rest.2

one_line : (text : List ℕ) → 0 < length text → lines_of_parts (text ∷ []) ≡ text ∷ []
one_line text more = cond-false (eqb (length text) 0) [] (text ∷ []) (ne_eqb (length text) 0 (λ e. absurd (omega arith)))

-- no element before the length passes
none_passes : (p : ℕ → Bool) (xs : List ℕ) → length xs ≤ position_or_len p xs → All (λ x. p x ≡ false) xs
none_passes p xs far k d lt = fails_before_first p xs k d (omega arith)

pub last_line : (text : List ℕ) → 0 < length text → position is_feed text ≡ none → lines text ≡ text ∷ []
last_line text more e =
    let far = not_found is_feed text e in
    ap lines_of_parts (slice_split_none is_feed text (none_passes is_feed text far)) ∙ one_line text more

-- ---- words

-- a line that begins with a word
pub record BeginsWord (line : List ℕ) : Type 0 where
  pub first : ℕ
  pub others : List ℕ
  pub is : line ≡ first ∷ others
  pub plain : is_blank first ≡ false

abbrev pub is_word : List ℕ → Bool
is_word word = ltb 0 (length word)

pub kept : (word : List ℕ) (parts : List (List ℕ)) → 0 < length word → filter is_word (word ∷ parts) ≡ word ∷ filter is_word parts
kept word parts more = cond-true (is_word word) (word ∷ filter is_word parts) (filter is_word parts) (lt-ltb 0 (length word) more)

pub blank_skipped : (c : ℕ) (cs : List ℕ) → is_blank c ≡ true → words (c ∷ cs) ≡ words cs
blank_skipped c cs e = ap (filter is_word) (slice_split-cons_yes is_blank c cs e)

skipped : (b : Bool) (c : ℕ) (cs : List ℕ) → is_blank c ≡ b → words (drop (position_or_len is_no_blank cs) cs) ≡ words cs
    → words (drop (position_or_len is_no_blank (c ∷ cs)) (c ∷ cs)) ≡ words (c ∷ cs)
skipped true c cs e so_far =
    let len : position_or_len is_no_blank (c ∷ cs) ≡ suc (position_or_len is_no_blank cs) = rw e (omega arith) in
    ap (λ (n : ℕ). words (drop n (c ∷ cs))) len ∙ so_far ∙ sym (blank_skipped c cs e)
skipped false c cs e so_far =
    let len : position_or_len is_no_blank (c ∷ cs) ≡ 0 = rw e refl in
    ap (λ (n : ℕ). words (drop n (c ∷ cs))) len

pub blanks_skipped : (line : List ℕ) → words (drop (position_or_len is_no_blank line) line) ≡ words line
blanks_skipped [] = refl
blanks_skipped (c ∷ cs) = skipped (is_blank c) c cs refl (blanks_skipped cs)

pub no_word : (line : List ℕ) → position is_no_blank line ≡ none → words line ≡ []
no_word line e = sym (blanks_skipped line) ∙ ap words (drop_all (position_or_len is_no_blank line) line (not_found is_no_blank line e))

opposite : (b : Bool) → not b ≡ true → b ≡ false
opposite true e = sym e
opposite false e = refl

pub word_begins : (line : List ℕ) (n : ℕ) → position is_no_blank line ≡ Some n → (words line ≡ words (drop n line)) × BeginsWord (drop n line)
word_begins line n e =
    let h = found_at is_no_blank line n e in
    let passes : is_no_blank (get_or line n 0) ≡ true = rw h.1 at (passes_at_first is_no_blank line 0 (omega (arith, h.0, h.1))) in (
      sym (blanks_skipped line) ∙ ap (λ (k : ℕ). words (drop k line)) h.1,
      record { first = get_or line n 0; others = drop (n + 1) line; is = drop_more line n 0 h.0; plain = opposite (is_blank (get_or line n 0)) passes },
    )

pub begins_long : (line : List ℕ) → BeginsWord line → 0 < length line
begins_long line begins = rw begins.is (omega arith)

pub begins_apart : (line : List ℕ) → BeginsWord line → 0 < position_or_len is_blank line
begins_apart line begins = rw (begins.is, begins.plain) (omega arith)

pub one_word : (line : List ℕ) → BeginsWord line → position is_blank line ≡ none → words line ≡ line ∷ []
one_word line begins e =
    let far = not_found is_blank line e in
    ap (filter is_word) (slice_split_none is_blank line (none_passes is_blank line far)) ∙ kept line [] (begins_long line begins)

pub word_ends : (line : List ℕ) (n : ℕ) → BeginsWord line → position is_blank line ≡ Some n → words line ≡ take n line ∷ words (drop n line)
word_ends line n begins e =
    let h = found_at is_blank line n e in
    let apart = begins_apart line begins in
    let first = slice_split_first is_blank line 0 (omega (arith, h.0, h.1)) in
    let split : slice_split is_blank line ≡ take n line ∷ slice_split is_blank (drop (n + 1) line) = rw h.1 at first in
    let long : 0 < length (take n line) = omega (arith, length-take n line, h.0, h.1, apart) in
    let passes : is_blank (get_or line n 0) ≡ true = rw h.1 at (passes_at_first is_blank line 0 (omega (arith, h.0, h.1))) in
    let rest : words (drop n line) ≡ words (drop (n + 1) line) = ap words (drop_more line n 0 h.0) ∙ blank_skipped (get_or line n 0) (drop (n + 1) line) passes in
    ap (filter is_word) split ∙ kept (take n line) (slice_split is_blank (drop (n + 1) line)) long ∙ ap (λ (ws : List (List ℕ)). take n line ∷ ws) (sym rest)
