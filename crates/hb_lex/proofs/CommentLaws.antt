-- A comment that nests, by counting the ones that are open.
use Rattle.std.proofs.Common.{◌≡◌, ℕ, zero, suc, ◌+◌, ◌-◌, ◌<◌, ◌≤◌, true, false, List, [], ◌∷◌, Option, Some, None, length, drop, get_or, refl, sym, ap, subst, ◌∙◌, arith}
use Rattle.std.specs.Prelude.{◌==◌, if◌then◌else◌}
use Rattle.std.proofs.lemmas.Bool.Decides.{nat_tests}
use Rattle.std.proofs.lemmas.List.{drop_more, at_drop_all, drop-drop}
use Rattle.hb_lex.specs.Reading.{bound_of, bound_size, depth_after}
use Rattle.hb_lex.specs.Pieces.{opens_comment}
use Rattle.hb_lex.specs.declared.comment.Bound.{Bound}
use Rattle.hb_lex.specs.declared.comment.Bound.TheVariants.{Closes, Opens, Neither}
use Rattle.hb_lex.specs.Tokens.{closes_comment, Inside, closed, nested, other}
use Rattle.hb_lex.proofs.LiteralLaws.{either, and_true}

abbrev pub plus : ℕ → Option ℕ → Option ℕ
plus k None = None
plus k (Some n) = Some (k + n)

-- how many bytes end with the last of so many open comments
unfoldable pub size : ℕ → List ℕ → Option ℕ
size zero bytes = Some 0
size (suc depth) [] = None
size (suc depth) (c ∷ []) = None
size (suc depth) (c ∷ d ∷ cs) =
    if closes_comment (c ∷ d ∷ []) then plus 2 (size depth cs)
    else if opens_comment (c ∷ d ∷ []) then plus 2 (size (suc (suc depth)) cs)
    else plus 1 (size (suc depth) (d ∷ cs))

pub size_zero : (bytes : List ℕ) → size 0 bytes ≡ Some 0
unfolding size
size_zero bytes = refl

pub size_none : (depth : ℕ) → size (suc depth) [] ≡ None
unfolding size
size_none depth = refl

pub size_closes : (depth c d : ℕ) (cs : List ℕ) → closes_comment (c ∷ d ∷ cs) ≡ true → size (suc depth) (c ∷ d ∷ cs) ≡ plus 2 (size depth cs)
unfolding size
size_closes depth c d cs h = rw h refl

pub size_opens : (depth c d : ℕ) (cs : List ℕ) → closes_comment (c ∷ d ∷ cs) ≡ false → opens_comment (c ∷ d ∷ cs) ≡ true → size (suc depth) (c ∷ d ∷ cs) ≡ plus 2 (size (suc (suc depth)) cs)
unfolding size
size_opens depth c d cs h o = rw (h, o) refl

pub size_other : (depth c : ℕ) (cs : List ℕ) → closes_comment (c ∷ cs) ≡ false → opens_comment (c ∷ cs) ≡ false → size (suc depth) (c ∷ cs) ≡ plus 1 (size (suc depth) cs)
unfolding size
size_other depth c [] h o = refl
size_other depth c (d ∷ cs) h o = rw (h, o) refl

plus_plus : (a b : ℕ) (o : Option ℕ) → plus a (plus b o) ≡ plus (a + b) o
plus_plus a b None = refl
plus_plus a b (Some n) = let e : a + (b + n) ≡ a + b + n = omega arith in ap Some e

past_two : (c d : ℕ) (cs : List ℕ) (n : ℕ) → drop n cs ≡ drop (2 + n) (c ∷ d ∷ cs)
past_two c d cs n = drop-drop n 2 (c ∷ d ∷ cs)

past_one : (c : ℕ) (cs : List ℕ) (n : ℕ) → drop n cs ≡ drop (1 + n) (c ∷ cs)
past_one c cs n = drop-drop n 1 (c ∷ cs)

-- a comment that is closed counts the same
pub counts : {bytes : List ℕ} {n : ℕ} → Inside bytes n → (depth : ℕ) → size (suc depth) bytes ≡ plus n (size depth (drop n bytes))
counts (closed rest) depth = size_closes depth 45 125 rest refl
counts (nested rest m n first next) depth =
    size_opens depth 123 45 rest refl refl
    ∙ (ap (plus 2) (counts first (suc depth) ∙ (ap (plus m) (counts next depth) ∙ plus_plus m n (size depth (drop n (drop m rest)))))
    ∙ (plus_plus 2 (m + n) (size depth (drop n (drop m rest)))
    ∙ ap (λ cs. plus (2 + (m + n)) (size depth cs)) (drop-drop n m rest ∙ past_two 123 45 rest (m + n))))
counts (other c rest n no_close no_open inside) depth =
    size_other depth c rest no_close no_open
    ∙ (ap (plus 1) (counts inside depth)
    ∙ (plus_plus 1 n (size depth (drop n rest)) ∙ ap (λ cs. plus (1 + n) (size depth cs)) (past_one c rest n)))

-- so many comments are closed one after another
abbrev Closed : ℕ → List ℕ → ℕ → Type 0
Closed zero bytes n = n ≡ 0
Closed (suc depth) bytes n = (m : ℕ) × (l : ℕ) × (Inside bytes m) × (Closed depth (drop m bytes) l) × (n ≡ m + l)

plus_some : (k : ℕ) (o : Option ℕ) (n : ℕ) → plus k o ≡ Some n → (m : ℕ) × (o ≡ Some m) × (n ≡ k + m)
plus_some k None n h = cc
plus_some k (Some m) n h = (m, refl, cc)

is_byte : (a b : ℕ) → (a == b) ≡ true → a ≡ b
is_byte a b h = grind (arith, nat_tests)

closes_are : (c d : ℕ) → closes_comment (c ∷ d ∷ []) ≡ true → (c ≡ 45) × (d ≡ 125)
closes_are c d h = let both = and_true (c == 45) (d == 125) h in (is_byte c 45 both.0, is_byte d 125 both.1)

opens_are : (c d : ℕ) → opens_comment (c ∷ d ∷ []) ≡ true → (c ≡ 123) × (d ≡ 45)
opens_are c d h = let both = and_true (c == 123) (d == 45) h in (is_byte c 123 both.0, is_byte d 45 both.1)

close_first : (depth c d : ℕ) (cs : List ℕ) (l : ℕ) → (c ≡ 45) × (d ≡ 125) → Closed depth cs l → Closed (suc depth) (c ∷ d ∷ cs) (2 + l)
close_first depth c d cs l are rest =
    (2, l, subst (λ a. Inside (a ∷ d ∷ cs) 2) (sym are.0) (subst (λ b. Inside (45 ∷ b ∷ cs) 2) (sym are.1) (closed cs)), rest, refl)

open_first : (depth c d : ℕ) (cs : List ℕ) (n : ℕ) → (c ≡ 123) × (d ≡ 45) → Closed (suc (suc depth)) cs n → Closed (suc depth) (c ∷ d ∷ cs) (2 + n)
open_first depth c d cs n are (m, k, first, (m', l, next, rest, e'), e) = (
  2 + (m + m'),
  l,
  subst (λ a. Inside (a ∷ d ∷ cs) (2 + (m + m'))) (sym are.0) (subst (λ b. Inside (123 ∷ b ∷ cs) (2 + (m + m'))) (sym are.1) (nested cs m m' first next)),
  subst (λ bs. Closed depth bs l) (drop-drop m' m cs ∙ past_two c d cs (m + m')) rest,
  omega arith,
)

other_first : (depth c : ℕ) (cs : List ℕ) (n : ℕ) → closes_comment (c ∷ cs) ≡ false → opens_comment (c ∷ cs) ≡ false → Closed (suc depth) cs n → Closed (suc depth) (c ∷ cs) (1 + n)
other_first depth c cs n no_close no_open (m, l, inside, rest, e) =
    (1 + m, l, other c cs m no_close no_open inside, subst (λ bs. Closed depth bs l) (past_one c cs m) rest, omega arith)

alone_closes : (c : ℕ) → closes_comment (c ∷ []) ≡ false
alone_closes c = either (c == 45) (λ e. rw e refl) (λ e. rw e refl)

alone_opens : (c : ℕ) → opens_comment (c ∷ []) ≡ false
alone_opens c = either (c == 123) (λ e. rw e refl) (λ e. rw e refl)

-- what is counted is closed
finds : (depth : ℕ) (bytes : List ℕ) (n : ℕ) → size depth bytes ≡ Some n → Closed depth bytes n
finds zero bytes n h = let e : Some 0 ≡ Some n = sym (size_zero bytes) ∙ h in cc
finds (suc depth) [] n h = let e : None ≡ Some n = sym (size_none depth) ∙ h in cc
finds (suc depth) (c ∷ []) n h =
    let e = plus_some 1 (size (suc depth) []) n (sym (size_other depth c [] (alone_closes c) (alone_opens c)) ∙ h) in
    let none : None ≡ Some e.0 = sym (size_none depth) ∙ e.1 in cc
finds (suc depth) (c ∷ d ∷ cs) n h =
    either (closes_comment (c ∷ d ∷ []))
    (λ closes.
    let e = plus_some 2 (size depth cs) n (sym (size_closes depth c d cs closes) ∙ h) in
    subst (Closed (suc depth) (c ∷ d ∷ cs)) (sym e.2) (close_first depth c d cs e.0 (closes_are c d closes) (finds depth cs e.0 e.1)))
    (λ no_close. either (opens_comment (c ∷ d ∷ []))
    (λ opens.
    let e = plus_some 2 (size (suc (suc depth)) cs) n (sym (size_opens depth c d cs no_close opens) ∙ h) in
    subst (Closed (suc depth) (c ∷ d ∷ cs)) (sym e.2) (open_first depth c d cs e.0 (opens_are c d opens) (finds (suc (suc depth)) cs e.0 e.1)))
    (λ no_open.
    let e = plus_some 1 (size (suc depth) (d ∷ cs)) n (sym (size_other depth c (d ∷ cs) no_close no_open) ∙ h) in
    subst (Closed (suc depth) (c ∷ d ∷ cs)) (sym e.2) (other_first depth c (d ∷ cs) e.0 no_close no_open (finds (suc depth) (d ∷ cs) e.0 e.1))))

-- one open comment is closed where it is counted, and nowhere else
pub inside_is : (bytes : List ℕ) (n : ℕ) → size 1 bytes ≡ Some n → Inside bytes n
inside_is bytes n h =
    let found = finds 1 bytes n h in
    let e : n ≡ found.0 = omega (arith, found.3, found.4) in
    subst (Inside bytes) (sym e) found.2

pub inside_none : (bytes : List ℕ) → size 1 bytes ≡ None → (n : ℕ) → Inside bytes n → ⊥
inside_none bytes h n inside =
    let e : Some (n + 0) ≡ None = sym (ap (plus n) (size_zero (drop n bytes))) ∙ (sym (counts inside 0) ∙ h) in cc

pub inside_same : (bytes : List ℕ) (m n : ℕ) → Inside bytes m → Inside bytes n → m ≡ n
inside_same bytes m n first second =
    let a : size 1 bytes ≡ Some (m + 0) = counts first 0 ∙ ap (plus m) (size_zero (drop m bytes)) in
    let b : size 1 bytes ≡ Some (n + 0) = counts second 0 ∙ ap (plus n) (size_zero (drop n bytes)) in
    let e : Some (m + 0) ≡ Some (n + 0) = sym a ∙ b in
    let s : m + 0 ≡ n + 0 = cc in
    omega arith

neither_alone : (c : ℕ) → bound_of (c ∷ []) ≡ Neither
neither_alone c = rw (alone_closes c, alone_opens c) refl

one_bound : (b : Bound) (depth : ℕ) (c : ℕ) (cs : List ℕ) → b ≡ bound_of (c ∷ cs) → size (suc depth) (c ∷ cs) ≡ plus (bound_size b) (size (depth_after b (suc depth)) (drop (bound_size b) (c ∷ cs)))
one_bound b depth c [] e = rw (e, neither_alone c) (size_other depth c [] (alone_closes c) (alone_opens c))
one_bound b depth c (d ∷ cs) e =
    either (closes_comment (c ∷ d ∷ []))
    (λ closes.
    let less : suc depth - 1 ≡ depth = omega arith in
    rw (e, closes, less) (size_closes depth c d cs closes))
    (λ no_close. either (opens_comment (c ∷ d ∷ []))
    (λ opens.
    let more : suc depth + 1 ≡ suc (suc depth) = omega arith in
    rw (e, no_close, opens, more) (size_opens depth c d cs no_close opens))
    (λ no_open. rw (e, no_close, no_open) (size_other depth c (d ∷ cs) no_close no_open)))

zero_zero : 0 < 0 → ⊥
zero_zero h = omega arith

-- one step of the count
pub counted_on : (bytes : List ℕ) (place depth : ℕ) (b : Bound) (all : Option ℕ) → place < length bytes → 0 < depth → b ≡ bound_of (drop place bytes) → all ≡ plus place (size depth (drop place bytes)) → all ≡ plus (place + bound_size b) (size (depth_after b depth) (drop (place + bound_size b) bytes))
counted_on bytes place (suc depth) b all lt some e h =
    let rest : drop place bytes ≡ get_or bytes place 0 ∷ drop (place + 1) bytes = drop_more bytes place 0 lt in
    let step : size (suc depth) (drop place bytes) ≡ plus (bound_size b) (size (depth_after b (suc depth)) (drop (bound_size b) (drop place bytes))) =
    ap (size (suc depth)) rest
    ∙ (one_bound b depth (get_or bytes place 0) (drop (place + 1) bytes) (e ∙ ap bound_of rest)
    ∙ ap (λ cs. plus (bound_size b) (size (depth_after b (suc depth)) (drop (bound_size b) cs))) (sym rest)) in
    h
    ∙ (ap (plus place) step
    ∙ (plus_plus place (bound_size b) _ ∙ ap (λ cs. plus (place + bound_size b) (size (depth_after b (suc depth)) cs)) (drop-drop (bound_size b) place bytes)))
counted_on bytes place zero b all lt some e h = absurd (zero_zero some)

-- no comment is open any more
pub counted_all : (bytes : List ℕ) (place depth : ℕ) → size 1 bytes ≡ plus place (size depth (drop place bytes)) → depth ≡ 0 → Inside bytes place
counted_all bytes place depth h zero_depth =
    let same : size 1 bytes ≡ Some (place + 0) = h ∙ (ap (λ d. plus place (size d (drop place bytes))) zero_depth ∙ ap (plus place) (size_zero (drop place bytes))) in
    let n : place + 0 ≡ place = omega arith in
    inside_is bytes place (same ∙ ap Some n)

-- some comment is open at the end
pub counted_none : (bytes : List ℕ) (place depth : ℕ) → size 1 bytes ≡ plus place (size depth (drop place bytes)) → 0 < depth → length bytes ≤ place → (n : ℕ) → Inside bytes n → ⊥
counted_none bytes place (suc depth) h some ge =
    inside_none bytes (h ∙ (ap (plus place) (at_drop_all (size (suc depth)) bytes place ge ∙ size_none depth)))
counted_none bytes place zero h some ge = λ n i. zero_zero some

pub depth_few : (b : Bound) (depth place : ℕ) → depth ≤ place + 1 → depth_after b depth ≤ place + bound_size b + 1
depth_few Closes depth place h = omega arith
depth_few Opens depth place h = omega arith
depth_few Neither depth place h = omega arith

pub size_some : (b : Bound) → 0 < bound_size b
size_some Closes = omega arith
size_some Opens = omega arith
size_some Neither = omega arith

pub counted_next : (bytes : List ℕ) (place depth taken depth' : ℕ) (b : Bound) (all : Option ℕ) → place < length bytes → 0 < depth → b ≡ bound_of (drop place bytes) → taken ≡ bound_size b → depth' ≡ depth_after b depth → all ≡ plus place (size depth (drop place bytes)) → all ≡ plus (place + taken) (size depth' (drop (place + taken) bytes))
counted_next bytes place depth taken depth' b all lt some e et ed h =
    counted_on bytes place depth b all lt some e h
    ∙ sym (ap (λ t. plus (place + t) (size depth' (drop (place + t) bytes))) et ∙ ap (λ d. plus (place + bound_size b) (size d (drop (place + bound_size b) bytes))) ed)

pub few_next : (b : Bound) (depth place taken depth' : ℕ) → taken ≡ bound_size b → depth' ≡ depth_after b depth → depth ≤ place + 1 → depth' ≤ place + taken + 1
few_next b depth place taken depth' et ed h = let less : depth_after b depth ≤ place + bound_size b + 1 = depth_few b depth place h in omega arith
