-- Runs, digits and values, byte by byte.
use Rattle.std.proofs.Common.{◌≡◌, ℕ, zero, suc, ◌+◌, ◌*◌, ◌^◌, ◌<◌, ◌≤◌, Bool, true, false, cond, List, [], ◌∷◌, Some, None, refl, sym, ap, subst, ◌∙◌, arith, true≢false}
use Rattle.std.proofs.lemmas.Bool.{false≢true}
use Rattle.std.proofs.Math.Pow.{pow_mono}
use Rattle.std.proofs.lemmas.Bool.Decides.{nat_tests}
use Rattle.std.proofs.Common.{length, drop, get_or}
use Rattle.std.proofs.lemmas.List.{at_drop_more, at_drop_all}
use Rattle.std.specs.Prelude.{◌==◌, ◌&&◌, ◌||◌, not, if◌then◌else◌, nat_lt}
use Rattle.std.proofs.lemmas.Nat.{mul-le, pow-add}
use Rattle.std.proofs.Math.Nat.{pow-zero, pow-succ', pow-suc, mul-zero, mul-suc, one-le-pow}
use Rattle.hb_lex.specs.Reading.{longer}
use Rattle.hb_lex.specs.Bytes.{run}
use Rattle.hb_lex.specs.Literals.{digit_value, digit_count, value_of, are_separated, is_bit_digit, is_hex, is_digit_of}
use Rattle.hb_base.specs.PortName.{is_lower}

pub either : {P : Type 0} → (b : Bool) → (b ≡ true → P) → (b ≡ false → P) → P
either true f g = f refl
either false f g = g refl

pub run_on : (p : ℕ → Bool) (c : ℕ) (cs : List ℕ) → p c ≡ true → run p (c ∷ cs) ≡ suc (run p cs)
unfolding run
run_on p c cs h = rw h refl

pub run_off : (p : ℕ → Bool) (c : ℕ) (cs : List ℕ) → p c ≡ false → run p (c ∷ cs) ≡ 0
unfolding run
run_off p c cs h = rw h refl

pub run_none : (p : ℕ → Bool) → run p [] ≡ 0
unfolding run
run_none p = refl

pub count_digit : (c : ℕ) (cs : List ℕ) → (c == 95) ≡ false → digit_count (c ∷ cs) ≡ suc (digit_count cs)
unfolding digit_count
count_digit c cs h = rw h refl

pub count_gap : (c : ℕ) (cs : List ℕ) → (c == 95) ≡ true → digit_count (c ∷ cs) ≡ digit_count cs
unfolding digit_count
count_gap c cs h = rw h refl

pub count_none : digit_count [] ≡ 0
unfolding digit_count
count_none = refl

pub value_digit : (base c : ℕ) (cs : List ℕ) → (c == 95) ≡ false → value_of base (c ∷ cs) ≡ digit_value c * base ^ digit_count cs + value_of base cs
unfolding value_of
value_digit base c cs h = rw h refl

pub value_gap : (base c : ℕ) (cs : List ℕ) → (c == 95) ≡ true → value_of base (c ∷ cs) ≡ value_of base cs
unfolding value_of
value_gap base c cs h = rw h refl

pub value_none : (base : ℕ) → value_of base [] ≡ 0
unfolding value_of
value_none base = refl

-- a digit moves from the digits left to the value
shift : (base k value d v : ℕ) → value * base ^ suc k + (d * base ^ k + v) ≡ (value * base + d) * base ^ k + v
shift base k value d v = rw (pow-succ' base k) (grind arith)

pub value_more : (base value c : ℕ) (cs : List ℕ) → value * base ^ digit_count (c ∷ cs) + value_of base (c ∷ cs) ≡ longer base value c * base ^ digit_count cs + value_of base cs
value_more base value c cs =
    either (c == 95)
    (λ h. rw (count_gap c cs h, value_gap base c cs h, h) refl)
    (λ h. rw (count_digit c cs h, value_digit base c cs h, h) (shift base (digit_count cs) value (digit_value c) (value_of base cs)))

-- what is left, where a digit stands right before it or not
abbrev pub separated_after : (ℕ → Bool) → Bool → List ℕ → Bool
separated_after is_of false cs = are_separated is_of cs
separated_after is_of true [] = true
separated_after is_of true (d ∷ cs) = if d == 95 then are_separated is_of cs else are_separated is_of (d ∷ cs)

pub separated_first : (p : ℕ → Bool) (c : ℕ) (cs : List ℕ) → are_separated p (c ∷ cs) ≡ (p c && separated_after p true cs)
unfolding are_separated
separated_first p c [] = either (p c) (λ h. rw h refl) (λ h. rw h refl)
separated_first p c (d ∷ cs) = refl

pub separated_none : (p : ℕ → Bool) → are_separated p [] ≡ false
unfolding are_separated
separated_none p = refl

-- `_` is no digit
gap_no_digit : (bits c : ℕ) → (c == 95) ≡ true → is_bit_digit bits c ≡ false
gap_no_digit bits c h = let e : c ≡ 95 = grind (arith, nat_tests) in subst (λ d. is_bit_digit bits d ≡ false) (sym e) refl

or_left : (a b : Bool) → (a || b) ≡ true → b ≡ false → a ≡ true
or_left true b h e = refl
or_left false b h e = sym e ∙ h

or_none : (a b : Bool) → (a || b) ≡ false → (a ≡ false) × (b ≡ false)
or_none true b h = absurd (true≢false h)
or_none false b h = (refl, h)

and_false : (b : Bool) → (false && b) ≡ false
and_false b = refl

-- a byte that may come leads on
pub separated_more : (bits : ℕ) (after : Bool) (c : ℕ) (cs : List ℕ) → (is_bit_digit bits c || (after && (c == 95))) ≡ true → separated_after (is_bit_digit bits) after (c ∷ cs) ≡ separated_after (is_bit_digit bits) (is_bit_digit bits c) cs
separated_more bits false c cs h =
    let d : is_bit_digit bits c ≡ true = or_left _ _ h refl in
    separated_first (is_bit_digit bits) c cs ∙ rw d refl
separated_more bits true c cs h =
    either (c == 95)
    (λ e. rw (e, gap_no_digit bits c e) refl)
    (λ e. let d : is_bit_digit bits c ≡ true = or_left _ _ h e in rw (e, separated_first (is_bit_digit bits) c cs, d) refl)

-- any other byte ends it
pub separated_stop : (bits : ℕ) (after : Bool) (c : ℕ) (cs : List ℕ) → (is_bit_digit bits c || (after && (c == 95))) ≡ false → separated_after (is_bit_digit bits) after (c ∷ cs) ≡ false
separated_stop bits false c cs h =
    let d : is_bit_digit bits c ≡ false = (or_none _ _ h).0 in
    separated_first (is_bit_digit bits) c cs ∙ rw d refl
separated_stop bits true c cs h =
    let d : is_bit_digit bits c ≡ false = (or_none _ _ h).0 in
    let e : (c == 95) ≡ false = (or_none _ _ h).1 in
    rw (e, separated_first (is_bit_digit bits) c cs, d) refl

pub separated_end : (p : ℕ → Bool) (after : Bool) → separated_after p after [] ≡ after
separated_end p false = separated_none p
separated_end p true = refl

pub none_is : (b : Bool) (x : ℕ) → None ≡ (if b then Some x else None) → b ≡ false
none_is true x h = cc
none_is false x h = refl

pub some_is : (b : Bool) (x y : ℕ) → Some y ≡ (if b then Some x else None) → (b ≡ true) × (y ≡ x)
some_is true x y h = (refl, cc)
some_is false x y h = cc

le_mul : (a b : ℕ) → 1 ≤ b → a ≤ a * b
le_mul a b h = let e : a * 1 ≤ a * b = mul-le a 1 a b (omega arith) h in omega arith

-- a value that is too large stays so
pub value_stop : (limit base value c : ℕ) (cs : List ℕ) (all : ℕ) → 0 < base → all ≡ value * base ^ digit_count (c ∷ cs) + value_of base (c ∷ cs) → nat_lt (longer base value c) limit ≡ false → None ≡ (if nat_lt all limit then Some all else None)
value_stop limit base value c cs all pos e h =
    let big : longer base value c * base ^ digit_count cs + value_of base cs ≡ all = sym (e ∙ value_more base value c cs) in
    let one : 1 ≤ base ^ digit_count cs = one-le-pow (digit_count cs) base pos in
    let le : limit ≤ longer base value c = grind (arith, nat_tests) in
    let more : longer base value c ≤ longer base value c * base ^ digit_count cs = le_mul (longer base value c) (base ^ digit_count cs) one in
    let past : limit ≤ all = omega arith in
    let no : nat_lt all limit ≡ false = grind (arith, nat_tests) in
    rw no refl

pub value_end : (limit base value all : ℕ) → all ≡ value * base ^ digit_count [] + value_of base [] → value < limit → Some value ≡ (if nat_lt all limit then Some all else None)
value_end limit base value all e lt =
    let same : all ≡ value = e ∙ rw (count_none, value_none base, pow-zero base) (omega arith) in
    let is : nat_lt value limit ≡ true = grind (arith, nat_tests) in
    rw (same, is) refl

pub run_last : (p : ℕ → Bool) (cs : List ℕ) (i : ℕ) → i < length cs → run p cs ≡ i + run p (drop i cs) → p (get_or cs i 0) ≡ false → i ≡ run p cs
run_last p cs i lt e h =
    let off : run p (drop i cs) ≡ 0 = at_drop_more (run p) cs i 0 lt ∙ run_off p (get_or cs i 0) (drop (i + 1) cs) h in
    omega arith

pub run_more : (p : ℕ → Bool) (cs : List ℕ) (i : ℕ) → i < length cs → run p cs ≡ i + run p (drop i cs) → p (get_or cs i 0) ≡ true → run p cs ≡ (i + 1) + run p (drop (i + 1) cs)
run_more p cs i lt e h =
    let on : run p (drop i cs) ≡ suc (run p (drop (i + 1) cs)) = at_drop_more (run p) cs i 0 lt ∙ run_on p (get_or cs i 0) (drop (i + 1) cs) h in
    omega arith

pub run_all : (p : ℕ → Bool) (cs : List ℕ) (i : ℕ) → i ≤ length cs → length cs ≤ i → run p cs ≡ i + run p (drop i cs) → length cs ≡ run p cs
run_all p cs i le ge e =
    let none : run p (drop i cs) ≡ 0 = at_drop_all (run p) cs i ge ∙ run_none p in
    omega arith

pub count_more : (cs : List ℕ) (i count all : ℕ) → i < length cs → all ≡ count + digit_count (drop i cs) → all ≡ (count + (if get_or cs i 0 == 95 then 0 else 1)) + digit_count (drop (i + 1) cs)
count_more cs i count all lt e =
    let step : digit_count (drop i cs) ≡ digit_count (get_or cs i 0 ∷ drop (i + 1) cs) = at_drop_more digit_count cs i 0 lt in
    either (get_or cs i 0 == 95)
    (λ h. let s : digit_count (drop i cs) ≡ digit_count (drop (i + 1) cs) = step ∙ count_gap _ _ h in rw h (omega arith))
    (λ h. let s : digit_count (drop i cs) ≡ suc (digit_count (drop (i + 1) cs)) = step ∙ count_digit _ _ h in rw h (omega arith))

pub count_all : (cs : List ℕ) (i count all : ℕ) → length cs ≤ i → all ≡ count + digit_count (drop i cs) → count ≡ all
count_all cs i count all ge e = let none : digit_count (drop i cs) ≡ 0 = at_drop_all digit_count cs i ge ∙ count_none in omega arith

pub separated_last : (bits : ℕ) (cs : List ℕ) (i : ℕ) (after all : Bool) → i < length cs → all ≡ separated_after (is_bit_digit bits) after (drop i cs) → (is_bit_digit bits (get_or cs i 0) || (after && (get_or cs i 0 == 95))) ≡ false → false ≡ all
separated_last bits cs i after all lt e h =
    sym (e ∙ (at_drop_more (separated_after (is_bit_digit bits) after) cs i 0 lt ∙ separated_stop bits after (get_or cs i 0) (drop (i + 1) cs) h))

pub separated_at : (bits : ℕ) (cs : List ℕ) (i : ℕ) (after digit all : Bool) → i < length cs → all ≡ separated_after (is_bit_digit bits) after (drop i cs) → digit ≡ is_bit_digit bits (get_or cs i 0) → (digit || (after && (get_or cs i 0 == 95))) ≡ true → all ≡ separated_after (is_bit_digit bits) digit (drop (i + 1) cs)
separated_at bits cs i after digit all lt e d h =
    let h' : (is_bit_digit bits (get_or cs i 0) || (after && (get_or cs i 0 == 95))) ≡ true = ap (λ b. b || (after && (get_or cs i 0 == 95))) (sym d) ∙ h in
    e ∙ (at_drop_more (separated_after (is_bit_digit bits) after) cs i 0 lt
    ∙ (separated_more bits after (get_or cs i 0) (drop (i + 1) cs) h' ∙ ap (λ b. separated_after (is_bit_digit bits) b (drop (i + 1) cs)) (sym d)))

pub separated_all : (bits : ℕ) (cs : List ℕ) (i : ℕ) (after all : Bool) → length cs ≤ i → all ≡ separated_after (is_bit_digit bits) after (drop i cs) → after ≡ all
separated_all bits cs i after all ge e =
    sym (e ∙ (at_drop_all (separated_after (is_bit_digit bits) after) cs i ge ∙ separated_end (is_bit_digit bits) after))

pub value_past : (limit base : ℕ) (cs : List ℕ) (i value all : ℕ) → 0 < base → i < length cs → all ≡ value * base ^ digit_count (drop i cs) + value_of base (drop i cs) → None ≡ (if nat_lt (longer base value (get_or cs i 0)) limit then Some (longer base value (get_or cs i 0)) else None) → None ≡ (if nat_lt all limit then Some all else None)
value_past limit base cs i value all pos lt e h =
    value_stop limit base value (get_or cs i 0) (drop (i + 1) cs) all pos
    (e ∙ at_drop_more (λ ds. value * base ^ digit_count ds + value_of base ds) cs i 0 lt) (none_is _ _ h)

pub value_next : (base : ℕ) (cs : List ℕ) (i value all : ℕ) → i < length cs → all ≡ value * base ^ digit_count (drop i cs) + value_of base (drop i cs) → all ≡ longer base value (get_or cs i 0) * base ^ digit_count (drop (i + 1) cs) + value_of base (drop (i + 1) cs)
value_next base cs i value all lt e =
    e ∙ (at_drop_more (λ ds. value * base ^ digit_count ds + value_of base ds) cs i 0 lt ∙ value_more base value (get_or cs i 0) (drop (i + 1) cs))

pub value_last : (limit base : ℕ) (cs : List ℕ) (i value all : ℕ) → length cs ≤ i → all ≡ value * base ^ digit_count (drop i cs) + value_of base (drop i cs) → value < limit → Some value ≡ (if nat_lt all limit then Some all else None)
value_last limit base cs i value all ge e lt =
    value_end limit base value all (e ∙ at_drop_all (λ ds. value * base ^ digit_count ds + value_of base ds) cs i ge) lt

pub some_small : (limit x y : ℕ) → Some y ≡ (if nat_lt x limit then Some x else None) → y < limit
some_small limit x y h =
    let is = some_is (nat_lt x limit) x y h in
    let e : y ≡ x = is.1 in
    let t : nat_lt x limit ≡ true = is.0 in
    grind (arith, nat_tests)

pub and_true : (a b : Bool) → (a && b) ≡ true → (a ≡ true) × (b ≡ true)
and_true true b h = (refl, h)
and_true false b h = absurd (false≢true h)

-- a digit below the base, and what is below a power of it, is below the next power
digit_below : (base k d v : ℕ) → d < base → v < base ^ k → d * base ^ k + v < base ^ suc k
digit_below base k d v lt small =
    let step : suc d * base ^ k ≤ base * base ^ k = mul-le (suc d) (base ^ k) base (base ^ k) (omega arith) (omega arith) in
    let pow : base ^ suc k ≡ base * base ^ k = pow-succ' base k in
    let split : suc d * base ^ k ≡ d * base ^ k + base ^ k = grind arith in
    omega arith

digit_small : (bits c : ℕ) → is_bit_digit bits c ≡ true → digit_value c < 2 ^ bits
digit_small bits c h =
    let t : nat_lt (digit_value c) (2 ^ bits) ≡ true = (and_true (is_hex c) (nat_lt (digit_value c) (2 ^ bits)) (and_true (not (is_lower c)) (is_digit_of (2 ^ bits) c) h).1).1 in
    grind (arith, nat_tests)

digit_no_gap : (bits c : ℕ) → is_bit_digit bits c ≡ true → (c == 95) ≡ false
digit_no_gap bits c h = either (c == 95) (λ e. absurd (true≢false (sym h ∙ gap_no_digit bits c e))) (λ e. e)

-- so many digits stand for less than that power of the base
bits_below : (bits : ℕ) (after : Bool) (cs : List ℕ) → separated_after (is_bit_digit bits) after cs ≡ true → value_of (2 ^ bits) cs < (2 ^ bits) ^ digit_count cs
bits_below bits after [] h = rw (value_none (2 ^ bits), count_none, pow-zero (2 ^ bits)) (omega arith)
bits_below bits false (c ∷ cs) h =
    let both = and_true _ _ (sym (separated_first (is_bit_digit bits) c cs) ∙ h) in
    rw (value_digit (2 ^ bits) c cs (digit_no_gap bits c both.0), count_digit c cs (digit_no_gap bits c both.0))
    (digit_below (2 ^ bits) (digit_count cs) (digit_value c) (value_of (2 ^ bits) cs) (digit_small bits c both.0) (bits_below bits true cs both.1))
bits_below bits true (c ∷ cs) h =
    either (c == 95)
    (λ e. let rest : are_separated (is_bit_digit bits) cs ≡ true = sym (ap (λ b. cond b (are_separated (is_bit_digit bits) cs) (are_separated (is_bit_digit bits) (c ∷ cs))) e) ∙ h in
    rw (value_gap (2 ^ bits) c cs e, count_gap c cs e) (bits_below bits false cs rest))
    (λ e. let rest : are_separated (is_bit_digit bits) (c ∷ cs) ≡ true = sym (ap (λ b. cond b (are_separated (is_bit_digit bits) cs) (are_separated (is_bit_digit bits) (c ∷ cs))) e) ∙ h in
    let both = and_true _ _ (sym (separated_first (is_bit_digit bits) c cs) ∙ rest) in
    rw (value_digit (2 ^ bits) c cs e, count_digit c cs e)
    (digit_below (2 ^ bits) (digit_count cs) (digit_value c) (value_of (2 ^ bits) cs) (digit_small bits c both.0) (bits_below bits true cs both.1)))

below_both : (v limit : ℕ) → v < limit → nat_lt v limit ≡ false → ⊥
below_both v limit lt past = let t : nat_lt v limit ≡ true = grind (arith, nat_tests) in true≢false (sym t ∙ past)

le-trans' : {a b c d : ℕ} → a < b → c ≡ b → c ≤ d → a < d
le-trans' lt e le = omega arith

pow_mul : (m a b : ℕ) → m ^ (a * b) ≡ (m ^ a) ^ b
pow_mul m a zero = rw (mul-zero a, pow-zero m, pow-zero (m ^ a)) refl
pow_mul m a (suc b) = rw (mul-suc a b, pow-add m (a * b) a, pow-suc (m ^ a) b, pow_mul m a b) refl

-- at most 128 bits stand for less than 2^128
pub bits_fit : (bits : ℕ) (cs : List ℕ) → are_separated (is_bit_digit bits) cs ≡ true → bits * digit_count cs ≤ 128 → None ≡ (if nat_lt (value_of (2 ^ bits) cs) (2 ^ 128) then Some (value_of (2 ^ bits) cs) else None) → ⊥
bits_fit bits cs h few none =
    let below : value_of (2 ^ bits) cs < (2 ^ bits) ^ digit_count cs = bits_below bits false cs h in
    let power : 2 ^ (bits * digit_count cs) ≡ (2 ^ bits) ^ digit_count cs = pow_mul 2 bits (digit_count cs) in
    let most : 2 ^ (bits * digit_count cs) ≤ 2 ^ 128 = pow_mono few in
    let past : nat_lt (value_of (2 ^ bits) cs) (2 ^ 128) ≡ false = none_is _ _ none in
    below_both (value_of (2 ^ bits) cs) (2 ^ 128) (le-trans' below power most) past

pub at_most_one : (b : Bool) (n : ℕ) → n ≡ (if b then 0 else 1) → n ≤ 1
at_most_one true n e = omega arith
at_most_one false n e = omega arith

pub bits_out : (bits from count base : ℕ) (cs : List ℕ) → base ≡ 2 ^ bits → from ≡ bits → count ≡ digit_count cs → are_separated (is_bit_digit bits) cs ≡ true → from * count ≤ 128 → None ≡ (if nat_lt (value_of base cs) (2 ^ 128) then Some (value_of base cs) else None) → ⊥
bits_out bits from count base cs eb ef ec sep few none =
    bits_fit bits cs sep (subst (λ n. n * digit_count cs ≤ 128) ef (subst (λ k. from * k ≤ 128) ec few))
    (subst (λ b. None ≡ (if nat_lt (value_of b cs) (2 ^ 128) then Some (value_of b cs) else None)) eb none)
