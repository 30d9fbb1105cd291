-- Laws of numbers as lists of bits, stated once over the width.
use Rattle.std.specs.Prelude.{◌≡◌, ℕ, zero, suc, ◌+◌, ◌-◌, ◌*◌, ◌/◌, ◌%◌, ◌^◌, ◌<◌, ◌≤◌, ◌==◌, Bool, true, false, if◌then◌else◌, List, [], ◌∷◌, ◌++◌, length, take, drop}
use Rattle.std.proofs.Common.{refl, sym, ap, subst, ◌∙◌, arith, append_assoc, append-nil, length-append, length-drop}
use Rattle.std.proofs.Math.Nat.{add-suc, pow-suc, mod-lt, mul_assoc, mul-le-mul_right, pow-le-pow_right}
use Rattle.std.proofs.Math.Seq.{take-append_seam, drop-append_seam, take-length}
use Rattle.std.proofs.lemmas.Nat.{pow_pos, pow-add, shr_split, mod-pow-add}
use Rattle.hb_bits.specs.Bits.{digits, number, cut_at, place_at}

pub length-digits : (width n : ℕ) → length (digits width n) ≡ width
unfolding digits
length-digits zero n = refl
length-digits (suc width) n =
    let before = length-digits width (n / 2) in
    omega (arith, length-append (digits width (n / 2)) ((n % 2 == 1) ∷ []), before)

half_of : (x b : ℕ) → (x * 2 + b) / 2 ≡ x + b / 2
half_of x b = omega arith

parity_of : (x b : ℕ) → (x * 2 + b) % 2 ≡ b % 2
parity_of x b = omega arith

half_lt : (b p : ℕ) → b < p * 2 → b / 2 < p
half_lt b p lt = omega arith

below_one : (b : ℕ) → b < 1 → b ≡ 0
below_one b lt = omega arith

times_one : (a b : ℕ) → b ≡ 0 → a * 1 + b ≡ a
times_one a b e = omega arith

doubled : (a b p q : ℕ) → q ≡ p * 2 → a * q + b ≡ (a * p) * 2 + b
doubled a b p q e = ap (λ x. a * x + b) e ∙ ap (λ x. x + b) (sym (mul_assoc a p 2))

plus_zero : (w : ℕ) → w + zero ≡ w
plus_zero w = omega arith

-- the digits of a number that is put together from two are those of the one, and then those of the other
pub digits-join : (w v a b : ℕ) → b < 2 ^ v → digits (w + v) (a * 2 ^ v + b) ≡ digits w a ++ digits v b
unfolding digits
digits-join w zero a b lt =
    ap (λ x. digits x (a * 1 + b)) (plus_zero w)
    ∙ ap (digits w) (times_one a b (below_one b lt))
    ∙ sym (append-nil (digits w a))
digits-join w (suc v) a b lt =
    let e : a * 2 ^ suc v + b ≡ (a * 2 ^ v) * 2 + b = doubled a b (2 ^ v) (2 ^ suc v) (pow-suc 2 v) in
    ap (λ x. digits x (a * 2 ^ suc v + b)) (add-suc w v)
    ∙ ap (λ n. digits (w + v) (n / 2) ++ (n % 2 == 1) ∷ []) e
    ∙ ap (λ h. digits (w + v) h ++ (((a * 2 ^ v) * 2 + b) % 2 == 1) ∷ []) (half_of (a * 2 ^ v) b)
    ∙ ap (λ p. digits (w + v) (a * 2 ^ v + b / 2) ++ (p == 1) ∷ []) (parity_of (a * 2 ^ v) b)
    ∙ ap (λ l. l ++ (b % 2 == 1) ∷ []) (digits-join w v a (b / 2) (half_lt b (2 ^ v) (subst (λ p. b < p) (pow-suc 2 v) lt)))
    ∙ append_assoc (digits w a) (digits v (b / 2)) ((b % 2 == 1) ∷ [])

product_fits : (a b p q : ℕ) → a < q → b < p → (a + 1) * p ≤ q * p → a * p + b < q * p
product_fits a b p q high low most = omega arith

-- a number that is put together from one of w bits and one of v bits has w + v bits
pub joined_lt : (w v a b : ℕ) → a < 2 ^ w → b < 2 ^ v → a * 2 ^ v + b < 2 ^ (w + v)
joined_lt w v a b high low =
    let most : (a + 1) * 2 ^ v ≤ 2 ^ w * 2 ^ v = mul-le-mul_right (2 ^ v) (omega arith) in
    subst (λ n. a * 2 ^ v + b < n) (sym (pow-add 2 w v)) (product_fits a b (2 ^ v) (2 ^ w) high low most)

-- so its upper part, moved up, fits where both widths do
pub moved_lt : (w v a : ℕ) → a < 2 ^ w → w + v ≤ 64 → a * 2 ^ v < 2 ^ 64
moved_lt w v a high within =
    let joined = joined_lt w v a 0 high (pow_pos v) in
    let most : 2 ^ (w + v) ≤ 2 ^ 64 = pow-le-pow_right (omega arith) within in
    omega (arith, joined, most)

-- a number's digits in three parts, of which the last two have these widths
pub digits-parts : (high width at n : ℕ) → digits (high + (width + at)) n ≡ digits high (n / 2 ^ (width + at)) ++ (digits width (n / 2 ^ at % 2 ^ width) ++ digits at (n % 2 ^ at))
digits-parts high width at n =
    ap (digits (high + (width + at))) (sym (shr_split n (width + at)))
    ∙ digits-join high (width + at) (n / 2 ^ (width + at)) (n % 2 ^ (width + at)) (mod-lt n (pow_pos (width + at)))
    ∙ ap (λ low. digits high (n / 2 ^ (width + at)) ++ low)
    (ap (digits (width + at)) (mod-pow-add n width at) ∙ digits-join width at (n / 2 ^ at % 2 ^ width) (n % 2 ^ at) (mod-lt n (pow_pos at)))

take-whole : (n : ℕ) (bits : List Bool) → length bits ≡ n → take n bits ≡ bits
take-whole n bits e = ap (λ i. take i bits) (sym e) ∙ take-length bits

pub cut_at-parts : (high part low : List Bool) → cut_at (length low) (length part) (high ++ (part ++ low)) ≡ part
cut_at-parts high part low =
    let before : length (high ++ (part ++ low)) - (length low + length part) ≡ length high =
    omega (arith, length-append high (part ++ low), length-append part low) in
    ap (λ i. take (length part) (drop i (high ++ (part ++ low)))) before
    ∙ ap (take (length part)) (drop-append_seam high (part ++ low))
    ∙ take-append_seam part low

pub place_at-parts : (high part low new : List Bool) → length new ≡ length part → place_at (length low) new (high ++ (part ++ low)) ≡ high ++ new ++ low
place_at-parts high part low new same =
    let before : length (high ++ (part ++ low)) - (length low + length new) ≡ length high =
    omega (arith, length-append high (part ++ low), length-append part low) in
    let until : length (high ++ (part ++ low)) - length low ≡ length (high ++ part) =
    omega (arith, length-append high (part ++ low), length-append part low, length-append high part) in
    ap (λ i. take i (high ++ (part ++ low)) ++ new ++ drop (length (high ++ (part ++ low)) - length low) (high ++ (part ++ low))) before
    ∙ ap (λ front. front ++ new ++ drop (length (high ++ (part ++ low)) - length low) (high ++ (part ++ low))) (take-append_seam high (part ++ low))
    ∙ ap (λ i. high ++ new ++ drop i (high ++ (part ++ low))) until
    ∙ ap (λ bits. high ++ new ++ drop (length (high ++ part)) bits) (sym (append_assoc high part low))
    ∙ ap (λ back. high ++ new ++ back) (drop-append_seam (high ++ part) low)

-- the bits of a number in the middle are the digits of the number that stands there
pub cut_at-digits : (width at part n : ℕ) → at + part ≤ width → cut_at at part (digits width n) ≡ digits part (n / 2 ^ at % 2 ^ part)
cut_at-digits width at part n within =
    let high = width - (at + part) in
    let whole : width ≡ high + (part + at) = omega arith in
    ap (λ w. cut_at at part (digits w n)) whole
    ∙ ap (cut_at at part) (digits-parts high part at n)
    ∙ ap (λ a. cut_at a part (digits high (n / 2 ^ (part + at)) ++ (digits part (n / 2 ^ at % 2 ^ part) ++ digits at (n % 2 ^ at)))) (sym (length-digits at (n % 2 ^ at)))
    ∙ ap (λ p. cut_at (length (digits at (n % 2 ^ at))) p (digits high (n / 2 ^ (part + at)) ++ (digits part (n / 2 ^ at % 2 ^ part) ++ digits at (n % 2 ^ at)))) (sym (length-digits part (n / 2 ^ at % 2 ^ part)))
    ∙ cut_at-parts (digits high (n / 2 ^ (part + at))) (digits part (n / 2 ^ at % 2 ^ part)) (digits at (n % 2 ^ at))

drop_none : (bits : List Bool) → drop 0 bits ≡ bits
drop_none [] = refl
drop_none (bit ∷ bits) = refl

-- to place a part is to put it between what is cut from above it and from below it
pub place_at-cuts : (bits new : List Bool) (at : ℕ) → at + length new ≤ length bits → place_at at new bits ≡ cut_at (at + length new) (length bits - (at + length new)) bits ++ new ++ cut_at 0 at bits
place_at-cuts bits new at within =
    let high = length bits - (at + length new) in
    let none : 0 ≡ length bits - (at + length new + high) = omega arith in
    let after : length bits - at ≡ length bits - (0 + at) = omega arith in
    let left : length (drop (length bits - at) bits) ≡ at = omega (arith, length-drop (length bits - at) bits) in
    let front : take high bits ≡ cut_at (at + length new) high bits =
    ap (take high) (sym (drop_none bits) ∙ ap (λ i. drop i bits) none) in
    let back : drop (length bits - at) bits ≡ cut_at 0 at bits =
    sym (take-whole at (drop (length bits - at) bits) left) ∙ ap (λ i. take at (drop i bits)) after in
    ap (λ f. f ++ new ++ drop (length bits - at) bits) front ∙ ap (λ b. cut_at (at + length new) high bits ++ new ++ b) back

-- a bit as a number
abbrev value : Bool → ℕ
value bit = if bit then 1 else 0

shifted : (bit : Bool) (p : ℕ) → (if bit then p else 0) ≡ value bit * p
shifted true p = omega arith
shifted false p = omega arith

bit_of_value : (bit : Bool) → (value bit % 2 == 1) ≡ bit
bit_of_value true = refl
bit_of_value false = refl

fits_with : (bit : Bool) (p n : ℕ) → n < p → (if bit then p else 0) + n < p * 2
fits_with true p n lt = omega arith
fits_with false p n lt = omega arith

pub number-lt : (bits : List Bool) → number bits < 2 ^ length bits
number-lt [] = omega arith
number-lt (bit ∷ bits) = subst (λ p. number (bit ∷ bits) < p) (sym (pow-suc 2 (length bits))) (fits_with bit (2 ^ length bits) (number bits) (number-lt bits))

one_more : (n : ℕ) → suc n ≡ 1 + n
one_more n = omega arith

-- the digits of the number that bits spell are these bits
pub digits-number : (bits : List Bool) → digits (length bits) (number bits) ≡ bits
unfolding digits
digits-number [] = refl
digits-number (bit ∷ bits) =
    ap (λ w. digits w (number (bit ∷ bits))) (one_more (length bits))
    ∙ ap (λ high. digits (1 + length bits) (high + number bits)) (shifted bit (2 ^ length bits))
    ∙ digits-join 1 (length bits) (value bit) (number bits) (number-lt bits)
    ∙ ap (λ first. (first ∷ []) ++ digits (length bits) (number bits)) (bit_of_value bit)
    ∙ ap (λ rest. bit ∷ rest) (digits-number bits)

moved : (bit : Bool) (p q n : ℕ) → q ≡ p * 2 → (if bit then q else 0) + n * 2 ≡ ((if bit then p else 0) + n) * 2
moved true p q n e = omega arith
moved false p q n e = omega arith

number-push : (bits : List Bool) (bit : Bool) → number (bits ++ bit ∷ []) ≡ number bits * 2 + value bit
number-push [] true = refl
number-push [] false = refl
number-push (first ∷ bits) bit =
    let longer : length (bits ++ bit ∷ []) ≡ suc (length bits) = omega (arith, length-append bits (bit ∷ [])) in
    let power : 2 ^ length (bits ++ bit ∷ []) ≡ 2 ^ length bits * 2 = ap (λ l. 2 ^ l) longer ∙ pow-suc 2 (length bits) in
    let rest = number-push bits bit in
    let moved_bit = moved first (2 ^ length bits) (2 ^ length (bits ++ bit ∷ [])) (number bits) power in
    omega (arith, rest, moved_bit)

parity_cases : (p : ℕ) → p < 2 → value (p == 1) ≡ p
parity_cases zero lt = refl
parity_cases (suc zero) lt = refl
parity_cases (suc (suc p)) lt = absurd (omega arith)

-- the number that the digits of a number spell is this number
pub number-digits : (width n : ℕ) → n < 2 ^ width → number (digits width n) ≡ n
unfolding digits
number-digits zero n lt = sym (below_one n lt)
number-digits (suc width) n lt =
    let half : number (digits width (n / 2)) ≡ n / 2 = number-digits width (n / 2) (half_lt n (2 ^ width) (subst (λ p. n < p) (pow-suc 2 width) lt)) in
    let last : value (n % 2 == 1) ≡ n % 2 = parity_cases (n % 2) (omega arith) in
    let push = number-push (digits width (n / 2)) (n % 2 == 1) in
    omega (arith, half, last, push)
