-- Bytes of a cell by their index.
use Rattle.std.proofs.Common.{◌≡◌, ◌-◌, ◌<◌, ◌≤◌, ◌∙◌, ◌/◌, refl, sym, ap, ℕ, zero, suc, length, reverse, get_or, arith}
use Rattle.std.proofs.lemmas.List.{get_or-reverse}
use Rattle.hb_area.specs.Cells.{bytes_of}

length-bytes_of : (count value : ℕ) → length (bytes_of count value) ≡ count
length-bytes_of zero value = refl
length-bytes_of (suc count) value = ap suc (length-bytes_of count (value / 256))

-- more bytes do not change the first ones
same_byte : (n m i value : ℕ) → i < n → i < m → get_or (bytes_of n value) i 0 ≡ get_or (bytes_of m value) i 0
same_byte zero m i value a b = absurd (omega arith)
same_byte (suc n) zero i value a b = absurd (omega arith)
same_byte (suc n) (suc m) zero value a b = refl
same_byte (suc n) (suc m) (suc i) value a b = same_byte n m i (value / 256) (omega arith) (omega arith)

place_is : (n i place : ℕ) → place ≡ n - 1 - i → i < n → place < n
place_is n i place e lt = omega arith

pub little : (n i value : ℕ) → i < n → n ≤ 4 → get_or (bytes_of 4 value) i 0 ≡ get_or (bytes_of n value) i 0
little n i value lt few = same_byte 4 n i value (omega arith) lt

pub big : (n i value place : ℕ) → place ≡ n - 1 - i → i < n → n ≤ 4 → get_or (bytes_of 4 value) place 0 ≡ get_or (reverse (bytes_of n value)) i 0
big n i value place e lt few =
    little n place value (place_is n i place e lt) few
    ∙ ap (λ k. get_or (bytes_of n value) k 0) (e ∙ ap (λ l. l - 1 - i) (sym (length-bytes_of n value)))
    ∙ sym (get_or-reverse (bytes_of n value) i 0 (within n i (length (bytes_of n value)) (length-bytes_of n value) lt))
  where
    within : (n i l : ℕ) → l ≡ n → i < n → i < l
    within n i l e lt = omega arith
