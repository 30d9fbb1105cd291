-- Laws of cubes that are put together and taken apart, stated once over the width.
use Rattle.std.specs.Prelude.{◌≡◌, ◌≢◌, ℕ, zero, suc, ◌+◌, ◌-◌, ◌*◌, ◌/◌, ◌%◌, ◌^◌, ◌<◌, ◌==◌, ◌↔◌, not, min, Bool, true, false, List, [], ◌∷◌, ◌++◌, map, replicate, bit_and}
use mathlib.Core.Bool.{beq}
use Rattle.std.proofs.Common.{refl, sym, ap, subst, ◌∙◌, arith, append_assoc, append-nil}
use Rattle.std.proofs.Math.Nat.{add-suc, pow-suc, mod-lt, mul_assoc}
use Rattle.std.proofs.Math.Pow.{shr_lt}
use Rattle.std.proofs.lemmas.Nat.{pow_pos, shr_split, and_mod, and_mask}
use Rattle.std.proofs.lemmas.List.{map-append, replicate_more}
use Rattle.std.specs.Int.Bits.{and_step}
use Rattle.hb_bits.specs.Bits.{digits}
use Rattle.hb_bits.specs.Members.{Member, member, members, IsIn}
use Rattle.hb_bits.specs.Members.Member.{Fixed, Free}

half_of : (x b : ℕ) → (x * 2 + b) / 2 ≡ x + b / 2
half_of x b = omega arith

parity_of : (x b : ℕ) → (x * 2 + b) % 2 ≡ b % 2
parity_of x b = omega arith

half_lt : (b p : ℕ) → b < p * 2 → b / 2 < p
half_lt b p lt = omega arith

below_one : (b : ℕ) → b < 1 → b ≡ 0
below_one b lt = omega arith

times_one : (a b : ℕ) → b ≡ 0 → a * 1 + b ≡ a
times_one a b e = omega arith

doubled : (a b p q : ℕ) → q ≡ p * 2 → a * q + b ≡ (a * p) * 2 + b
doubled a b p q e = ap (λ x. a * x + b) e ∙ ap (λ x. x + b) (sym (mul_assoc a p 2))

plus_zero : (w : ℕ) → w + zero ≡ w
plus_zero w = omega arith

half_is : (v a b : ℕ) → (a * 2 ^ suc v + b) / 2 ≡ a * 2 ^ v + b / 2
half_is v a b = ap (λ n. n / 2) (doubled a b (2 ^ v) (2 ^ suc v) (pow-suc 2 v)) ∙ half_of (a * 2 ^ v) b

last_is : (v a b : ℕ) → (a * 2 ^ suc v + b) % 2 ≡ b % 2
last_is v a b = ap (λ n. n % 2) (doubled a b (2 ^ v) (2 ^ suc v) (pow-suc 2 v)) ∙ parity_of (a * 2 ^ v) b

-- the members by numbers that are put together from two are those of the one, and then those of the other
pub members-join : (w v a b c d : ℕ) → b < 2 ^ v → d < 2 ^ v → members (w + v) (a * 2 ^ v + b) (c * 2 ^ v + d) ≡ members w a c ++ members v b d
unfolding members
members-join w zero a b c d below_b below_d =
    ap (λ x. members x (a * 1 + b) (c * 1 + d)) (plus_zero w)
    ∙ ap (λ x. members w x (c * 1 + d)) (times_one a b (below_one b below_b))
    ∙ ap (λ x. members w a x) (times_one c d (below_one d below_d))
    ∙ sym (append-nil (members w a c))
members-join w (suc v) a b c d below_b below_d =
    ap (λ x. members x (a * 2 ^ suc v + b) (c * 2 ^ suc v + d)) (add-suc w v)
    ∙ ap (λ x. members (w + v) x ((c * 2 ^ suc v + d) / 2) ++ member ((a * 2 ^ suc v + b) % 2) ((c * 2 ^ suc v + d) % 2) ∷ []) (half_is v a b)
    ∙ ap (λ x. members (w + v) (a * 2 ^ v + b / 2) x ++ member ((a * 2 ^ suc v + b) % 2) ((c * 2 ^ suc v + d) % 2) ∷ []) (half_is v c d)
    ∙ ap (λ x. members (w + v) (a * 2 ^ v + b / 2) (c * 2 ^ v + d / 2) ++ member x ((c * 2 ^ suc v + d) % 2) ∷ []) (last_is v a b)
    ∙ ap (λ x. members (w + v) (a * 2 ^ v + b / 2) (c * 2 ^ v + d / 2) ++ member (b % 2) x ∷ []) (last_is v c d)
    ∙ ap (λ l. l ++ member (b % 2) (d % 2) ∷ []) (members-join w v a (b / 2) c (d / 2) (half_lt b (2 ^ v) (subst (λ p. b < p) (pow-suc 2 v) below_b)) (half_lt d (2 ^ v) (subst (λ p. d < p) (pow-suc 2 v) below_d)))
    ∙ append_assoc (members w a c) (members v (b / 2) (d / 2)) (member (b % 2) (d % 2) ∷ [])

ones_half : (p q : ℕ) → q ≡ p * 2 → 0 < p → (q - 1) / 2 ≡ p - 1
ones_half p q e above = omega arith

ones_last : (p q : ℕ) → q ≡ p * 2 → 0 < p → (q - 1) % 2 ≡ 1
ones_last p q e above = omega arith

-- all members are fixed where the mask is all ones
pub members-ones : (width value : ℕ) → members width (2 ^ width - 1) value ≡ map Fixed (digits width value)
unfolding members digits
members-ones zero value = refl
members-ones (suc width) value =
    ap (λ x. members width x (value / 2) ++ member ((2 ^ suc width - 1) % 2) (value % 2) ∷ []) (ones_half (2 ^ width) (2 ^ suc width) (pow-suc 2 width) (pow_pos width))
    ∙ ap (λ x. members width (2 ^ width - 1) (value / 2) ++ member x (value % 2) ∷ []) (ones_last (2 ^ width) (2 ^ suc width) (pow-suc 2 width) (pow_pos width))
    ∙ ap (λ l. l ++ Fixed (value % 2 == 1) ∷ []) (members-ones width (value / 2))
    ∙ sym (map-append Fixed (digits width (value / 2)) ((value % 2 == 1) ∷ []))

one_more : (n : ℕ) → n + 1 ≡ suc n
one_more n = omega arith

-- and free where it has no one
pub members-free : (width : ℕ) → members width 0 0 ≡ replicate width Free
unfolding members
members-free zero = refl
members-free (suc width) =
    ap (λ l. l ++ Free ∷ []) (members-free width)
    ∙ replicate_more width Free
    ∙ ap (λ n. replicate n Free) (one_more width)

join_half : (p q r : ℕ) → p ≡ q → p * 2 + r ≡ q * 2 + r
join_half p q r e = ap (λ x. x * 2 + r) e

and_zero_parts : (c d a b : ℕ) → b ≡ 0 → d ≡ 0 → bit_and (c * 1 + d) (a * 1 + b) ≡ bit_and c a * 1 + bit_and d b
and_zero_parts c d a b none_b none_d =
    ap (λ x. bit_and x (a * 1 + b)) (times_one c d none_d)
    ∙ ap (bit_and c) (times_one a b none_b)
    ∙ sym (times_one (bit_and c a) (bit_and d b) (ap (λ x. bit_and x b) none_d ∙ ap (bit_and 0) none_b))

-- the common ones of numbers that are put together from two
pub and-join : (v c d a b : ℕ) → d < 2 ^ v → b < 2 ^ v → bit_and (c * 2 ^ v + d) (a * 2 ^ v + b) ≡ bit_and c a * 2 ^ v + bit_and d b
and-join zero c d a b below_d below_b = and_zero_parts c d a b (below_one b below_b) (below_one d below_d)
and-join (suc v) c d a b below_d below_b =
    let rest = and-join v c (d / 2) a (b / 2) (half_lt d (2 ^ v) (subst (λ p. d < p) (pow-suc 2 v) below_d)) (half_lt b (2 ^ v) (subst (λ p. b < p) (pow-suc 2 v) below_b)) in
    and_step (c * 2 ^ suc v + d) (a * 2 ^ suc v + b)
    ∙ ap (λ x. bit_and x ((a * 2 ^ suc v + b) / 2) * 2 + min ((c * 2 ^ suc v + d) % 2) ((a * 2 ^ suc v + b) % 2)) (half_is v c d)
    ∙ ap (λ x. bit_and (c * 2 ^ v + d / 2) x * 2 + min ((c * 2 ^ suc v + d) % 2) ((a * 2 ^ suc v + b) % 2)) (half_is v a b)
    ∙ ap (λ x. bit_and (c * 2 ^ v + d / 2) (a * 2 ^ v + b / 2) * 2 + min x ((a * 2 ^ suc v + b) % 2)) (last_is v c d)
    ∙ ap (λ x. bit_and (c * 2 ^ v + d / 2) (a * 2 ^ v + b / 2) * 2 + min (d % 2) x) (last_is v a b)
    ∙ join_half _ _ (min (d % 2) (b % 2)) rest
    ∙ regroup (bit_and c a) (bit_and (d / 2) (b / 2)) (min (d % 2) (b % 2)) (2 ^ v) (2 ^ suc v) (pow-suc 2 v)
    ∙ ap (λ x. bit_and c a * 2 ^ suc v + x) (sym (and_step d b))
  where
    regroup : (x y z p q : ℕ) → q ≡ p * 2 → (x * p + y) * 2 + z ≡ x * q + (y * 2 + z)
    regroup x y z p q e = ap (λ k. k * 2 + z) refl ∙ spread x y z p ∙ ap (λ r. x * r + (y * 2 + z)) (sym e)
      where
        spread : (x y z p : ℕ) → (x * p + y) * 2 + z ≡ x * (p * 2) + (y * 2 + z)
        spread x y z p = omega (arith, mul_assoc x p 2)

-- the members of a cube are the first one and those of the numbers without their first digits
pub members-first : (width mask value : ℕ) → members (1 + width) mask value ≡ member (mask / 2 ^ width % 2) (value / 2 ^ width % 2) ∷ members width (mask % 2 ^ width) (value % 2 ^ width)
unfolding members
members-first width mask value =
    ap (λ m. members (1 + width) m value) (sym (shr_split mask width))
    ∙ ap (λ v. members (1 + width) (mask / 2 ^ width * 2 ^ width + mask % 2 ^ width) v) (sym (shr_split value width))
    ∙ members-join 1 width (mask / 2 ^ width) (mask % 2 ^ width) (value / 2 ^ width) (value % 2 ^ width) (mod-lt mask (pow_pos width)) (mod-lt value (pow_pos width))

-- the lower part of a value stays within the lower part of its mask
pub and-low : (width mask value : ℕ) → bit_and value mask ≡ value → bit_and (value % 2 ^ width) (mask % 2 ^ width) ≡ value % 2 ^ width
and-low width mask value within = sym (and_mod value mask width) ∙ ap (λ n. n % 2 ^ width) within

div_two : (width n : ℕ) → n < 2 ^ (1 + width) → n / 2 ^ width < 2
div_two width n lt = shr_lt 1 width lt

top_is : (n : ℕ) → n < 2 → n % 2 ≡ n
top_is n lt = omega arith

not_one : (n : ℕ) → n < 2 → n ≢ 1 → n ≡ 0
not_one n lt differs = omega arith

-- where the first place is fixed
pub members-first_fixed : (width mask value : ℕ) → mask < 2 ^ (1 + width) → value < 2 ^ (1 + width) → mask / 2 ^ width ≡ 1 → members (1 + width) mask value ≡ Fixed (value / 2 ^ width == 1) ∷ members width (mask % 2 ^ width) (value % 2 ^ width)
members-first_fixed width mask value mask_lt value_lt is =
    members-first width mask value
    ∙ ap (λ m. member (m % 2) (value / 2 ^ width % 2) ∷ members width (mask % 2 ^ width) (value % 2 ^ width)) is
    ∙ ap (λ v. Fixed (v == 1) ∷ members width (mask % 2 ^ width) (value % 2 ^ width)) (top_is (value / 2 ^ width) (div_two width value value_lt))

-- and where it is free
pub members-first_free : (width mask value : ℕ) → mask < 2 ^ (1 + width) → mask / 2 ^ width ≢ 1 → members (1 + width) mask value ≡ Free ∷ members width (mask % 2 ^ width) (value % 2 ^ width)
members-first_free width mask value mask_lt isnt =
    members-first width mask value
    ∙ ap (λ m. member (m % 2) (value / 2 ^ width % 2) ∷ members width (mask % 2 ^ width) (value % 2 ^ width)) (not_one (mask / 2 ^ width) (div_two width mask mask_lt) isnt)

same_bit : (a b : Bool) → not (beq a b) ≡ false → a ≡ b
same_bit true true e = refl
same_bit false false e = refl
same_bit true false e = cc
same_bit false true e = cc

other_bit : (a b : Bool) → not (beq a b) ≡ true → b ≡ a → ⊥
other_bit true true e same = cc
other_bit false false e same = cc
other_bit true false e same = cc
other_bit false true e same = cc

one_before : (width : ℕ) → 0 < width → 1 + (width - 1) ≡ width
one_before width above = omega arith

-- the members from the second one on
rest : (width mask value ones : ℕ) → ones ≡ 2 ^ width - 1 → members width (mask % 2 ^ width) (value % 2 ^ width) ≡ members width (bit_and mask ones) (bit_and value ones)
rest width mask value ones e =
    ap (λ m. members width m (value % 2 ^ width)) (sym (ap (bit_and mask) e ∙ and_mask mask width))
    ∙ ap (λ v. members width (bit_and mask ones) v) (sym (ap (bit_and value) e ∙ and_mask value width))

wider : (width n : ℕ) → 0 < width → n < 2 ^ width → n < 2 ^ (1 + (width - 1))
wider width n above lt = subst (λ w. n < 2 ^ w) (sym (one_before width above)) lt

at_first : (width mask value : ℕ) (all : List Member) → 0 < width → members (1 + (width - 1)) mask value ≡ all → members width mask value ≡ all
at_first width mask value all above e = ap (λ w. members w mask value) (sym (one_before width above)) ∙ e

fixed_first : (width mask value top low : ℕ) → 0 < width → mask < 2 ^ width → value < 2 ^ width → top ≡ mask / 2 ^ (width - 1) → low ≡ value / 2 ^ (width - 1) → top ≡ 1 → members width mask value ≡ Fixed (low == 1) ∷ members (width - 1) (mask % 2 ^ (width - 1)) (value % 2 ^ (width - 1))
fixed_first width mask value top low above mask_lt value_lt top_of low_of is =
    at_first width mask value _ above
    (members-first_fixed (width - 1) mask value (wider width mask above mask_lt) (wider width value above value_lt) (sym top_of ∙ is)
    ∙ ap (λ v. Fixed (v == 1) ∷ members (width - 1) (mask % 2 ^ (width - 1)) (value % 2 ^ (width - 1))) (sym low_of))

free_first : (width mask value top : ℕ) → 0 < width → mask < 2 ^ width → top ≡ mask / 2 ^ (width - 1) → top ≢ 1 → members width mask value ≡ Free ∷ members (width - 1) (mask % 2 ^ (width - 1)) (value % 2 ^ (width - 1))
free_first width mask value top above mask_lt top_of isnt =
    at_first width mask value _ above
    (members-first_free (width - 1) mask value (wider width mask above mask_lt) (λ is. isnt (top_of ∙ is)))

-- what begins with a fixed bit
pub first_is : (width mask value top low : ℕ) → 0 < width → mask < 2 ^ width → value < 2 ^ width → top ≡ mask / 2 ^ (width - 1) → low ≡ value / 2 ^ (width - 1) → top ≡ 1 → (bit : Bool) (bits : List Bool) → IsIn (members width mask value) (bit ∷ bits) → bit ≡ (low == 1)
first_is width mask value top low above mask_lt value_lt top_of low_of is bit bits within =
    (subst (λ all. IsIn all (bit ∷ bits)) (fixed_first width mask value top low above mask_lt value_lt top_of low_of is) within).0

pub first_other : (width mask value top : ℕ) → 0 < width → mask < 2 ^ width → top ≡ mask / 2 ^ (width - 1) → top ≢ 1 → (bit : Bool) (bits : List Bool) → IsIn (members width mask value) (bit ∷ bits) → IsIn (members width mask value) (not bit ∷ bits)
first_other width mask value top above mask_lt top_of isnt bit bits within =
    let e = free_first width mask value top above mask_lt top_of isnt in
    subst (λ all. IsIn all (not bit ∷ bits)) (sym e) (tt, (subst (λ all. IsIn all (bit ∷ bits)) e within).1)

pub after_none : (width mask value top low : ℕ) (bit : Bool) → 0 < width → mask < 2 ^ width → value < 2 ^ width → top ≡ mask / 2 ^ (width - 1) → low ≡ value / 2 ^ (width - 1) → top ≡ 1 → not (beq (low == 1) bit) ≡ true → (bits : List Bool) → IsIn (members width mask value) (bit ∷ bits) → ⊥
after_none width mask value top low bit above mask_lt value_lt top_of low_of is differs bits within =
    other_bit (low == 1) bit differs (first_is width mask value top low above mask_lt value_lt top_of low_of is bit bits within)

pub after_fixed : (width mask value top low ones : ℕ) (bit : Bool) → 0 < width → mask < 2 ^ width → value < 2 ^ width → top ≡ mask / 2 ^ (width - 1) → low ≡ value / 2 ^ (width - 1) → ones ≡ 2 ^ (width - 1) - 1 → top ≡ 1 → not (beq (low == 1) bit) ≡ false → (bits : List Bool) → IsIn (members width mask value) (bit ∷ bits) ↔ IsIn (members (width - 1) (bit_and mask ones) (bit_and value ones)) bits
after_fixed width mask value top low ones bit above mask_lt value_lt top_of low_of ones_are is same bits =
    let first = fixed_first width mask value top low above mask_lt value_lt top_of low_of is in
    let others = rest (width - 1) mask value ones ones_are in (
      λ within. subst (λ all. IsIn all bits) others (subst (λ all. IsIn all (bit ∷ bits)) first within).1,
      λ within. subst (λ all. IsIn all (bit ∷ bits)) (sym first) (sym (same_bit (low == 1) bit same), subst (λ all. IsIn all bits) (sym others) within),
    )

pub after_free : (width mask value top ones : ℕ) (bit : Bool) → 0 < width → mask < 2 ^ width → top ≡ mask / 2 ^ (width - 1) → ones ≡ 2 ^ (width - 1) - 1 → top ≢ 1 → (bits : List Bool) → IsIn (members width mask value) (bit ∷ bits) ↔ IsIn (members (width - 1) (bit_and mask ones) (bit_and value ones)) bits
after_free width mask value top ones bit above mask_lt top_of ones_are isnt bits =
    let first = free_first width mask value top above mask_lt top_of isnt in
    let others = rest (width - 1) mask value ones ones_are in (
      λ within. subst (λ all. IsIn all bits) others (subst (λ all. IsIn all (bit ∷ bits)) first within).1,
      λ within. subst (λ all. IsIn all (bit ∷ bits)) (sym first) (tt, subst (λ all. IsIn all bits) (sym others) within),
    )

-- the lower part of a mask has the lower width
pub low_lt : (width mask ones : ℕ) → ones ≡ 2 ^ width - 1 → bit_and mask ones < 2 ^ width
low_lt width mask ones e = subst (λ m. m < 2 ^ width) (sym (ap (bit_and mask) e ∙ and_mask mask width)) (mod-lt mask (pow_pos width))

pub low_within : (width mask value ones more : ℕ) → ones ≡ 2 ^ width - 1 → more ≡ 2 ^ width - 1 → bit_and value mask ≡ value → bit_and (bit_and value more) (bit_and mask ones) ≡ bit_and value more
low_within width mask value ones more e f within =
    let value_is : bit_and value more ≡ value % 2 ^ width = ap (bit_and value) f ∙ and_mask value width in
    let mask_is : bit_and mask ones ≡ mask % 2 ^ width = ap (bit_and mask) e ∙ and_mask mask width in
    ap (λ x. bit_and x (bit_and mask ones)) value_is ∙ ap (bit_and (value % 2 ^ width)) mask_is ∙ and-low width mask value within ∙ sym value_is
