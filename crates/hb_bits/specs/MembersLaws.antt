-- Laws of cubes as lists of members, stated once over the width.
use Rattle.std.specs.Prelude.{◌≡◌, ℕ, zero, suc, ◌+◌, ◌*◌, ◌/◌, ◌%◌, ◌^◌, ◌<◌, ◌≤◌, ◌==◌, min, max, Bool, List, [], ◌∷◌, ◌++◌, length, bit_and, bit_or, bit_xor}
use Rattle.std.proofs.Common.{refl, sym, ap, subst, ◌∙◌, arith, length-append}
use Rattle.std.proofs.Math.Nat.{pow-suc}
use Rattle.std.specs.Int.{bit_at}
use Rattle.std.specs.Int.Bits.{and_step, and_zero_r}
use Rattle.std.proofs.lemmas.Nat.{and_le_l, and_le_r}
use Rattle.std.proofs.lemmas.Nat.Bits.{bit_at_and, bit_at_or, bit_at_xor, bit_at-lt, bit_at-zero, same_from_bits}
use Rattle.hb_bits.specs.Bits.{digits, number}
use Rattle.hb_bits.specs.BitsLaws.{digits-number}
use Rattle.hb_bits.specs.Members.{Member, member, members, Agrees, IsIn}

pub length-members : (width mask value : ℕ) → length (members width mask value) ≡ width
unfolding members
length-members zero mask value = refl
length-members (suc width) mask value =
    let before = length-members width (mask / 2) (value / 2) in
    omega (arith, length-append (members width (mask / 2) (value / 2)) (member (mask % 2) (value % 2) ∷ []), before)

-- what is in a cube has its width
pub IsIn-length : (cube : List Member) (bits : List Bool) → IsIn cube bits → length bits ≡ length cube
IsIn-length [] [] is = refl
IsIn-length [] (bit ∷ bits) is = absurd is
IsIn-length (first ∷ cube) [] is = absurd is
IsIn-length (first ∷ cube) (bit ∷ bits) is = ap suc (IsIn-length cube bits is.1)

IsIn-push : (cube : List Member) (last : Member) (bits : List Bool) (bit : Bool) → IsIn cube bits → Agrees last bit → IsIn (cube ++ last ∷ []) (bits ++ bit ∷ [])
IsIn-push [] last [] bit is agrees = (agrees, tt)
IsIn-push [] last (b ∷ bits) bit is agrees = absurd is
IsIn-push (m ∷ cube) last [] bit is agrees = absurd is
IsIn-push (m ∷ cube) last (b ∷ bits) bit is agrees = (is.0, IsIn-push cube last bits bit is.1 agrees)

IsIn-parts : (cube : List Member) (last : Member) (bits : List Bool) (bit : Bool) → IsIn (cube ++ last ∷ []) (bits ++ bit ∷ []) → IsIn cube bits × Agrees last bit
IsIn-parts [] last [] bit is = (tt, is.0)
IsIn-parts [] last (b ∷ []) bit is = absurd is.1
IsIn-parts [] last (b ∷ c ∷ bits) bit is = absurd is.1
IsIn-parts (m ∷ []) last [] bit is = absurd is.1
IsIn-parts (m ∷ k ∷ cube) last [] bit is = absurd is.1
IsIn-parts (m ∷ cube) last (b ∷ bits) bit is =
    let rest = IsIn-parts cube last bits bit is.1 in
    ((is.0, rest.0), rest.1)

-- one place
agrees : (n m v : ℕ) → n < 2 → m < 2 → min n m ≡ v → Agrees (member m v) (n == 1)
agrees n zero v below_n below_m e = tt
agrees zero (suc zero) v below_n below_m e = ap (λ x. x == 1) e
agrees (suc zero) (suc zero) v below_n below_m e = ap (λ x. x == 1) e
agrees (suc (suc n)) (suc zero) v below_n below_m e = absurd (omega arith)
agrees n (suc (suc m)) v below_n below_m e = absurd (omega arith)

agrees-back : (n m v : ℕ) → n < 2 → m < 2 → v < 2 → min v m ≡ v → Agrees (member m v) (n == 1) → min n m ≡ v
agrees-back n zero v below_n below_m below_v within a = omega arith
agrees-back zero (suc zero) zero below_n below_m below_v within a = refl
agrees-back zero (suc zero) (suc zero) below_n below_m below_v within a = cc
agrees-back (suc zero) (suc zero) zero below_n below_m below_v within a = cc
agrees-back (suc zero) (suc zero) (suc zero) below_n below_m below_v within a = refl
agrees-back (suc (suc n)) (suc zero) v below_n below_m below_v within a = absurd (omega arith)
agrees-back n (suc zero) (suc (suc v)) below_n below_m below_v within a = absurd (omega arith)
agrees-back n (suc (suc m)) v below_n below_m below_v within a = absurd (omega arith)

upper : (x y v : ℕ) → y < 2 → x * 2 + y ≡ v → x ≡ v / 2
upper x y v below e = omega arith

lower : (x y v : ℕ) → y < 2 → x * 2 + y ≡ v → y ≡ v % 2
lower x y v below e = omega arith

whole : (x y v : ℕ) → x ≡ v / 2 → y ≡ v % 2 → x * 2 + y ≡ v
whole x y v p q = omega arith

least_below : (a b : ℕ) → a < 2 → min a b < 2
least_below a b below = omega arith

half_lt : (b p : ℕ) → b < p * 2 → b / 2 < p
half_lt b p lt = omega arith

below_one : (b : ℕ) → b < 1 → b ≡ 0
below_one b lt = omega arith

two_lt : (n : ℕ) → n % 2 < 2
two_lt n = omega arith

half_and : (n m v : ℕ) → bit_and n m ≡ v → bit_and (n / 2) (m / 2) ≡ v / 2
half_and n m v e = upper _ _ v (least_below (n % 2) (m % 2) (two_lt n)) (sym (and_step n m) ∙ e)

last_and : (n m v : ℕ) → bit_and n m ≡ v → min (n % 2) (m % 2) ≡ v % 2
last_and n m v e = lower (bit_and (n / 2) (m / 2)) _ v (least_below (n % 2) (m % 2) (two_lt n)) (sym (and_step n m) ∙ e)

-- a number that has the value under the mask has its digits in the cube
pub IsIn-digits : (width n mask value : ℕ) → bit_and n mask ≡ value → IsIn (members width mask value) (digits width n)
unfolding members digits
IsIn-digits zero n mask value e = tt
IsIn-digits (suc width) n mask value e =
    IsIn-push (members width (mask / 2) (value / 2)) (member (mask % 2) (value % 2)) (digits width (n / 2)) (n % 2 == 1)
    (IsIn-digits width (n / 2) (mask / 2) (value / 2) (half_and n mask value e))
    (agrees (n % 2) (mask % 2) (value % 2) (two_lt n) (two_lt mask) (last_and n mask value e))

-- and the other way round, for a value that stays within a mask of this width
pub and-from_IsIn : (width n mask value : ℕ) → mask < 2 ^ width → bit_and value mask ≡ value → IsIn (members width mask value) (digits width n) → bit_and n mask ≡ value
unfolding members digits
and-from_IsIn zero n mask value lt within is =
    let none = below_one mask lt in
    ap (bit_and n) none ∙ and_zero_r n ∙ sym (and_zero_r value) ∙ ap (bit_and value) (sym none) ∙ within
and-from_IsIn (suc width) n mask value lt within is =
    let parts = IsIn-parts (members width (mask / 2) (value / 2)) (member (mask % 2) (value % 2)) (digits width (n / 2)) (n % 2 == 1) is in
    and_step n mask
    ∙ whole _ _ value
    (and-from_IsIn width (n / 2) (mask / 2) (value / 2) (half_lt mask (2 ^ width) (subst (λ p. mask < p) (pow-suc 2 width) lt)) (half_and value mask value within) parts.0)
    (agrees-back (n % 2) (mask % 2) (value % 2) (two_lt n) (two_lt mask) (two_lt value) (last_and value mask value within) parts.1)

-- what is in a cube has the value under the mask
pub number-from_IsIn : (width mask value : ℕ) (bits : List Bool) → mask < 2 ^ width → bit_and value mask ≡ value → IsIn (members width mask value) bits → bit_and (number bits) mask ≡ value
number-from_IsIn width mask value bits lt within is =
    let wide : length bits ≡ width = IsIn-length (members width mask value) bits is ∙ length-members width mask value in
    and-from_IsIn width (number bits) mask value lt within
    (subst (IsIn (members width mask value)) (sym (digits-number bits) ∙ ap (λ w. digits w (number bits)) wide) is)

-- at one place: a bit of a number, of two masks and of two values
no_clash : (a p q : ℕ) → a < 2 → p < 2 → q < 2 → min (min ((min a p + min a q) % 2) p) q ≡ 0
no_clash a p q below_a below_p below_q = omega arith

both_here : (x y p q : ℕ) → x < 2 → y < 2 → p < 2 → q < 2 → min x p ≡ x → min y q ≡ y → min (min ((x + y) % 2) p) q ≡ 0 → min (max x y) p ≡ x
both_here x y p q below_x below_y below_p below_q in_p in_q none = omega arith

both_there : (x y p q : ℕ) → x < 2 → y < 2 → p < 2 → q < 2 → min x p ≡ x → min y q ≡ y → min (min ((x + y) % 2) p) q ≡ 0 → min (max x y) q ≡ y
both_there x y p q below_x below_y below_p below_q in_p in_q none = omega arith

spread : (a p q : ℕ) → max (min a p) (min a q) ≡ min a (max p q)
spread a p q = omega arith

bit_of_clash : (v w p q i : ℕ) → bit_at (bit_and (bit_and (bit_xor v w) p) q) i ≡ min (min ((bit_at v i + bit_at w i) % 2) (bit_at p i)) (bit_at q i)
bit_of_clash v w p q i =
    bit_at_and (bit_and (bit_xor v w) p) q i
    ∙ ap (λ x. min x (bit_at q i)) (bit_at_and (bit_xor v w) p i ∙ ap (λ x. min x (bit_at p i)) (bit_at_xor v w i))

-- the places where two values differ though both masks fix them: none, where one number has both
pub clash-none : (n p q v w : ℕ) → bit_and n p ≡ v → bit_and n q ≡ w → bit_and (bit_and (bit_xor v w) p) q ≡ 0
clash-none n p q v w here there =
    same_from_bits _ 0 (λ i.
    bit_of_clash v w p q i
    ∙ ap (λ x. min (min ((bit_at x i + bit_at w i) % 2) (bit_at p i)) (bit_at q i)) (sym here)
    ∙ ap (λ x. min (min ((x + bit_at w i) % 2) (bit_at p i)) (bit_at q i)) (bit_at_and n p i)
    ∙ ap (λ x. min (min ((min (bit_at n i) (bit_at p i) + bit_at x i) % 2) (bit_at p i)) (bit_at q i)) (sym there)
    ∙ ap (λ x. min (min ((min (bit_at n i) (bit_at p i) + x) % 2) (bit_at p i)) (bit_at q i)) (bit_at_and n q i)
    ∙ no_clash (bit_at n i) (bit_at p i) (bit_at q i) (bit_at-lt n i) (bit_at-lt p i) (bit_at-lt q i)
    ∙ sym (bit_at-zero i))

-- where there is none, the ones of both values together have both
both_have : (p v i : ℕ) → bit_and v p ≡ v → min (bit_at v i) (bit_at p i) ≡ bit_at v i
both_have p v i within = sym (bit_at_and v p i) ∙ ap (λ x. bit_at x i) within

bit_of_union : (v w p i : ℕ) → bit_at (bit_and (bit_or v w) p) i ≡ min (max (bit_at v i) (bit_at w i)) (bit_at p i)
bit_of_union v w p i = bit_at_and (bit_or v w) p i ∙ ap (λ x. min x (bit_at p i)) (bit_at_or v w i)

none_at : (v w p q i : ℕ) → bit_and (bit_and (bit_xor v w) p) q ≡ 0 → min (min ((bit_at v i + bit_at w i) % 2) (bit_at p i)) (bit_at q i) ≡ 0
none_at v w p q i none = sym (bit_of_clash v w p q i) ∙ ap (λ x. bit_at x i) none ∙ bit_at-zero i

pub union_here : (p q v w : ℕ) → bit_and v p ≡ v → bit_and w q ≡ w → bit_and (bit_and (bit_xor v w) p) q ≡ 0 → bit_and (bit_or v w) p ≡ v
union_here p q v w in_p in_q none =
    same_from_bits _ v (λ i.
    bit_of_union v w p i
    ∙ both_here (bit_at v i) (bit_at w i) (bit_at p i) (bit_at q i) (bit_at-lt v i) (bit_at-lt w i) (bit_at-lt p i) (bit_at-lt q i) (both_have p v i in_p) (both_have q w i in_q) (none_at v w p q i none))

pub union_there : (p q v w : ℕ) → bit_and v p ≡ v → bit_and w q ≡ w → bit_and (bit_and (bit_xor v w) p) q ≡ 0 → bit_and (bit_or v w) q ≡ w
union_there p q v w in_p in_q none =
    same_from_bits _ w (λ i.
    bit_of_union v w q i
    ∙ both_there (bit_at v i) (bit_at w i) (bit_at p i) (bit_at q i) (bit_at-lt v i) (bit_at-lt w i) (bit_at-lt p i) (bit_at-lt q i) (both_have p v i in_p) (both_have q w i in_q) (none_at v w p q i none))

-- and no number that has both is less
pub union_le : (n p q v w : ℕ) → bit_and n p ≡ v → bit_and n q ≡ w → bit_or v w ≤ n
union_le n p q v w here there =
    let together : bit_or (bit_and n p) (bit_and n q) ≡ bit_and n (bit_or p q) =
    same_from_bits _ _ (λ i.
    bit_at_or (bit_and n p) (bit_and n q) i
    ∙ ap (λ x. max x (bit_at (bit_and n q) i)) (bit_at_and n p i)
    ∙ ap (λ x. max (min (bit_at n i) (bit_at p i)) x) (bit_at_and n q i)
    ∙ spread (bit_at n i) (bit_at p i) (bit_at q i)
    ∙ ap (λ x. min (bit_at n i) x) (sym (bit_at_or p q i))
    ∙ sym (bit_at_and n (bit_or p q) i)) in
    let most : bit_and n (bit_or p q) ≤ n = and_le_l n (bit_or p q) in
    subst (λ x. x ≤ n) (sym together ∙ ap (λ x. bit_or x (bit_and n q)) here ∙ ap (bit_or v) there) most

-- a value that stays within a mask of this width has this width
pub value_lt : (width mask value : ℕ) → mask < 2 ^ width → bit_and value mask ≡ value → value < 2 ^ width
value_lt width mask value lt within =
    let most = and_le_r value mask in
    omega (arith, most, within)
