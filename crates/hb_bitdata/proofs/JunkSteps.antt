-- Patterns outside of cubes, one bit further.
use Rattle.std.proofs.Common.{◌≡◌, ◌+◌, ◌-◌, ◌<◌, ◌≤◌, ◌^◌, ◌==◌, ◌∙◌, ◌↔◌, refl, sym, ap, subst, ℕ, zero, suc, Bool, true, false, not, List, [], ◌∷◌, ◌++◌, length, replicate, Option, None, Some, bit_and, arith}
use Rattle.std.specs.Int.Bits.{and_zero_r}
use Rattle.hb_bits.specs.declared.cube.Cube.{Cube}
use Rattle.std.proofs.lemmas.Nat.{pow_pos}
use Rattle.hb_bits.specs.declared.pattern.Pattern.{Pattern}
use Rattle.hb_bits.specs.OfPattern.{bits_of}
use Rattle.hb_bits.specs.Bits.{digits, number}
use Rattle.hb_bits.specs.BitsLaws.{number-lt, number-digits, length-digits}
use Rattle.hb_bits.specs.Members.{Member, IsIn, members}
use Rattle.hb_bits.specs.Members.Member.{Free}
use Rattle.hb_bits.specs.MembersLaws.{length-members}
use Rattle.hb_bits.specs.CubesLaws.{members-free}
use Rattle.hb_bits.specs.OfCube.{members_of}
use Rattle.hb_bitdata.specs.Junk.{IsOutOfAll, HaveWidth, HaveBits, IsOutside, IsLeastOutside, IsAnswer, cubes_of}
use Rattle.hb_bitdata.specs.declared.con.ConLayout.{ConLayout}
use Rattle.hb_bitdata.specs.Cubes.{has_width}
use Rattle.std.specs.List.{list_all}
use Rattle.std.proofs.lemmas.Bool.{and_parts, eqb-true}

in_free : (width : ℕ) (bits : List Bool) → length bits ≡ width → IsIn (replicate width Free) bits
in_free zero [] e = tt
in_free zero (bit ∷ bits) e = cc
in_free (suc width) [] e = cc
in_free (suc width) (bit ∷ bits) e = (tt, in_free width bits (less e))
  where
    less : suc (length bits) ≡ suc width → length bits ≡ width
    less e = omega arith

-- a cube without fixed places has all patterns of its width
pub in_whole : (cube : Cube) → cube.mask ≡ 0 → (bits : List Bool) → length bits ≡ cube.width → IsIn (members_of cube) bits
in_whole cube none bits e =
    let value_none : cube.value ≡ 0 = sym cube.within_mask ∙ ap (bit_and cube.value) none ∙ and_zero_r cube.value in
    subst (λ all. IsIn all bits)
    (sym (ap (λ m. members cube.width m cube.value) none ∙ ap (λ v. members cube.width 0 v) value_none ∙ members-free cube.width))
    (in_free cube.width bits e)

-- no pattern of no bits is out of a cube of no bits
pub none_of_none : (cubes : List Cube) (bits : List Bool) → 0 < length cubes → HaveWidth 0 cubes → IsOutside 0 cubes bits → ⊥
none_of_none [] bits some widths outside = omega arith
none_of_none (cube ∷ cubes) bits some widths outside = empty (members_of cube) bits (length-members cube.width cube.mask cube.value ∙ widths.0) outside.wide outside.out.0
  where
    empty : (all : List Member) (bits : List Bool) → length all ≡ 0 → length bits ≡ 0 → (IsIn all bits → ⊥) → ⊥
    empty [] [] e f out = out tt
    empty (m ∷ all) bits e f out = cc
    empty [] (bit ∷ bits) e f out = cc

shorter : (n width : ℕ) → suc n ≡ width → n ≡ width - 1
shorter n width e = omega arith

longer : (n width : ℕ) → 0 < width → n ≡ width - 1 → suc n ≡ width
longer n width above e = omega arith

pub have_bits : (width : ℕ) (cubes : List Cube) → 0 < width → HaveWidth width cubes → HaveBits cubes
have_bits width [] above wide = tt
have_bits width (cube ∷ cubes) above wide = (subst (λ w. 0 < w) (sym wide.0) above, have_bits width cubes above wide.1)

pub width_push : (width : ℕ) (cubes : List Cube) (cube : Cube) → HaveWidth width cubes → cube.width ≡ width → HaveWidth width (cubes ++ cube ∷ [])
width_push width [] cube wide e = (e, tt)
width_push width (first ∷ cubes) cube wide e = (wide.0, width_push width cubes cube wide.1 e)

pub out_push : (cubes : List Cube) (cube : Cube) (bits : List Bool) → IsOutOfAll cubes bits → (IsIn (members_of cube) bits → ⊥) → IsOutOfAll (cubes ++ cube ∷ []) bits
out_push [] cube bits all out = (out, tt)
out_push (first ∷ cubes) cube bits all out = (all.0, out_push cubes cube bits all.1 out)

pub out_parts : (cubes : List Cube) (cube : Cube) (bits : List Bool) → IsOutOfAll (cubes ++ cube ∷ []) bits → IsOutOfAll cubes bits × (IsIn (members_of cube) bits → ⊥)
out_parts [] cube bits all = (tt, all.0)
out_parts (first ∷ cubes) cube bits all =
    let rest = out_parts cubes cube bits all.1 in
    ((all.0, rest.0), rest.1)

-- what stays outside after a first bit
abbrev pub Follow : Bool → List Cube → List Cube → Type 0
Follow bit cubes kept = (bits : List Bool) → (IsOutOfAll cubes (bit ∷ bits) ↔ IsOutOfAll kept bits)

abbrev pub NoneOutside : ℕ → List Cube → Type 0
NoneOutside width cubes = (bits : List Bool) → IsOutside width cubes bits → ⊥

pub outside_after : (width : ℕ) (cubes kept : List Cube) (bit : Bool) (bits : List Bool) → Follow bit cubes kept → IsOutside width cubes (bit ∷ bits) → IsOutside (width - 1) kept bits
outside_after width cubes kept bit bits follow outside = record { wide = shorter (length bits) width outside.wide; out = (follow bits).0 outside.out }

pub outside_before : (width : ℕ) (cubes kept : List Cube) (bit : Bool) (bits : List Bool) → 0 < width → Follow bit cubes kept → IsOutside (width - 1) kept bits → IsOutside width cubes (bit ∷ bits)
outside_before width cubes kept bit bits above follow outside = record { wide = longer (length bits) width above outside.wide; out = (follow bits).1 outside.out }

no_bits : (width : ℕ) → 0 < width → 0 ≡ width → ⊥
no_bits width above e = omega arith

zero_first : (n m p : ℕ) → n ≤ m → 0 + n ≤ 0 + m
zero_first n m p le = omega arith

one_above : (n m p q : ℕ) → n < p → p ≡ q → 0 + n ≤ q + m
one_above n m p q lt e = omega arith

both_one : (n m p q : ℕ) → n ≤ m → p ≡ q → p + n ≤ q + m
both_one n m p q le e = omega arith

-- the least pattern begins with 0 where one that does is outside
pub least_zero : (width : ℕ) (cubes zeros : List Cube) (bits : List Bool) → 0 < width → Follow false cubes zeros → IsLeastOutside (width - 1) zeros bits → IsLeastOutside width cubes (false ∷ bits)
least_zero width cubes zeros bits above follow least = record { outside = outside_before width cubes zeros false bits above follow least.outside; least = below }
  where
    below : (more : List Bool) → IsOutside width cubes more → number (false ∷ bits) ≤ number more
    below [] outside = absurd (no_bits width above outside.wide)
    below (false ∷ more) outside = zero_first (number bits) (number more) 0 (least.least more (outside_after width cubes zeros false more follow outside))
    below (true ∷ more) outside =
        one_above (number bits) (number more) (2 ^ length bits) (2 ^ length more) (number-lt bits)
        (ap (λ n. 2 ^ n) (least.outside.wide ∙ sym (shorter (length more) width outside.wide)))

-- else it begins with 1
pub least_one : (width : ℕ) (cubes zeros ones : List Cube) (bits : List Bool) → 0 < width → Follow false cubes zeros → NoneOutside (width - 1) zeros → Follow true cubes ones → IsLeastOutside (width - 1) ones bits → IsLeastOutside width cubes (true ∷ bits)
least_one width cubes zeros ones bits above follow none follow_one least = record { outside = outside_before width cubes ones true bits above follow_one least.outside; least = below }
  where
    below : (more : List Bool) → IsOutside width cubes more → number (true ∷ bits) ≤ number more
    below [] outside = absurd (no_bits width above outside.wide)
    below (false ∷ more) outside = absurd (none more (outside_after width cubes zeros false more follow outside))
    below (true ∷ more) outside =
        both_one (number bits) (number more) (2 ^ length bits) (2 ^ length more) (least.least more (outside_after width cubes ones true more follow_one outside))
        (ap (λ n. 2 ^ n) (least.outside.wide ∙ sym (shorter (length more) width outside.wide)))

pub none_outside : (width : ℕ) (cubes zeros ones : List Cube) → 0 < width → Follow false cubes zeros → NoneOutside (width - 1) zeros → Follow true cubes ones → NoneOutside (width - 1) ones → NoneOutside width cubes
none_outside width cubes zeros ones above follow none follow_one none_one [] outside = no_bits width above outside.wide
none_outside width cubes zeros ones above follow none follow_one none_one (false ∷ bits) outside = none bits (outside_after width cubes zeros false bits follow outside)
none_outside width cubes zeros ones above follow none follow_one none_one (true ∷ bits) outside = none_one bits (outside_after width cubes ones true bits follow_one outside)

-- where the first bit does not matter, one that begins with 1 would have a like that begins with 0
pub none_free : (width : ℕ) (cubes zeros : List Cube) → 0 < width → Follow false cubes zeros → NoneOutside (width - 1) zeros → ((bit : Bool) (bits : List Bool) → IsOutOfAll cubes (bit ∷ bits) → IsOutOfAll cubes (not bit ∷ bits)) → NoneOutside width cubes
none_free width cubes zeros above follow none free [] outside = no_bits width above outside.wide
none_free width cubes zeros above follow none free (false ∷ bits) outside = none bits (outside_after width cubes zeros false bits follow outside)
none_free width cubes zeros above follow none free (true ∷ bits) outside =
    none bits (outside_after width cubes zeros false bits follow (record { wide = outside.wide; out = free true bits outside.out }))

not_not : (bit : Bool) → not (not bit) ≡ bit
not_not true = refl
not_not false = refl

-- one more cube that leaves the first bit free
pub free_step : (cube : Cube) (bit : Bool) (bits : List Bool) → ((b : Bool) (bs : List Bool) → IsIn (members_of cube) (b ∷ bs) → IsIn (members_of cube) (not b ∷ bs)) → (IsIn (members_of cube) (bit ∷ bits) → ⊥) → IsIn (members_of cube) (not bit ∷ bits) → ⊥
free_step cube bit bits free out is = out (subst (λ b. IsIn (members_of cube) (b ∷ bits)) (not_not bit) (free (not bit) bits is))

pub one_less : (n width : ℕ) → n + 1 ≡ width + 1 → n ≡ width
one_less n width e = omega arith

-- where there is no cube, zeros are the least
pub least_of_all : (width : ℕ) (cubes : List Cube) → cubes ≡ [] → IsLeastOutside width cubes (digits width 0)
least_of_all width cubes none = record { outside = record { wide = length-digits width 0; out = subst (λ l. IsOutOfAll l (digits width 0)) (sym none) tt }; least = λ more outside. none_less (number more) (number-digits width 0 (pow_pos width)) }
  where
    none_less : (n : ℕ) → number (digits width 0) ≡ 0 → number (digits width 0) ≤ n
    none_less n e = omega arith

pub none_of_width : (width : ℕ) (cubes : List Cube) → width ≡ 0 → 0 < length cubes → HaveWidth width cubes → NoneOutside width cubes
none_of_width width cubes none some widths bits outside =
    none_of_none cubes bits some (subst (λ w. HaveWidth w cubes) none widths) (subst (λ w. IsOutside w cubes bits) none outside)

pub answered_some : (width : ℕ) (cubes : List Cube) (found : Option Pattern) (pattern : Pattern) → found ≡ Some pattern → IsAnswer width cubes found → (pattern.width ≡ width) × IsLeastOutside width cubes (bits_of pattern)
answered_some width cubes found pattern e is = subst (IsAnswer width cubes) e is

pub answered_none : (width : ℕ) (cubes : List Cube) (found : Option Pattern) → found ≡ None → IsAnswer width cubes found → NoneOutside width cubes
answered_none width cubes found e is = subst (IsAnswer width cubes) e is

pub never_some : (found : Option Pattern) → ((pattern : Pattern) → found ≡ Some pattern → ⊥) → found ≡ None
never_some None never = refl
never_some (Some pattern) never = absurd (never pattern refl)

pub positive : (n : ℕ) → (n ≡ 0 → ⊥) → 0 < n
positive n differs = omega arith

pub width_back : (n rest width : ℕ) → n ≡ rest + 1 → rest ≡ width - 1 → 0 < width → n ≡ width
width_back n rest width e f above = omega arith

pub some_cubes : (n : ℕ) → (n == 0) ≡ false → 0 < n
some_cubes zero e = cc
some_cubes (suc n) e = omega arith

-- the cubes of constructors of one width have it
pub widths_of : (width : ℕ) (cons : List ConLayout) → list_all (has_width width) cons ≡ true → HaveWidth width (cubes_of cons)
widths_of width [] e = tt
widths_of width (con ∷ cons) e =
    let parts = and_parts (has_width width con) (list_all (has_width width) cons) e in
    (eqb-true _ _ parts.0, widths_of width cons parts.1)
