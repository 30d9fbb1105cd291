use Rattle.std.proofs.Common.{sym, ◌≡◌, ◌^◌, ◌<◌, ◌≤◌, List, Bool, subst, bit_and, bit_or}
use Rattle.std.proofs.lemmas.Nat.{or_lt}
use Rattle.hb_bits.specs.Bits.{digits, number}
use Rattle.hb_bits.specs.BitsLaws.{number-digits}
use Rattle.hb_bits.specs.Members.{IsIn}
use Rattle.hb_bits.specs.OfCube.{members_of}
use Rattle.hb_bits.specs.declared.cube.Cube.{Cube}
use Rattle.hb_bits.specs.MembersLaws.{IsIn-digits, number-from_IsIn, clash-none, union_here, union_there, union_le, value_lt}
use Rattle.hb_bits.proofs.cube.Cube.meets.Goals as goal

-- the number of what is in a cube has the cube's value
has_value : (cube : Cube) (bits : List Bool) → IsIn (members_of cube) bits → bit_and (number bits) cube.mask ≡ cube.value
has_value cube bits is = number-from_IsIn cube.width cube.mask cube.value bits cube.in_range cube.within_mask is

pub returns-then-self-other-ne0-clause-none : goal.returns-then-self-other-ne0-clause-none
returns-then-self-other-ne0-clause-none c = λ bits both.
    c.if-self-other-ne0.true
    (clash-none (number bits) c.args.self.mask c.args.other.mask c.args.self.value c.args.other.value (has_value c.args.self bits both.0) (has_value c.args.other bits both.1))

-- the value of a cube has the cube's width
narrow_value : (cube : Cube) → cube.value < 2 ^ cube.width
narrow_value cube = value_lt cube.width cube.mask cube.value cube.in_range cube.within_mask

narrow_union : (cube other : Cube) → other.width ≡ cube.width → bit_or cube.value other.value < 2 ^ cube.width
narrow_union cube other same = or_lt cube.width cube.value other.value (narrow_value cube) (subst (λ w. other.value < 2 ^ w) same (narrow_value other))

pub invariant_of-result : goal.invariant_of-result
invariant_of-result c = record {
  narrow = c.args.self.narrow;
  in_range = narrow_union c.args.self c.args.other c.requires;
}

pub returns-clause-least : goal.returns-clause-least
returns-clause-least c =
    let here : IsIn (members_of c.args.self) (digits c.args.self.width (bit_or c.args.self.value c.args.other.value)) =
    IsIn-digits c.args.self.width (bit_or c.args.self.value c.args.other.value) c.args.self.mask c.args.self.value
    (union_here c.args.self.mask c.args.other.mask c.args.self.value c.args.other.value c.args.self.within_mask c.args.other.within_mask c.if-self-other-ne0.false) in
    let there : IsIn (members_of c.args.other) (digits c.args.self.width (bit_or c.args.self.value c.args.other.value)) =
    subst (λ w. IsIn (members_of c.args.other) (digits w (bit_or c.args.self.value c.args.other.value))) c.requires
    (IsIn-digits c.args.other.width (bit_or c.args.self.value c.args.other.value) c.args.other.mask c.args.other.value
    (union_there c.args.self.mask c.args.other.mask c.args.self.value c.args.other.value c.args.self.within_mask c.args.other.within_mask c.if-self-other-ne0.false)) in (
      (here, there),
      λ more both. subst (λ n. n ≤ number more)
          (sym (number-digits c.args.self.width (bit_or c.args.self.value c.args.other.value) (narrow_union c.args.self c.args.other c.requires)))
          (union_le (number more) c.args.self.mask c.args.other.mask c.args.self.value c.args.other.value (has_value c.args.self more both.0) (has_value c.args.other more both.1)),
    )
