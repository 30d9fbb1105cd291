use Rattle.std.proofs.Common.{◌≡◌, ◌∙◌, sym, ap, subst, ℕ, ◌+◌, ◌*◌, ◌^◌, ◌<◌, bit_or, bit_and}
use Rattle.std.proofs.lemmas.Nat.{or_shifted}
use Rattle.hb_bits.specs.Members.{members}
use Rattle.hb_bits.specs.MembersLaws.{value_lt}
use Rattle.hb_bits.specs.BitsLaws.{joined_lt, moved_lt}
use Rattle.hb_bits.specs.CubesLaws.{members-join, and-join}
use Rattle.hb_bits.specs.declared.cube.Cube.{Cube}
use Rattle.hb_bits.proofs.cube.Cube.join.Goals as goal

-- the value of a cube has the cube's width
narrow_value : (cube : Cube) → cube.value < 2 ^ cube.width
narrow_value cube = value_lt cube.width cube.mask cube.value cube.in_range cube.within_mask

pub shifted_up-requires-clause-fits : goal.shifted_up-requires-clause-fits
shifted_up-requires-clause-fits c = moved_lt c.args.self.width c.args.low.width c.args.self.mask c.args.self.in_range c.requires

pub shifted_up-requires-2-clause-fits : goal.shifted_up-requires-2-clause-fits
shifted_up-requires-2-clause-fits c = moved_lt c.args.self.width c.args.low.width c.args.self.value (narrow_value c.args.self) c.requires

-- a number moved up, and then another
parts : (high low width up : ℕ) → up ≡ high * 2 ^ width → low < 2 ^ width → bit_or up low ≡ high * 2 ^ width + low
parts high low width up e lt = ap (λ x. bit_or x low) e ∙ or_shifted high width low lt

pub invariant_of-result : goal.invariant_of-result
invariant_of-result c =
    let mask_is = parts c.args.self.mask c.args.low.mask c.args.low.width c.shifted_up.result c.shifted_up.ensures c.args.low.in_range in
    let value_is = parts c.args.self.value c.args.low.value c.args.low.width c.shifted_up-2.result c.shifted_up-2.ensures (narrow_value c.args.low) in record {
      narrow = c.requires;
      in_range = subst (λ n. n < 2 ^ (c.args.self.width + c.args.low.width)) (sym mask_is)
          (joined_lt c.args.self.width c.args.low.width c.args.self.mask c.args.low.mask c.args.self.in_range c.args.low.in_range);
      within_mask =
          ap (λ v. bit_and v (bit_or c.shifted_up.result c.args.low.mask)) value_is
          ∙ ap (bit_and (c.args.self.value * 2 ^ c.args.low.width + c.args.low.value)) mask_is
          ∙ and-join c.args.low.width c.args.self.value c.args.low.value c.args.self.mask c.args.low.mask (narrow_value c.args.low) c.args.low.in_range
          ∙ ap (λ x. x * 2 ^ c.args.low.width + bit_and c.args.low.value c.args.low.mask) c.args.self.within_mask
          ∙ ap (λ x. c.args.self.value * 2 ^ c.args.low.width + x) c.args.low.within_mask
          ∙ sym value_is;
    }

pub returns-clause-members : goal.returns-clause-members
returns-clause-members c =
    let mask_is = parts c.args.self.mask c.args.low.mask c.args.low.width c.shifted_up.result c.shifted_up.ensures c.args.low.in_range in
    let value_is = parts c.args.self.value c.args.low.value c.args.low.width c.shifted_up-2.result c.shifted_up-2.ensures (narrow_value c.args.low) in
    ap (λ m. members (c.args.self.width + c.args.low.width) m (bit_or c.shifted_up-2.result c.args.low.value)) mask_is
    ∙ ap (λ v. members (c.args.self.width + c.args.low.width) (c.args.self.mask * 2 ^ c.args.low.width + c.args.low.mask) v) value_is
    ∙ members-join c.args.self.width c.args.low.width c.args.self.mask c.args.low.mask c.args.self.value c.args.low.value c.args.low.in_range (narrow_value c.args.low)
