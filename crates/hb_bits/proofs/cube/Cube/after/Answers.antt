use Rattle.std.proofs.Common.{◌<◌, ◌^◌, arith}
use Rattle.hb_bits.specs.MembersLaws.{value_lt}
use Rattle.hb_bits.specs.CubesLaws.{after_none, after_fixed, after_free, low_lt, low_within}
use Rattle.hb_bits.specs.declared.cube.Cube.{Cube}
use Rattle.hb_bits.proofs.cube.Cube.after.Goals as goal
use Rattle.hb_bits.proofs.cube.Cube.after.Goals.{else-shifted_down-eq1-via-then-shifted_down-eq1+else-shifted_down-bit, else-shifted_down-eq1-via-else-shifted_down-eq1}

-- the value of a cube has the cube's width
narrow_value : (cube : Cube) → cube.value < 2 ^ cube.width
narrow_value cube = value_lt cube.width cube.mask cube.value cube.in_range cube.within_mask

pub returns-then-shifted_down-bit-clause-none : goal.returns-then-shifted_down-bit-clause-none
returns-then-shifted_down-bit-clause-none c =
    let cube = c.args.self in
    after_none cube.width cube.mask cube.value _ _ c.args.bit c.requires cube.in_range (narrow_value cube) c.shifted_down.ensures c.shifted_down-then-shifted_down-eq1.ensures c.if-shifted_down-eq1.true c.if-shifted_down-bit.true

pub invariant_of-result : goal.invariant_of-result
invariant_of-result c =
    let cube = c.args.self in
    let narrow = cube.narrow in record {
      narrow = omega (arith, narrow);
      in_range = low_lt _ cube.mask _ c.ones-kept.ensures;
      within_mask = low_within _ cube.mask cube.value _ _ c.ones-kept.ensures c.ones-kept.ensures cube.within_mask;
    }

pub returns-clause-some : goal.returns-clause-some
returns-clause-some c =
    let cube = c.args.self in
    elim c.else-shifted_down-eq1.branch [
      | else-shifted_down-eq1-via-then-shifted_down-eq1+else-shifted_down-bit w ↦ after_fixed cube.width cube.mask cube.value _ _ _ c.args.bit c.requires cube.in_range (narrow_value cube) c.shifted_down.ensures w.shifted_down-then-shifted_down-eq1.ensures c.ones-kept.ensures w.if-shifted_down-eq1.true w.if-shifted_down-bit.false
      | else-shifted_down-eq1-via-else-shifted_down-eq1 w ↦ after_free cube.width cube.mask cube.value _ _ c.args.bit c.requires cube.in_range c.shifted_down.ensures c.ones-kept.ensures w.if-shifted_down-eq1.false
    ]
