use Rattle.std.proofs.Common.{◌<◌, ◌^◌}
use Rattle.hb_bits.specs.MembersLaws.{value_lt}
use Rattle.hb_bits.specs.CubesLaws.{first_is, first_other}
use Rattle.hb_bits.specs.declared.cube.Cube.{Cube}
use Rattle.hb_bits.proofs.cube.Cube.first.Goals as goal

-- the value of a cube has the cube's width
narrow_value : (cube : Cube) → cube.value < 2 ^ cube.width
narrow_value cube = value_lt cube.width cube.mask cube.value cube.in_range cube.within_mask

pub returns-then-shifted_down-eq1-clause-fixed : goal.returns-then-shifted_down-eq1-clause-fixed
returns-then-shifted_down-eq1-clause-fixed c =
    let cube = c.args.self in
    first_is cube.width cube.mask cube.value _ _ c.requires cube.in_range (narrow_value cube) c.shifted_down.ensures c.shifted_down-then-shifted_down-eq1.ensures c.if-shifted_down-eq1.true

pub returns-else-shifted_down-eq1-clause-free : goal.returns-else-shifted_down-eq1-clause-free
returns-else-shifted_down-eq1-clause-free c =
    let cube = c.args.self in
    first_other cube.width cube.mask cube.value _ c.requires cube.in_range c.shifted_down.ensures c.if-shifted_down-eq1.false
