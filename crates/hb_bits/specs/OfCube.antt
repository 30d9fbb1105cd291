-- The members of a cube.
use Rattle.std.specs.Prelude.{List}
use Rattle.hb_bits.specs.declared.cube.Cube.{Cube}
use Rattle.hb_bits.specs.Members.{Member, members}

abbrev pub members_of : Cube → List Member
members_of cube = members cube.width cube.mask cube.value
