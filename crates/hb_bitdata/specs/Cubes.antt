-- The cubes of constructors.
use Rattle.std.specs.Prelude.{ℕ, Bool, ◌==◌}
use Rattle.hb_bitdata.specs.declared.con.ConLayout.{ConLayout}

abbrev pub has_width : ℕ → ConLayout → Bool
has_width width con = con.cube.width == width
