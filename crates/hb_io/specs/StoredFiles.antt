-- The finite map that an ordered map from names to contents stands for.
use Rattle.std.specs.Prelude.{ℕ, map, String, string_bytes, Vec}
use Rattle.std.specs.declared.alloc.Global.{Global}
use Rattle.std.specs.BTreeMap.{BTreeMap}
use Rattle.std.specs.FinMap.{from_entries}
use Rattle.hb_io.specs.Files.{Files}

abbrev pub files_of : BTreeMap (String Global) (Vec ℕ Global) → Files
files_of stored = from_entries (map (λ entry. (string_bytes entry.0, entry.1.items)) stored.entries)
