-- The files of a shelf as one value: a finite map from names to contents, both of them bytes.
use Rattle.std.specs.Prelude.{◌≡◌, ℕ, List, take, Option, None, Some}
use Rattle.std.specs.Option.{option_map}
use Rattle.std.specs.Ordering.{nat_cmp}
use Rattle.std.specs.Cmp.Lexicographic.{slice_cmp}
use Rattle.std.specs.FinMap as map

abbrev pub Files : Type 0
Files = map.FinMap (slice_cmp nat_cmp) (List ℕ)

-- the named file now holds just these bytes, and the others are as they were
abbrev pub written : Option Files → List ℕ → List ℕ → Option Files
written None name bytes = None
written (Some files) name bytes = Some (map.insert files name bytes)

-- every file but the named one
abbrev pub without : Option Files → List ℕ → Option Files
without None name = None
without (Some files) name = Some (map.remove files name)

-- there is a file of that name, and these are its first `cap` bytes
abbrev pub HoldsFront : Option Files → List ℕ → ℕ → List ℕ → Type 0
HoldsFront None name cap bytes = Unit {0}
HoldsFront (Some files) name cap bytes = option_map (take cap) (map.get files name) ≡ Some bytes
