-- What can be seen from outside before and after a call: files, the bytes that the sink took, and counts of faults.
use Rattle.std.specs.Prelude.{ℕ, List, Option}
use Rattle.hb_io.specs.Files.{Files}

-- what a shelf tells
pub record Shelved : Type 0 where
  pub files : Option Files
  pub read_faults : ℕ
  pub write_faults : ℕ

abbrev pub shelved : Option Files → ℕ → ℕ → Shelved
shelved files read_faults write_faults = record { files = files; read_faults = read_faults; write_faults = write_faults }

-- what a sink tells
pub record Printed : Type 0 where
  pub taken : Option (List ℕ)
  pub faults : ℕ

abbrev pub printed : Option (List ℕ) → ℕ → Printed
printed taken faults = record { taken = taken; faults = faults }

pub record World : Type 0 where
  pub shelf : Shelved
  pub sink : Printed

abbrev pub world : Shelved → Printed → World
world shelf sink = record { shelf = shelf; sink = sink }
