-- A fact for one of the answers of a shelf.
use Rattle.std.specs.Prelude.{Result, Ok, Err}
use Rattle.hb_io.specs.declared.shelf.ShelfError.{ShelfError}
use Rattle.hb_io.specs.declared.shelf.ShelfError.TheVariants.{Failed, Memory}

abbrev pub OnFailed : {T : Type 0} → Result T ShelfError → Type 0 → Type 0
OnFailed (Ok value) fact = Unit {0}
OnFailed (Err Failed) fact = fact
OnFailed (Err Memory) fact = Unit {0}

abbrev pub UnlessFailed : {T : Type 0} → Result T ShelfError → Type 0 → Type 0
UnlessFailed (Ok value) fact = fact
UnlessFailed (Err Failed) fact = Unit {0}
UnlessFailed (Err Memory) fact = fact

abbrev pub OnMemory : {T : Type 0} → Result T ShelfError → Type 0 → Type 0
OnMemory (Ok value) fact = Unit {0}
OnMemory (Err Failed) fact = Unit {0}
OnMemory (Err Memory) fact = fact
