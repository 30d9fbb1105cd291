-- A token is taken or not.
use Rattle.std.specs.Prelude.{◌≡◌, Bool, true, false, Option, Some, None, Result, Ok, Err}
use Rattle.hb_base.specs.declared.memory.Memory.{Memory}
use Rattle.hb_tokens.specs.declared.token.Token.{Token}
use Rattle.hb_read_patterns.specs.declared.reader.PatReader.{PatReader}
use Rattle.hb_read_patterns.specs.Moves.{moved}

-- after true the reader is what it becomes; after false it becomes nothing, and is as it was
abbrev pub Went : Option PatReader → PatReader → Result Bool Memory → PatReader → Type 0
Went next old (Ok true) new = next ≡ Some new
Went next old (Ok false) new = (next ≡ None) × (new ≡ old)
Went next old (Err e) new = Unit {0}

abbrev pub Took : PatReader → Token → Result Bool Memory → PatReader → Type 0
Took old t result new = Went (moved old t) old result new
