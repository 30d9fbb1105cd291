-- A token is taken or not.
use Rattle.std.specs.Prelude.{◌≡◌, Bool, true, false, Option, Some, None, Result, Ok, Err}
use Rattle.hb_base.specs.declared.memory.Memory.{Memory}
use Rattle.hb_tokens.specs.declared.token.Token.{Token}
use Rattle.hb_read_patterns.specs.declared.reader.PatReader.{PatReader}
use Rattle.hb_read_expressions.specs.declared.state.Core.{Core}
use Rattle.hb_read_expressions.specs.declared.state.State.{State}
use Rattle.hb_read_expressions.specs.States.{state}
use Rattle.hb_read_expressions.specs.Moves.{moved}

-- after true it is what it becomes; after false it becomes nothing, and is as it was
abbrev pub Went : {A : Type 0} → Option A → A → Result Bool Memory → A → Type 0
Went next old (Ok true) new = next ≡ Some new
Went next old (Ok false) new = (next ≡ None) × (new ≡ old)
Went next old (Err e) new = Unit {0}

-- the same of what is read and of the reader of patterns, where no two readers run side by side
abbrev pub WentAlone : Option State → Core → PatReader → Result Bool Memory → Core → PatReader → Type 0
WentAlone next old_core old_pats (Ok true) core pats = next ≡ Some (state core pats false)
WentAlone next old_core old_pats (Ok false) core pats = (next ≡ None) × (core ≡ old_core) × (pats ≡ old_pats)
WentAlone next old_core old_pats (Err e) core pats = Unit {0}

abbrev pub Took : State → Token → Result Bool Memory → State → Type 0
Took old t result new = Went (moved old t) old result new
