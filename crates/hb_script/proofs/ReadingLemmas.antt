-- What a script's reading gives, with what was read before.
use Rattle.std.proofs.Common.{ℕ, List, ◌++◌, Result, Ok, Err}
use Rattle.hb_base.specs.declared.script.ScriptLine.{ScriptLine}

-- what was read before, and what is still read
abbrev pub with_front : List ScriptLine → Result (List ScriptLine) ℕ → Result (List ScriptLine) ℕ
with_front front (Ok inputs) = Ok (front ++ inputs)
with_front front (Err number) = Err number
