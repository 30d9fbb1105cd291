use Rattle.std.proofs.Common.{◌≡◌, ◌+◌, drop}
use Rattle.hb_lex.specs.Bytes.{run, belongs}
use Rattle.hb_lex.proofs.bytes.run.Given as goal

-- the bytes passed are of the class
abbrev pub invariant-loop-i : goal.invariant-loop-i
invariant-loop-i l = run (belongs l.class) l.bytes ≡ l.i + run (belongs l.class) (drop l.i l.bytes)
