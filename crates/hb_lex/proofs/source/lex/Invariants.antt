use Rattle.std.proofs.Common.{◌+◌, ◌-◌, ◌*◌, ◌≤◌, false, [], length, drop}
use Rattle.hb_lex.specs.Bytes.{first_place}
use Rattle.hb_lex.specs.Steps.{Took}
use Rattle.hb_lex.proofs.source.lex.Given as goal

-- what is taken so far leads from the first byte to the next one
abbrev pub invariant-loop-done : goal.invariant-loop-done
invariant-loop-done l = record {
  took : Took l.fn.names l.names [] l.lexer.tokens.items false l.lexer.glued first_place l.lexer.place l.bytes (drop l.done l.bytes);
  within : l.done ≤ length l.bytes;
  line : l.lexer.place.line ≤ 1 + l.done;
  col : l.lexer.place.col ≤ 1 + 8 * l.done;
  count : length l.names ≤ length l.fn.names + l.done;
}

abbrev pub decreases-loop-done : goal.decreases-loop-done
decreases-loop-done l = length l.bytes - l.done
