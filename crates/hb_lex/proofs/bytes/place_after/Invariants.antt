use Rattle.std.proofs.Common.{◌≡◌, ◌+◌, ◌*◌, ◌≤◌, drop}
use Rattle.hb_lex.specs.Bytes.{place_after}
use Rattle.hb_lex.proofs.bytes.place_after.Given as goal

abbrev pub invariant-loop-byte : goal.invariant-loop-byte
invariant-loop-byte l = record {
  place : place_after l.here (drop l.byte-index l.bytes) ≡ place_after l.fn.place l.bytes;
  line : l.here.line ≤ l.fn.place.line + l.byte-index;
  col : l.here.col ≤ l.fn.place.col + 8 * l.byte-index;
}
