use Rattle.std.proofs.Common.{◌≡◌, ◌+◌, ◌≤◌, drop}
use Rattle.hb_lex.specs.Literals.{digit_count}
use Rattle.hb_lex.proofs.literal.digit_count.Given as goal

abbrev pub invariant-loop-byte : goal.invariant-loop-byte
invariant-loop-byte l = record {
  count : digit_count l.bytes ≡ l.count + digit_count (drop l.byte-index l.bytes);
  within : l.count ≤ l.byte-index;
}
