use Rattle.std.proofs.Common.{◌≡◌, ◌+◌, ◌*◌, ◌^◌, ◌<◌, drop}
use Rattle.hb_lex.specs.Literals.{digit_count, value_of}
use Rattle.hb_lex.proofs.literal.value_of.Given as goal

-- the digits passed stand above those left
abbrev pub invariant-loop-byte : goal.invariant-loop-byte
invariant-loop-byte l = record {
  value : value_of l.base l.digits ≡ l.value * l.base ^ digit_count (drop l.byte-index l.digits) + value_of l.base (drop l.byte-index l.digits);
  small : l.value < 2 ^ 128;
}
