use Rattle.std.proofs.Common.{◌≡◌, drop}
use Rattle.hb_command.specs.Numbers.{with_digits}
use Rattle.hb_command.proofs.number.number_of.Given as goal

-- the digits that are left lead on to the whole number
abbrev pub invariant-loop-byte : goal.invariant-loop-byte
invariant-loop-byte l = with_digits l.number (drop l.byte-index l.digits) ≡ with_digits 0 l.digits
