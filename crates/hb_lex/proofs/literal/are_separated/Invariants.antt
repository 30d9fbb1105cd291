use Rattle.std.proofs.Common.{◌≡◌, drop}
use Rattle.hb_lex.specs.Literals.{is_bit_digit, are_separated}
use Rattle.hb_lex.proofs.LiteralLaws.{separated_after}
use Rattle.hb_lex.proofs.literal.are_separated.Given as goal

-- what is left decides, by what stands before it
abbrev pub invariant-loop-byte : goal.invariant-loop-byte
invariant-loop-byte l = are_separated (is_bit_digit l.bits) l.bytes ≡ separated_after (is_bit_digit l.bits) l.after_digit (drop l.byte-index l.bytes)
