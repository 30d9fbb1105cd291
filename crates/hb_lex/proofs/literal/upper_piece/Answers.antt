use Rattle.std.proofs.Common.{sym, ◌∙◌}
use Rattle.hb_lex.proofs.LiteralLaws.{bits_out}
use Rattle.hb_lex.proofs.literal.upper_piece.Goals as goal

-- the value of at most 128 bits is there
pub returns-in-None : goal.returns-in-None
returns-in-None c =
    absurd (bits_out c.digit_bits-bits.result c.from.result c.digit_count.result c.base_of.result c.after-digits.result.now c.base_of.ensures c.from.ensures c.digit_count.ensures.count
    (sym c.are_separated.ensures ∙ c.if-not-are_separated.false) c.if-width-gt128.false c.in-None.ensures)
