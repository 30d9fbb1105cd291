use Rattle.std.proofs.Common.{◌∙◌, sym, ap, ◌^◌, ◌/◌, bit_and}
use Rattle.std.proofs.lemmas.Nat.{and_mask}
use Rattle.hb_bits.specs.Bits.{digits}
use Rattle.hb_bits.specs.BitsLaws.{cut_at-digits}
use Rattle.hb_bits.proofs.pattern.Pattern.cut.Goals as goal

pub returns-clause-bits : goal.returns-clause-bits
returns-clause-bits c =
    ap (λ word. digits c.args.width (bit_and word c.ones.result)) c.shifted_down.ensures
    ∙ ap (λ mask. digits c.args.width (bit_and (c.args.self.word / 2 ^ c.args.at) mask)) c.ones.ensures
    ∙ ap (digits c.args.width) (and_mask (c.args.self.word / 2 ^ c.args.at) c.args.width)
    ∙ sym (cut_at-digits c.args.self.width c.args.at c.args.width c.args.self.word c.requires)
