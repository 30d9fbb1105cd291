use Rattle.std.proofs.Common.{◌∙◌, ap, ◌%◌, ◌^◌, arith}
use Rattle.std.proofs.lemmas.Nat.{and_mask}
use Rattle.hb_bits.specs.Bits.{digits, cut_at}
use Rattle.hb_bits.specs.BitsLaws.{cut_at-digits}
use Rattle.hb_bitdata.proofs.LayingSteps.{last_digits}
use Rattle.hb_bitdata.proofs.laying.last_bits.Goals as goal

pub returns-clause-bits : goal.returns-clause-bits
returns-clause-bits c =
    c.cut.ensures.bits
    ∙ ap (λ n. cut_at 0 c.args.width (digits 64 n)) (and_mask c.args.number 64)
    ∙ cut_at-digits 64 0 c.args.width (c.args.number % 2 ^ 64) (omega (arith, c.requires))
    ∙ last_digits c.args.width c.args.number c.requires
