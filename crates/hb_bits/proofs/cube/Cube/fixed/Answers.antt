use Rattle.std.proofs.Common.{◌∙◌, ap, bit_and, arith}
use Rattle.std.proofs.lemmas.Nat.{and_mask, pow_pos}
use Rattle.std.proofs.Math.Nat.{mod-eq_of_lt}
use Rattle.hb_bits.specs.CubesLaws.{members-ones}
use Rattle.hb_bits.specs.Members.{members}
use Rattle.hb_bits.proofs.cube.Cube.fixed.Goals as goal

pub invariant_of-result : goal.invariant_of-result
invariant_of-result c =
    let above = pow_pos c.args.p.width in record {
      narrow = c.args.p.narrow;
      in_range = omega (arith, c.ones.ensures, above);
      within_mask = ap (bit_and c.args.p.word) c.ones.ensures ∙ and_mask c.args.p.word c.args.p.width ∙ mod-eq_of_lt c.args.p.in_range;
    }

pub returns-clause-members : goal.returns-clause-members
returns-clause-members c =
    ap (λ mask. members c.args.p.width mask c.args.p.word) c.ones.ensures
    ∙ members-ones c.args.p.width c.args.p.word
