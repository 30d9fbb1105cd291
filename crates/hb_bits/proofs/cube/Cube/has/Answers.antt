use Rattle.std.proofs.Common.{sym, subst}
use Rattle.std.proofs.lemmas.Bool.{eqb-true, eq-eqb}
use Rattle.hb_bits.specs.Bits.{digits}
use Rattle.hb_bits.specs.Members.{IsIn}
use Rattle.hb_bits.specs.OfCube.{members_of}
use Rattle.hb_bits.specs.MembersLaws.{IsIn-digits, and-from_IsIn}
use Rattle.hb_bits.proofs.cube.Cube.has.Goals as goal

pub returns : goal.returns
returns c = (
  λ same. subst (λ w. IsIn (members_of c.args.self) (digits w c.args.p.word)) (sym c.requires)
      (IsIn-digits c.args.self.width c.args.p.word c.args.self.mask c.args.self.value (eqb-true _ _ same)),
  λ is. eq-eqb _ _ (and-from_IsIn c.args.self.width c.args.p.word c.args.self.mask c.args.self.value c.args.self.in_range c.args.self.within_mask
      (subst (λ w. IsIn (members_of c.args.self) (digits w c.args.p.word)) c.requires is)),
)
