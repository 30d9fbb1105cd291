use mir.Val.{bool_byte}
use Rattle.std.proofs.Common.{◌≡◌, ◌∙◌, ap, refl, Bool, true, false, [], ◌∷◌, ◌++◌}
use Rattle.hb_bits.specs.Bits.{digits}
use Rattle.hb_bits.specs.OfPattern.{bits_of}
use Rattle.hb_bitdata.proofs.junk.with_first.Goals as goal

one : (bit : Bool) → digits 1 (bool_byte bit) ≡ bit ∷ []
unfolding digits
one true = refl
one false = refl

pub returns-clause-bits : goal.returns-clause-bits
returns-clause-bits c = c.join.ensures.bits ∙ ap (λ l. l ++ bits_of c.args.rest) (one c.args.bit)
