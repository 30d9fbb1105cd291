use Rattle.std.proofs.Common.{◌∙◌, sym, ap, map, ◌∷◌}
use Rattle.hb_bits.specs.OfPattern.{bits_of}
use Rattle.hb_bitdata.specs.Places.{are_below}
use Rattle.hb_bitdata.specs.Fields.{placed}
use Rattle.hb_bitdata.proofs.FieldSteps.{below_rest, rest_same}
use Rattle.hb_bitdata.proofs.con.ConLayout.filled.Goals as goal

pub loop-field-preserved-in-Some-split_first : goal.loop-field-preserved-in-Some-split_first
loop-field-preserved-in-Some-split_first c =
    let inv = c.loop-field.invariant in
    let fields = c.in-Some.ensures.cases.0 in
    let parts = c.in-Some-split_first.ensures.cases.0 in record {
      width = c.place-built.ensures.width ∙ inv.width;
      below = below_rest c.args.self.now.cube.width c.in-Some.field.now c.in-Some.fields.now (ap (are_below c.args.self.now.cube.width) (sym fields) ∙ inv.below);
      widths = rest_same _ _ _ _ (sym (ap (map (λ part. part.width)) parts) ∙ inv.widths ∙ ap (map (λ field. field.width)) fields);
      bits =
          ap (placed c.in-Some.fields.now c.in-Some-split_first.rest.now) c.place-built.ensures.bits
          ∙ sym (ap (λ l. placed l c.loop-field.left.now (bits_of c.loop-field.built)) fields ∙ ap (λ l. placed (c.in-Some.field.now ∷ c.in-Some.fields.now) l (bits_of c.loop-field.built)) parts)
          ∙ inv.bits;
    }
