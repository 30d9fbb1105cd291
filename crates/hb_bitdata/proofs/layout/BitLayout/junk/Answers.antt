use Rattle.std.proofs.Common.{◌∙◌, sym, ap, subst}
use Rattle.hb_bitdata.specs.Junk.{HaveWidth, cubes_of}
use Rattle.hb_bitdata.proofs.JunkSteps.{widths_of}
use Rattle.hb_bitdata.proofs.layout.BitLayout.junk.Goals as goal

pub least_outside-requires-clause-widths : goal.least_outside-requires-clause-widths
least_outside-requires-clause-widths c =
    let cubes = c.as_slice-2.ensures.value ∙ c.in_ok-cubes.ensures ∙ ap cubes_of c.as_slice.ensures in
    subst (HaveWidth c.args.self.now.width) (sym cubes) (widths_of c.args.self.now.width c.args.self.now.cons c.args.self.now.same_width)
