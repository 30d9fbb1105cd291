use Rattle.std.proofs.Common.{◌∙◌, sym, subst}
use Rattle.hb_bitdata.specs.Junk.{IsOutOfAll, HaveWidth}
use Rattle.hb_bitdata.proofs.junk.has_whole.Goals as goal

pub returns-then-is_whole : goal.returns-then-is_whole
returns-then-is_whole c = λ whole width bits wide outside.
    let widths = subst (HaveWidth width) c.in-Some.ensures.cases.0 (c.loop-cube.invariant.wide width wide) in
    let out = subst (λ l. IsOutOfAll l bits) c.in-Some.ensures.cases.0 (c.loop-cube.invariant.out bits outside.out) in
    out.0 (c.is_whole.ensures c.if-is_whole.true bits (outside.wide ∙ sym widths.0))

pub loop-cube-preserved : goal.loop-cube-preserved
loop-cube-preserved c = record {
  wide = λ width wide. (subst (HaveWidth width) c.in-Some.ensures.cases.0 (c.loop-cube.invariant.wide width wide)).1;
  out = λ bits out. (subst (λ l. IsOutOfAll l bits) c.in-Some.ensures.cases.0 (c.loop-cube.invariant.out bits out)).1;
}
