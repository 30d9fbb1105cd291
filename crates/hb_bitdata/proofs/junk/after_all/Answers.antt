use Rattle.std.proofs.Common.{◌+◌, ◌∙◌, sym, subst, ◌∷◌}
use Rattle.hb_bitdata.specs.Junk.{IsOutOfAll, HaveWidth}
use Rattle.hb_bitdata.proofs.JunkSteps.{width_push, out_push, out_parts, one_less}
use Rattle.hb_bitdata.proofs.junk.after_all.Goals as goal

pub loop-cube-preserved-in_ok-push : goal.loop-cube-preserved-in_ok-push
loop-cube-preserved-in_ok-push c =
    let inv = c.loop-cube.invariant in
    let wide = subst (HaveWidth (c.args.width + 1)) c.in-Some.ensures.cases.0 inv.wide in
    let items = c.in_ok-push.ensures.items in
    let after = c.in-Some-after.after in record {
      wide = wide.1;
      kept = subst (HaveWidth c.args.width) (sym items) (width_push c.args.width c.loop-cube.kept.items after inv.kept (one_less after.width c.args.width (c.in-Some-after.ensures.width ∙ wide.0)));
      out = λ bits. (
        λ out.
            let parts = (inv.out bits).0 out in
            let left = subst (λ l. IsOutOfAll l (c.args.bit ∷ bits)) c.in-Some.ensures.cases.0 parts.1 in (
              subst (λ l. IsOutOfAll l bits) (sym items) (out_push c.loop-cube.kept.items after bits parts.0 (λ is. left.0 ((c.in-Some-after.ensures.some bits).1 is))),
              left.1,
            ),
        λ both.
            let parts = out_parts c.loop-cube.kept.items after bits (subst (λ l. IsOutOfAll l bits) items both.0) in
            (inv.out bits).1
            (parts.0, subst (λ l. IsOutOfAll l (c.args.bit ∷ bits)) (sym c.in-Some.ensures.cases.0) (λ is. parts.1 ((c.in-Some-after.ensures.some bits).0 is), both.1)),
      );
    }
