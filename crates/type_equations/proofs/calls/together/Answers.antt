use Rattle.std.proofs.Common.{◌≡◌, ◌+◌, length, ap, ◌∙◌, arith, ◌∷◌, [], length-append}
use Rattle.hb_unknowns.specs.Equations.{type_count}
use Rattle.type_equations.proofs.WithinLemmas.{within-next}
use Rattle.type_equations.proofs.calls.together.Goals as goal

pub loop-number-preserved : goal.loop-number-preserved
loop-number-preserved c =
    let more : length c.push.new.self.items ≡ length c.loop-number.equations.items + 1 =
    ap length c.in_ok-push.ensures.items ∙ length-append c.loop-number.equations.items (c.in_ok-call.call.equation ∷ []) in (
      c.in_ok-call.ensures.result,
      within-next (type_count c.loop-number.all) (type_count c.make_call.new.all) c.loop-number.equations.items c.push.new.self.items c.in_ok-call.call.equation c.in_ok-call.ensures.more
          c.loop-number.invariant.1 c.in_ok-call.ensures.left c.in_ok-call.ensures.right c.in_ok-push.ensures.items,
      omega (arith, more, c.loop-number.invariant.2),
    )
