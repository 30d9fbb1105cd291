use Rattle.std.proofs.Common.{arith, sym}
use Rattle.std.proofs.lemmas.List.{take_all, length-take-le}
use Rattle.hb_base.proofs.refusal.front.Goals as goal

pub slice_bounds-result-end : goal.slice_bounds-result-end
slice_bounds-result-end c = sym (length-take-le 200 c.args.text.now (omega (arith, c.if-text-le-DETAIL_BYTES.false)))

pub returns-then-text-le-DETAIL_BYTES-clause-front :
    goal.returns-then-text-le-DETAIL_BYTES-clause-front
returns-then-text-le-DETAIL_BYTES-clause-front c = sym (take_all 200 c.args.text.now c.if-text-le-DETAIL_BYTES.true)

pub returns-else-text-le-DETAIL_BYTES-clause-few :
    goal.returns-else-text-le-DETAIL_BYTES-clause-few
returns-else-text-le-DETAIL_BYTES-clause-few c =
    omega (arith, length-take-le 200 c.args.text.now (omega (arith, c.if-text-le-DETAIL_BYTES.false)))
