use Rattle.std.proofs.Common.{◌≡◌, ◌+◌, ◌≤◌, length, arith}
use Rattle.hb_lex.specs.Reading.{bound_size}
use Rattle.hb_lex.proofs.CommentLaws.{counted_next, counted_all, counted_none, few_next}
use Rattle.hb_lex.proofs.comment.inside.Goals as goal

pub returns-then-depth-eq0-clause-size : goal.returns-then-depth-eq0-clause-size
returns-then-depth-eq0-clause-size c =
    let next = counted_next c.args.bytes.now c.loop-place.place c.loop-place.depth c.size_of-place.result c.depth_after-depth.result c.bound_at-bound.result _ c.loop-place-test.true
    c.loop-place.invariant.some c.bound_at-bound.ensures.bound c.size_of-place.ensures c.depth_after-depth.ensures c.loop-place.invariant.counted in
    counted_all c.args.bytes.now (c.loop-place.place + c.size_of-place.result) c.depth_after-depth.result next c.if-depth-eq0.true

pub loop-place-preserved : goal.loop-place-preserved
loop-place-preserved c =
    let within : c.loop-place.place + bound_size c.bound_at-bound.result ≤ length c.args.bytes.now = c.bound_at-bound.ensures.within in
    let taken : c.size_of-place.result ≡ bound_size c.bound_at-bound.result = c.size_of-place.ensures in
    record {
      counted = counted_next c.args.bytes.now c.loop-place.place c.loop-place.depth c.size_of-place.result c.depth_after-depth.result c.bound_at-bound.result _ c.loop-place-test.true
          c.loop-place.invariant.some c.bound_at-bound.ensures.bound c.size_of-place.ensures c.depth_after-depth.ensures c.loop-place.invariant.counted;
      some = let ne = c.if-depth-eq0.false in omega arith;
      few = few_next c.bound_at-bound.result c.loop-place.depth c.loop-place.place c.size_of-place.result c.depth_after-depth.result taken c.depth_after-depth.ensures c.loop-place.invariant.few;
      within = omega arith;
    }

pub returns-clause-size : goal.returns-clause-size
returns-clause-size c =
    counted_none c.args.bytes.now c.loop-place.place c.loop-place.depth c.loop-place.invariant.counted c.loop-place.invariant.some c.loop-place-test.false
