use Rattle.hb_types.specs.Put.{types_at}
use Rattle.hb_types.proofs.TableLemmas.{extends-more}
use Rattle.hb_types.proofs.PutLemmas.{types_at-more, places-more, put-next}
use Rattle.hb_types.proofs.table.Types.put.Goals as goal

pub put_one-requires-clause-args : goal.put_one-requires-clause-args
put_one-requires-clause-args c = places-more c.args.self.now c.loop-place.self c.args.args.now c.loop-place.invariant.0 c.requires.args

pub put_one-requires-clause-parts : goal.put_one-requires-clause-parts
put_one-requires-clause-parts c =
    let same = types_at-more c.args.self.now c.loop-place.self c.args.args.now c.loop-place.invariant.0 c.requires.args in
    rw (same, c.deref.ensures.value) c.loop-place.invariant.1

pub loop-place-preserved : goal.loop-place-preserved
loop-place-preserved c =
    let same = types_at-more c.args.self.now c.loop-place.self c.args.args.now c.loop-place.invariant.0 c.requires.args in (
      extends-more c.args.self.now c.loop-place.self c.put_one.new.self c.loop-place.invariant.0 c.in_ok-here.ensures.more,
      put-next c.loop-place.place (types_at c.args.self.now c.args.args.now) c.args.of.now c.loop-place.self c.put_one.new.self c.loop-place.places.items c.push.new.self.items c.in_ok-here.here
          c.in_ok-here.ensures.more c.loop-place.invariant.1 c.in_ok-push.ensures.items (rw same at c.in_ok-here.ensures.put),
    )
