use Rattle.hb_types.specs.Put.{types_at}
use Rattle.hb_types.proofs.PutLemmas.{types_at-more, put-next}
use Rattle.hb_unknowns.proofs.EquationLemmas.{grown-more}
use Rattle.hb_unknowns.proofs.unknowns.Unknowns.put.Goals as goal

pub put_one-requires-clause-parts : goal.put_one-requires-clause-parts
put_one-requires-clause-parts c =
    let same = types_at-more c.args.self.now.types c.loop-place.self.types c.args.args.now c.loop-place.invariant.0.types c.requires.args in
    rw (same, c.deref.ensures.value) c.loop-place.invariant.1

pub returns-in_err-push-clause-grown : goal.returns-in_err-push-clause-grown
returns-in_err-push-clause-grown c = grown-more c.args.self.now c.loop-place.self c.put_one.new.self c.loop-place.invariant.0 c.in_ok-here.ensures.grown

pub loop-place-preserved : goal.loop-place-preserved
loop-place-preserved c =
    let same = types_at-more c.args.self.now.types c.loop-place.self.types c.args.args.now c.loop-place.invariant.0.types c.requires.args in (
      grown-more c.args.self.now c.loop-place.self c.put_one.new.self c.loop-place.invariant.0 c.in_ok-here.ensures.grown,
      put-next c.loop-place.place (types_at c.args.self.now.types c.args.args.now) c.args.of.now c.loop-place.self.types c.put_one.new.self.types c.loop-place.places.items c.push.new.self.items
          c.in_ok-here.here c.in_ok-here.ensures.grown.types c.loop-place.invariant.1 c.in_ok-push.ensures.items (rw same at c.in_ok-here.ensures.put),
    )
