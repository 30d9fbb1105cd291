use Rattle.std.proofs.Common.{[]}
use Rattle.std.proofs.lemmas.Result.{err_from_is_err_and}
use Rattle.hb_image.specs.Reading.{ports_at}
use Rattle.hb_image.proofs.Loops.{ports_go_on, ports_end, ports_done}
use Rattle.hb_image.proofs.ports.ports_of.Goals as goal

pub returns-in_err-port : goal.returns-in_err-port
returns-in_err-port c =
    let p = err_from_is_err_and c.from_residual.result c.from_residual.ensures.1 in
    let fails = rw c.as_slice.ensures.value at c.in_err-port.ensures in
    rw (p.1, p.2) (ports_end c.in_err-port.field-0.0 c.args.count c.loop.counter c.loop.ports.items c.loop.rest.now (ports_at c.args.count [] c.args.bytes.now) c.loop-test.true fails c.loop.invariant)

pub loop-preserved : goal.loop-preserved
loop-preserved c =
    let read = rw c.as_slice.ensures.value at c.in_ok-port.ensures in
    rw c.in_ok-push.ensures.items (ports_go_on c.args.count c.loop.counter c.loop.ports.items c.loop.rest.now c.in_ok-port.port c.in_ok-port.after.now (ports_at c.args.count [] c.args.bytes.now) c.loop-test.true read c.loop.invariant)

pub returns : goal.returns
returns c = rw c.of.ensures (ports_done c.args.count c.loop.counter c.loop.ports.items c.loop.rest.now (ports_at c.args.count [] c.args.bytes.now) c.loop-test.false c.loop.invariant)
