-- What was put is the text of the run, or some first bytes of it.
use Rattle.std.proofs.Common.{sym, subst}
use Rattle.hb_script.specs.Ends.{IsNamed}
use Rattle.hb_top.proofs.ExecuteLaws.{fault_of, limit_of, told_whole, told_end_cut, told_line_cut}
use Rattle.hb_top.proofs.execute.execute.Goals as goal

pub returns-in-Sink : goal.returns-in-Sink
returns-in-Sink g c =
    let taken = g.O.Sink.taken in let faults = g.O.Sink.faults in
    let run = fault_of c.args.steps c.args.machine c.run-stop.new.self c.run-stop.result (taken c.args.out.now) (taken c.run-stop.new.out) (faults c.args.out.now) (faults c.run-stop.new.out) c.run-stop.ensures.run c.in-Sink.is in
    told_line_cut c.args.steps c.args.machine c.run-stop.new.self c.run-stop.result (taken c.args.out.now) (taken c.run-stop.new.out) (faults c.args.out.now) (faults c.run-stop.new.out) run

pub end_text-length-requires : goal.end_text-length-requires
end_text-length-requires g c =
    record { ports = c.ports.ensures.rules; named = subst (λ ports. IsNamed ports c.run-stop.result) (sym c.ports.ensures.value) c.run-stop.ensures.named }

pub returns-in-Ok : goal.returns-in-Ok
returns-in-Ok g c =
    let taken = g.O.Sink.taken in let faults = g.O.Sink.faults in
    let run = limit_of c.args.steps c.args.machine c.run-stop.new.self c.run-stop.result (taken c.args.out.now) (taken c.run-stop.new.out) (faults c.args.out.now) (faults c.run-stop.new.out) c.run-stop.ensures.run c.in_default.not-Sink in
    told_whole c.args.steps c.args.machine c.run-stop.new.self c.run-stop.result (taken c.args.out.now) (taken c.run-stop.new.out) (taken c.put.new.self) (faults c.args.out.now) (faults c.run-stop.new.out) (faults c.put.new.self) c.status_of.result c.ports.result.now c.done.result _
    run c.ports.ensures.value c.done.ensures c.end_text-length.ensures.text c.in-Ok.ensures.ok c.in-Ok.ensures.no_fault c.status_of.ensures

pub returns : goal.returns
returns g c =
    let taken = g.O.Sink.taken in let faults = g.O.Sink.faults in
    let run = limit_of c.args.steps c.args.machine c.run-stop.new.self c.run-stop.result (taken c.args.out.now) (taken c.run-stop.new.out) (faults c.args.out.now) (faults c.run-stop.new.out) c.run-stop.ensures.run c.in_default.not-Sink in
    told_end_cut c.args.steps c.args.machine c.run-stop.new.self c.run-stop.result (taken c.args.out.now) (taken c.run-stop.new.out) (taken c.put.new.self) (faults c.args.out.now) (faults c.run-stop.new.out) (faults c.put.new.self) c.ports.result.now c.done.result _
    run c.ports.ensures.value c.done.ensures c.end_text-length.ensures.text c.in-Err.ensures.failed c.in-Err.ensures.fault
