use Rattle.hb_top.proofs.report.tell_refusal.Goals as goal

pub returns : goal.returns
returns g c = rw c.put_refusal-length.ensures.text at c.tell.ensures
