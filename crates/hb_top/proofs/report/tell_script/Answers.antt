use Rattle.hb_top.proofs.report.tell_script.Goals as goal

pub returns : goal.returns
returns g c = rw c.put_script-length.ensures.text at c.tell.ensures
