use Rattle.hb_top.proofs.report.tell_no_image.Goals as goal

pub returns : goal.returns
returns g c = rw c.put_no_image-length.ensures.text at c.tell.ensures
