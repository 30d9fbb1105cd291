use Rattle.hb_read_program.proofs.heads.found.Goals as goal

pub returns-in-Tops : goal.returns-in-Tops
returns-in-Tops c = rw c.in-Tops.is c.first-in-Tops.ensures
