use Rattle.std.proofs.Common.{◌+◌, sym}
use Rattle.std.proofs.lemmas.List.{take_rest}
use Rattle.hb_script.proofs.WordLemmas.{line_ends, last_line}
use Rattle.hb_script.proofs.words.first_line.Goals as goal

pub returns-in-None-clause-parts : goal.returns-in-None-clause-parts
returns-in-None-clause-parts c = last_line c.args.text.now c.requires (sym c.in-None.ensures)

pub returns-in-Some-clause-parts : goal.returns-in-Some-clause-parts
returns-in-Some-clause-parts c = rw (take_rest c.args.text.now (c.in-Some.end + 1), c.without_return.ensures) (line_ends c.args.text.now c.in-Some.end (sym c.in-Some.ensures))
