use Rattle.std.proofs.Common.{◌≡◌, drop}
use Rattle.hb_second.specs.Items.{all_items}
use Rattle.hb_second.specs.Moves.{run, start, IsSmall}
use Rattle.hb_second.proofs.reading.take_all.Given as goal

-- what is left gives from here what all give from the beginning
abbrev pub invariant-loop-declaration : goal.invariant-loop-declaration
invariant-loop-declaration l =
    (run start (all_items l.names l.declarations) ≡ run l.reader (all_items l.names (drop l.declaration-index l.declarations))) × IsSmall l.reader
