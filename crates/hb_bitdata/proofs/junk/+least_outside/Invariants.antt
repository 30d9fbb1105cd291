use Rattle.hb_bitdata.proofs.junk.+least_outside.Given as goal

abbrev pub decreases-least_outside : goal.decreases-least_outside
decreases-least_outside l = l.width
