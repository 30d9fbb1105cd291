use Rattle.hb_map_text.proofs.pieces.+put_binary.Given as goal

-- one digit fewer each time
abbrev pub decreases-put_binary : goal.decreases-put_binary
decreases-put_binary l = l.width
