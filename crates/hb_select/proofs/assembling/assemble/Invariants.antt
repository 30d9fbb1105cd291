use Rattle.std.proofs.Common.{◌≡◌, take}
use Rattle.hb_select.specs.Code.{words_of}
use Rattle.hb_select.proofs.assembling.assemble.Given as goal

abbrev pub invariant-loop-part : goal.invariant-loop-part
invariant-loop-part l = l.words.items ≡ words_of (take l.part-index l.part-items)
