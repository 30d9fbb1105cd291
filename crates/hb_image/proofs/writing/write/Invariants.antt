use Rattle.std.proofs.Common.{◌≡◌, ◌++◌, take}
use Rattle.std.specs.Int.{w32, to_le_bytes}
use Rattle.std.specs.List.{flat_map}
use Rattle.hb_image.specs.Format.{head_spelling, port_spelling}
use Rattle.hb_image.proofs.writing.write.Given as goal

abbrev pub invariant-loop-port : goal.invariant-loop-port
invariant-loop-port l = l.out.items ≡ head_spelling l.image ++ flat_map port_spelling (take l.port-index l.image.ports)

abbrev pub invariant-loop-word : goal.invariant-loop-word
invariant-loop-word l = l.out.items ≡ head_spelling l.image ++ flat_map port_spelling l.image.ports ++ flat_map (to_le_bytes w32) (take l.word-index l.image.code)
