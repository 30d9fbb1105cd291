use Rattle.std.proofs.Common.{◌≡◌, ◌-◌}
use Rattle.hb_image.specs.Reading.{words_at}
use Rattle.hb_image.proofs.Loops.{with_front}
use Rattle.hb_image.proofs.reading.words_of.Given as goal

abbrev pub invariant-loop : goal.invariant-loop
invariant-loop l = with_front l.words.items (words_at (l.count - l.counter) l.rest) ≡ words_at l.count l.bytes
