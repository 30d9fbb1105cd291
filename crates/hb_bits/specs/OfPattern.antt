-- The bits of a pattern.
use Rattle.std.specs.Prelude.{Bool, List}
use Rattle.hb_bits.specs.declared.pattern.Pattern.{Pattern}
use Rattle.hb_bits.specs.Bits.{digits}

abbrev pub bits_of : Pattern → List Bool
bits_of pattern = digits pattern.width pattern.word
