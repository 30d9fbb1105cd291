use Rattle.std.proofs.Common.{◌≡◌, ◌+◌, ◌++◌, take}
use Rattle.hb_script.proofs.buffer.put_text.Given as goal

abbrev pub invariant-loop-byte : goal.invariant-loop-byte
invariant-loop-byte g l = record {
  place : l.end ≡ l.at + l.byte-index;
  written : take l.end l.buffer ≡ take l.at l.fn.buffer ++ take l.byte-index l.text;
}
