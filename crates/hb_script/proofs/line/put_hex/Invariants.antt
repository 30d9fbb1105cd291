use Rattle.std.proofs.Common.{◌≡◌, ◌+◌, ◌*◌, ◌-◌, ◌++◌, length, take, drop}
use Rattle.std.specs.Int.{w32, to_be_bytes}
use Rattle.std.specs.List.{flat_map}
use Rattle.hb_script.specs.Lines.{hex_byte}
use Rattle.hb_script.proofs.line.put_hex.Given as goal

abbrev pub invariant-loop-byte : goal.invariant-loop-byte
invariant-loop-byte l = record {
  place : l.end ≡ l.at + 2 * l.byte-index;
  items : l.byte-items ≡ drop (4 - l.width) (to_be_bytes w32 l.value);
  long : length l.byte-items ≡ l.width;
  written : take l.end l.buffer ≡ take l.at l.fn.buffer ++ flat_map hex_byte (take l.byte-index l.byte-items);
}
