use Rattle.std.proofs.Common.{◌≡◌, ◌≤◌, true, take}
use Rattle.std.specs.List.{list_all}
use Rattle.std.specs.Str.Parse.{digits_value}
use Rattle.hb_script.specs.Scripts.{is_hex}
use Rattle.hb_script.proofs.value.value_of.Given as goal

abbrev pub invariant-loop-byte : goal.invariant-loop-byte
invariant-loop-byte l = record {
  digits : list_all is_hex (take l.byte-index l.digits) ≡ true;
  value : l.value ≡ digits_value 16 (take l.byte-index l.digits);
  small : l.value ≤ l.greatest;
}
