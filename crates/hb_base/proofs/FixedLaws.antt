-- Each fixed name that the grammar knows has its text.
use Rattle.std.proofs.Common.{refl}
use Rattle.std.specs.Prelude.{codes}
use Rattle.hb_base.specs.Fixed.{pad, in_port, out_port, plus, times, power, at_most, slash, wildcard, Names}

pub pad_text : Names pad (codes "Pad")
pad_text = refl

pub in_port_text : Names in_port (codes "In")
in_port_text = refl

pub out_port_text : Names out_port (codes "Out")
out_port_text = refl

pub plus_text : Names plus (codes "+")
plus_text = refl

pub times_text : Names times (codes "*")
times_text = refl

pub power_text : Names power (codes "^")
power_text = refl

pub at_most_text : Names at_most (codes "<=")
at_most_text = refl

pub slash_text : Names slash (codes "/")
slash_text = refl

pub wildcard_text : Names wildcard (codes "_")
wildcard_text = refl
