-- The fixed names that the grammar knows, by their numbers in every table.
use Rattle.std.specs.Prelude.{◌≡◌, ℕ, List, Some, slice_get}
use Rattle.hb_base.specs.declared.name.Name.{Name}
use Rattle.hb_base.specs.Names.{fixed_names}

abbrev pub pad : Name
pad = record { 0 = 0 }

abbrev pub in_port : Name
in_port = record { 0 = 1 }

abbrev pub out_port : Name
out_port = record { 0 = 2 }

abbrev pub plus : Name
plus = record { 0 = 3 }

abbrev pub times : Name
times = record { 0 = 4 }

abbrev pub power : Name
power = record { 0 = 5 }

abbrev pub at_most : Name
at_most = record { 0 = 6 }

abbrev pub slash : Name
slash = record { 0 = 69 }

abbrev pub wildcard : Name
wildcard = record { 0 = 70 }

-- this text stands at this number
abbrev pub Names : Name → List ℕ → Type 0
Names name text = slice_get fixed_names name.0 ≡ Some text
