-- A reader's fields as one state.
use Rattle.hb_tree.specs.Expressions.{Expr}
use Rattle.hb_fixity.specs.declared.grouping.Reader.{Reader}
use Rattle.hb_fixity.specs.Reading.{State}

abbrev pub state_of : Reader → State Expr
state_of r = record { open_ones = r.pending; now = r.now; clash = r.clash }
