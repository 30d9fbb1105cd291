-- How a run is read from left to right: what is open, the operand that was read last, and the first clash.
use Rattle.std.specs.Prelude.{Bool, true, false, not, List, [], ◌∷◌, Option, Some, None, if◌then◌else◌}
use Rattle.hb_tree.specs.Expressions.{Expr}
use Rattle.hb_fixity.specs.declared.fixity.Fixity.{Fixity}
use Rattle.hb_fixity.specs.declared.fixity.Operator.{Operator}
use Rattle.hb_fixity.specs.Fixities.{goes_left, goes_right, operator_applied}

-- `open` holds operands with the operators behind them whose right operand is open, the last one first
pub record State (T : Type 0) : Type 0 where
  pub open_ones : List (T × Operator)
  pub now : T
  pub clash : Option Operator

-- the open operators that stay open before an operator of this fixity, and the operand after the others are closed
abbrev pub kept : {T : Type 0} → Fixity → List (T × Operator) → List (T × Operator)
kept f [] = []
kept f (p ∷ ps) = if goes_left p.1.fixity f then kept f ps else p ∷ ps

abbrev pub closed : {T : Type 0} → (Operator → T → T → T) → Fixity → List (T × Operator) → T → T
closed join f [] now = now
closed join f (p ∷ ps) now = if goes_left p.1.fixity f then closed join f ps (join p.1 p.0 now) else now

abbrev pub closed_all : {T : Type 0} → (Operator → T → T → T) → List (T × Operator) → T → T
closed_all join [] now = now
closed_all join (p ∷ ps) now = closed_all join ps (join p.1 p.0 now)

-- the last open operator and one of this fixity group in neither way
abbrev pub clashes_on : {T : Type 0} → List (T × Operator) → Fixity → Bool
clashes_on [] f = false
clashes_on (p ∷ ps) f = not (goes_right p.1.fixity f)

abbrev pub clash_of : Option Operator → Bool → Operator → Option Operator
clash_of (Some first) b op = Some first
clash_of None b op = if b then Some op else None

abbrev pub put : {T : Type 0} → (Operator → T → T → T) → State T → Operator → T → State T
put join s op next = record {
  open_ones = (closed join op.fixity s.open_ones s.now, op) ∷ kept op.fixity s.open_ones;
  now = next;
  clash = clash_of s.clash (clashes_on (kept op.fixity s.open_ones) op.fixity) op;
}

abbrev pub reads : {T : Type 0} → (Operator → T → T → T) → State T → List (Operator × T) → State T
reads join s [] = s
reads join s (p ∷ ps) = reads join (put join s p.0 p.1) ps

abbrev pub start : {T : Type 0} → T → State T
start first = record { open_ones = []; now = first; clash = None }

-- all is closed
abbrev pub ended : {T : Type 0} → (Operator → T → T → T) → State T → State T
ended join s = record { open_ones = []; now = closed_all join s.open_ones s.now; clash = s.clash }

-- a whole run
abbrev pub grouped : Expr → List (Operator × Expr) → State Expr
grouped first rest = ended operator_applied (reads operator_applied (start first) rest)
