-- The runs that no fixity groups, each at the first operator for which the run up to its right operand has this fault.
use Rattle.std.specs.Prelude.{ℕ, Bool, List, [], ◌∷◌, ◌++◌, nat_eq, Option, Some, None, if◌then◌else◌}
use Rattle.std.specs.List.{list_any}
use Rattle.hb_base.specs.declared.name.Name.{Name}
use Rattle.hb_tree.specs.Expressions.{Expr, AnExpr, Var, Con, Exprs, NoExprs, MoreExprs}
use Rattle.hb_tree.specs.declared.types.NameAt.{NameAt}
use Rattle.hb_tree.specs.declared.declaration.Fix.TheVariants.{Left}
use Rattle.hb_tree.specs.declared.declaration.Decl.{Decl}
use Rattle.hb_tree.specs.declared.declaration.Decl.TheVariants as decl
use Rattle.hb_fixity.specs.declared.fixity.Fixity.{Fixity}
use Rattle.hb_fixity.specs.declared.fixity.Operator.{Operator}
use Rattle.hb_fixity.specs.Reading.{grouped}
use Rattle.hb_settle.specs.Pieces.{Piece, ARun, ABlock, ARow, ASelection, AConstruction, AnUpdate, AStart, decls_pieces}

abbrev pub standard : Fixity
standard = record { fix = Left; level = 9 }

-- as the first declaration says that speaks of the name
abbrev pub fixity_of : List Decl → Name → Fixity
fixity_of [] x = standard
fixity_of (decl.Fixity at fix level names ∷ ds) x =
    if list_any (λ n. nat_eq n.name.0 x.0) names then record { fix = fix; level = level } else fixity_of ds x
fixity_of (d ∷ ds) x = fixity_of ds x

-- an operator is the name of a variable
abbrev pub operator_name : Expr → Name
operator_name (AnExpr n at (Var x)) = x
operator_name (AnExpr n at (Con c)) = c
operator_name e = record { 0 = 70 }

abbrev pub operator_of : List Decl → Expr → Operator
operator_of ds (AnExpr n at k) = record { place = at; name = operator_name (AnExpr n at k); fixity = fixity_of ds (operator_name (AnExpr n at k)) }

-- the operators, each with the operand behind it
abbrev pub rest_of_run : List Decl → Exprs → Exprs → List (Operator × Expr)
rest_of_run ds NoExprs os = []
rest_of_run ds (MoreExprs e es) NoExprs = []
rest_of_run ds (MoreExprs e es) (MoreExprs o os) = (operator_of ds o, e) ∷ rest_of_run ds es os

abbrev pub clash_list : Option Operator → List NameAt
clash_list None = []
clash_list (Some op) = record { place = op.place; name = op.name } ∷ []

abbrev pub run_clashes : List Decl → Exprs → Exprs → List NameAt
run_clashes ds NoExprs os = []
run_clashes ds (MoreExprs first es) os = clash_list (grouped first (rest_of_run ds es os)).clash

abbrev pub piece_clashes : List Decl → Piece → List NameAt
piece_clashes ds (ARun es os) = run_clashes ds es os
piece_clashes ds p = []

abbrev pub pieces_clashes : List Decl → List Piece → List NameAt
pieces_clashes ds [] = []
pieces_clashes ds (p ∷ ps) = piece_clashes ds p ++ pieces_clashes ds ps

-- those of a program as it is written, where the fixities are declared so
abbrev pub clashes : (declared written : List Decl) → List NameAt
clashes declared written = pieces_clashes declared (decls_pieces written)
