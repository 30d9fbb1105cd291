-- The readers of types, of expressions and of equations, which put out nodes of declarations.
use Rattle.std.specs.Prelude.{List, [], ◌∷◌}
use Rattle.hb_grammar.specs.Reading.{Reader}
use Rattle.hb_read_types.specs.declared.node.TypeNode.TheVariants as type_node
use Rattle.hb_read_types.specs.declared.type_reader.TypeReader.{TypeReader}
use Rattle.hb_read_types.specs.declared.pred_reader.PredReader.{PredReader}
use Rattle.hb_read_types.specs.declared.qualified_reader.QualifiedReader.{QualifiedReader}
use Rattle.hb_read_types.specs.TypeMoves.{type_reader, atype_reader}
use Rattle.hb_read_types.specs.PredMoves.{pred_reader}
use Rattle.hb_read_types.specs.QualifiedMoves.{qualified_reader}
use Rattle.hb_read_patterns.specs.declared.reader.PatReader.{PatReader}
use Rattle.hb_read_expressions.specs.declared.state.State.{State}
use Rattle.hb_read_expressions.specs.Moves.{equation_reader, expr_reader}
use Rattle.hb_read_declarations.specs.declared.node.DeclNode.{DeclNode}
use Rattle.hb_read_declarations.specs.declared.node.DeclNode.TheVariants as node
use Rattle.hb_read_declarations.specs.Combined.{worth_of}
use Rattle.hb_read_declarations.specs.Nodes.{typed, valued}

-- what is put out
abbrev pub Out : Type 0
Out = List DeclNode

-- type, atype and pred
abbrev pub a_type : Reader TypeReader Out
a_type = worth_of typed type_reader

abbrev pub an_atype : Reader TypeReader Out
an_atype = worth_of typed atype_reader

abbrev pub a_pred : Reader PredReader Out
a_pred = worth_of typed pred_reader

-- a type, with a context before it or none
abbrev pub a_qualified : Reader QualifiedReader Out
a_qualified = worth_of typed qualified_reader

-- no context
abbrev pub no_context : Out
no_context = node.Type (type_node.Context 0) ∷ []

-- an equation; where its reader of patterns stands at first does not matter
abbrev pub an_equation : PatReader → Reader State Out
an_equation pats = worth_of valued (equation_reader pats)

-- an expression
abbrev pub an_expr : PatReader → Reader State Out
an_expr pats = worth_of valued (expr_reader pats)
