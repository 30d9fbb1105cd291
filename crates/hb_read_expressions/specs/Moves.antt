-- The reader of expressions: what each token makes of it, and where it may stop.
use Rattle.std.specs.Prelude.{Bool, true, false, List, [], ◌∷◌, Option, Some, None}
use Rattle.hb_base.specs.declared.place.Place.{Place}
use Rattle.hb_tokens.specs.declared.token.Token.{Token}
use Rattle.hb_grammar.specs.Reading.{Reader}
use Rattle.hb_read_patterns.specs.declared.reader.PatReader.{PatReader}
use Rattle.hb_read_patterns.specs.Moves.{apat_reader}
use Rattle.hb_read_expressions.specs.declared.node.ExprNode.{ExprNode}
use Rattle.hb_read_expressions.specs.declared.node.ExprNode.TheVariants as node
use Rattle.hb_read_expressions.specs.declared.frame.Frame.{Frame}
use Rattle.hb_read_expressions.specs.declared.frame.Frame.TheVariants as frame
use Rattle.hb_read_expressions.specs.declared.now.Purpose.TheVariants.{ForRow}
use Rattle.hb_read_expressions.specs.declared.now.Now.{Now}
use Rattle.hb_read_expressions.specs.declared.now.Now.TheVariants as now
use Rattle.hb_read_expressions.specs.Nodes.{put}
use Rattle.hb_read_expressions.specs.Sorts.{sort_of}
use Rattle.hb_read_expressions.specs.declared.state.Core.{Core}
use Rattle.hb_read_expressions.specs.declared.state.State.{State}
use Rattle.hb_read_expressions.specs.States.{at, state, begun_of, end_post}
use Rattle.hb_read_expressions.specs.Ends.{Ended, end_operand}
use Rattle.hb_read_expressions.specs.Outside.{move_core}
use Rattle.hb_read_expressions.specs.Inside.{with_pats, in_pattern, next_param, move_param, move_bind_start, move_row_var, move_row_left, move_row_open, move_alt_start, move_alt_pat, move_stmt_pat}
use Rattle.hb_read_expressions.specs.Statements.{move_both, move_stmt_start}

-- a token in a pattern or in an expression, where no statement begins
abbrev pub move_within : Now → List Frame → List ExprNode → PatReader → Token → Option State
move_within (now.ParamStart purpose patterns) frames nodes pats t = in_pattern (at frames (now.Param purpose patterns) nodes) (apat_reader.move apat_reader.start t) None
move_within (now.Param purpose before) frames nodes pats t = move_param purpose before frames nodes pats t
move_within (now.BindStart before) frames nodes pats t = move_bind_start before frames nodes pats t (sort_of t.kind)
move_within (now.RowVar before place name) frames nodes pats t = move_row_var before place name frames nodes pats t (sort_of t.kind)
move_within (now.RowOpen before place) frames nodes pats t = move_row_open before place frames nodes pats t (sort_of t.kind)
move_within (now.RowName before place name) frames nodes pats t = next_param (ForRow name place before) 0 frames nodes pats t
move_within (now.RowLeft before place) frames nodes pats t = move_row_left before place frames nodes pats t
move_within (now.AltStart begun place before) frames nodes pats t = move_alt_start begun place before frames nodes pats t (sort_of t.kind)
move_within (now.AltPat begun place before) frames nodes pats t = move_alt_pat begun place before frames nodes pats t
move_within (now.StmtPat begun place before) frames nodes pats t = move_stmt_pat begun place before frames nodes pats t
move_within now frames nodes pats t = with_pats pats (move_core now frames nodes t.place (sort_of t.kind))

-- a token where one reader goes on alone
abbrev pub move_alone : Now → List Frame → List ExprNode → PatReader → Token → Option State
move_alone (now.StmtStart begun place before may_end) frames nodes pats t = move_stmt_start begun place before may_end frames nodes pats t (sort_of t.kind)
move_alone now frames nodes pats t = move_within now frames nodes pats t

abbrev pub move_state : Bool → Core → PatReader → Token → Option State
move_state false core pats t = move_alone core.last core.frames core.nodes pats t
move_state true core pats t = move_both core pats t (sort_of t.kind)

-- what a token makes of a reader, or none where it cannot stand
unfoldable pub moved : State → Token → Option State
moved s t = move_state s.beside s.core s.pats t

-- an expression is whole here, if it ends here
abbrev pub ended_at : Now → List Frame → List ExprNode → Option Ended
ended_at (now.Post spot first stands) frames nodes = Some (end_operand frames (begun_of spot) stands (end_post spot stands nodes))
ended_at (now.Con spot place con) frames nodes = Some (end_operand frames (begun_of spot) place (end_post spot place (put nodes (node.Con place con))))
ended_at (now.Sealed spot stands) frames nodes = Some (end_operand frames (begun_of spot) stands (end_post spot stands nodes))
ended_at (now.Whole begun stands) frames nodes = Some (end_operand frames begun stands nodes)
ended_at now frames nodes = None

-- no frame is open
abbrev pub outermost : List Frame → List ExprNode → Option (List ExprNode)
outermost [] nodes = Some nodes
outermost (top ∷ frames) nodes = None

-- an equation by itself is whole with its expression
abbrev pub outermost_end : List Frame → Place → List ExprNode → Option (List ExprNode)
outermost_end [] first nodes = Some nodes
outermost_end (frame.Row name place patterns before ∷ frames) first nodes = outermost frames (put nodes (node.Row name place patterns first 0))
outermost_end frames first nodes = None

abbrev pub end_nodes : Option Ended → Option (List ExprNode)
end_nodes None = None
end_nodes (Some e) = outermost_end e.frames e.first e.nodes

abbrev pub done_now : Now → List Frame → List ExprNode → Option (List ExprNode)
done_now (now.RowEnd count) frames nodes = outermost frames nodes
done_now (now.Over count) frames nodes = outermost frames nodes
done_now current frames nodes = end_nodes (ended_at current frames nodes)

-- the nodes, where the tokens so far are a whole expression, a whole equation or a whole block of equations
unfoldable pub done : State → Option (List ExprNode)
done s = done_now s.core.last s.core.frames s.core.nodes

abbrev pub expr_start : PatReader → State
expr_start pats = state (at [] now.Want []) pats false

abbrev pub equation_start : PatReader → State
equation_start pats = state (at [] (now.BindStart 0) []) pats false

abbrev pub binds_start : PatReader → State
binds_start pats = state (at (frame.Block ∷ []) now.BindsBrace []) pats false

-- the readers of `expr`, of `equation` and of `block(equation)`: one machine with three starts; where the reader of patterns
-- stands at first does not matter
abbrev pub expr_reader : PatReader → Reader State (List ExprNode)
expr_reader pats = record { start = expr_start pats; move = moved; done = done }

abbrev pub equation_reader : PatReader → Reader State (List ExprNode)
equation_reader pats = record { start = equation_start pats; move = moved; done = done }

abbrev pub binds_reader : PatReader → Reader State (List ExprNode)
binds_reader pats = record { start = binds_start pats; move = moved; done = done }
