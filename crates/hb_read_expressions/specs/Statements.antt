-- A statement's head: an expression and a pattern are read side by side, up to the token that only one of them has.
use Rattle.std.specs.Prelude.{ℕ, Bool, true, false, List, [], ◌∷◌, ◌++◌, length, take, Option, Some, None}
use Rattle.hb_base.specs.declared.place.Place.{Place}
use Rattle.hb_tokens.specs.declared.token.Token.{Token}
use Rattle.hb_read_patterns.specs.declared.reader.PatReader.{PatReader}
use Rattle.hb_read_patterns.specs.Moves.{pat_reader}
use Rattle.hb_read_expressions.specs.declared.node.ExprNode.{ExprNode}
use Rattle.hb_read_expressions.specs.declared.node.ExprNode.TheVariants as node
use Rattle.hb_read_expressions.specs.declared.sort.Sort.{Sort}
use Rattle.hb_read_expressions.specs.declared.sort.Sort.TheVariants as sort
use Rattle.hb_read_expressions.specs.declared.frame.Begun.{Begun}
use Rattle.hb_read_expressions.specs.declared.frame.Frame.{Frame}
use Rattle.hb_read_expressions.specs.declared.ends.StatementHead.{StatementHead}
use Rattle.hb_read_expressions.specs.declared.frame.Frame.TheVariants as frame
use Rattle.hb_read_expressions.specs.declared.now.Now.{Now}
use Rattle.hb_read_expressions.specs.declared.now.Now.TheVariants as now
use Rattle.hb_read_expressions.specs.Nodes.{put, wrapped}
use Rattle.hb_read_expressions.specs.Sorts.{sort_of}
use Rattle.hb_read_expressions.specs.declared.state.Core.{Core}
use Rattle.hb_read_expressions.specs.declared.state.State.{State}
use Rattle.hb_read_expressions.specs.States.{at, state}
use Rattle.hb_read_expressions.specs.Outside.{move_core}
use Rattle.hb_read_expressions.specs.Inside.{with_pats, if_done, stmt_arrow}

-- the statement whose expression is read in this frame
abbrev pub head_of : Frame → Option StatementHead
head_of (frame.Statement begun place before mark) = Some (record { begun = begun; place = place; before = before; mark = mark })
head_of top = None

abbrev pub cut_at : Option StatementHead → List Frame → List ExprNode → Option Core → Option Core
cut_at None frames nodes outer = outer
cut_at (Some head) frames nodes outer = Some (at frames (now.StmtPat head.begun head.place head.before) (take head.mark nodes))

-- back to the head of the statement that is read
abbrev pub cut : List Frame → List ExprNode → Option Core
cut [] nodes = None
cut (top ∷ frames) nodes = cut_at (head_of top) frames nodes (cut frames nodes)

-- the expression ends here, and the pattern goes on alone
abbrev pub pattern_alone : PatReader → Option Core → Option State
pattern_alone pats None = None
pattern_alone pats (Some core) = Some (state core pats false)

-- at a statement's head: the expression goes on, the pattern, or both
abbrev pub both : Core → Option Core → PatReader → Option PatReader → Option State
both old (Some core) pats (Some next) = Some (state core next true)
both old (Some core) pats None = Some (state core pats false)
both old None pats (Some next) = pattern_alone next (cut old.frames old.nodes)
both old None pats None = None

-- an arrow after a statement's pattern
abbrev pub stmt_next : Now → List Frame → List ExprNode → Sort → Option Core
stmt_next (now.StmtPat begun place before) frames nodes sort = stmt_arrow begun place before frames nodes sort
stmt_next now frames nodes sort = None

abbrev pub arrow_at : Option Core → PatReader → Token → Option State
arrow_at None pats t = None
arrow_at (Some core) pats t =
    if_done (pat_reader.done pats) (λ pat_nodes. with_pats pats (stmt_next core.last core.frames (core.nodes ++ wrapped pat_nodes) (sort_of t.kind)))

-- the two readers side by side
abbrev pub move_both : Core → PatReader → Token → Sort → Option State
move_both core pats t sort.LeftArrow = arrow_at (cut core.frames core.nodes) pats t
move_both core pats t sort = both core (move_core core.last core.frames core.nodes t.place sort) pats (pat_reader.move pats t)

-- a `do` may end after an expression
abbrev pub end_do : Bool → Begun → Place → ℕ → List Frame → List ExprNode → Option Core
end_do false begun place statements frames nodes = None
end_do true begun place statements frames nodes = Some (at frames (now.Whole begun place) (put nodes (node.Do place statements)))

abbrev pub move_stmt_start : Begun → Place → ℕ → Bool → List Frame → List ExprNode → PatReader → Token → Sort → Option State
move_stmt_start begun place before may_end frames nodes pats t sort.Semicolon = Some (state (at frames (now.StmtStart begun place before may_end) nodes) pats false)
move_stmt_start begun place before may_end frames nodes pats t sort.CloseBrace = with_pats pats (end_do may_end begun place before frames nodes)
move_stmt_start begun place before may_end frames nodes pats t sort =
    move_both (at (frame.Statement begun place before (length nodes) ∷ frames) now.Want nodes) pat_reader.start t sort
