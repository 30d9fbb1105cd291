-- Patterns inside expressions: the reader of patterns takes their tokens, up to what comes after them.
use Rattle.std.specs.Prelude.{ℕ, zero, suc, ◌+◌, false, List, ◌∷◌, ◌++◌, Option, Some, None}
use Rattle.hb_base.specs.declared.name.Name.{Name}
use Rattle.hb_base.specs.declared.place.Place.{Place}
use Rattle.hb_tokens.specs.declared.token.Token.{Token}
use Rattle.hb_read_patterns.specs.declared.node.PatNode.{PatNode}
use Rattle.hb_read_patterns.specs.declared.node.PatNode.TheVariants as pat_node
use Rattle.hb_read_patterns.specs.declared.reader.PatReader.{PatReader}
use Rattle.hb_read_patterns.specs.Moves.{pat_reader, apat_reader}
use Rattle.hb_read_expressions.specs.declared.node.ExprNode.{ExprNode}
use Rattle.hb_read_expressions.specs.declared.node.ExprNode.TheVariants as node
use Rattle.hb_read_expressions.specs.declared.sort.Sort.{Sort}
use Rattle.hb_read_expressions.specs.declared.sort.Sort.TheVariants as sort
use Rattle.hb_read_expressions.specs.declared.frame.Begun.{Begun}
use Rattle.hb_read_expressions.specs.declared.frame.Frame.{Frame}
use Rattle.hb_read_expressions.specs.declared.frame.Frame.TheVariants as frame
use Rattle.hb_read_expressions.specs.declared.now.Purpose.{Purpose}
use Rattle.hb_read_expressions.specs.declared.now.Purpose.TheVariants.{ForLambda, ForRow, ForRight}
use Rattle.hb_read_expressions.specs.declared.now.Now.TheVariants as now
use Rattle.hb_read_expressions.specs.Nodes.{put, wrapped}
use Rattle.hb_read_expressions.specs.Sorts.{sort_of}
use Rattle.hb_read_expressions.specs.declared.state.Core.{Core}
use Rattle.hb_read_expressions.specs.declared.state.State.{State}
use Rattle.hb_read_expressions.specs.States.{at, state}
use Rattle.hb_read_expressions.specs.Ends.{row_next}

-- with the reader of patterns where it stands
abbrev pub with_pats : PatReader → Option Core → Option State
with_pats pats None = None
with_pats pats (Some core) = Some (state core pats false)

-- a pattern's next token: it goes on, or else something comes after it
abbrev pub in_pattern : Core → Option PatReader → Option State → Option State
in_pattern core (Some pats) after = Some (state core pats false)
in_pattern core None after = after

abbrev pub if_done : Option (List PatNode) → (List PatNode → Option State) → Option State
if_done None go_on = None
if_done (Some nodes) go_on = go_on nodes

-- patterns are whole: what comes after so many of them
abbrev pub end_params : Purpose → ℕ → List Frame → List ExprNode → Sort → Option Core
end_params (ForLambda begun place) patterns frames nodes sort.RightArrow = Some (at (frame.Lambda begun place patterns ∷ frames) now.Want nodes)
end_params (ForRow name place before) patterns frames nodes sort.Equals = Some (at (frame.Row name place patterns before ∷ frames) now.Want nodes)
end_params (ForRight name place before) patterns frames nodes sort.Equals = Some (at (frame.Row name place patterns before ∷ frames) now.Want nodes)
end_params purpose patterns frames nodes sort = None

-- after so many simple patterns: one more may begin
abbrev pub next_param : Purpose → ℕ → List Frame → List ExprNode → PatReader → Token → Option State
next_param (ForRight name place before) patterns frames nodes pats t =
    with_pats pats (end_params (ForRight name place before) patterns frames nodes (sort_of t.kind))
next_param purpose patterns frames nodes pats t =
    in_pattern (at frames (now.Param purpose patterns) nodes) (apat_reader.move apat_reader.start t) (with_pats pats (end_params purpose patterns frames nodes (sort_of t.kind)))

abbrev pub move_param : Purpose → ℕ → List Frame → List ExprNode → PatReader → Token → Option State
move_param purpose before frames nodes pats t =
    in_pattern (at frames (now.Param purpose before) nodes) (apat_reader.move pats t) (if_done (apat_reader.done pats) (λ pat_nodes. next_param purpose (before + 1) frames (nodes ++ wrapped pat_nodes) pats t))

-- an operator after the left pattern of an equation
abbrev pub row_infix : ℕ → Place → List Frame → List ExprNode → Sort → Option Core
row_infix before place frames nodes (sort.Operator name) = Some (at frames (now.ParamStart (ForRight name place before) 1) nodes)
row_infix before place frames nodes sort.Backquote = Some (at frames (now.RowQuote before place) nodes)
row_infix before place frames nodes sort = None

-- where an equation may begin
abbrev pub move_bind_start : ℕ → List Frame → List ExprNode → PatReader → Token → Sort → Option State
move_bind_start before frames nodes pats t (sort.Variable name) = Some (state (at frames (now.RowVar before t.place name) nodes) pats false)
move_bind_start before frames nodes pats t sort.Open =
    in_pattern (at frames (now.RowOpen before t.place) nodes) (apat_reader.move apat_reader.start t) None
move_bind_start before frames nodes pats t sort.Semicolon = with_pats pats (row_next frames before nodes sort.Semicolon)
move_bind_start before frames nodes pats t sort.CloseBrace = with_pats pats (row_next frames before nodes sort.CloseBrace)
move_bind_start before frames nodes pats t sort =
    in_pattern (at frames (now.RowLeft before t.place) nodes) (apat_reader.move apat_reader.start t) None

-- after a name that an equation begins with: it is what is defined, or a pattern before an operator
abbrev pub move_row_var : ℕ → Place → Name → List Frame → List ExprNode → PatReader → Token → Sort → Option State
move_row_var before place name frames nodes pats t (sort.Operator op) =
    with_pats pats (row_infix before place frames (put nodes (node.Pat (pat_node.Var place name))) (sort.Operator op))
move_row_var before place name frames nodes pats t sort.Backquote =
    with_pats pats (row_infix before place frames (put nodes (node.Pat (pat_node.Var place name))) sort.Backquote)
move_row_var before place name frames nodes pats t sort = next_param (ForRow name place before) 0 frames nodes pats t

-- in the left pattern of an equation
abbrev pub move_row_left : ℕ → Place → List Frame → List ExprNode → PatReader → Token → Option State
move_row_left before place frames nodes pats t =
    in_pattern (at frames (now.RowLeft before place) nodes) (apat_reader.move pats t) (if_done (apat_reader.done pats) (λ pat_nodes. with_pats pats (row_infix before place frames (nodes ++ wrapped pat_nodes) (sort_of t.kind))))

-- after `(` that an equation begins with: an operator that is defined, or a pattern
abbrev pub move_row_open : ℕ → Place → List Frame → List ExprNode → PatReader → Token → Sort → Option State
move_row_open before place frames nodes pats t (sort.Operator name) = Some (state (at frames (now.RowOp before place name) nodes) pats false)
move_row_open before place frames nodes pats t sort = move_row_left before place frames nodes pats t

-- the arrow of an alternative
abbrev pub alt_arrow : Begun → Place → ℕ → List Frame → List ExprNode → Sort → Option Core
alt_arrow begun place before frames nodes sort.RightArrow = Some (at (frame.Alternative begun place before ∷ frames) now.Want nodes)
alt_arrow begun place before frames nodes sort = None

-- a `case` may end after one alternative or more
abbrev pub end_case : Begun → Place → ℕ → List Frame → List ExprNode → Option Core
end_case begun place zero frames nodes = None
end_case begun place (suc before) frames nodes = Some (at frames (now.Whole begun place) (put nodes (node.Case place (suc before))))

abbrev pub move_alt_start : Begun → Place → ℕ → List Frame → List ExprNode → PatReader → Token → Sort → Option State
move_alt_start begun place before frames nodes pats t sort.Semicolon = Some (state (at frames (now.AltStart begun place before) nodes) pats false)
move_alt_start begun place before frames nodes pats t sort.CloseBrace = with_pats pats (end_case begun place before frames nodes)
move_alt_start begun place before frames nodes pats t sort =
    in_pattern (at frames (now.AltPat begun place before) nodes) (pat_reader.move pat_reader.start t) None

abbrev pub move_alt_pat : Begun → Place → ℕ → List Frame → List ExprNode → PatReader → Token → Option State
move_alt_pat begun place before frames nodes pats t =
    in_pattern (at frames (now.AltPat begun place before) nodes) (pat_reader.move pats t) (if_done (pat_reader.done pats) (λ pat_nodes. with_pats pats (alt_arrow begun place before frames (nodes ++ wrapped pat_nodes) (sort_of t.kind))))

-- the arrow of a statement
abbrev pub stmt_arrow : Begun → Place → ℕ → List Frame → List ExprNode → Sort → Option Core
stmt_arrow begun place before frames nodes sort.LeftArrow = Some (at (frame.Taken begun place before ∷ frames) now.Want nodes)
stmt_arrow begun place before frames nodes sort = None

abbrev pub move_stmt_pat : Begun → Place → ℕ → List Frame → List ExprNode → PatReader → Token → Option State
move_stmt_pat begun place before frames nodes pats t =
    in_pattern (at frames (now.StmtPat begun place before) nodes) (pat_reader.move pats t) (if_done (pat_reader.done pats) (λ pat_nodes. with_pats pats (stmt_arrow begun place before frames (nodes ++ wrapped pat_nodes) (sort_of t.kind))))
