-- What comes after a whole expression, by what is open around it.
use Rattle.std.specs.Prelude.{ℕ, ◌+◌, true, false, List, [], ◌∷◌, Option, Some, None}
use Rattle.hb_base.specs.declared.name.Name.{Name}
use Rattle.hb_base.specs.declared.place.Place.{Place}
use Rattle.hb_read_expressions.specs.declared.node.ExprNode.{ExprNode}
use Rattle.hb_read_expressions.specs.declared.node.ExprNode.TheVariants as node
use Rattle.hb_read_expressions.specs.declared.sort.Sort.{Sort}
use Rattle.hb_read_expressions.specs.declared.sort.Sort.TheVariants as sort
use Rattle.hb_read_expressions.specs.declared.frame.Begun.{Begun}
use Rattle.hb_read_expressions.specs.declared.frame.Spot.{Spot}
use Rattle.hb_read_expressions.specs.declared.frame.Target.{Target}
use Rattle.hb_read_expressions.specs.declared.frame.Target.TheVariants.{Build, Update}
use Rattle.hb_read_expressions.specs.declared.frame.Frame.{Frame}
use Rattle.hb_read_expressions.specs.declared.ends.RightEnd.{RightEnd}
use Rattle.hb_read_expressions.specs.declared.frame.Frame.TheVariants as frame
use Rattle.hb_read_expressions.specs.declared.now.Now.TheVariants as now
use Rattle.hb_read_expressions.specs.Nodes.{put}
use Rattle.hb_read_expressions.specs.declared.state.Core.{Core}
use Rattle.hb_read_expressions.specs.States.{at, first_of, end_run, run_at}

-- an expression that is whole up to its end, and in no frame that is open to the right: where it begins and stands
pub record Ended : Type 0 where
  pub frames : List Frame
  pub first : Place
  pub stands : Place
  pub nodes : List ExprNode

abbrev pub ended : List Frame → Place → Place → List ExprNode → Ended
ended frames first stands nodes = record { frames = frames; first = first; stands = stands; nodes = nodes }

-- what a form that is open to the right puts out at its end, in which expression it stands, and where
abbrev pub right_end : Frame → Option RightEnd
right_end (frame.Lambda begun place patterns) = Some (record { begun = begun; place = place; node = node.Lambda place patterns })
right_end (frame.LetBody begun place binds) = Some (record { begun = begun; place = place; node = node.Let place binds })
right_end (frame.Else begun place) = Some (record { begun = begun; place = place; node = node.If place })
right_end top = None

-- a form that is open to the right is whole with its expression; otherwise the expression is all that is whole
abbrev pub right_ended : Option RightEnd → (Place → Place → List ExprNode → Ended) → List ExprNode → Ended → Ended
right_ended None go_on nodes whole = whole
right_ended (Some e) go_on nodes whole = go_on (first_of e.begun) (run_at e.begun e.place) (end_run e.begun (put nodes e.node))

-- with an expression that is whole also those are whole that it closes
abbrev pub settle : List Frame → Place → Place → List ExprNode → Ended
settle [] first stands nodes = ended [] first stands nodes
settle (top ∷ frames) first stands nodes = right_ended (right_end top) (settle frames) nodes (ended (top ∷ frames) first stands nodes)

-- a block of equations is whole
abbrev pub end_binds : List Frame → ℕ → List ExprNode → Option Core
end_binds (frame.LetBinds begun place ∷ frames) binds nodes = Some (at frames (now.LetIn begun place binds) nodes)
end_binds (frame.Where name place patterns first before ∷ frames) binds nodes =
    Some (at frames (now.RowEnd (before + 1)) (put nodes (node.Row name place patterns first binds)))
end_binds (frame.Block ∷ frames) binds nodes = Some (at frames (now.Over binds) nodes)
end_binds frames binds nodes = None

-- an equation is whole, and is in a block: what comes after it
abbrev pub row_next : List Frame → ℕ → List ExprNode → Sort → Option Core
row_next [] binds nodes sort = None
row_next (top ∷ frames) binds nodes sort.Semicolon = Some (at (top ∷ frames) (now.BindStart binds) nodes)
row_next (top ∷ frames) binds nodes sort.CloseBrace = end_binds (top ∷ frames) binds nodes
row_next (top ∷ frames) binds nodes sort = None

-- the node of what field brackets belong to, at this place
abbrev pub target_node : Target → Place → ℕ → ExprNode
target_node (Build name) place fields = node.Build place name fields
target_node Update place fields = node.Update place fields

-- what comes after a whole expression in brackets
abbrev pub close_bracket : Spot → Place → List Frame → Place → List ExprNode → Sort → Option Core
close_bracket spot place frames stands nodes sort.Close = Some (at frames (now.Post spot place stands) nodes)
close_bracket spot place frames stands nodes sort.Comma = Some (at (frame.Second spot place ∷ frames) now.Want nodes)
close_bracket spot place frames stands nodes sort = None

abbrev pub close_second : Spot → Place → List Frame → List ExprNode → Sort → Option Core
close_second spot place frames nodes sort.Close = Some (at frames (now.Post spot place place) (put nodes (node.Pair place)))
close_second spot place frames nodes sort = None

-- the value of a field is whole
abbrev pub close_field : Spot → Place → Target → ℕ → Place → Name → List Frame → List ExprNode → Sort → Option Core
close_field spot place target before field_place field frames nodes sort.Bar =
    Some (at frames (now.NextField spot place target (before + 1)) (put nodes (node.Field field_place field)))
close_field spot place target before field_place field frames nodes sort.CloseSquare =
    Some (at frames (now.Post spot place place) (put (put nodes (node.Field field_place field)) (target_node target place (before + 1))))
close_field spot place target before field_place field frames nodes sort = None

abbrev pub close_if : Begun → Place → List Frame → List ExprNode → Sort → Option Core
close_if begun place frames nodes sort.Then = Some (at (frame.Then begun place ∷ frames) now.Want nodes)
close_if begun place frames nodes sort = None

abbrev pub close_then : Begun → Place → List Frame → List ExprNode → Sort → Option Core
close_then begun place frames nodes sort.Else = Some (at (frame.Else begun place ∷ frames) now.Want nodes)
close_then begun place frames nodes sort = None

abbrev pub close_case : Begun → Place → List Frame → List ExprNode → Sort → Option Core
close_case begun place frames nodes sort.Of = Some (at frames (now.CaseBrace begun place) nodes)
close_case begun place frames nodes sort = None

abbrev pub close_alternative : Begun → Place → ℕ → List Frame → List ExprNode → Sort → Option Core
close_alternative begun place before frames nodes sort.Semicolon =
    Some (at frames (now.AltStart begun place (before + 1)) (put nodes node.Alternative))
close_alternative begun place before frames nodes sort.CloseBrace =
    Some (at frames (now.Whole begun place) (put (put nodes node.Alternative) (node.Case place (before + 1))))
close_alternative begun place before frames nodes sort = None

-- the expression of an equation is whole, which begins here
abbrev pub close_row : Name → Place → ℕ → ℕ → List Frame → Place → List ExprNode → Sort → Option Core
close_row name place patterns before frames first nodes sort.Where =
    Some (at (frame.Where name place patterns first before ∷ frames) now.BindsBrace nodes)
close_row name place patterns before frames first nodes sort.Semicolon =
    row_next frames (before + 1) (put nodes (node.Row name place patterns first 0)) sort.Semicolon
close_row name place patterns before frames first nodes sort.CloseBrace =
    row_next frames (before + 1) (put nodes (node.Row name place patterns first 0)) sort.CloseBrace
close_row name place patterns before frames first nodes sort = None

-- the expression of a statement is whole
abbrev pub close_statement : Begun → Place → ℕ → List Frame → List ExprNode → Sort → Option Core
close_statement begun place before frames nodes sort.Semicolon =
    Some (at frames (now.StmtStart begun place (before + 1) true) (put nodes node.DoStmt))
close_statement begun place before frames nodes sort.CloseBrace =
    Some (at frames (now.Whole begun place) (put (put nodes node.DoStmt) (node.Do place (before + 1))))
close_statement begun place before frames nodes sort = None

-- the same of a statement with a pattern, which is not the last one
abbrev pub close_taken : Begun → Place → ℕ → List Frame → List ExprNode → Sort → Option Core
close_taken begun place before frames nodes sort.Semicolon =
    Some (at frames (now.StmtStart begun place (before + 1) false) (put nodes node.TakeStmt))
close_taken begun place before frames nodes sort = None

-- what comes after a whole expression, by what is open around it
abbrev pub close_frame : Frame → List Frame → Place → Place → List ExprNode → Sort → Option Core
close_frame (frame.Bracket spot place) frames first stands nodes sort = close_bracket spot place frames stands nodes sort
close_frame (frame.Second spot place) frames first stands nodes sort = close_second spot place frames nodes sort
close_frame (frame.Field spot place target before field_place field) frames first stands nodes sort =
    close_field spot place target before field_place field frames nodes sort
close_frame (frame.If begun place) frames first stands nodes sort = close_if begun place frames nodes sort
close_frame (frame.Then begun place) frames first stands nodes sort = close_then begun place frames nodes sort
close_frame (frame.Case begun place) frames first stands nodes sort = close_case begun place frames nodes sort
close_frame (frame.Alternative begun place before) frames first stands nodes sort = close_alternative begun place before frames nodes sort
close_frame (frame.Row name place patterns before) frames first stands nodes sort = close_row name place patterns before frames first nodes sort
close_frame (frame.Statement begun place before mark) frames first stands nodes sort = close_statement begun place before frames nodes sort
close_frame (frame.Taken begun place before) frames first stands nodes sort = close_taken begun place before frames nodes sort
close_frame top frames first stands nodes sort = None

abbrev pub close_top : List Frame → Place → Place → List ExprNode → Sort → Option Core
close_top [] first stands nodes sort = None
close_top (top ∷ frames) first stands nodes sort = close_frame top frames first stands nodes sort

abbrev pub close : Ended → Sort → Option Core
close e sort = close_top e.frames e.first e.stands e.nodes sort

-- an operand is whole: where it stands
abbrev pub end_operand : List Frame → Begun → Place → List ExprNode → Ended
end_operand frames begun stands nodes = settle frames (first_of begun) (run_at begun stands) (end_run begun nodes)
