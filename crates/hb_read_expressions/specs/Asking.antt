-- What a reader looks at before it changes anything.
use Rattle.std.specs.Prelude.{Bool, true, false, List, [], ◌∷◌, ◌++◌, Option, Some, None, is_some, if◌then◌else◌}
use Rattle.hb_stack.specs.Stacks.{is_empty}
use Rattle.hb_read_patterns.specs.declared.node.PatNode.{PatNode}
use Rattle.hb_read_expressions.specs.declared.node.ExprNode.{ExprNode}
use Rattle.hb_read_expressions.specs.declared.node.ExprNode.TheVariants as node
use Rattle.hb_read_expressions.specs.declared.state.Core.{Core}
use Rattle.hb_read_expressions.specs.States.{at}
use Rattle.hb_read_expressions.specs.declared.sort.Sort.{Sort}
use Rattle.hb_read_expressions.specs.declared.sort.Sort.TheVariants as sort
use Rattle.hb_read_expressions.specs.declared.frame.Frame.{Frame}
use Rattle.hb_read_expressions.specs.declared.frame.Frame.TheVariants as frame
use Rattle.hb_read_expressions.specs.Nodes.{put, wrapped}
use Rattle.hb_read_expressions.specs.Ends.{right_end}
use Rattle.hb_read_expressions.specs.Statements.{head_of}

-- a node more, if there is one
abbrev pub put_some : Option ExprNode → List ExprNode → List ExprNode
put_some None nodes = nodes
put_some (Some n) nodes = put nodes n

abbrev pub put_pat_node : Option PatNode → List ExprNode → List ExprNode
put_pat_node None nodes = nodes
put_pat_node (Some n) nodes = put nodes (node.Pat n)

-- with the nodes of a pattern
abbrev pub with_pattern : Core → List PatNode → Core
with_pattern core pat_nodes = at core.frames core.last (core.nodes ++ wrapped pat_nodes)

-- the frames around the forms that are open to the right
abbrev pub settled : List Frame → List Frame
settled [] = []
settled (top ∷ frames) = if is_some (right_end top) then settled frames else top ∷ frames

-- a block of equations is right around
abbrev pub ends_binds : List Frame → Bool
ends_binds (frame.LetBinds begun place ∷ frames) = true
ends_binds (frame.Where name place patterns first before ∷ frames) = true
ends_binds (frame.Block ∷ frames) = true
ends_binds frames = false

-- the token comes after a whole equation
abbrev pub row_ends : List Frame → Sort → Bool
row_ends [] sort = false
row_ends (top ∷ frames) sort.Semicolon = true
row_ends (top ∷ frames) sort.CloseBrace = ends_binds (top ∷ frames)
row_ends (top ∷ frames) sort = false

-- the token comes after the whole expression of an equation
abbrev pub row_closes : List Frame → Sort → Bool
row_closes frames sort.Where = true
row_closes frames sort.Semicolon = row_ends frames sort.Semicolon
row_closes frames sort.CloseBrace = row_ends frames sort.CloseBrace
row_closes frames sort = false

abbrev pub bracket_closes : Sort → Bool
bracket_closes sort.Close = true
bracket_closes sort.Comma = true
bracket_closes sort = false

abbrev pub second_closes : Sort → Bool
second_closes sort.Close = true
second_closes sort = false

abbrev pub field_closes : Sort → Bool
field_closes sort.Bar = true
field_closes sort.CloseSquare = true
field_closes sort = false

abbrev pub if_closes : Sort → Bool
if_closes sort.Then = true
if_closes sort = false

abbrev pub then_closes : Sort → Bool
then_closes sort.Else = true
then_closes sort = false

abbrev pub case_closes : Sort → Bool
case_closes sort.Of = true
case_closes sort = false

abbrev pub statement_closes : Sort → Bool
statement_closes sort.Semicolon = true
statement_closes sort.CloseBrace = true
statement_closes sort = false

abbrev pub taken_closes : Sort → Bool
taken_closes sort.Semicolon = true
taken_closes sort = false

-- the token comes after a whole expression in this frame
abbrev pub frame_closes : Frame → List Frame → Sort → Bool
frame_closes (frame.Bracket spot place) frames sort = bracket_closes sort
frame_closes (frame.Second spot place) frames sort = second_closes sort
frame_closes (frame.Field spot place target before field_place field) frames sort = field_closes sort
frame_closes (frame.If begun place) frames sort = if_closes sort
frame_closes (frame.Then begun place) frames sort = then_closes sort
frame_closes (frame.Case begun place) frames sort = case_closes sort
frame_closes (frame.Alternative begun place before) frames sort = statement_closes sort
frame_closes (frame.Row name place patterns before) frames sort = row_closes frames sort
frame_closes (frame.Statement begun place before mark) frames sort = statement_closes sort
frame_closes (frame.Taken begun place before) frames sort = taken_closes sort
frame_closes top frames sort = false

abbrev pub top_closes : List Frame → Sort → Bool
top_closes [] sort = false
top_closes (top ∷ frames) sort = frame_closes top frames sort

-- no more than one equation is open
abbrev pub is_outermost : List Frame → Bool
is_outermost [] = true
is_outermost (frame.Row name place patterns before ∷ frames) = is_empty frames
is_outermost frames = false

-- a statement's expression is read
abbrev pub in_statement : List Frame → Bool
in_statement [] = false
in_statement (top ∷ frames) = if is_some (head_of top) then true else in_statement frames
