-- The states of the reader of expressions, and what is put out where a part of an expression is whole.
use Rattle.std.specs.Prelude.{◌+◌, Bool, List}
use Rattle.hb_base.specs.declared.place.Place.{Place}
use Rattle.hb_read_patterns.specs.declared.reader.PatReader.{PatReader}
use Rattle.hb_read_expressions.specs.declared.node.ExprNode.{ExprNode}
use Rattle.hb_read_expressions.specs.declared.node.ExprNode.TheVariants as node
use Rattle.hb_read_expressions.specs.declared.frame.Begun.{Begun}
use Rattle.hb_read_expressions.specs.declared.frame.Begun.TheVariants.{First, After}
use Rattle.hb_read_expressions.specs.declared.frame.Spot.{Spot}
use Rattle.hb_read_expressions.specs.declared.frame.Spot.TheVariants.{Head, Argument}
use Rattle.hb_read_expressions.specs.declared.frame.Frame.{Frame}
use Rattle.hb_read_expressions.specs.declared.now.Now.{Now}
use Rattle.hb_read_expressions.specs.Nodes.{put}
use Rattle.hb_read_expressions.specs.declared.state.Core.{Core}
use Rattle.hb_read_expressions.specs.declared.state.State.{State}

-- what is open, what was read last, and the nodes of all that is whole
abbrev pub at : List Frame → Now → List ExprNode → Core
at frames last nodes = record { frames = frames; last = last; nodes = nodes }

-- with the reader of patterns: in a pattern it goes on, and at a statement's head both run side by side
abbrev pub state : Core → PatReader → Bool → State
state core pats beside = record { core = core; pats = pats; beside = beside }

-- where an expression in progress begins
abbrev pub first_of : Begun → Place
first_of (First place) = place
first_of (After place operators) = place

-- with one operator more
abbrev pub one_more : Begun → Begun
one_more (First place) = After place 1
one_more (After place operators) = After place (operators + 1)

-- the last operand is whole: one alone is the expression, several are a run
abbrev pub end_run : Begun → List ExprNode → List ExprNode
end_run (First place) nodes = nodes
end_run (After place operators) nodes = put nodes (node.Run place operators)

-- where the expression stands, whose last operand stands here
abbrev pub run_at : Begun → Place → Place
run_at (First place) at_place = at_place
run_at (After place operators) at_place = place

abbrev pub begun_of : Spot → Begun
begun_of (Head begun) = begun
begun_of (Argument begun) = begun

-- the post is whole, which stands here: an argument is applied to
abbrev pub end_post : Spot → Place → List ExprNode → List ExprNode
end_post (Head begun) at_place nodes = nodes
end_post (Argument begun) at_place nodes = put nodes (node.Apply at_place)
