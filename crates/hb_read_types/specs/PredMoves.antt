-- The reader of a predicate as a machine over the reader of types that stand by themselves.
use Rattle.std.specs.Prelude.{Bool, true, false, ℕ, ◌+◌, ◌==◌, List, [], Option, Some, None, if◌then◌else◌}
use Rattle.hb_base.specs.declared.place.Place.{Place}
use Rattle.hb_base.specs.declared.name.Name.{Name}
use Rattle.hb_tokens.specs.declared.token.Token.{Token}
use Rattle.hb_grammar.specs.Reading.{Reader}
use Rattle.hb_read_types.specs.declared.node.TypeNode.{TypeNode}
use Rattle.hb_read_types.specs.declared.node.TypeNode.TheVariants as node
use Rattle.hb_read_types.specs.declared.sort.Sort.{Sort}
use Rattle.hb_read_types.specs.declared.sort.Sort.TheVariants as sort
use Rattle.hb_read_types.specs.declared.type_reader.Frame.{Frame}
use Rattle.hb_read_types.specs.declared.type_reader.Now.{Now}
use Rattle.hb_read_types.specs.declared.type_reader.Now.TheVariants.{Want, Had}
use Rattle.hb_read_types.specs.declared.type_reader.TypeReader.{TypeReader}
use Rattle.hb_read_types.specs.declared.pred_reader.Fact.{Fact}
use Rattle.hb_read_types.specs.declared.pred_reader.Fact.TheVariants.{Sum, Product, Power, AtMost}
use Rattle.hb_read_types.specs.declared.pred_reader.PredStage.{PredStage}
use Rattle.hb_read_types.specs.declared.pred_reader.PredStage.TheVariants.{Begin, ClassOrType, PowerOrType, Class, First, Middle, Last}
use Rattle.hb_read_types.specs.declared.pred_reader.PredReader.{PredReader}
use Rattle.hb_read_types.specs.Sorts.{sort_of}
use Rattle.hb_stack.specs.Stacks.{first_of}
use Rattle.hb_read_types.specs.TypeMoves.{state, put, ended_nodes, type_move, type_done}

abbrev pub pred_state : PredStage → TypeReader → PredReader
pred_state stage types = record { stage = stage; types = types }

-- the nodes of the types that are at their end
abbrev pub nodes_of : TypeReader → List TypeNode
nodes_of types = ended_nodes types.frames types.nodes

-- another type that stands by itself begins
abbrev pub alone_from : List TypeNode → TypeReader
alone_from nodes = state false Want [] nodes

abbrev pub another : TypeReader → TypeReader
another types = alone_from (nodes_of types)

abbrev pub fact_node : Fact → TypeNode
fact_node Sum = node.SumFact
fact_node Product = node.ProductFact
fact_node Power = node.PowerFact
fact_node AtMost = node.AtMostFact

-- where the reader of types took the token
abbrev pub typed : PredStage → Option TypeReader → Option PredReader
typed stage None = None
typed stage (Some types) = Some (pred_state stage types)

-- the operator of a fact after its first type
abbrev pub operator : List TypeNode → Sort → Option PredReader
operator nodes sort.Plus = Some (pred_state (Middle Sum) (alone_from nodes))
operator nodes sort.Times = Some (pred_state (Middle Product) (alone_from nodes))
operator nodes sort.AtMost = Some (pred_state (Last AtMost) (alone_from nodes))
operator nodes _ = None

abbrev pub number_begins : Place → ℕ → List TypeNode → Token → Option PredReader
number_begins place number nodes t = if number == 2 then Some (pred_state (PowerOrType place) (alone_from nodes)) else typed First (type_move (alone_from nodes) t)

abbrev pub begin_pred : List TypeNode → Token → Sort → Option PredReader
begin_pred nodes t (sort.Atom (node.Con place name)) = Some (pred_state (ClassOrType place name) (alone_from nodes))
begin_pred nodes t (sort.Atom (node.Number place number)) = number_begins place number nodes t
begin_pred nodes t _ = typed First (type_move (alone_from nodes) t)

-- after a name alone: an operator, or the first type of a class
abbrev pub after_name : Place → Name → List TypeNode → Token → Sort → Option PredReader
after_name place name nodes t sort.Plus = operator (put nodes (node.Con place name)) sort.Plus
after_name place name nodes t sort.Times = operator (put nodes (node.Con place name)) sort.Times
after_name place name nodes t sort.AtMost = operator (put nodes (node.Con place name)) sort.AtMost
after_name place name nodes t _ = typed (Class place name 1) (type_move (alone_from nodes) t)

-- after the number 2 alone: `^`, or another operator
abbrev pub after_two : Place → List TypeNode → Sort → Option PredReader
after_two place nodes sort.Power = Some (pred_state (Middle Power) (alone_from nodes))
after_two place nodes token = operator (put nodes (node.Number place 2)) token

abbrev pub equals : Fact → List TypeNode → Sort → Option PredReader
equals fact nodes sort.Equals = Some (pred_state (Last fact) (alone_from nodes))
equals fact nodes _ = None

-- after a type that stands by itself
abbrev pub after_type : PredStage → List TypeNode → Token → Sort → Option PredReader
after_type (Class place name count) nodes t token = typed (Class place name (count + 1)) (type_move (alone_from nodes) t)
after_type First nodes t token = operator nodes token
after_type (Middle fact) nodes t token = equals fact nodes token
after_type _ nodes t token = None

abbrev pub alone_whole : Now → Option Frame → Bool
alone_whole (Had head) None = true
alone_whole now frame = false

-- a type that stands by itself is at its end where no bracket is open
abbrev pub is_alone_whole : TypeReader → Bool
is_alone_whole types = alone_whole types.stage (first_of types.frames)

-- in a type, or after it
abbrev pub in_type : PredStage → TypeReader → Token → Option PredReader
in_type stage types t = if is_alone_whole types then after_type stage (nodes_of types) t (sort_of t) else typed stage (type_move types t)

abbrev pub move_pred_at : PredStage → TypeReader → Token → Option PredReader
move_pred_at Begin types t = begin_pred (nodes_of types) t (sort_of t)
move_pred_at (ClassOrType place name) types t = after_name place name (nodes_of types) t (sort_of t)
move_pred_at (PowerOrType place) types t = after_two place (nodes_of types) (sort_of t)
move_pred_at stage types t = in_type stage types t

unfoldable pub pred_move : PredReader → Token → Option PredReader
pred_move r t = move_pred_at r.stage r.types t

-- this node behind those of the types that are at their end
abbrev pub whole_with : TypeNode → Option (List TypeNode) → Option (List TypeNode)
whole_with whole None = None
whole_with whole (Some nodes) = Some (put nodes whole)

abbrev pub pred_done_at : PredStage → Option (List TypeNode) → Option (List TypeNode)
pred_done_at (Class place name count) nodes = whole_with (node.Class place name count) nodes
pred_done_at (Last fact) nodes = whole_with (fact_node fact) nodes
pred_done_at _ nodes = None

unfoldable pub pred_done : PredReader → Option (List TypeNode)
pred_done r = pred_done_at r.stage (type_done r.types)

abbrev pub pred_start : List TypeNode → PredReader
pred_start nodes = pred_state Begin (alone_from nodes)

-- the reader of a predicate
abbrev pub pred_reader : Reader PredReader (List TypeNode)
pred_reader = record { start = pred_start []; move = pred_move; done = pred_done }
