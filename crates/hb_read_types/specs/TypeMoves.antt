-- The reader of a type as a machine: what each token leads to. `is_whole` tells a type from one that stands by itself.
use Rattle.std.specs.Prelude.{List, [], ◌∷◌, ◌++◌, Bool, true, false, Option, Some, None, if◌then◌else◌}
use Rattle.hb_base.specs.declared.place.Place.{Place}
use Rattle.hb_tokens.specs.declared.token.Token.{Token}
use Rattle.hb_grammar.specs.Reading.{Reader}
use Rattle.hb_read_types.specs.declared.node.TypeNode.{TypeNode}
use Rattle.hb_read_types.specs.declared.node.TypeNode.TheVariants as node
use Rattle.hb_read_types.specs.declared.sort.Sort.{Sort}
use Rattle.hb_read_types.specs.declared.sort.Sort.TheVariants as sort
use Rattle.hb_read_types.specs.declared.type_reader.Spot.{Spot}
use Rattle.hb_read_types.specs.declared.type_reader.Spot.TheVariants.{First, Argument}
use Rattle.hb_read_types.specs.declared.type_reader.Frame.{Frame}
use Rattle.hb_read_types.specs.declared.type_reader.Frame.TheVariants.{Open, Pair, Sum, Arrow}
use Rattle.hb_read_types.specs.declared.type_reader.Now.{Now}
use Rattle.hb_read_types.specs.declared.type_reader.Now.TheVariants.{Want, Opened, Had}
use Rattle.hb_read_types.specs.declared.type_reader.TypeReader.{TypeReader}
use Rattle.hb_read_types.specs.Sorts.{sort_of}
use Rattle.hb_stack.specs.Stacks.{first_of, rest_of}

abbrev pub state : Bool → Now → List Frame → List TypeNode → TypeReader
state is_whole now frames nodes = record { is_whole = is_whole; stage = now; frames = frames; nodes = nodes }

-- one node more
abbrev pub put : List TypeNode → TypeNode → List TypeNode
put nodes node = nodes ++ node ∷ []

-- where the row of types begins that has at this spot a type at this place
abbrev pub head_place : Spot → Place → Place
head_place First place = place
head_place (Argument head) place = head

-- a type at this spot is at its end: behind another one, that is applied to it
abbrev pub filled : Spot → List TypeNode → List TypeNode
filled First nodes = nodes
filled (Argument head) nodes = put nodes (node.Apply head)

abbrev pub after : Bool → Spot → Place → List Frame → List TypeNode → TypeReader
after is_whole spot place frames nodes = state is_whole (Had (head_place spot place)) frames (filled spot nodes)

-- a type that stands by itself begins
abbrev pub begin : Bool → Spot → List Frame → List TypeNode → Place → Sort → Option TypeReader
begin is_whole spot frames nodes place (sort.Atom node) = Some (after is_whole spot place frames (put nodes node))
begin is_whole spot frames nodes place sort.Open = Some (state is_whole (Opened place spot) frames nodes)
begin is_whole spot frames nodes place _ = None

-- right after a bracket
abbrev pub in_bracket : Bool → Place → Spot → List Frame → List TypeNode → Place → Sort → Option TypeReader
in_bracket is_whole bracket spot frames nodes place sort.Close = Some (after is_whole spot bracket frames (put nodes (node.Unit bracket)))
in_bracket is_whole bracket spot frames nodes place token = begin is_whole First (Open bracket spot ∷ frames) nodes place token

abbrev pub apply_at : Bool → Option Frame → Bool
apply_at is_whole None = is_whole
apply_at is_whole (Some frame) = true

-- an argument can follow: not after a type that is to stand by itself
abbrev pub may_apply : Bool → List Frame → Bool
may_apply is_whole frames = apply_at is_whole (first_of frames)

abbrev pub arrow_at : Bool → Option Frame → Bool
arrow_at is_whole None = is_whole
arrow_at is_whole (Some (Sum bracket spot)) = false
arrow_at is_whole (Some frame) = true

-- an arrow can follow: not in a sum
abbrev pub may_arrow : Bool → List Frame → Bool
may_arrow is_whole frames = arrow_at is_whole (first_of frames)

abbrev pub add_at : Bool → Option Frame → List Frame → List TypeNode → Option TypeReader
add_at is_whole (Some (Open bracket spot)) frames nodes = Some (state is_whole Want (Sum bracket spot ∷ frames) nodes)
add_at is_whole _ frames nodes = None

-- `+` can follow at the first type of a bracket, where there was no arrow
abbrev pub add : Bool → List Frame → List TypeNode → Option TypeReader
add is_whole frames nodes = add_at is_whole (first_of frames) (rest_of frames) nodes

-- what is left when all results of arrows are at their end: the bracket around them is on top
abbrev pub open_frames : List Frame → List Frame
open_frames (Arrow place ∷ frames) = open_frames frames
open_frames frames = frames

-- the nodes then
abbrev pub ended_nodes : List Frame → List TypeNode → List TypeNode
ended_nodes (Arrow place ∷ frames) nodes = ended_nodes frames (put nodes (node.Arrow place))
ended_nodes _ nodes = nodes

abbrev pub bracket_of : List Frame → Option Frame
bracket_of frames = first_of (open_frames frames)

abbrev pub around : List Frame → List Frame
around frames = rest_of (open_frames frames)

abbrev pub divide_at : Bool → Option Frame → List Frame → List TypeNode → Option TypeReader
divide_at is_whole (Some (Open bracket spot)) frames nodes = Some (state is_whole Want (Pair bracket spot ∷ frames) nodes)
divide_at is_whole _ frames nodes = None

-- `,`: all results of arrows are at their end, and the first type of a bracket
abbrev pub divide : Bool → List Frame → List TypeNode → Option TypeReader
divide is_whole frames nodes = divide_at is_whole (bracket_of frames) (around frames) (ended_nodes frames nodes)

abbrev pub close_at : Bool → Option Frame → List Frame → List TypeNode → Option TypeReader
close_at is_whole (Some (Open bracket spot)) frames nodes = Some (after is_whole spot bracket frames nodes)
close_at is_whole (Some (Pair bracket spot)) frames nodes = Some (after is_whole spot bracket frames (put nodes (node.Pair bracket)))
close_at is_whole (Some (Sum bracket spot)) frames nodes = Some (after is_whole spot bracket frames (put nodes (node.Sum bracket)))
close_at is_whole _ frames nodes = None

-- `)`: all results of arrows are at their end, and the bracket
abbrev pub close : Bool → List Frame → List TypeNode → Option TypeReader
close is_whole frames nodes = close_at is_whole (bracket_of frames) (around frames) (ended_nodes frames nodes)

-- a type that begins at `head` may be at its end
abbrev pub go_on : Bool → Place → List Frame → List TypeNode → Place → Sort → Option TypeReader
go_on is_whole head frames nodes place (sort.Atom node) = if may_apply is_whole frames then begin is_whole (Argument head) frames nodes place (sort.Atom node) else None
go_on is_whole head frames nodes place sort.Open = if may_apply is_whole frames then begin is_whole (Argument head) frames nodes place sort.Open else None
go_on is_whole head frames nodes place sort.Arrow = if may_arrow is_whole frames then Some (state is_whole Want (Arrow head ∷ frames) nodes) else None
go_on is_whole head frames nodes place sort.Plus = add is_whole frames nodes
go_on is_whole head frames nodes place sort.Comma = divide is_whole frames nodes
go_on is_whole head frames nodes place sort.Close = close is_whole frames nodes
go_on is_whole head frames nodes place _ = None

abbrev pub move_now : Bool → Now → List Frame → List TypeNode → Place → Sort → Option TypeReader
move_now is_whole Want frames nodes place token = begin is_whole First frames nodes place token
move_now is_whole (Opened bracket spot) frames nodes place token = in_bracket is_whole bracket spot frames nodes place token
move_now is_whole (Had head) frames nodes place token = go_on is_whole head frames nodes place token

unfoldable pub type_move : TypeReader → Token → Option TypeReader
type_move r t = move_now r.is_whole r.stage r.frames r.nodes t.place (sort_of t)

abbrev pub ended_at : Option Frame → List TypeNode → Option (List TypeNode)
ended_at None nodes = Some nodes
ended_at (Some frame) nodes = None

-- no bracket is open: all results of arrows are at their end
abbrev pub ended : List Frame → List TypeNode → Option (List TypeNode)
ended frames nodes = ended_at (bracket_of frames) (ended_nodes frames nodes)

abbrev pub done_now : Now → List Frame → List TypeNode → Option (List TypeNode)
done_now (Had head) frames nodes = ended frames nodes
done_now _ frames nodes = None

unfoldable pub type_done : TypeReader → Option (List TypeNode)
type_done r = done_now r.stage r.frames r.nodes

-- a type begins behind these nodes
abbrev pub begin_at : Bool → List TypeNode → TypeReader
begin_at is_whole nodes = state is_whole Want [] nodes

abbrev pub start : Bool → TypeReader
start is_whole = begin_at is_whole []

abbrev pub reader : Bool → Reader TypeReader (List TypeNode)
reader is_whole = record { start = start is_whole; move = type_move; done = type_done }

-- the reader of a type
abbrev pub type_reader : Reader TypeReader (List TypeNode)
type_reader = reader true

-- the reader of a type that stands by itself
abbrev pub atype_reader : Reader TypeReader (List TypeNode)
atype_reader = reader false
