-- The reader of a context as a machine: one predicate and several in a bracket, read side by side.
use Rattle.std.specs.Prelude.{ℕ, ◌+◌, List, [], Option, Some, None}
use Rattle.hb_tokens.specs.declared.token.Token.{Token}
use Rattle.hb_grammar.specs.Reading.{Reader}
use Rattle.hb_read_types.specs.declared.node.TypeNode.{TypeNode}
use Rattle.hb_read_types.specs.declared.node.TypeNode.TheVariants as node
use Rattle.hb_read_types.specs.declared.sort.Sort.{Sort}
use Rattle.hb_read_types.specs.declared.sort.Sort.TheVariants as sort
use Rattle.hb_read_types.specs.declared.pred_reader.PredReader.{PredReader}
use Rattle.hb_read_types.specs.declared.context_reader.SeveralStage.{SeveralStage}
use Rattle.hb_read_types.specs.declared.context_reader.SeveralStage.TheVariants.{Opening, Inside, Closed}
use Rattle.hb_read_types.specs.declared.context_reader.Several.{Several}
use Rattle.hb_read_types.specs.declared.context_reader.ContextReader.{ContextReader}
use Rattle.hb_read_types.specs.Sorts.{sort_of}
use Rattle.hb_read_types.specs.TypeMoves.{put}
use Rattle.hb_read_types.specs.PredMoves.{nodes_of, pred_move, pred_done, pred_start}

abbrev pub several_state : SeveralStage → ℕ → PredReader → Several
several_state stage count pred = record { stage = stage; count = count; pred = pred }

-- after a predicate: `)` ends, and `,` goes on
abbrev pub between : ℕ → Sort → List TypeNode → Option Several
between count sort.Close nodes = Some (several_state Closed count (pred_start (put nodes (node.Context count))))
between count sort.Comma nodes = Some (several_state Inside (count + 1) (pred_start nodes))
between count _ nodes = None

abbrev pub between_if : ℕ → Sort → Option (List TypeNode) → Option Several
between_if count token None = None
between_if count token (Some nodes) = between count token nodes

-- the predicate went on with the token, or it may be after it
abbrev pub inside : ℕ → Sort → Option (List TypeNode) → Option PredReader → Option Several
inside count token nodes (Some pred) = Some (several_state Inside count pred)
inside count token nodes None = between_if count token nodes

abbrev pub opening : ℕ → PredReader → Sort → Option Several
opening count pred sort.Open = Some (several_state Inside count pred)
opening count pred _ = None

abbrev pub several_at : SeveralStage → ℕ → PredReader → Token → Option Several
several_at Opening count pred t = opening count pred (sort_of t)
several_at Inside count pred t = inside count (sort_of t) (pred_done pred) (pred_move pred t)
several_at Closed count pred t = None

abbrev pub several_done_at : SeveralStage → PredReader → Option (List TypeNode)
several_done_at Closed pred = Some (nodes_of pred.types)
several_done_at _ pred = None

unfoldable pub several_move : Several → Token → Option Several
several_move s t = several_at s.stage s.count s.pred t

unfoldable pub several_done : Several → Option (List TypeNode)
several_done s = several_done_at s.stage s.pred

abbrev pub several_start : List TypeNode → Several
several_start nodes = several_state Opening 1 (pred_start nodes)

abbrev pub context_state : Option PredReader → Option Several → ContextReader
context_state one several = record { one = one; several = several }

abbrev pub one_moved : Option PredReader → Token → Option PredReader
one_moved None t = None
one_moved (Some r) t = pred_move r t

abbrev pub several_moved : Option Several → Token → Option Several
several_moved None t = None
several_moved (Some s) t = several_move s t

-- what takes the token goes on
abbrev pub side_by_side : Option PredReader → Option Several → Option ContextReader
side_by_side None None = None
side_by_side one several = Some (context_state one several)

unfoldable pub context_move : ContextReader → Token → Option ContextReader
context_move r t = side_by_side (one_moved r.one t) (several_moved r.several t)

abbrev pub one_whole : Option (List TypeNode) → Option (List TypeNode)
one_whole None = None
one_whole (Some nodes) = Some (put nodes (node.Context 1))

abbrev pub one_done : Option PredReader → Option (List TypeNode)
one_done None = None
one_done (Some r) = one_whole (pred_done r)

abbrev pub several_whole : Option Several → Option (List TypeNode)
several_whole None = None
several_whole (Some s) = several_done s

abbrev pub or_else : Option (List TypeNode) → Option (List TypeNode) → Option (List TypeNode)
or_else None nodes = nodes
or_else (Some nodes) others = Some nodes

unfoldable pub context_done : ContextReader → Option (List TypeNode)
context_done r = or_else (one_done r.one) (several_whole r.several)

abbrev pub context_start : List TypeNode → ContextReader
context_start nodes = context_state (Some (pred_start nodes)) (Some (several_start nodes))

-- the reader of a context
abbrev pub context_reader : Reader ContextReader (List TypeNode)
context_reader = record { start = context_start []; move = context_move; done = context_done }
