-- The reader of patterns: what each token makes of it.
use Rattle.std.specs.Prelude.{ℕ, ◌+◌, if◌then◌else◌, List, [], ◌∷◌, ◌++◌, Option, Some, None}
use Rattle.hb_base.specs.declared.name.Name.{Name}
use Rattle.hb_base.specs.declared.place.Place.{Place}
use Rattle.hb_tokens.specs.declared.token.Token.{Token}
use Rattle.hb_grammar.specs.Reading.{Reader}
use Rattle.hb_read_patterns.specs.declared.node.PatNode.{PatNode}
use Rattle.hb_read_patterns.specs.declared.node.PatNode.TheVariants as node
use Rattle.hb_read_patterns.specs.declared.sort.Sort.{Sort}
use Rattle.hb_read_patterns.specs.declared.sort.Sort.TheVariants.{Variable}
use Rattle.hb_read_patterns.specs.declared.start.Start.{Start}
use Rattle.hb_read_patterns.specs.declared.start.Start.TheVariants as start
use Rattle.hb_read_patterns.specs.declared.head.Head.{Head}
use Rattle.hb_read_patterns.specs.declared.head.Head.TheVariants.{Whole, Single, Many}
use Rattle.hb_read_patterns.specs.declared.frame.Frame.{Frame}
use Rattle.hb_read_patterns.specs.declared.frame.Frame.TheVariants.{First, Second, Given}
use Rattle.hb_read_patterns.specs.declared.frame.Due.{Due}
use Rattle.hb_read_patterns.specs.declared.reader.Last.{Last}
use Rattle.hb_read_patterns.specs.declared.reader.Last.TheVariants.{Wanted, Opened, Named, Done, Bracketed, Parted, Chosen}
use Rattle.hb_read_patterns.specs.declared.reader.PatReader.{PatReader}
use Rattle.hb_stack.specs.Stacks.{is_empty}
use Rattle.hb_read_patterns.specs.Sorts.{sort_of, is_close, is_comma, is_open_square, is_close_square, is_bar, is_equals}
use Rattle.hb_read_patterns.specs.Heads.{more_head, put_node, end_head, named_head, named_nodes}
use Rattle.hb_read_patterns.specs.Starts.{start_of, more_start}

-- a reader by its parts
abbrev pub at_last : List Frame → Head → Last → List PatNode → PatReader
at_last frames head last nodes = record { frames = frames; head = head; last = last; nodes = nodes }

abbrev pub put_due : Due → List PatNode → List PatNode
put_due due nodes = put_node due.whole (put_node due.simple nodes)

-- a simple pattern is begun
abbrev pub put_start : List Frame → Head → List PatNode → Start → PatReader
put_start frames head nodes (start.Node x) = at_last frames head Done (nodes ++ x ∷ [])
put_start frames head nodes (start.Name place con) = at_last frames head (Named place con) nodes
put_start frames head nodes (start.Bracket place) = at_last frames head (Opened place) nodes

-- it is begun, if the token gives a start, and otherwise this comes
abbrev pub started : List Frame → Head → List PatNode → Option PatReader → Option Start → Option PatReader
started frames head nodes other None = other
started frames head nodes other (Some s) = Some (put_start frames head nodes s)

-- the first token of a simple pattern
abbrev pub begin : List Frame → Head → List PatNode → Place → Sort → Option PatReader
begin frames head nodes place sort = started frames head nodes None (start_of place sort)

-- a pattern is to come, in this bracket
abbrev pub in_bracket : Frame → List Frame → List PatNode → PatReader
in_bracket frame frames nodes = at_last (frame ∷ frames) Whole Wanted nodes

-- what comes after a pattern in brackets
abbrev pub close_frame : Frame → List Frame → List PatNode → Sort → Option PatReader
close_frame (First head bracket) frames nodes sort =
    if is_close sort then Some (at_last frames head Done nodes)
    else if is_comma sort then Some (in_bracket (Second head bracket) frames nodes)
    else None
close_frame (Second head bracket) frames nodes sort =
    if is_close sort then Some (at_last frames head Done (nodes ++ node.Pair bracket ∷ [])) else None
close_frame (Given head f) frames nodes sort =
    if is_bar sort then Some (at_last frames head (Parted f.place f.con f.count) (nodes ++ node.Field f.field_place f.field ∷ []))
    else if is_close_square sort then Some (at_last frames head Done ((nodes ++ node.Field f.field_place f.field ∷ []) ++ node.Fields f.place f.con f.count ∷ []))
    else None

-- what comes after a pattern
abbrev pub close : List Frame → List PatNode → Sort → Option PatReader
close [] nodes sort = None
close (frame ∷ frames) nodes sort = close_frame frame frames nodes sort

-- what comes after a simple pattern: one more of them, where more may come, or the end of the pattern
abbrev pub go_on : List Frame → Head → List PatNode → Place → Sort → Option PatReader
go_on frames head nodes place sort = started frames (more_head head) nodes (close frames (end_head head nodes) sort) (more_start head place sort)

-- after `(`
abbrev pub move_opened : List Frame → Head → List PatNode → Place → Place → Sort → Option PatReader
move_opened frames head nodes bracket place sort =
    if is_close sort then Some (at_last frames head Done (nodes ++ node.Unit bracket ∷ []))
    else begin (First head bracket ∷ frames) Whole nodes place sort

-- after a constructor's name
abbrev pub move_named : List Frame → Head → List PatNode → Place → Name → Place → Sort → Option PatReader
move_named frames head nodes con_place con place sort =
    if is_open_square sort then Some (at_last frames head (Bracketed con_place con) nodes)
    else go_on frames (named_head head con_place con) (named_nodes head con_place con nodes) place sort

-- a field's name, after so many fields
abbrev pub move_field : List Frame → Head → List PatNode → Place → Name → ℕ → Place → Sort → Option PatReader
move_field frames head nodes con_place con count place (Variable field) =
    Some (at_last frames head (Chosen (record { place = con_place; con = con; count = count + 1; field_place = place; field = field })) nodes)
move_field frames head nodes con_place con count place sort = None

-- after `con [`
abbrev pub move_bracketed : List Frame → Head → List PatNode → Place → Name → Place → Sort → Option PatReader
move_bracketed frames head nodes con_place con place sort =
    if is_close_square sort then Some (at_last frames head Done (nodes ++ node.Fields con_place con 0 ∷ []))
    else move_field frames head nodes con_place con 0 place sort

-- after a field's name: its pattern, or the field alone stands for `field = field`
abbrev pub move_chosen : Frame → List Frame → List PatNode → PatNode → Sort → Option PatReader
move_chosen frame frames nodes alone sort =
    if is_equals sort then Some (in_bracket frame frames nodes) else close_frame frame frames (nodes ++ alone ∷ []) sort

abbrev pub move_last : Last → List Frame → Head → List PatNode → Place → Sort → Option PatReader
move_last Wanted frames head nodes place sort = begin frames head nodes place sort
move_last (Opened bracket) frames head nodes place sort = move_opened frames head nodes bracket place sort
move_last (Named con_place con) frames head nodes place sort = move_named frames head nodes con_place con place sort
move_last Done frames head nodes place sort = go_on frames head nodes place sort
move_last (Bracketed con_place con) frames head nodes place sort = move_bracketed frames head nodes con_place con place sort
move_last (Parted con_place con count) frames head nodes place sort = move_field frames head nodes con_place con count place sort
move_last (Chosen f) frames head nodes place sort = move_chosen (Given head f) frames nodes (node.Var f.field_place f.field) sort

-- what a token makes of a reader, or none where it cannot stand
unfoldable pub moved : PatReader → Token → Option PatReader
moved reader t = move_last reader.last reader.frames reader.head reader.nodes t.place (sort_of t.kind)

-- the nodes where a simple pattern is whole
abbrev pub done_last : Last → Head → List PatNode → Option (List PatNode)
done_last Wanted head nodes = None
done_last (Opened bracket) head nodes = None
done_last (Named place con) head nodes = Some (end_head (named_head head place con) (named_nodes head place con nodes))
done_last Done head nodes = Some (end_head head nodes)
done_last (Bracketed place con) head nodes = None
done_last (Parted place con count) head nodes = None
done_last (Chosen f) head nodes = None

-- the nodes, where no bracket is open
unfoldable pub done : PatReader → Option (List PatNode)
done reader = if is_empty reader.frames then done_last reader.last reader.head reader.nodes else None

abbrev pub pat_start : PatReader
pat_start = at_last [] Whole Wanted []

abbrev pub apat_start : PatReader
apat_start = at_last [] Single Wanted []

abbrev pub apats_start : PatReader
apats_start = at_last [] (Many 0) Done []

-- the readers of `pat`, of `apat` and of `apat*`: one machine with three starts
abbrev pub pat_reader : Reader PatReader (List PatNode)
pat_reader = record { start = pat_start; move = moved; done = done }

abbrev pub apat_reader : Reader PatReader (List PatNode)
apat_reader = record { start = apat_start; move = moved; done = done }

abbrev pub apats_reader : Reader PatReader (List PatNode)
apats_reader = record { start = apats_start; move = moved; done = done }
