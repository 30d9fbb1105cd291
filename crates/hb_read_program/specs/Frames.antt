-- The frames of the reader of programs: symbols that are still to come, and things that are half read.
use Rattle.std.specs.Prelude.{ℕ, zero, suc, ◌+◌, Bool, true, false, is_some, if◌then◌else◌, List, [], ◌∷◌, ◌++◌, Option, Some, None}
use Rattle.hb_base.specs.declared.name.Name.{Name}
use Rattle.hb_base.specs.declared.place.Place.{Place}
use Rattle.hb_tokens.specs.declared.token.Token.{Token}
use Rattle.hb_tokens.specs.declared.word.Word.TheVariants as word
use Rattle.hb_tree.specs.declared.types.NameAt.{NameAt}
use Rattle.hb_grammar.specs.Reading.{Reader}
use Rattle.hb_engine.specs.Tables.{Turn, Table, engine, Thread}
use Rattle.hb_read_types.specs.declared.type_reader.TypeReader.{TypeReader}
use Rattle.hb_read_types.specs.declared.pred_reader.PredReader.{PredReader}
use Rattle.hb_read_types.specs.declared.context_reader.ContextReader.{ContextReader}
use Rattle.hb_read_types.specs.declared.qualified_reader.QualifiedReader.{QualifiedReader}
use Rattle.hb_read_types.specs.ContextMoves.{context_reader}
use Rattle.hb_read_patterns.specs.Moves.{pat_start}
use Rattle.hb_read_expressions.specs.declared.state.State.{State}
use Rattle.hb_read_declarations.specs.declared.node.DeclNode.{DeclNode}
use Rattle.hb_read_declarations.specs.declared.node.DeclNode.TheVariants as node
use Rattle.hb_read_declarations.specs.Combined.{mapped, worth_of}
use Rattle.hb_read_declarations.specs.Nodes.{named, typed}
use Rattle.hb_read_declarations.specs.Readers.{Out, a_type, an_atype, a_pred, a_qualified, an_expr, an_equation, no_context}
use Rattle.hb_read_declarations.specs.Worths.{var, con, op, this_word, mark}
use Rattle.hb_read_program.specs.Rules.{Leaf, Symbol, Count, Item, Form, Head, heads, behind, found, Begins, no_leaf, begins, begins_line, begins_class, begins_with, nothing_of, number_in, node_of, put_out, plain, a_con, a_leaf, closing}
use Rattle.hb_read_program.specs.declared.symbol.Leaf.TheVariants as leaf
use Rattle.hb_read_program.specs.declared.symbol.Symbol.TheVariants as symbol
use Rattle.hb_read_program.specs.declared.symbol.Count.TheVariants as count
use Rattle.hb_read_program.specs.declared.symbol.Form.TheVariants as form
pub use Rattle.hb_read_program.specs.declared.side.Side.{Side}
pub use Rattle.hb_read_program.specs.declared.side.Side.TheVariants as side
pub use Rattle.hb_read_program.specs.declared.side.Spot.{Spot}
pub use Rattle.hb_read_program.specs.declared.side.Spot.TheVariants as spot
pub use Rattle.hb_read_program.specs.declared.side.Heading.{Heading}
pub use Rattle.hb_read_program.specs.declared.side.Heading.TheVariants as heading

-- the readers of their own

abbrev pub LeafState : Leaf → Type 0
LeafState leaf.Type = TypeReader
LeafState leaf.Atype = TypeReader
LeafState leaf.Pred = PredReader
LeafState leaf.Qualified = QualifiedReader
LeafState leaf.Expr = State
LeafState leaf.Equation = State

abbrev pub leaf_reader : (l : Leaf) → Reader (LeafState l) Out
leaf_reader leaf.Type = a_type
leaf_reader leaf.Atype = an_atype
leaf_reader leaf.Pred = a_pred
leaf_reader leaf.Qualified = a_qualified
leaf_reader leaf.Expr = an_expr pat_start
leaf_reader leaf.Equation = an_equation pat_start

abbrev pub a_context : Reader ContextReader Out
a_context = worth_of typed context_reader

-- a symbol, the place where its form began and the number of parts so far; a thing that is half read by a reader of its own;
-- an equation beside the first name of a signature; and a context beside the head of a class
pub data Frame : Type 0 where
  waits : Symbol → Place → ℕ → Frame
  reads : (l : Leaf) → LeafState l → Frame
  reads_line : Option State → Side → Frame
  reads_class : Option ContextReader → Heading → Frame

abbrev pub ATurn : Type 0
ATurn = Turn Frame DeclNode

abbrev pub turn_to : List Frame → Out → ATurn
turn_to frames nodes = record { frames = frames; nodes = nodes }

-- a production becomes frames

abbrev pub count_of : Count → ℕ → Token → ℕ
count_of count.Zero n t = 0
count_of count.One n t = 1
count_of count.Same n t = n
count_of count.Next n t = n + 1
count_of count.Read n t = number_in t.kind

abbrev pub frames_of : List Item → Place → ℕ → Token → List Frame
frames_of [] p n t = []
frames_of (i ∷ is) p n t = waits i.symbol p (count_of i.count n t) ∷ frames_of is p n t

-- the digit, the direction and the fields behind `|` belong to the form before them; any other form begins where its first token
-- stands
abbrev pub place_of : Symbol → Place → Token → Place
place_of (symbol.Digit fix) p t = p
place_of symbol.Direction p t = p
place_of symbol.MoreInits p t = p
place_of _ p t = t.place

-- the names of a signature

abbrev pub spot_if : Option Spot → Place → ℕ → Out → Side
spot_if None p k out = side.Gone
spot_if (Some s) p k out = side.Names p k out s

abbrev pub name_spot : Option NameAt → Option Place → Option Spot
name_spot (Some n) o = Some (spot.Named n)
name_spot None (Some p) = Some (spot.Open p)
name_spot None None = None

abbrev pub operator_spot : Place → NameAt → Spot
operator_spot p n = spot.Operator p n.name

abbrev pub close_spot : Place → Name → Place → Spot
close_spot p name q = spot.Named (record { place = p; name = name })

-- the place of the first name
abbrev pub first_at : ℕ → Place → NameAt → Place
first_at zero p n = n.place
first_at (suc k) p n = p

abbrev pub comma_if : Option Place → Place → ℕ → Out → NameAt → Side
comma_if None p k out n = side.Gone
comma_if (Some q) p k out n = side.Names (first_at k p n) (k + 1) (out ++ named n) spot.Want

abbrev pub spot_moved : Place → ℕ → Out → Spot → Token → Side
spot_moved p k out spot.Want t = spot_if (name_spot (var t) (mark 40 t)) p k out
spot_moved p k out (spot.Open q) t = spot_if (mapped (operator_spot q) (op t)) p k out
spot_moved p k out (spot.Operator q name) t = spot_if (mapped (close_spot q name) (mark 41 t)) p k out
spot_moved p k out (spot.Named n) t = comma_if (mark 44 t) p k out n

abbrev pub side_moved : Side → Token → Side
side_moved side.Gone t = side.Gone
side_moved (side.Names p k out s) t = spot_moved p k out s t

-- no name is read
abbrev pub side_start : Side
side_start = side.Names (record { line = 0; col = 0 }) 0 [] spot.Want

abbrev pub sig_behind : List Item
sig_behind = a_leaf leaf.Qualified ∷ closing form.Sig ∷ []

abbrev pub sig_turn : Place → ℕ → Out → NameAt → Token → ATurn
sig_turn p k out n t = turn_to (frames_of sig_behind (first_at k p n) 0 t) ((out ++ named n) ++ node.Names (k + 1) ∷ [])

-- `::` behind a name: it is a signature
abbrev pub sig_if : Bool → ATurn → Option ATurn
sig_if true n = Some n
sig_if false n = None

abbrev pub as_sig : Side → Token → Option ATurn
as_sig (side.Names p k out (spot.Named n)) t = sig_if (is_some (this_word word.DoubleColon t)) (sig_turn p k out n t)
as_sig _ t = None

abbrev pub still_line : Option State → Side → Option ATurn
still_line None side.Gone = None
still_line e s = Some (turn_to (reads_line e s ∷ []) [])

abbrev pub expr_moved : Option State → Token → Option State
expr_moved None t = None
expr_moved (Some s) t = (an_equation pat_start).move s t

abbrev pub or_line : Option ATurn → Option ATurn → Option ATurn
or_line (Some n) m = Some n
or_line None m = m

abbrev pub line_turn : Option State → Side → Token → Option ATurn
line_turn e s t = or_line (as_sig s t) (still_line (expr_moved e t) (side_moved s t))

abbrev pub line_nothing : Option State → Option Out
line_nothing None = None
line_nothing (Some s) = mapped (λ ns. ns ++ node.Equation ∷ []) ((an_equation pat_start).done s)

-- the head of a class

abbrev pub first_heading : Option NameAt → Heading
first_heading None = heading.Gone
first_heading (Some n) = heading.Names 0 (named n)

abbrev pub next_heading : ℕ → Out → Option NameAt → Heading
next_heading k out None = heading.Gone
next_heading k out (Some n) = heading.Names (k + 1) (out ++ named n)

abbrev pub heading_moved : Heading → Token → Heading
heading_moved heading.Gone t = heading.Gone
heading_moved heading.Before t = first_heading (con t)
heading_moved (heading.Names k out) t = next_heading k out (var t)

abbrev pub context_moved : Option ContextReader → Token → Option ContextReader
context_moved None t = None
context_moved (Some s) t = a_context.move s t

abbrev pub context_whole : Option ContextReader → Option Out
context_whole None = None
context_whole (Some s) = a_context.done s

abbrev pub still_class : Option ContextReader → Heading → Option ATurn
still_class None heading.Gone = None
still_class c h = Some (turn_to (reads_class c h ∷ []) [])

-- `=>` behind a whole context
abbrev pub class_turn : Option ContextReader → Heading → Token → Option ATurn
class_turn c h t = if is_some (this_word word.DoubleArrow t) then mapped (turn_to (frames_of (a_con ∷ plain symbol.SomeVars ∷ []) t.place 0 t)) (context_whole c) else still_class (context_moved c t) (heading_moved h t)

abbrev pub class_nothing : Heading → Option Out
class_nothing heading.Gone = None
class_nothing heading.Before = None
class_nothing (heading.Names zero out) = None
class_nothing (heading.Names (suc k) out) = Some (no_context ++ (out ++ node.Names (suc k) ∷ []))

-- the table

-- a reader of its own takes the token, and what stands behind is still to come
abbrev pub begun : (l : Leaf) → Option (LeafState l) → List Frame → Option ATurn
begun l None fs = None
begun l (Some s) fs = Some (turn_to (reads l s ∷ fs) [])

abbrev pub begun_line : Option ATurn → List Frame → Option ATurn
begun_line None fs = None
begun_line (Some n) fs = Some (turn_to (n.frames ++ fs) n.nodes)

abbrev pub leaf_turn : Begins → Place → ℕ → Token → Option ATurn
leaf_turn no_leaf p n t = None
leaf_turn (begins l is) p n t = begun l ((leaf_reader l).move (leaf_reader l).start t) (frames_of is t.place n t)
leaf_turn (begins_line is) p n t = begun_line (line_turn (Some (an_equation pat_start).start) side_start t) (frames_of is t.place n t)
leaf_turn begins_class p n t = class_turn (Some a_context.start) heading.Before t

abbrev pub head_turn : Option Head → Symbol → Place → ℕ → Token → Option ATurn
head_turn None s p n t = leaf_turn (begins_with s) p n t
head_turn (Some h) s p n t = Some (turn_to (frames_of (behind h.behind) (place_of s p t) n t) (put_out h.put p n t))

abbrev pub frame_turn : Frame → Token → Option ATurn
frame_turn (waits s p n) t = head_turn (found (heads s) t) s p n t
frame_turn (reads l s) t = begun l ((leaf_reader l).move s t) []
frame_turn (reads_line e s) t = line_turn e s t
frame_turn (reads_class c h) t = class_turn c h t

abbrev pub put_nothing : Option Form → Place → ℕ → Option Out
put_nothing None p n = None
put_nothing (Some f) p n = Some (node_of f p n ∷ [])

abbrev pub frame_nothing : Frame → Option Out
frame_nothing (waits s p n) = put_nothing (nothing_of s) p n
frame_nothing (reads l s) = (leaf_reader l).done s
frame_nothing (reads_line e s) = line_nothing e
frame_nothing (reads_class c h) = class_nothing h

abbrev pub rules : Table Frame DeclNode
rules = record { turn = frame_turn; null = frame_nothing }

-- the reader of programs
abbrev pub program_start : Frame
program_start = waits symbol.Program (record { line = 0; col = 0 }) 0

abbrev pub program_engine : Reader (Thread Frame DeclNode) Out
program_engine = engine rules program_start
