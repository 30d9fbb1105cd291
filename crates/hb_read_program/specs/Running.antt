-- What the reader of programs holds, as the frames and nodes of the machine; and how each of its parts runs.
use Rattle.std.specs.Prelude.{◌≡◌, ◌+◌, Bool, true, false, is_some, if◌then◌else◌, List, [], ◌∷◌, ◌++◌, Option, Some, None}
use Rattle.hb_tokens.specs.declared.token.Token.{Token}
use Rattle.hb_tokens.specs.declared.word.Word.TheVariants as word
use Rattle.hb_tree.specs.declared.types.NameAt.{NameAt}
use Rattle.hb_engine.specs.Tables.{Thread, thread}
use Rattle.hb_read_types.specs.declared.context_reader.ContextReader.{ContextReader}
use Rattle.hb_read_expressions.specs.declared.state.State.{State}
use Rattle.hb_read_declarations.specs.declared.node.DeclNode.{DeclNode}
use Rattle.hb_read_declarations.specs.declared.node.DeclNode.TheVariants as node
use Rattle.hb_read_declarations.specs.Combined.{mapped}
use Rattle.hb_read_declarations.specs.Nodes.{named}
use Rattle.hb_read_declarations.specs.Readers.{Out}
use Rattle.hb_read_declarations.specs.Worths.{var, con, op, this_word, mark}
use Rattle.hb_read_program.specs.Rules.{Leaf, Symbol, Production, Begins, no_leaf, begins, begins_line, begins_class}
use Rattle.hb_read_program.specs.declared.symbol.Leaf.TheVariants as leaf
use Rattle.hb_read_program.specs.declared.symbol.Symbol.TheVariants as symbol
use Rattle.hb_read_program.specs.declared.symbol.Production.TheVariants as production
use Rattle.hb_read_program.specs.Frames.{Frame, waits, reads, reads_line, reads_class, ATurn, turn_to, leaf_reader, begun, frames_of, sig_behind, first_at, Side, Spot, Heading, name_spot, operator_spot, close_spot, first_heading, next_heading}
use Rattle.hb_read_program.specs.declared.side.Side.TheVariants as side
use Rattle.hb_read_program.specs.declared.side.Spot.TheVariants as spot
use Rattle.hb_read_program.specs.declared.side.Heading.TheVariants as heading
pub use Rattle.hb_read_program.specs.declared.frame.LeafReader.{LeafReader}
pub use Rattle.hb_read_program.specs.declared.frame.LeafReader.TheVariants as leaf_kept
pub use Rattle.hb_read_program.specs.declared.frame.Frame.{Frame as Kept}
pub use Rattle.hb_read_program.specs.declared.frame.Frame.TheVariants as kept
pub use Rattle.hb_read_program.specs.declared.begins.Begins.{Begins as BeginsKept}
pub use Rattle.hb_read_program.specs.declared.begins.Begins.TheVariants as begins_kept
pub use Rattle.hb_read_program.specs.declared.run.Step.{Step}
pub use Rattle.hb_read_program.specs.declared.run.Step.TheVariants as step
pub use Rattle.hb_read_program.specs.declared.run.Run.{Run}
pub use Rattle.hb_read_program.specs.declared.line.SigHead.{SigHead}

-- the symbols of classes and instances that begin with a token, and what stands behind it

abbrev pub is_class_symbol : Symbol → Bool
is_class_symbol symbol.Depend = true
is_class_symbol symbol.Depends = true
is_class_symbol symbol.Methods = true
is_class_symbol symbol.Sigs = true
is_class_symbol symbol.AfterSig = true
is_class_symbol symbol.Conditions = true
is_class_symbol symbol.Body = true
is_class_symbol symbol.Rows = true
is_class_symbol symbol.AfterRow = true
is_class_symbol _ = false

abbrev pub is_in_class : Production → Bool
is_in_class production.Depend = true
is_in_class production.Depends = true
is_in_class production.Methods = true
is_in_class production.Sigs = true
is_in_class production.SigNames = true
is_in_class production.SigBracketed = true
is_in_class production.Conditions = true
is_in_class production.Body = true
is_in_class production.Rows = true
is_in_class _ = false

-- the frames that are kept, as those of the machine

abbrev pub seen_leaf : LeafReader → Frame
seen_leaf (leaf_kept.Type s) = reads leaf.Type s
seen_leaf (leaf_kept.Atype s) = reads leaf.Atype s
seen_leaf (leaf_kept.Pred s) = reads leaf.Pred s
seen_leaf (leaf_kept.Qualified s) = reads leaf.Qualified s
seen_leaf (leaf_kept.Expr s) = reads leaf.Expr s
seen_leaf (leaf_kept.Equation s) = reads leaf.Equation s

abbrev pub seen_frame : Kept → Frame
seen_frame (kept.Waits s p n) = waits s p n
seen_frame (kept.Reads l) = seen_leaf l
seen_frame (kept.Line e s) = reads_line e s
seen_frame (kept.Class c h) = reads_class c h

abbrev pub seen : List Kept → List Frame
seen [] = []
seen (f ∷ fs) = seen_frame f ∷ seen fs

abbrev pub seen_run : Run → Thread Frame DeclNode
seen_run r = thread (seen r.frames) r.nodes

abbrev pub seen_begins : BeginsKept → Begins
seen_begins begins_kept.NoLeaf = no_leaf
seen_begins (begins_kept.Leaf l is) = begins l is.now
seen_begins (begins_kept.Line is) = begins_line is.now
seen_begins begins_kept.Class = begins_class

-- what becomes of a thread

abbrev pub turned_to : Thread Frame DeclNode → ATurn → Thread Frame DeclNode
turned_to s n = thread (n.frames ++ s.frames) (s.nodes ++ n.nodes)

-- a frame, which is off the thread, took the token; or it cannot, and the thread is as it was
abbrev pub Turned : Bool → Option ATurn → Thread Frame DeclNode → Thread Frame DeclNode → Type 0
Turned true (Some n) old new = new ≡ turned_to old n
Turned false None old new = new ≡ old
Turned _ _ old new = ⊥

-- the nodes of what is whole were put out; or it is not whole, and there are none
abbrev pub Ended : Bool → Option Out → Out → Out → Type 0
Ended true (Some ns) old new = new ≡ old ++ ns
Ended false None old new = new ≡ old
Ended _ _ old new = ⊥

-- a frame took the token; or it was nothing, and the next one is to be asked; or it can do neither
abbrev pub Stepped : Step → Option ATurn → Option Out → Thread Frame DeclNode → Thread Frame DeclNode → Type 0
Stepped step.Taken (Some n) nothing old new = new ≡ turned_to old n
Stepped step.Passed None (Some ns) old new = new ≡ thread old.frames (old.nodes ++ ns)
Stepped step.Refused None None old new = Unit {0}
Stepped _ _ nothing old new = ⊥

abbrev pub step_past : Bool → Step
step_past true = step.Passed
step_past false = step.Refused

-- the machine moved, or it cannot
abbrev pub Moved : Bool → Option (Thread Frame DeclNode) → Thread Frame DeclNode → Type 0
Moved true next new = next ≡ Some new
Moved false next new = next ≡ None

-- the readers of their own

abbrev pub LeafTook : Bool → Option ATurn → LeafReader → LeafReader → Type 0
LeafTook true next old new = next ≡ Some (turn_to (seen_leaf new ∷ []) [])
LeafTook false next old new = (next ≡ None) × (new ≡ old)

abbrev pub LeafBegan : Leaf → Token → Option LeafReader → Type 0
LeafBegan l t (Some r) = (fs : List Frame) → begun l ((leaf_reader l).move (leaf_reader l).start t) fs ≡ Some (turn_to (seen_leaf r ∷ fs) [])
LeafBegan l t None = (fs : List Frame) → begun l ((leaf_reader l).move (leaf_reader l).start t) fs ≡ None

-- a signature or an equation

abbrev pub next_spot : Spot → Token → Option Spot
next_spot spot.Want t = name_spot (var t) (mark 40 t)
next_spot (spot.Open q) t = mapped (operator_spot q) (op t)
next_spot (spot.Operator q name) t = mapped (close_spot q name) (mark 41 t)
next_spot (spot.Named n) t = None

abbrev pub is_gone : Side → Bool
is_gone side.Gone = true
is_gone (side.Names p k out s) = false

abbrev pub side_nodes : Side → Out
side_nodes side.Gone = []
side_nodes (side.Names p k out s) = out

abbrev pub sig_head : Side → Token → Option SigHead
sig_head (side.Names p k out (spot.Named n)) t = if is_some (this_word word.DoubleColon t) then Some (record { place = first_at k p n; count = k; last = n }) else None
sig_head _ t = None

abbrev pub sig_turned : SigHead → Out → Token → ATurn
sig_turned h out t = turn_to (frames_of sig_behind h.place 0 t) ((out ++ named h.last) ++ node.Names (h.count + 1) ∷ [])

abbrev pub LineWent : Bool → Option ATurn → Option State → Option State → Side → Type 0
LineWent true next old e s = next ≡ Some (turn_to (reads_line e s ∷ []) [])
LineWent false next old e s = (next ≡ None) × (e ≡ old)

-- the head of a class

abbrev pub heading_name : Heading → Token → Option NameAt
heading_name heading.Gone t = None
heading_name heading.Before t = con t
heading_name (heading.Names k out) t = var t

abbrev pub heading_with : Heading → Option NameAt → Heading
heading_with heading.Gone n = heading.Gone
heading_with heading.Before n = first_heading n
heading_with (heading.Names k out) n = next_heading k out n

abbrev pub ClassWent : Bool → Option ATurn → Heading → Option ContextReader → Heading → Type 0
ClassWent true next old c h = next ≡ Some (turn_to (reads_class c h ∷ []) [])
ClassWent false next old c h = (next ≡ None) × (h ≡ old)

abbrev pub ClassTook : Bool → Option ATurn → Thread Frame DeclNode → Thread Frame DeclNode → Heading → Heading → Type 0
ClassTook true next old new h k = Turned true next old new
ClassTook false next old new h k = Turned false next old new × (k ≡ h)
