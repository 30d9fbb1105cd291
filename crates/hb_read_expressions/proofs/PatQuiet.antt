-- A simple pattern that is whole goes on with `[` only.
use Rattle.std.proofs.Common.{◌≡◌, ℕ, Bool, true, false, List, [], ◌∷◌, ◌++◌, Option, Some, None, refl, ap, subst}
use Rattle.std.specs.Prelude.{if◌then◌else◌}
use Rattle.hb_base.specs.declared.name.Name.{Name}
use Rattle.hb_base.specs.declared.place.Place.{Place}
use Rattle.hb_tokens.specs.declared.token.Token.{Token}
use Rattle.hb_grammar.specs.Tokens.{IsOpenSquare}
use Rattle.hb_grammar.specs.Reading.{Reached, at_start, after}
use Rattle.hb_read_patterns.specs.declared.node.PatNode.{PatNode}
use Rattle.hb_read_patterns.specs.declared.node.PatNode.TheVariants as node
use Rattle.hb_read_patterns.specs.declared.sort.Sort.{Sort}
use Rattle.hb_read_patterns.specs.declared.sort.Sort.TheVariants as sort
use Rattle.hb_read_patterns.specs.declared.start.Start.{Start}
use Rattle.hb_read_patterns.specs.declared.start.Start.TheVariants as start
use Rattle.hb_read_patterns.specs.declared.head.Head.{Head}
use Rattle.hb_read_patterns.specs.declared.head.Head.TheVariants.{Whole, Single, Applied, Many}
use Rattle.hb_read_patterns.specs.declared.frame.Frame.{Frame}
use Rattle.hb_read_patterns.specs.declared.frame.Frame.TheVariants.{First, Second, Given}
use Rattle.hb_read_patterns.specs.declared.reader.Last.{Last}
use Rattle.hb_read_patterns.specs.declared.reader.Last.TheVariants.{Wanted, Opened, Named, Done, Bracketed, Parted, Chosen}
use Rattle.hb_read_patterns.specs.declared.reader.PatReader.{PatReader}
use Rattle.hb_stack.specs.Stacks.{is_empty}
use Rattle.hb_read_patterns.specs.Sorts.{sort_of, is_close, is_comma, is_open_square, is_close_square, is_bar, is_equals}
use Rattle.hb_read_patterns.specs.Heads.{more_head, end_head, named_head, named_nodes}
use Rattle.hb_read_patterns.specs.Starts.{start_of, more_start}
use Rattle.hb_read_patterns.specs.Moves.{apat_reader, moved, done, done_last, move_last, started, go_on, close, close_frame, move_field, at_last}
use Rattle.hb_read_patterns.proofs.Sorting.{Means, means}
use Rattle.hb_read_patterns.proofs.Exacting.{pat_reader_is_exact, apat_reader_is_exact}
use Rattle.hb_read_expressions.proofs.Params.{PatLaws}

-- what stands around the outermost simple pattern
abbrev outer : List Frame → Head → Head
outer [] head = head
outer (First around place ∷ frames) head = outer frames around
outer (Second around place ∷ frames) head = outer frames around
outer (Given around f ∷ frames) head = outer frames around

abbrev Keeps : Option PatReader → Type 0
Keeps None = Unit {0}
Keeps (Some r) = outer r.frames r.head ≡ Single

by_test : (c : Bool) (a b : Option PatReader) → Keeps a → Keeps b → Keeps (if c then a else b)
by_test true a b p q = p
by_test false a b p q = q

started_keeps : (frames : List Frame) (head : Head) (nodes : List PatNode) (other : Option PatReader) (o : Option Start) → Keeps other → outer frames head ≡ Single → Keeps (started frames head nodes other o)
started_keeps frames head nodes other None p e = p
started_keeps frames head nodes other (Some (start.Node x)) p e = e
started_keeps frames head nodes other (Some (start.Name place con)) p e = e
started_keeps frames head nodes other (Some (start.Bracket place)) p e = e

-- the head matters only where no bracket is open
other_head : (frames : List Frame) (head next : Head) → (head ≡ Single → next ≡ Single) → outer frames head ≡ Single → outer frames next ≡ Single
other_head [] head next f e = f e
other_head (First around place ∷ frames) head next f e = e
other_head (Second around place ∷ frames) head next f e = e
other_head (Given around g ∷ frames) head next f e = e

frame_keeps : (frame : Frame) (frames : List Frame) (head : Head) (nodes : List PatNode) (x : Sort) → outer (frame ∷ frames) head ≡ Single → Keeps (close_frame frame frames nodes x)
frame_keeps (First around place) frames head nodes x e = by_test (is_close x) _ _ e (by_test (is_comma x) _ None e tt)
frame_keeps (Second around place) frames head nodes x e = by_test (is_close x) _ None e tt
frame_keeps (Given around f) frames head nodes x e = by_test (is_bar x) _ _ e (by_test (is_close_square x) _ None e tt)

close_keeps : (frames : List Frame) (head : Head) (nodes : List PatNode) (x : Sort) → outer frames head ≡ Single → Keeps (close frames nodes x)
close_keeps [] head nodes x e = tt
close_keeps (frame ∷ frames) head nodes x e = frame_keeps frame frames head nodes x e

go_on_keeps : (frames : List Frame) (head : Head) (nodes : List PatNode) (place : Place) (x : Sort) → outer frames head ≡ Single → Keeps (go_on frames head nodes place x)
go_on_keeps frames head nodes place x e =
    started_keeps frames (more_head head) nodes (close frames (end_head head nodes) x) (more_start head place x) (close_keeps frames head (end_head head nodes) x e)
    (other_head frames head (more_head head) (λ h. ap more_head h) e)

field_keeps : (frames : List Frame) (head : Head) (nodes : List PatNode) (p : Place) (con : Name) (count : ℕ) (place : Place) (x : Sort) → outer frames head ≡ Single → Keeps (move_field frames head nodes p con count place x)
field_keeps frames head nodes p con count place (sort.Variable name) e = e
field_keeps frames head nodes p con count place x e = tt

last_keeps : (last : Last) (frames : List Frame) (head : Head) (nodes : List PatNode) (place : Place) (x : Sort) → outer frames head ≡ Single → Keeps (move_last last frames head nodes place x)
last_keeps Wanted frames head nodes place x e = started_keeps frames head nodes None (start_of place x) tt e
last_keeps (Opened bracket) frames head nodes place x e = by_test (is_close x) _ _ e (started_keeps (First head bracket ∷ frames) Whole nodes None (start_of place x) tt e)
last_keeps (Named p con) frames head nodes place x e =
    by_test (is_open_square x) _ _ e (go_on_keeps frames (named_head head p con) (named_nodes head p con nodes) place x (other_head frames head (named_head head p con) (λ h. ap (λ k. named_head k p con) h) e))
last_keeps Done frames head nodes place x e = go_on_keeps frames head nodes place x e
last_keeps (Bracketed p con) frames head nodes place x e = by_test (is_close_square x) _ _ e (field_keeps frames head nodes p con 0 place x e)
last_keeps (Parted p con count) frames head nodes place x e = field_keeps frames head nodes p con count place x e
last_keeps (Chosen f) frames head nodes place x e = by_test (is_equals x) _ _ e (frame_keeps (Given head f) frames head (nodes ++ node.Var f.field_place f.field ∷ []) x e)

move_keeps : (s r : PatReader) (t : Token) → moved s t ≡ Some r → outer s.frames s.head ≡ Single → outer r.frames r.head ≡ Single
unfolding moved
move_keeps s r t h e = subst Keeps h (last_keeps s.last s.frames s.head s.nodes t.place (sort_of t.kind) e)

reached_single : {s : PatReader} → Reached apat_reader s → outer s.frames s.head ≡ Single
reached_single at_start = refl
reached_single (after {s = s} {r = r} {t = t} reached h) = move_keeps s r t h (reached_single reached)

tested : (c : Bool) (a : PatReader) {r : PatReader} → (if c then Some a else None) ≡ Some r → c ≡ true
tested true a h = refl
tested false a h = absurd (cc)

last_quiet : (last : Last) (frames : List Frame) (head : Head) (nodes out : List PatNode) (place : Place) (x : Sort) (r : PatReader) → outer frames head ≡ Single → (if is_empty frames then done_last last head nodes else None) ≡ Some out → move_last last frames head nodes place x ≡ Some r → is_open_square x ≡ true
last_quiet last (frame ∷ frames) head nodes out place x r e d m = absurd (cc)
last_quiet last [] Whole nodes out place x r e d m = absurd (cc)
last_quiet last [] (Applied p c n) nodes out place x r e d m = absurd (cc)
last_quiet last [] (Many n) nodes out place x r e d m = absurd (cc)
last_quiet Wanted [] Single nodes out place x r e d m = absurd (cc)
last_quiet (Opened p) [] Single nodes out place x r e d m = absurd (cc)
last_quiet (Named p con) [] Single nodes out place x r e d m = tested (is_open_square x) (at_last [] Single (Bracketed p con) nodes) m
last_quiet Done [] Single nodes out place x r e d m = absurd (cc)
last_quiet (Bracketed p con) [] Single nodes out place x r e d m = absurd (cc)
last_quiet (Parted p con n) [] Single nodes out place x r e d m = absurd (cc)
last_quiet (Chosen f) [] Single nodes out place x r e d m = absurd (cc)

square : (x : Sort) (t : Token) → Means x t → is_open_square x ≡ true → IsOpenSquare t
square sort.OpenSquare t m h = m
square x t m h = absurd (cc)

quiet : {s r : PatReader} (t : Token) {out : List PatNode} → Reached apat_reader s → done s ≡ Some out → moved s t ≡ Some r → IsOpenSquare t
unfolding done moved
quiet {s = s} {r = r} t {out = out} reached d m =
    square (sort_of t.kind) t (means t) (last_quiet s.last s.frames s.head s.nodes out t.place (sort_of t.kind) r (reached_single reached) d m)

-- the readers of patterns are as is asked of them
pub pat_laws : PatLaws
pat_laws = record { pat = pat_reader_is_exact; apat = apat_reader_is_exact; quiet = quiet }
