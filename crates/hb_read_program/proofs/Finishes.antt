-- Each frame can be ended, and the table is lawful: the machine reads just what the table says.
use Rattle.std.proofs.Common.{◌≡◌, ℕ, zero, suc, ◌+◌, Bool, true, false, List, [], ◌∷◌, ◌++◌, Option, Some, None, is_some, refl, sym, ap, subst, ◌∙◌}
use Rattle.hb_base.specs.declared.name.Name.{Name}
use Rattle.hb_base.specs.declared.place.Place.{Place}
use Rattle.hb_base.specs.Fixed.{pad, slash}
use Rattle.hb_tokens.specs.declared.token.Token.{Token}
use Rattle.hb_tokens.specs.declared.token.TokenKind.TheVariants as token
use Rattle.hb_tokens.specs.declared.word.Word.{Word}
use Rattle.hb_tokens.specs.declared.word.Word.TheVariants as word
use Rattle.hb_tree.specs.declared.types.NameAt.{NameAt}
use Rattle.hb_grammar.specs.Declarations.{dir_name}
use Rattle.hb_grammar.specs.Reading.{Runs, stop, take, at_start, Exact}
use Rattle.hb_engine.specs.Tables.{Row, row_end, row_null, row_turn}
use Rattle.hb_engine.specs.Lawful.{Lawful}
use Rattle.hb_engine.proofs.EngineLaw.{append_none, rows, row_before, engine_exact}
use Rattle.hb_read_types.specs.declared.context_reader.ContextReader.{ContextReader}
use Rattle.hb_read_expressions.specs.declared.state.State.{State}
use Rattle.hb_read_declarations.specs.declared.node.DeclNode.TheVariants as node
use Rattle.hb_read_declarations.specs.Codes.{word_code, code, member}
use Rattle.hb_read_declarations.specs.Combined.{mapped}
use Rattle.hb_read_declarations.specs.Nodes.{named}
use Rattle.hb_read_declarations.specs.Readers.{Out, no_context}
use Rattle.hb_read_declarations.specs.Worths.{this_word}
use Rattle.hb_read_declarations.proofs.Known.{some_none, true_false, none_is, run_before, if_true, if_false}
use Rattle.hb_read_declarations.proofs.Leaves.{some_token}
use Rattle.hb_read_declarations.proofs.WorthLaws.{word_is, mark_is, this_con_is}
use Rattle.hb_read_declarations.proofs.Equations.{inside}
use Rattle.hb_read_declarations.proofs.Typing.{in_types, a_context_known}
use Rattle.hb_read_program.specs.Rules.{Leaf, Symbol, Item, Kind, Head, Form, Begins, no_leaf, begins, begins_line, begins_class, heads, behind, begins_with, nothing_of, found, fits, put_out, node_of}
use Rattle.hb_read_program.specs.declared.symbol.Leaf.TheVariants as leaf
use Rattle.hb_read_program.specs.declared.symbol.Kind.TheVariants as kind
use Rattle.hb_read_program.specs.Frames.{LeafState, leaf_reader, a_context, Frame, waits, reads, reads_line, reads_class, ATurn, turn_to, frames_of, place_of, count_of, Side, Heading, Spot, side_moved, first_at, sig_behind, sig_turn, sig_if, as_sig, or_line, still_line, heading_moved, context_moved, still_class, class_nothing, begun, leaf_turn, head_turn, frame_turn, put_nothing, rules, program_start, program_engine}
use Rattle.hb_read_program.specs.declared.side.Side.TheVariants as side
use Rattle.hb_read_program.specs.declared.side.Spot.TheVariants as spot
use Rattle.hb_read_program.specs.declared.side.Heading.TheVariants as heading
use Rattle.hb_read_program.specs.Sets.{begin_codes, is_nothing, only_if, within, first, follow, apart_heads, heads_keep, leaf_keeps, ends_within, ends_by, items_end}
use Rattle.hb_read_program.proofs.Counting.{next_suc}
use Rattle.hb_read_program.proofs.Checked.{table_keeps, table_ends}
use Rattle.hb_read_program.proofs.TableLaws.{LeafReads, leaf_known, found_none, fits_code, both_left, both_right}
use Rattle.hb_read_program.proofs.Fits.{an_eq, gone_side, live_side, Fit, fit_waits, fit_reads, fit_line, fit_class, frame_first, frame_follow, side_lives, heading_lives, class_items}
use Rattle.hb_read_program.proofs.Turns.{law_begins, law_ends, law_turns}

abbrev pub Rows : List Frame → List Token → Out → List Token → Type 0
Rows fs ts ms us = Row rules fs ts ms us

pub rows_as : {fs : List Frame} {ts us : List Token} {ms ns : Out} → ms ≡ ns → Rows fs ts ms us → Rows fs ts ns us
rows_as {fs} {ts} {us} e h = subst (λ ms. Rows fs ts ms us) e h

-- readers of their own

pub leaf_row : (l : Leaf) {s : LeafState l} {ts us : List Token} {v : Out} → Runs (leaf_reader l) s ts v us → Rows (reads l s ∷ []) ts v us
leaf_row l (stop {a = v} e) = rows_as (append_none v) (row_null e row_end)
leaf_row l (take {r} e h) = row_turn {n = turn_to (reads l r ∷ []) []} (ap (λ o. begun l o []) e) (leaf_row l h)

keeps_apart : (s : Symbol) → apart_heads s ≡ true
keeps_apart s = both_right (only_if (is_nothing s) (within (first s) (follow s))) (apart_heads s) (both_right (leaf_keeps (follow s) (begins_with s)) _ (both_right (heads_keep (follow s) (heads s)) _ (table_keeps s)))

-- where no head takes the token
pub no_head : (s : Symbol) (t : Token) → member (code t) (begin_codes (begins_with s)) ≡ true → found (heads s) t ≡ None
no_head s t e = found_none (heads s) (begin_codes (begins_with s)) t (keeps_apart s) e

pub leaf_turns : (s : Symbol) (p : Place) (n : ℕ) (l : Leaf) (is : List Item) (t : Token) {r : LeafState l} → begins_with s ≡ begins l is → (leaf_reader l).move (leaf_reader l).start t ≡ Some r → frame_turn (waits s p n) t ≡ Some (turn_to (reads l r ∷ frames_of is t.place n t) [])
leaf_turns s p n l is t b e =
    ap (λ o. head_turn o s p n t) (no_head s t (ap (λ b. member (code t) (begin_codes b)) b ∙ (leaf_known l).begins e))
    ∙ (ap (λ b. leaf_turn b p n t) b ∙ ap (λ o. begun l o (frames_of is t.place n t)) e)

-- a symbol that begins with such a reader
pub data LeafBegun (l : Leaf) (s : Symbol) (p : Place) (n : ℕ) (is : List Item) (ts : List Token) (v : Out) (us : List Token) : Type 0 where
  leaf_begun : (t : Token) (rest : List Token) → ts ≡ t ∷ rest → ((ms : Out) (vs : List Token) → Rows (frames_of is t.place n t) us ms vs → Rows (waits s p n ∷ []) ts (v ++ ms) vs) → LeafBegun l s p n is ts v us

from_start : (l : Leaf) (s : Symbol) (p : Place) (n : ℕ) (is : List Item) {q : LeafState l} {ts us : List Token} {v : Out} → begins_with s ≡ begins l is → q ≡ (leaf_reader l).start → Runs (leaf_reader l) q ts v us → LeafBegun l s p n is ts v us
from_start l s p n is b i (stop e) = absurd (some_none (sym (ap (leaf_reader l).done i) ∙ e) (none_is ((leaf_reader l).done (leaf_reader l).start) (leaf_known l).nothing))
from_start l s p n is {v} b i (take {r} {t} {ts} e h) =
    leaf_begun t ts refl (λ ms vs k. row_turn {n = turn_to (reads l r ∷ frames_of is t.place n t) []} (leaf_turns s p n l is t b (sym (ap (λ q. (leaf_reader l).move q t) i) ∙ e)) (subst (λ fs. Rows fs ts (v ++ ms) vs) (sym (append_none (reads l r ∷ frames_of is t.place n t))) (rows (leaf_row l h) k)))

pub leaf_symbol : (l : Leaf) (s : Symbol) (p : Place) (n : ℕ) (is : List Item) {ts us : List Token} {v : Out} → begins_with s ≡ begins l is → LeafReads l ts v us → LeafBegun l s p n is ts v us
leaf_symbol l s p n is b h = from_start l s p n is b refl ((leaf_known l).exact.complete h)

-- an equation beside the names of a signature

no_sig : (d : Side) (t : Token) → is_some (this_word word.DoubleColon t) ≡ false → as_sig d t ≡ None
no_sig side.Gone t e = refl
no_sig (side.Names p k out spot.Want) t e = refl
no_sig (side.Names p k out (spot.Open q)) t e = refl
no_sig (side.Names p k out (spot.Operator q name)) t e = refl
no_sig (side.Names p k out (spot.Named n)) t e = ap (λ b. sig_if b (sig_turn p k out n t)) e

-- a token of another code is another word
pub other_word : (w : Word) (t : Token) (uses : ℕ → Bool) → uses (code t) ≡ true → uses (word_code w) ≡ false → is_some (this_word w t) ≡ false
other_word w t uses e d = by_word (this_word w t) refl
  where
    by_word : (o : Option Place) → this_word w t ≡ o → is_some o ≡ false
    by_word None i = refl
    by_word (Some p) i = absurd (true_false e (ap uses (fits_code (kind.Word w) t (ap is_some i)) ∙ d))

pub line_row : {s : State} {ts us : List Token} {v : Out} (d : Side) → Runs an_eq s ts v us → Rows (reads_line (Some s) d ∷ []) ts (v ++ node.Equation ∷ []) us
line_row d (stop {a = v} e) = rows_as (append_none (v ++ node.Equation ∷ [])) (row_null (ap (mapped (λ ns. ns ++ node.Equation ∷ [])) e) row_end)
line_row d (take {s} {r} {t} e h) =
    row_turn {n = turn_to (reads_line (Some r) (side_moved d t) ∷ []) []}
    (ap (λ o. or_line o (still_line (an_eq.move s t) (side_moved d t))) (no_sig d t (other_word word.DoubleColon t inside ((leaf_known leaf.Equation).takes e) refl)) ∙ ap (λ o. still_line o (side_moved d t)) e)
    (line_row (side_moved d t) h)

-- a context beside the head of a class

class_run : {s : ContextReader} {ts ws us vs : List Token} (t : Token) {v ms : Out} (h : Heading) → Runs a_context s ts v ws → ws ≡ t ∷ us → is_some (this_word word.DoubleArrow t) ≡ true → Rows (frames_of class_items t.place 0 t) us ms vs → Rows (reads_class (Some s) h ∷ []) ts (v ++ ms) vs
class_run {us} {vs} t {v} {ms} h (stop {s} e) i k r =
    subst (λ ws. Rows (reads_class (Some s) h ∷ []) ws (v ++ ms) vs) (sym i)
    (row_turn {n = turn_to (frames_of class_items t.place 0 t) v} (if_true (is_some (this_word word.DoubleArrow t)) _ _ k ∙ ap (mapped (turn_to (frames_of class_items t.place 0 t))) e) r)
class_run t h (take {s} {r} {t = x} e m) i k q =
    row_turn {n = turn_to (reads_class (Some r) (heading_moved h x) ∷ []) []}
    (if_false (is_some (this_word word.DoubleArrow x)) _ _ (other_word word.DoubleArrow x in_types (a_context_known.takes e) refl) ∙ ap (λ o. still_class o (heading_moved h x)) e)
    (class_run t (heading_moved h x) m i k q)

pub class_row : {s : ContextReader} {ts us vs : List Token} (t : Token) {v ms : Out} (h : Heading) → Runs a_context s ts v (t ∷ us) → is_some (this_word word.DoubleArrow t) ≡ true → Rows (frames_of class_items t.place 0 t) us ms vs → Rows (reads_class (Some s) h ∷ []) ts (v ++ ms) vs
class_row t h k e r = class_run t h k refl e r

-- examples

pub kind_token : Kind → Token
kind_token kind.Var = some_token (token.VarId pad)
kind_token kind.Con = some_token (token.ConId pad)
kind_token kind.Op = some_token (token.Op pad)
kind_token kind.Number = some_token (token.Number 0)
kind_token kind.Digit = some_token (token.Number 0)
kind_token kind.Bits = some_token (token.Bits 1 1)
kind_token kind.Pad = some_token (token.ConId pad)
kind_token kind.Slash = some_token (token.Op slash)
kind_token (kind.Toward dir) = some_token (token.ConId (dir_name dir))
kind_token (kind.Word w) = some_token (token.Word w)
kind_token (kind.Mark m) = some_token (token.Mark m)
kind_token kind.End = some_token token.End

pub fits_token : (k : Kind) → fits k (kind_token k) ≡ true
unfolding kind_token
fits_token kind.Var = refl
fits_token kind.Con = refl
fits_token kind.Op = refl
fits_token kind.Number = refl
fits_token kind.Digit = refl
fits_token kind.Bits = refl
fits_token kind.Pad = refl
fits_token kind.Slash = refl
fits_token (kind.Toward dir) = ap is_some (this_con_is (some_token (token.ConId (dir_name dir))) refl)
fits_token (kind.Word w) = ap is_some (word_is (some_token (token.Word w)) refl)
fits_token (kind.Mark m) = ap is_some (mark_is (some_token (token.Mark m)) refl)
fits_token kind.End = refl

abbrev pub Ended : List Frame → Type 0
Ended fs = (ts : List Token) × ((ms : Out) × Rows fs ts ms [])

abbrev pub EndsOf : Symbol → Type 0
EndsOf s = (p : Place) (n : ℕ) → Ended (waits s p n ∷ [])

both_ended : {f : Frame} {fs : List Frame} → Ended (f ∷ []) → Ended fs → Ended (f ∷ fs)
both_ended (ts, (ms, d)) (us, (ls, e)) = (ts ++ us, (ms ++ ls, rows (row_before us d) e))

items_ended : (ends : Symbol → Bool) → ((s : Symbol) → ends s ≡ true → EndsOf s) → (is : List Item) (p : Place) (n : ℕ) (t : Token) → items_end ends is ≡ true → Ended (frames_of is p n t)
items_ended ends f [] p n t e = ([], ([], row_end))
items_ended ends f (i ∷ is) p n t e = both_ended (f i.symbol (both_left (ends i.symbol) (items_end ends is) e) p (count_of i.count n t)) (items_ended ends f is p n t (both_right (ends i.symbol) (items_end ends is) e))

turn_ended : {f : Frame} (t : Token) (n : ATurn) → frame_turn f t ≡ Some n → Ended (n.frames ++ []) → Ended (f ∷ [])
turn_ended t n e (ts, (ms, d)) = (t ∷ ts, (n.nodes ++ ms, row_turn {n = n} e d))

plus_none : (fs : List Frame) → Ended fs → Ended (fs ++ [])
plus_none fs h = subst Ended (sym (append_none fs)) h

head_ended : (s : Symbol) (p : Place) (n : ℕ) (h : Head) (hs : List Head) → heads s ≡ h ∷ hs → ((q : Place) (t : Token) → Ended (frames_of (behind h.behind) q n t)) → Ended (waits s p n ∷ [])
head_ended s p n h hs e k =
    let t = kind_token h.kind in
    turn_ended t (turn_to (frames_of (behind h.behind) (place_of s p t) n t) (put_out h.put p n t))
    (ap (λ o. head_turn o s p n t) (ap (λ hs. found hs t) e ∙ if_true (fits h.kind t) (Some h) (found hs t) (fits_token h.kind)))
    (plus_none (frames_of (behind h.behind) (place_of s p t) n t) (k (place_of s p t) t))

leaf_ended : (l : Leaf) (s : Symbol) (p : Place) (n : ℕ) (is : List Item) {q : LeafState l} {ts us : List Token} {v : Out} → begins_with s ≡ begins l is → ((q : Place) (t : Token) → Ended (frames_of is q n t)) → q ≡ (leaf_reader l).start → us ≡ [] → Runs (leaf_reader l) q ts v us → Ended (waits s p n ∷ [])
leaf_ended l s p n is b k i j (stop e) = absurd (some_none (sym (ap (leaf_reader l).done i) ∙ e) (none_is ((leaf_reader l).done (leaf_reader l).start) (leaf_known l).nothing))
leaf_ended l s p n is {v} b k i j (take {r} {t} {ts} e h) =
    turn_ended t (turn_to (reads l r ∷ frames_of is t.place n t) []) (leaf_turns s p n l is t b (sym (ap (λ q. (leaf_reader l).move q t) i) ∙ e))
    (plus_none (reads l r ∷ frames_of is t.place n t) (both_ended (ts, (v, subst (λ us. Rows (reads l r ∷ []) ts v us) j (leaf_row l h))) (k t.place t)))

start_ended : (l : Leaf) (s : Symbol) (p : Place) (n : ℕ) (is : List Item) → begins_with s ≡ begins l is → ((q : Place) (t : Token) → Ended (frames_of is q n t)) → Ended (waits s p n ∷ [])
start_ended l s p n is b k = by_run ((leaf_known l).exact.alive at_start)
  where
    by_run : (ts : List Token) × ((v : Out) × Runs (leaf_reader l) (leaf_reader l).start ts v []) → Ended (waits s p n ∷ [])
    by_run (ts, (v, h)) = leaf_ended l s p n is b k refl refl h

-- the head of a class

pub still_names : (c : Option ContextReader) (k : ℕ) (out : Out) → still_class c (heading.Names k out) ≡ Some (turn_to (reads_class c (heading.Names k out) ∷ []) [])
still_names None k out = refl
still_names (Some s) k out = refl

abbrev a_con_token : Token
a_con_token = some_token (token.ConId pad)

abbrev a_var_token : Token
a_var_token = some_token (token.VarId pad)

abbrev a_name : NameAt
a_name = record { place = record { line = 0; col = 0 }; name = pad }

pub names_nothing : (k : ℕ) (out : Out) → class_nothing (heading.Names (k + 1) out) ≡ Some (no_context ++ (out ++ node.Names (suc k) ∷ []))
names_nothing k out = ap (λ m. class_nothing (heading.Names m out)) (next_suc k)

names_ended : (c : Option ContextReader) (k : ℕ) (out : Out) → Ended (reads_class c (heading.Names k out) ∷ [])
names_ended c k out =
    turn_ended a_var_token (turn_to (reads_class (context_moved c a_var_token) (heading.Names (k + 1) (out ++ named a_name)) ∷ []) []) (still_names (context_moved c a_var_token) (k + 1) (out ++ named a_name))
    ([], (_, row_null (names_nothing k (out ++ named a_name)) row_end))

class_ended : (s : Symbol) (p : Place) (n : ℕ) → begins_with s ≡ begins_class → Ended (waits s p n ∷ [])
class_ended s p n b =
    turn_ended a_con_token (turn_to (reads_class (a_context.move a_context.start a_con_token) (heading.Names 0 (named a_name)) ∷ []) [])
    (ap (λ o. head_turn o s p n a_con_token) (no_head s a_con_token (ap (λ b. member 2 (begin_codes b)) b)) ∙ (ap (λ b. leaf_turn b p n a_con_token) b ∙ still_names (a_context.move a_context.start a_con_token) 0 (named a_name)))
    (names_ended (a_context.move a_context.start a_con_token) 0 (named a_name))

-- symbols

pub ended : (k : ℕ) (s : Symbol) → ends_within k s ≡ true → EndsOf s
ended zero s e p n = cc
ended (suc k) s e p n = by_parts (λ r e. ended k r e) (nothing_of s) (begins_with s) (heads s) refl refl refl e
  where
    by_parts : ((r : Symbol) → ends_within k r ≡ true → EndsOf r) → (o : Option Form) (b : Begins) (hs : List Head) → nothing_of s ≡ o → begins_with s ≡ b → heads s ≡ hs → ends_by (λ r. ends_within k r) (is_some o) b hs ≡ true → Ended (waits s p n ∷ [])
    by_parts f (Some g) b hs d i j e = ([], (node_of g p n ∷ [], row_null {ns = node_of g p n ∷ []} (ap (λ o. put_nothing o p n) d) row_end))
    by_parts f None (begins l is) hs d i j e = start_ended l s p n is i (λ q t. items_ended (λ r. ends_within k r) f is q n t e)
    by_parts f None begins_class hs d i j e = class_ended s p n i
    by_parts f None (begins_line is) [] d i j e = cc
    by_parts f None (begins_line is) (h ∷ hs) d i j e = head_ended s p n h hs j (λ q t. items_ended (λ r. ends_within k r) f (behind h.behind) q n t e)
    by_parts f None no_leaf [] d i j e = cc
    by_parts f None no_leaf (h ∷ hs) d i j e = head_ended s p n h hs j (λ q t. items_ended (λ r. ends_within k r) f (behind h.behind) q n t e)

pub symbol_ended : (s : Symbol) → EndsOf s
symbol_ended s p n = ended 20 s (table_ends s) p n

pub all_ended : (is : List Item) (p : Place) (n : ℕ) (t : Token) → Ended (frames_of is p n t)
all_ended [] p n t = ([], ([], row_end))
all_ended (i ∷ is) p n t = both_ended (symbol_ended i.symbol p (count_of i.count n t)) (all_ended is p n t)

-- the names of a signature

named_ended : (p : Place) (k : ℕ) (out : Out) (n : NameAt) → Ended (reads_line None (side.Names p k out (spot.Named n)) ∷ [])
named_ended p k out n = let t = some_token (token.Word word.DoubleColon) in turn_ended t (sig_turn p k out n t) refl (plus_none (frames_of sig_behind (first_at k p n) 0 t) (all_ended sig_behind (first_at k p n) 0 t))

side_ended : (p : Place) (k : ℕ) (out : Out) (s : Spot) → Ended (reads_line None (side.Names p k out s) ∷ [])
side_ended p k out spot.Want = turn_ended a_var_token (turn_to (reads_line None (side.Names p k out (spot.Named a_name)) ∷ []) []) refl (named_ended p k out a_name)
side_ended p k out (spot.Open q) = turn_ended (some_token (token.Op pad)) (turn_to (reads_line None (side.Names p k out (spot.Operator q pad)) ∷ []) []) refl (operator_ended q pad)
  where
    operator_ended : (q : Place) (name : Name) → Ended (reads_line None (side.Names p k out (spot.Operator q name)) ∷ [])
    operator_ended q name = turn_ended (some_token (token.Mark 41)) (turn_to (reads_line None (side.Names p k out (spot.Named (record { place = q; name = name }))) ∷ []) []) refl (named_ended p k out (record { place = q; name = name }))
side_ended p k out (spot.Operator q name) = turn_ended (some_token (token.Mark 41)) (turn_to (reads_line None (side.Names p k out (spot.Named (record { place = q; name = name }))) ∷ []) []) refl (named_ended p k out (record { place = q; name = name }))
side_ended p k out (spot.Named n) = named_ended p k out n

-- each frame

leaf_finishes : (l : Leaf) {s : LeafState l} → (ts : List Token) × ((v : Out) × Runs (leaf_reader l) s ts v []) → Ended (reads l s ∷ [])
leaf_finishes l (ts, (v, h)) = (ts, (v, leaf_row l h))

line_finishes : {s : State} (d : Side) → (ts : List Token) × ((v : Out) × Runs an_eq s ts v []) → Ended (reads_line (Some s) d ∷ [])
line_finishes d (ts, (v, h)) = (ts, (v ++ node.Equation ∷ [], line_row d h))

gone_line : (d : Side) → side_lives d ≡ true → Ended (reads_line None d ∷ [])
gone_line side.Gone e = cc
gone_line (side.Names p k out s) e = side_ended p k out s

abbrev an_arrow : Token
an_arrow = some_token (token.Word word.DoubleArrow)

class_finishes : {s : ContextReader} (h : Heading) → (ts : List Token) × ((v : Out) × Runs a_context s ts v []) → Ended (frames_of class_items an_arrow.place 0 an_arrow) → Ended (reads_class (Some s) h ∷ [])
class_finishes h (ts, (v, r)) (us, (ms, d)) = (ts ++ an_arrow ∷ us, (v ++ ms, class_row an_arrow h (run_before (an_arrow ∷ us) r) refl d))

gone_class : (h : Heading) → heading_lives h ≡ true → Ended (reads_class None h ∷ [])
gone_class heading.Gone e = cc
gone_class heading.Before e = turn_ended a_con_token (turn_to (reads_class None (heading.Names 0 (named a_name)) ∷ []) []) refl (names_ended None 0 (named a_name))
gone_class (heading.Names k out) e = names_ended None k out

pub law_finishes : {f : Frame} → Fit f → Ended (f ∷ [])
law_finishes (fit_waits {s} {p} {n}) = symbol_ended s p n
law_finishes (fit_reads {l} h) = leaf_finishes l ((leaf_known l).exact.alive h)
law_finishes (fit_line {d} (live_side h) k) = line_finishes d ((leaf_known leaf.Equation).exact.alive h)
law_finishes (fit_line {d} gone_side k) = gone_line d k
law_finishes (fit_class {h = y} (live_side h) k) = class_finishes y (a_context_known.exact.alive h) (all_ended class_items an_arrow.place 0 an_arrow)
law_finishes (fit_class {h = y} gone_side k) = gone_class y k

-- the table of the grammar is lawful
pub rules_lawful : Lawful rules code Fit frame_first frame_follow
rules_lawful = record {
  begins = λ {f} {t} fit e. law_begins t fit e;
  ends = λ {f} {t} fit d e. law_ends t fit d e;
  turns = λ {f} {t} fit e. law_turns t fit e;
  finishes = λ fit. law_finishes fit;
}

-- the reader of programs reads just what the table says
pub program_engine_exact : Exact program_engine (λ ts v us. Rows (program_start ∷ []) ts v us)
program_engine_exact = engine_exact program_start rules_lawful fit_waits
