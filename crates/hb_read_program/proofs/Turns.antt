-- The table is lawful: which tokens frames take, and what takes their place.
use Rattle.std.proofs.Common.{◌≡◌, ℕ, Bool, true, false, List, [], ◌∷◌, ◌++◌, Option, Some, None, is_some, refl, sym, ap, subst, ◌∙◌}
use Rattle.hb_base.specs.declared.place.Place.{Place}
use Rattle.hb_tokens.specs.declared.token.Token.{Token}
use Rattle.hb_tokens.specs.declared.word.Word.TheVariants as word
use Rattle.hb_grammar.specs.Reading.{at_start, after}
use Rattle.hb_engine.specs.Lawful.{both, nullable, firsts, Apart, Chain, chain_end, link}
use Rattle.hb_engine.proofs.EngineLaw.{either_cases, both_cases, chains, chain_wider}
use Rattle.hb_read_types.specs.declared.context_reader.ContextReader.{ContextReader}
use Rattle.hb_read_expressions.specs.declared.state.State.{State}
use Rattle.hb_read_declarations.specs.declared.node.DeclNode.TheVariants as node
use Rattle.hb_read_declarations.specs.Codes.{code, member, apart}
use Rattle.hb_read_declarations.specs.Combined.{mapped}
use Rattle.hb_read_declarations.specs.Readers.{Out}
use Rattle.hb_read_declarations.specs.Worths.{this_word}
use Rattle.hb_read_declarations.proofs.Known.{some_is, some_place, some_none, true_false, apart_is, member_left, member_right, none_is}
use Rattle.hb_read_declarations.proofs.WorthLaws.{word_is_code}
use Rattle.hb_read_declarations.proofs.Typing.{a_context_known}
use Rattle.hb_read_program.specs.Rules.{Leaf, Symbol, Item, Head, Form, Begins, no_leaf, begins, begins_line, begins_class, heads, behind, begins_with, nothing_of, found}
use Rattle.hb_read_program.specs.declared.symbol.Leaf.TheVariants as leaf
use Rattle.hb_read_program.specs.Frames.{LeafState, leaf_reader, a_context, Frame, reads, reads_line, reads_class, ATurn, turn_to, frames_of, place_of, Side, Heading, side_moved, side_start, first_at, sig_behind, expr_moved, line_turn, line_nothing, heading_moved, context_moved, context_whole, begun, begun_line, leaf_turn, head_turn, frame_turn, put_nothing, frame_nothing, rules}
use Rattle.hb_read_program.specs.declared.side.Heading.TheVariants as heading
use Rattle.hb_read_program.specs.Sets.{type_codes, equation_codes, going_codes, line_follow, class_follow, leaf_follow, head_codes, begin_codes, first, follow, is_nothing, all_nothing, also_codes, item_firsts, within, only_if, may_stand, row_keeps, heads_keep, leaf_keeps, apart_heads}
use Rattle.hb_read_program.proofs.Checked.{table_keeps}
use Rattle.hb_read_program.proofs.TableLaws.{leaf_known, found_code, found_keeps, both_left, both_right, within_is, only_is, nothing_is}
use Rattle.hb_read_program.proofs.Fits.{an_eq, Side_live, gone_side, live_side, Fit, fit_waits, fit_reads, fit_line, fit_class, frame_first, frame_follow}
use Rattle.hb_read_program.proofs.Fits.{code_in, start_code, side_code, sig_code, SigTurn, sig_at, sig_of, side_lives, heading_lives, LineTurn, line_sig}
use Rattle.hb_read_program.proofs.Fits.{line_still, line_of, class_items, ClassTurn, class_arrow, class_still, class_of, heading_code, context_code}

-- which tokens a symbol may begin with

pub begun_some : (l : Leaf) (o : Option (LeafState l)) (fs : List Frame) {n : ATurn} {P : Type 0} → begun l o fs ≡ Some n → ((s : LeafState l) → o ≡ Some s → turn_to (reads l s ∷ fs) [] ≡ n → P) → P
begun_some l None fs e f = cc
begun_some l (Some s) fs e f = f s refl (some_is e)

pub line_some : (o : Option ATurn) (fs : List Frame) {n : ATurn} {P : Type 0} → begun_line o fs ≡ Some n → ((m : ATurn) → o ≡ Some m → turn_to (m.frames ++ fs) m.nodes ≡ n → P) → P
line_some None fs e f = cc
line_some (Some m) fs e f = f m refl (some_is e)

eq_first : (t : Token) → is_some (expr_moved (Some an_eq.start) t) ≡ true → member (code t) equation_codes ≡ true
eq_first t e = from_some (some_place (an_eq.move an_eq.start t) e)
  where
    from_some : (r : State) × (an_eq.move an_eq.start t ≡ Some r) → member (code t) equation_codes ≡ true
    from_some (r, d) = (leaf_known leaf.Equation).begins d

pub line_first : (t : Token) (n : ATurn) → LineTurn (Some an_eq.start) side_start t n → member (code t) equation_codes ≡ true
line_first t n (line_sig e) = cc
line_first t n (line_still e d) = either_cases (is_some (expr_moved (Some an_eq.start) t)) (side_lives (side_moved side_start t)) e (λ h. eq_first t h) (λ h. start_code t equation_codes refl refl h)

context_null : context_whole (Some a_context.start) ≡ None
context_null = none_is (a_context.done a_context.start) a_context_known.nothing

class_first : (t : Token) (n : ATurn) → ClassTurn (Some a_context.start) heading.Before t n → member (code t) type_codes ≡ true
class_first t n (class_arrow out d e i) = absurd (some_none e context_null)
class_first t n (class_still e d) = either_cases (is_some (context_moved (Some a_context.start) t)) (heading_lives (heading_moved heading.Before t)) e (λ h. context_code (Some a_context.start) t h) (λ h. heading_code heading.Before t h)

leaf_begins : (b : Begins) (p : Place) (n : ℕ) (t : Token) {x : ATurn} → leaf_turn b p n t ≡ Some x → member (code t) (begin_codes b) ≡ true
leaf_begins no_leaf p n t e = cc
leaf_begins (begins l is) p n t e = begun_some l ((leaf_reader l).move (leaf_reader l).start t) (frames_of is t.place n t) e (λ s d i. (leaf_known l).begins d)
leaf_begins (begins_line is) p n t e = line_some (line_turn (Some an_eq.start) side_start t) (frames_of is t.place n t) e (λ m d i. line_first t m (line_of (Some an_eq.start) side_start t d))
leaf_begins begins_class p n t {x} e = class_first t x (class_of (Some a_context.start) heading.Before t e)

pub symbol_begins : (s : Symbol) (p : Place) (n : ℕ) (t : Token) (o : Option Head) {x : ATurn} → found (heads s) t ≡ o → head_turn o s p n t ≡ Some x → member (code t) (first s) ≡ true
symbol_begins s p n t (Some h) d e = member_left (code t) (head_codes (heads s)) (begin_codes (begins_with s)) (found_code (heads s) t d)
symbol_begins s p n t None d e = member_right (code t) (head_codes (heads s)) (begin_codes (begins_with s)) (leaf_begins (begins_with s) p n t e)

pub law_begins : {f : Frame} (t : Token) {n : ATurn} → Fit f → frame_turn f t ≡ Some n → frame_first f (code t) ≡ true
law_begins t (fit_waits {s} {p} {n}) e = symbol_begins s p n t (found (heads s) t) refl e
law_begins t (fit_reads h) e = refl
law_begins t (fit_line h k) e = refl
law_begins t (fit_class h k) e = refl

-- what a frame that may be nothing takes

null_form : (o : Option Form) (p : Place) (n : ℕ) {out : Out} → put_nothing o p n ≡ Some out → is_some o ≡ true
null_form None p n e = cc
null_form (Some f) p n e = refl

keeps_heads : (s : Symbol) → heads_keep (follow s) (heads s) ≡ true
keeps_heads s = both_left (heads_keep (follow s) (heads s)) _ (table_keeps s)

keeps_leaf : (s : Symbol) → leaf_keeps (follow s) (begins_with s) ≡ true
keeps_leaf s = both_left (leaf_keeps (follow s) (begins_with s)) _ (both_right (heads_keep (follow s) (heads s)) _ (table_keeps s))

keeps_null : (s : Symbol) → only_if (is_nothing s) (within (first s) (follow s)) ≡ true
keeps_null s = both_left (only_if (is_nothing s) (within (first s) (follow s))) (apart_heads s) (both_right (leaf_keeps (follow s) (begins_with s)) _ (both_right (heads_keep (follow s) (heads s)) _ (table_keeps s)))

in_line : (c : ℕ) → member c going_codes ≡ true → member c line_follow ≡ true
in_line c e = within_is c going_codes line_follow refl e

eq_ends : (e : Option State) (t : Token) {ns : Out} → Side_live an_eq e → line_nothing e ≡ Some ns → is_some (expr_moved e t) ≡ true → member (code t) line_follow ≡ true
eq_ends None t h d e = cc
eq_ends (Some s) t {ns = out} (live_side h) d e = by_parts (an_eq.done s) refl d (some_place (an_eq.move s t) e)
  where
    by_parts : (o : Option Out) → an_eq.done s ≡ o → mapped (λ ns. ns ++ node.Equation ∷ []) o ≡ Some out → (r : State) × (an_eq.move s t ≡ Some r) → member (code t) line_follow ≡ true
    by_parts None i d (r, m) = cc
    by_parts (Some ns) i d (r, m) = in_line (code t) ((leaf_known leaf.Equation).ends h i m)

line_ends : (e : Option State) (d : Side) (t : Token) {ns : Out} {n : ATurn} → Side_live an_eq e → line_nothing e ≡ Some ns → LineTurn e d t n → member (code t) line_follow ≡ true
line_ends e d t h k (line_sig i) = sig_code d t i
line_ends e d t h k (line_still i j) = either_cases (is_some (expr_moved e t)) (side_lives (side_moved d t)) i (λ m. eq_ends e t h k m) (λ m. side_code d t m)

in_class : (c : ℕ) → member c type_codes ≡ true → member c class_follow ≡ true
in_class c e = within_is c type_codes class_follow refl e

class_ends : (c : Option ContextReader) (h : Heading) (t : Token) {n : ATurn} → ClassTurn c h t n → member (code t) class_follow ≡ true
class_ends c h t (class_arrow out d e i) = code_in (this_word word.DoubleArrow) 49 class_follow t (word_is_code word.DoubleArrow) refl d
class_ends c h t (class_still i j) = either_cases (is_some (context_moved c t)) (heading_lives (heading_moved h t)) i (λ m. in_class (code t) (context_code c t m)) (λ m. in_class (code t) (heading_code h t m))

pub law_ends : {f : Frame} (t : Token) {n : ATurn} {ns : Out} → Fit f → frame_nothing f ≡ Some ns → frame_turn f t ≡ Some n → frame_follow f (code t) ≡ true
law_ends t (fit_waits {s} {p} {n}) d e = within_is (code t) (first s) (follow s) (only_is (is_nothing s) (within (first s) (follow s)) (keeps_null s) (null_form (nothing_of s) p n d)) (symbol_begins s p n t (found (heads s) t) refl e)
law_ends t (fit_reads {l} {s} h) d e = begun_some l ((leaf_reader l).move s t) [] e (λ r m i. (leaf_known l).ends h d m)
law_ends t (fit_line {e = x} {d = y} h k) d e = line_ends x y t h d (line_of x y t e)
law_ends t (fit_class {c} {h = y} h k) d e = class_ends c y t (class_of c y t e)

-- a production is a chain

also_in_codes : (c : ℕ) (b : Bool) (xs : List ℕ) → b ≡ true → member c xs ≡ true → member c (also_codes b xs) ≡ true
also_in_codes c true xs d e = e
also_in_codes c false xs d e = cc

items_first : (is : List Item) (p : Place) (n : ℕ) (t : Token) (c : ℕ) → firsts rules frame_first (frames_of is p n t) c ≡ true → member c (item_firsts is) ≡ true
items_first [] p n t c e = cc
items_first (i ∷ is) p n t c e =
    either_cases (member c (first i.symbol)) _ e
    (λ d. member_left c (first i.symbol) (also_codes (is_nothing i.symbol) (item_firsts is)) d)
    (λ d. both_cases _ (firsts rules frame_first (frames_of is p n t) c) d (λ k m. member_right c (first i.symbol) (also_codes (is_nothing i.symbol) (item_firsts is)) (also_in_codes c (is_nothing i.symbol) (item_firsts is) (sym (nothing_is i.symbol p _) ∙ k) (items_first is p n t c m))))

items_null : (is : List Item) (p : Place) (n : ℕ) (t : Token) → nullable rules (frames_of is p n t) ≡ all_nothing is
items_null [] p n t = refl
items_null (i ∷ is) p n t = ap (λ b. both b (nullable rules (frames_of is p n t))) (nothing_is i.symbol p _) ∙ ap (both (is_nothing i.symbol)) (items_null is p n t)

stand_apart : (goes up : List ℕ) (is : List Item) (p : Place) (n : ℕ) (t : Token) → may_stand goes up is ≡ true → Apart (λ c. member c goes) (firsts rules frame_first (frames_of is p n t))
stand_apart goes up is p n t e c d i = true_false d (apart_is (λ c. member c goes) (item_firsts is) c (both_left (apart (λ c. member c goes) (item_firsts is)) _ e) (items_first is p n t c i))

stand_up : (goes up : List ℕ) (is : List Item) (p : Place) (n : ℕ) (t : Token) → may_stand goes up is ≡ true → nullable rules (frames_of is p n t) ≡ true → (c : ℕ) → member c goes ≡ true → member c up ≡ true
stand_up goes up is p n t e d c i = within_is c goes up (only_is (all_nothing is) (within goes up) (both_right (apart (λ c. member c goes) (item_firsts is)) _ e) (sym (items_null is p n t) ∙ d)) i

abbrev pub Up : List ℕ → List Frame → Type 0
Up up fs = Chain rules Fit frame_first frame_follow (λ c. member c up) fs

pub chain_of : (up : List ℕ) (is : List Item) (p : Place) (n : ℕ) (t : Token) → row_keeps up is ≡ true → Up up (frames_of is p n t)
chain_of up [] p n t e = chain_end
chain_of up (i ∷ is) p n t e =
    let m = both_left (may_stand (follow i.symbol) up is) (row_keeps up is) e in
    link fit_waits (stand_apart (follow i.symbol) up is p n t m) (stand_up (follow i.symbol) up is p n t m) (chain_of up is p n t (both_right (may_stand (follow i.symbol) up is) (row_keeps up is) e))

turn_as : (up : List ℕ) {m n : ATurn} → m ≡ n → Up up m.frames → Up up n.frames
turn_as up e h = subst (λ n. Up up n.frames) e h

alone : (up : List ℕ) (f : Frame) → Fit f → ((c : ℕ) → frame_follow f c ≡ true → member c up ≡ true) → Up up (f ∷ [])
alone up f h k = link h (λ c d e. cc) (λ e c d. k c d) chain_end

eq_live : (e : Option State) (t : Token) → Side_live an_eq e → Side_live an_eq (expr_moved e t)
eq_live None t h = gone_side
eq_live (Some s) t (live_side h) = by_move (an_eq.move s t) refl
  where
    by_move : (o : Option State) → an_eq.move s t ≡ o → Side_live an_eq o
    by_move None d = gone_side
    by_move (Some r) d = live_side (after h d)

context_live : (c : Option ContextReader) (t : Token) → Side_live a_context c → Side_live a_context (context_moved c t)
context_live None t h = gone_side
context_live (Some s) t (live_side h) = by_move (a_context.move s t) refl
  where
    by_move : (o : Option ContextReader) → a_context.move s t ≡ o → Side_live a_context o
    by_move None d = gone_side
    by_move (Some r) d = live_side (after h d)

sig_chain : (d : Side) (t : Token) {m : ATurn} → SigTurn d t m → Up line_follow m.frames
sig_chain d t (sig_at p k out n e i j) = turn_as line_follow j (chain_of line_follow sig_behind (first_at k p n) 0 t refl)

line_chain : (e : Option State) (d : Side) (t : Token) {n : ATurn} → Side_live an_eq e → LineTurn e d t n → Up line_follow n.frames
line_chain e d t h (line_sig i) = sig_chain d t (sig_of d t i)
line_chain e d t h (line_still i j) = turn_as line_follow j (alone line_follow (reads_line (expr_moved e t) (side_moved d t)) (fit_line (eq_live e t h) i) (λ c k. k))

class_chain : (c : Option ContextReader) (h : Heading) (t : Token) {n : ATurn} → Side_live a_context c → ClassTurn c h t n → Up class_follow n.frames
class_chain c h t k (class_arrow out d e i) = turn_as class_follow i (chain_of class_follow class_items t.place 0 t refl)
class_chain c h t k (class_still i j) = turn_as class_follow j (alone class_follow (reads_class (context_moved c t) (heading_moved h t)) (fit_class (context_live c t k) i) (λ x m. m))

leaf_chain : (up : List ℕ) (b : Begins) (p : Place) (n : ℕ) (t : Token) {x : ATurn} → leaf_keeps up b ≡ true → leaf_turn b p n t ≡ Some x → Up up x.frames
leaf_chain up no_leaf p n t k e = cc
leaf_chain up (begins l is) p n t k e =
    let m = both_left (may_stand (leaf_follow l) up is) (row_keeps up is) k in
    begun_some l ((leaf_reader l).move (leaf_reader l).start t) (frames_of is t.place n t) e (λ s d i.
    turn_as up i (link (fit_reads (after at_start d)) (stand_apart (leaf_follow l) up is t.place n t m) (stand_up (leaf_follow l) up is t.place n t m) (chain_of up is t.place n t (both_right (may_stand (leaf_follow l) up is) (row_keeps up is) k))))
leaf_chain up (begins_line is) p n t k e =
    let m = both_left (may_stand line_follow up is) (row_keeps up is) k in
    line_some (line_turn (Some an_eq.start) side_start t) (frames_of is t.place n t) e (λ y d i.
    turn_as up i (chains (line_chain (Some an_eq.start) side_start t (live_side at_start) (line_of (Some an_eq.start) side_start t d)) (stand_apart line_follow up is t.place n t m) (stand_up line_follow up is t.place n t m) (chain_of up is t.place n t (both_right (may_stand line_follow up is) (row_keeps up is) k))))
leaf_chain up begins_class p n t k e = chain_wider (λ c d. within_is c class_follow up k d) (class_chain (Some a_context.start) heading.Before t (live_side at_start) (class_of (Some a_context.start) heading.Before t e))

symbol_chain : (s : Symbol) (p : Place) (n : ℕ) (t : Token) (o : Option Head) {x : ATurn} → found (heads s) t ≡ o → head_turn o s p n t ≡ Some x → Up (follow s) x.frames
symbol_chain s p n t (Some h) d e = turn_as (follow s) (some_is e) (chain_of (follow s) (behind h.behind) (place_of s p t) n t (found_keeps (follow s) (heads s) t (keeps_heads s) d))
symbol_chain s p n t None d e = leaf_chain (follow s) (begins_with s) p n t (keeps_leaf s) e

pub law_turns : {f : Frame} (t : Token) {n : ATurn} → Fit f → frame_turn f t ≡ Some n → Chain rules Fit frame_first frame_follow (frame_follow f) n.frames
law_turns t (fit_waits {s} {p} {n}) e = symbol_chain s p n t (found (heads s) t) refl e
law_turns t (fit_reads {l} {s} h) e = begun_some l ((leaf_reader l).move s t) [] e (λ r m i. turn_as (leaf_follow l) i (alone (leaf_follow l) (reads l r) (fit_reads (after h m)) (λ c k. k)))
law_turns t (fit_line {e = x} {d = y} h k) e = line_chain x y t h (line_of x y t e)
law_turns t (fit_class {c} {h = y} h k) e = class_chain c y t h (class_of c y t e)
