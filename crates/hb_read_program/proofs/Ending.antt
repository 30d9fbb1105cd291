-- Where the end of the text is taken, a program is whole: the end is the last symbol of a program, and no frame before it takes
-- the end.
use Rattle.std.proofs.Common.{◌≡◌, ℕ, Bool, true, false, cond, List, [], ◌∷◌, ◌++◌, Option, Some, None, is_some, refl, sym, ap, subst, ◌∙◌}
use Rattle.hb_base.specs.declared.place.Place.{Place}
use Rattle.hb_tokens.specs.declared.token.Token.{Token}
use Rattle.hb_tokens.specs.declared.word.Word.TheVariants as word
use Rattle.hb_grammar.specs.Tokens.{IsEnd}
use Rattle.hb_grammar.specs.Reading.{Reached, at_start, after}
use Rattle.hb_engine.specs.Tables.{Turn, Thread, moved, turned, whole}
use Rattle.hb_engine.specs.Lawful.{both}
use Rattle.hb_engine.proofs.EngineLaw.{either_cases}
use Rattle.hb_read_types.specs.declared.context_reader.ContextReader.{ContextReader}
use Rattle.hb_read_expressions.specs.declared.state.State.{State}
use Rattle.hb_read_declarations.specs.declared.node.DeclNode.{DeclNode}
use Rattle.hb_read_declarations.specs.Codes.{kind_code, code, member}
use Rattle.hb_read_declarations.proofs.Typing.{in_qualified}
use Rattle.hb_read_declarations.specs.Readers.{Out}
use Rattle.hb_read_declarations.specs.Worths.{kind_var, kind_con, kind_op, kind_number, kind_bits, kind_word, kind_mark, this_word}
use Rattle.hb_read_declarations.proofs.Known.{some_is, some_place, true_false, if_false}
use Rattle.hb_read_declarations.proofs.Typing.{in_types}
use Rattle.hb_read_declarations.proofs.Equations.{inside}
use Rattle.hb_read_declarations.proofs.WorthLaws.{word_is_code}
use Rattle.hb_read_program.specs.Rules.{Leaf, Symbol, Item, Kind, Put, Head, Begins, no_leaf, begins, begins_line, begins_class, heads, behind, begins_with, mark_head, found, fits, put_out}
use Rattle.hb_read_program.specs.declared.symbol.Leaf.TheVariants as leaf
use Rattle.hb_read_program.specs.declared.symbol.Kind.TheVariants as kind
use Rattle.hb_read_program.specs.declared.symbol.Symbol.TheVariants as symbol
use Rattle.hb_read_program.specs.declared.symbol.Things.TheVariants as things
use Rattle.hb_read_program.specs.declared.symbol.Production.TheVariants as production
use Rattle.hb_read_program.specs.Frames.{LeafState, leaf_reader, a_context, Frame, waits, reads, reads_line, reads_class, ATurn, turn_to, frames_of, place_of, Side, Heading, side_moved, side_start, sig_behind, first_at, expr_moved, line_turn, heading_moved, context_moved, begun, begun_line, leaf_turn, head_turn, frame_turn, frame_nothing, rules, program_engine}
use Rattle.hb_read_program.specs.declared.side.Heading.TheVariants as heading
use Rattle.hb_read_program.specs.Sets.{type_codes, line_follow, first}
use Rattle.hb_read_program.proofs.TableLaws.{leaf_known, by_cond, both_left, both_right}
use Rattle.hb_read_program.proofs.Fits.{an_eq, code_in, side_code, sig_code, SigTurn, sig_at, sig_of, side_lives, heading_lives, LineTurn, line_sig, line_still, line_of, class_items, ClassTurn, class_arrow, class_still, class_of, heading_code, context_code}
use Rattle.hb_read_program.proofs.Turns.{begun_some, line_some, symbol_begins}

-- a symbol that stands before the end of the text
abbrev pub stands_before : Symbol → Bool
stands_before (symbol.One kind.End q) = false
stands_before symbol.Program = false
stands_before _ = true

abbrev all_before : List Item → Bool
all_before [] = true
all_before (i ∷ is) = both (stands_before i.symbol) (all_before is)

abbrev heads_before : List Head → Bool
heads_before [] = true
heads_before (h ∷ hs) = both (all_before (behind h.behind)) (heads_before hs)

abbrev leaf_before : Begins → Bool
leaf_before no_leaf = true
leaf_before (begins l is) = all_before is
leaf_before (begins_line is) = all_before is
leaf_before begins_class = true

-- whatever stands in the place of such a symbol stands before the end too
abbrev keeps_before : Symbol → Bool
keeps_before s = both (heads_before (heads s)) (leaf_before (begins_with s))

-- by computation over the table
table_before : (s : Symbol) → stands_before s ≡ true → keeps_before s ≡ true
table_before (symbol.One k p) e = refl
table_before (symbol.Read l) e = refl
table_before (symbol.Close f) e = refl
table_before (symbol.More things.Names) e = refl
table_before (symbol.More things.Infixes) e = refl
table_before (symbol.More things.FieldNames) e = refl
table_before (symbol.More things.DataCons) e = refl
table_before (symbol.More things.BitCons) e = refl
table_before (symbol.More things.StructParts) e = refl
table_before (symbol.More things.Depends) e = refl
table_before (symbol.More things.Preds) e = refl
table_before (symbol.Digit fix) e = refl
table_before symbol.Program e = cc
table_before symbol.Tops e = refl
table_before symbol.AfterTop e = refl
table_before symbol.Infix e = refl
table_before symbol.Name e = refl
table_before symbol.Vars e = refl
table_before symbol.SomeVars e = refl
table_before symbol.Atypes e = refl
table_before symbol.SomeAtypes e = refl
table_before symbol.Size e = refl
table_before symbol.Align e = refl
table_before symbol.DataCon e = refl
table_before symbol.BitPart e = refl
table_before symbol.BitParts e = refl
table_before symbol.MoreBitParts e = refl
table_before symbol.BitCon e = refl
table_before symbol.StructPart e = refl
table_before symbol.Start e = refl
table_before symbol.Init e = refl
table_before symbol.FieldInit e = refl
table_before symbol.MoreInits e = refl
table_before symbol.Direction e = refl
table_before symbol.Depend e = refl
table_before symbol.Depends e = refl
table_before symbol.Methods e = refl
table_before symbol.Sigs e = refl
table_before symbol.AfterSig e = refl
table_before symbol.Conditions e = refl
table_before symbol.Body e = refl
table_before symbol.Rows e = refl
table_before symbol.AfterRow e = refl
table_before symbol.ClassHead e = refl

-- no kind of token but the end is the end's
other_kind : (k : Kind) (q : Put) (t : Token) → IsEnd t → stands_before (symbol.One k q) ≡ true → fits k t ≡ false
other_kind kind.Var q t e d = ap (λ k. is_some (kind_var t.place k)) e
other_kind kind.Con q t e d = ap (λ k. is_some (kind_con t.place k)) e
other_kind kind.Op q t e d = ap (λ k. is_some (kind_op t.place k)) e
other_kind kind.Number q t e d = ap (λ k. fits kind.Number (record { place = t.place; kind = k })) e
other_kind kind.Digit q t e d = ap (λ k. fits kind.Digit (record { place = t.place; kind = k })) e
other_kind kind.Bits q t e d = ap (λ k. fits kind.Bits (record { place = t.place; kind = k })) e
other_kind kind.Pad q t e d = ap (λ k. fits kind.Pad (record { place = t.place; kind = k })) e
other_kind kind.Slash q t e d = ap (λ k. fits kind.Slash (record { place = t.place; kind = k })) e
other_kind (kind.Toward dir) q t e d = ap (λ k. fits (kind.Toward dir) (record { place = t.place; kind = k })) e
other_kind (kind.Word w) q t e d = ap (λ k. is_some (kind_word w t.place k)) e
other_kind (kind.Mark m) q t e d = ap (λ k. is_some (kind_mark m t.place k)) e
other_kind kind.End q t e d = cc

-- the frames before the end
data Before : Frame → Type 0 where
  waits_before : {s : Symbol} {p : Place} {n : ℕ} → stands_before s ≡ true → Before (waits s p n)
  reads_before : {l : Leaf} {s : LeafState l} → Before (reads l s)
  line_before : {e : Option State} {d : Side} → Before (reads_line e d)
  class_before : {c : Option ContextReader} {h : Heading} → Before (reads_class c h)

-- what is still to come of a program that has begun
data UpToEnd : List Frame → Type 0 where
  last : {q : Put} {p : Place} {n : ℕ} → UpToEnd (waits (symbol.One kind.End q) p n ∷ [])
  then : {f : Frame} {fs : List Frame} → Before f → UpToEnd fs → UpToEnd (f ∷ fs)

data AllBefore : List Frame → Type 0 where
  nothing : AllBefore []
  also : {f : Frame} {fs : List Frame} → Before f → AllBefore fs → AllBefore (f ∷ fs)

behind_all : {gs fs : List Frame} → AllBefore gs → UpToEnd fs → UpToEnd (gs ++ fs)
behind_all nothing h = h
behind_all (also b g) h = then b (behind_all g h)

both_all : {gs fs : List Frame} → AllBefore gs → AllBefore fs → AllBefore (gs ++ fs)
both_all nothing h = h
both_all (also b g) h = also b (both_all g h)

items_all : (is : List Item) (p : Place) (n : ℕ) (t : Token) → all_before is ≡ true → AllBefore (frames_of is p n t)
items_all [] p n t e = nothing
items_all (i ∷ is) p n t e = also (waits_before (both_left (stands_before i.symbol) (all_before is) e)) (items_all is p n t (both_right (stands_before i.symbol) (all_before is) e))

all_as : {fs gs : List Frame} → fs ≡ gs → AllBefore fs → AllBefore gs
all_as e h = subst AllBefore e h

turn_all : {m n : ATurn} → m ≡ n → AllBefore m.frames → AllBefore n.frames
turn_all e h = subst (λ n. AllBefore n.frames) e h

-- ---- what takes the place of a frame before the end stands before the end

found_before : (hs : List Head) (t : Token) {h : Head} → heads_before hs ≡ true → found hs t ≡ Some h → all_before (behind h.behind) ≡ true
found_before [] t k e = cc
found_before (g ∷ hs) t k e =
    by_cond (fits g.kind t) (Some g) (found hs t) e
    (λ d i. subst (λ h. all_before (behind h.behind) ≡ true) (some_is i) (both_left (all_before (behind g.behind)) (heads_before hs) k))
    (λ d i. found_before hs t (both_right (all_before (behind g.behind)) (heads_before hs) k) i)

sig_all : (d : Side) (t : Token) {m : ATurn} → SigTurn d t m → AllBefore m.frames
sig_all d t (sig_at p k out n e i j) = turn_all j (items_all sig_behind (first_at k p n) 0 t refl)

line_all : (e : Option State) (d : Side) (t : Token) {n : ATurn} → LineTurn e d t n → AllBefore n.frames
line_all e d t (line_sig i) = sig_all d t (sig_of d t i)
line_all e d t (line_still i j) = turn_all j (also line_before nothing)

class_all : (c : Option ContextReader) (h : Heading) (t : Token) {n : ATurn} → ClassTurn c h t n → AllBefore n.frames
class_all c h t (class_arrow out d e i) = turn_all i (items_all class_items t.place 0 t refl)
class_all c h t (class_still i j) = turn_all j (also class_before nothing)

leaf_all : (b : Begins) (p : Place) (n : ℕ) (t : Token) {x : ATurn} → leaf_before b ≡ true → leaf_turn b p n t ≡ Some x → AllBefore x.frames
leaf_all no_leaf p n t k e = cc
leaf_all (begins l is) p n t k e = begun_some l ((leaf_reader l).move (leaf_reader l).start t) (frames_of is t.place n t) e (λ s d i. turn_all i (also reads_before (items_all is t.place n t k)))
leaf_all (begins_line is) p n t k e =
    line_some (line_turn (Some an_eq.start) side_start t) (frames_of is t.place n t) e (λ m d i. turn_all i (both_all (line_all (Some an_eq.start) side_start t (line_of (Some an_eq.start) side_start t d)) (items_all is t.place n t k)))
leaf_all begins_class p n t k e = class_all (Some a_context.start) heading.Before t (class_of (Some a_context.start) heading.Before t e)

symbol_all : (s : Symbol) (p : Place) (n : ℕ) (t : Token) (o : Option Head) {x : ATurn} → keeps_before s ≡ true → found (heads s) t ≡ o → head_turn o s p n t ≡ Some x → AllBefore x.frames
symbol_all s p n t (Some h) k d e = turn_all (some_is e) (items_all (behind h.behind) (place_of s p t) n t (found_before (heads s) t (both_left (heads_before (heads s)) (leaf_before (begins_with s)) k) d))
symbol_all s p n t None k d e = leaf_all (begins_with s) p n t (both_right (heads_before (heads s)) (leaf_before (begins_with s)) k) e

turn_before : {f : Frame} (t : Token) {n : ATurn} → Before f → frame_turn f t ≡ Some n → AllBefore n.frames
turn_before t (waits_before {s} {p} {n} h) e = symbol_all s p n t (found (heads s) t) (table_before s h) refl e
turn_before t (reads_before {l} {s}) e = begun_some l ((leaf_reader l).move s t) [] e (λ r m i. turn_all i (also reads_before nothing))
turn_before t (line_before {e = x} {d}) e = line_all x d t (line_of x d t e)
turn_before t (class_before {c} {h}) e = class_all c h t (class_of c h t e)

-- ---- no frame before the end takes the end

-- a set of codes without that of the end
not_end : (t : Token) (xs : List ℕ) → IsEnd t → member 7 xs ≡ false → member (code t) xs ≡ true → ⊥
not_end t xs e d h = true_false h (ap (λ k. member (kind_code k) xs) e ∙ d)

-- a symbol that takes no token with the code of the end
by_first : (s : Symbol) (p : Place) (n : ℕ) (t : Token) {x : ATurn} → IsEnd t → member 7 (first s) ≡ false → head_turn (found (heads s) t) s p n t ≡ Some x → ⊥
by_first s p n t e k d = not_end t (first s) e k (symbol_begins s p n t (found (heads s) t) refl d)

no_end : (s : Symbol) (p : Place) (n : ℕ) (t : Token) {x : ATurn} → stands_before s ≡ true → IsEnd t → head_turn (found (heads s) t) s p n t ≡ Some x → ⊥
no_end (symbol.One k q) p n t h e d = one_never (found (heads (symbol.One k q)) t) (if_false (fits k t) _ _ (other_kind k q t e h)) d
  where
    one_never : (o : Option Head) → o ≡ None → {x : ATurn} → head_turn o (symbol.One k q) p n t ≡ Some x → ⊥
    one_never None i d = cc
    one_never (Some g) i d = cc
no_end symbol.Program p n t h e d = cc
no_end (symbol.Read leaf.Type) p n t h e d = by_first (symbol.Read leaf.Type) p n t e refl d
no_end (symbol.Read leaf.Atype) p n t h e d = by_first (symbol.Read leaf.Atype) p n t e refl d
no_end (symbol.Read leaf.Pred) p n t h e d = by_first (symbol.Read leaf.Pred) p n t e refl d
no_end (symbol.Read leaf.Qualified) p n t h e d = by_first (symbol.Read leaf.Qualified) p n t e refl d
no_end (symbol.Read leaf.Expr) p n t h e d = by_first (symbol.Read leaf.Expr) p n t e refl d
no_end (symbol.Read leaf.Equation) p n t h e d = by_first (symbol.Read leaf.Equation) p n t e refl d
no_end (symbol.Close f) p n t h e d = by_first (symbol.Close f) p n t e refl d
no_end (symbol.More things.Names) p n t h e d = by_first (symbol.More things.Names) p n t e refl d
no_end (symbol.More things.Infixes) p n t h e d = by_first (symbol.More things.Infixes) p n t e refl d
no_end (symbol.More things.FieldNames) p n t h e d = by_first (symbol.More things.FieldNames) p n t e refl d
no_end (symbol.More things.DataCons) p n t h e d = by_first (symbol.More things.DataCons) p n t e refl d
no_end (symbol.More things.BitCons) p n t h e d = by_first (symbol.More things.BitCons) p n t e refl d
no_end (symbol.More things.StructParts) p n t h e d = by_first (symbol.More things.StructParts) p n t e refl d
no_end (symbol.More things.Depends) p n t h e d = by_first (symbol.More things.Depends) p n t e refl d
no_end (symbol.More things.Preds) p n t h e d = by_first (symbol.More things.Preds) p n t e refl d
no_end (symbol.Digit fix) p n t h e d = by_first (symbol.Digit fix) p n t e refl d
no_end symbol.Tops p n t h e d = by_first symbol.Tops p n t e refl d
no_end symbol.AfterTop p n t h e d = by_first symbol.AfterTop p n t e refl d
no_end symbol.Infix p n t h e d = by_first symbol.Infix p n t e refl d
no_end symbol.Name p n t h e d = by_first symbol.Name p n t e refl d
no_end symbol.Vars p n t h e d = by_first symbol.Vars p n t e refl d
no_end symbol.SomeVars p n t h e d = by_first symbol.SomeVars p n t e refl d
no_end symbol.Atypes p n t h e d = by_first symbol.Atypes p n t e refl d
no_end symbol.SomeAtypes p n t h e d = by_first symbol.SomeAtypes p n t e refl d
no_end symbol.Size p n t h e d = by_first symbol.Size p n t e refl d
no_end symbol.Align p n t h e d = by_first symbol.Align p n t e refl d
no_end symbol.DataCon p n t h e d = by_first symbol.DataCon p n t e refl d
no_end symbol.BitPart p n t h e d = by_first symbol.BitPart p n t e refl d
no_end symbol.BitParts p n t h e d = by_first symbol.BitParts p n t e refl d
no_end symbol.MoreBitParts p n t h e d = by_first symbol.MoreBitParts p n t e refl d
no_end symbol.BitCon p n t h e d = by_first symbol.BitCon p n t e refl d
no_end symbol.StructPart p n t h e d = by_first symbol.StructPart p n t e refl d
no_end symbol.Start p n t h e d = by_first symbol.Start p n t e refl d
no_end symbol.Init p n t h e d = by_first symbol.Init p n t e refl d
no_end symbol.FieldInit p n t h e d = by_first symbol.FieldInit p n t e refl d
no_end symbol.MoreInits p n t h e d = by_first symbol.MoreInits p n t e refl d
no_end symbol.Direction p n t h e d = by_first symbol.Direction p n t e refl d
no_end symbol.Depend p n t h e d = by_first symbol.Depend p n t e refl d
no_end symbol.Depends p n t h e d = by_first symbol.Depends p n t e refl d
no_end symbol.Methods p n t h e d = by_first symbol.Methods p n t e refl d
no_end symbol.Sigs p n t h e d = by_first symbol.Sigs p n t e refl d
no_end symbol.AfterSig p n t h e d = by_first symbol.AfterSig p n t e refl d
no_end symbol.Conditions p n t h e d = by_first symbol.Conditions p n t e refl d
no_end symbol.Body p n t h e d = by_first symbol.Body p n t e refl d
no_end symbol.Rows p n t h e d = by_first symbol.Rows p n t e refl d
no_end symbol.AfterRow p n t h e d = by_first symbol.AfterRow p n t e refl d
no_end symbol.ClassHead p n t h e d = by_first symbol.ClassHead p n t e refl d

leaf_end : (l : Leaf) (t : Token) (s r : LeafState l) → IsEnd t → (leaf_reader l).move s t ≡ Some r → ⊥
leaf_end leaf.Type t s r e m = not_end t type_codes e refl ((leaf_known leaf.Type).takes m)
leaf_end leaf.Atype t s r e m = not_end t type_codes e refl ((leaf_known leaf.Atype).takes m)
leaf_end leaf.Pred t s r e m = not_end t type_codes e refl ((leaf_known leaf.Pred).takes m)
leaf_end leaf.Qualified t s r e m = true_false ((leaf_known leaf.Qualified).takes m) (ap (λ k. in_qualified (kind_code k)) e)
leaf_end leaf.Expr t s r e m = true_false ((leaf_known leaf.Expr).takes m) (ap (λ k. inside (kind_code k)) e)
leaf_end leaf.Equation t s r e m = true_false ((leaf_known leaf.Equation).takes m) (ap (λ k. inside (kind_code k)) e)

line_end : (e : Option State) (d : Side) (t : Token) {n : ATurn} → IsEnd t → LineTurn e d t n → ⊥
line_end e d t i (line_sig h) = not_end t line_follow i refl (sig_code d t h)
line_end e d t i (line_still h j) = either_cases (is_some (expr_moved e t)) (side_lives (side_moved d t)) h (λ m. taken e m) (λ m. not_end t line_follow i refl (side_code d t m))
  where
    taken : (e : Option State) → is_some (expr_moved e t) ≡ true → ⊥
    taken None m = cc
    taken (Some s) m = by_move (some_place (an_eq.move s t) m)
      where
        by_move : (r : State) × (an_eq.move s t ≡ Some r) → ⊥
        by_move (r, m) = leaf_end leaf.Equation t s r i m

class_end : (c : Option ContextReader) (h : Heading) (t : Token) {n : ATurn} → IsEnd t → ClassTurn c h t n → ⊥
class_end c h t i (class_arrow out d e j) = not_end t (49 ∷ []) i refl (code_in (this_word word.DoubleArrow) 49 (49 ∷ []) t (word_is_code word.DoubleArrow) refl d)
class_end c h t i (class_still e j) = either_cases (is_some (context_moved c t)) (heading_lives (heading_moved h t)) e (λ m. not_end t type_codes i refl (context_code c t m)) (λ m. not_end t type_codes i refl (heading_code h t m))

never_before : {f : Frame} (t : Token) {n : ATurn} → Before f → IsEnd t → frame_turn f t ≡ Some n → ⊥
never_before t (waits_before {s} {p} {n} h) e d = no_end s p n t h e d
never_before t (reads_before {l} {s}) e d = begun_some l ((leaf_reader l).move s t) [] d (λ r m i. leaf_end l t s r e m)
never_before t (line_before {e = x} {d = y}) e d = line_end x y t e (line_of x y t d)
never_before t (class_before {c} {h}) e d = class_end c h t e (class_of c h t d)

-- ---- the states of the reader of programs

-- what is still to come: a whole program, all up to the end, or nothing
data Coming : List Frame → Type 0 where
  whole_program : {p : Place} {n : ℕ} → Coming (waits symbol.Program p n ∷ [])
  up_to_end : {fs : List Frame} → UpToEnd fs → Coming fs
  none_left : Coming []

abbrev Threads : Type 0
Threads = Thread Frame DeclNode

coming_as : {r s : Threads} → r ≡ s → Coming r.frames → Coming s.frames
coming_as e h = subst (λ r. Coming r.frames) e h

none_turned : {P : Type 0} (o : Option ATurn) (ns : Option Out) (fs : List Frame) (out : Out) (next : Out → Option Threads) {r : Threads} → turned o ns fs out next ≡ Some r → ((n : ATurn) → o ≡ Some n → record { frames = n.frames ++ fs; nodes = out ++ n.nodes } ≡ r → P) → ((ms : Out) → next (out ++ ms) ≡ Some r → P) → P
none_turned (Some n) ns fs out next e f g = f n refl (some_is e)
none_turned None (Some ms) fs out next e f g = g ms e
none_turned None None fs out next e f g = cc

up_moved : {fs : List Frame} (out : Out) (t : Token) {r : Threads} → UpToEnd fs → moved rules fs out t ≡ Some r → Coming r.frames
up_moved out t (last {q} {p} {n}) e =
    none_turned (frame_turn (waits (symbol.One kind.End q) p n) t) (frame_nothing (waits (symbol.One kind.End q) p n)) [] out (λ ns. moved rules [] ns t) e
    (λ m d i. coming_as i (end_taken (fits kind.End t) m d))
    (λ ms d. cc)
  where
    end_taken : (b : Bool) (m : ATurn) → head_turn (cond b (Some (record { kind = kind.End; put = q; behind = production.Nothing })) None) (symbol.One kind.End q) p n t ≡ Some m → Coming (m.frames ++ [])
    end_taken true m d = subst (λ m. Coming (m.frames ++ [])) (some_is d) none_left
    end_taken false m d = cc
up_moved out t (then {f} {fs} b h) e =
    none_turned (frame_turn f t) (frame_nothing f) fs out (λ ns. moved rules fs ns t) e
    (λ m d i. coming_as i (up_to_end (behind_all (turn_before t b d) h)))
    (λ ms d. up_moved (out ++ ms) t h d)

first_moved : (p : Place) (n : ℕ) (out : Out) (t : Token) {r : Threads} → moved rules (waits symbol.Program p n ∷ []) out t ≡ Some r → Coming r.frames
first_moved p n out t e =
    none_turned (frame_turn (waits symbol.Program p n) t) None [] out (λ ns. moved rules [] ns t) e
    (λ m d i. coming_as i (begun (found (heads symbol.Program) t) refl m d))
    (λ ms d. cc)
  where
    begun : (o : Option Head) → found (heads symbol.Program) t ≡ o → (m : ATurn) → head_turn o symbol.Program p n t ≡ Some m → Coming (m.frames ++ [])
    begun None i m d = cc
    begun (Some h) i m d =
        by_cond (fits (kind.Mark 123) t) (Some (mark_head 123 production.Program)) None i
        (λ j k. subst (λ m. Coming (m.frames ++ [])) (ap (λ h. turn_to (frames_of (behind h.behind) (place_of symbol.Program p t) n t) (put_out h.put p n t)) (some_is k) ∙ some_is d) (up_to_end (then (waits_before refl) last)))
        (λ j k. cc)

moved_coming : (s : Threads) (t : Token) {r : Threads} → Coming s.frames → program_engine.move s t ≡ Some r → Coming r.frames
moved_coming s t h e = by_coming s.frames h e
  where
    by_coming : (fs : List Frame) → Coming fs → {r : Threads} → moved rules fs s.nodes t ≡ Some r → Coming r.frames
    by_coming fs (whole_program {p} {n}) e = first_moved p n s.nodes t e
    by_coming fs (up_to_end h) e = up_moved s.nodes t h e
    by_coming fs none_left e = cc

reached_coming : {s : Threads} → Reached program_engine s → Coming s.frames
reached_coming at_start = whole_program
reached_coming (after {s} {t} h e) = moved_coming s t (reached_coming h) e

-- ---- the end

up_ended : {fs : List Frame} (out : Out) (t : Token) {r : Threads} → IsEnd t → UpToEnd fs → moved rules fs out t ≡ Some r → r.frames ≡ []
up_ended out t i (last {q} {p} {n}) e =
    none_turned (frame_turn (waits (symbol.One kind.End q) p n) t) None [] out (λ ns. moved rules [] ns t) e
    (λ m d j. sym (ap (λ r. r.frames) j) ∙ end_frames (fits kind.End t) m d)
    (λ ms d. cc)
  where
    end_frames : (b : Bool) (m : ATurn) → head_turn (cond b (Some (record { kind = kind.End; put = q; behind = production.Nothing })) None) (symbol.One kind.End q) p n t ≡ Some m → m.frames ++ [] ≡ []
    end_frames true m d = sym (ap (λ m. m.frames ++ []) (some_is d))
    end_frames false m d = cc
up_ended out t i (then {f} {fs} b h) e =
    none_turned (frame_turn f t) (frame_nothing f) fs out (λ ns. moved rules fs ns t) e
    (λ m d j. absurd (never_before t b i d))
    (λ ms d. up_ended (out ++ ms) t i h d)

nothing_whole : (r : Threads) → r.frames ≡ [] → is_some (program_engine.done r) ≡ true
nothing_whole r e = ap (λ fs. is_some (whole rules fs r.nodes)) e

-- where the end is taken, a program is whole
pub ends_whole : (t : Token) → IsEnd t → (s r : Threads) → Reached program_engine s → program_engine.move s t ≡ Some r → is_some (program_engine.done r) ≡ true
ends_whole t i s r h e = nothing_whole r (by_coming s.frames (reached_coming h) e)
  where
    by_coming : (fs : List Frame) → Coming fs → moved rules fs s.nodes t ≡ Some r → r.frames ≡ []
    by_coming fs (up_to_end h) e = up_ended s.nodes t i h e
    by_coming fs none_left e = cc
    by_coming fs (whole_program {p} {n}) e =
        none_turned (frame_turn (waits symbol.Program p n) t) None [] s.nodes (λ ns. moved rules [] ns t) e
        (λ m d j. absurd (by_first symbol.Program p n t i refl d))
        (λ ms d. cc)
