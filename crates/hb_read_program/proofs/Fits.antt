-- The frames that come about, and which tokens they take.
use Rattle.std.proofs.Common.{◌≡◌, ℕ, Bool, true, false, List, [], ◌∷◌, Option, Some, None, is_some, refl, ap, ◌∙◌}
use Rattle.hb_base.specs.declared.name.Name.{Name}
use Rattle.hb_base.specs.declared.place.Place.{Place}
use Rattle.hb_tokens.specs.declared.token.Token.{Token}
use Rattle.hb_tokens.specs.declared.word.Word.TheVariants as word
use Rattle.hb_tree.specs.declared.types.NameAt.{NameAt}
use Rattle.hb_grammar.specs.Reading.{Reader, Reached}
use Rattle.hb_engine.specs.Lawful.{either}
use Rattle.hb_read_types.specs.declared.context_reader.ContextReader.{ContextReader}
use Rattle.hb_read_patterns.specs.Moves.{pat_start}
use Rattle.hb_read_expressions.specs.declared.state.State.{State}
use Rattle.hb_read_declarations.specs.Codes.{code, member}
use Rattle.hb_read_declarations.specs.Combined.{mapped}
use Rattle.hb_read_declarations.specs.Readers.{Out, an_equation}
use Rattle.hb_read_declarations.specs.Worths.{var, con, op, this_word, mark}
use Rattle.hb_read_declarations.proofs.Known.{some_is, some_place}
use Rattle.hb_read_declarations.proofs.WorthLaws.{var_code, con_code, op_code, word_is_code, mark_code}
use Rattle.hb_read_declarations.proofs.Typing.{a_context_known}
use Rattle.hb_read_program.specs.Rules.{Leaf, Symbol, Item, a_con, plain}
use Rattle.hb_read_program.specs.declared.symbol.Symbol.TheVariants as symbol
use Rattle.hb_read_program.specs.Frames.{LeafState, leaf_reader, a_context, Frame, waits, reads, reads_line, reads_class, ATurn, turn_to, frames_of, Side, Heading, Spot, spot_if, name_spot, operator_spot, close_spot, comma_if, spot_moved, side_moved, side_start, sig_if, sig_turn, as_sig, still_line, expr_moved, or_line, line_turn, first_heading, next_heading, heading_moved, context_moved, context_whole, still_class, class_turn}
use Rattle.hb_read_program.specs.declared.side.Side.TheVariants as side
use Rattle.hb_read_program.specs.declared.side.Spot.TheVariants as spot
use Rattle.hb_read_program.specs.declared.side.Heading.TheVariants as heading
use Rattle.hb_read_program.specs.Sets.{type_codes, line_follow, class_follow, leaf_follow, first, follow, within}
use Rattle.hb_read_program.proofs.TableLaws.{by_cond, within_is}

abbrev pub an_eq : Reader State Out
an_eq = an_equation pat_start

-- frames that come about

pub data Side_live {S V : Type 0} (a : Reader S V) : Option S → Type 0 where
  gone_side : Side_live a None
  live_side : {s : S} → Reached a s → Side_live a (Some s)

abbrev pub side_lives : Side → Bool
side_lives side.Gone = false
side_lives _ = true

abbrev pub heading_lives : Heading → Bool
heading_lives heading.Gone = false
heading_lives _ = true

pub data Fit : Frame → Type 0 where
  fit_waits : {s : Symbol} {p : Place} {n : ℕ} → Fit (waits s p n)
  fit_reads : {l : Leaf} {s : LeafState l} → Reached (leaf_reader l) s → Fit (reads l s)
  fit_line : {e : Option State} {d : Side} → Side_live an_eq e → either (is_some e) (side_lives d) ≡ true → Fit (reads_line e d)
  fit_class : {c : Option ContextReader} {h : Heading} → Side_live a_context c → either (is_some c) (heading_lives h) ≡ true → Fit (reads_class c h)

abbrev pub frame_first : Frame → ℕ → Bool
frame_first (waits s p n) c = member c (first s)
frame_first (reads l s) c = true
frame_first (reads_line e d) c = true
frame_first (reads_class x h) c = true

abbrev pub frame_follow : Frame → ℕ → Bool
frame_follow (waits s p n) c = member c (follow s)
frame_follow (reads l s) c = member c (leaf_follow l)
frame_follow (reads_line e d) c = member c line_follow
frame_follow (reads_class x h) c = member c class_follow

-- the code of a token that is worth something, in a set that has it
pub code_in : {V : Type 0} (f : Token → Option V) (x : ℕ) (xs : List ℕ) (t : Token) → ((t : Token) (v : V) → f t ≡ Some v → member (code t) (x ∷ []) ≡ true) → within (x ∷ []) xs ≡ true → is_some (f t) ≡ true → member (code t) xs ≡ true
code_in {V} f x xs t g w e = from_some (some_place (f t) e)
  where
    from_some : (v : V) × (f t ≡ Some v) → member (code t) xs ≡ true
    from_some (v, d) = within_is (code t) (x ∷ []) xs w (g t v d)

-- the first name of a signature goes on with a name, an operator or a bracket

want_code : (p : Place) (k : ℕ) (out : Out) (o : Option NameAt) (q : Option Place) (t : Token) (xs : List ℕ) → var t ≡ o → mark 40 t ≡ q → within (0 ∷ []) xs ≡ true → within (100 ∷ []) xs ≡ true → side_lives (spot_if (name_spot o q) p k out) ≡ true → member (code t) xs ≡ true
want_code p k out (Some n) q t xs d i v w e = code_in var 0 xs t var_code v (ap is_some d)
want_code p k out None (Some r) t xs d i v w e = code_in (mark 40) 100 xs t (mark_code 40) w (ap is_some i)
want_code p k out None None t xs d i v w e = cc

pub start_code : (t : Token) (xs : List ℕ) → within (0 ∷ []) xs ≡ true → within (100 ∷ []) xs ≡ true → side_lives (side_moved side_start t) ≡ true → member (code t) xs ≡ true
start_code t xs v w e = want_code (record { line = 0; col = 0 }) 0 [] (var t) (mark 40 t) t xs refl refl v w e

operator_code : (p : Place) (k : ℕ) (out : Out) (q : Place) (o : Option NameAt) (t : Token) → op t ≡ o → side_lives (spot_if (mapped (operator_spot q) o) p k out) ≡ true → member (code t) line_follow ≡ true
operator_code p k out q (Some n) t d e = code_in op 3 line_follow t op_code refl (ap is_some d)
operator_code p k out q None t d e = cc

close_code : (p : Place) (k : ℕ) (out : Out) (q : Place) (name : Name) (o : Option Place) (t : Token) → mark 41 t ≡ o → side_lives (spot_if (mapped (close_spot q name) o) p k out) ≡ true → member (code t) line_follow ≡ true
close_code p k out q name (Some r) t d e = code_in (mark 41) 101 line_follow t (mark_code 41) refl (ap is_some d)
close_code p k out q name None t d e = cc

comma_code : (p : Place) (k : ℕ) (out : Out) (n : NameAt) (o : Option Place) (t : Token) → mark 44 t ≡ o → side_lives (comma_if o p k out n) ≡ true → member (code t) line_follow ≡ true
comma_code p k out n (Some r) t d e = code_in (mark 44) 104 line_follow t (mark_code 44) refl (ap is_some d)
comma_code p k out n None t d e = cc

spot_code : (p : Place) (k : ℕ) (out : Out) (s : Spot) (t : Token) → side_lives (spot_moved p k out s t) ≡ true → member (code t) line_follow ≡ true
spot_code p k out spot.Want t e = want_code p k out (var t) (mark 40 t) t line_follow refl refl refl refl e
spot_code p k out (spot.Open q) t e = operator_code p k out q (op t) t refl e
spot_code p k out (spot.Operator q name) t e = close_code p k out q name (mark 41 t) t refl e
spot_code p k out (spot.Named n) t e = comma_code p k out n (mark 44 t) t refl e

pub side_code : (d : Side) (t : Token) → side_lives (side_moved d t) ≡ true → member (code t) line_follow ≡ true
side_code side.Gone t e = cc
side_code (side.Names p k out s) t e = spot_code p k out s t e

-- `::` behind the names
pub data SigTurn (d : Side) (t : Token) (m : ATurn) : Type 0 where
  sig_at : (p : Place) (k : ℕ) (out : Out) (n : NameAt) → d ≡ side.Names p k out (spot.Named n) → is_some (this_word word.DoubleColon t) ≡ true → sig_turn p k out n t ≡ m → SigTurn d t m

sig_holds : (b : Bool) (n : ATurn) {m : ATurn} → sig_if b n ≡ Some m → (b ≡ true) × (n ≡ m)
sig_holds true n e = (refl, some_is e)
sig_holds false n e = cc

pub sig_of : (d : Side) (t : Token) {m : ATurn} → as_sig d t ≡ Some m → SigTurn d t m
sig_of side.Gone t e = cc
sig_of (side.Names p k out spot.Want) t e = cc
sig_of (side.Names p k out (spot.Open q)) t e = cc
sig_of (side.Names p k out (spot.Operator q name)) t e = cc
sig_of (side.Names p k out (spot.Named n)) t {m} e = by_parts (sig_holds (is_some (this_word word.DoubleColon t)) (sig_turn p k out n t) e)
  where
    by_parts : (is_some (this_word word.DoubleColon t) ≡ true) × (sig_turn p k out n t ≡ m) → SigTurn (side.Names p k out (spot.Named n)) t m
    by_parts (a, b) = sig_at p k out n refl a b

sig_code_of : (d : Side) (t : Token) {m : ATurn} → SigTurn d t m → member (code t) line_follow ≡ true
sig_code_of d t (sig_at p k out n e i j) = code_in (this_word word.DoubleColon) 43 line_follow t (word_is_code word.DoubleColon) refl i

pub sig_code : (d : Side) (t : Token) {n : ATurn} → as_sig d t ≡ Some n → member (code t) line_follow ≡ true
sig_code d t e = sig_code_of d t (sig_of d t e)

-- what a line goes on with: it is a signature, or one of the two readings takes the token

pub data LineTurn (e : Option State) (d : Side) (t : Token) (n : ATurn) : Type 0 where
  line_sig : as_sig d t ≡ Some n → LineTurn e d t n
  line_still : either (is_some (expr_moved e t)) (side_lives (side_moved d t)) ≡ true → turn_to (reads_line (expr_moved e t) (side_moved d t) ∷ []) [] ≡ n → LineTurn e d t n

still_is : (e : Option State) (d : Side) {n : ATurn} → still_line e d ≡ Some n → (either (is_some e) (side_lives d) ≡ true) × (turn_to (reads_line e d ∷ []) [] ≡ n)
still_is None side.Gone e = cc
still_is None (side.Names p k out s) e = (refl, some_is e)
still_is (Some s) d e = (refl, some_is e)

pub line_of : (e : Option State) (d : Side) (t : Token) {n : ATurn} → line_turn e d t ≡ Some n → LineTurn e d t n
line_of e d t {n} h = by_sig (as_sig d t) refl h
  where
    still : (either (is_some (expr_moved e t)) (side_lives (side_moved d t)) ≡ true) × (turn_to (reads_line (expr_moved e t) (side_moved d t) ∷ []) [] ≡ n) → LineTurn e d t n
    still (a, b) = line_still a b

    by_sig : (o : Option ATurn) → as_sig d t ≡ o → or_line o (still_line (expr_moved e t) (side_moved d t)) ≡ Some n → LineTurn e d t n
    by_sig (Some m) i h = line_sig (i ∙ h)
    by_sig None i h = still (still_is (expr_moved e t) (side_moved d t) h)

-- what the head of a class goes on with

abbrev pub class_items : List Item
class_items = a_con ∷ plain symbol.SomeVars ∷ []

pub data ClassTurn (c : Option ContextReader) (h : Heading) (t : Token) (n : ATurn) : Type 0 where
  class_arrow : (out : Out) → is_some (this_word word.DoubleArrow t) ≡ true → context_whole c ≡ Some out → turn_to (frames_of class_items t.place 0 t) out ≡ n → ClassTurn c h t n
  class_still : either (is_some (context_moved c t)) (heading_lives (heading_moved h t)) ≡ true → turn_to (reads_class (context_moved c t) (heading_moved h t) ∷ []) [] ≡ n → ClassTurn c h t n

class_is : (c : Option ContextReader) (h : Heading) {n : ATurn} → still_class c h ≡ Some n → (either (is_some c) (heading_lives h) ≡ true) × (turn_to (reads_class c h ∷ []) [] ≡ n)
class_is None heading.Gone e = cc
class_is None heading.Before e = (refl, some_is e)
class_is None (heading.Names k out) e = (refl, some_is e)
class_is (Some s) h e = (refl, some_is e)

pub data Mapped {A B : Type 0} (f : A → B) (o : Option A) (b : B) : Type 0 where
  mapped_is : (a : A) → o ≡ Some a → f a ≡ b → Mapped f o b

mapped_some : {A B : Type 0} (f : A → B) (o : Option A) {b : B} → mapped f o ≡ Some b → Mapped f o b
mapped_some f None e = cc
mapped_some f (Some a) e = mapped_is a refl (some_is e)

pub class_of : (c : Option ContextReader) (h : Heading) (t : Token) {n : ATurn} → class_turn c h t ≡ Some n → ClassTurn c h t n
class_of c h t {n} e =
    by_cond (is_some (this_word word.DoubleArrow t)) (mapped (turn_to (frames_of class_items t.place 0 t)) (context_whole c)) (still_class (context_moved c t) (heading_moved h t)) e
    (λ d i. arrow d (mapped_some (turn_to (frames_of class_items t.place 0 t)) (context_whole c) i))
    (λ d i. still (class_is (context_moved c t) (heading_moved h t) i))
  where
    arrow : is_some (this_word word.DoubleArrow t) ≡ true → Mapped (turn_to (frames_of class_items t.place 0 t)) (context_whole c) n → ClassTurn c h t n
    arrow d (mapped_is out i j) = class_arrow out d i j

    still : (either (is_some (context_moved c t)) (heading_lives (heading_moved h t)) ≡ true) × (turn_to (reads_class (context_moved c t) (heading_moved h t) ∷ []) [] ≡ n) → ClassTurn c h t n
    still (a, b) = class_still a b

con_heading : (o : Option NameAt) (t : Token) → con t ≡ o → heading_lives (first_heading o) ≡ true → member (code t) type_codes ≡ true
con_heading (Some n) t d e = code_in con 2 type_codes t con_code refl (ap is_some d)
con_heading None t d e = cc

var_heading : (k : ℕ) (out : Out) (o : Option NameAt) (t : Token) → var t ≡ o → heading_lives (next_heading k out o) ≡ true → member (code t) type_codes ≡ true
var_heading k out (Some n) t d e = code_in var 0 type_codes t var_code refl (ap is_some d)
var_heading k out None t d e = cc

pub heading_code : (h : Heading) (t : Token) → heading_lives (heading_moved h t) ≡ true → member (code t) type_codes ≡ true
heading_code heading.Gone t e = cc
heading_code heading.Before t e = con_heading (con t) t refl e
heading_code (heading.Names k out) t e = var_heading k out (var t) t refl e

pub context_code : (c : Option ContextReader) (t : Token) → is_some (context_moved c t) ≡ true → member (code t) type_codes ≡ true
context_code None t e = cc
context_code (Some s) t e = from_some (some_place (a_context.move s t) e)
  where
    from_some : (r : ContextReader) × (a_context.move s t ≡ Some r) → member (code t) type_codes ≡ true
    from_some (r, d) = a_context_known.takes d
