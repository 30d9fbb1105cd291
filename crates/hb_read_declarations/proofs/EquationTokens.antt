-- Which tokens the reader of equations takes.
use Rattle.std.proofs.Common.{◌≡◌, ℕ, ◌+◌, Bool, true, false, cond, List, [], ◌∷◌, ◌++◌, length, Option, Some, None, is_some, refl, sym, ap, subst, ◌∙◌}
use Rattle.hb_base.specs.declared.place.Place.{Place}
use Rattle.hb_tokens.specs.declared.token.Token.{Token}
use Rattle.hb_tokens.specs.declared.token.TokenKind.{TokenKind}
use Rattle.hb_tokens.specs.declared.token.TokenKind.TheVariants as kinds
use Rattle.hb_tokens.specs.declared.word.Word.TheVariants as word
use Rattle.hb_read_patterns.specs.declared.node.PatNode.{PatNode}
use Rattle.hb_read_patterns.specs.declared.reader.PatReader.{PatReader}
use Rattle.hb_read_patterns.specs.Moves.{pat_reader, apat_reader, moved as pat_move, move_last}
use Rattle.hb_read_expressions.specs.declared.node.ExprNode.{ExprNode}
use Rattle.hb_read_expressions.specs.declared.sort.Sort.{Sort}
use Rattle.hb_read_expressions.specs.declared.sort.Sort.TheVariants as sort
use Rattle.hb_read_expressions.specs.declared.frame.Spot.{Spot}
use Rattle.hb_read_expressions.specs.declared.frame.Target.TheVariants.{Build, Update}
use Rattle.hb_read_expressions.specs.declared.frame.Frame.{Frame}
use Rattle.hb_read_expressions.specs.declared.frame.Frame.TheVariants as frame
use Rattle.hb_read_expressions.specs.declared.now.Purpose.{Purpose}
use Rattle.hb_read_expressions.specs.declared.now.Purpose.TheVariants.{ForLambda, ForRow, ForRight}
use Rattle.hb_read_expressions.specs.declared.now.Now.{Now}
use Rattle.hb_read_expressions.specs.declared.now.Now.TheVariants as now
use Rattle.hb_read_expressions.specs.Sorts.{sort_of}
use Rattle.hb_read_expressions.specs.Nodes.{put, wrapped}
use Rattle.hb_read_expressions.specs.declared.node.ExprNode.TheVariants as node
use Rattle.hb_read_expressions.specs.declared.state.State.{State}
use Rattle.hb_read_expressions.specs.declared.state.Core.{Core}
use Rattle.hb_read_expressions.specs.Moves.{moved, move_state, move_alone, done, equation_start}
use Rattle.hb_read_expressions.specs.States.{at, end_post, begun_of}
use Rattle.hb_read_expressions.specs.Outside.{move_core, after_post}
use Rattle.hb_read_expressions.specs.Inside.{move_row_left, move_bind_start, move_row_var, move_row_open, move_alt_start, with_pats, in_pattern, if_done}
use Rattle.hb_read_expressions.specs.Inside.{next_param, end_params, row_infix, alt_arrow, stmt_arrow}
use Rattle.hb_read_expressions.specs.Statements.{both, move_both, move_stmt_start}
use Rattle.hb_read_expressions.specs.Ends.{row_next, close_top, end_operand}
use Rattle.std.specs.Prelude.{◌==◌}
use Rattle.std.proofs.Common.{arith}
use Rattle.std.proofs.lemmas.Bool.Decides.{nat_tests}
use Rattle.hb_base.specs.declared.name.Name.{Name}
use Rattle.hb_tokens.specs.declared.word.Word as words
use Rattle.hb_read_patterns.specs.declared.sort.Sort.{Sort as PatSort}
use Rattle.hb_read_patterns.specs.declared.sort.Sort.TheVariants as pat_sort
use Rattle.hb_read_patterns.specs.Sorts.{sort_of as pat_sort_of}
use Rattle.hb_read_expressions.specs.Exactly.{goes_on}
use Rattle.hb_read_expressions.proofs.PatStops.{other_stops, start_other}
use Rattle.hb_read_expressions.proofs.Ending.{ends_before}
use Rattle.hb_read_expressions.proofs.Exactness.{equation_reader_is_exact}
use Rattle.hb_read_declarations.specs.Codes.{word_code, kind_code, code, or, member, not}
use Rattle.hb_read_declarations.proofs.Known.{some_none, equal_is}
use Rattle.hb_read_declarations.proofs.WorthLaws.{word_same, word_no_end}
use Rattle.hb_read_declarations.proofs.Equations.{EquationKnown, equation_codes, going_codes, outside_codes, inside}

-- `::` and the end are not taken

close_other : (fs : List Frame) (first stands : Place) (nodes : List ExprNode) → close_top fs first stands nodes sort.Other ≡ None
close_other [] first stands nodes = refl
close_other (frame.Bracket s p ∷ fs) first stands nodes = refl
close_other (f ∷ fs) first stands nodes = refl

after_other : (spot : Spot) (stands : Place) (fs : List Frame) (nodes : List ExprNode) (place : Place) → after_post spot stands fs nodes place sort.Other ≡ None
after_other spot stands fs nodes place = let e = end_operand fs (begun_of spot) stands (end_post spot stands nodes) in close_other e.frames e.first e.stands e.nodes

row_other : (fs : List Frame) (n : ℕ) (nodes : List ExprNode) → row_next fs n nodes sort.Other ≡ None
row_other [] n nodes = refl
row_other (f ∷ fs) n nodes = refl

core_other : (n : Now) (fs : List Frame) (nodes : List ExprNode) (place : Place) → move_core n fs nodes place sort.Other ≡ None
core_other (now.Post spot first stands) fs nodes place = after_other spot stands fs nodes place
core_other (now.Con spot p name) fs nodes place = after_other spot p fs (put nodes (node.Con p name)) place
core_other (now.Sealed spot stands) fs nodes place = after_other spot stands fs nodes place
core_other (now.Whole begun stands) fs nodes place = let e = end_operand fs begun stands nodes in close_other e.frames e.first e.stands e.nodes
core_other (now.FirstField spot first (Build con)) fs nodes place = refl
core_other (now.FirstField spot first Update) fs nodes place = refl
core_other (now.RowEnd n) fs nodes place = row_other fs n nodes
core_other n fs nodes place = refl

abbrev token_of : Place → TokenKind → Token
token_of place k = record { place = place; kind = k }

-- a token that no expression has outside its patterns, and no pattern
record IsOther (k : TokenKind) : Type 0 where
  outside : sort_of k ≡ sort.Other
  within : pat_sort_of k ≡ pat_sort.Other

pat_other : {k : TokenKind} (r : PatReader) (p : Place) → IsOther k → pat_move r (token_of p k) ≡ None
pat_other {k} r p o = other_stops r (token_of p k) o.within

done_none : (o : Option (List PatNode)) (f : List PatNode → Option State) → ((ns : List PatNode) → f ns ≡ None) → if_done o f ≡ None
done_none None f g = refl
done_none (Some ns) f g = g ns

pattern_none : (core : Core) (o : Option PatReader) (q : Option State) → o ≡ None → q ≡ None → in_pattern core o q ≡ None
pattern_none core o q d e = ap (λ o. in_pattern core o q) d ∙ e

next_other : {k : TokenKind} (purpose : Purpose) (n : ℕ) (fs : List Frame) (nodes : List ExprNode) (pats : PatReader) (p : Place) → IsOther k → next_param purpose n fs nodes pats (token_of p k) ≡ None
next_other (ForRight name place before) n fs nodes pats p o = ap (λ s. with_pats pats (end_params (ForRight name place before) n fs nodes s)) o.outside
next_other {k} (ForLambda begun place) n fs nodes pats p o =
    pattern_none (at fs (now.Param (ForLambda begun place) n) nodes) (pat_move apat_reader.start (token_of p k)) _ (pat_other apat_reader.start p o)
    (ap (λ s. with_pats pats (end_params (ForLambda begun place) n fs nodes s)) o.outside)
next_other {k} (ForRow name place before) n fs nodes pats p o =
    pattern_none (at fs (now.Param (ForRow name place before) n) nodes) (pat_move apat_reader.start (token_of p k)) _
    (pat_other apat_reader.start p o) (ap (λ s. with_pats pats (end_params (ForRow name place before) n fs nodes s)) o.outside)

left_other : {k : TokenKind} (before : ℕ) (place : Place) (fs : List Frame) (nodes : List ExprNode) (pats : PatReader) (p : Place) → IsOther k →
    move_row_left before place fs nodes pats (token_of p k) ≡ None
left_other {k} before place fs nodes pats p o =
    pattern_none (at fs (now.RowLeft before place) nodes) (pat_move pats (token_of p k)) _ (pat_other pats p o)
    (done_none (apat_reader.done pats) _ (λ ns. ap (λ s. with_pats pats (row_infix before place fs (nodes ++ wrapped ns) s)) o.outside))

start_none : {k : TokenKind} (core : Core) (r : PatReader) (p : Place) → IsOther k → in_pattern core (pat_move r (token_of p k)) None ≡ None
start_none {k} core r p o = pattern_none core (pat_move r (token_of p k)) None (pat_other r p o) refl

alone_other : {k : TokenKind} (n : Now) (fs : List Frame) (nodes : List ExprNode) (pats : PatReader) (p : Place) → IsOther k → move_alone n fs nodes pats (token_of p k) ≡ None
alone_other (now.ParamStart purpose n) fs nodes pats p o = start_none (at fs (now.Param purpose n) nodes) apat_reader.start p o
alone_other {k} (now.Param purpose n) fs nodes pats p o =
    pattern_none (at fs (now.Param purpose n) nodes) (pat_move pats (token_of p k)) _ (pat_other pats p o)
    (done_none (apat_reader.done pats) _ (λ ns. next_other purpose (n + 1) fs (nodes ++ wrapped ns) pats p o))
alone_other {k} (now.BindStart before) fs nodes pats p o = ap (move_bind_start before fs nodes pats (token_of p k)) o.outside ∙ start_none (at fs (now.RowLeft before p) nodes) apat_reader.start p o
alone_other {k} (now.RowVar before place name) fs nodes pats p o =
    ap (move_row_var before place name fs nodes pats (token_of p k)) o.outside ∙ next_other (ForRow name place before) 0 fs nodes pats p o
alone_other {k} (now.RowOpen before place) fs nodes pats p o = ap (move_row_open before place fs nodes pats (token_of p k)) o.outside ∙ left_other before place fs nodes pats p o
alone_other (now.RowName before place name) fs nodes pats p o = next_other (ForRow name place before) 0 fs nodes pats p o
alone_other (now.RowLeft before place) fs nodes pats p o = left_other before place fs nodes pats p o
alone_other {k} (now.AltStart begun place before) fs nodes pats p o =
    ap (move_alt_start begun place before fs nodes pats (token_of p k)) o.outside
    ∙ start_none (at fs (now.AltPat begun place before) nodes) pat_reader.start p o
alone_other {k} (now.AltPat begun place before) fs nodes pats p o =
    pattern_none (at fs (now.AltPat begun place before) nodes) (pat_move pats (token_of p k)) _ (pat_other pats p o)
    (done_none (pat_reader.done pats) _ (λ ns. ap (λ s. with_pats pats (alt_arrow begun place before fs (nodes ++ wrapped ns) s)) o.outside))
alone_other {k} (now.StmtStart begun place before may_end) fs nodes pats p o =
    ap (move_stmt_start begun place before may_end fs nodes pats (token_of p k)) o.outside
    ∙ ap (both (at (frame.Statement begun place before (length nodes) ∷ fs) now.Want nodes) None pat_reader.start) (pat_other pat_reader.start p o)
alone_other {k} (now.StmtPat begun place before) fs nodes pats p o =
    pattern_none (at fs (now.StmtPat begun place before) nodes) (pat_move pats (token_of p k)) _ (pat_other pats p o)
    (done_none (pat_reader.done pats) _ (λ ns. ap (λ s. with_pats pats (stmt_arrow begun place before fs (nodes ++ wrapped ns) s)) o.outside))
alone_other n fs nodes pats p o = ap (λ s. with_pats pats (move_core n fs nodes p s)) o.outside ∙ ap (with_pats pats) (core_other n fs nodes p)

both_other : {k : TokenKind} (core : Core) (pats : PatReader) (p : Place) → IsOther k → move_both core pats (token_of p k) sort.Other ≡ None
both_other {k} core pats p o = ap (λ c. both core c pats (pat_move pats (token_of p k))) (core_other core.last core.frames core.nodes p) ∙ ap (both core None pats) (pat_other pats p o)

state_other : {k : TokenKind} (side : Bool) (core : Core) (pats : PatReader) (p : Place) → IsOther k → move_state side core pats (token_of p k) ≡ None
state_other false core pats p o = alone_other core.last core.frames core.nodes pats p o
state_other {k} true core pats p o = ap (move_both core pats (token_of p k)) o.outside ∙ both_other core pats p o

other_refused : (s : State) (t : Token) → IsOther t.kind → moved s t ≡ None
unfolding moved
other_refused s t o = state_other s.beside s.core s.pats t.place o

colons_other : IsOther (kinds.Word word.DoubleColon)
colons_other = record { outside = refl; within = refl }

end_other : IsOther kinds.End
end_other = record { outside = refl; within = refl }

-- what an equation begins with

abbrev token_at : Place → TokenKind → Token
token_at p k = record { place = p; kind = k }

not_begun : {P : Type 0} (core : Core) (o : Option PatReader) → o ≡ None → is_some (in_pattern core o None) ≡ true → P
not_begun core None d e = cc
not_begun core (Some r) d e = cc

pat_word : (p : Place) (w : words.Word) → pat_move apat_reader.start (token_at p (kinds.Word w)) ≡ None
unfolding pat_move
pat_word p word.Bar = refl
pat_word p word.Equals = refl
pat_word p w = refl

abbrev begin_pat : Place → PatSort → Option PatReader
begin_pat p x = move_last apat_reader.start.last apat_reader.start.frames apat_reader.start.head apat_reader.start.nodes p x

pat_if : (p : Place) (b : Bool) (x y : PatSort) → begin_pat p x ≡ None → begin_pat p y ≡ None → begin_pat p (cond b x y) ≡ None
pat_if p true x y d e = d
pat_if p false x y d e = e

pat_rest : (p : Place) (b : Bool) (x y : PatSort) → b ≡ false → begin_pat p y ≡ None → begin_pat p (cond b x y) ≡ None
pat_rest p true x y d e = cc
pat_rest p false x y d e = e

pat_mark : (p : Place) (byte : ℕ) → (byte == 40) ≡ false → pat_move apat_reader.start (token_at p (kinds.Mark byte)) ≡ None
unfolding pat_move
pat_mark p byte e =
    pat_rest p (byte == 40) pat_sort.Open _ e
    (pat_if p (byte == 41) pat_sort.Close _ refl
    (pat_if p (byte == 44) pat_sort.Comma _ refl
    (pat_if p (byte == 91) pat_sort.OpenSquare _ refl
    (pat_if p (byte == 93) pat_sort.CloseSquare pat_sort.Other refl refl))))

abbrev begin_row : PatReader → Token → Sort → Option State
begin_row pats t x = move_bind_start 0 [] [] pats t x

row_if : {P : Type 0} (pats : PatReader) (t : Token) (b : Bool) (x y : Sort) → is_some (begin_row pats t (cond b x y)) ≡ true →
    (b ≡ true → is_some (begin_row pats t x) ≡ true → P) → (b ≡ false → is_some (begin_row pats t y) ≡ true → P) → P
row_if pats t true x y e f g = f refl e
row_if pats t false x y e f g = g refl e

mark_begins : (pats : PatReader) (p : Place) (byte : ℕ) → is_some (begin_row pats (token_at p (kinds.Mark byte)) (sort_of (kinds.Mark byte))) ≡ true → member (byte + 60) equation_codes ≡ true
mark_begins pats p byte e =
    let t = token_at p (kinds.Mark byte) in
    let core : Core = at [] (now.RowLeft 0 p) [] in
    row_if pats t (byte == 40) sort.Open _ e (λ d h. ap (λ b. member (b + 60) equation_codes) (equal_is byte 40 (byte == 40) refl d)) (λ n e.
    row_if pats t (byte == 41) sort.Close _ e (λ d h. not_begun core _ (pat_mark p byte n) h) (λ d e.
    row_if pats t (byte == 44) sort.Comma _ e (λ d h. not_begun core _ (pat_mark p byte n) h) (λ d e.
    row_if pats t (byte == 59) sort.Semicolon _ e (λ d h. cc) (λ d e.
    row_if pats t (byte == 91) sort.OpenSquare _ e (λ d h. not_begun core _ (pat_mark p byte n) h) (λ d e.
    row_if pats t (byte == 93) sort.CloseSquare _ e (λ d h. not_begun core _ (pat_mark p byte n) h) (λ d e.
    row_if pats t (byte == 96) sort.Backquote _ e (λ d h. not_begun core _ (pat_mark p byte n) h) (λ d e.
    row_if pats t (byte == 123) sort.OpenBrace _ e (λ d h. not_begun core _ (pat_mark p byte n) h) (λ d e.
    row_if pats t (byte == 125) sort.CloseBrace sort.Other e (λ d h. cc) (λ d h. not_begun core _ (pat_mark p byte n) h)))))))))

name_begins : (b : Bool) → member (cond b 1 0) equation_codes ≡ true
name_begins true = refl
name_begins false = refl

word_begins : {P : Type 0} (pats : PatReader) (p : Place) (w : words.Word) → is_some (begin_row pats (token_at p (kinds.Word w)) (sort_of (kinds.Word w))) ≡ true → P
word_begins pats p word.Equals e = not_begun (at [] (now.RowLeft 0 p) []) _ (pat_word p word.Equals) e
word_begins pats p word.Bar e = not_begun (at [] (now.RowLeft 0 p) []) _ (pat_word p word.Bar) e
word_begins pats p word.Backslash e = not_begun (at [] (now.RowLeft 0 p) []) _ (pat_word p word.Backslash) e
word_begins pats p word.RightArrow e = not_begun (at [] (now.RowLeft 0 p) []) _ (pat_word p word.RightArrow) e
word_begins pats p word.LeftArrow e = not_begun (at [] (now.RowLeft 0 p) []) _ (pat_word p word.LeftArrow) e
word_begins pats p word.Let e = not_begun (at [] (now.RowLeft 0 p) []) _ (pat_word p word.Let) e
word_begins pats p word.In e = not_begun (at [] (now.RowLeft 0 p) []) _ (pat_word p word.In) e
word_begins pats p word.If e = not_begun (at [] (now.RowLeft 0 p) []) _ (pat_word p word.If) e
word_begins pats p word.Then e = not_begun (at [] (now.RowLeft 0 p) []) _ (pat_word p word.Then) e
word_begins pats p word.Else e = not_begun (at [] (now.RowLeft 0 p) []) _ (pat_word p word.Else) e
word_begins pats p word.Case e = not_begun (at [] (now.RowLeft 0 p) []) _ (pat_word p word.Case) e
word_begins pats p word.Of e = not_begun (at [] (now.RowLeft 0 p) []) _ (pat_word p word.Of) e
word_begins pats p word.Do e = not_begun (at [] (now.RowLeft 0 p) []) _ (pat_word p word.Do) e
word_begins pats p word.Where e = not_begun (at [] (now.RowLeft 0 p) []) _ (pat_word p word.Where) e
word_begins pats p w e = not_begun (at [] (now.RowLeft 0 p) []) _ (pat_word p w) e

kind_begins : (pats : PatReader) (p : Place) (k : TokenKind) → is_some (begin_row pats (token_at p k) (sort_of k)) ≡ true → member (kind_code k) equation_codes ≡ true
kind_begins pats p (kinds.VarId name) e = name_begins (name.0 == 70)
kind_begins pats p (kinds.ConId name) e = refl
kind_begins pats p (kinds.Op name) e = not_begun (at [] (now.RowLeft 0 p) []) _ (start_other (token_at p (kinds.Op name)) refl) e
kind_begins pats p (kinds.Word w) e = word_begins pats p w e
kind_begins pats p (kinds.Number k) e = refl
kind_begins pats p (kinds.Bits width k) e = refl
kind_begins pats p (kinds.Mark byte) e = mark_begins pats p byte e
kind_begins pats p kinds.Dot e = not_begun (at [] (now.RowLeft 0 p) []) _ (start_other (token_at p kinds.Dot) refl) e
kind_begins pats p kinds.End e = not_begun (at [] (now.RowLeft 0 p) []) _ (start_other (token_at p kinds.End) refl) e

pub equation_begins : (pats : PatReader) (t : Token) {r : State} → moved (equation_start pats) t ≡ Some r → member (code t) equation_codes ≡ true
unfolding moved
equation_begins pats t e = kind_begins pats t.place t.kind (ap is_some e)

-- what goes on with a whole equation

goes_if : {P : Type 0} (b : Bool) (x y : Sort) → goes_on (cond b x y) ≡ true → (b ≡ true → goes_on x ≡ true → P) → (goes_on y ≡ true → P) → P
goes_if true x y e f g = f refl e
goes_if false x y e f g = g e

name_goes : (name : Name) (b : Bool) → goes_on (cond b sort.Other (sort.Variable name)) ≡ true → member (cond b 1 0) going_codes ≡ true
name_goes name true e = cc
name_goes name false e = refl

at_byte : (byte m : ℕ) → (byte == m) ≡ true → member (m + 60) going_codes ≡ true → member (byte + 60) going_codes ≡ true
at_byte byte m d e = ap (λ b. member (b + 60) going_codes) (equal_is byte m (byte == m) refl d) ∙ e

mark_goes : (byte : ℕ) → goes_on (sort_of (kinds.Mark byte)) ≡ true → member (byte + 60) going_codes ≡ true
mark_goes byte e =
    goes_if (byte == 40) sort.Open _ e (λ d h. at_byte byte 40 d refl) (λ e.
    goes_if (byte == 41) sort.Close _ e (λ d h. cc) (λ e.
    goes_if (byte == 44) sort.Comma _ e (λ d h. cc) (λ e.
    goes_if (byte == 59) sort.Semicolon _ e (λ d h. cc) (λ e.
    goes_if (byte == 91) sort.OpenSquare _ e (λ d h. at_byte byte 91 d refl) (λ e.
    goes_if (byte == 93) sort.CloseSquare _ e (λ d h. cc) (λ e.
    goes_if (byte == 96) sort.Backquote _ e (λ d h. at_byte byte 96 d refl) (λ e.
    goes_if (byte == 123) sort.OpenBrace _ e (λ d h. cc) (λ e.
    goes_if (byte == 125) sort.CloseBrace sort.Other e (λ d h. cc) (λ h. cc)))))))))

word_goes : (w : words.Word) → goes_on (sort_of (kinds.Word w)) ≡ true → member (word_code w) going_codes ≡ true
word_goes word.Where e = refl
word_goes word.Equals e = cc
word_goes word.Bar e = cc
word_goes word.Backslash e = cc
word_goes word.RightArrow e = cc
word_goes word.LeftArrow e = cc
word_goes word.Let e = cc
word_goes word.In e = cc
word_goes word.If e = cc
word_goes word.Then e = cc
word_goes word.Else e = cc
word_goes word.Case e = cc
word_goes word.Of e = cc
word_goes word.Do e = cc
word_goes w e = cc

kind_goes : (k : TokenKind) → goes_on (sort_of k) ≡ true → member (kind_code k) going_codes ≡ true
kind_goes (kinds.VarId name) e = name_goes name (name.0 == 70) e
kind_goes (kinds.ConId name) e = refl
kind_goes (kinds.Op name) e = refl
kind_goes (kinds.Word w) e = word_goes w e
kind_goes (kinds.Number k) e = refl
kind_goes (kinds.Bits width k) e = refl
kind_goes (kinds.Mark byte) e = mark_goes byte e
kind_goes kinds.Dot e = refl
kind_goes kinds.End e = cc

goes_by : (b : Bool) {P : Type 0} → (b ≡ false → ⊥) → (b ≡ true → P) → P
goes_by true f g = g refl
goes_by false f g = absurd (f refl)

pub equation_ends : (s r : State) (t : Token) {nodes : List ExprNode} → done s ≡ Some nodes → moved s t ≡ Some r → member (code t) going_codes ≡ true
equation_ends s r t {nodes} d e = goes_by (goes_on (sort_of t.kind)) (λ g. some_none e (ends_before s nodes d t g)) (λ g. kind_goes t.kind g)

-- all that is known of it

outside_kind : (k : TokenKind) (b : Bool) → member (kind_code k) outside_codes ≡ b → (IsOther k → ⊥) → b ≡ false
outside_kind k false e f = refl
outside_kind (kinds.VarId name) true e f = name_outside (name.0 == 70) e
  where
    name_outside : (b : Bool) → member (cond b 1 0) outside_codes ≡ true → true ≡ false
    name_outside true e = cc
    name_outside false e = cc
outside_kind (kinds.ConId name) true e f = cc
outside_kind (kinds.Op name) true e f = cc
outside_kind (kinds.Word w) true e f = absurd (f (subst IsOther (ap kinds.Word (sym (word_same w word.DoubleColon (equal_codes (word_code w == 43) (word_code w == 7) refl e)))) colons_other))
  where
    equal_codes : (b c : Bool) → (word_code w == 7) ≡ c → or b (or c false) ≡ true → b ≡ true
    equal_codes true c d e = refl
    equal_codes false true d e = absurd (word_no_end w d)
    equal_codes false false d e = cc
outside_kind (kinds.Number k) true e f = cc
outside_kind (kinds.Bits width k) true e f = cc
outside_kind (kinds.Mark byte) true e f = absurd (no_mark ((byte + 60) == 43) ((byte + 60) == 7) refl refl e)
  where
    no_mark : (b c : Bool) → ((byte + 60) == 43) ≡ b → ((byte + 60) == 7) ≡ c → or b (or c false) ≡ true → ⊥
    no_mark true c d e h = grind (arith, nat_tests, d)
    no_mark false true d e h = grind (arith, nat_tests, e)
    no_mark false false d e h = cc
outside_kind kinds.Dot true e f = cc
outside_kind kinds.End true e f = absurd (f end_other)

not_false : (b : Bool) → b ≡ false → not b ≡ true
not_false false e = refl
not_false true e = cc

pub equation_takes : (s r : State) (t : Token) → moved s t ≡ Some r → inside (code t) ≡ true
equation_takes s r t e = not_false (member (code t) outside_codes) (outside_kind t.kind (member (code t) outside_codes) refl (λ o. some_none e (other_refused s t o)))

equation_nothing : (pats : PatReader) → is_some (done (equation_start pats)) ≡ false
unfolding done
equation_nothing pats = refl

pub equation_known : (pats : PatReader) → EquationKnown pats
equation_known pats = record {
  exact = equation_reader_is_exact pats;
  begins = λ {r} {t} e. equation_begins pats t e;
  ends = λ {s} {r} {t} h d e. equation_ends s r t d e;
  takes = λ {s} {r} {t} e. equation_takes s r t e;
  nothing = equation_nothing pats;
}
