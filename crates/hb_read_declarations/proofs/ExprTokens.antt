-- What the reader of expressions begins with, and all that is known of it.
use Rattle.std.proofs.Common.{◌≡◌, ℕ, ◌+◌, Bool, true, false, cond, List, [], ◌∷◌, Option, Some, is_some, refl, ap}
use Rattle.std.specs.Prelude.{◌==◌}
use Rattle.hb_base.specs.declared.name.Name.{Name}
use Rattle.hb_base.specs.declared.place.Place.{Place}
use Rattle.hb_tokens.specs.declared.token.Token.{Token}
use Rattle.hb_tokens.specs.declared.token.TokenKind.{TokenKind}
use Rattle.hb_tokens.specs.declared.token.TokenKind.TheVariants as kinds
use Rattle.hb_tokens.specs.declared.word.Word as words
use Rattle.hb_tokens.specs.declared.word.Word.TheVariants as word
use Rattle.hb_tree.specs.Expressions.{Expr}
use Rattle.hb_grammar.specs.Expressions.{ReadsExpr}
use Rattle.hb_read_patterns.specs.declared.reader.PatReader.{PatReader}
use Rattle.hb_read_expressions.specs.declared.node.ExprNode.{ExprNode}
use Rattle.hb_read_expressions.specs.declared.sort.Sort.{Sort}
use Rattle.hb_read_expressions.specs.declared.sort.Sort.TheVariants as sort
use Rattle.hb_read_expressions.specs.Sorts.{sort_of}
use Rattle.hb_read_expressions.specs.Nodes.{expr_nodes}
use Rattle.hb_read_expressions.specs.Exactly.{ExprOf}
use Rattle.hb_read_expressions.specs.declared.state.State.{State}
use Rattle.hb_read_expressions.specs.Moves.{moved, done, expr_start, expr_reader}
use Rattle.hb_read_expressions.specs.Inside.{with_pats}
use Rattle.hb_read_expressions.specs.Outside.{begin as begin_expr}
use Rattle.hb_read_expressions.proofs.Exactness.{expr_reader_is_exact}
use Rattle.hb_read_declarations.specs.Codes.{kind_code, code, member}
use Rattle.hb_read_declarations.specs.Nodes.{valued}
use Rattle.hb_read_declarations.specs.Readers.{Out, an_expr}
use Rattle.hb_read_declarations.proofs.Known.{Known, equal_is, known_by}
use Rattle.hb_read_declarations.proofs.MappedLaws.{worth_known}
use Rattle.hb_read_declarations.specs.Exactly.{Made}
use Rattle.hb_read_declarations.proofs.Equations.{going_codes, inside}
use Rattle.hb_read_declarations.proofs.EquationTokens.{equation_ends, equation_takes}

-- what an expression begins with
abbrev pub expr_codes : List ℕ
expr_codes = 0 ∷ 2 ∷ 4 ∷ 5 ∷ 100 ∷ 45 ∷ 21 ∷ 26 ∷ 25 ∷ 23 ∷ []

abbrev expr_begun : PatReader → Place → Sort → Option State
expr_begun pats p x = with_pats pats (begin_expr [] [] p x)

begun_if : {P : Type 0} (pats : PatReader) (p : Place) (b : Bool) (x y : Sort) → is_some (expr_begun pats p (cond b x y)) ≡ true →
    (b ≡ true → is_some (expr_begun pats p x) ≡ true → P) → (is_some (expr_begun pats p y) ≡ true → P) → P
begun_if pats p true x y e f g = f refl e
begun_if pats p false x y e f g = g e

name_begun : (pats : PatReader) (p : Place) (name : Name) (b : Bool) → is_some (expr_begun pats p (cond b sort.Other (sort.Variable name))) ≡ true → member (cond b 1 0) expr_codes ≡ true
name_begun pats p name true e = cc
name_begun pats p name false e = refl

mark_begun : (pats : PatReader) (p : Place) (byte : ℕ) → is_some (expr_begun pats p (sort_of (kinds.Mark byte))) ≡ true → member (byte + 60) expr_codes ≡ true
mark_begun pats p byte e =
    begun_if pats p (byte == 40) sort.Open _ e (λ d h. ap (λ b. member (b + 60) expr_codes) (equal_is byte 40 (byte == 40) refl d)) (λ e.
    begun_if pats p (byte == 41) sort.Close _ e (λ d h. cc) (λ e.
    begun_if pats p (byte == 44) sort.Comma _ e (λ d h. cc) (λ e.
    begun_if pats p (byte == 59) sort.Semicolon _ e (λ d h. cc) (λ e.
    begun_if pats p (byte == 91) sort.OpenSquare _ e (λ d h. cc) (λ e.
    begun_if pats p (byte == 93) sort.CloseSquare _ e (λ d h. cc) (λ e.
    begun_if pats p (byte == 96) sort.Backquote _ e (λ d h. cc) (λ e.
    begun_if pats p (byte == 123) sort.OpenBrace _ e (λ d h. cc) (λ e.
    begun_if pats p (byte == 125) sort.CloseBrace sort.Other e (λ d h. cc) (λ h. cc)))))))))

word_begun : (pats : PatReader) (p : Place) (w : words.Word) → is_some (expr_begun pats p (sort_of (kinds.Word w))) ≡ true → member (kind_code (kinds.Word w)) expr_codes ≡ true
word_begun pats p word.Backslash e = refl
word_begun pats p word.Let e = refl
word_begun pats p word.If e = refl
word_begun pats p word.Case e = refl
word_begun pats p word.Do e = refl
word_begun pats p word.Equals e = cc
word_begun pats p word.Bar e = cc
word_begun pats p word.RightArrow e = cc
word_begun pats p word.LeftArrow e = cc
word_begun pats p word.In e = cc
word_begun pats p word.Then e = cc
word_begun pats p word.Else e = cc
word_begun pats p word.Of e = cc
word_begun pats p word.Where e = cc
word_begun pats p w e = cc

kind_begun : (pats : PatReader) (p : Place) (k : TokenKind) → is_some (expr_begun pats p (sort_of k)) ≡ true → member (kind_code k) expr_codes ≡ true
kind_begun pats p (kinds.VarId name) e = name_begun pats p name (name.0 == 70) e
kind_begun pats p (kinds.ConId name) e = refl
kind_begun pats p (kinds.Op name) e = cc
kind_begun pats p (kinds.Word w) e = word_begun pats p w e
kind_begun pats p (kinds.Number k) e = refl
kind_begun pats p (kinds.Bits width k) e = refl
kind_begun pats p (kinds.Mark byte) e = mark_begun pats p byte e
kind_begun pats p kinds.Dot e = cc
kind_begun pats p kinds.End e = cc

-- the reader of expressions: what it begins with, and all that is known of it

expr_begins : (pats : PatReader) (t : Token) {r : State} → moved (expr_start pats) t ≡ Some r → member (code t) expr_codes ≡ true
unfolding moved
expr_begins pats t e = kind_begun pats t.place t.kind (ap is_some e)

expr_nothing : (pats : PatReader) → is_some (done (expr_start pats)) ≡ false
unfolding done
expr_nothing pats = refl

expr_known : (pats : PatReader) → Known (expr_reader pats) ExprOf false expr_codes (λ c. member c going_codes) inside
expr_known pats = record {
  exact = expr_reader_is_exact pats;
  begins = λ {r} {t} e. expr_begins pats t e;
  ends = λ {s} {r} {t} h d e. equation_ends s r t d e;
  takes = λ {s} {r} {t} e. equation_takes s r t e;
  nothing = expr_nothing pats;
}

expr_made : {ts us : List Token} {v : List ExprNode} → ExprOf ts v us → Made ReadsExpr expr_nodes ts v us
expr_made h = record { thing = h.expr; read = h.reads; is = h.is }

made_expr : {ts us : List Token} {v : List ExprNode} → Made ReadsExpr expr_nodes ts v us → ExprOf ts v us
made_expr h = record { expr = h.thing; reads = h.read; is = h.is }

-- the same with the nodes of declarations

abbrev pub expr_of : Expr → Out
expr_of e = valued (expr_nodes e)

abbrev pub Exprs : List Token → Out → List Token → Type 0
Exprs = Made ReadsExpr expr_of

pub an_expr_known : (pats : PatReader) → Known (an_expr pats) Exprs false expr_codes (λ c. member c going_codes) inside
an_expr_known pats =
    worth_known expr_nodes valued (known_by (λ ts v us h. expr_made h) (λ ts v us h. made_expr h) (expr_known pats))
