-- The same bytes spell the same tokens, over the same table.
use Rattle.std.proofs.Common.{◌≡◌, ℕ, Bool, zero, suc, true, false, List, [], ◌∷◌, slice_get, Option, Some, refl, sym, ap, subst, ◌∙◌}
use Rattle.std.specs.Prelude.{IfSome}
use Rattle.std.specs.List.{IsDistinct, AllByRecursion}
use Rattle.std.specs.Str.{bytes_eq}
use Rattle.std.proofs.lemmas.Slice.Eq.{bytes_eq-Decides}
use Rattle.hb_base.specs.Names.{AreDistinct, with_texts}
use Rattle.hb_base.specs.declared.name.Name.{Name}
use Rattle.hb_tokens.specs.declared.token.Token.{Token}
use Rattle.hb_tokens.specs.declared.token.TokenKind.{TokenKind}
use Rattle.hb_tokens.specs.declared.token.TokenKind.TheVariants as kind
use Rattle.hb_base.specs.declared.place.Place.{Place}
use Rattle.hb_lex.specs.declared.piece.Shape.{Shape}
use Rattle.hb_lex.specs.declared.piece.Shape.TheVariants as shape
use Rattle.hb_lex.specs.Tokens.{Lexeme, Spells, Found}
use Rattle.hb_lex.specs.Numbering.{Found as IsFound, shape_of, name_of, IsNumbered, AreNumbered, texts_of}
use Rattle.hb_lex.proofs.TokensLaws.{one_answer}
use Rattle.hb_layout.specs.Laid.{given, Laid}
use Rattle.hb_tree.specs.declared.declaration.Program.{Program}
use Rattle.hb_parser.specs.Parsing.{Parses}
use Rattle.hb_front.specs.Front.{SpellsTokens, LaysOut, SpellsProgram}

-- a text that stands at a place of a table of distinct texts stands at no other

apart_from : (text : List ℕ) (texts : List (List ℕ)) (i : ℕ) → AllByRecursion (λ t. bytes_eq text t ≡ false) texts → slice_get texts i ≡ Some text → ⊥
apart_from text [] i apart e = cc
apart_from text (t ∷ texts) zero apart e = differs (sym apart.0 ∙ (bytes_eq-Decides text t).1 (some_is (sym e)))
  where
    some_is : {A : Type 0} {a b : A} → Some a ≡ Some b → a ≡ b
    some_is e = cc

    differs : false ≡ true → ⊥
    differs e = cc
apart_from text (t ∷ texts) (suc i) apart e = apart_from text texts i apart.1 e

same_apart : (t text : List ℕ) (texts : List (List ℕ)) (i : ℕ) → Some t ≡ Some text → AllByRecursion (λ u. bytes_eq t u ≡ false) texts → slice_get texts i ≡ Some text → ⊥
same_apart t text texts i d apart e = apart_from t texts i apart (e ∙ sym d)

pub text_once : (texts : List (List ℕ)) (text : List ℕ) (i j : ℕ) → AreDistinct texts → slice_get texts i ≡ Some text → slice_get texts j ≡ Some text → i ≡ j
unfolding IsDistinct
text_once [] text i j distinct d e = cc
text_once (t ∷ texts) text zero zero distinct d e = refl
text_once (t ∷ texts) text zero (suc j) distinct d e = absurd (same_apart t text texts j d distinct.0 e)
text_once (t ∷ texts) text (suc i) zero distinct d e = absurd (same_apart t text texts i e distinct.0 d)
text_once (t ∷ texts) text (suc i) (suc j) distinct d e = ap suc (text_once texts text i j distinct.1 d e)

-- so a lexeme is one token

abbrev has_name : Shape → Bool
has_name shape.VarId = true
has_name shape.ConId = true
has_name shape.Op = true
has_name s = false

-- the number of a token's name, and 0 where it has none
abbrev number_of : TokenKind → ℕ
number_of (kind.VarId name) = name.0
number_of (kind.ConId name) = name.0
number_of (kind.Op name) = name.0
number_of k = 0

abbrev a_name : ℕ → Name
a_name n = record { 0 = n }

abbrev kind_from : Shape → ℕ → TokenKind
kind_from shape.VarId n = kind.VarId (a_name n)
kind_from shape.ConId n = kind.ConId (a_name n)
kind_from shape.Op n = kind.Op (a_name n)
kind_from (shape.Word word) n = kind.Word word
kind_from (shape.Number k) n = kind.Number k
kind_from (shape.Bits width k) n = kind.Bits width k
kind_from (shape.Mark c) n = kind.Mark c
kind_from shape.Dot n = kind.Dot
kind_from shape.End n = kind.End

kind_again : (k : TokenKind) → kind_from (shape_of k) (number_of k) ≡ k
kind_again (kind.VarId name) = refl
kind_again (kind.ConId name) = refl
kind_again (kind.Op name) = refl
kind_again (kind.Word word) = refl
kind_again (kind.Number k) = refl
kind_again (kind.Bits width k) = refl
kind_again (kind.Mark c) = refl
kind_again kind.Dot = refl
kind_again kind.End = refl

data IsNumberOf (names : List (List ℕ)) (text : List ℕ) (k : TokenKind) : Type 0 where
  named : has_name (shape_of k) ≡ true → slice_get names (number_of k) ≡ Some text → IsNumberOf names text k
  bare : has_name (shape_of k) ≡ false → number_of k ≡ 0 → IsNumberOf names text k

number_is : {names : List (List ℕ)} {text : List ℕ} (k : TokenKind) → IfSome (name_of k) (λ n. slice_get names n ≡ Some text) → IsNumberOf names text k
number_is (kind.VarId name) e = named refl e
number_is (kind.ConId name) e = named refl e
number_is (kind.Op name) e = named refl e
number_is (kind.Word word) e = bare refl refl
number_is (kind.Number k) e = bare refl refl
number_is (kind.Bits width k) e = bare refl refl
number_is (kind.Mark c) e = bare refl refl
number_is kind.Dot e = bare refl refl
number_is kind.End e = bare refl refl

true_false : {b : Bool} → b ≡ true → b ≡ false → ⊥
true_false d e = cc

number_once : {names : List (List ℕ)} {text : List ℕ} {k m : TokenKind} → AreDistinct names → shape_of k ≡ shape_of m → IsNumberOf names text k → IsNumberOf names text m → number_of k ≡ number_of m
number_once {names} {text} {k} {m} distinct e (named d f) (named g h) = text_once names text (number_of k) (number_of m) distinct f h
number_once distinct e (named d f) (bare g h) = absurd (true_false (sym (ap has_name e) ∙ d) g)
number_once distinct e (bare d f) (named g h) = absurd (true_false (ap has_name e ∙ g) d)
number_once distinct e (bare d f) (bare g h) = f ∙ sym h

kind_once : {names : List (List ℕ)} {text : List ℕ} (k m : TokenKind) → AreDistinct names → shape_of k ≡ shape_of m → IsNumberOf names text k → IsNumberOf names text m → k ≡ m
kind_once k m distinct e f g = sym (kind_again k) ∙ (ap (λ s. kind_from s (number_of k)) e ∙ ap (kind_from (shape_of m)) (number_once distinct e f g)) ∙ kind_again m

abbrev token_at : Place → TokenKind → Token
token_at p k = record { place = p; kind = k }

token_is : (t u : Token) → t.place ≡ u.place → t.kind ≡ u.kind → t ≡ u
token_is t u d e = ap (λ p. token_at p t.kind) d ∙ ap (token_at u.place) e

token_once : {names : List (List ℕ)} {l : Lexeme} {t u : Token} → AreDistinct names → IsNumbered names l t → IsNumbered names l u → t ≡ u
token_once {t} {u} distinct a b = token_is t u (a.place ∙ sym b.place) (kind_once t.kind u.kind distinct (a.shape ∙ sym b.shape) (number_is t.kind a.name) (number_is u.kind b.name))

both_same : {A : Type 0} {x y : A} {xs ys : List A} → x ≡ y → xs ≡ ys → x ∷ xs ≡ y ∷ ys
both_same d e = cc

tokens_once : (names : List (List ℕ)) (ls : List Lexeme) (ts us : List Token) → AreDistinct names → AreNumbered names ls ts → AreNumbered names ls us → ts ≡ us
tokens_once names [] [] [] distinct a b = refl
tokens_once names (l ∷ ls) (t ∷ ts) (u ∷ us) distinct a b = both_same (token_once distinct a.0 b.0) (tokens_once names ls ts us distinct a.1 b.1)
tokens_once names [] [] (u ∷ us) distinct a b = absurd b
tokens_once names [] (t ∷ ts) us distinct a b = absurd a
tokens_once names (l ∷ ls) [] us distinct a b = absurd a
tokens_once names (l ∷ ls) (t ∷ ts) [] distinct a b = absurd b

-- bytes spell one list of lexemes, and so one list of tokens over one table

found_is : {ls ms : List Lexeme} → Found ls ≡ Found ms → ls ≡ ms
found_is e = cc

lexemes_once : {bytes : List ℕ} {ls ms : List Lexeme} → Spells bytes ls → Spells bytes ms → ls ≡ ms
lexemes_once {ms} a b = found_is (one_answer a.gives (Found ms) b.gives)

pub spelled_once : {old : List (List ℕ)} {bytes : List ℕ} {names table : List (List ℕ)} {ts us : List Token} → AreDistinct names → SpellsTokens old bytes names ts → SpellsTokens old bytes table us → (ts ≡ us) × (names ≡ table)
spelled_once {old} {names} {table} {ts} {us} distinct a b =
    let same : a.lexemes ≡ b.lexemes = lexemes_once a.spells b.spells in
    let tables : names ≡ table = a.table ∙ (ap (λ ls. with_texts old (texts_of ls)) same ∙ sym b.table) in
    let numbered : AreNumbered names a.lexemes us = subst (λ ls. AreNumbered names ls us) (sym same) (subst (λ ns. AreNumbered ns b.lexemes us) (sym tables) b.numbered) in
    (tokens_once names a.lexemes ts us distinct a.numbered numbered, tables)

given_is : {ts us : List Token} {p : Option Place} → given ts p ≡ given us p → ts ≡ us
given_is e = cc

laid_once : {ts us vs : List Token} → Laid ts us → Laid ts vs → us ≡ vs
laid_once a b = given_is (sym a.rules ∙ b.rules)

pub spelled_by : {old : List (List ℕ)} {bytes : List ℕ} {names : List (List ℕ)} {ts : List Token} → IsFound bytes names ts → ((ls : List Lexeme) → Spells bytes ls → names ≡ with_texts old (texts_of ls)) → SpellsTokens old bytes names ts
spelled_by found table = record { lexemes = found.lexemes; spells = found.spells; table = table found.lexemes found.spells; numbered = found.numbered }

-- what is laid out is spelled, and laid out once

pub laid_is_spelled : {old : List (List ℕ)} {bytes : List ℕ} {table : List (List ℕ)} {laid : List Token} {P : Type 0} → ((table : List (List ℕ)) (ts : List Token) → SpellsTokens old bytes table ts → P) → LaysOut old bytes table laid → P
laid_is_spelled {table} only other = only table other.tokens other.spelled

pub laid_only : {old : List (List ℕ)} {bytes : List ℕ} {names table : List (List ℕ)} {tokens laid : List Token} {P : Type 0} → ((table : List (List ℕ)) (ts : List Token) → SpellsTokens old bytes table ts → (tokens ≡ ts) × (names ≡ table)) → ((us : List Token) → Laid tokens us → P) → LaysOut old bytes table laid → P
laid_only {table} {laid} spelled only other =
    let same = spelled table other.tokens other.spelled in
    only laid (subst (λ ts. Laid ts laid) (sym same.0) other.rules)

pub laid_answer : {old : List (List ℕ)} {bytes : List ℕ} {names table : List (List ℕ)} {tokens answer laid : List Token} → ((table : List (List ℕ)) (ts : List Token) → SpellsTokens old bytes table ts → (tokens ≡ ts) × (names ≡ table)) → Laid tokens answer → LaysOut old bytes table laid → (answer ≡ laid) × (names ≡ table)
laid_answer {table} {answer} spelled found other =
    let same = spelled table other.tokens other.spelled in
    (laid_once (subst (λ ts. Laid ts answer) same.0 found) other.rules, same.1)

-- what is parsed is laid out, and parsed once

pub parsed_is_laid : {old : List (List ℕ)} {bytes : List ℕ} {table : List (List ℕ)} {p : Program} {P : Type 0} → ((table : List (List ℕ)) (ts : List Token) → LaysOut old bytes table ts → P) → SpellsProgram old bytes table p → P
parsed_is_laid {table} only other = only table other.laid other.lays_out

pub parsed_only : {old : List (List ℕ)} {bytes : List ℕ} {names table : List (List ℕ)} {laid : List Token} {p : Program} {P : Type 0} → ((table : List (List ℕ)) (ts : List Token) → LaysOut old bytes table ts → (laid ≡ ts) × (names ≡ table)) → ((q : Program) → Parses laid q → P) → SpellsProgram old bytes table p → P
parsed_only {table} {p} once only other =
    let same = once table other.laid other.lays_out in
    only p (subst (λ ts. Parses ts p) (sym same.0) other.parses)

pub parsed_answer : {old : List (List ℕ)} {bytes : List ℕ} {names table : List (List ℕ)} {laid : List Token} {answer p : Program} → ((table : List (List ℕ)) (ts : List Token) → LaysOut old bytes table ts → (laid ≡ ts) × (names ≡ table)) → ((q : Program) → Parses laid q → answer ≡ q) → SpellsProgram old bytes table p → (answer ≡ p) × (names ≡ table)
parsed_answer {table} {p} once only other =
    let same = once table other.laid other.lays_out in
    (only p (subst (λ ts. Parses ts p) (sym same.0) other.parses), same.1)
