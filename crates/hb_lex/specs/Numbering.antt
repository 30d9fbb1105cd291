-- The tokens of a source, in which each name is its number in the table.
use Rattle.std.specs.Prelude.{◌≡◌, ℕ, List, [], ◌∷◌, ◌++◌, slice_get, Option, Some, None, IfSome}
use Rattle.hb_base.specs.declared.place.Place.{Place}
use Rattle.hb_tokens.specs.declared.token.Token.{Token}
use Rattle.hb_tokens.specs.declared.token.TokenKind.{TokenKind}
use Rattle.hb_tokens.specs.declared.token.TokenKind.TheVariants.{VarId as VarIdKind, ConId as ConIdKind, Op as OpKind, Word as WordKind, Number as NumberKind, Bits as BitsKind, Mark as MarkKind, Dot as DotKind, End as EndKind}
use Rattle.hb_lex.specs.declared.piece.Shape.{Shape}
use Rattle.hb_lex.specs.declared.piece.Shape.TheVariants.{VarId, ConId, Op, Word, Number, Bits, Mark, Dot, End}
use Rattle.hb_lex.specs.Tokens.{Lexeme, Spells}

abbrev pub shape_of : TokenKind → Shape
shape_of (VarIdKind name) = VarId
shape_of (ConIdKind name) = ConId
shape_of (OpKind name) = Op
shape_of (WordKind word) = Word word
shape_of (NumberKind value) = Number value
shape_of (BitsKind width value) = Bits width value
shape_of (MarkKind c) = Mark c
shape_of DotKind = Dot
shape_of EndKind = End

-- the number of the name in a token, where it has one
abbrev pub name_of : TokenKind → Option ℕ
name_of (VarIdKind name) = Some name.0
name_of (ConIdKind name) = Some name.0
name_of (OpKind name) = Some name.0
name_of (WordKind word) = None
name_of (NumberKind value) = None
name_of (BitsKind width value) = None
name_of (MarkKind c) = None
name_of DotKind = None
name_of EndKind = None

-- the token of a lexeme: its name stands for its text
pub record IsNumbered (names : List (List ℕ)) (l : Lexeme) (t : Token) : Type 0 where
  pub place : t.place ≡ l.place
  pub shape : shape_of t.kind ≡ l.shape
  pub name : IfSome (name_of t.kind) (λ n. slice_get names n ≡ Some l.text)

-- one token for each lexeme, in their order
abbrev pub AreNumbered : List (List ℕ) → List Lexeme → List Token → Type 0
AreNumbered names [] [] = Unit {0}
AreNumbered names [] (t ∷ ts) = ⊥
AreNumbered names (l ∷ ls) [] = ⊥
AreNumbered names (l ∷ ls) (t ∷ ts) = IsNumbered names l t × AreNumbered names ls ts

-- the text of a name
abbrev pub name_text : Shape → List ℕ → List (List ℕ)
name_text VarId text = text ∷ []
name_text ConId text = text ∷ []
name_text Op text = text ∷ []
name_text (Word word) text = []
name_text (Number value) text = []
name_text (Bits width value) text = []
name_text (Mark c) text = []
name_text Dot text = []
name_text End text = []

-- the texts of the names among lexemes, in their order
abbrev pub texts_of : List Lexeme → List (List ℕ)
texts_of [] = []
texts_of (l ∷ ls) = name_text l.shape l.text ++ texts_of ls

-- the bytes spell these tokens
pub record Found (bytes : List ℕ) (names : List (List ℕ)) (tokens : List Token) : Type 0 where
  pub lexemes : List Lexeme
  pub spells : Spells bytes lexemes
  pub numbered : AreNumbered names lexemes tokens

-- the last token is the end, at this place
abbrev pub EndsAt : Place → List Token → Type 0
EndsAt place tokens = (before : List Token) × (tokens ≡ before ++ (record { place = place; kind = EndKind }) ∷ [])

-- the old names keep their numbers
abbrev pub Extends : List (List ℕ) → List (List ℕ) → Type 0
Extends old new = (added : List (List ℕ)) × (new ≡ old ++ added)
