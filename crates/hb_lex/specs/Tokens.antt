-- Which tokens bytes spell, each with its place, and where they first go wrong.
use Rattle.std.specs.Prelude.{◌≡◌, ℕ, ◌+◌, ◌<◌, ◌/◌, ◌%◌, Bool, true, false, not, ◌&&◌, ◌||◌, ◌==◌, nat_lt, if◌then◌else◌, List, [], ◌∷◌, ◌++◌, length, take, drop, codes, slice_index}
use Rattle.std.specs.List.{list_all}
use Rattle.std.specs.Str.{bytes_eq}
use Rattle.hb_base.specs.declared.place.Place.{Place}
use Rattle.hb_base.specs.declared.refusal.Refusal.{Refusal}
use Rattle.hb_base.specs.declared.refusal.Code.TheVariants.{E01, E02}
use Rattle.hb_lex.specs.declared.piece.Shape.{Shape}
use Rattle.hb_lex.specs.declared.piece.Shape.TheVariants.{VarId, ConId, Op, Word as WordShape, Number, Bits, Mark, Dot, End}
use Rattle.hb_lex.specs.declared.piece.Wrong.{Wrong}
use Rattle.hb_lex.specs.declared.piece.Wrong.TheVariants.{Literal, Comment as OpenComment, Quote}
use Rattle.hb_lex.specs.declared.piece.Piece.TheVariants.{Skip, Comment, Token, Wrong as Broken}
use Rattle.hb_lex.specs.Bytes.{is_allowed, place_after, first_place}
use Rattle.hb_lex.specs.Pieces.{opens_comment, piece_at}

-- `-}`
abbrev pub closes_comment : List ℕ → Bool
closes_comment bytes = (slice_index bytes 0 == 45) && (slice_index bytes 1 == 125)

-- the bytes after `{-`, of which so many end with the `-}` that closes it
pub data Inside : List ℕ → ℕ → Type 0 where
  -- `-}`
  closed : (rest : List ℕ) → Inside (45 ∷ 125 ∷ rest) 2
  -- a comment in the comment
  nested : (rest : List ℕ) (m n : ℕ) → Inside rest m → Inside (drop m rest) n → Inside (123 ∷ 45 ∷ rest) (2 + (m + n))
  -- a byte that begins neither
  other : (c : ℕ) (rest : List ℕ) (n : ℕ) → closes_comment (c ∷ rest) ≡ false → opens_comment (c ∷ rest) ≡ false → Inside rest n → Inside (c ∷ rest) (1 + n)

-- a token, its place and its text
pub record Lexeme : Type 0 where
  pub place : Place
  pub shape : Shape
  pub text : List ℕ

abbrev pub lexeme : Place → Shape → List ℕ → Lexeme
lexeme place shape text = record { place = place; shape = shape; text = text }

-- a dot right after it may be a selection: a name other than `_`, `)` or `]`
abbrev pub takes_dot : Shape → List ℕ → Bool
takes_dot VarId text = not (bytes_eq text (codes "_"))
takes_dot ConId text = true
takes_dot Op text = false
takes_dot (WordShape word) text = false
takes_dot (Number value) text = false
takes_dot (Bits width value) text = false
takes_dot (Mark c) text = (c == 41) || (c == 93)
takes_dot Dot text = false
takes_dot End text = false

-- what a source gives: its tokens, or the first place where none can be read
pub data Answer : Type 0 where
  Found : List Lexeme → Answer
  Stops : Place → Wrong → Answer

-- the answer with lexemes before it
abbrev pub after_lexemes : List Lexeme → Answer → Answer
after_lexemes ls (Found more) = Found (ls ++ more)
after_lexemes ls (Stops place wrong) = Stops place wrong

-- what bytes give from a place on; the Bool says that a dot may be a selection
pub data Reads : Bool → Place → List ℕ → Answer → Type 0 where
  -- no byte is left: the end stands where a next byte would
  ended : (glued : Bool) (place : Place) → Reads glued place [] (Found (lexeme place End [] ∷ []))
  -- white space, or a comment to the end of the line
  skipped : (glued : Bool) (place : Place) (bytes : List ℕ) (size : ℕ) (answer : Answer) → 0 < length bytes → piece_at glued bytes ≡ Skip size → Reads false (place_after place (take size bytes)) (drop size bytes) answer → Reads glued place bytes answer
  -- a comment that is closed
  commented : (glued : Bool) (place : Place) (bytes : List ℕ) (n : ℕ) (answer : Answer) → 0 < length bytes → piece_at glued bytes ≡ Comment → Inside (drop 2 bytes) n → Reads false (place_after place (take (2 + n) bytes)) (drop (2 + n) bytes) answer → Reads glued place bytes answer
  -- a comment that is not closed
  open_comment : (glued : Bool) (place : Place) (bytes : List ℕ) → 0 < length bytes → piece_at glued bytes ≡ Comment → ((n : ℕ) → ¬ Inside (drop 2 bytes) n) → Reads glued place bytes (Stops place OpenComment)
  -- a token
  token : (glued : Bool) (place : Place) (bytes : List ℕ) (shape : Shape) (size : ℕ) (answer : Answer) → 0 < length bytes → piece_at glued bytes ≡ Token shape size → Reads (takes_dot shape (take size bytes)) (place_after place (take size bytes)) (drop size bytes) answer → Reads glued place bytes (after_lexemes (lexeme place shape (take size bytes) ∷ []) answer)
  -- no token
  broken : (glued : Bool) (place : Place) (bytes : List ℕ) (wrong : Wrong) → 0 < length bytes → piece_at glued bytes ≡ Broken wrong → Reads glued place bytes (Stops place wrong)

-- what the bytes of a source give
abbrev pub Gives : List ℕ → Answer → Type 0
Gives bytes answer = Reads false first_place bytes answer

-- the tokens of a source: its bytes are allowed, and spell them
pub record Spells (bytes : List ℕ) (ls : List Lexeme) : Type 0 where
  pub allowed : list_all is_allowed bytes ≡ true
  pub gives : Gives bytes (Found ls)

-- a digit in hexadecimal, in upper case
abbrev pub hex_digit : ℕ → ℕ
hex_digit n = if nat_lt n 10 then n + 48 else n + 55

abbrev pub hex_byte : ℕ → List ℕ
hex_byte c = hex_digit (c / 16) ∷ hex_digit (c % 16) ∷ []

abbrev pub detail_of : Wrong → List ℕ
detail_of Literal = codes "literal"
detail_of OpenComment = codes "comment"
detail_of Quote = codes "quote"

-- the first rule that bytes break: a byte that no source has, wherever it stands, comes before all others
pub data FirstFault (bytes : List ℕ) : Refusal → Type 0 where
  bad_byte : (before after : List ℕ) (c : ℕ) → bytes ≡ before ++ c ∷ after → list_all is_allowed before ≡ true → is_allowed c ≡ false → FirstFault bytes (record { code = E01; place = place_after first_place before; detail = hex_byte c })
  no_token : (place : Place) (wrong : Wrong) → list_all is_allowed bytes ≡ true → Gives bytes (Stops place wrong) → FirstFault bytes (record { code = E02; place = place; detail = detail_of wrong })
