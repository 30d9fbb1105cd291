-- What begins at a place: the longest run of its class, and what that run is.
use Rattle.std.specs.Prelude.{ℕ, ◌^◌, Bool, ◌&&◌, ◌==◌, nat_lt, nat_le, if◌then◌else◌, List, length, drop, codes, slice_index, Option, Some, None}
use Rattle.std.specs.List.{list_all}
use Rattle.std.specs.Str.{bytes_eq}
use Rattle.hb_base.specs.PortName.{is_lower, is_upper, is_digit, begins_name}
use Rattle.hb_tokens.specs.declared.word.Word.{Word}
use Rattle.hb_lex.specs.declared.piece.Shape.{Shape}
use Rattle.hb_lex.specs.declared.piece.Shape.TheVariants.{VarId, ConId, Op, Word as WordShape, Number, Bits, Mark, Dot}
use Rattle.hb_lex.specs.declared.piece.Wrong.TheVariants.{Literal, Quote}
use Rattle.hb_lex.specs.declared.piece.Piece.{Piece}
use Rattle.hb_lex.specs.declared.piece.Piece.TheVariants.{Skip, Comment, Token, Wrong as Broken}
use Rattle.hb_lex.specs.Bytes.{is_white, is_symbol, is_mark, belongs, run, front}
use Rattle.hb_lex.specs.declared.bytes.Class.TheVariants.{Name, LetterOrDigit, Symbol, InLine}
use Rattle.hb_lex.specs.Literals.{value_of, has_base, named_base, is_decimal, is_bit_literal, literal_width, literal_value}
use Rattle.hb_lex.specs.Words.{word_of, operator_word}

-- a reserved word, or else a name
abbrev pub word_or : Shape → Option Word → Shape
word_or shape None = shape
word_or shape (Some word) = WordShape word

-- a word that begins with a lower-case letter or `_`
abbrev pub lower_piece : List ℕ → Piece
lower_piece w = Token (word_or VarId (word_of w)) (length w)

-- a word that begins with an upper-case letter: a bit literal of at most 128 bits, or else a name
abbrev pub upper_piece : List ℕ → Piece
upper_piece w =
    if is_bit_literal w then (if nat_le (literal_width w) 128 then Token (Bits (literal_width w) (literal_value w)) (length w) else Broken Literal)
    else Token ConId (length w)

-- a number below 2^64
abbrev pub number_piece : ℕ → ℕ → Piece
number_piece size value = if nat_lt value (2 ^ 64) then Token (Number value) size else Broken Literal

-- the run of letters, digits and `_` from a digit on: it is a number as a whole, or else the number that it begins with has
-- one of these bytes right after it
abbrev pub digits_piece : List ℕ → Piece
digits_piece w =
    if is_decimal w then number_piece (length w) (value_of 10 w)
    else if has_base w then number_piece (length w) (value_of (named_base (slice_index w 1)) (drop 2 w))
    else Broken Literal

-- two or more `-` and nothing else
abbrev pub is_dashes : List ℕ → Bool
is_dashes w = nat_lt 1 (length w) && list_all (λ c. c == 45) w

-- `.` alone, right after a name, `)` or `]`, and right before a lower-case letter
abbrev pub is_selection : Bool → List ℕ → List ℕ → Bool
is_selection glued w bytes = glued && (bytes_eq w (codes ".") && is_lower (slice_index bytes 1))

-- a run of symbols
abbrev pub symbols_piece : Bool → List ℕ → List ℕ → Piece
symbols_piece glued w bytes =
    if is_dashes w then Skip (run (belongs InLine) bytes)
    else if is_selection glued w bytes then Token Dot 1
    else Token (word_or Op (operator_word w)) (length w)

-- `{-`
abbrev pub opens_comment : List ℕ → Bool
opens_comment bytes = (slice_index bytes 0 == 123) && (slice_index bytes 1 == 45)

-- what begins with the first of these bytes, of which there is one; `glued` says that a name, `)` or `]` stands right before it
unfoldable pub piece_at : Bool → List ℕ → Piece
piece_at glued bytes =
    let c = slice_index bytes 0 in
    if is_white c then Skip 1
    else if opens_comment bytes then Comment
    else if begins_name c then lower_piece (front Name bytes)
    else if is_upper c then upper_piece (front Name bytes)
    else if is_digit c then digits_piece (front LetterOrDigit bytes)
    else if is_symbol c then symbols_piece glued (front Symbol bytes) bytes
    else if is_mark c then Token (Mark c) 1
    else Broken Quote
