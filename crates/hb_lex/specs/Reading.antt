-- Words of the reader, beside the rules: the steps of its loops, and what holds of each piece.
use Rattle.std.specs.Prelude.{◌≡◌, ℕ, ◌+◌, ◌-◌, ◌*◌, ◌<◌, ◌≤◌, Bool, true, false, ◌==◌, if◌then◌else◌, List}
use Rattle.hb_lex.specs.declared.comment.Bound.{Bound}
use Rattle.hb_lex.specs.declared.comment.Bound.TheVariants.{Closes, Opens, Neither}
use Rattle.hb_lex.specs.declared.piece.Shape.{Shape}
use Rattle.hb_lex.specs.declared.piece.Shape.TheVariants.{VarId, ConId, Op, Word as WordShape, Number, Bits, Mark, Dot, End}
use Rattle.hb_lex.specs.declared.piece.Piece.{Piece}
use Rattle.hb_lex.specs.declared.piece.Piece.TheVariants.{Skip, Comment, Token, Wrong as Broken}
use Rattle.hb_lex.specs.Literals.{digit_value}
use Rattle.hb_lex.specs.Pieces.{opens_comment}
use Rattle.hb_lex.specs.Tokens.{closes_comment}

-- a value with one digit more, or with a `_`
abbrev pub longer : ℕ → ℕ → ℕ → ℕ
longer base value c = if c == 95 then value else value * base + digit_value c

-- what the first two bytes are in a comment
abbrev pub bound_of : List ℕ → Bound
bound_of bytes = if closes_comment bytes then Closes else if opens_comment bytes then Opens else Neither

abbrev pub bound_size : Bound → ℕ
bound_size Closes = 2
bound_size Opens = 2
bound_size Neither = 1

-- how many comments are open after it
abbrev pub depth_after : Bound → ℕ → ℕ
depth_after Closes depth = depth - 1
depth_after Opens depth = depth + 1
depth_after Neither depth = depth

abbrev pub is_end : Shape → Bool
is_end VarId = false
is_end ConId = false
is_end Op = false
is_end (WordShape word) = false
is_end (Number value) = false
is_end (Bits width value) = false
is_end (Mark c) = false
is_end Dot = false
is_end End = true

-- the size of what begins there, where it has one, is above 0 and at most so many bytes; no piece is the end
abbrev pub IsWithin : ℕ → Piece → Type 0
IsWithin n (Skip size) = (0 < size) × (size ≤ n)
IsWithin n Comment = 2 ≤ n
IsWithin n (Token shape size) = (0 < size) × (size ≤ n) × (is_end shape ≡ false)
IsWithin n (Broken wrong) = Unit {0}
