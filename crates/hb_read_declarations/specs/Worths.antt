-- What a token is worth to a declaration.
use Rattle.std.specs.Prelude.{ℕ, ◌==◌, nat_le, if◌then◌else◌, Option, Some, None}
use Rattle.hb_base.specs.declared.name.Name.{Name}
use Rattle.hb_base.specs.declared.place.Place.{Place}
use Rattle.hb_base.specs.Fixed.{wildcard}
use Rattle.hb_tokens.specs.declared.token.Token.{Token}
use Rattle.hb_tokens.specs.declared.token.TokenKind.{TokenKind}
use Rattle.hb_tokens.specs.declared.token.TokenKind.TheVariants.{VarId, ConId, Op, Word as AWord, Number, Bits, Mark, End}
use Rattle.hb_tokens.specs.declared.word.Word.{Word}
use Rattle.hb_tree.specs.declared.types.NameAt.{NameAt}
pub use Rattle.hb_read_declarations.specs.declared.width.Width.{Width}
use Rattle.hb_read_declarations.specs.Codes.{word_code}

abbrev pub at_place : Place → Name → NameAt
at_place place name = record { place = place; name = name }

abbrev pub kind_var : Place → TokenKind → Option NameAt
kind_var p (VarId name) = if name.0 == wildcard.0 then None else Some (at_place p name)
kind_var p _ = None

-- a variable
abbrev pub var : Token → Option NameAt
var t = kind_var t.place t.kind

abbrev pub kind_con : Place → TokenKind → Option NameAt
kind_con p (ConId name) = Some (at_place p name)
kind_con p _ = None

abbrev pub con : Token → Option NameAt
con t = kind_con t.place t.kind

abbrev pub kind_op : Place → TokenKind → Option NameAt
kind_op p (Op name) = Some (at_place p name)
kind_op p _ = None

abbrev pub op : Token → Option NameAt
op t = kind_op t.place t.kind

abbrev pub kind_this_con : Name → Place → TokenKind → Option Place
kind_this_con n p (ConId name) = if name.0 == n.0 then Some p else None
kind_this_con n p _ = None

-- the constructor of this name
abbrev pub this_con : Name → Token → Option Place
this_con n t = kind_this_con n t.place t.kind

abbrev pub kind_this_op : Name → Place → TokenKind → Option Place
kind_this_op n p (Op name) = if name.0 == n.0 then Some p else None
kind_this_op n p _ = None

-- the operator of this name
abbrev pub this_op : Name → Token → Option Place
this_op n t = kind_this_op n t.place t.kind

abbrev pub kind_word : Word → Place → TokenKind → Option Place
kind_word w p (AWord v) = if word_code v == word_code w then Some p else None
kind_word w p _ = None

abbrev pub this_word : Word → Token → Option Place
this_word w t = kind_word w t.place t.kind

abbrev pub kind_mark : ℕ → Place → TokenKind → Option Place
kind_mark m p (Mark byte) = if byte == m then Some p else None
kind_mark m p _ = None

abbrev pub mark : ℕ → Token → Option Place
mark m t = kind_mark m t.place t.kind

abbrev pub kind_number : TokenKind → Option ℕ
kind_number (Number k) = Some k
kind_number _ = None

abbrev pub number : Token → Option ℕ
number t = kind_number t.kind

abbrev pub kind_digit : TokenKind → Option ℕ
kind_digit (Number k) = if nat_le k 9 then Some k else None
kind_digit _ = None

-- a number up to 9
abbrev pub digit : Token → Option ℕ
digit t = kind_digit t.kind

abbrev pub kind_bits : TokenKind → Option Width
kind_bits (Bits width k) = Some (record { width = width; number = k })
kind_bits _ = None

abbrev pub bits : Token → Option Width
bits t = kind_bits t.kind

abbrev pub kind_end : Place → TokenKind → Option Place
kind_end p End = Some p
kind_end p _ = None

-- the end of the text
abbrev pub end_of : Token → Option Place
end_of t = kind_end t.place t.kind
