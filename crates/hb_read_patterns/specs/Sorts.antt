-- What a token is to a pattern.
use Rattle.std.specs.Prelude.{ℕ, Bool, true, false, ◌==◌, if◌then◌else◌}
use Rattle.hb_base.specs.declared.name.Name.{Name}
use Rattle.hb_tokens.specs.declared.token.TokenKind.{TokenKind}
use Rattle.hb_tokens.specs.declared.token.TokenKind.TheVariants as kinds
use Rattle.hb_tokens.specs.declared.word.Word as words
use Rattle.hb_tokens.specs.declared.word.Word.TheVariants as word
use Rattle.hb_read_patterns.specs.declared.sort.Sort.{Sort}
use Rattle.hb_read_patterns.specs.declared.sort.Sort.TheVariants.{Variable, Wildcard, Number, Bits, Constructor, Open, Close, OpenSquare, CloseSquare, Comma, Bar, Equals, Other}

-- `_` has the fixed number 70
abbrev pub name_sort : Name → Sort
name_sort name = if name.0 == 70 then Wildcard else Variable name

abbrev pub word_sort : words.Word → Sort
word_sort word.Bar = Bar
word_sort word.Equals = Equals
word_sort w = Other

-- by the mark's byte
abbrev pub mark_sort : ℕ → Sort
mark_sort byte =
    if byte == 40 then Open
    else if byte == 41 then Close
    else if byte == 44 then Comma
    else if byte == 91 then OpenSquare
    else if byte == 93 then CloseSquare
    else Other

abbrev pub sort_of : TokenKind → Sort
sort_of (kinds.VarId name) = name_sort name
sort_of (kinds.ConId name) = Constructor name
sort_of (kinds.Op name) = Other
sort_of (kinds.Word w) = word_sort w
sort_of (kinds.Number k) = Number k
sort_of (kinds.Bits width k) = Bits width k
sort_of (kinds.Mark byte) = mark_sort byte
sort_of kinds.Dot = Other
sort_of kinds.End = Other

-- `)`
abbrev pub is_close : Sort → Bool
is_close Close = true
is_close sort = false

-- `,`
abbrev pub is_comma : Sort → Bool
is_comma Comma = true
is_comma sort = false

-- `[`
abbrev pub is_open_square : Sort → Bool
is_open_square OpenSquare = true
is_open_square sort = false

-- `]`
abbrev pub is_close_square : Sort → Bool
is_close_square CloseSquare = true
is_close_square sort = false

-- `|`
abbrev pub is_bar : Sort → Bool
is_bar Bar = true
is_bar sort = false

-- `=`
abbrev pub is_equals : Sort → Bool
is_equals Equals = true
is_equals sort = false
