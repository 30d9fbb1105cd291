-- What a token is to an expression.
use Rattle.std.specs.Prelude.{ℕ, ◌==◌, if◌then◌else◌}
use Rattle.hb_base.specs.declared.name.Name.{Name}
use Rattle.hb_tokens.specs.declared.token.TokenKind.{TokenKind}
use Rattle.hb_tokens.specs.declared.token.TokenKind.TheVariants as kinds
use Rattle.hb_tokens.specs.declared.word.Word as words
use Rattle.hb_tokens.specs.declared.word.Word.TheVariants as word
use Rattle.hb_read_expressions.specs.declared.sort.Sort.{Sort}
use Rattle.hb_read_expressions.specs.declared.sort.Sort.TheVariants as sort

-- `_` has the fixed number 70
abbrev pub name_sort : Name → Sort
name_sort name = if name.0 == 70 then sort.Other else sort.Variable name

abbrev pub word_sort : words.Word → Sort
word_sort word.Equals = sort.Equals
word_sort word.Bar = sort.Bar
word_sort word.Backslash = sort.Backslash
word_sort word.RightArrow = sort.RightArrow
word_sort word.LeftArrow = sort.LeftArrow
word_sort word.Let = sort.Let
word_sort word.In = sort.In
word_sort word.If = sort.If
word_sort word.Then = sort.Then
word_sort word.Else = sort.Else
word_sort word.Case = sort.Case
word_sort word.Of = sort.Of
word_sort word.Do = sort.Do
word_sort word.Where = sort.Where
word_sort w = sort.Other

-- by the mark's byte
abbrev pub mark_sort : ℕ → Sort
mark_sort byte =
    if byte == 40 then sort.Open
    else if byte == 41 then sort.Close
    else if byte == 44 then sort.Comma
    else if byte == 59 then sort.Semicolon
    else if byte == 91 then sort.OpenSquare
    else if byte == 93 then sort.CloseSquare
    else if byte == 96 then sort.Backquote
    else if byte == 123 then sort.OpenBrace
    else if byte == 125 then sort.CloseBrace
    else sort.Other

abbrev pub sort_of : TokenKind → Sort
sort_of (kinds.VarId name) = name_sort name
sort_of (kinds.ConId name) = sort.Constructor name
sort_of (kinds.Op name) = sort.Operator name
sort_of (kinds.Word w) = word_sort w
sort_of (kinds.Number k) = sort.Number k
sort_of (kinds.Bits width k) = sort.Bits width k
sort_of (kinds.Mark byte) = mark_sort byte
sort_of kinds.Dot = sort.Dot
sort_of kinds.End = sort.Other
