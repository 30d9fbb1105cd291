-- The kinds of tokens as numbers, so that sets of them can be compared by computing.
use Rattle.std.specs.Prelude.{ℕ, ◌+◌, ◌==◌, Bool, true, false, List, [], ◌∷◌, if◌then◌else◌}
use Rattle.hb_base.specs.declared.name.Name.{Name}
use Rattle.hb_base.specs.Fixed.{wildcard}
use Rattle.hb_tokens.specs.declared.token.Token.{Token}
use Rattle.hb_tokens.specs.declared.token.TokenKind.{TokenKind}
use Rattle.hb_tokens.specs.declared.token.TokenKind.TheVariants.{VarId, ConId, Op, Word as AWord, Number, Bits, Mark, Dot, End}
use Rattle.hb_tokens.specs.declared.word.Word.{Word}
use Rattle.hb_tokens.specs.declared.word.Word.TheVariants as word

abbrev pub word_code : Word → ℕ
word_code word.Area = 10
word_code word.Bitdata = 11
word_code word.Struct = 12
word_code word.Port = 13
word_code word.Class = 14
word_code word.Instance = 15
word_code word.Data = 16
word_code word.Infix = 17
word_code word.Infixl = 18
word_code word.Infixr = 19
word_code word.Where = 20
word_code word.Let = 21
word_code word.In = 22
word_code word.Do = 23
word_code word.Of = 24
word_code word.Case = 25
word_code word.If = 26
word_code word.Then = 27
word_code word.Else = 28
word_code word.Each = 29
word_code word.Fields = 30
word_code word.Aligned = 31
word_code word.At = 32
word_code word.Module = 33
word_code word.Import = 34
word_code word.Export = 35
word_code word.Deriving = 36
word_code word.Default = 37
word_code word.TypeWord = 38
word_code word.Newtype = 39
word_code word.Foreign = 40
word_code word.Opaque = 41
word_code word.Fails = 42
word_code word.DoubleColon = 43
word_code word.Equals = 44
word_code word.Backslash = 45
word_code word.Bar = 46
word_code word.LeftArrow = 47
word_code word.RightArrow = 48
word_code word.DoubleArrow = 49

-- a variable is 0, `_` is 1
abbrev pub name_code : Name → ℕ
name_code name = if name.0 == wildcard.0 then 1 else 0

-- a constructor is 2, an operator 3, a number 4, bits 5, a dot 6, the end 7, a mark its byte and 60
abbrev pub kind_code : TokenKind → ℕ
kind_code (VarId name) = name_code name
kind_code (ConId name) = 2
kind_code (Op name) = 3
kind_code (AWord w) = word_code w
kind_code (Number k) = 4
kind_code (Bits width k) = 5
kind_code (Mark byte) = byte + 60
kind_code Dot = 6
kind_code End = 7

abbrev pub code : Token → ℕ
code t = kind_code t.kind

abbrev pub or : Bool → Bool → Bool
or true b = true
or false b = b

abbrev pub member : ℕ → List ℕ → Bool
member c [] = false
member c (x ∷ xs) = or (c == x) (member c xs)

abbrev pub not : Bool → Bool
not true = false
not false = true

-- no number of the list is in the set
abbrev pub apart : (ℕ → Bool) → List ℕ → Bool
apart set [] = true
apart set (x ∷ xs) = if set x then false else apart set xs
