-- What the grammar asks of one token.
use Rattle.std.specs.Prelude.{◌≡◌, ◌≢◌, ℕ, List, [], ◌∷◌}
use Rattle.hb_base.specs.declared.name.Name.{Name}
use Rattle.hb_base.specs.declared.place.Place.{Place}
use Rattle.hb_base.specs.Fixed.{wildcard}
use Rattle.hb_tokens.specs.declared.token.Token.{Token}
use Rattle.hb_tokens.specs.declared.token.TokenKind.TheVariants.{VarId, ConId, Op, Word as AWord, Number, Bits, Mark, Dot, End}
use Rattle.hb_tokens.specs.declared.word.Word.{Word}

-- a name that begins with a lower-case letter or `_`; `_` alone is none
pub record IsVar (name : Name) (t : Token) : Type 0 where
  pub kind : t.kind ≡ VarId name
  pub named : name ≢ wildcard

-- `_`
abbrev pub IsWildcard : Token → Type 0
IsWildcard t = t.kind ≡ VarId wildcard

abbrev pub IsCon : Name → Token → Type 0
IsCon name t = t.kind ≡ ConId name

-- an operator that is not reserved
abbrev pub IsOp : Name → Token → Type 0
IsOp name t = t.kind ≡ Op name

abbrev pub IsWord : Word → Token → Type 0
IsWord word t = t.kind ≡ AWord word

abbrev pub IsNumber : ℕ → Token → Type 0
IsNumber number t = t.kind ≡ Number number

abbrev pub IsBits : ℕ → ℕ → Token → Type 0
IsBits width number t = t.kind ≡ Bits width number

abbrev pub IsDot : Token → Type 0
IsDot t = t.kind ≡ Dot

abbrev pub IsEnd : Token → Type 0
IsEnd t = t.kind ≡ End

-- a mark by its byte: `(` 40, `)` 41, `,` 44, `;` 59, `[` 91, `]` 93, `` ` `` 96, `{` 123, `}` 125
abbrev pub IsMark : ℕ → Token → Type 0
IsMark byte t = t.kind ≡ Mark byte

abbrev pub IsOpen : Token → Type 0
IsOpen t = IsMark 40 t

abbrev pub IsClose : Token → Type 0
IsClose t = IsMark 41 t

abbrev pub IsComma : Token → Type 0
IsComma t = IsMark 44 t

abbrev pub IsSemicolon : Token → Type 0
IsSemicolon t = IsMark 59 t

abbrev pub IsOpenSquare : Token → Type 0
IsOpenSquare t = IsMark 91 t

abbrev pub IsCloseSquare : Token → Type 0
IsCloseSquare t = IsMark 93 t

abbrev pub IsBackquote : Token → Type 0
IsBackquote t = IsMark 96 t

abbrev pub IsOpenBrace : Token → Type 0
IsOpenBrace t = IsMark 123 t

abbrev pub IsCloseBrace : Token → Type 0
IsCloseBrace t = IsMark 125 t

-- where the first of these tokens stands
abbrev pub first_place : List Token → Place
first_place [] = record { line = 0; col = 0 }
first_place (t ∷ ts) = t.place
