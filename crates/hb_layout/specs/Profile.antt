-- Words and forms of Habit that are left out.
use Rattle.std.specs.Prelude.{ℕ, List, [], ◌∷◌, codes, Option, Some, None}
use Rattle.hb_base.specs.declared.place.Place.{Place}
use Rattle.hb_tokens.specs.declared.word.Word.{Word}
use Rattle.hb_tokens.specs.declared.word.Word.TheVariants as word
use Rattle.hb_tokens.specs.declared.token.Token.{Token}
use Rattle.hb_tokens.specs.declared.token.TokenKind.{TokenKind}
use Rattle.hb_tokens.specs.declared.token.TokenKind.TheVariants as kind

-- an arrow right after `if` or `case`
abbrev pub arrow_after : Word → Option (List ℕ)
arrow_after word.If = Some (codes "if <-")
arrow_after word.Case = Some (codes "case <-")
arrow_after w = None

abbrev pub arrow_after_kind : TokenKind → Option (List ℕ)
arrow_after_kind (kind.Word w) = arrow_after w
arrow_after_kind k = None

-- what is left out at a word, after a token of some kind
abbrev pub left_out_word : TokenKind → Word → Option (List ℕ)
left_out_word before word.Module = Some (codes "module")
left_out_word before word.Import = Some (codes "import")
left_out_word before word.Export = Some (codes "export")
left_out_word before word.Deriving = Some (codes "deriving")
left_out_word before word.Default = Some (codes "default")
left_out_word before word.TypeWord = Some (codes "type")
left_out_word before word.Newtype = Some (codes "newtype")
left_out_word before word.Foreign = Some (codes "foreign")
left_out_word before word.Opaque = Some (codes "opaque")
left_out_word before word.Fails = Some (codes "fails")
left_out_word before word.LeftArrow = arrow_after_kind before
left_out_word before w = None

abbrev pub left_out_kind : TokenKind → TokenKind → Option (List ℕ)
left_out_kind before (kind.Word w) = left_out_word before w
left_out_kind before k = None

abbrev pub left_out_or : Place → Option (List ℕ) → Option (Place × List ℕ) → Option (Place × List ℕ)
left_out_or place (Some word) later = Some (place, word)
left_out_or place None later = later

-- the first token at which something is left out, and what, after a token of some kind
unfoldable pub left_out_after : TokenKind → List Token → Option (Place × List ℕ)
left_out_after before [] = None
left_out_after before (t ∷ ts) = left_out_or t.place (left_out_kind before t.kind) (left_out_after t.kind ts)

-- nothing stands before the first token
unfoldable pub first_left_out : List Token → Option (Place × List ℕ)
first_left_out ts = left_out_after kind.End ts
