-- The end of a list of tokens.
use Rattle.std.specs.Prelude.{Bool, true, false, ◌&&◌, not, List, [], ◌∷◌}
use Rattle.hb_tokens.specs.declared.token.Token.{Token}
use Rattle.hb_tokens.specs.declared.token.TokenKind.{TokenKind}
use Rattle.hb_tokens.specs.declared.token.TokenKind.TheVariants as kind

abbrev pub is_end_kind : TokenKind → Bool
is_end_kind kind.End = true
is_end_kind k = false

-- the last token, and no other, is the end
abbrev pub ends_once : List Token → Bool
ends_once [] = false
ends_once (t ∷ []) = is_end_kind t.kind
ends_once (t ∷ u ∷ ts) = not (is_end_kind t.kind) && ends_once (u ∷ ts)
