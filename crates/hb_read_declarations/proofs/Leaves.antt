-- One token: some token of a kind, and a name that is read.
use Rattle.std.proofs.Common.{List, ◌∷◌}
use Rattle.hb_base.specs.declared.name.Name.{Name}
use Rattle.hb_tokens.specs.declared.token.Token.{Token}
use Rattle.hb_tokens.specs.declared.token.TokenKind.{TokenKind}
use Rattle.hb_tree.specs.declared.types.NameAt.{NameAt}
use Rattle.hb_grammar.specs.Tokens.{IsVar, IsCon}
use Rattle.hb_grammar.specs.Types.{name_at}

-- some token of a kind
abbrev pub some_token : TokenKind → Token
some_token k = record { place = record { line = 0; col = 0 }; kind = k }

pub data VarRead : List Token → NameAt → List Token → Type 0 where
  var_read : {t : Token} {us : List Token} {name : Name} → IsVar name t → VarRead (t ∷ us) (name_at t name) us

pub data ConRead : List Token → NameAt → List Token → Type 0 where
  con_read : {t : Token} {us : List Token} {name : Name} → IsCon name t → ConRead (t ∷ us) (name_at t name) us
