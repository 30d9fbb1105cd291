-- The tokens of the prelude stand at no place of the source: at 0:0.
use Rattle.std.specs.Prelude.{List, [], ◌∷◌}
use Rattle.hb_tokens.specs.declared.token.Token.{Token}

abbrev pub nowhere : Token → Token
nowhere t = record { place = record { line = 0; col = 0 }; kind = t.kind }

abbrev pub all_nowhere : List Token → List Token
all_nowhere [] = []
all_nowhere (t ∷ ts) = nowhere t ∷ all_nowhere ts
