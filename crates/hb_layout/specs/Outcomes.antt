-- What the code answers, against what is laid out.
use Rattle.std.specs.Prelude.{◌≡◌, List, Some, None}
use Rattle.hb_tokens.specs.declared.token.Token.{Token}
use Rattle.hb_layout.specs.declared.layout.Outcome.{Outcome}
use Rattle.hb_layout.specs.declared.layout.Outcome.TheVariants.{Given, Deep, Unclosed}
use Rattle.hb_layout.specs.Laid.{Layout, given, unclosed}

abbrev pub IsLaidOut : Layout → Outcome → Type 0
IsLaidOut layout (Given us) = layout ≡ given us None
IsLaidOut layout (Deep place) = (us : List Token) × (layout ≡ given us (Some place))
IsLaidOut layout (Unclosed place) = layout ≡ unclosed place
