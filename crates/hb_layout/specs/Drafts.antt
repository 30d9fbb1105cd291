-- What is laid out so far, after the move of a token.
use Rattle.std.specs.Prelude.{List, ◌++◌, Option, Some, None}
use Rattle.hb_base.specs.declared.place.Place.{Place}
use Rattle.hb_tokens.specs.declared.token.Token.{Token}
use Rattle.hb_layout.specs.declared.draft.Draft.{Draft}
use Rattle.hb_layout.specs.Rules.{Move}
use Rattle.hb_layout.specs.declared.progress.Progress.{Progress}
use Rattle.hb_layout.specs.Laid.{inserted, Layout, preceded, laid}

-- after these tokens, at this place
abbrev pub drafted : List Token → Place → Move → Option Draft
drafted ts place None = None
drafted ts place (Some m) = Some (record { given = ts ++ inserted place m.0; stack = m.1 })

-- what is laid out so far, with what is laid out of the tokens that follow
abbrev pub lays : Progress → List Token → Layout
lays p ts = preceded p.draft.given p.deep (laid p.owed p.line p.draft.stack ts)
