-- What is given, mark by mark.
use Rattle.std.proofs.Common.{◌≡◌, ℕ, ◌+◌, List, [], ◌∷◌, ◌++◌, replicate, Some, None, refl, append_assoc}
use Rattle.std.proofs.lemmas.Grind.{replicate_next}
use Rattle.std.proofs.lemmas.List.{map-append}
use Rattle.hb_base.specs.declared.place.Place.{Place}
use Rattle.hb_tokens.specs.declared.token.Token.{Token}
use Rattle.hb_layout.specs.Rules.{Move, closings, inserting}
use Rattle.hb_layout.specs.Laid.{token_at, inserted}
use Rattle.hb_layout.specs.Drafts.{drafted}

pub inserted_append : (place : Place) (ms ns : List ℕ) → inserted place (ms ++ ns) ≡ inserted place ms ++ inserted place ns
inserted_append place ms ns = map-append (token_at place) ms ns

pub closings_next : (ts us vs : List Token) (place : Place) (n : ℕ) → us ≡ ts ++ inserted place (closings n) → vs ≡ us ++ token_at place 125 ∷ [] → vs ≡ ts ++ inserted place (closings (n + 1))
closings_next ts us vs place n e f = rw (f, e, replicate_next {X = ℕ} n 125, inserted_append place (replicate n 125) (125 ∷ []), append_assoc) refl

-- marks inserted first, and then a move
pub drafted_inserting : (ts us : List Token) (place : Place) (marks : List ℕ) (m : Move) → us ≡ ts ++ inserted place marks → drafted us place m ≡ drafted ts place (inserting marks m)
drafted_inserting ts us place marks None e = refl
drafted_inserting ts us place marks (Some m) e = rw (e, inserted_append place marks m.0, append_assoc) refl
