use Rattle.std.specs.Prelude.{◌≡◌, ◌&&◌, not, List, [], ◌∷◌}
use Rattle.std.proofs.Common.{refl, ap}
use Rattle.hb_tokens.specs.Ends.{ends_once, is_end_kind}
use Rattle.hb_tokens.specs.declared.token.Token.{Token}
use Rattle.hb_source.specs.Nowhere.{all_nowhere}

-- where tokens stand has no part in whether they end once
pub ends_nowhere : (ts : List Token) → ends_once (all_nowhere ts) ≡ ends_once ts
ends_nowhere [] = refl
ends_nowhere (t ∷ []) = refl
ends_nowhere (t ∷ u ∷ ts) = ap (λ b. not (is_end_kind t.kind) && b) (ends_nowhere (u ∷ ts))
