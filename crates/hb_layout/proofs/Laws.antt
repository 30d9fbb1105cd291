-- A list of tokens is laid out as one list, or has one first fault, and never both.
use Rattle.std.proofs.Common.{◌≡◌, ℕ, ◌⊎◌, inl, inr, List, Option, Some, None, refl, sym, ◌∙◌, codes}
use Rattle.hb_base.specs.declared.place.Place.{Place}
use Rattle.hb_base.specs.declared.refusal.Refusal.{Refusal}
use Rattle.hb_base.specs.declared.refusal.Code.TheVariants.{E03, E05, E29}
use Rattle.hb_tokens.specs.declared.token.Token.{Token}
use Rattle.hb_layout.specs.Profile.{first_left_out}
use Rattle.hb_layout.specs.Laid.{Layout, given, unclosed, laid_out, Laid, FirstFault, left_out, no_rule, too_deep}

pub laid_alone : (ts us vs : List Token) → Laid ts us → Laid ts vs → us ≡ vs
laid_alone ts us vs h g = let e : given us None ≡ given vs None = sym h.rules ∙ g.rules in cc

pub laid_or_fault : (ts : List Token) → ((us : List Token) × Laid ts us) ⊎ ((refusal : Refusal) × FirstFault ts refusal)
laid_or_fault ts = by (first_left_out ts) refl (laid_out ts) refl where
  by : (found : Option (Place × List ℕ)) → first_left_out ts ≡ found → (layout : Layout) → laid_out ts ≡ layout → ((us : List Token) × Laid ts us) ⊎ ((refusal : Refusal) × FirstFault ts refusal)
  by (Some found) e layout f = inr (record { code = E05; place = found.0; detail = found.1 }, left_out found.0 found.1 e)
  by None e (given us None) f = inl (us, record { profile = e; rules = f })
  by None e (given us (Some place)) f = inr (record { code = E29; place = place; detail = codes "brackets" }, too_deep place us e f)
  by None e (unclosed place) f = inr (record { code = E03; place = place; detail = codes "-" }, no_rule place e f)

none_some : {A : Type 0} (a : A) → None ≡ Some a → ⊥
none_some a e = cc

pub laid_has_no_fault : (ts us : List Token) (refusal : Refusal) → Laid ts us → FirstFault ts refusal → ⊥
laid_has_no_fault ts us refusal h (left_out place word e) = none_some (place, word) (sym h.profile ∙ e)
laid_has_no_fault ts us refusal h (no_rule place e f) = let g : given us None ≡ unclosed place = sym h.rules ∙ f in cc
laid_has_no_fault ts us refusal h (too_deep place vs e f) = let g : given us None ≡ given vs (Some place) = sym h.rules ∙ f in cc

-- the fault that stands in what was found and laid out
abbrev fault_of : Option (Place × List ℕ) → Layout → Option Refusal
fault_of (Some found) layout = Some (record { code = E05; place = found.0; detail = found.1 })
fault_of None (unclosed place) = Some (record { code = E03; place = place; detail = codes "-" })
fault_of None (given us (Some place)) = Some (record { code = E29; place = place; detail = codes "brackets" })
fault_of None (given us None) = None

fault_is : (ts : List Token) (refusal : Refusal) → FirstFault ts refusal → fault_of (first_left_out ts) (laid_out ts) ≡ Some refusal
fault_is ts refusal (left_out place word e) = rw e refl
fault_is ts refusal (no_rule place e f) = rw (e, f) refl
fault_is ts refusal (too_deep place us e f) = rw (e, f) refl

pub fault_alone : (ts : List Token) (refusal other : Refusal) → FirstFault ts refusal → FirstFault ts other → refusal ≡ other
fault_alone ts refusal other h g = let e : Some refusal ≡ Some other = sym (fault_is ts refusal h) ∙ fault_is ts other g in cc
