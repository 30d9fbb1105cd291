-- Kinds in a table.
use Rattle.std.proofs.Common.{◌≡◌, ℕ, ◌<◌, List, [], ◌∷◌, ◌++◌, length, sym, refl, ap, ◌∙◌, arith}
use Rattle.hb_types.specs.declared.kind_table.KindForm.{KindForm}
use Rattle.hb_types.specs.declared.kind_table.KindForm.TheVariants as form
use Rattle.hb_types.specs.Kinds.{Kind, Star, Arrow}
use Rattle.hb_types.specs.KindTables.{kind_at, kind_built, kinds_of, HasKindsBelow, kind_form_at, AreKindsLaid}
use Rattle.hb_types.proofs.MadeLemmas.{length-made, made-push, made-at-start, laid-more, laid-empty}

-- a form's kind depends on its parts alone
pub kind_built-same : (a b : List Kind) (place : ℕ) (n : KindForm) → HasKindsBelow place n → ((k : ℕ) → k < place → kind_at a k ≡ kind_at b k) → kind_built a n ≡ kind_built b n
kind_built-same a b place form.Star h e = refl
kind_built-same a b place form.Nat h e = refl
kind_built-same a b place form.Area h e = refl
kind_built-same a b place (form.Arrow f x) h e = ap (λ t. Arrow t (kind_at a x)) (e f h.0) ∙ ap (λ t. Arrow (kind_at b f) t) (e x h.1)

pub kinds_of-push : (ns : List KindForm) (n : KindForm) → kinds_of (ns ++ n ∷ []) ≡ kinds_of ns ++ kind_built (kinds_of ns) n ∷ []
kinds_of-push ns n = made-push kind_built [] ns n

pub kinds_of-at : (ns : List KindForm) (k : ℕ) → AreKindsLaid ns → k < length ns → kind_at (kinds_of ns) k ≡ kind_built (kinds_of ns) (kind_form_at ns k)
kinds_of-at ns k w h = made-at-start kind_built Star HasKindsBelow form.Star kind_built-same ns k w h

pub kinds_laid-push : (ns : List KindForm) (n : KindForm) → AreKindsLaid ns → HasKindsBelow (length ns) n → AreKindsLaid (ns ++ n ∷ [])
kinds_laid-push ns n w h = laid-more HasKindsBelow form.Star (λ k. tt) ns n w h

pub kinds_laid-none : (ns : List KindForm) → ns ≡ [] → AreKindsLaid ns
kinds_laid-none ns e = laid-empty HasKindsBelow form.Star (λ k. tt) ns e

pub kinds_laid-length : (ns : List KindForm) (ks : List Kind) → kinds_of ns ≡ ks → length ks ≡ length ns
kinds_laid-length ns ks e = sym (ap length e) ∙ (let whole : length (kinds_of ns) ≡ length ns = omega (arith, length-made kind_built [] ns) in whole)
