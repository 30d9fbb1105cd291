-- A table grows at its end: each place keeps its type, and its form says what the type is.
use Rattle.std.proofs.Common.{◌≡◌, ℕ, ◌<◌, List, [], ◌∷◌, ◌++◌, length, sym, refl, ap, ◌∙◌, arith, length-append, append_assoc}
use Rattle.std.proofs.lemmas.List.{get_or_append_left, get_or_push}
use Rattle.hb_types.specs.declared.table.Form.{Form}
use Rattle.hb_types.specs.declared.table.Form.TheVariants as form
use Rattle.hb_types.specs.Types.{Ty, Unknown, Apply}
use Rattle.hb_types.proofs.MadeLemmas.{length-made, made-push, made-at-start, laid-more, laid-empty}
use Rattle.hb_types.specs.Tables.{type_at, built, types_of, HasPartsBelow, form_at, AreLaid, Extends}

pub type_at-left : (ts : List Ty) (t : Ty) (k : ℕ) → k < length ts → type_at (ts ++ t ∷ []) k ≡ type_at ts k
type_at-left ts t k h = get_or_append_left ts (t ∷ []) (Unknown 0) k h

pub type_at-last : (ts : List Ty) (t : Ty) (k : ℕ) → k ≡ length ts → type_at (ts ++ t ∷ []) k ≡ t
type_at-last ts t k e = get_or_push ts t (Unknown 0) k (sym e)

-- a form's type depends on its parts alone
pub built-same : (a b : List Ty) (place : ℕ) (n : Form) → HasPartsBelow place n → ((k : ℕ) → k < place → type_at a k ≡ type_at b k) → built a n ≡ built b n
built-same a b place (form.Unknown n) h e = refl
built-same a b place (form.Leaf l) h e = refl
built-same a b place (form.Apply f x) h e = ap (λ t. Apply t (type_at a x)) (e f h.0) ∙ ap (λ t. Apply (type_at b f) t) (e x h.1)

pub length-types_of : (ns : List Form) → length (types_of ns) ≡ length ns
length-types_of ns = omega (arith, length-made built [] ns)

pub types_of-push : (ns : List Form) (n : Form) → types_of (ns ++ n ∷ []) ≡ types_of ns ++ built (types_of ns) n ∷ []
types_of-push ns n = made-push built [] ns n

pub types_of-at : (ns : List Form) (k : ℕ) → AreLaid ns → k < length ns → type_at (types_of ns) k ≡ built (types_of ns) (form_at ns k)
types_of-at ns k w h = made-at-start built (Unknown 0) HasPartsBelow (form.Unknown 0) built-same ns k w h

pub laid-push : (ns : List Form) (n : Form) → AreLaid ns → HasPartsBelow (length ns) n → AreLaid (ns ++ n ∷ [])
laid-push ns n w h = laid-more HasPartsBelow (form.Unknown 0) (λ k. tt) ns n w h

pub laid-none : (ns : List Form) → ns ≡ [] → AreLaid ns
laid-none ns e = laid-empty HasPartsBelow (form.Unknown 0) (λ k. tt) ns e

pub laid-length : (ns : List Form) (ts : List Ty) → types_of ns ≡ ts → length ts ≡ length ns
laid-length ns ts e = sym (ap length e) ∙ length-types_of ns

-- a place of a table stays what it is when more types come
pub more-types : (table new : List Ty) (k : ℕ) → Extends table new → k < length table → (type_at new k ≡ type_at table k) × (k < length new)
more-types table new k x h = (
  ap (λ ts. type_at ts k) x.1 ∙ get_or_append_left table x.0 (Unknown 0) k h,
  omega (arith, h, ap length x.1, length-append table x.0),
)

pub extends-more : (a b c : List Ty) → Extends a b → Extends b c → Extends a c
extends-more a b c x y = (x.0 ++ y.0, y.1 ∙ ap (λ ts. ts ++ y.0) x.1 ∙ append_assoc a x.0 y.0)
