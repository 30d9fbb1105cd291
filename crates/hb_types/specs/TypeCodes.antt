-- How the logic stores a type.
use Rattle.std.proofs.Common.{◌≡◌, ℕ, List, refl, ap}
use Rattle.std.specs.Coded.{Coded, coded_ℕ, coded_list}
use base.Stored.{Gv, gnum, gcons}
use Rattle.hb_types.specs.contracts.atom.Atom as atom
use Rattle.hb_types.specs.Coding.{head, tail, differ}
use Rattle.hb_types.specs.Types.{Ty, Unknown, Leaf, Apply}

abbrev pub type_code : Ty → Gv
type_code (Unknown n) = gcons (gnum 0) (gnum n)
type_code (Leaf a) = gcons (gnum 1) (atom.the_row.coded.code a)
type_code (Apply f x) = gcons (gnum 2) (gcons (type_code f) (type_code x))

abbrev tag : Ty → ℕ
tag (Unknown n) = 0
tag (Leaf a) = 1
tag (Apply f x) = 2

pub type_inj : (x y : Ty) → type_code x ≡ type_code y → x ≡ y
type_inj (Unknown m) (Unknown n) e = λ i. Unknown (coded_ℕ.inj m n (ap tail e) i)
type_inj (Leaf a) (Leaf b) e = λ i. Leaf (atom.the_row.coded.inj a b (ap tail e) i)
type_inj (Apply a b) (Apply c d) e = λ i. Apply (type_inj a c (ap (λ g. head (tail g)) e) i) (type_inj b d (ap (λ g. tail (tail g)) e) i)
type_inj x y e = differ (tag x) (tag y) refl e

abbrev pub coded_type : Coded Ty
coded_type = record { code = type_code; inj = type_inj }

abbrev pub coded_types : Coded (List Ty)
coded_types = coded_list coded_type
