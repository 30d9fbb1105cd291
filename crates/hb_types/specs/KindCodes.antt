-- How the logic stores a kind.
use Rattle.std.proofs.Common.{◌≡◌, ℕ, List, refl, ap}
use Rattle.std.specs.Coded.{Coded, coded_list}
use base.Stored.{Gv, gnil, gnum, gcons}
use Rattle.hb_types.specs.Coding.{head, tail, differ}
use Rattle.hb_types.specs.Kinds.{Kind, Star, Nat, Area, Arrow}

abbrev pub kind_code : Kind → Gv
kind_code Star = gcons (gnum 0) gnil
kind_code Nat = gcons (gnum 1) gnil
kind_code Area = gcons (gnum 2) gnil
kind_code (Arrow a b) = gcons (gnum 3) (gcons (kind_code a) (kind_code b))

abbrev tag : Kind → ℕ
tag Star = 0
tag Nat = 1
tag Area = 2
tag (Arrow a b) = 3

pub kind_inj : (x y : Kind) → kind_code x ≡ kind_code y → x ≡ y
kind_inj Star Star e = refl
kind_inj Nat Nat e = refl
kind_inj Area Area e = refl
kind_inj (Arrow a b) (Arrow c d) e = λ i. Arrow (kind_inj a c (ap (λ g. head (tail g)) e) i) (kind_inj b d (ap (λ g. tail (tail g)) e) i)
kind_inj x y e = differ (tag x) (tag y) refl e

abbrev pub coded_kind : Coded Kind
coded_kind = record { code = kind_code; inj = kind_inj }

abbrev pub coded_kinds : Coded (List Kind)
coded_kinds = coded_list coded_kind
