-- What codes of trees are made of: a number that tells the form, and its parts.
use Rattle.std.proofs.Common.{◌≡◌, ℕ, false, eqb, ap}
use Rattle.std.proofs.lemmas.Bool.{eqb-false}
use base.Stored.{Gv, gnil, gnum, gcons, num}

abbrev pub head : Gv → Gv
head gnil = gnil
head (gnum n) = gnil
head (gcons a b) = a

abbrev pub tail : Gv → Gv
tail gnil = gnil
tail (gnum n) = gnil
tail (gcons a b) = b

-- codes of two forms are not the same
pub differ : {A : Type 0} (m n : ℕ) → eqb m n ≡ false → {a b : Gv} → gcons (gnum m) a ≡ gcons (gnum n) b → A
differ m n e p = absurd (eqb-false m n e (ap (λ g. num (head g)) p))
