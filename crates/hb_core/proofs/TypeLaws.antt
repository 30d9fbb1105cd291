-- Types in the place of variables, one after another.
use Rattle.std.proofs.Common.{◌≡◌, ℕ, zero, suc, List, [], ◌∷◌, refl}
use Rattle.hb_types.specs.declared.atom.Atom.TheVariants.{Var, Con, Nat}
use Rattle.hb_types.specs.Types.{Ty, Unknown, Leaf, Apply}
use Rattle.hb_types.specs.Put.{type_for, put, puts}

pub for_puts : (ts us : List Ty) (v : ℕ) → put ts (type_for us v) ≡ type_for (puts ts us) v
for_puts ts [] v = refl
for_puts ts (u ∷ us) zero = refl
for_puts ts (u ∷ us) (suc v) = for_puts ts us v

-- types in the place of the variables of types that stand in the place of variables
pub put_put : (ts us : List Ty) (t : Ty) → put ts (put us t) ≡ put (puts ts us) t
put_put ts us (Unknown n) = refl
put_put ts us (Leaf (Var v)) = for_puts ts us v
put_put ts us (Leaf (Con c)) = refl
put_put ts us (Leaf (Nat n)) = refl
put_put ts us (Apply f x) = λ i. Apply (put_put ts us f i) (put_put ts us x i)

pub puts_puts : (ts us rs : List Ty) → puts ts (puts us rs) ≡ puts (puts ts us) rs
puts_puts ts us [] = refl
puts_puts ts us (t ∷ rs) = λ i. put_put ts us t i ∷ puts_puts ts us rs i
