-- What the tests mean, and steps one after another.
use Rattle.std.proofs.Common.{◌≡◌, ℕ, ◌<◌, ◌≤◌, Bool, true, false, List, [], ◌∷◌, ◌++◌, Option, Some, None, refl, ap, arith}
use Rattle.std.specs.Prelude.{option_and_then, ◌&&◌, nat_lt, nat_le}
use Rattle.std.proofs.lemmas.Bool.Decides.{nat_tests}
use Rattle.hb_base.specs.declared.port.Port.{Port}
use Rattle.hb_second.specs.declared.source.Statement.{Statement}
use Rattle.hb_second.specs.declared.reader.Stage.{Stage}
use Rattle.hb_second.specs.declared.reader.Reader.{Reader}
use Rattle.hb_second.specs.Items.{Item}
use Rattle.hb_second.specs.Moves.{given, step}

abbrev pub mk : Stage → List Port → List (List ℕ) → List Statement → Reader
mk stage ports variables statements = record { stage = stage; ports = ports; variables = variables; statements = statements }

pub record Given (test : Bool) (a b : Reader) : Type 0 where
  pub holds : test ≡ true
  pub same : a ≡ b

pub given_is : (test : Bool) (a b : Reader) → given test a ≡ Some b → Given test a b
given_is true a b h = record { holds = refl; same = cc }
given_is false a b h = absurd (cc)

pub given_true : (test : Bool) (r : Reader) → test ≡ true → given test r ≡ Some r
given_true test r e = rw e refl

pub and_left : (a b : Bool) → a && b ≡ true → a ≡ true
and_left true b h = refl
and_left false b h = absurd (cc)

pub and_right : (a b : Bool) → a && b ≡ true → b ≡ true
and_right true b h = h
and_right false b h = absurd (cc)

pub and_both : (a b : Bool) → a ≡ true → b ≡ true → a && b ≡ true
and_both a b e f = rw (e, f) refl

pub lt_of : (m n : ℕ) → nat_lt m n ≡ true → m < n
lt_of m n h = grind (arith, nat_tests)

pub lt_yes : (m n : ℕ) → m < n → nat_lt m n ≡ true
lt_yes m n h = grind (arith, nat_tests)

pub le_of : (m n : ℕ) → nat_le m n ≡ true → m ≤ n
le_of m n h = grind (arith, nat_tests)

pub le_yes : (m n : ℕ) → m ≤ n → nat_le m n ≡ true
le_yes m n h = grind (arith, nat_tests)

-- what items make of a reader
unfoldable pub steps : Reader → List Item → Option Reader
steps reader [] = Some reader
steps reader (item ∷ items) = option_and_then (λ (next : Reader). steps next items) (step reader item)

-- one step, and steps in two parts
pub steps_one : (r n : Reader) (item : Item) (items : List Item) → step r item ≡ Some n → steps r (item ∷ items) ≡ steps n items
unfolding steps
steps_one r n item items e = ap (option_and_then (λ (next : Reader). steps next items)) e

in_two : (us vs : List Item) → ((n : Reader) → steps n (us ++ vs) ≡ option_and_then (λ (next : Reader). steps next vs) (steps n us)) → (o : Option Reader) → option_and_then (λ (n : Reader). steps n (us ++ vs)) o ≡ option_and_then (λ (next : Reader). steps next vs) (option_and_then (λ (n : Reader). steps n us) o)
in_two us vs go None = refl
in_two us vs go (Some n) = go n

pub steps_append : (us : List Item) (r : Reader) (vs : List Item) → steps r (us ++ vs) ≡ option_and_then (λ (next : Reader). steps next vs) (steps r us)
unfolding steps
steps_append [] r vs = refl
steps_append (u ∷ us) r vs = in_two us vs (λ n. steps_append us n vs) (step r u)
