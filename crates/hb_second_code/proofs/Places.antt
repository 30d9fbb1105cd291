-- A port is met at its own address: no port of bytes before it stands there.
use Rattle.std.proofs.Common.{◌≡◌, ◌≢◌, ℕ, zero, suc, ◌<◌, Bool, true, false, cond, ltb, List, [], ◌∷◌, length, get_or, Option, Some, None, refl, ap, subst, arith, ⊎_elim}
use Rattle.std.specs.Prelude.{◌&&◌, ◌==◌, slice_get, All, position, IsSomeAnd}
use Rattle.std.specs.List.{position_or_len}
use Rattle.std.specs.Option.{option_map_or}
use Rattle.std.proofs.lemmas.Bool.Decides.{nat_tests}
use Rattle.hb_base.specs.declared.port.Port.{Port}
use Rattle.hb_base.specs.declared.port.Dir.{Dir}
use Rattle.hb_base.specs.declared.port.Dir.TheVariants.{In, Out}
use Rattle.hb_base.specs.Ports.{ArePorts, AreApart}
use Rattle.hb_flat.specs.Meaning.{is_in, is_out, is_at, read_at, written_at}
use Rattle.hb_second_code.specs.Rules.{GoesAt}

first_place : {X : Type 0} (p : X → Bool) (xs : List X) (i : ℕ) (d : X) → i < length xs → p (get_or xs i d) ≡ true → ((k : ℕ) → k < i → p (get_or xs k d) ≡ false) → position_or_len p xs ≡ i
first_place p [] i d h t f = absurd (omega arith)
first_place p (x ∷ xs) zero d h t f = rw t refl
first_place p (x ∷ xs) (suc i) d h t f =
    let here : p x ≡ false = f 0 (omega arith) in
    let rest : position_or_len p xs ≡ i = first_place p xs i d (omega arith) t (λ k below. f (suc k) (omega arith)) in
    rw here (omega arith)

position_is : {X : Type 0} (p : X → Bool) (xs : List X) (i : ℕ) (d : X) → i < length xs → p (get_or xs i d) ≡ true → ((k : ℕ) → k < i → p (get_or xs k d) ≡ false) → position p xs ≡ Some i
position_is p xs i d h t f = rw (first_place p xs i d h t f) (ap (λ b. cond b (Some i) None) (within (length xs) i h))
  where
    within : (n k : ℕ) → k < n → ltb k n ≡ true
    within n k below = grind (arith, nat_tests)

-- the port of this number
at_number : (ports : List Port) (number : ℕ) (dir : Dir) → GoesAt ports number dir → (port : Port) × (slice_get ports number ≡ Some port) × (port.dir ≡ dir)
at_number ports number dir goes = found (slice_get ports number) refl goes
  where
    found : (o : Option Port) → slice_get ports number ≡ o → IsSomeAnd o (λ port. port.dir ≡ dir) → (port : Port) × (slice_get ports number ≡ Some port) × (port.dir ≡ dir)
    found None e h = absurd h
    found (Some port) e h = (port, e, h)

pub get_is : (ports : List Port) (number : ℕ) (port : Port) → slice_get ports number ≡ Some port → (number < length ports) × (get_or ports number port ≡ port)
get_is [] number port e = absurd (cc)
get_is (p ∷ ports) zero port e = (omega arith, cc)
get_is (p ∷ ports) (suc n) port e = let h = get_is ports n port e in (omega (arith, h.0), h.1)

-- at its address, with one byte
here_is : (address width : ℕ) → width ≡ 1 → (address == address) && (width == 1) ≡ true
here_is address width e = rw e (grind (arith, nat_tests))

other_address : (a b width : ℕ) → a ≢ b → (a == b) && (width == 1) ≡ false
other_address a b width n = let e : (a == b) ≡ false = grind (arith, nat_tests) in rw e refl

and_false : (b c : Bool) → c ≡ false → b && c ≡ false
and_false true c e = e
and_false false c e = refl

-- the first port that goes this way and stands at the address of the port of this number is that port
pub met_first : (way : Dir → Bool) (ports : List Port) (number : ℕ) (port : Port) → ArePorts ports → All (λ (p : Port). p.width ≡ 1) ports → slice_get ports number ≡ Some port → way port.dir ≡ true
    → position (λ (p : Port). way p.dir && is_at port.address 1 p) ports ≡ Some number
met_first way ports number port rules bytes e goes =
    let got = get_is ports number port e in
    let wide : (get_or ports number port).width ≡ 1 = bytes number port got.0 in
    position_is (λ (p : Port). way p.dir && is_at port.address 1 p) ports number port got.0
    (rw got.1 (rw goes (here_is port.address port.width (subst (λ (p : Port). p.width ≡ 1) got.1 wide))))
    (λ k below.
    let before = get_or ports k port in
    let apart : AreApart before (get_or ports number port) = rules.apart k number port below got.0 in
    let wide_before : before.width ≡ 1 = bytes k port (omega arith) in
    let differ : before.address ≢ port.address = λ same. differs before port (subst (AreApart before) got.1 apart) wide_before (subst (λ (p : Port). p.width ≡ 1) got.1 wide) same in
    and_false (way before.dir) _ (other_address before.address port.address before.width differ))
  where
    differs : (p q : Port) → AreApart p q → p.width ≡ 1 → q.width ≡ 1 → p.address ≡ q.address → ⊥
    differs p q apart ep eq same = ⊎_elim (λ h. omega arith) (λ h. omega arith) apart

pub written : (ports : List Port) (number : ℕ) → ArePorts ports → All (λ (p : Port). p.width ≡ 1) ports → GoesAt ports number Out → written_at ports (option_map_or (λ (p : Port). p.address) (slice_get ports number) 0) 1 ≡ Some number
written ports number rules bytes goes =
    let found = at_number ports number Out goes in
    rw found.1 (met_first is_out ports number found.0 rules bytes found.1 (ap is_out found.2))

pub read : (ports : List Port) (number : ℕ) → ArePorts ports → All (λ (p : Port). p.width ≡ 1) ports → GoesAt ports number In → read_at ports (option_map_or (λ (p : Port). p.address) (slice_get ports number) 0) 1 ≡ Some number
read ports number rules bytes goes =
    let found = at_number ports number In goes in
    rw found.1 (met_first is_in ports number found.0 rules bytes found.1 (ap is_in found.2))
