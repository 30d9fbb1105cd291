-- There is always a name and an address that no port has yet.
use Rattle.std.proofs.Common.{◌≡◌, ℕ, zero, suc, ◌+◌, ◌/◌, ◌%◌, ◌<◌, ◌≤◌, Bool, true, false, cond, List, [], ◌∷◌, length, refl, sym, ap, ◌∙◌, ◌⊎◌, inl, inr, ⊎_elim, arith}
use Rattle.std.specs.Prelude.{◌&&◌, ◌||◌, not, ◌==◌, nat_le, nat_lt, slice_index}
use Rattle.std.specs.List.{list_any}
use Rattle.std.specs.Str.{bytes_eq}
use Rattle.std.proofs.lemmas.Bool.{cases_lt}
use Rattle.std.proofs.lemmas.Bool.Decides.{Decides-eqb, nat_tests}
use Rattle.std.proofs.lemmas.Slice.Eq.{bytes_eq-Decides}
use Rattle.hb_base.specs.PortName.{is_lower}
use Rattle.hb_base.specs.declared.port.Port.{Port}
use Rattle.hb_second.specs.Names.{is_free_name, is_short_lower, is_new_name, taken_words}
use Rattle.hb_second.specs.Moves.{is_next_port}
use Rattle.hb_second.proofs.StepLaws.{and_both}

-- each port is one number's at most
abbrev Alone : (ℕ → Port → Bool) → Type 0
Alone test = (i j : ℕ) (p : Port) → test i p ≡ true → test j p ≡ true → i ≡ j

-- the ports without the first that is this number's
abbrev without : (ℕ → Port → Bool) → ℕ → List Port → List Port
without test n [] = []
without test n (p ∷ ps) = cond (test n p) ps (p ∷ without test n ps)

abbrev hit : (ℕ → Port → Bool) → ℕ → List Port → Bool
hit test i ps = list_any (test i) ps

or_false : (b c : Bool) → b ≡ false → b || c ≡ true → c ≡ true
or_false true c e h = absurd (cc)
or_false false c e h = h

differ : (test : ℕ → Port → Bool) → Alone test → (i n : ℕ) (p : Port) → i < n → test n p ≡ true → (b : Bool) → test i p ≡ b → b ≡ false
differ test alone i n p h en true ei = let e : i ≡ n = alone i n p ei en in absurd (omega arith)
differ test alone i n p h en false ei = refl

still_by : (test : ℕ → Port → Bool) (i : ℕ) (p : Port) (ps ws : List Port) (b c : Bool) → (b ≡ true → c ≡ false) → test i p ≡ c → c || hit test i ps ≡ true → (hit test i ps ≡ true → hit test i ws ≡ true) → hit test i (cond b ps (p ∷ ws)) ≡ true
still_by test i p ps ws true c f e h go = or_false c _ (f refl) h
still_by test i p ps ws false true f e h go = rw e refl
still_by test i p ps ws false false f e h go = rw e (go h)

still : (test : ℕ → Port → Bool) → Alone test → (i n : ℕ) → i < n → (ps : List Port) → hit test i ps ≡ true → hit test i (without test n ps) ≡ true
still test alone i n h [] e = e
still test alone i n h (p ∷ ps) e =
    still_by test i p ps (without test n ps) (test n p) (test i p) (λ en. differ test alone i n p h en (test i p) refl) refl e (still test alone i n h ps)

fewer_by : (p : Port) (ps ws : List Port) (b hits : Bool) → b || hits ≡ true → (hits ≡ true → length ws + 1 ≡ length ps) → length (cond b ps (p ∷ ws)) + 1 ≡ length (p ∷ ps)
fewer_by p ps ws true hits h go = omega arith
fewer_by p ps ws false hits h go = let e : length ws + 1 ≡ length ps = go h in omega arith

fewer : (test : ℕ → Port → Bool) (n : ℕ) (ps : List Port) → hit test n ps ≡ true → length (without test n ps) + 1 ≡ length ps
fewer test n [] h = absurd (cc)
fewer test n (p ∷ ps) h = fewer_by p ps (without test n ps) (test n p) (hit test n ps) h (fewer test n ps)

bound : (test : ℕ → Port → Bool) → Alone test → (n : ℕ) (ps : List Port) → ((i : ℕ) → i < n → hit test i ps ≡ true) → n ≤ length ps
bound test alone zero ps all = omega arith
bound test alone (suc n) ps all =
    let one : length (without test n ps) + 1 ≡ length ps = fewer test n ps (all n (omega arith)) in
    let rest : n ≤ length (without test n ps) = bound test alone n (without test n ps) (λ i h. still test alone i n h ps (all i (omega arith))) in
    omega arith

AllHit : (ℕ → Port → Bool) → ℕ → List Port → Type 0
AllHit test n ps = (i : ℕ) → i < n → hit test i ps ≡ true

Free : (ℕ → Port → Bool) → ℕ → List Port → Type 0
Free test n ps = (i : ℕ) × (i < n) × (hit test i ps ≡ false)

one_more : (test : ℕ → Port → Bool) (n : ℕ) (ps : List Port) → AllHit test n ps → (b : Bool) → hit test n ps ≡ b → AllHit test (suc n) ps ⊎ Free test (suc n) ps
unfolding AllHit Free
one_more test n ps all false e = inr (n, omega arith, e)
one_more test n ps all true e = inl (λ i h. ⊎_elim (λ lt. all i lt) (λ ge. let same : i ≡ n = omega arith in rw same e) (cases_lt i n))

seek : (test : ℕ → Port → Bool) (n : ℕ) (ps : List Port) → AllHit test n ps ⊎ Free test n ps
unfolding AllHit Free
seek test zero ps = inl (λ i h. absurd (omega arith))
seek test (suc n) ps = ⊎_elim (λ all. one_more test n ps all _ refl) (λ f. inr (f.0, omega (arith, f.1), f.2)) (seek test n ps)

free : (test : ℕ → Port → Bool) → Alone test → (n : ℕ) (ps : List Port) → length ps < n → (i : ℕ) × (i < n) × (hit test i ps ≡ false)
unfolding AllHit Free
free test alone n ps h = ⊎_elim (λ all. let b : n ≤ length ps = bound test alone n ps all in absurd (omega arith)) (λ f. f) (seek test n ps)

-- names that no word is like: z and two letters more
abbrev name_at : ℕ → List ℕ
name_at i = 122 ∷ (97 + i / 26) ∷ (97 + i % 26) ∷ []

same_number : (i j : ℕ) (w : List ℕ) → name_at i ≡ w → name_at j ≡ w → i ≡ j
same_number i j w e f =
    let g : name_at i ≡ name_at j = e ∙ sym f in
    let high : 97 + i / 26 ≡ 97 + j / 26 = ap (λ l. slice_index l 1) g in
    let low : 97 + i % 26 ≡ 97 + j % 26 = ap (λ l. slice_index l 2) g in
    omega arith

names_alone : Alone (λ i p. bytes_eq (name_at i) p.name)
names_alone i j p e f = same_number i j p.name ((bytes_eq-Decides (name_at i) p.name).0 e) ((bytes_eq-Decides (name_at j) p.name).0 f)

lower : (k : ℕ) → k < 26 → is_lower (97 + k) ≡ true
lower k h = grind (arith, nat_tests)

short : (a b : ℕ) → is_lower a ≡ true → is_lower b ≡ true → is_short_lower (122 ∷ a ∷ b ∷ []) ≡ true
short a b e f = rw (e, f) refl

not_taken : (a b : ℕ) → list_any (bytes_eq (122 ∷ a ∷ b ∷ [])) taken_words ≡ false
not_taken a b = refl

and_not : (b c : Bool) → b ≡ true → c ≡ false → b && not c ≡ true
and_not true false e f = refl
and_not true true e f = absurd (cc)
and_not false c e f = absurd (cc)

name_free : (i : ℕ) → i < 260 → is_free_name (name_at i) ≡ true
name_free i h =
    let high : i / 26 < 26 = omega arith in
    let low : i % 26 < 26 = omega arith in
    and_not _ _ (short (97 + i / 26) (97 + i % 26) (lower (i / 26) high) (lower (i % 26) low)) (not_taken (97 + i / 26) (97 + i % 26))

new_of : (a b c : Bool) → a ≡ true → b ≡ false → c ≡ false → a && (not b && not c) ≡ true
new_of a b c e f g = rw (e, f, g) refl

-- a name that no port has
new_name : (ps : List Port) → length ps < 256 → (name : List ℕ) × (is_new_name ps [] name ≡ true)
new_name ps h =
    let f = free (λ i p. bytes_eq (name_at i) p.name) names_alone 256 ps h in
    (name_at f.0, new_of _ _ _ (name_free f.0 (omega (arith, f.1))) f.2 refl)

addresses_alone : Alone (λ i p. p.address == 2147483648 + i)
addresses_alone i j p e f =
    let a : p.address ≡ 2147483648 + i = (Decides-eqb p.address (2147483648 + i)).0 e in
    let b : p.address ≡ 2147483648 + j = (Decides-eqb p.address (2147483648 + j)).0 f in
    omega arith

high_enough : (i : ℕ) → nat_le 2147483648 (2147483648 + i) ≡ true
high_enough i = grind (arith, nat_tests)

low_enough : (i : ℕ) → i < 256 → nat_lt (2147483648 + i) 4294967296 ≡ true
low_enough i h = grind (arith, nat_tests)

not_any : (b : Bool) → b ≡ false → not b ≡ true
not_any b e = rw e refl

-- a name and an address that no port has
pub new_port : (ps : List Port) → length ps < 256 → (name : List ℕ) × (address : ℕ) × (is_next_port ps name address ≡ true)
new_port ps h =
    let name = new_name ps h in
    let f = free (λ i p. p.address == 2147483648 + i) addresses_alone 256 ps h in (
      name.0,
      2147483648 + f.0,
      and_both _ _ name.1 (and_both _ _ (high_enough f.0) (and_both _ _ (low_enough f.0 f.1) (not_any _ f.2))),
    )
