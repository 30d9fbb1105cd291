-- Ports that are read are the ports that were written, and keep the rules.
use Rattle.std.proofs.Common.{◌≡◌, ℕ, zero, suc, ◌+◌, ◌%◌, ◌^◌, ◌<◌, ◌≤◌, Bool, true, false, leb, eqb, not, ◌&&◌, ◌||◌, List, [], ◌∷◌, ◌++◌, length, All, Ok, refl, sym, ap, subst, ◌∙◌, append_assoc, arith, inl, inr}
use Rattle.std.specs.Prelude.{AllPairs}
use Rattle.std.specs.Int.{w32, to_le_bytes}
use Rattle.std.specs.List.{list_all, list_any, flat_map}
use Rattle.std.specs.Str.{bytes_eq}
use Rattle.std.proofs.lemmas.Bool.{leb-true, eqb-true, eq-eqb, le-leb, and_parts, and_from, or_cases, or_left, or_right}
use Rattle.std.proofs.lemmas.List.Elements.{All-head, All-tail, All-cons, All-push}
use Rattle.std.proofs.lemmas.List.{append-nil, length-append, get_or_at, get_or_append_left}
use Rattle.std.proofs.lemmas.List.Quantifiers.{all_pairs_push}
use Rattle.std.proofs.lemmas.Slice.Eq.{bytes_eq-Decides}
use Rattle.hb_base.specs.PortName.{is_port_name}
use Rattle.hb_base.specs.Ports.{IsWidth, IsPort, AreApart, HaveTwoNames}
use Rattle.hb_base.specs.declared.port.Dir.{Dir}
use Rattle.hb_base.specs.declared.port.Dir.TheVariants.{In, Out}
use Rattle.hb_base.specs.declared.port.Port.{Port}
use Rattle.hb_image.specs.declared.fault.Field.TheVariants as fields
use Rattle.hb_image.specs.Format.{kind, port_spelling}
use Rattle.hb_image.specs.Reading.{◌>>=◌, kept, bytes_at, byte_field_at, dir_from, kind_at, is_width, width_at, length_at, is_apart, is_address, address_at, is_new_name, name_at, port_at, ports_at}
use Rattle.hb_image.proofs.FieldLemmas.{IsBytes, bind_ok, kept_ok, ok_is, Takes, Takes-then, TakesField, wide32, bytes_takes, bytes_again, field_takes, field_again, byte_field_takes, byte_field_again}

-- ---- kind, width, length

kind_back : (k : ℕ) → leb k 1 ≡ true → kind (dir_from k) ≡ k
kind_back zero e = refl
kind_back (suc zero) e = refl
kind_back (suc (suc k)) e = absurd (omega (arith, leb-true (suc (suc k)) 1 e))

kind_takes : (bytes : List ℕ) (dir : Dir) (rest : List ℕ) → IsBytes bytes → kind_at bytes ≡ Ok (dir, rest) → Takes bytes (kind dir ∷ []) rest
unfolding kind_at
kind_takes bytes dir rest fits e =
    let b = bind_ok (byte_field_at fields.Kind (λ n. leb n 1) bytes) (λ k. Ok (dir_from k.0, k.1)) (dir, rest) e in
    let t = byte_field_takes fields.Kind (λ n. leb n 1) bytes b.0.0 b.0.1 fits b.1 in
    let taken : Takes bytes (kind (dir_from b.0.0) ∷ []) b.0.1 = rw (kind_back b.0.0 t.keeps) t.takes in
    subst (λ (p : Dir × List ℕ). Takes bytes (kind p.0 ∷ []) p.1) (ok_is (dir_from b.0.0, b.0.1) (dir, rest) b.2) taken

kind_again : (dir : Dir) (rest : List ℕ) → kind_at (kind dir ∷ rest) ≡ Ok (dir, rest)
unfolding kind_at
kind_again In rest = refl
kind_again Out rest = refl

width_rule : (n : ℕ) → is_width n ≡ true → IsWidth n
width_rule n e =
    elim (or_cases (eqb n 1) (eqb n 2 || eqb n 4) e) [
      | inl one ↦ inl (eqb-true n 1 one)
      | inr more ↦ elim (or_cases (eqb n 2) (eqb n 4) more) [ inl two ↦ inr (inl (eqb-true n 2 two)) | inr four ↦ inr (inr (eqb-true n 4 four)) ]
    ]

width_test : (n : ℕ) → IsWidth n → is_width n ≡ true
width_test n (inl one) = or_left (eqb n 1) (eqb n 2 || eqb n 4) (eq-eqb n 1 one)
width_test n (inr (inl two)) = or_right (eqb n 1) (eqb n 2 || eqb n 4) (or_left (eqb n 2) (eqb n 4) (eq-eqb n 2 two))
width_test n (inr (inr four)) = or_right (eqb n 1) (eqb n 2 || eqb n 4) (or_right (eqb n 2) (eqb n 4) (eq-eqb n 4 four))

abbrev is_length : ℕ → Bool
is_length n = leb 1 n && leb n 64

-- ---- how a port stands to those before it

-- a test of each, and a fact of each
all_from_test : (test : Port → Bool) (P : Port → Type 0) → ((x : Port) → test x ≡ true → P x) → (xs : List Port) → list_all test xs ≡ true → All P xs
all_from_test test P gives [] e = λ k d lt. absurd (omega arith)
all_from_test test P gives (x ∷ xs) e =
    let both = and_parts (test x) (list_all test xs) e in
    All-cons P x xs (gives x both.0) (all_from_test test P gives xs both.1)

all_to_test : (test : Port → Bool) (P : Port → Type 0) → ((x : Port) → P x → test x ≡ true) → (xs : List Port) → All P xs → list_all test xs ≡ true
all_to_test test P gives [] h = refl
all_to_test test P gives (x ∷ xs) h = and_from (test x) (list_all test xs) (gives x (All-head P x xs h)) (all_to_test test P gives xs (All-tail P x xs h))

-- no test passes, and a fact of each
none_from_test : (test : Port → Bool) (P : Port → Type 0) → ((x : Port) → test x ≡ false → P x) → (xs : List Port) → not (list_any test xs) ≡ true → All P xs
none_from_test test P gives [] e = λ k d lt. absurd (omega arith)
none_from_test test P gives (x ∷ xs) e =
    let both = neither (test x) (list_any test xs) e in
    All-cons P x xs (gives x both.0) (none_from_test test P gives xs both.1)
  where
    neither : (a b : Bool) → not (a || b) ≡ true → (a ≡ false) × (not b ≡ true)
    neither true b e = absurd cc
    neither false b e = (refl, e)

none_to_test : (test : Port → Bool) (P : Port → Type 0) → ((x : Port) → P x → test x ≡ false) → (xs : List Port) → All P xs → not (list_any test xs) ≡ true
none_to_test test P gives [] h = refl
none_to_test test P gives (x ∷ xs) h = rw (gives x (All-head P x xs h)) (none_to_test test P gives xs (All-tail P x xs h))

apart_from : (p q : Port) → is_apart q.address q.width p ≡ true → AreApart p q
apart_from p q e =
    elim (or_cases (leb (p.address + p.width) q.address) (leb (q.address + q.width) p.address) e) [
      | inl below ↦ inl (leb-true _ _ below)
      | inr above ↦ inr (leb-true _ _ above)
    ]

apart_to : (p q : Port) → AreApart p q → is_apart q.address q.width p ≡ true
apart_to p q (inl below) = or_left (leb (p.address + p.width) q.address) (leb (q.address + q.width) p.address) (le-leb _ _ below)
apart_to p q (inr above) = or_right (leb (p.address + p.width) q.address) (leb (q.address + q.width) p.address) (le-leb _ _ above)

abbrev has_name : List ℕ → Port → Bool
has_name name p = bytes_eq p.name name

two_from : (p q : Port) → has_name q.name p ≡ false → HaveTwoNames p q
two_from p q e same =
    let t : has_name q.name p ≡ true = (bytes_eq-Decides p.name q.name).1 same in
    absurd cc

two_to : (p q : Port) → HaveTwoNames p q → has_name q.name p ≡ false
two_to p q two = by_answer (has_name q.name p) refl
  where
    by_answer : (b : Bool) → has_name q.name p ≡ b → b ≡ false
    by_answer true e = absurd (two ((bytes_eq-Decides p.name q.name).0 e))
    by_answer false e = refl

-- a port may come behind these
pub record Joins (ports : List Port) (port : Port) : Type 0 where
  pub is : IsPort port
  pub apart : All (λ p. AreApart p port) ports
  pub distinct : All (λ p. HaveTwoNames p port) ports

-- the rules of ports, but for their number
pub record KeepRules (ports : List Port) : Type 0 where
  pub each : All IsPort ports
  pub apart : AllPairs AreApart ports
  pub distinct : AllPairs HaveTwoNames ports

pub rules_push : (ports : List Port) (port : Port) → KeepRules ports → Joins ports port → KeepRules (ports ++ port ∷ [])
rules_push ports port rules joins = record {
  each = All-push IsPort ports port rules.each joins.is;
  apart = all_pairs_push AreApart ports port rules.apart (λ k d lt. joins.apart k d lt);
  distinct = all_pairs_push HaveTwoNames ports port rules.distinct (λ k d lt. joins.distinct k d lt);
}

pub rules_join : (ports : List Port) (port : Port) (more : List Port) → KeepRules (ports ++ port ∷ more) → Joins ports port
rules_join ports port more rules =
    let long : length ports < length (ports ++ port ∷ more) = omega (arith, length-append ports (port ∷ more)) in
    let here = λ (d : Port). get_or_at ports port more d (length ports) refl in
    let is : IsPort port = subst IsPort (here port) (rules.each (length ports) port long) in
    record {
      is = is;
      apart = λ k d lt. rw (get_or_append_left ports (port ∷ more) d k lt, here d) at (rules.apart k (length ports) d lt long);
      distinct = λ k d lt. rw (get_or_append_left ports (port ∷ more) d k lt, here d) at (rules.distinct k (length ports) d lt long);
    }

-- ---- the fields of a port

width_takes : (bytes : List ℕ) (n : ℕ) (rest : List ℕ) → IsBytes bytes → width_at bytes ≡ Ok (n, rest) → TakesField bytes (n ∷ []) (is_width n) rest
unfolding width_at
width_takes bytes n rest fits e = byte_field_takes fields.Width is_width bytes n rest fits e

length_takes : (bytes : List ℕ) (n : ℕ) (rest : List ℕ) → IsBytes bytes → length_at bytes ≡ Ok (n, rest) → TakesField bytes (n ∷ []) (is_length n) rest
unfolding length_at
length_takes bytes n rest fits e = byte_field_takes fields.Length is_length bytes n rest fits e

address_takes : (ports : List Port) (width : ℕ) (bytes : List ℕ) (n : ℕ) (rest : List ℕ) → IsBytes bytes → address_at ports width bytes ≡ Ok (n, rest)
    → TakesField bytes (to_le_bytes w32 n) (is_address ports width n) rest × (n < 2 ^ 32)
unfolding address_at
address_takes ports width bytes n rest fits e = field_takes fields.Address (is_address ports width) w32 (2 ^ 32) wide32 bytes n rest fits e

name_takes : (ports : List Port) (len : ℕ) (bytes name rest : List ℕ) → IsBytes bytes → name_at ports len bytes ≡ Ok (name, rest) → TakesField bytes name (is_new_name ports name) rest × (length name ≡ len)
unfolding name_at
name_takes ports len bytes name rest fits e =
    let b = bind_ok (bytes_at len bytes) (λ name. kept fields.Name (is_new_name ports name.0) name) (name, rest) e in
    let k = kept_ok fields.Name (is_new_name ports b.0.0) b.0 (name, rest) b.2 in
    let t = bytes_takes len bytes b.0.0 b.0.1 fits b.1 in
    subst (λ (p : List ℕ × List ℕ). TakesField bytes p.0 (is_new_name ports p.0) p.1 × (length p.0 ≡ len)) k.1 (record { takes = t.0; keeps = k.0 }, t.1)

-- ---- a port

ends_within : (address width : ℕ) → IsWidth width → address < 2 ^ 32 → address % width ≡ 0 → address + width ≤ 2 ^ 32
ends_within address width (inl one) lt e = omega (arith, one, lt)
ends_within address width (inr (inl two)) lt e =
    let even : address % 2 ≡ 0 = rw two at e in
    omega (arith, two, lt, even)
ends_within address width (inr (inr four)) lt e =
    let whole : address % 4 ≡ 0 = rw four at e in
    omega (arith, four, lt, whole)

joins_from : (ports : List Port) (port : Port) → is_width port.width ≡ true → port.address < 2 ^ 32 → is_address ports port.width port.address ≡ true → is_new_name ports port.name ≡ true → Joins ports port
joins_from ports port width below address name =
    let wide = width_rule port.width width in
    let a = and_parts (leb (2 ^ 31) port.address) (eqb (port.address % port.width) 0 && list_all (is_apart port.address port.width) ports) address in
    let b = and_parts (eqb (port.address % port.width) 0) (list_all (is_apart port.address port.width) ports) a.1 in
    let n = and_parts (is_port_name port.name) (not (list_any (has_name port.name) ports)) name in
    let aligned : port.address % port.width ≡ 0 = eqb-true _ _ b.0 in
    let is : IsPort port = record { wide = wide; high = leb-true _ _ a.0; within = ends_within port.address port.width wide below aligned; aligned = aligned; named = n.0 } in
    record {
      is = is;
      apart = all_from_test (is_apart port.address port.width) (λ p. AreApart p port) (λ p e. apart_from p port e) ports b.1;
      distinct = none_from_test (has_name port.name) (λ p. HaveTwoNames p port) (λ p e. two_from p port e) ports n.1;
    }

pub port_takes : (ports : List Port) (bytes : List ℕ) (port : Port) (rest : List ℕ) → IsBytes bytes → port_at ports bytes ≡ Ok (port, rest) → Takes bytes (port_spelling port) rest × Joins ports port
unfolding port_at
port_takes ports bytes port rest fits e =
    let a = bind_ok (kind_at bytes) (λ dir. width_at dir.1 >>= λ width. length_at width.1 >>= λ len. address_at ports width.0 len.1 >>= λ address. name_at ports len.0 address.1 >>= λ name. Ok (record { name = name.0; dir = dir.0; width = width.0; address = address.0 }, name.1)) (port, rest) e in
    let b = bind_ok (width_at a.0.1) (λ width. length_at width.1 >>= λ len. address_at ports width.0 len.1 >>= λ address. name_at ports len.0 address.1 >>= λ name. Ok (record { name = name.0; dir = a.0.0; width = width.0; address = address.0 }, name.1)) (port, rest) a.2 in
    let c = bind_ok (length_at b.0.1) (λ len. address_at ports b.0.0 len.1 >>= λ address. name_at ports len.0 address.1 >>= λ name. Ok (record { name = name.0; dir = a.0.0; width = b.0.0; address = address.0 }, name.1)) (port, rest) b.2 in
    let d = bind_ok (address_at ports b.0.0 c.0.1) (λ address. name_at ports c.0.0 address.1 >>= λ name. Ok (record { name = name.0; dir = a.0.0; width = b.0.0; address = address.0 }, name.1)) (port, rest) c.2 in
    let f = bind_ok (name_at ports c.0.0 d.0.1) (λ name. Ok (record { name = name.0; dir = a.0.0; width = b.0.0; address = d.0.0 }, name.1)) (port, rest) d.2 in
    let t0 = kind_takes bytes a.0.0 a.0.1 fits a.1 in
    let t1 = width_takes a.0.1 b.0.0 b.0.1 t0.rest_fits b.1 in
    let t2 = length_takes b.0.1 c.0.0 c.0.1 t1.takes.rest_fits c.1 in
    let t3 = address_takes ports b.0.0 c.0.1 d.0.0 d.0.1 t2.takes.rest_fits d.1 in
    let t4 = name_takes ports c.0.0 d.0.1 f.0.0 f.0.1 t3.0.takes.rest_fits f.1 in
    let made : Port = record { name = f.0.0; dir = a.0.0; width = b.0.0; address = d.0.0 } in
    let e34 = Takes-then c.0.1 (to_le_bytes w32 d.0.0) d.0.1 f.0.0 f.0.1 t3.0.takes t4.0.takes in
    let e24 = Takes-then b.0.1 (c.0.0 ∷ []) c.0.1 (to_le_bytes w32 d.0.0 ++ f.0.0) f.0.1 t2.takes e34 in
    let e14 = Takes-then a.0.1 (b.0.0 ∷ []) b.0.1 (c.0.0 ∷ to_le_bytes w32 d.0.0 ++ f.0.0) f.0.1 t1.takes e24 in
    let e04 : Takes bytes (kind a.0.0 ∷ b.0.0 ∷ c.0.0 ∷ to_le_bytes w32 d.0.0 ++ f.0.0) f.0.1 = Takes-then bytes (kind a.0.0 ∷ []) a.0.1 (b.0.0 ∷ c.0.0 ∷ to_le_bytes w32 d.0.0 ++ f.0.0) f.0.1 t0 e14 in
    let whole : Takes bytes (port_spelling made) f.0.1 = subst (λ (k : ℕ). Takes bytes (kind a.0.0 ∷ b.0.0 ∷ k ∷ to_le_bytes w32 d.0.0 ++ f.0.0) f.0.1) (sym t4.1) e04 in
    let joins = joins_from ports made t1.keeps t3.1 t3.0.keeps t4.0.keeps in
    subst (λ (p : Port × List ℕ). Takes bytes (port_spelling p.0) p.1 × Joins ports p.0) (ok_is (made, f.0.1) (port, rest) f.2) (whole, joins)

name_long : (name : List ℕ) → is_port_name name ≡ true → is_length (length name) ≡ true
name_long [] e = absurd cc
name_long (c ∷ cs) e = and_from (leb 1 (length (c ∷ cs))) (leb (length (c ∷ cs)) 64) (le-leb 1 (length (c ∷ cs)) (omega arith)) (and_parts (leb (length (c ∷ cs)) 64) _ e).0

width_low : (n : ℕ) → IsWidth n → 1 ≤ n
width_low n (inl one) = omega (arith, one)
width_low n (inr (inl two)) = omega (arith, two)
width_low n (inr (inr four)) = omega (arith, four)

-- the tests that the fields of a port pass
record Passes (ports : List Port) (port : Port) : Type 0 where
  width : is_width port.width ≡ true
  long : is_length (length port.name) ≡ true
  below : port.address < 2 ^ 32
  address : is_address ports port.width port.address ≡ true
  name : is_new_name ports port.name ≡ true

passes : (ports : List Port) (port : Port) → Joins ports port → Passes ports port
passes ports port joins =
    let is = joins.is in
    let low = width_low port.width is.wide in
    record {
      width = width_test port.width is.wide;
      long = name_long port.name is.named;
      below = omega (arith, is.within, low);
      address = and_from (leb (2 ^ 31) port.address) (eqb (port.address % port.width) 0 && list_all (is_apart port.address port.width) ports) (le-leb _ _ is.high)
          (and_from (eqb (port.address % port.width) 0) (list_all (is_apart port.address port.width) ports) (eq-eqb _ _ is.aligned)
          (all_to_test (is_apart port.address port.width) (λ p. AreApart p port) (λ p h. apart_to p port h) ports joins.apart));
      name = and_from (is_port_name port.name) (not (list_any (has_name port.name) ports)) is.named
          (none_to_test (has_name port.name) (λ p. HaveTwoNames p port) (λ p h. two_to p port h) ports joins.distinct);
    }

width_again : (n : ℕ) (rest : List ℕ) → is_width n ≡ true → width_at (n ∷ rest) ≡ Ok (n, rest)
unfolding width_at
width_again n rest keeps = byte_field_again fields.Width is_width n rest keeps

length_again : (n : ℕ) (rest : List ℕ) → is_length n ≡ true → length_at (n ∷ rest) ≡ Ok (n, rest)
unfolding length_at
length_again n rest keeps = byte_field_again fields.Length is_length n rest keeps

address_again : (ports : List Port) (width n : ℕ) (rest : List ℕ) → n < 2 ^ 32 → is_address ports width n ≡ true → address_at ports width (to_le_bytes w32 n ++ rest) ≡ Ok (n, rest)
unfolding address_at
address_again ports width n rest lt keeps = field_again fields.Address (is_address ports width) w32 (2 ^ 32) wide32 n rest lt keeps

name_again : (ports : List Port) (name rest : List ℕ) → is_new_name ports name ≡ true → name_at ports (length name) (name ++ rest) ≡ Ok (name, rest)
unfolding name_at
name_again ports name rest keeps = rw (bytes_again (length name) name rest refl, keeps) refl

pub port_again : (ports : List Port) (port : Port) (rest : List ℕ) → Joins ports port → port_at ports (port_spelling port ++ rest) ≡ Ok (port, rest)
unfolding port_at
port_again ports port rest joins =
    let p = passes ports port joins in
    let after = to_le_bytes w32 port.address ++ (port.name ++ rest) in
    rw (
      kind_again port.dir (port.width ∷ length port.name ∷ after),
      width_again port.width (length port.name ∷ after) p.width,
      length_again (length port.name) after p.long,
      address_again ports port.width port.address (port.name ++ rest) p.below p.address,
      name_again ports port.name rest p.name,
    ) refl

-- ---- ports

-- these ports, and so many more
pub record TakesPorts (ports : List Port) (n : ℕ) (bytes : List ℕ) (all : List Port) (rest : List ℕ) : Type 0 where
  pub new : List Port
  pub is : all ≡ ports ++ new
  pub many : length new ≡ n
  pub takes : Takes bytes (flat_map port_spelling new) rest
  pub rules : KeepRules all

pub ports_take : (n : ℕ) (ports : List Port) (bytes : List ℕ) (all : List Port) (rest : List ℕ) → IsBytes bytes → KeepRules ports → ports_at n ports bytes ≡ Ok (all, rest) → TakesPorts ports n bytes all rest
unfolding ports_at
ports_take zero ports bytes all rest fits rules e =
    let start : TakesPorts ports 0 bytes ports bytes = record { new = []; is = sym (append-nil ports); many = refl; takes = record { parts = refl; rest_fits = fits }; rules = rules } in
    subst (λ (p : List Port × List ℕ). TakesPorts ports 0 bytes p.0 p.1) (ok_is (ports, bytes) (all, rest) e) start
ports_take (suc n) ports bytes all rest fits rules e =
    let a = bind_ok (port_at ports bytes) (λ port. ports_at n (ports ++ port.0 ∷ []) port.1) (all, rest) e in
    let first = port_takes ports bytes a.0.0 a.0.1 fits a.1 in
    let others = ports_take n (ports ++ a.0.0 ∷ []) a.0.1 all rest first.0.rest_fits (rules_push ports a.0.0 rules first.1) a.2 in
    let both = Takes-then bytes (port_spelling a.0.0) a.0.1 (flat_map port_spelling others.new) rest first.0 others.takes in
    record {
      new = a.0.0 ∷ others.new;
      is = others.is ∙ append_assoc ports (a.0.0 ∷ []) others.new;
      many = ap suc others.many;
      takes = both;
      rules = others.rules;
    }

pub ports_again : (new ports : List Port) (rest : List ℕ) → KeepRules (ports ++ new) → ports_at (length new) ports (flat_map port_spelling new ++ rest) ≡ Ok (ports ++ new, rest)
unfolding ports_at
ports_again [] ports rest rules = ap (λ (all : List Port). Ok (all, rest)) (sym (append-nil ports))
ports_again (port ∷ more) ports rest rules =
    let joins = rules_join ports port more rules in
    let regrouped : flat_map port_spelling (port ∷ more) ++ rest ≡ port_spelling port ++ (flat_map port_spelling more ++ rest) = append_assoc (port_spelling port) (flat_map port_spelling more) rest in
    let same : (ports ++ port ∷ []) ++ more ≡ ports ++ port ∷ more = append_assoc ports (port ∷ []) more in
    let others = ports_again more (ports ++ port ∷ []) rest (subst KeepRules (sym same) rules) in
    ap (ports_at (suc (length more)) ports) regrouped ∙ rw (port_again ports port (flat_map port_spelling more ++ rest) joins) (others ∙ ap (λ (all : List Port). Ok (all, rest)) same)
