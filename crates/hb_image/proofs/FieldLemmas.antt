-- A field that is read is the field that was written, and what was written is read again.
use Rattle.std.proofs.Common.{◌≡◌, ℕ, suc, ◌+◌, ◌^◌, ◌<◌, ◌≤◌, Bool, true, false, cond, ltb, List, [], ◌∷◌, ◌++◌, length, get_or, take, drop, Result, Ok, Err, refl, sym, ap, subst, ◌∙◌, append_assoc, arith, inl, inr}
use Rattle.std.specs.Prelude.{codes}
use Rattle.std.specs.Int.{Width, w16, w32, byte_len, from_le_bytes, to_le_bytes}
use Rattle.std.specs.Str.{bytes_eq}
use Rattle.std.proofs.lemmas.Bool.{cases_lt, ltb-false, le-ltb}
use Rattle.std.proofs.lemmas.List.{take_at, drop_at, take-append-drop, length-append, length-take, get_or-drop, get_or-take, get_or_past}
use Rattle.std.proofs.lemmas.Nat.{le_bytes_2, le_bytes_4, from_le_bytes-to_le_bytes_2, from_le_bytes-to_le_bytes_4}
use Rattle.std.proofs.lemmas.Slice.Eq.{bytes_eq-Decides}
use Rattle.hb_image.specs.declared.fault.Field.{Field}
use Rattle.hb_image.specs.declared.fault.Field.TheVariants as fields
use Rattle.hb_image.specs.declared.fault.ImageError.{ImageError}
use Rattle.hb_image.specs.declared.fault.ImageError.TheVariants.{Short}
use Rattle.hb_image.specs.Reading.{◌>>=◌, kept, bytes_at, byte_at, number_at, field_at, byte_field_at, magic_at}

abbrev pub IsBytes : List ℕ → Type 0
IsBytes bytes = (i : ℕ) → get_or bytes i 0 < 256

IsBytes-drop : (n : ℕ) (bytes : List ℕ) → IsBytes bytes → IsBytes (drop n bytes)
IsBytes-drop n bytes h i = rw get_or-drop (h (n + i))

IsBytes-take : (n : ℕ) (bytes : List ℕ) → IsBytes bytes → IsBytes (take n bytes)
IsBytes-take n bytes h i =
    elim (cases_lt i n) [
      | inl lt ↦ rw (get_or-take n bytes i 0 lt) (h i)
      | inr le ↦ rw (get_or_past (take n bytes) i 0 (omega (arith, length-take n bytes))) (omega arith)
    ]

IsBytes-rest : (b : ℕ) (bytes : List ℕ) → IsBytes (b ∷ bytes) → IsBytes bytes
IsBytes-rest b bytes h i = h (suc i)

-- the value of a step that did not fail
pub bind_ok : {A B : Type 0} (r : Result A ImageError) (f : A → Result B ImageError) (y : B) → (r >>= f) ≡ Ok y → (x : A) × (r ≡ Ok x) × (f x ≡ Ok y)
bind_ok (Ok x) f y e = (x, refl, e)
bind_ok (Err d) f y e = absurd cc

-- a field that kept its rule
pub kept_ok : {A : Type 0} (field : Field) (b : Bool) (x y : A) → kept field b x ≡ Ok y → (b ≡ true) × (x ≡ y)
kept_ok field true x y e = (refl, cc)
kept_ok field false x y e = absurd cc

not_short : {A : Type 0} (b : Bool) (x y : A) → cond b (Err Short) (Ok x) ≡ Ok y → (b ≡ false) × (x ≡ y)
not_short true x y e = absurd cc
not_short false x y e = (refl, cc)

abbrev pub done : {A : Type 0} → A → Result A ImageError
done x = Ok x

pub ok_is : {A : Type 0} (x y : A) → done x ≡ done y → x ≡ y
ok_is x y e = cc

-- what a reader took from the front
pub record Takes (bytes text rest : List ℕ) : Type 0 where
  pub parts : bytes ≡ text ++ rest
  pub rest_fits : IsBytes rest

pub Takes-then : (a x b y c : List ℕ) → Takes a x b → Takes b y c → Takes a (x ++ y) c
Takes-then a x b y c p q = record { parts = p.parts ∙ ap (λ (t : List ℕ). x ++ t) q.parts ∙ sym (append_assoc x y c); rest_fits = q.rest_fits }

-- ---- bytes

pub bytes_takes : (n : ℕ) (bytes text rest : List ℕ) → IsBytes bytes → bytes_at n bytes ≡ Ok (text, rest) → Takes bytes text rest × (length text ≡ n) × IsBytes text
bytes_takes n bytes text rest fits e =
    let g = not_short (ltb (length bytes) n) (take n bytes, drop n bytes) (text, rest) e in
    let long : n ≤ length bytes = ltb-false _ _ g.0 in
    let len : length (take n bytes) ≡ n = omega (arith, length-take n bytes) in
    let taken : Takes bytes (take n bytes) (drop n bytes) = record { parts = sym (take-append-drop n bytes); rest_fits = IsBytes-drop n bytes fits } in
    subst (λ (p : List ℕ × List ℕ). Takes bytes p.0 p.1 × (length p.0 ≡ n) × IsBytes p.0) g.1 (taken, len, IsBytes-take n bytes fits)

pub bytes_again : (n : ℕ) (text rest : List ℕ) → length text ≡ n → bytes_at n (text ++ rest) ≡ Ok (text, rest)
bytes_again n text rest len =
    let long : ltb (length (text ++ rest)) n ≡ false = le-ltb _ _ (omega (arith, length-append text rest)) in
    rw (long, take_at text rest n len, drop_at text rest n len) refl

pub byte_takes : (bytes : List ℕ) (n : ℕ) (rest : List ℕ) → IsBytes bytes → byte_at bytes ≡ Ok (n, rest) → Takes bytes (n ∷ []) rest
byte_takes [] n rest fits e = absurd cc
byte_takes (b ∷ bytes) n rest fits e =
    subst (λ (p : ℕ × List ℕ). Takes (b ∷ bytes) (p.0 ∷ []) p.1) (ok_is (b, bytes) (n, rest) e) (record { parts = refl; rest_fits = IsBytes-rest b bytes fits })

-- ---- numbers

pub record IsWide (w : Width) (limit : ℕ) : Type 0 where
  pub len : (n : ℕ) → length (to_le_bytes w n) ≡ byte_len w
  pub back : (bytes : List ℕ) → length bytes ≡ byte_len w → IsBytes bytes → to_le_bytes w (from_le_bytes w bytes) ≡ bytes
  pub again : (n : ℕ) → n < limit → from_le_bytes w (to_le_bytes w n) ≡ n
  pub below : (bytes : List ℕ) → IsBytes bytes → from_le_bytes w bytes < limit

pub wide16 : IsWide w16 (2 ^ 16)
wide16 = record {
  len = λ n. refl;
  back = λ bytes len fits. le_bytes_2 bytes _ len fits refl;
  again = λ n lt. from_le_bytes-to_le_bytes_2 n lt;
  below = λ bytes fits. omega (arith, fits 0, fits 1);
}

pub wide32 : IsWide w32 (2 ^ 32)
wide32 = record {
  len = λ n. refl;
  back = λ bytes len fits. le_bytes_4 bytes _ len fits refl;
  again = λ n lt. from_le_bytes-to_le_bytes_4 n lt;
  below = λ bytes fits. omega (arith, fits 0, fits 1, fits 2, fits 3);
}

pub number_takes : (w : Width) (limit : ℕ) (wide : IsWide w limit) (bytes : List ℕ) (n : ℕ) (rest : List ℕ) → IsBytes bytes → number_at w bytes ≡ Ok (n, rest) → Takes bytes (to_le_bytes w n) rest × (n < limit)
number_takes w limit wide bytes n rest fits e =
    let b = bind_ok (bytes_at (byte_len w) bytes) (λ n. Ok (from_le_bytes w n.0, n.1)) (n, rest) e in
    let t = bytes_takes (byte_len w) bytes b.0.0 b.0.1 fits b.1 in
    let taken : Takes bytes (to_le_bytes w (from_le_bytes w b.0.0)) b.0.1 = rw (wide.back b.0.0 t.1 t.2) t.0 in
    subst (λ (p : ℕ × List ℕ). Takes bytes (to_le_bytes w p.0) p.1 × (p.0 < limit)) (ok_is (from_le_bytes w b.0.0, b.0.1) (n, rest) b.2) (taken, wide.below b.0.0 t.2)

pub number_again : (w : Width) (limit : ℕ) (wide : IsWide w limit) (n : ℕ) (rest : List ℕ) → n < limit → number_at w (to_le_bytes w n ++ rest) ≡ Ok (n, rest)
number_again w limit wide n rest lt = rw (bytes_again (byte_len w) (to_le_bytes w n) rest (wide.len n), wide.again n lt) refl

-- ---- fields

-- what a field with a rule took
pub record TakesField (bytes text : List ℕ) (rule : Bool) (rest : List ℕ) : Type 0 where
  pub takes : Takes bytes text rest
  pub keeps : rule ≡ true

pub field_takes : (field : Field) (rule : ℕ → Bool) (w : Width) (limit : ℕ) (wide : IsWide w limit) (bytes : List ℕ) (n : ℕ) (rest : List ℕ) → IsBytes bytes → field_at field rule w bytes ≡ Ok (n, rest)
    → TakesField bytes (to_le_bytes w n) (rule n) rest × (n < limit)
field_takes field rule w limit wide bytes n rest fits e =
    let b = bind_ok (number_at w bytes) (λ n. kept field (rule n.0) n) (n, rest) e in
    let k = kept_ok field (rule b.0.0) b.0 (n, rest) b.2 in
    let t = number_takes w limit wide bytes b.0.0 b.0.1 fits b.1 in
    subst (λ (p : ℕ × List ℕ). TakesField bytes (to_le_bytes w p.0) (rule p.0) p.1 × (p.0 < limit)) k.1 (record { takes = t.0; keeps = k.0 }, t.1)

pub field_again : (field : Field) (rule : ℕ → Bool) (w : Width) (limit : ℕ) (wide : IsWide w limit) (n : ℕ) (rest : List ℕ) → n < limit → rule n ≡ true → field_at field rule w (to_le_bytes w n ++ rest) ≡ Ok (n, rest)
field_again field rule w limit wide n rest lt keeps = rw (number_again w limit wide n rest lt, keeps) refl

pub byte_field_takes : (field : Field) (rule : ℕ → Bool) (bytes : List ℕ) (n : ℕ) (rest : List ℕ) → IsBytes bytes → byte_field_at field rule bytes ≡ Ok (n, rest) → TakesField bytes (n ∷ []) (rule n) rest
byte_field_takes field rule bytes n rest fits e =
    let b = bind_ok (byte_at bytes) (λ n. kept field (rule n.0) n) (n, rest) e in
    let k = kept_ok field (rule b.0.0) b.0 (n, rest) b.2 in
    let t = byte_takes bytes b.0.0 b.0.1 fits b.1 in
    subst (λ (p : ℕ × List ℕ). TakesField bytes (p.0 ∷ []) (rule p.0) p.1) k.1 (record { takes = t; keeps = k.0 })

pub byte_field_again : (field : Field) (rule : ℕ → Bool) (n : ℕ) (rest : List ℕ) → rule n ≡ true → byte_field_at field rule (n ∷ rest) ≡ Ok (n, rest)
byte_field_again field rule n rest keeps = rw keeps refl

-- ---- the magic

pub magic_takes : (bytes magic rest : List ℕ) → IsBytes bytes → magic_at bytes ≡ Ok (magic, rest) → Takes bytes (codes "HBIM") rest
unfolding magic_at
magic_takes bytes magic rest fits e =
    let b = bind_ok (bytes_at 4 bytes) (λ magic. kept fields.Magic (bytes_eq magic.0 (codes "HBIM")) magic) (magic, rest) e in
    let k = kept_ok fields.Magic (bytes_eq b.0.0 (codes "HBIM")) b.0 (magic, rest) b.2 in
    let t = bytes_takes 4 bytes b.0.0 b.0.1 fits b.1 in
    let same : b.0.0 ≡ codes "HBIM" = (bytes_eq-Decides b.0.0 (codes "HBIM")).0 k.0 in
    let after : b.0.1 ≡ rest = ap (λ (p : List ℕ × List ℕ). p.1) k.1 in
    subst (λ (r : List ℕ). Takes bytes (codes "HBIM") r) after (subst (λ (m : List ℕ). Takes bytes m b.0.1) same t.0)

pub magic_again : (rest : List ℕ) → magic_at (codes "HBIM" ++ rest) ≡ Ok (codes "HBIM", rest)
unfolding magic_at
magic_again rest = rw (bytes_again 4 (codes "HBIM") rest refl) refl
