-- A store changes the memory exactly at its addresses, and a load gives what was stored there last.
use Rattle.std.proofs.Common.{◌≡◌, ◌≢◌, ℕ, zero, suc, ◌+◌, ◌-◌, ◌*◌, ◌/◌, ◌%◌, ◌^◌, ◌<◌, ◌≤◌, ◌⊎◌, inl, inr, ⊎_elim, Bool, true, false, ◌&&◌, if◌then◌else◌, List, [], ◌∷◌, length, slice_get, slice_index, slice_set, Option, Some, None, nat_le, unwrap_or, refl, ap, sym, ◌∙◌, subst, arith, length-set}
use Rattle.std.proofs.lemmas.Bool.{leb-true, le-leb, lt-leb, and_parts, cases_lt}
use Rattle.std.proofs.lemmas.List.{length-replicate}
use Rattle.std.proofs.lemmas.Nat.{mod-pow-add}
use Rattle.std.proofs.lemmas.Option.{get_or_from_slice_get, slice_get_past, unwrap_or-slice_get}
use Rattle.hb_isa.specs.Memory.{Region, Memory, byte_in, byte_at, byte_of, end_of, is_within, number_at, put_number, number_in, put_in, load, store, zeroed, AreApart}

-- ---- lists of bytes

pub slice_get-set_same : (xs : List ℕ) (i v : ℕ) → i < length xs → slice_get (slice_set xs i v) i ≡ Some v
slice_get-set_same [] i v h = absurd (omega arith)
slice_get-set_same (x ∷ xs) zero v h = refl
slice_get-set_same (x ∷ xs) (suc i) v h = slice_get-set_same xs i v (omega arith)

pub slice_get-set_other : (xs : List ℕ) (i j v : ℕ) → j ≢ i → slice_get (slice_set xs i v) j ≡ slice_get xs j
slice_get-set_other [] i j v h = refl
slice_get-set_other (x ∷ xs) zero zero v h = absurd (h refl)
slice_get-set_other (x ∷ xs) zero (suc j) v h = refl
slice_get-set_other (x ∷ xs) (suc i) zero v h = refl
slice_get-set_other (x ∷ xs) (suc i) (suc j) v h = slice_get-set_other xs i j v (λ e. h (ap (λ n. suc n) e))

pub length-put_number : (bytes : List ℕ) (place size number : ℕ) → length (put_number bytes place size number) ≡ length bytes
unfolding put_number
length-put_number bytes place zero number = refl
length-put_number bytes place (suc size) number =
    length-put_number (slice_set bytes place (number % 256)) (place + 1) size (number / 256) ∙ length-set bytes place (number % 256)

pub put_number-other : (bytes : List ℕ) (place size number j : ℕ) → (j < place) ⊎ (place + size ≤ j) → slice_get (put_number bytes place size number) j ≡ slice_get bytes j
unfolding put_number
put_number-other bytes place zero number j apart = refl
put_number-other bytes place (suc size) number j apart =
    put_number-other (slice_set bytes place (number % 256)) (place + 1) size (number / 256) j (later apart)
    ∙ slice_get-set_other bytes place j (number % 256) (not_here apart)
  where
    later : (j < place) ⊎ (place + suc size ≤ j) → (j < place + 1) ⊎ (place + 1 + size ≤ j)
    later (inl h) = inl (omega arith)
    later (inr h) = inr (omega arith)

    not_here : (j < place) ⊎ (place + suc size ≤ j) → j ≢ place
    not_here (inl h) = omega arith
    not_here (inr h) = omega arith

pub put_number-same : (bytes : List ℕ) (place size number i : ℕ) → place + size ≤ length bytes → i < size → slice_get (put_number bytes place size number) (place + i) ≡ Some (byte_of number i)
unfolding put_number byte_of
put_number-same bytes place zero number i fits h = absurd (omega arith)
put_number-same bytes place (suc size) number zero fits h =
    let e : place + zero ≡ place = omega arith in
    let fit : place < length bytes = omega arith in
    rw e (put_number-other (slice_set bytes place (number % 256)) (place + 1) size (number / 256) place (inl (omega arith))
    ∙ slice_get-set_same bytes place (number % 256) fit)
put_number-same bytes place (suc size) number (suc i) fits h =
    let e : place + suc i ≡ place + 1 + i = omega arith in
    rw e (put_number-same (slice_set bytes place (number % 256)) (place + 1) size (number / 256) i (omega (arith, length-set bytes place (number % 256))) (omega arith))

-- two lists with the same bytes from a place on hold the same number there
pub number_at-same : (xs ys : List ℕ) (place size : ℕ) → ((i : ℕ) → place ≤ i → i < place + size → slice_index xs i ≡ slice_index ys i) → number_at xs place size ≡ number_at ys place size
unfolding number_at
number_at-same xs ys place zero same = refl
number_at-same xs ys place (suc size) same =
    let first : slice_index xs place ≡ slice_index ys place = same place (omega arith) (omega arith) in
    let others : number_at xs (place + 1) size ≡ number_at ys (place + 1) size = number_at-same xs ys (place + 1) size (λ i low high. same i (omega arith) (omega arith)) in
    cc

pub number_at-put_number_same : (bytes : List ℕ) (place size number : ℕ) → place + size ≤ length bytes → number_at (put_number bytes place size number) place size ≡ number % 2 ^ (8 * size)
unfolding number_at put_number
number_at-put_number_same bytes place zero number fits = sym (one-mod number)
  where
    one-mod : (n : ℕ) → n % 2 ^ (8 * 0) ≡ 0
    one-mod n = omega arith
number_at-put_number_same bytes place (suc size) number fits =
    let low = slice_set bytes place (number % 256) in
    let fit : place < length bytes = omega arith in
    let here : slice_get (put_number low (place + 1) size (number / 256)) place ≡ Some (number % 256) =
    put_number-other low (place + 1) size (number / 256) place (inl (omega arith)) ∙ slice_get-set_same bytes place (number % 256) fit in
    let first : slice_index (put_number low (place + 1) size (number / 256)) place ≡ number % 256 = get_or_from_slice_get _ place (number % 256) 0 here in
    let others : number_at (put_number low (place + 1) size (number / 256)) (place + 1) size ≡ number / 256 % 2 ^ (8 * size) =
    number_at-put_number_same low (place + 1) size (number / 256) (omega (arith, length-set bytes place (number % 256))) in
    let e : 8 * suc size ≡ 8 * size + 8 = omega arith in
    rw (first, others, e, mod-pow-add number (8 * size) 8) (sum (number % 256) (number / 256 % 2 ^ (8 * size)))
  where
    sum : (a b : ℕ) → a + 256 * b ≡ b * 256 + a
    sum a b = omega arith

-- ---- one region

pub within-bounds : (r : Region) (address size : ℕ) → is_within r address size ≡ true → (r.base ≤ address) × (address + size ≤ end_of r)
within-bounds r address size h =
    let parts = and_parts (nat_le r.base address) (nat_le (address + size) (end_of r)) h in
    (leb-true _ _ parts.0, leb-true _ _ parts.1)

-- the same in parts, for the search
pub within-low : (r : Region) (address size : ℕ) → is_within r address size ≡ true → r.base ≤ address
within-low r address size h = (within-bounds r address size h).0

pub within-high : (r : Region) (address size : ℕ) → is_within r address size ≡ true → address + size ≤ end_of r
within-high r address size h = (within-bounds r address size h).1

pub ruleset bounds = (within-low, within-high)

pub byte_in-below : (r : Region) (address : ℕ) → address < r.base → byte_in r address ≡ None
byte_in-below r address h = let low : nat_le r.base address ≡ false = lt-leb _ _ h in rw low refl

pub byte_in-past : (r : Region) (address : ℕ) → end_of r ≤ address → byte_in r address ≡ None
byte_in-past r address h =
    let low : nat_le r.base address ≡ true = le-leb _ _ (omega arith) in
    rw low (slice_get_past r.bytes (address - r.base) (omega arith))

pub byte_in-from : (r : Region) (address : ℕ) → r.base ≤ address → byte_in r address ≡ slice_get r.bytes (address - r.base)
byte_in-from r address h = let low : nat_le r.base address ≡ true = le-leb _ _ h in rw low refl

pub byte_in-put_same : (r : Region) (address size number i : ℕ) → is_within r address size ≡ true → i < size → byte_in (put_in r address size number) (address + i) ≡ Some (byte_of number i)
byte_in-put_same r address size number i h below =
    let bounds = within-bounds r address size h in
    let low : r.base ≤ address = bounds.0 in
    let high : address + size ≤ end_of r = bounds.1 in
    let e : address + i - r.base ≡ address - r.base + i = omega arith in
    byte_in-from (put_in r address size number) (address + i) (omega arith)
    ∙ rw e (put_number-same r.bytes (address - r.base) size number i (omega arith) below)

pub byte_in-put_other : (r : Region) (address size number q : ℕ) → is_within r address size ≡ true → (q < address) ⊎ (address + size ≤ q) → byte_in (put_in r address size number) q ≡ byte_in r q
byte_in-put_other r address size number q h apart = at (cases_lt q r.base)
  where
    at : (q < r.base) ⊎ (r.base ≤ q) → byte_in (put_in r address size number) q ≡ byte_in r q
    at (inl below) = byte_in-below (put_in r address size number) q below ∙ sym (byte_in-below r q below)
    at (inr above) =
        let bounds = within-bounds r address size h in
        let low : r.base ≤ address = bounds.0 in
        byte_in-from (put_in r address size number) q above
        ∙ put_number-other r.bytes (address - r.base) size number (q - r.base)
        (⊎_elim (λ l. inl (omega arith)) (λ g. inr (omega arith)) apart)
        ∙ sym (byte_in-from r q above)

-- ---- the memory

-- which region a store has changed
pub data Changes (address size number : ℕ) : Memory → Memory → Type 0 where
  InAreas : (memory : Memory) → is_within memory.areas address size ≡ true → Changes address size number memory (record memory { areas = put_in memory.areas address size number })
  InStack : (memory : Memory) → is_within memory.areas address size ≡ false → is_within memory.stack address size ≡ true → Changes address size number memory (record memory { stack = put_in memory.stack address size number })

some_same : (m n : Memory) → Some m ≡ Some n → m ≡ n
some_same m n e = cc

none_some : (m : Memory) → (None ≡ Some m) → ⊥
none_some m e = cc

pub changes : (memory : Memory) (address size number : ℕ) (new : Memory) → store memory address size number ≡ Some new → Changes address size number memory new
unfolding store
changes memory address size number new =
    pick (is_within memory.areas address size) (is_within memory.stack address size) refl refl
  where
    pick : (a s : Bool) → is_within memory.areas address size ≡ a → is_within memory.stack address size ≡ s
        → (if a then Some (record memory { areas = put_in memory.areas address size number }) else (if s then Some (record memory { stack = put_in memory.stack address size number }) else None)) ≡ Some new
        → Changes address size number memory new
    pick true s p q e = subst (λ (m : Memory). Changes address size number memory m) (some_same _ _ e) (InAreas memory p)
    pick false true p q e = subst (λ (m : Memory). Changes address size number memory m) (some_same _ _ e) (InStack memory p q)
    pick false false p q e = absurd (none_some new e)

-- a byte of the areas stands before one of the stack region
pub byte_at-areas : (memory : Memory) (address byte : ℕ) → byte_in memory.areas address ≡ Some byte → byte_at memory address ≡ Some byte
unfolding byte_at
byte_at-areas memory address byte e = rw e refl

pub byte_at-stack : (memory : Memory) (address : ℕ) → AreApart memory → memory.stack.base ≤ address → byte_at memory address ≡ byte_in memory.stack address
unfolding byte_at
byte_at-stack memory address apart h =
    let e : byte_in memory.areas address ≡ None = byte_in-past memory.areas address (omega (arith, apart.apart)) in
    rw e refl

pub byte_at-same : (memory new : Memory) (address : ℕ) → byte_in new.areas address ≡ byte_in memory.areas address → byte_in new.stack address ≡ byte_in memory.stack address → byte_at new address ≡ byte_at memory address
unfolding byte_at
byte_at-same memory new address p q = rw (p, q) refl

-- the bytes of a store are those of its number
pub byte_at-store_same : (memory new : Memory) (address size number i : ℕ) → AreApart memory → store memory address size number ≡ Some new → i < size → byte_at new (address + i) ≡ Some (byte_of number i)
byte_at-store_same memory new address size number i apart e below = by_region memory new apart (changes memory address size number new e)
  where
    by_region : (m n : Memory) → AreApart m → Changes address size number m n → byte_at n (address + i) ≡ Some (byte_of number i)
    by_region m _ apart (InAreas m' h) = byte_at-areas _ (address + i) (byte_of number i) (byte_in-put_same m'.areas address size number i h below)
    by_region m _ apart (InStack m' out h) =
        let bounds = within-bounds m'.stack address size h in
        let low : m'.stack.base ≤ address = bounds.0 in
        byte_at-stack _ (address + i) (record { apart = apart.apart }) (omega arith) ∙ byte_in-put_same m'.stack address size number i h below

-- every other byte is as it was
pub byte_at-store_other : (memory new : Memory) (address size number q : ℕ) → store memory address size number ≡ Some new → (q < address) ⊎ (address + size ≤ q) → byte_at new q ≡ byte_at memory q
byte_at-store_other memory new address size number q e apart = by_region memory new (changes memory address size number new e)
  where
    by_region : (m n : Memory) → Changes address size number m n → byte_at n q ≡ byte_at m q
    by_region _ _ (InAreas m h) = byte_at-same m (record m { areas = put_in m.areas address size number }) q (byte_in-put_other m.areas address size number q h apart) refl
    by_region _ _ (InStack m out h) = byte_at-same m (record m { stack = put_in m.stack address size number }) q refl (byte_in-put_other m.stack address size number q h apart)

-- a store leaves the regions where they are
pub end_of-put_in : (r : Region) (address size number : ℕ) → end_of (put_in r address size number) ≡ end_of r
end_of-put_in r address size number = ap (λ n. r.base + n) (length-put_number r.bytes (address - r.base) size number)

pub AreApart-store : (memory new : Memory) (address size number : ℕ) → AreApart memory → store memory address size number ≡ Some new → AreApart new
AreApart-store memory new address size number apart e = by_region memory new apart (changes memory address size number new e)
  where
    by_region : (m n : Memory) → AreApart m → Changes address size number m n → AreApart n
    by_region _ _ apart (InAreas m h) = record { apart = rw end_of-put_in apart.apart }
    by_region _ _ apart (InStack m out h) = record { apart = apart.apart }

-- ---- loads

pub is_within-put_in : (r : Region) (address size number a n : ℕ) → is_within (put_in r address size number) a n ≡ is_within r a n
is_within-put_in r address size number a n = ap (λ e. nat_le r.base a && nat_le (a + n) e) (end_of-put_in r address size number)

slice_index-same : (xs ys : List ℕ) (i : ℕ) → slice_get xs i ≡ slice_get ys i → slice_index xs i ≡ slice_index ys i
slice_index-same xs ys i e = sym (unwrap_or-slice_get xs i 0) ∙ ap (λ (o : Option ℕ). unwrap_or o 0) e ∙ unwrap_or-slice_get ys i 0

pub number_in-put_same : (r : Region) (address size number : ℕ) → is_within r address size ≡ true → number_in (put_in r address size number) address size ≡ number % 2 ^ (8 * size)
number_in-put_same r address size number h =
    let bounds = within-bounds r address size h in
    let low : r.base ≤ address = bounds.0 in
    let high : address + size ≤ end_of r = bounds.1 in
    number_at-put_number_same r.bytes (address - r.base) size number (omega arith)

pub number_in-put_other : (r : Region) (address size number a n : ℕ) → is_within r address size ≡ true → is_within r a n ≡ true → (a + n ≤ address) ⊎ (address + size ≤ a)
    → number_in (put_in r address size number) a n ≡ number_in r a n
number_in-put_other r address size number a n h g apart =
    let bounds = within-bounds r address size h in
    let low : r.base ≤ address = bounds.0 in
    let other_bounds = within-bounds r a n g in
    let other_low : r.base ≤ a = other_bounds.0 in
    number_at-same _ _ (a - r.base) n
    (λ i from below. slice_index-same _ _ i (put_number-other r.bytes (address - r.base) size number i
    (⊎_elim (λ l. inl (omega arith)) (λ l. inr (omega arith)) apart)))

pub load-same : (m new : Memory) (a n : ℕ) → is_within new.areas a n ≡ is_within m.areas a n → is_within new.stack a n ≡ is_within m.stack a n
    → (is_within m.areas a n ≡ true → number_in new.areas a n ≡ number_in m.areas a n)
    → (is_within m.stack a n ≡ true → number_in new.stack a n ≡ number_in m.stack a n)
    → load new a n ≡ load m a n
unfolding load
load-same m new a n p q in_areas in_stack = rw (p, q) (by_region (is_within m.areas a n) (is_within m.stack a n) refl refl)
  where
    by_region : (b c : Bool) → is_within m.areas a n ≡ b → is_within m.stack a n ≡ c
        → (if b then Some (number_in new.areas a n) else (if c then Some (number_in new.stack a n) else None))
        ≡ (if b then Some (number_in m.areas a n) else (if c then Some (number_in m.stack a n) else None))
    by_region true c h g = ap (λ (number : ℕ). Some number) (in_areas h)
    by_region false true h g = ap (λ (number : ℕ). Some number) (in_stack g)
    by_region false false h g = refl

-- what is loaded where it was stored
pub load-store_same : (memory new : Memory) (address size number : ℕ) → store memory address size number ≡ Some new → load new address size ≡ Some (number % 2 ^ (8 * size))
unfolding load
load-store_same memory new address size number e = by_region memory new (changes memory address size number new e)
  where
    in_areas : (m : Memory) → is_within m.areas address size ≡ true → load m address size ≡ Some (number_in m.areas address size)
    in_areas m h = rw h refl

    in_stack : (m : Memory) → is_within m.areas address size ≡ false → is_within m.stack address size ≡ true → load m address size ≡ Some (number_in m.stack address size)
    in_stack m out h = rw (out, h) refl

    by_region : (m n : Memory) → Changes address size number m n → load n address size ≡ Some (number % 2 ^ (8 * size))
    by_region _ _ (InAreas m h) =
        in_areas (record m { areas = put_in m.areas address size number }) (is_within-put_in m.areas address size number address size ∙ h)
        ∙ ap (λ (v : ℕ). Some v) (number_in-put_same m.areas address size number h)
    by_region _ _ (InStack m out h) =
        in_stack (record m { stack = put_in m.stack address size number }) out (is_within-put_in m.stack address size number address size ∙ h)
        ∙ ap (λ (v : ℕ). Some v) (number_in-put_same m.stack address size number h)

-- what is loaded elsewhere
pub load-store_other : (memory new : Memory) (address size number a n : ℕ) → store memory address size number ≡ Some new → (a + n ≤ address) ⊎ (address + size ≤ a) → load new a n ≡ load memory a n
load-store_other memory new address size number a n e apart = by_region memory new (changes memory address size number new e)
  where
    by_region : (m k : Memory) → Changes address size number m k → load k a n ≡ load m a n
    by_region _ _ (InAreas m h) = load-same m (record m { areas = put_in m.areas address size number }) a n (is_within-put_in m.areas address size number a n) refl
        (λ g. number_in-put_other m.areas address size number a n h g apart) (λ g. refl)
    by_region _ _ (InStack m out h) = load-same m (record m { stack = put_in m.stack address size number }) a n refl (is_within-put_in m.stack address size number a n)
        (λ g. refl) (λ g. number_in-put_other m.stack address size number a n h g apart)

-- ---- at the start

pub AreApart-zeroed : (areas stack : ℕ) → areas ≤ 16777216 → stack ≤ 16777216 → AreApart (zeroed areas stack)
unfolding zeroed
AreApart-zeroed areas stack h g = record { apart = omega (arith, length-replicate {A = ℕ}) }
