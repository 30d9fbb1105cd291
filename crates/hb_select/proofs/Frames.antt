-- The words of a frame in the stack region, and what lies outside memory.
use Rattle.std.proofs.Common.{◌≡◌, ◌≢◌, ℕ, zero, suc, ◌+◌, ◌-◌, ◌*◌, ◌%◌, ◌^◌, ◌<◌, ◌≤◌, ◌⊎◌, inl, inr, true, false, nat_le, List, length, slice_index, slice_set, replicate, Some, None, refl, ap, sym, ◌∙◌, subst, arith, length-set, get_or-set_same, get_or-set_other}
use Rattle.std.proofs.lemmas.Bool.{lt-leb, le-leb, and_right, cases_lt}
use Rattle.std.proofs.lemmas.List.{length-replicate, get_or-replicate, get_or_past}
use Rattle.hb_isa.specs.Memory.{Region, Memory, zeroed, end_of, is_within, load, store, put_in, number_at}
use Rattle.hb_isa.proofs.MemoryLaws.{load-store_same, load-store_other, length-put_number}
use Rattle.hb_select.specs.Code.{address_of}

-- memory has no areas but a stack of so many bytes, whose top is a frame with these words
pub record IsFrame (stack : ℕ) (words : List ℕ) (memory : Memory) : Type 0 where
  pub low : 536870912 ≤ memory.areas.base
  pub areas : end_of memory.areas ≤ 536870912
  pub base : memory.stack.base ≡ 1073741824 - (stack + 1024)
  pub size : length memory.stack.bytes ≡ stack + 1024
  pub most : stack ≤ 16777216
  pub room : 4 * length words ≤ stack
  pub holds : (k : ℕ) → k < length words → load memory (address_of k) 4 ≡ Some (slice_index words k)
  pub fits : (k : ℕ) → k < length words → slice_index words k < 2 ^ 32

-- ---- which region an access lies in

past_end : (region : Region) (address size : ℕ) → end_of region < address + size → is_within region address size ≡ false
past_end region address size h =
    let high : nat_le (address + size) (end_of region) ≡ false = lt-leb (address + size) (end_of region) h in
    and_right (nat_le region.base address) (nat_le (address + size) (end_of region)) high

inside : (region : Region) (address size : ℕ) → region.base ≤ address → address + size ≤ end_of region → is_within region address size ≡ true
inside region address size low high =
    let a : nat_le region.base address ≡ true = le-leb _ _ low in
    let b : nat_le (address + size) (end_of region) ≡ true = le-leb _ _ high in
    rw (a, b) refl

-- ---- ports lie outside

pub no_load : (stack : ℕ) (words : List ℕ) (memory : Memory) (address size : ℕ) → IsFrame stack words memory → 2 ^ 31 ≤ address → load memory address size ≡ None
unfolding load
no_load stack words memory address size is h =
    let a : is_within memory.areas address size ≡ false = past_end memory.areas address size (omega (arith, is.areas)) in
    let b : is_within memory.stack address size ≡ false = past_end memory.stack address size (omega (arith, is.base, is.size)) in
    rw (a, b) refl

pub no_store : (stack : ℕ) (words : List ℕ) (memory : Memory) (address size number : ℕ) → IsFrame stack words memory → 2 ^ 31 ≤ address → store memory address size number ≡ None
unfolding store
no_store stack words memory address size number is h =
    let a : is_within memory.areas address size ≡ false = past_end memory.areas address size (omega (arith, is.areas)) in
    let b : is_within memory.stack address size ≡ false = past_end memory.stack address size (omega (arith, is.base, is.size)) in
    rw (a, b) refl

-- ---- setting a word

pub record Stored (stack : ℕ) (words : List ℕ) (memory : Memory) (k value : ℕ) : Type 0 where
  pub new : Memory
  pub stores : store memory (address_of k) 4 value ≡ Some new
  pub is : IsFrame stack (slice_set words k value) new

stores_word : (stack : ℕ) (words : List ℕ) (memory : Memory) (k value : ℕ) → IsFrame stack words memory → k < length words
    → store memory (address_of k) 4 value ≡ Some (record memory { stack = put_in memory.stack (address_of k) 4 value })
unfolding store
stores_word stack words memory k value is h =
    let a : is_within memory.areas (address_of k) 4 ≡ false = past_end memory.areas (address_of k) 4 (omega (arith, is.areas, is.room, is.most)) in
    let b : is_within memory.stack (address_of k) 4 ≡ true = inside memory.stack (address_of k) 4 (omega (arith, is.base, is.room, is.most)) (omega (arith, is.base, is.size, is.room, is.most)) in
    rw (a, b) refl

apart : (j k n stack : ℕ) → j ≢ k → j < n → k < n → 4 * n ≤ stack → stack ≤ 16777216 → (address_of j + 4 ≤ address_of k) ⊎ (address_of k + 4 ≤ address_of j)
apart j k n stack other h g room most = by (cases_lt j k)
  where
    by : (j < k) ⊎ (k ≤ j) → (address_of j + 4 ≤ address_of k) ⊎ (address_of k + 4 ≤ address_of j)
    by (inl l) = inr (omega arith)
    by (inr l) = inl (omega arith)

whole : (value : ℕ) → value < 2 ^ 32 → value % 2 ^ (8 * 4) ≡ value
whole value h = omega arith

pub sets_word : (stack : ℕ) (words : List ℕ) (memory : Memory) (k value : ℕ) → IsFrame stack words memory → k < length words → value < 2 ^ 32 → Stored stack words memory k value
sets_word stack words memory k value is h small =
    let new : Memory = record memory { stack = put_in memory.stack (address_of k) 4 value } in
    let e : store memory (address_of k) 4 value ≡ Some new = stores_word stack words memory k value is h in
    record {
      new = new;
      stores = e;
      is = record {
        low = is.low;
        areas = is.areas;
        base = is.base;
        size = length-put_number memory.stack.bytes (address_of k - memory.stack.base) 4 value ∙ is.size;
        most = is.most;
        room = subst (λ n. 4 * n ≤ stack) (sym (length-set words k value)) is.room;
        holds = λ j g. holds_at new e j (subst (λ n. j < n) (length-set words k value) g);
        fits = λ j g. fits_at j (subst (λ n. j < n) (length-set words k value) g);
      };
    }
  where
    either : (j : ℕ) → (j ≡ k) ⊎ (j ≢ k)
    either j = by (cases_lt j k) (cases_lt k j)
      where
        by : (j < k) ⊎ (k ≤ j) → (k < j) ⊎ (j ≤ k) → (j ≡ k) ⊎ (j ≢ k)
        by (inl l) g = inr (omega arith)
        by (inr l) (inl g) = inr (omega arith)
        by (inr l) (inr g) = inl (omega arith)

    holds_at : (new : Memory) → store memory (address_of k) 4 value ≡ Some new → (j : ℕ) → j < length words → load new (address_of j) 4 ≡ Some (slice_index (slice_set words k value) j)
    holds_at new e j g = by (either j)
      where
        by : (j ≡ k) ⊎ (j ≢ k) → load new (address_of j) 4 ≡ Some (slice_index (slice_set words k value) j)
        by (inl same) =
            ap (λ i. load new (address_of i) 4) same ∙ load-store_same memory new (address_of k) 4 value e
            ∙ ap (λ (v : ℕ). Some v) (whole value small ∙ sym (get_or-set_same words k value 0 h) ∙ ap (λ i. slice_index (slice_set words k value) i) (sym same))
        by (inr other) =
            load-store_other memory new (address_of k) 4 value (address_of j) 4 e (apart j k (length words) stack other g h is.room is.most)
            ∙ is.holds j g ∙ ap (λ (v : ℕ). Some v) (sym (get_or-set_other words k j value 0 other))

    fits_at : (j : ℕ) → j < length words → slice_index (slice_set words k value) j < 2 ^ 32
    fits_at j g = by (either j)
      where
        by : (j ≡ k) ⊎ (j ≢ k) → slice_index (slice_set words k value) j < 2 ^ 32
        by (inl same) = subst (λ v. v < 2 ^ 32) (sym (ap (λ i. slice_index (slice_set words k value) i) same ∙ get_or-set_same words k value 0 h)) small
        by (inr other) = subst (λ v. v < 2 ^ 32) (sym (get_or-set_other words k j value 0 other)) (is.fits j g)

-- ---- at the start

zero_at : (n place : ℕ) → slice_index (replicate n 0) place ≡ 0
zero_at n place = by (cases_lt place n)
  where
    by : (place < n) ⊎ (n ≤ place) → slice_index (replicate n 0) place ≡ 0
    by (inl h) = get_or-replicate n place 0 0 h
    by (inr h) = get_or_past (replicate n 0) place 0 (subst (λ m. m ≤ place) (sym (length-replicate n 0)) h)

number-zero : (n place size : ℕ) → number_at (replicate n 0) place size ≡ 0
unfolding number_at
number-zero n place zero = refl
number-zero n place (suc size) = rw (zero_at n place, number-zero n (place + 1) size) refl

loads_zero : (stack : ℕ) (k : ℕ) → stack ≤ 16777216 → 4 * suc k ≤ stack → load (zeroed 0 stack) (address_of k) 4 ≡ Some 0
unfolding load zeroed
loads_zero stack k most room =
    let start = zeroed 0 stack in
    let a : is_within start.areas (address_of k) 4 ≡ false = past_end start.areas (address_of k) 4 (omega arith) in
    let b : is_within start.stack (address_of k) 4 ≡ true = inside start.stack (address_of k) 4 (omega arith) (omega (arith, length-replicate {A = ℕ} (stack + 1024) 0)) in
    rw (a, b) (ap (λ (v : ℕ). Some v) (number-zero (stack + 1024) (address_of k - start.stack.base) 4))

pub begins : (stack words : ℕ) → stack ≤ 16777216 → 4 * words ≤ stack → IsFrame stack (replicate words 0) (zeroed 0 stack)
unfolding zeroed
begins stack words most room =
    let count : length (replicate {A = ℕ} words 0) ≡ words = length-replicate {A = ℕ} words 0 in
    record {
      low = omega arith;
      areas = omega arith;
      base = refl;
      size = length-replicate (stack + 1024) 0;
      most = most;
      room = subst (λ n. 4 * n ≤ stack) (sym count) room;
      holds = λ k h. loads_zero stack k most (omega (arith, count, h)) ∙ ap (λ (v : ℕ). Some v) (sym (zero_at words k));
      fits = λ k h. subst (λ v. v < 2 ^ 32) (sym (zero_at words k)) (omega arith);
    }
