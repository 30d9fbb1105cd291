-- Taking a port's first waiting line.
use Rattle.std.proofs.Common.{◌⊎◌, inl, inr, ◌≡◌, ℕ, zero, suc, ◌+◌, ◌<◌, ◌≤◌, Bool, true, false, ◌==◌, if◌then◌else◌, nat_le, List, [], ◌∷◌, length, replicate, slice_get, slice_index, slice_set, Some, None, refl, ap, sym, ◌∙◌, arith, get_or-set_same, get_or-set_other, get_or}
use Rattle.std.proofs.lemmas.Option.{slice_get_read, slice_get-get_or}
use Rattle.std.proofs.lemmas.Bool.{cases_eq, cases_Bool, cases_lt, leb-true, le-leb, lt-leb, eqb-true, eqb-false, false≢true}
use Rattle.hb_base.specs.declared.script.ScriptLine.{ScriptLine}
use Rattle.hb_base.specs.Inputs.{first_value, without_first}
use Rattle.hb_mach.specs.Waiting.{waiting, names, NoneBetween, IsFirstFrom}

-- ---- the start: every line waits

zeros : (n place : ℕ) → slice_index (replicate n 0) place ≡ 0
zeros zero place = refl
zeros (suc n) zero = refl
zeros (suc n) (suc place) = zeros n place

waiting-zeros : (at n : ℕ) (lines : List ScriptLine) → waiting at lines (replicate n 0) ≡ lines
unfolding waiting
waiting-zeros at n [] = refl
waiting-zeros at n (line ∷ lines) =
    let low : nat_le 0 at ≡ true = le-leb _ _ (omega arith) in
    rw (zeros n line.port, low) (ap (λ rest. line ∷ rest) (waiting-zeros (at + 1) n lines))

pub waiting-all : (lines : List ScriptLine) (cursors : List ℕ) (n : ℕ) → cursors ≡ replicate n 0 → waiting 0 lines cursors ≡ lines
waiting-all lines cursors n e = rw e (waiting-zeros 0 n lines)

-- ---- a search

pub NoneBetween-none : (port : ℕ) (lines : List ScriptLine) (from : ℕ) → NoneBetween port lines from from
NoneBetween-none port lines from place low high = absurd (omega arith)

pub NoneBetween-more : (port : ℕ) (lines : List ScriptLine) (from at : ℕ) → NoneBetween port lines from at → names port lines at ≡ false → NoneBetween port lines from (at + 1)
NoneBetween-more port lines from at before here place low high = at_place (cases_lt place at)
  where
    at_place : (place < at) ⊎ (at ≤ place) → names port lines place ≡ false
    at_place (inl below) = before place low below
    at_place (inr above) = let e : place ≡ at = omega arith in rw e here

pub names-at : (port : ℕ) (lines : List ScriptLine) (at : ℕ) (line : ScriptLine) → at < length lines → line ≡ get_or lines at line → names port lines at ≡ (line.port == port)
names-at port lines at line within e =
    let there : slice_get lines at ≡ Some line = slice_get_read lines (length lines) at line refl within e in
    rw there refl

-- ---- what waits once a port's line is taken

-- lines that stand where the port's cursor has gone by wait as before
waiting-later : (port : ℕ) (cursors : List ℕ) (stop at : ℕ) (lines : List ScriptLine) → port < length cursors → slice_index cursors port ≤ at → stop ≤ at
    → waiting at lines (slice_set cursors port stop) ≡ waiting at lines cursors
unfolding waiting
waiting-later port cursors stop at [] within low high = refl
waiting-later port cursors stop at (line ∷ lines) within low high =
    by_port (waiting-later port cursors stop (at + 1) lines within (omega arith) (omega arith)) (cases_eq line.port port)
  where
    by_port : waiting (at + 1) lines (slice_set cursors port stop) ≡ waiting (at + 1) lines cursors → (line.port ≡ port) ⊎ (line.port ≡ port → ⊥)
        → (if nat_le (slice_index (slice_set cursors port stop) line.port) at then line ∷ waiting (at + 1) lines (slice_set cursors port stop) else waiting (at + 1) lines (slice_set cursors port stop))
        ≡ (if nat_le (slice_index cursors line.port) at then line ∷ waiting (at + 1) lines cursors else waiting (at + 1) lines cursors)
    by_port rest (inl e) =
        let now : nat_le (slice_index (slice_set cursors port stop) line.port) at ≡ true = rw e (le-leb _ _ (rw get_or-set_same high)) in
        let then' : nat_le (slice_index cursors line.port) at ≡ true = rw e (le-leb _ _ low) in
        rw (now, then') (ap (λ more. line ∷ more) rest)
    by_port rest (inr other) =
        let same : slice_index (slice_set cursors port stop) line.port ≡ slice_index cursors line.port = get_or-set_other cursors port line.port stop 0 other in
        rw (same, rest) refl

-- the value that a port takes, and what waits then
pub record Takes (port value : ℕ) (old new : List ScriptLine) : Type 0 where
  pub first : first_value port old ≡ Some value
  pub rest : new ≡ without_first port old

-- at a line of another port, or of one that does not wait
takes-kept : (port value : ℕ) (line : ScriptLine) (old new : List ScriptLine) → (line.port == port) ≡ false → Takes port value old new → Takes port value (line ∷ old) (line ∷ new)
takes-kept port value line old new other t = record { first = rw other t.first; rest = rw other (ap (λ more. line ∷ more) t.rest) }

same_line : (a b : ScriptLine) → Some a ≡ Some b → a ≡ b
same_line a b e = cc

no_line : (line : ScriptLine) → None ≡ Some line → ⊥
no_line line e = cc

takes-from : (port : ℕ) (cursors : List ℕ) (lines : List ScriptLine) (at n : ℕ) (line : ScriptLine) → port < length cursors
    → slice_get lines n ≡ Some line → names port lines n ≡ true → slice_index cursors port ≤ at + n
    → ((j : ℕ) → j < n → slice_index cursors port ≤ at + j → names port lines j ≡ false)
    → Takes port line.value (waiting at lines cursors) (waiting at lines (slice_set cursors port (at + n + 1)))
unfolding waiting
takes-from port cursors [] at n line within there here above none = absurd (no_line line there)
takes-from port cursors (l ∷ ls) at zero line within there here above none =
    let is_port : l.port ≡ port = eqb-true l.port port here in
    let e : l ≡ line = same_line l line there in
    let waits : nat_le (slice_index cursors l.port) at ≡ true = rw is_port (le-leb _ _ (omega arith)) in
    let gone : nat_le (slice_index (slice_set cursors port (at + zero + 1)) l.port) at ≡ false = rw is_port (lt-leb _ _ (rw get_or-set_same (omega arith))) in
    let later : waiting (at + 1) ls (slice_set cursors port (at + zero + 1)) ≡ waiting (at + 1) ls cursors = waiting-later port cursors (at + zero + 1) (at + 1) ls within (omega arith) (omega arith) in
    let value : l.value ≡ line.value = ap (λ (x : ScriptLine). x.value) e in
    rw (waits, gone, later, ← value) (record { first = rw here refl; rest = rw here refl })
takes-from port cursors (l ∷ ls) at (suc m) line within there here above none =
    let e : at + 1 + m ≡ at + suc m = omega arith in
    by_port (rw (← e) (takes-from port cursors ls (at + 1) m line within there here (omega arith) (λ j below from. none (suc j) (omega arith) (omega arith)))) (cases_Bool (l.port == port))
  where
    by_port : Takes port line.value (waiting (at + 1) ls cursors) (waiting (at + 1) ls (slice_set cursors port (at + suc m + 1)))
        → ((l.port == port) ≡ true) ⊎ ((l.port == port) ≡ false)
        → Takes port line.value
        (if nat_le (slice_index cursors l.port) at then l ∷ waiting (at + 1) ls cursors else waiting (at + 1) ls cursors)
        (if nat_le (slice_index (slice_set cursors port (at + suc m + 1)) l.port) at then l ∷ waiting (at + 1) ls (slice_set cursors port (at + suc m + 1)) else waiting (at + 1) ls (slice_set cursors port (at + suc m + 1)))
    by_port later (inl met) =
        let is_port : l.port ≡ port = eqb-true l.port port met in
        let past : at < slice_index cursors port = past_cursor (cases_lt at (slice_index cursors port)) in
        let before : nat_le (slice_index cursors l.port) at ≡ false = rw is_port (lt-leb _ _ past) in
        let gone : nat_le (slice_index (slice_set cursors port (at + suc m + 1)) l.port) at ≡ false = rw is_port (lt-leb _ _ (rw get_or-set_same (omega arith))) in
        rw (before, gone) later
      where
        past_cursor : (at < slice_index cursors port) ⊎ (slice_index cursors port ≤ at) → at < slice_index cursors port
        past_cursor (inl h) = h
        past_cursor (inr h) = absurd (false≢true (sym (none zero (omega arith) (omega arith)) ∙ met))
    by_port later (inr other) =
        let same : slice_index (slice_set cursors port (at + suc m + 1)) l.port ≡ slice_index cursors l.port = get_or-set_other cursors port l.port (at + suc m + 1) 0 (eqb-false l.port port other) in
        rw same (by_cursor (nat_le (slice_index cursors l.port) at))
      where
        by_cursor : (b : Bool) → Takes port line.value
            (if b then l ∷ waiting (at + 1) ls cursors else waiting (at + 1) ls cursors)
            (if b then l ∷ waiting (at + 1) ls (slice_set cursors port (at + suc m + 1)) else waiting (at + 1) ls (slice_set cursors port (at + suc m + 1)))
        by_cursor true = takes-kept port line.value l _ _ other later
        by_cursor false = later

-- the port's first line from its cursor on is the first that waits
pub takes : (port : ℕ) (cursors : List ℕ) (lines : List ScriptLine) (at : ℕ) (line : ScriptLine) → port < length cursors
    → IsFirstFrom port lines (slice_index cursors port) at → slice_get lines at ≡ Some line
    → Takes port line.value (waiting 0 lines cursors) (waiting 0 lines (slice_set cursors port (at + 1)))
takes port cursors lines at line within found there =
    let e : 0 + at ≡ at = omega arith in
    rw (← e) (takes-from port cursors lines 0 at line within there found.here (omega (arith, found.above))
    (λ j below from. found.none_before j (omega arith) below))

-- where no line stands from the cursor on, none waits
none-from : (port : ℕ) (cursors : List ℕ) (lines : List ScriptLine) (at : ℕ) → ((j : ℕ) → slice_index cursors port ≤ at + j → j < length lines → names port lines j ≡ false)
    → first_value port (waiting at lines cursors) ≡ None
unfolding waiting
none-from port cursors [] at none = refl
none-from port cursors (l ∷ ls) at none =
    by_cursor (none-from port cursors ls (at + 1) (λ j from below. none (suc j) (omega arith) (omega arith))) (cases_Bool (nat_le (slice_index cursors l.port) at)) (cases_Bool (l.port == port))
  where
    by_cursor : first_value port (waiting (at + 1) ls cursors) ≡ None
        → (nat_le (slice_index cursors l.port) at ≡ true) ⊎ (nat_le (slice_index cursors l.port) at ≡ false)
        → ((l.port == port) ≡ true) ⊎ ((l.port == port) ≡ false)
        → first_value port (if nat_le (slice_index cursors l.port) at then l ∷ waiting (at + 1) ls cursors else waiting (at + 1) ls cursors) ≡ None
    by_cursor later (inr gone) any = rw gone later
    by_cursor later (inl waits) (inr other) = rw (waits, other) later
    by_cursor later (inl waits) (inl met) =
        let is_port : l.port ≡ port = eqb-true l.port port met in
        let low : slice_index cursors port ≤ at = rw (← is_port) (leb-true _ _ waits) in
        absurd (false≢true (sym (none zero (omega arith) (omega arith)) ∙ met))

pub takes_none : (port : ℕ) (cursors : List ℕ) (lines : List ScriptLine) → NoneBetween port lines (slice_index cursors port) (length lines) → first_value port (waiting 0 lines cursors) ≡ None
takes_none port cursors lines none = none-from port cursors lines 0 (λ j from below. none j (omega arith) below)

pub ruleset search = (NoneBetween-none, NoneBetween-more, names-at)

pub ruleset taking = (takes, takes_none)

-- the same, for the line read by its index
pub takes_read : (port : ℕ) (cursors : List ℕ) (lines : List ScriptLine) (from at : ℕ) (d : ScriptLine) → port < length cursors
    → from ≡ slice_index cursors port → IsFirstFrom port lines from at
    → Takes port (get_or lines at d).value (waiting 0 lines cursors) (waiting 0 lines (slice_set cursors port (at + 1)))
takes_read port cursors lines from at d within e found =
    takes port cursors lines at (get_or lines at d) within (rw (← e) found) (slice_get-get_or lines at d found.within)
