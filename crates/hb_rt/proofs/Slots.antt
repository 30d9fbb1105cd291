-- The registers that the routines use, as a record, and what an instruction does to them.
use Rattle.std.proofs.Common.{◌≡◌, ℕ, ◌<◌, ◌^◌, ◌==◌, true, refl, ap, sym, ◌∙◌, arith}
use Rattle.std.specs.Prelude.{if◌then◌else◌}
use Rattle.std.proofs.lemmas.Bool.{cond_both, eqb-true}
use Rattle.std.proofs.lemmas.Bool.Decides.{nat_tests}

pub record Slots : Type 0 where
  pub x5 : ℕ
  pub x6 : ℕ
  pub x7 : ℕ
  pub x10 : ℕ
  pub x11 : ℕ
  pub x28 : ℕ

-- a register's word: that of its slot, or what it held at the start
abbrev pub look : Slots → (ℕ → ℕ) → ℕ → ℕ
look f rest r =
    if r == 5 then f.x5
    else if r == 6 then f.x6
    else if r == 7 then f.x7
    else if r == 10 then f.x10
    else if r == 11 then f.x11
    else if r == 28 then f.x28
    else rest r

-- a slot with another word
abbrev pub put : ℕ → ℕ → Slots → Slots
put r v f =
    if r == 5 then record f { x5 = v }
    else if r == 6 then record f { x6 = v }
    else if r == 7 then record f { x7 = v }
    else if r == 10 then record f { x10 = v }
    else if r == 11 then record f { x11 = v }
    else if r == 28 then record f { x28 = v }
    else f

pub data IsSlot : ℕ → Type 0 where
  At5 : IsSlot 5
  At6 : IsSlot 6
  At7 : IsSlot 7
  At10 : IsSlot 10
  At11 : IsSlot 11
  At28 : IsSlot 28

pub IsSlot-small : (r : ℕ) → IsSlot r → (0 < r) × (r < 32)
IsSlot-small r At5 = (omega arith, omega arith)
IsSlot-small r At6 = (omega arith, omega arith)
IsSlot-small r At7 = (omega arith, omega arith)
IsSlot-small r At10 = (omega arith, omega arith)
IsSlot-small r At11 = (omega arith, omega arith)
IsSlot-small r At28 = (omega arith, omega arith)

-- a slot that is put is read again, and each other register is as before
abbrev pub ReadsBack : ℕ → Type 0
ReadsBack r =
    (f : Slots) (rest : ℕ → ℕ) (v q : ℕ) → look (put r v f) rest q ≡ (if q == r then v else look f rest q)

at_5 : ReadsBack 5
at_5 f rest v q = grind (arith, nat_tests)

at_6 : ReadsBack 6
at_6 f rest v q = grind (arith, nat_tests)

at_7 : ReadsBack 7
at_7 f rest v q = grind (arith, nat_tests)

at_10 : ReadsBack 10
at_10 f rest v q = grind (arith, nat_tests)

at_11 : ReadsBack 11
at_11 f rest v q = grind (arith, nat_tests)

at_28 : ReadsBack 28
at_28 f rest v q = grind (arith, nat_tests)

pub look-put : (r : ℕ) → IsSlot r → ReadsBack r
look-put r At5 = at_5
look-put r At6 = at_6
look-put r At7 = at_7
look-put r At10 = at_10
look-put r At11 = at_11
look-put r At28 = at_28

-- ---- what holds of each register

-- the slots at the start
abbrev pub slots_of : (ℕ → ℕ) → Slots
slots_of rest = record { x5 = rest 5; x6 = rest 6; x7 = rest 7; x10 = rest 10; x11 = rest 11; x28 = rest 28 }

pub look_kept :
    (f : Slots) (rest : ℕ → ℕ) (r : ℕ)
    → (r ≡ 5 → f.x5 ≡ rest 5)
    → (r ≡ 6 → f.x6 ≡ rest 6)
    → (r ≡ 7 → f.x7 ≡ rest 7)
    → (r ≡ 10 → f.x10 ≡ rest 10)
    → (r ≡ 11 → f.x11 ≡ rest 11)
    → (r ≡ 28 → f.x28 ≡ rest 28)
    → look f rest r ≡ rest r
look_kept f rest r a b c d e g =
    let P : ℕ → Type 0 = λ x. x ≡ rest r in
    let at : (k x : ℕ) → (r ≡ k → x ≡ rest k) → (r == k) ≡ true → x ≡ rest r =
    λ k x h t. let q = eqb-true r k t in h q ∙ ap rest (sym q) in
    cond_both (r == 5) _ _ P (at 5 f.x5 a) (λ _.
    cond_both (r == 6) _ _ P (at 6 f.x6 b) (λ _.
    cond_both (r == 7) _ _ P (at 7 f.x7 c) (λ _.
    cond_both (r == 10) _ _ P (at 10 f.x10 d) (λ _.
    cond_both (r == 11) _ _ P (at 11 f.x11 e) (λ _.
    cond_both (r == 28) _ _ P (at 28 f.x28 g) (λ _. refl))))))

pub record AreWords (f : Slots) : Type 0 where
  pub x5 : f.x5 < 2 ^ 32
  pub x6 : f.x6 < 2 ^ 32
  pub x7 : f.x7 < 2 ^ 32
  pub x10 : f.x10 < 2 ^ 32
  pub x11 : f.x11 < 2 ^ 32
  pub x28 : f.x28 < 2 ^ 32

pub look_word : (f : Slots) (rest : ℕ → ℕ) (r : ℕ) → AreWords f → rest r < 2 ^ 32 → look f rest r < 2 ^ 32
look_word f rest r w h =
    let P : ℕ → Type 0 = λ x. x < 2 ^ 32 in
    cond_both (r == 5) _ _ P (λ _. w.x5) (λ _.
    cond_both (r == 6) _ _ P (λ _. w.x6) (λ _.
    cond_both (r == 7) _ _ P (λ _. w.x7) (λ _.
    cond_both (r == 10) _ _ P (λ _. w.x10) (λ _.
    cond_both (r == 11) _ _ P (λ _. w.x11) (λ _.
    cond_both (r == 28) _ _ P (λ _. w.x28) (λ _. h))))))
