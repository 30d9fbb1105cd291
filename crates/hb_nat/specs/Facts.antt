-- Facts about numbers up to 2^64 - 1, at given numbers for the open arguments.
use Rattle.std.specs.Prelude.{◌≡◌, ℕ, ◌+◌, ◌*◌, ◌^◌, ◌<◌, ◌≤◌}
use Rattle.hb_nat.specs.declared.fact.NatArg.{NatArg}
use Rattle.hb_nat.specs.declared.fact.NatArg.TheVariants.{Known, Open}
use Rattle.hb_nat.specs.declared.fact.NatFact.{NatFact}
use Rattle.hb_nat.specs.declared.fact.NatFact.TheVariants.{Sum, Product, AtMost, Power}

abbrev pub value : (ℕ → ℕ) → NatArg → ℕ
value numbers (Known n) = n
value numbers (Open v) = numbers v

abbrev pub Holds : (ℕ → ℕ) → NatFact → Type 0
Holds numbers (Sum n m p) = value numbers n + value numbers m ≡ value numbers p
Holds numbers (Product n m p) = value numbers n * value numbers m ≡ value numbers p
Holds numbers (AtMost n m) = value numbers n ≤ value numbers m
Holds numbers (Power n m) = 2 ^ value numbers n ≡ value numbers m

abbrev pub InRange : (ℕ → ℕ) → Type 0
InRange numbers = (v : ℕ) → numbers v < 2 ^ 64

-- some numbers satisfy the fact
abbrev pub CanHold : NatFact → Type 0
CanHold fact = (numbers : ℕ → ℕ) × (InRange numbers × Holds numbers fact)

-- no numbers satisfy it
abbrev pub CannotHold : NatFact → Type 0
CannotHold fact = (numbers : ℕ → ℕ) → InRange numbers → Holds numbers fact → ⊥

-- all numbers that satisfy the fact give this argument this number
abbrev pub Forces : NatFact → ℕ → ℕ → Type 0
Forces fact v n = (numbers : ℕ → ℕ) → InRange numbers → Holds numbers fact → numbers v ≡ n

abbrev pub IsKnown : NatArg → Type 0
IsKnown (Known n) = Unit {0}
IsKnown (Open v) = ⊥

abbrev pub AllKnown : NatFact → Type 0
AllKnown (Sum n m p) = IsKnown n × (IsKnown m × IsKnown p)
AllKnown (Product n m p) = IsKnown n × (IsKnown m × IsKnown p)
AllKnown (AtMost n m) = IsKnown n × IsKnown m
AllKnown (Power n m) = IsKnown n × IsKnown m
