-- Counts of calls and of faults, which stand still at 2^64 - 1.
use Rattle.std.specs.Prelude.{◌≡◌, ℕ, ◌+◌, ◌-◌, ◌^◌, ◌<◌, ◌⊎◌, min}

-- the greatest count
abbrev pub last : ℕ
last = 2 ^ 64 - 1

-- a count is greater at the end than at the start, or stands at the last one
abbrev pub Rose : ℕ → ℕ → Type 0
Rose old new = (old < new) ⊎ (new ≡ last)

-- one more, as far as counts go
abbrev pub raised : ℕ → ℕ
raised count = min (count + 1) last
