-- A count that rose in one of several calls, of which none let it fall, rose in all of them together.
use Rattle.std.specs.Prelude.{◌≡◌, ℕ, ◌<◌, ◌≤◌, ◌⊎◌}
use Rattle.std.proofs.Common.{arith, inl, inr}
use Rattle.std.proofs.lemmas.Bool.{cases_lt}
use Rattle.hb_io.specs.Counts.{last, Rose}

at_last : (a b c : ℕ) → a ≤ b → b ≤ c → b ≡ last → (last < c) ⊎ (c ≤ last) → Rose a c
at_last a b c first second is (inl above) = inl (omega arith)
at_last a b c first second is (inr below) = inr (omega arith)

pub rose_before : (a b c : ℕ) → a ≤ b → Rose a b → b ≤ c → Rose a c
rose_before a b c first (inl rose) second = inl (omega arith)
rose_before a b c first (inr is) second = at_last a b c first second is (cases_lt last c)

pub rose_after : (a b c : ℕ) → a ≤ b → Rose b c → Rose a c
rose_after a b c first (inl rose) = inl (omega arith)
rose_after a b c first (inr is) = inr is
