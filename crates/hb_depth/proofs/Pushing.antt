-- Parts that are to come.
use Rattle.std.proofs.Common.{◌≡◌, ℕ, zero, suc, ◌<◌, ◌≤◌, refl, List, ◌∷◌, arith}
use Rattle.hb_depth.specs.declared.shape.Around.{Around}
use Rattle.hb_depth.specs.declared.walk.Level.{Level}
use Rattle.hb_depth.specs.Walking.{level, pushed}

pub some_pushed : (n depth : ℕ) (around : Around) (levels : List Level) → 0 < n → pushed n depth around levels ≡ level n depth around ∷ levels
some_pushed zero depth around levels h = absurd (omega (arith, h))
some_pushed (suc n) depth around levels h = refl

pub none_pushed : (n depth : ℕ) (around : Around) (levels : List Level) → n ≤ 0 → pushed n depth around levels ≡ levels
none_pushed zero depth around levels h = refl
none_pushed (suc n) depth around levels h = absurd (omega (arith, h))
