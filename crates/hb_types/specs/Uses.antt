-- How a predicate holds, as contracts see it.
use Rattle.std.specs.Prelude.{ℕ, List, [], ◌∷◌}
use Rattle.hb_types.specs.Types.{Ty}

mutual
  -- the instance, the types that it is taken at, and how its context holds
  pub data InstanceUse : Type 0 where
    AUse : ℕ → List Ty → Uses → InstanceUse

  pub data Uses : Type 0 where
    NoUses : Uses
    MoreUses : InstanceUse → Uses → Uses

-- the uses of a list, one after another
abbrev pub uses : List InstanceUse → Uses
uses [] = NoUses
uses (u ∷ us) = MoreUses u (uses us)

abbrev pub use_list : Uses → List InstanceUse
use_list NoUses = []
use_list (MoreUses u us) = u ∷ use_list us
