-- What a fact says of its open arguments.
use Rattle.std.specs.Prelude.{◌≡◌, ℕ, ◌==◌, if◌then◌else◌, Option, None, Some}
use Rattle.hb_nat.specs.declared.fact.NatArg.TheVariants.{Known, Open}
use Rattle.hb_nat.specs.declared.fact.NatFact.{NatFact}
use Rattle.hb_nat.specs.declared.fact.NatFact.TheVariants.{Sum, Product, Power}
use Rattle.hb_nat.specs.declared.fact.Improvement.{Improvement}
use Rattle.hb_nat.specs.declared.fact.Improvement.TheVariants.{Nothing, Know, Never}
use Rattle.hb_nat.specs.Facts.{CanHold, CannotHold, Forces}

-- the one open argument that a fact gives from its known ones: any argument of a sum from the other two; a
-- product from its factors, and a factor from the product and a factor above 0; either argument of a power from
-- the other
abbrev pub gives : NatFact → Option ℕ
gives (Sum (Known n) (Known m) (Open v)) = Some v
gives (Sum (Known n) (Open v) (Known p)) = Some v
gives (Sum (Open v) (Known m) (Known p)) = Some v
gives (Product (Known n) (Known m) (Open v)) = Some v
gives (Product (Known n) (Open v) (Known p)) = if n == 0 then None else Some v
gives (Product (Open v) (Known m) (Known p)) = if m == 0 then None else Some v
gives (Power (Known n) (Open v)) = Some v
gives (Power (Open v) (Known m)) = Some v
gives fact = None

-- the right answer: never where no numbers satisfy the fact; else the number of the argument that the fact
-- gives; else nothing
abbrev pub IsAnswer : NatFact → Improvement → Type 0
IsAnswer fact Never = CannotHold fact
IsAnswer fact (Know v n) = (gives fact ≡ Some v) × (CanHold fact × Forces fact v n)
IsAnswer fact Nothing = (gives fact ≡ None) × CanHold fact
