-- How the logic stores the use of an instance.
use Rattle.std.proofs.Common.{◌≡◌, ℕ, refl, ap}
use Rattle.std.specs.Coded.{Coded, coded_ℕ}
use base.Stored.{Gv, gnil, gnum, gcons}
use Rattle.hb_types.specs.Coding.{head, tail, differ}
use Rattle.hb_types.specs.TypeCodes.{coded_types}
use Rattle.hb_types.specs.Uses.{InstanceUse, AUse, Uses, NoUses, MoreUses}

abbrev mutual
  pub use_code : InstanceUse → Gv
  use_code (AUse n ts us) = gcons (gnum n) (gcons (coded_types.code ts) (uses_code us))

  pub uses_code : Uses → Gv
  uses_code NoUses = gcons (gnum 0) gnil
  uses_code (MoreUses u us) = gcons (gnum 1) (gcons (use_code u) (uses_code us))

abbrev tag : Uses → ℕ
tag NoUses = 0
tag (MoreUses u us) = 1

mutual
  pub use_inj : (x y : InstanceUse) → use_code x ≡ use_code y → x ≡ y
  use_inj (AUse m ts us) (AUse n rs vs) e = λ i. AUse (coded_ℕ.inj m n (ap head e) i) (coded_types.inj ts rs (ap (λ g. head (tail g)) e) i) (uses_inj us vs (ap (λ g. tail (tail g)) e) i)

  pub uses_inj : (x y : Uses) → uses_code x ≡ uses_code y → x ≡ y
  uses_inj NoUses NoUses e = refl
  uses_inj (MoreUses u us) (MoreUses v vs) e = λ i. MoreUses (use_inj u v (ap (λ g. head (tail g)) e) i) (uses_inj us vs (ap (λ g. tail (tail g)) e) i)
  uses_inj x y e = differ (tag x) (tag y) refl e

abbrev pub coded_use : Coded InstanceUse
coded_use = record { code = use_code; inj = use_inj }
