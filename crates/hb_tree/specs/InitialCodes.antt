-- How the logic stores an initialiser.
use Rattle.std.proofs.Common.{◌≡◌, ℕ, refl, ap}
use Rattle.std.specs.Coded.{Coded}
use base.Stored.{Gv, gnil, gnum, gcons}
use Rattle.hb_base.specs.contracts.place.Place as place
use Rattle.hb_tree.specs.contracts.types.NameAt as name_at
use Rattle.hb_tree.specs.Coding.{head, tail, differ}
use Rattle.hb_tree.specs.ExpressionCodes.{coded_expr}
use Rattle.hb_tree.specs.Initials.{InitExpr, Each, Fields, Cell, FieldInits, NoFieldInits, MoreFieldInits}

abbrev mutual
  pub init_code : InitExpr → Gv
  init_code (Each a0 a1 a2) = gcons (gnum 0) (gcons (place.the_row.coded.code a0) (gcons (name_at.the_row.coded.code a1) (init_code a2)))
  init_code (Fields a0 a1) = gcons (gnum 1) (gcons (place.the_row.coded.code a0) (fields_code a1))
  init_code (Cell a0 a1) = gcons (gnum 2) (gcons (place.the_row.coded.code a0) (coded_expr.code a1))

  pub fields_code : FieldInits → Gv
  fields_code NoFieldInits = gcons (gnum 0) gnil
  fields_code (MoreFieldInits a0 a1 a2) = gcons (gnum 1) (gcons (name_at.the_row.coded.code a0) (gcons (init_code a1) (fields_code a2)))

abbrev init_tag : InitExpr → ℕ
init_tag (Each a0 a1 a2) = 0
init_tag (Fields a0 a1) = 1
init_tag (Cell a0 a1) = 2

abbrev fields_tag : FieldInits → ℕ
fields_tag NoFieldInits = 0
fields_tag (MoreFieldInits a0 a1 a2) = 1

mutual
  pub init_inj : (x y : InitExpr) → init_code x ≡ init_code y → x ≡ y
  init_inj (Each a0 a1 a2) (Each b0 b1 b2) e = λ i. Each (place.the_row.coded.inj a0 b0 (ap (λ g. head (tail g)) e) i) (name_at.the_row.coded.inj a1 b1 (ap (λ g. head (tail (tail g))) e) i) (init_inj a2 b2 (ap (λ g. tail (tail (tail g))) e) i)
  init_inj (Fields a0 a1) (Fields b0 b1) e = λ i. Fields (place.the_row.coded.inj a0 b0 (ap (λ g. head (tail g)) e) i) (fields_inj a1 b1 (ap (λ g. tail (tail g)) e) i)
  init_inj (Cell a0 a1) (Cell b0 b1) e = λ i. Cell (place.the_row.coded.inj a0 b0 (ap (λ g. head (tail g)) e) i) (coded_expr.inj a1 b1 (ap (λ g. tail (tail g)) e) i)
  init_inj x y e = differ (init_tag x) (init_tag y) refl e

  pub fields_inj : (x y : FieldInits) → fields_code x ≡ fields_code y → x ≡ y
  fields_inj NoFieldInits NoFieldInits e = refl
  fields_inj (MoreFieldInits a0 a1 a2) (MoreFieldInits b0 b1 b2) e = λ i. MoreFieldInits (name_at.the_row.coded.inj a0 b0 (ap (λ g. head (tail g)) e) i) (init_inj a1 b1 (ap (λ g. head (tail (tail g))) e) i) (fields_inj a2 b2 (ap (λ g. tail (tail (tail g))) e) i)
  fields_inj x y e = differ (fields_tag x) (fields_tag y) refl e

abbrev pub coded_init : Coded InitExpr
coded_init = record { code = init_code; inj = init_inj }
