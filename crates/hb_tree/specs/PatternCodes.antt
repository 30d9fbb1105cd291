-- How the logic stores a pattern.
use Rattle.std.proofs.Common.{◌≡◌, ℕ, List, refl, ap}
use Rattle.std.specs.Coded.{Coded, coded_ℕ, coded_list}
use base.Stored.{Gv, gnil, gnum, gcons}
use Rattle.hb_base.specs.contracts.place.Place as place
use Rattle.hb_base.specs.contracts.name.Name as name
use Rattle.hb_tree.specs.Coding.{head, tail, differ}
use Rattle.hb_tree.specs.Patterns.{Pat, APat, PatKind, Any, Var, Number, Bits, Con, Fields, Pair, Unit, Pats, NoPats, MorePats, FieldPats, NoFieldPats, MoreFieldPats}

abbrev mutual
  pub pat_code : Pat → Gv
  pat_code (APat a0 a1 a2) = gcons (gnum a0) (gcons (place.the_row.coded.code a1) (kind_code a2))

  pub kind_code : PatKind → Gv
  kind_code Any = gcons (gnum 0) gnil
  kind_code (Var a0) = gcons (gnum 1) (name.the_row.coded.code a0)
  kind_code (Number a0) = gcons (gnum 2) (gnum a0)
  kind_code (Bits a0 a1) = gcons (gnum 3) (gcons (gnum a0) (gnum a1))
  kind_code (Con a0 a1) = gcons (gnum 4) (gcons (name.the_row.coded.code a0) (pats_code a1))
  kind_code (Fields a0 a1) = gcons (gnum 5) (gcons (name.the_row.coded.code a0) (fields_code a1))
  kind_code (Pair a0 a1) = gcons (gnum 6) (gcons (pat_code a0) (pat_code a1))
  kind_code Unit = gcons (gnum 7) gnil

  pub pats_code : Pats → Gv
  pats_code NoPats = gcons (gnum 0) gnil
  pats_code (MorePats a0 a1) = gcons (gnum 1) (gcons (pat_code a0) (pats_code a1))

  pub fields_code : FieldPats → Gv
  fields_code NoFieldPats = gcons (gnum 0) gnil
  fields_code (MoreFieldPats a0 a1 a2 a3) = gcons (gnum 1) (gcons (place.the_row.coded.code a0) (gcons (name.the_row.coded.code a1) (gcons (pat_code a2) (fields_code a3))))

abbrev kind_tag : PatKind → ℕ
kind_tag Any = 0
kind_tag (Var a0) = 1
kind_tag (Number a0) = 2
kind_tag (Bits a0 a1) = 3
kind_tag (Con a0 a1) = 4
kind_tag (Fields a0 a1) = 5
kind_tag (Pair a0 a1) = 6
kind_tag Unit = 7

abbrev pats_tag : Pats → ℕ
pats_tag NoPats = 0
pats_tag (MorePats a0 a1) = 1

abbrev fields_tag : FieldPats → ℕ
fields_tag NoFieldPats = 0
fields_tag (MoreFieldPats a0 a1 a2 a3) = 1

mutual
  pub pat_inj : (x y : Pat) → pat_code x ≡ pat_code y → x ≡ y
  pat_inj (APat a0 a1 a2) (APat b0 b1 b2) e = λ i. APat (coded_ℕ.inj a0 b0 (ap head e) i) (place.the_row.coded.inj a1 b1 (ap (λ g. head (tail g)) e) i) (kind_inj a2 b2 (ap (λ g. tail (tail g)) e) i)

  pub kind_inj : (x y : PatKind) → kind_code x ≡ kind_code y → x ≡ y
  kind_inj Any Any e = refl
  kind_inj (Var a0) (Var b0) e = λ i. Var (name.the_row.coded.inj a0 b0 (ap tail e) i)
  kind_inj (Number a0) (Number b0) e = λ i. Number (coded_ℕ.inj a0 b0 (ap tail e) i)
  kind_inj (Bits a0 a1) (Bits b0 b1) e = λ i. Bits (coded_ℕ.inj a0 b0 (ap (λ g. head (tail g)) e) i) (coded_ℕ.inj a1 b1 (ap (λ g. tail (tail g)) e) i)
  kind_inj (Con a0 a1) (Con b0 b1) e = λ i. Con (name.the_row.coded.inj a0 b0 (ap (λ g. head (tail g)) e) i) (pats_inj a1 b1 (ap (λ g. tail (tail g)) e) i)
  kind_inj (Fields a0 a1) (Fields b0 b1) e = λ i. Fields (name.the_row.coded.inj a0 b0 (ap (λ g. head (tail g)) e) i) (fields_inj a1 b1 (ap (λ g. tail (tail g)) e) i)
  kind_inj (Pair a0 a1) (Pair b0 b1) e = λ i. Pair (pat_inj a0 b0 (ap (λ g. head (tail g)) e) i) (pat_inj a1 b1 (ap (λ g. tail (tail g)) e) i)
  kind_inj Unit Unit e = refl
  kind_inj x y e = differ (kind_tag x) (kind_tag y) refl e

  pub pats_inj : (x y : Pats) → pats_code x ≡ pats_code y → x ≡ y
  pats_inj NoPats NoPats e = refl
  pats_inj (MorePats a0 a1) (MorePats b0 b1) e = λ i. MorePats (pat_inj a0 b0 (ap (λ g. head (tail g)) e) i) (pats_inj a1 b1 (ap (λ g. tail (tail g)) e) i)
  pats_inj x y e = differ (pats_tag x) (pats_tag y) refl e

  pub fields_inj : (x y : FieldPats) → fields_code x ≡ fields_code y → x ≡ y
  fields_inj NoFieldPats NoFieldPats e = refl
  fields_inj (MoreFieldPats a0 a1 a2 a3) (MoreFieldPats b0 b1 b2 b3) e = λ i. MoreFieldPats (place.the_row.coded.inj a0 b0 (ap (λ g. head (tail g)) e) i) (name.the_row.coded.inj a1 b1 (ap (λ g. head (tail (tail g))) e) i) (pat_inj a2 b2 (ap (λ g. head (tail (tail (tail g)))) e) i) (fields_inj a3 b3 (ap (λ g. tail (tail (tail (tail g)))) e) i)
  fields_inj x y e = differ (fields_tag x) (fields_tag y) refl e

abbrev pub coded_pat : Coded Pat
coded_pat = record { code = pat_code; inj = pat_inj }

abbrev pub coded_pats : Coded (List Pat)
coded_pats = coded_list coded_pat
