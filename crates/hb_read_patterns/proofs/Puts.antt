-- The nodes of a pattern put at the end of those before: the same as they stand in `specs/Nodes`, with no appending of
-- lists to lists.
use Rattle.std.proofs.Common.{◌≡◌, ℕ, ◌+◌, List, [], ◌∷◌, ◌++◌, refl, ap, ◌∙◌, arith, append_assoc}
use Rattle.hb_base.specs.declared.place.Place.{Place}
use Rattle.hb_tree.specs.Patterns.{Pat, APat, PatKind, Pats, NoPats, MorePats, FieldPats, NoFieldPats, MoreFieldPats}
use Rattle.hb_tree.specs.Patterns as tree
use Rattle.hb_read_patterns.specs.declared.node.PatNode.{PatNode}
use Rattle.hb_read_patterns.specs.declared.node.PatNode.TheVariants.{Any, Var, Number, Bits, Con, Fields, Field, Pair, Unit as UnitNode, Row}
use Rattle.hb_read_patterns.specs.Nodes.{pats_count, fields_count, pat_nodes, kind_nodes, pats_nodes, field_nodes, row_nodes}

-- so many, and those of the list
abbrev pub pats_from : ℕ → Pats → ℕ
pats_from n NoPats = n
pats_from n (MorePats p ps) = pats_from (n + 1) ps

abbrev pub fields_from : ℕ → FieldPats → ℕ
fields_from n NoFieldPats = n
fields_from n (MoreFieldPats place name p fs) = fields_from (n + 1) fs

abbrev mutual
  pub put_pat : Pat → List PatNode → List PatNode
  put_pat (APat number place kind) out = put_kind kind place out

  pub put_kind : PatKind → Place → List PatNode → List PatNode
  put_kind tree.Any place out = out ++ Any place ∷ []
  put_kind (tree.Var name) place out = out ++ Var place name ∷ []
  put_kind (tree.Number k) place out = out ++ Number place k ∷ []
  put_kind (tree.Bits width k) place out = out ++ Bits place width k ∷ []
  put_kind (tree.Con name ps) place out = put_pats ps out ++ Con place name (pats_from 0 ps) ∷ []
  put_kind (tree.Fields name fs) place out = put_fields fs out ++ Fields place name (fields_from 0 fs) ∷ []
  put_kind (tree.Pair p q) place out = put_pat q (put_pat p out) ++ Pair place ∷ []
  put_kind tree.Unit place out = out ++ UnitNode place ∷ []

  pub put_pats : Pats → List PatNode → List PatNode
  put_pats NoPats out = out
  put_pats (MorePats p ps) out = put_pats ps (put_pat p out)

  pub put_fields : FieldPats → List PatNode → List PatNode
  put_fields NoFieldPats out = out
  put_fields (MoreFieldPats place name p fs) out = put_fields fs (put_pat p out ++ Field place name ∷ [])

pats_from_is : (n : ℕ) (ps : Pats) → pats_from n ps ≡ pats_count ps + n
pats_from_is n NoPats = omega arith
pats_from_is n (MorePats p ps) = pats_from_is (n + 1) ps ∙ (omega arith)

fields_from_is : (n : ℕ) (fs : FieldPats) → fields_from n fs ≡ fields_count fs + n
fields_from_is n NoFieldPats = omega arith
fields_from_is n (MoreFieldPats place name p fs) = fields_from_is (n + 1) fs ∙ (omega arith)

pub pats_from_zero : (ps : Pats) → pats_from 0 ps ≡ pats_count ps
pats_from_zero ps = pats_from_is 0 ps ∙ (omega arith)

fields_from_zero : (fs : FieldPats) → fields_from 0 fs ≡ fields_count fs
fields_from_zero fs = fields_from_is 0 fs ∙ (omega arith)

append_nil : (out : List PatNode) → out ≡ out ++ []
append_nil [] = refl
append_nil (x ∷ xs) = ap (λ ys. x ∷ ys) (append_nil xs)

-- one more node after what was put
then_node : (a b out : List PatNode) (x y : PatNode) → a ≡ out ++ b → x ≡ y → a ++ x ∷ [] ≡ out ++ (b ++ y ∷ [])
then_node a b out x y e f = ap (λ c. c ++ x ∷ []) e ∙ (ap (λ z. (out ++ b) ++ z ∷ []) f ∙ append_assoc out b (y ∷ []))

-- one thing after another
then_more : (a b c d out : List PatNode) → a ≡ out ++ b → c ≡ a ++ d → c ≡ out ++ (b ++ d)
then_more a b c d out e f = f ∙ (ap (λ x. x ++ d) e ∙ append_assoc out b d)

mutual
  pub put_pat_is : (p : Pat) (out : List PatNode) → put_pat p out ≡ out ++ pat_nodes p
  put_pat_is (APat number place kind) out = put_kind_is kind place out

  put_kind_is : (kind : PatKind) (place : Place) (out : List PatNode) → put_kind kind place out ≡ out ++ kind_nodes place kind
  put_kind_is tree.Any place out = refl
  put_kind_is (tree.Var name) place out = refl
  put_kind_is (tree.Number k) place out = refl
  put_kind_is (tree.Bits width k) place out = refl
  put_kind_is (tree.Con name ps) place out = then_node (put_pats ps out) (pats_nodes ps) out _ _ (put_pats_is ps out) (ap (Con place name) (pats_from_zero ps))
  put_kind_is (tree.Fields name fs) place out = then_node (put_fields fs out) (field_nodes fs) out _ _ (put_fields_is fs out) (ap (Fields place name) (fields_from_zero fs))
  put_kind_is (tree.Pair p q) place out =
      then_node (put_pat q (put_pat p out)) (pat_nodes p ++ pat_nodes q) out _ _
      (then_more (put_pat p out) (pat_nodes p) (put_pat q (put_pat p out)) (pat_nodes q) out (put_pat_is p out) (put_pat_is q (put_pat p out))) refl
  put_kind_is tree.Unit place out = refl

  pub put_pats_is : (ps : Pats) (out : List PatNode) → put_pats ps out ≡ out ++ pats_nodes ps
  put_pats_is NoPats out = append_nil out
  put_pats_is (MorePats p ps) out = then_more (put_pat p out) (pat_nodes p) (put_pats ps (put_pat p out)) (pats_nodes ps) out (put_pat_is p out) (put_pats_is ps (put_pat p out))

  put_fields_is : (fs : FieldPats) (out : List PatNode) → put_fields fs out ≡ out ++ field_nodes fs
  put_fields_is NoFieldPats out = append_nil out
  put_fields_is (MoreFieldPats place name p fs) out =
      then_more (put_pat p out ++ Field place name ∷ []) (pat_nodes p ++ Field place name ∷ []) (put_fields fs (put_pat p out ++ Field place name ∷ [])) (field_nodes fs) out
      (then_node (put_pat p out) (pat_nodes p) out _ _ (put_pat_is p out) refl) (put_fields_is fs (put_pat p out ++ Field place name ∷ []))

-- the row after its patterns
pub put_row_is : (ps : Pats) → put_pats ps [] ++ Row (pats_from 0 ps) ∷ [] ≡ row_nodes ps
put_row_is ps = then_node (put_pats ps []) (pats_nodes ps) [] _ _ (put_pats_is ps []) (ap Row (pats_from_zero ps))
