-- The nodes of a pattern put that pattern on the stack.
use Rattle.std.proofs.Common.{◌≡◌, ℕ, suc, ◌+◌, refl, ap, sym, ◌∙◌, List, [], ◌∷◌, ◌++◌, Some, None, arith, add-zero, zero-add}
use Rattle.std.proofs.lemmas.List.{append-nil}
use Rattle.hb_base.specs.declared.place.Place.{Place}
use Rattle.hb_tree.specs.declared.pattern.FieldPat.{FieldPat}
use Rattle.hb_tree.specs.Patterns.{Pat as Tree, APat, PatKind, Pats, NoPats, MorePats, FieldPats, NoFieldPats, MoreFieldPats}
use Rattle.hb_tree.specs.Patterns as tree
use Rattle.hb_tree.specs.Lists.{pat_list, field_pat_list}
use Rattle.hb_tree.proofs.ListLaws.{pats-list, field_pats-list}
use Rattle.hb_read_patterns.specs.declared.node.PatNode.{PatNode}
use Rattle.hb_read_patterns.specs.declared.node.PatNode.TheVariants as node
use Rattle.hb_read_patterns.specs.Nodes.{pat_nodes, kind_nodes, pats_nodes, field_nodes, pats_count, fields_count}
use Rattle.hb_build.specs.declared.pattern_builder.Part.{Part}
use Rattle.hb_build.specs.declared.pattern_builder.Part.TheVariants.{Pat, Field}
use Rattle.hb_build.specs.Building.{built}
use Rattle.hb_build.proofs.BuildingLaws.{then, both, refused as refused_by}
use Rattle.hb_build.specs.PatternSteps.{stepped, part, pats_off, fields_off, of_args, of_fields}
use Rattle.hb_build.specs.Unnumbered.{IsUnnumbered, IsUnnumberedKind, AreUnnumbered, AreUnnumberedFields}

-- a node that is not taken is the end
pub refused : (parts : List Part) (n : PatNode) (nodes : List PatNode) → stepped parts n ≡ None → built stepped (Some parts) (n ∷ nodes) ≡ None
refused parts n nodes e = refused_by stepped parts n nodes e

-- the stack with these patterns on it, the last one on top
abbrev pub pushed : Pats → List Part → List Part
pushed NoPats parts = parts
pushed (MorePats p ps) parts = pushed ps (Pat p ∷ parts)

abbrev pub pushed_fields : FieldPats → List Part → List Part
pushed_fields NoFieldPats parts = parts
pushed_fields (MoreFieldPats place name p fs) parts = pushed_fields fs (Field (record { place = place; name = name; pat = p }) ∷ parts)

count_moved : (m n : ℕ) → (m + 1) + n ≡ m + suc n
count_moved m n = omega arith

-- these patterns come off again, and then n more
pats_back : (ps : Pats) (n : ℕ) (parts : List Part) (taken : List Tree) → pats_off (pats_count ps + n) (pushed ps parts) taken ≡ pats_off n parts (pat_list ps ++ taken)
unfolding pats_off
pats_back NoPats n parts taken = ap (λ m. pats_off m parts taken) (zero-add n)
pats_back (MorePats p ps) n parts taken =
    ap (λ m. pats_off m (pushed ps (Pat p ∷ parts)) taken) (count_moved (pats_count ps) n)
    ∙ pats_back ps (suc n) (Pat p ∷ parts) taken

fields_back : (fs : FieldPats) (n : ℕ) (parts : List Part) (taken : List FieldPat) → fields_off (fields_count fs + n) (pushed_fields fs parts) taken ≡ fields_off n parts (field_pat_list fs ++ taken)
unfolding fields_off
fields_back NoFieldPats n parts taken = ap (λ m. fields_off m parts taken) (zero-add n)
fields_back (MoreFieldPats place name p fs) n parts taken =
    ap (λ m. fields_off m (pushed_fields fs (Field (record { place = place; name = name; pat = p }) ∷ parts)) taken) (count_moved (fields_count fs) n)
    ∙ fields_back fs (suc n) (Field (record { place = place; name = name; pat = p }) ∷ parts) taken

pub pats_all_off : (ps : Pats) (parts : List Part) → pats_off (pats_count ps) (pushed ps parts) [] ≡ Some (pat_list ps, parts)
unfolding pats_off
pats_all_off ps parts =
    ap (λ m. pats_off m (pushed ps parts) []) (sym (add-zero (pats_count ps)))
    ∙ pats_back ps 0 parts []
    ∙ ap (λ l. Some (l, parts)) (append-nil (pat_list ps))

pub fields_all_off : (fs : FieldPats) (parts : List Part) → fields_off (fields_count fs) (pushed_fields fs parts) [] ≡ Some (field_pat_list fs, parts)
unfolding fields_off
fields_all_off fs parts =
    ap (λ m. fields_off m (pushed_fields fs parts) []) (sym (add-zero (fields_count fs)))
    ∙ fields_back fs 0 parts []
    ∙ ap (λ l. Some (l, parts)) (append-nil (field_pat_list fs))

mutual
  pub pat_found : (parts : List Part) (p : Tree) → IsUnnumbered p → built stepped (Some parts) (pat_nodes p) ≡ Some (Pat p ∷ parts)
  pat_found parts (APat number place kind) u = kind_found parts place kind u.1 ∙ ap (λ n. Some (Pat (APat n place kind) ∷ parts)) (sym u.0)

  kind_found : (parts : List Part) (place : Place) (kind : PatKind) → IsUnnumberedKind kind → built stepped (Some parts) (kind_nodes place kind) ≡ Some (part place kind ∷ parts)
  kind_found parts place tree.Any u = refl
  kind_found parts place (tree.Var name) u = refl
  kind_found parts place (tree.Number k) u = refl
  kind_found parts place (tree.Bits width k) u = refl
  kind_found parts place (tree.Con name ps) u =
      then stepped parts (pushed ps parts) (pats_nodes ps) (node.Con place name (pats_count ps)) (pats_found parts ps u)
      ∙ ap (of_args place name) (pats_all_off ps parts)
      ∙ ap (λ all. Some (part place (tree.Con name all) ∷ parts)) (pats-list ps)
  kind_found parts place (tree.Fields name fs) u =
      then stepped parts (pushed_fields fs parts) (field_nodes fs) (node.Fields place name (fields_count fs)) (fields_found parts fs u)
      ∙ ap (of_fields place name) (fields_all_off fs parts)
      ∙ ap (λ all. Some (part place (tree.Fields name all) ∷ parts)) (field_pats-list fs)
  kind_found parts place (tree.Pair p q) u =
      then stepped parts (Pat q ∷ Pat p ∷ parts) (pat_nodes p ++ pat_nodes q) (node.Pair place)
      (both stepped parts (Pat p ∷ parts) (Pat q ∷ Pat p ∷ parts) (pat_nodes p) (pat_nodes q) (pat_found parts p u.0) (pat_found (Pat p ∷ parts) q u.1))
  kind_found parts place tree.Unit u = refl

  pub pats_found : (parts : List Part) (ps : Pats) → AreUnnumbered ps → built stepped (Some parts) (pats_nodes ps) ≡ Some (pushed ps parts)
  pats_found parts NoPats u = refl
  pats_found parts (MorePats p ps) u =
      both stepped parts (Pat p ∷ parts) (pushed ps (Pat p ∷ parts)) (pat_nodes p) (pats_nodes ps) (pat_found parts p u.0) (pats_found (Pat p ∷ parts) ps u.1)

  fields_found : (parts : List Part) (fs : FieldPats) → AreUnnumberedFields fs → built stepped (Some parts) (field_nodes fs) ≡ Some (pushed_fields fs parts)
  fields_found parts NoFieldPats u = refl
  fields_found parts (MoreFieldPats place name p fs) u =
      both stepped parts (Field (record { place = place; name = name; pat = p }) ∷ parts) (pushed_fields (MoreFieldPats place name p fs) parts) (pat_nodes p ++ node.Field place name ∷ []) (field_nodes fs)
      (then stepped parts (Pat p ∷ parts) (pat_nodes p) (node.Field place name) (pat_found parts p u.0))
      (fields_found (Field (record { place = place; name = name; pat = p }) ∷ parts) fs u.1)
