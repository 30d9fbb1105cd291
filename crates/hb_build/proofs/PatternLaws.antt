-- What the builders of patterns answer, and that a pattern and a row of patterns without numbers are each determined by
-- their nodes.
use Rattle.std.proofs.Common.{◌≡◌, refl, ap, sym, ◌∙◌, subst, List, [], ◌∷◌, Option, Some, None, IfSome}
use Rattle.hb_tree.specs.Patterns.{Pat as Tree, Pats}
use Rattle.hb_tree.specs.PatternViews.{pats}
use Rattle.hb_tree.specs.Lists.{pat_list}
use Rattle.hb_tree.proofs.ListLaws.{list-pats, pats-list}
use Rattle.hb_read_patterns.specs.declared.node.PatNode.{PatNode}
use Rattle.hb_read_patterns.specs.declared.node.PatNode.TheVariants as node
use Rattle.hb_read_patterns.specs.Nodes.{pat_nodes, pats_nodes, row_nodes, pats_count}
use Rattle.hb_build.specs.declared.pattern_builder.Part.{Part}
use Rattle.hb_build.specs.declared.pattern_builder.Part.TheVariants.{Pat, Field, Row}
use Rattle.hb_build.specs.Building.{built}
use Rattle.hb_build.specs.PatternSteps.{stepped, lone_pat, lone_row, of_row}
use Rattle.hb_build.specs.Unnumbered.{IsUnnumbered, AreUnnumbered}
use Rattle.hb_build.proofs.BuildingLaws.{Has, then, same}
use Rattle.hb_build.proofs.PatternsFound.{pat_found, pats_found, pats_all_off, pushed}
use Rattle.hb_build.proofs.PatternsOnly.{Fits, only}

-- the pattern and the row, where these are all that is built
abbrev pub pat_of : Option (List Part) → Option Tree
pat_of None = None
pat_of (Some parts) = lone_pat parts

abbrev pub row_of : Option (List Part) → Option (List Tree)
row_of None = None
row_of (Some parts) = lone_row parts

row_found : (ps : Pats) → AreUnnumbered ps → built stepped (Some []) (row_nodes ps) ≡ Some (Row (pat_list ps) ∷ [])
row_found ps u = then stepped [] (pushed ps []) (pats_nodes ps) (node.Row (pats_count ps)) (pats_found [] ps u) ∙ ap of_row (pats_all_off ps [])

pub pat_is : (s : Option (List Part)) (nodes : List PatNode) (p : Tree) → s ≡ built stepped (Some []) nodes → IsUnnumbered p → nodes ≡ pat_nodes p → pat_of s ≡ Some p
pat_is s nodes p e u h = ap pat_of (e ∙ ap (built stepped (Some [])) h ∙ pat_found [] p u)

rows_is : (s : Option (List Part)) (nodes : List PatNode) (ps : Pats) → s ≡ built stepped (Some []) nodes → AreUnnumbered ps → nodes ≡ row_nodes ps → row_of s ≡ Some (pat_list ps)
rows_is s nodes ps e u h = ap row_of (e ∙ ap (built stepped (Some [])) h ∙ row_found ps u)

pub row_is : (s : Option (List Part)) (nodes : List PatNode) (row : List Tree) → s ≡ built stepped (Some []) nodes → AreUnnumbered (pats row) → nodes ≡ row_nodes (pats row) → row_of s ≡ Some row
row_is s nodes row e u h = rows_is s nodes (pats row) e u h ∙ ap (λ l. Some l) (list-pats row)

-- a pattern without numbers that has these nodes, and a row
abbrev pub PatWith : List PatNode → Tree → Type 0
PatWith nodes p = (nodes ≡ pat_nodes p) × IsUnnumbered p

abbrev pub RowWith : List PatNode → List Tree → Type 0
RowWith nodes row = (nodes ≡ row_nodes (pats row)) × AreUnnumbered (pats row)

pat_has : (s : Option (List Part)) (nodes : List PatNode) → Has Fits s nodes → IfSome (pat_of s) (PatWith nodes)
pat_has None nodes h = tt
pat_has (Some []) nodes h = tt
pat_has (Some (Field f ∷ parts)) nodes h = tt
pat_has (Some (Row ps ∷ parts)) nodes h = tt
pat_has (Some (Pat p ∷ [])) nodes h = (sym h.0, h.1.0)
pat_has (Some (Pat p ∷ q ∷ parts)) nodes h = tt

row_has : (s : Option (List Part)) (nodes : List PatNode) → Has Fits s nodes → IfSome (row_of s) (RowWith nodes)
row_has None nodes h = tt
row_has (Some []) nodes h = tt
row_has (Some (Field f ∷ parts)) nodes h = tt
row_has (Some (Pat p ∷ parts)) nodes h = tt
row_has (Some (Row ps ∷ [])) nodes h = (sym h.0, h.1.0)
row_has (Some (Row ps ∷ q ∷ parts)) nodes h = tt

has : (s : Option (List Part)) (nodes : List PatNode) → s ≡ built stepped (Some []) nodes → Has Fits s nodes
has s nodes e = subst (λ v. Has Fits v nodes) (sym e) (only nodes)

first_part : {A : Type 0} (P Q : A → Type 0) (x : Option A) → IfSome x (λ a. P a × Q a) → IfSome x P
first_part P Q None h = tt
first_part P Q (Some a) h = h.0

second_part : {A : Type 0} (P Q : A → Type 0) (x : Option A) → IfSome x (λ a. P a × Q a) → IfSome x Q
second_part P Q None h = tt
second_part P Q (Some a) h = h.1

pub pat_only : (s : Option (List Part)) (nodes : List PatNode) → s ≡ built stepped (Some []) nodes → IfSome (pat_of s) (λ p. nodes ≡ pat_nodes p)
pat_only s nodes e = first_part (λ p. nodes ≡ pat_nodes p) IsUnnumbered (pat_of s) (pat_has s nodes (has s nodes e))

pub pat_plain : (s : Option (List Part)) (nodes : List PatNode) → s ≡ built stepped (Some []) nodes → IfSome (pat_of s) IsUnnumbered
pat_plain s nodes e = second_part (λ p. nodes ≡ pat_nodes p) IsUnnumbered (pat_of s) (pat_has s nodes (has s nodes e))

pub row_only : (s : Option (List Part)) (nodes : List PatNode) → s ≡ built stepped (Some []) nodes → IfSome (row_of s) (λ row. nodes ≡ row_nodes (pats row))
row_only s nodes e = first_part (λ row. nodes ≡ row_nodes (pats row)) (λ row. AreUnnumbered (pats row)) (row_of s) (row_has s nodes (has s nodes e))

pub row_plain : (s : Option (List Part)) (nodes : List PatNode) → s ≡ built stepped (Some []) nodes → IfSome (row_of s) (λ row. AreUnnumbered (pats row))
row_plain s nodes e = second_part (λ row. nodes ≡ row_nodes (pats row)) (λ row. AreUnnumbered (pats row)) (row_of s) (row_has s nodes (has s nodes e))

-- two patterns without numbers that have the same nodes are one
pub pats_alike : (a b : Tree) → IsUnnumbered a → IsUnnumbered b → pat_nodes a ≡ pat_nodes b → a ≡ b
pats_alike a b u v e = same a b (sym (pat_is (built stepped (Some []) (pat_nodes a)) (pat_nodes a) a refl u refl) ∙ pat_is (built stepped (Some []) (pat_nodes a)) (pat_nodes a) b refl v e)

same_row : (a b : Pats) → pat_list a ≡ pat_list b → a ≡ b
same_row a b e = sym (pats-list a) ∙ ap pats e ∙ pats-list b

-- two rows without numbers that have the same nodes are one
pub rows_alike : (a b : Pats) → AreUnnumbered a → AreUnnumbered b → row_nodes a ≡ row_nodes b → a ≡ b
rows_alike a b u v e = same_row a b (same (pat_list a) (pat_list b) (sym (rows_is (built stepped (Some []) (row_nodes a)) (row_nodes a) a refl u refl) ∙ rows_is (built stepped (Some []) (row_nodes a)) (row_nodes a) b refl v e))
