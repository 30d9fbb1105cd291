-- What is built has just the nodes that were taken, and no number.
use Rattle.std.proofs.Common.{◌≡◌, ℕ, zero, suc, ◌+◌, refl, ap, sym, ◌∙◌, subst, List, [], ◌∷◌, ◌++◌, Option, Some, None, arith}
use Rattle.std.proofs.lemmas.List.{append_assoc, append-nil}
use Rattle.hb_base.specs.declared.place.Place.{Place}
use Rattle.hb_base.specs.declared.name.Name.{Name}
use Rattle.hb_tree.specs.declared.pattern.FieldPat.{FieldPat}
use Rattle.hb_tree.specs.Patterns.{Pat as Tree}
use Rattle.hb_tree.specs.PatternViews.{pats, field_pats}
use Rattle.hb_read_patterns.specs.declared.node.PatNode.{PatNode}
use Rattle.hb_read_patterns.specs.declared.node.PatNode.TheVariants as node
use Rattle.hb_read_patterns.specs.Nodes.{pat_nodes, pats_nodes, field_nodes, row_nodes, pats_count, fields_count}
use Rattle.hb_build.specs.declared.pattern_builder.Part.{Part}
use Rattle.hb_build.specs.declared.pattern_builder.Part.TheVariants.{Pat, Field, Row}
use Rattle.hb_build.specs.Building.{built}
use Rattle.hb_build.proofs.BuildingLaws.{Has, built_has}
use Rattle.hb_build.specs.PatternSteps.{stepped, pats_off, fields_off, pat_off, of_args, of_fields, of_row, of_field, of_pair}
use Rattle.hb_build.specs.Unnumbered.{IsUnnumbered, AreUnnumbered, AreUnnumberedFields}

abbrev pub part_nodes : Part → List PatNode
part_nodes (Pat p) = pat_nodes p
part_nodes (Field f) = pat_nodes f.pat ++ node.Field f.place f.name ∷ []
part_nodes (Row ps) = row_nodes (pats ps)

-- the nodes of the parts of a stack, the last one first
abbrev pub parts_nodes : List Part → List PatNode
parts_nodes [] = []
parts_nodes (x ∷ parts) = parts_nodes parts ++ part_nodes x

abbrev pub IsPlain : Part → Type 0
IsPlain (Pat p) = IsUnnumbered p
IsPlain (Field f) = IsUnnumbered f.pat
IsPlain (Row ps) = AreUnnumbered (pats ps)

abbrev pub ArePlain : List Part → Type 0
ArePlain [] = Unit {0}
ArePlain (x ∷ parts) = IsPlain x × ArePlain parts

-- these are the nodes of what is built, and it has no numbers
abbrev pub Fits : List Part → List PatNode → Type 0
Fits parts nodes = (parts_nodes parts ≡ nodes) × ArePlain parts

-- so many patterns are off, and these are the nodes of what is left and of what is off
abbrev PatsHave : Option (List Tree × List Part) → List PatNode → ℕ → Type 0
PatsHave None nodes count = Unit {0}
PatsHave (Some off) nodes count = (parts_nodes off.1 ++ pats_nodes (pats off.0) ≡ nodes) × (pats_count (pats off.0) ≡ count) × AreUnnumbered (pats off.0) × ArePlain off.1

abbrev FieldsHave : Option (List FieldPat × List Part) → List PatNode → ℕ → Type 0
FieldsHave None nodes count = Unit {0}
FieldsHave (Some off) nodes count = (parts_nodes off.1 ++ field_nodes (field_pats off.0) ≡ nodes) × (fields_count (field_pats off.0) ≡ count) × AreUnnumberedFields (field_pats off.0) × ArePlain off.1

one_more : (k n count : ℕ) → k + suc n ≡ count → (k + 1) + n ≡ count
one_more k n count e = omega arith

none_more : (k count : ℕ) → k + 0 ≡ count → k ≡ count
none_more k count e = omega arith

pats_have : (n : ℕ) (parts : List Part) (taken : List Tree) (nodes : List PatNode) (count : ℕ) → parts_nodes parts ++ pats_nodes (pats taken) ≡ nodes → pats_count (pats taken) + n ≡ count → AreUnnumbered (pats taken) → ArePlain parts → PatsHave (pats_off n parts taken) nodes count
unfolding pats_off
pats_have zero parts taken nodes count e f u plain = (e, none_more (pats_count (pats taken)) count f, u, plain)
pats_have (suc n) (Pat p ∷ parts) taken nodes count e f u plain =
    pats_have n parts (p ∷ taken) nodes count (sym (append_assoc (parts_nodes parts) (pat_nodes p) (pats_nodes (pats taken))) ∙ e) (one_more (pats_count (pats taken)) n count f) (plain.0, u) plain.1
pats_have (suc n) (Field x ∷ parts) taken nodes count e f u plain = tt
pats_have (suc n) (Row ps ∷ parts) taken nodes count e f u plain = tt
pats_have (suc n) [] taken nodes count e f u plain = tt

fields_have : (n : ℕ) (parts : List Part) (taken : List FieldPat) (nodes : List PatNode) (count : ℕ) → parts_nodes parts ++ field_nodes (field_pats taken) ≡ nodes → fields_count (field_pats taken) + n ≡ count → AreUnnumberedFields (field_pats taken) → ArePlain parts → FieldsHave (fields_off n parts taken) nodes count
unfolding fields_off
fields_have zero parts taken nodes count e f u plain = (e, none_more (fields_count (field_pats taken)) count f, u, plain)
fields_have (suc n) (Field x ∷ parts) taken nodes count e f u plain =
    fields_have n parts (x ∷ taken) nodes count (sym (append_assoc (parts_nodes parts) (part_nodes (Field x)) (field_nodes (field_pats taken))) ∙ e) (one_more (fields_count (field_pats taken)) n count f) (plain.0, u) plain.1
fields_have (suc n) (Pat p ∷ parts) taken nodes count e f u plain = tt
fields_have (suc n) (Row ps ∷ parts) taken nodes count e f u plain = tt
fields_have (suc n) [] taken nodes count e f u plain = tt

-- a whole behind its parts
whole_nodes : (left inner all : List PatNode) (k count : ℕ) (n : ℕ → PatNode) → left ++ inner ≡ all → k ≡ count → left ++ (inner ++ n k ∷ []) ≡ all ++ n count ∷ []
whole_nodes left inner all k count n e f = sym (append_assoc left inner (n k ∷ [])) ∙ ap (λ ms. ms ++ n k ∷ []) e ∙ ap (λ m. all ++ n m ∷ []) f

args_have : (off : Option (List Tree × List Part)) (all : List PatNode) (place : Place) (name : Name) (count : ℕ) → PatsHave off all count → Has Fits (of_args place name off) (all ++ node.Con place name count ∷ [])
args_have None all place name count h = tt
args_have (Some off) all place name count h =
    (whole_nodes (parts_nodes off.1) (pats_nodes (pats off.0)) all (pats_count (pats off.0)) count (λ k. node.Con place name k) h.0 h.1, ((refl, h.2), h.3))

row_has : (off : Option (List Tree × List Part)) (all : List PatNode) (count : ℕ) → PatsHave off all count → Has Fits (of_row off) (all ++ node.Row count ∷ [])
row_has None all count h = tt
row_has (Some off) all count h =
    (whole_nodes (parts_nodes off.1) (pats_nodes (pats off.0)) all (pats_count (pats off.0)) count (λ k. node.Row k) h.0 h.1, (h.2, h.3))

form_has : (off : Option (List FieldPat × List Part)) (all : List PatNode) (place : Place) (name : Name) (count : ℕ) → FieldsHave off all count → Has Fits (of_fields place name off) (all ++ node.Fields place name count ∷ [])
form_has None all place name count h = tt
form_has (Some off) all place name count h =
    (whole_nodes (parts_nodes off.1) (field_nodes (field_pats off.0)) all (fields_count (field_pats off.0)) count (λ k. node.Fields place name k) h.0 h.1, ((refl, h.2), h.3))

field_has : (parts : List Part) (place : Place) (name : Name) → ArePlain parts → Has Fits (of_field place name (pat_off parts)) (parts_nodes parts ++ node.Field place name ∷ [])
field_has [] place name plain = tt
field_has (Field f ∷ parts) place name plain = tt
field_has (Row ps ∷ parts) place name plain = tt
field_has (Pat p ∷ parts) place name plain = (sym (append_assoc (parts_nodes parts) (pat_nodes p) (node.Field place name ∷ [])), plain)

pair_nodes : (x p q n : List PatNode) → x ++ ((p ++ q) ++ n) ≡ ((x ++ p) ++ q) ++ n
pair_nodes x p q n = simp append_assoc

pair_has : (parts : List Part) (place : Place) → ArePlain parts → Has Fits (of_pair place (pat_off parts)) (parts_nodes parts ++ node.Pair place ∷ [])
pair_has [] place plain = tt
pair_has (Field f ∷ parts) place plain = tt
pair_has (Row ps ∷ parts) place plain = tt
pair_has (Pat q ∷ []) place plain = tt
pair_has (Pat q ∷ Field f ∷ parts) place plain = tt
pair_has (Pat q ∷ Row ps ∷ parts) place plain = tt
pair_has (Pat q ∷ Pat p ∷ parts) place plain =
    (pair_nodes (parts_nodes parts) (pat_nodes p) (pat_nodes q) (node.Pair place ∷ []), ((refl, (plain.1.0, plain.0)), plain.1.1))

all_pats_have : (count : ℕ) (parts : List Part) → ArePlain parts → PatsHave (pats_off count parts []) (parts_nodes parts) count
all_pats_have count parts plain = pats_have count parts [] (parts_nodes parts) count (append-nil (parts_nodes parts)) (omega arith) tt plain

all_fields_have : (count : ℕ) (parts : List Part) → ArePlain parts → FieldsHave (fields_off count parts []) (parts_nodes parts) count
all_fields_have count parts plain = fields_have count parts [] (parts_nodes parts) count (append-nil (parts_nodes parts)) (omega arith) tt plain

stepped_has : (parts : List Part) (n : PatNode) → ArePlain parts → Has Fits (stepped parts n) (parts_nodes parts ++ n ∷ [])
stepped_has parts (node.Any place) plain = (refl, ((refl, tt), plain))
stepped_has parts (node.Var place name) plain = (refl, ((refl, tt), plain))
stepped_has parts (node.Number place k) plain = (refl, ((refl, tt), plain))
stepped_has parts (node.Bits place width k) plain = (refl, ((refl, tt), plain))
stepped_has parts (node.Con place name count) plain = args_have (pats_off count parts []) (parts_nodes parts) place name count (all_pats_have count parts plain)
stepped_has parts (node.Fields place name count) plain = form_has (fields_off count parts []) (parts_nodes parts) place name count (all_fields_have count parts plain)
stepped_has parts (node.Field place name) plain = field_has parts place name plain
stepped_has parts (node.Pair place) plain = pair_has parts place plain
stepped_has parts (node.Unit place) plain = (refl, ((refl, tt), plain))
stepped_has parts (node.Row count) plain = row_has (pats_off count parts []) (parts_nodes parts) count (all_pats_have count parts plain)

keeps : (parts : List Part) (n : PatNode) (before : List PatNode) → Fits parts before → Has Fits (stepped parts n) (before ++ n ∷ [])
keeps parts n before h = subst (λ ms. Has Fits (stepped parts n) (ms ++ n ∷ [])) h.0 (stepped_has parts n h.1)

pub only : (nodes : List PatNode) → Has Fits (built stepped (Some []) nodes) nodes
only nodes = built_has stepped Fits keeps (Some []) [] nodes (refl, tt)
