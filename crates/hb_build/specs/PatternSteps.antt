-- How a node of a pattern changes what is built so far: the parts on the stack, whose top is the first of its list. Each
-- node takes its parts off and puts the whole on. Where the parts are not there, no pattern has such nodes.
use Rattle.std.specs.Prelude.{◌≡◌, ℕ, zero, suc, List, [], ◌∷◌, Option, Some, None}
use Rattle.hb_base.specs.declared.place.Place.{Place}
use Rattle.hb_base.specs.declared.name.Name.{Name}
use Rattle.hb_tree.specs.declared.pattern.FieldPat.{FieldPat}
use Rattle.hb_tree.specs.Patterns.{Pat as Tree, APat, PatKind}
use Rattle.hb_tree.specs.Patterns as tree
use Rattle.hb_tree.specs.PatternViews.{pats, field_pats}
use Rattle.hb_read_patterns.specs.declared.node.PatNode.{PatNode}
use Rattle.hb_read_patterns.specs.declared.node.PatNode.TheVariants as node
use Rattle.hb_build.specs.declared.pattern_builder.PatBuilder.{PatBuilder}
use Rattle.hb_build.specs.declared.pattern_builder.Part.{Part}
use Rattle.hb_build.specs.declared.pattern_builder.Part.TheVariants.{Pat, Field, Row}

-- so many patterns off the stack, before those that are off already; and what is left
unfoldable pub pats_off : ℕ → List Part → List Tree → Option (List Tree × List Part)
pats_off zero parts taken = Some (taken, parts)
pats_off (suc n) (Pat p ∷ parts) taken = pats_off n parts (p ∷ taken)
pats_off (suc n) (Field f ∷ parts) taken = None
pats_off (suc n) (Row ps ∷ parts) taken = None
pats_off (suc n) [] taken = None

-- so many fields off the stack, before those that are off already; and what is left
unfoldable pub fields_off : ℕ → List Part → List FieldPat → Option (List FieldPat × List Part)
fields_off zero parts taken = Some (taken, parts)
fields_off (suc n) (Field f ∷ parts) taken = fields_off n parts (f ∷ taken)
fields_off (suc n) (Pat p ∷ parts) taken = None
fields_off (suc n) (Row ps ∷ parts) taken = None
fields_off (suc n) [] taken = None

-- these were taken off, and this is left; or they are not there
abbrev pub TakenOff : {A : Type 0} → Option (List A × List Part) → Option (List A) → List Part → Type 0
TakenOff off None left = off ≡ None
TakenOff off (Some taken) left = off ≡ Some (taken, left)

-- a pattern with this form; its number in the tree comes later
abbrev pub part : Place → PatKind → Part
part place kind = Pat (APat 0 place kind)

abbrev pub of_args : Place → Name → Option (List Tree × List Part) → Option (List Part)
of_args place name None = None
of_args place name (Some off) = Some (part place (tree.Con name (pats off.0)) ∷ off.1)

abbrev pub of_fields : Place → Name → Option (List FieldPat × List Part) → Option (List Part)
of_fields place name None = None
of_fields place name (Some off) = Some (part place (tree.Fields name (field_pats off.0)) ∷ off.1)

abbrev pub of_row : Option (List Tree × List Part) → Option (List Part)
of_row None = None
of_row (Some off) = Some (Row off.0 ∷ off.1)

-- the last part, which is a pattern, and the parts before it
abbrev pub pat_off : List Part → Option (Tree × List Part)
pat_off (Pat p ∷ parts) = Some (p, parts)
pat_off (Field f ∷ parts) = None
pat_off (Row ps ∷ parts) = None
pat_off [] = None

-- the last part, which is a field, and the parts before it
abbrev pub field_off : List Part → Option (FieldPat × List Part)
field_off (Field f ∷ parts) = Some (f, parts)
field_off (Pat p ∷ parts) = None
field_off (Row ps ∷ parts) = None
field_off [] = None

-- it was taken off, and this is left; or it is not there
abbrev pub LastOff : {A : Type 0} → Option (A × List Part) → Option A → List Part → Type 0
LastOff off None left = off ≡ None
LastOff off (Some last) left = off ≡ Some (last, left)

-- the last pattern becomes that of a field
abbrev pub of_field : Place → Name → Option (Tree × List Part) → Option (List Part)
of_field place name None = None
of_field place name (Some off) = Some (Field (record { place = place; name = name; pat = off.0 }) ∷ off.1)

-- the first of a pair, before the second
abbrev pub of_first : Place → Tree → Option (Tree × List Part) → Option (List Part)
of_first place second None = None
of_first place second (Some off) = Some (part place (tree.Pair off.0 second) ∷ off.1)

-- the second of a pair
abbrev pub of_pair : Place → Option (Tree × List Part) → Option (List Part)
of_pair place None = None
of_pair place (Some off) = of_first place off.0 (pat_off off.1)

abbrev pub stepped : List Part → PatNode → Option (List Part)
stepped parts (node.Any place) = Some (part place tree.Any ∷ parts)
stepped parts (node.Var place name) = Some (part place (tree.Var name) ∷ parts)
stepped parts (node.Number place k) = Some (part place (tree.Number k) ∷ parts)
stepped parts (node.Bits place width k) = Some (part place (tree.Bits width k) ∷ parts)
stepped parts (node.Con place name count) = of_args place name (pats_off count parts [])
stepped parts (node.Fields place name count) = of_fields place name (fields_off count parts [])
stepped parts (node.Field place name) = of_field place name (pat_off parts)
stepped parts (node.Pair place) = of_pair place (pat_off parts)
stepped parts (node.Unit place) = Some (part place tree.Unit ∷ parts)
stepped parts (node.Row count) = of_row (pats_off count parts [])

-- one pattern, and nothing else
abbrev pub lone_pat : List Part → Option Tree
lone_pat (Pat p ∷ []) = Some p
lone_pat (Pat p ∷ q ∷ parts) = None
lone_pat (Field f ∷ parts) = None
lone_pat (Row ps ∷ parts) = None
lone_pat [] = None

-- one row, and nothing else
abbrev pub lone_row : List Part → Option (List Tree)
lone_row (Row ps ∷ []) = Some ps
lone_row (Row ps ∷ q ∷ parts) = None
lone_row (Pat p ∷ parts) = None
lone_row (Field f ∷ parts) = None
lone_row [] = None

-- the parts of a builder, if there is one
abbrev pub parts_of : Option PatBuilder → Option (List Part)
parts_of None = None
parts_of (Some builder) = Some builder.parts
