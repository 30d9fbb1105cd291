-- The nodes of a declaration and of a program are those of its form.
use Rattle.std.proofs.Common.{◌≡◌, ℕ, ◌+◌, refl, ap, sym, ◌∙◌, List, [], ◌∷◌, ◌++◌, Option, Some, None, arith}
use Rattle.hb_base.specs.declared.place.Place.{Place}
use Rattle.hb_tree.specs.declared.types.NameAt.{NameAt}
use Rattle.hb_tree.specs.declared.types.PredExpr.{PredExpr}
use Rattle.hb_tree.specs.declared.types.Sig.{Sig}
use Rattle.hb_tree.specs.declared.declaration.FieldDecl.{FieldDecl}
use Rattle.hb_tree.specs.declared.declaration.DataCon.{DataCon}
use Rattle.hb_tree.specs.declared.declaration.BitPart.{BitPart}
use Rattle.hb_tree.specs.declared.declaration.BitPart.TheVariants as bit_part
use Rattle.hb_tree.specs.declared.declaration.BitCon.{BitCon}
use Rattle.hb_tree.specs.declared.declaration.StructPart.{StructPart}
use Rattle.hb_tree.specs.declared.declaration.StructPart.TheVariants as struct_part
use Rattle.hb_tree.specs.declared.declaration.Depend.{Depend}
use Rattle.hb_tree.specs.declared.declaration.Decl.{Decl}
use Rattle.hb_tree.specs.declared.declaration.Decl.TheVariants as decl
use Rattle.hb_tree.specs.declared.declaration.Program.{Program}
use Rattle.hb_tree.specs.declared.statement.Bind.{Bind}
use Rattle.hb_tree.specs.ExpressionViews.{equations}
use Rattle.hb_tree.specs.Types.{TypeExpr}
use Rattle.hb_tree.specs.Expressions.{Equations, NoEquations, MoreEquations}
use Rattle.hb_tree.specs.Initials.{InitExpr, Each, Fields, Cell, FieldInits, NoFieldInits, MoreFieldInits}
use Rattle.hb_base.specs.declared.name.Name.{Name}
use Rattle.hb_read_types.specs.Nodes.{type_nodes, context_nodes}
use Rattle.hb_read_expressions.specs.Nodes.{put_rows, expr_nodes}
use Rattle.hb_read_declarations.specs.declared.node.DeclNode.{DeclNode}
use Rattle.hb_read_declarations.specs.declared.node.DeclNode.TheVariants as node
use Rattle.hb_read_declarations.specs.Nodes.{counted, closed as closing, typed, valued, type_of, pred_of, context_whole, named, names_of, number_of, sig_of, data_con_of, fields_of, bit_part_of, bit_con_of, struct_part_of, depend_of, bind_of, init_nodes, field_init_nodes, fields_count, start_of, decl_nodes, program_nodes}
use Rattle.hb_depth.specs.declared.shape.Shape.{Shape}
use Rattle.hb_depth.specs.declared.shape.Kind.TheVariants.{Levels}
use Rattle.hb_depth.specs.Shapes.{shapes, shape, unplaced, hidden as hidden_shape, decl_shape}
use Rattle.hb_depth.specs.Forms.{Form, Forms, MoreForms, leaf, hidden, one, two, three, four, and, forms, type_form, pred_form, context_form, expr_form, rows_forms, name_form, names_form, types_form, sig_form, row_of, equation_form, data_con_form, fields_form, bit_part_form, bit_con_form, struct_part_form, depend_form, init_form, field_inits_forms, start_form, decl_form, program_form}
use Rattle.hb_depth.specs.Written.{IsOneRow, AreWrittenEquations, IsWrittenInit, AreWrittenInits, IsWrittenStart, IsWrittenDecl, AreWrittenDecls, IsWrittenProgram}
use Rattle.hb_depth.proofs.Posts.{count, post, all_post}
use Rattle.hb_depth.proofs.FormLaws.{and_post}
use Rattle.hb_depth.proofs.TypePosts.{type_post, pred_post, context_post, typed_append}
use Rattle.hb_depth.proofs.ExprPosts.{expr_put, rows_put}

-- these nodes are those of the form, and of the forms
abbrev pub Posts : List DeclNode → Form → Type 0
Posts nodes f = (rest : List Shape) → shapes nodes rest ≡ post f rest

abbrev pub AllPosts : List DeclNode → Forms → Type 0
AllPosts nodes fs = (rest : List Shape) → shapes nodes rest ≡ all_post fs rest

shapes_append : (xs ys : List DeclNode) (rest : List Shape) → shapes (xs ++ ys) rest ≡ shapes xs (shapes ys rest)
shapes_append [] ys rest = refl
shapes_append (n ∷ xs) ys rest = ap (λ r. decl_shape n ∷ r) (shapes_append xs ys rest)

both : (xs ys : List DeclNode) (fs gs : Forms) → AllPosts xs fs → AllPosts ys gs → AllPosts (xs ++ ys) (and fs gs)
both xs ys fs gs a b rest = shapes_append xs ys rest ∙ ap (λ r. shapes xs r) (b rest) ∙ a (all_post gs rest) ∙ sym (and_post fs gs rest)

-- a node behind those of its parts
behind : (xs : List DeclNode) (fs : Forms) (n : DeclNode) (s : Shape) → AllPosts xs fs → decl_shape n ≡ s → (rest : List Shape) → shapes (xs ++ n ∷ []) rest ≡ all_post fs (s ∷ rest)
behind xs fs n s a e rest = shapes_append xs (n ∷ []) rest ∙ a (decl_shape n ∷ rest) ∙ ap (λ t. all_post fs (t ∷ rest)) e

behind_two : (xs ys : List DeclNode) (fs gs : Forms) (n : DeclNode) (s : Shape) → AllPosts xs fs → AllPosts ys gs → decl_shape n ≡ s → (rest : List Shape) → shapes (xs ++ (ys ++ n ∷ [])) rest ≡ all_post (and fs gs) (s ∷ rest)
behind_two xs ys fs gs n s a b e rest =
    shapes_append xs (ys ++ n ∷ []) rest
    ∙ ap (λ r. shapes xs r) (behind ys gs n s b e rest)
    ∙ a (all_post gs (s ∷ rest))
    ∙ sym (and_post fs gs (s ∷ rest))

-- The things of a list.

counted_post : {A : Type 0} (f : A → List DeclNode) (g : A → Form) → ((x : A) → Posts (f x) (g x)) → (xs : List A) → AllPosts (counted f xs).nodes (forms g xs)
counted_post f g h [] rest = refl
counted_post f g h (x ∷ xs) rest = both (f x) (counted f xs).nodes (one (g x)) (forms g xs) (h x) (counted_post f g h xs) rest

counted_count : {A : Type 0} (f : A → List DeclNode) (g : A → Form) (xs : List A) → (counted f xs).count ≡ count (forms g xs)
counted_count f g [] = refl
counted_count f g (x ∷ xs) = omega (arith, counted_count f g xs)

-- so many things that are no level, behind them
closed_post : {A : Type 0} (f : A → List DeclNode) (g : A → Form) (whole : ℕ → DeclNode) → ((x : A) → Posts (f x) (g x)) → ((n : ℕ) → decl_shape (whole n) ≡ hidden_shape n) → (xs : List A) → Posts (closing whole (counted f xs)) (hidden (forms g xs))
closed_post f g whole h e xs rest =
    behind (counted f xs).nodes (forms g xs) (whole (counted f xs).count) (hidden_shape (count (forms g xs))) (counted_post f g h xs) (e (counted f xs).count ∙ ap hidden_shape (counted_count f g xs)) rest

named_post : (n : NameAt) → Posts (named n) leaf
named_post n rest = refl

names_post : (names : List NameAt) → Posts (names_of names) (names_form names)
names_post names rest = closed_post named name_form node.Names named_post (λ n. refl) names rest

number_post : (k : Option ℕ) → Posts (number_of k) leaf
number_post None rest = refl
number_post (Some k) rest = refl

types_post : (ts : List TypeExpr) → Posts (closing node.Types (counted type_of ts)) (types_form ts)
types_post ts rest = closed_post type_of type_form node.Types type_post (λ n. refl) ts rest

sig_post : (s : Sig) → Posts (sig_of s) (sig_form s)
sig_post s rest =
    behind (names_of s.names ++ typed (context_nodes s.context ++ type_nodes s.body)) (three (names_form s.names) (context_form s.context) (type_form s.body)) (node.Sig s.place) (shape (Levels 1) (Some s.place) 3)
    (both (names_of s.names) (typed (context_nodes s.context ++ type_nodes s.body)) (one (names_form s.names)) (two (context_form s.context) (type_form s.body)) (names_post s.names)
    (λ r. typed_append (context_nodes s.context) (type_nodes s.body) r ∙ context_post s.context (shapes (typed (type_nodes s.body)) r) ∙ ap (λ q. post (context_form s.context) q) (type_post s.body r)))
    refl rest

data_con_post : (c : DataCon) → Posts (data_con_of c) (data_con_form c)
data_con_post c rest =
    behind_two (named c.name) (closing node.Types (counted type_of c.args)) (one leaf) (one (types_form c.args)) node.DataCon (hidden_shape 2) (named_post c.name) (types_post c.args) refl rest

fields_post : (f : FieldDecl) → Posts (fields_of f) (fields_form f)
fields_post f rest = behind_two (names_of f.names) (type_of f.of) (one (names_form f.names)) (one (type_form f.of)) node.Fields (hidden_shape 2) (names_post f.names) (type_post f.of) refl rest

bit_part_post : (p : BitPart) → Posts (bit_part_of p) (bit_part_form p)
bit_part_post (bit_part.Tag width k) rest = refl
bit_part_post (bit_part.Fields f) rest = behind (fields_of f) (one (fields_form f)) node.BitFields (hidden_shape 1) (fields_post f) refl rest

bit_con_post : (c : BitCon) → Posts (bit_con_of c) (bit_con_form c)
bit_con_post c rest =
    behind_two (named c.name) (counted bit_part_of c.parts).nodes (one leaf) (forms bit_part_form c.parts) (node.BitCon (counted bit_part_of c.parts).count) (hidden_shape (count (forms bit_part_form c.parts) + 1)) (named_post c.name) (counted_post bit_part_of bit_part_form bit_part_post c.parts) (ap (λ n. hidden_shape (n + 1)) (counted_count bit_part_of bit_part_form c.parts)) rest

struct_part_post : (p : StructPart) → Posts (struct_part_of p) (struct_part_form p)
struct_part_post (struct_part.Pad k) rest = refl
struct_part_post (struct_part.Fields f) rest = behind (fields_of f) (one (fields_form f)) node.StructFields (hidden_shape 1) (fields_post f) refl rest

depend_post : (d : Depend) → Posts (depend_of d) (depend_form d)
depend_post d rest = behind_two (names_of d.from) (names_of d.to) (one (names_form d.from)) (one (names_form d.to)) node.Depend (hidden_shape 2) (names_post d.from) (names_post d.to) refl rest

-- Equations of one row.

one_row : (rows : Equations) (name : Name) (place : Place) → IsOneRow rows → Posts (valued (put_rows name place rows [])) (row_of (rows_forms place rows))
one_row NoEquations name place w rest = absurd w
one_row (MoreEquations ps first e bs NoEquations) name place w rest = rows_put (MoreEquations ps first e bs NoEquations) name place (w.1, w.2, tt) [] rest
one_row (MoreEquations ps first e bs (MoreEquations qs second f cs rows)) name place w rest = absurd w.0

equation_post : (b : Bind) → IsOneRow (equations b.rows) → Posts (bind_of b) (equation_form b)
equation_post b w = one_row (equations b.rows) b.name b.place w

equations_post : (bs : List Bind) → AreWrittenEquations bs → AllPosts (counted bind_of bs).nodes (forms equation_form bs)
equations_post [] w rest = refl
equations_post (b ∷ bs) w rest = both (bind_of b) (counted bind_of bs).nodes (one (equation_form b)) (forms equation_form bs) (equation_post b w.0) (equations_post bs w.1) rest

group_post : (bs : List Bind) → AreWrittenEquations bs → Posts (closing node.Equations (counted bind_of bs)) (hidden (forms equation_form bs))
group_post bs w rest =
    behind (counted bind_of bs).nodes (forms equation_form bs) (node.Equations (counted bind_of bs).count) (hidden_shape (count (forms equation_form bs))) (equations_post bs w) (ap hidden_shape (counted_count bind_of equation_form bs)) rest

sigs_post : (sigs : List Sig) → Posts (closing node.Sigs (counted sig_of sigs)) (hidden (forms sig_form sigs))
sigs_post sigs rest =
    behind (counted sig_of sigs).nodes (forms sig_form sigs) (node.Sigs (counted sig_of sigs).count) (hidden_shape (count (forms sig_form sigs))) (counted_post sig_of sig_form sig_post sigs) (ap hidden_shape (counted_count sig_of sig_form sigs)) rest

-- Initialisers.

inits_counted : (fs : FieldInits) → fields_count fs ≡ count (field_inits_forms fs)
inits_counted NoFieldInits = refl
inits_counted (MoreFieldInits name i fs) = omega (arith, inits_counted fs)

mutual
  init_post : (i : InitExpr) → IsWrittenInit i → Posts (init_nodes i) (init_form i)
  init_post (Each place name i) w rest = behind_two (named name) (init_nodes i) (one leaf) (one (init_form i)) (node.InitEach place) (shape (Levels 1) (Some place) 2) (named_post name) (init_post i w) refl rest
  init_post (Fields place fs) w rest = behind (field_init_nodes fs) (field_inits_forms fs) (node.InitFields place (fields_count fs)) (shape (Levels 1) (Some place) (count (field_inits_forms fs))) (inits_post fs w) (ap (shape (Levels 1) (Some place)) (inits_counted fs)) rest
  init_post (Cell place e) w rest = behind (valued (expr_nodes e)) (one (expr_form e)) (node.InitCell place) (shape (Levels 1) (Some place) 1) (expr_put e w []) refl rest

  inits_post : (fs : FieldInits) → AreWrittenInits fs → AllPosts (field_init_nodes fs) (field_inits_forms fs)
  inits_post NoFieldInits w rest = refl
  inits_post (MoreFieldInits name i fs) w rest =
      both (named name ++ (init_nodes i ++ node.InitField ∷ [])) (field_init_nodes fs) (one (hidden (two leaf (init_form i)))) (field_inits_forms fs)
      (behind_two (named name) (init_nodes i) (one leaf) (one (init_form i)) node.InitField (hidden_shape 2) (named_post name) (init_post i w.0) refl) (inits_post fs w.1) rest

start_post : (i : Option InitExpr) → IsWrittenStart i → Posts (start_of i) (start_form i)
start_post None w rest = refl
start_post (Some i) w rest = behind (init_nodes i) (one (init_form i)) node.Init (hidden_shape 1) (init_post i w) refl rest

-- Declarations.

-- the nodes of three parts, of four and of five
three_posts : (xs ys zs : List DeclNode) (f g h : Form) → Posts xs f → Posts ys g → Posts zs h → AllPosts (xs ++ (ys ++ zs)) (three f g h)
three_posts xs ys zs f g h a b c = both xs (ys ++ zs) (one f) (two g h) a (both ys zs (one g) (one h) b c)

four_posts : (ws xs ys zs : List DeclNode) (e f g h : Form) → Posts ws e → Posts xs f → Posts ys g → Posts zs h → AllPosts (ws ++ (xs ++ (ys ++ zs))) (four e f g h)
four_posts ws xs ys zs e f g h d a b c = both ws (xs ++ (ys ++ zs)) (one e) (three f g h) d (three_posts xs ys zs f g h a b c)

five_posts : (vs ws xs ys zs : List DeclNode) (k e f g h : Form) → Posts vs k → Posts ws e → Posts xs f → Posts ys g → Posts zs h → AllPosts ((vs ++ (ws ++ xs)) ++ (ys ++ zs)) (MoreForms k (four e f g h))
five_posts vs ws xs ys zs k e f g h m d a b c = both (vs ++ (ws ++ xs)) (ys ++ zs) (three k e f) (two g h) (three_posts vs ws xs k e f m d a) (both ys zs (one g) (one h) b c)

context_closed : (ps : List PredExpr) → Posts (closing context_whole (counted pred_of ps)) (context_form ps)
context_closed ps rest = closed_post pred_of pred_form context_whole pred_post (λ n. refl) ps rest

decl_post : (d : Decl) → IsWrittenDecl d → Posts (decl_nodes d) (decl_form d)
decl_post (decl.Sig s) w = sig_post s
decl_post (decl.Equation b) w = behind (bind_of b) (one (equation_form b)) node.Equation (hidden_shape 1) (equation_post b w) refl
decl_post (decl.Fixity place fix k names) w = behind (names_of names) (one (names_form names)) (node.Fixity place fix k) (shape (Levels 1) (Some place) 1) (names_post names) refl
decl_post (decl.Data place name params cons) w =
    behind (named name ++ (names_of params ++ closing node.DataCons (counted data_con_of cons))) (three leaf (names_form params) (hidden (forms data_con_form cons))) (node.Data place) (shape (Levels 1) (Some place) 3)
    (three_posts (named name) (names_of params) (closing node.DataCons (counted data_con_of cons)) leaf (names_form params) (hidden (forms data_con_form cons)) (named_post name) (names_post params) (closed_post data_con_of data_con_form node.DataCons data_con_post (λ n. refl) cons)) refl
decl_post (decl.Bitdata place name width cons) w =
    behind (named name ++ (number_of width ++ closing node.BitCons (counted bit_con_of cons))) (three leaf leaf (hidden (forms bit_con_form cons))) (node.Bitdata place) (shape (Levels 1) (Some place) 3)
    (three_posts (named name) (number_of width) (closing node.BitCons (counted bit_con_of cons)) leaf leaf (hidden (forms bit_con_form cons)) (named_post name) (number_post width) (closed_post bit_con_of bit_con_form node.BitCons bit_con_post (λ n. refl) cons)) refl
decl_post (decl.Struct place name bytes parts) w =
    behind (named name ++ (number_of bytes ++ closing node.StructParts (counted struct_part_of parts))) (three leaf leaf (hidden (forms struct_part_form parts))) (node.Struct place) (shape (Levels 1) (Some place) 3)
    (three_posts (named name) (number_of bytes) (closing node.StructParts (counted struct_part_of parts)) leaf leaf (hidden (forms struct_part_form parts)) (named_post name) (number_post bytes) (closed_post struct_part_of struct_part_form node.StructParts struct_part_post (λ n. refl) parts)) refl
decl_post (decl.Area place name init a align) w =
    behind (named name ++ (start_of init ++ (type_of a ++ number_of align))) (four leaf (start_form init) (type_form a) leaf) (node.Area place) (shape (Levels 1) (Some place) 4)
    (four_posts (named name) (start_of init) (type_of a) (number_of align) leaf (start_form init) (type_form a) leaf (named_post name) (start_post init w) (type_post a) (number_post align)) refl
decl_post (decl.Port place name dir a width k) w =
    behind_two (named name) (type_of a) (one leaf) (one (type_form a)) (node.Port place dir width k) (shape (Levels 1) (Some place) 2) (named_post name) (type_post a) refl
decl_post (decl.Class place ps name params ds sigs) w =
    behind ((typed (context_nodes ps) ++ (named name ++ names_of params)) ++ (closing node.Depends (counted depend_of ds) ++ closing node.Sigs (counted sig_of sigs))) (MoreForms (context_form ps) (four leaf (names_form params) (hidden (forms depend_form ds)) (hidden (forms sig_form sigs)))) (node.Class place) (shape (Levels 1) (Some place) 5)
    (five_posts (typed (context_nodes ps)) (named name) (names_of params) (closing node.Depends (counted depend_of ds)) (closing node.Sigs (counted sig_of sigs)) (context_form ps) leaf (names_form params) (hidden (forms depend_form ds)) (hidden (forms sig_form sigs)) (context_post ps) (named_post name) (names_post params) (closed_post depend_of depend_form node.Depends depend_post (λ n. refl) ds) (sigs_post sigs)) refl
decl_post (decl.Instance place name ts ps rows) w =
    behind (named name ++ (closing node.Types (counted type_of ts) ++ (closing context_whole (counted pred_of ps) ++ closing node.Equations (counted bind_of rows)))) (four leaf (types_form ts) (context_form ps) (hidden (forms equation_form rows))) (node.Instance place) (shape (Levels 1) (Some place) 4)
    (four_posts (named name) (closing node.Types (counted type_of ts)) (closing context_whole (counted pred_of ps)) (closing node.Equations (counted bind_of rows)) leaf (types_form ts) (context_form ps) (hidden (forms equation_form rows)) (named_post name) (types_post ts) (context_closed ps) (group_post rows w)) refl

decls_post : (ds : List Decl) → AreWrittenDecls ds → AllPosts (counted decl_nodes ds).nodes (forms decl_form ds)
decls_post [] w rest = refl
decls_post (d ∷ ds) w rest = both (decl_nodes d) (counted decl_nodes ds).nodes (one (decl_form d)) (forms decl_form ds) (decl_post d w.0) (decls_post ds w.1) rest

-- the nodes of a program are those of its form
pub program_post : (p : Program) → IsWrittenProgram p → Posts (program_nodes p) (program_form p)
program_post p w rest =
    behind (counted decl_nodes p.decls).nodes (forms decl_form p.decls) (node.Program (counted decl_nodes p.decls).count) (unplaced (count (forms decl_form p.decls))) (decls_post p.decls w) (ap unplaced (counted_count decl_nodes decl_form p.decls)) rest
