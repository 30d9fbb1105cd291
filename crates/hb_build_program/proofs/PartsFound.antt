-- The nodes of a part of a declaration put that part on its stack.
use Rattle.std.proofs.Common.{◌≡◌, ℕ, refl, ap, ◌∙◌, List, [], ◌∷◌, ◌++◌, reverse, Option, Some, None}
use Rattle.std.proofs.lemmas.List.{reverse-reverse}
use mathlib.Core.List.{reverse_aux}
use Rattle.hb_tree.specs.declared.types.NameAt.{NameAt}
use Rattle.hb_tree.specs.declared.types.PredExpr.{PredExpr}
use Rattle.hb_tree.specs.declared.types.Sig.{Sig}
use Rattle.hb_tree.specs.declared.declaration.FieldDecl.{FieldDecl}
use Rattle.hb_tree.specs.declared.declaration.DataCon.{DataCon}
use Rattle.hb_tree.specs.declared.declaration.BitPart.{BitPart}
use Rattle.hb_tree.specs.declared.declaration.BitPart.TheVariants as bit_part
use Rattle.hb_tree.specs.declared.declaration.BitCon.{BitCon}
use Rattle.hb_tree.specs.declared.declaration.StructPart.{StructPart}
use Rattle.hb_tree.specs.declared.declaration.StructPart.TheVariants as struct_part
use Rattle.hb_tree.specs.declared.declaration.Depend.{Depend}
use Rattle.hb_tree.specs.declared.statement.Bind.{Bind}
use Rattle.hb_tree.specs.ExpressionViews.{equations}
use Rattle.hb_tree.specs.Types.{TypeExpr}
use Rattle.hb_tree.proofs.ListLaws.{list-equations}
use Rattle.hb_read_types.specs.declared.node.TypeNode.{TypeNode}
use Rattle.hb_read_types.specs.Nodes.{type_nodes, pred_nodes, context_nodes}
use Rattle.hb_read_expressions.specs.declared.node.ExprNode.{ExprNode}
use Rattle.hb_read_expressions.specs.Nodes.{put_rows}
use Rattle.hb_read_declarations.specs.declared.node.DeclNode.TheVariants as node
use Rattle.hb_read_declarations.specs.Nodes.{counted, closed, typed, valued, type_of, pred_of, context_whole, named, names_of, number_of, sig_of, data_con_of, fields_of, bit_part_of, bit_con_of, struct_part_of, depend_of, bind_of}
use Rattle.hb_build.specs.declared.type_builder.TypeBuilder.{TypeBuilder}
use Rattle.hb_build.specs.Building.{after, built}
use Rattle.hb_build.specs.TypeSteps.{state as types_of, start as no_types, stepped as type_stepped}
use Rattle.hb_build.proofs.BuildingLaws.{then, both}
use Rattle.hb_build.proofs.TypesFound.{type_found, pred_found, context_found, qualified_found}
use Rattle.hb_build_expressions.specs.declared.builder.ExprBuilder.{ExprBuilder}
use Rattle.hb_build_expressions.specs.ExpressionSteps.{stepped as expr_stepped}
use Rattle.hb_build_expressions.proofs.ExpressionsFound.{rows_found}
use Rattle.hb_build_program.specs.declared.parts.Heads.{Heads}
use Rattle.hb_build_program.specs.declared.parts.Members.{Members}
use Rattle.hb_build_program.specs.declared.builder.DeclBuilder.{DeclBuilder}
use Rattle.hb_build_program.specs.States.{heads, members, state}
use Rattle.hb_build_program.specs.MemberSteps.{of_names, with_names, with_lists, with_con, with_fields, with_bit_con}
use Rattle.hb_build_program.specs.DeclarationSteps.{in_types, in_exprs, in_heads, of_bit_con, with_method, with_binds, stepped}
use Rattle.hb_build_program.specs.ParsedProgram.{AllOf, IsParsedBind}
use Rattle.hb_build_program.proofs.Counted.{Leads, any, closed_found, checked_found, counted_off, if_counted}

abbrev pub with_types : DeclBuilder → TypeBuilder → DeclBuilder
with_types s types = state types s.exprs s.heads s.members s.starts s.decls s.whole

abbrev pub with_exprs : DeclBuilder → ExprBuilder → DeclBuilder
with_exprs s exprs = state s.types exprs s.heads s.members s.starts s.decls s.whole

abbrev pub with_heads : DeclBuilder → Heads → DeclBuilder
with_heads s heads = state s.types s.exprs heads s.members s.starts s.decls s.whole

abbrev pub with_members : DeclBuilder → Members → DeclBuilder
with_members s members = state s.types s.exprs s.heads members s.starts s.decls s.whole

-- no type is left
abbrev pub typeless : DeclBuilder → DeclBuilder
typeless s = with_types s no_types

-- Below, nodes of types and of expressions among those of declarations.

again_types : (s : DeclBuilder) (types : TypeBuilder) (next : Option TypeBuilder) → in_types (with_types s types) next ≡ in_types s next
again_types s types None = refl
again_types s types (Some rest) = refl

one_typed : (s : DeclBuilder) (types : Option TypeBuilder) (n : TypeNode) → after stepped (in_types s types) (node.Type n) ≡ in_types s (after type_stepped types n)
one_typed s None n = refl
one_typed s (Some types) n = again_types s types (type_stepped types n)

all_typed : (s : DeclBuilder) (types : Option TypeBuilder) (ns : List TypeNode) → built stepped (in_types s types) (typed ns) ≡ in_types s (built type_stepped types ns)
all_typed s types [] = refl
all_typed s types (n ∷ ns) = ap (λ next. built stepped next (typed ns)) (one_typed s types n) ∙ all_typed s (after type_stepped types n) ns

again_exprs : (s : DeclBuilder) (exprs : ExprBuilder) (next : Option ExprBuilder) → in_exprs (with_exprs s exprs) next ≡ in_exprs s next
again_exprs s exprs None = refl
again_exprs s exprs (Some rest) = refl

one_valued : (s : DeclBuilder) (exprs : Option ExprBuilder) (n : ExprNode) → after stepped (in_exprs s exprs) (node.Expr n) ≡ in_exprs s (after expr_stepped exprs n)
one_valued s None n = refl
one_valued s (Some exprs) n = again_exprs s exprs (expr_stepped exprs n)

pub all_valued : (s : DeclBuilder) (exprs : Option ExprBuilder) (ns : List ExprNode) → built stepped (in_exprs s exprs) (valued ns) ≡ in_exprs s (built expr_stepped exprs ns)
all_valued s exprs [] = refl
all_valued s exprs (n ∷ ns) = ap (λ next. built stepped next (valued ns)) (one_valued s exprs n) ∙ all_valued s (after expr_stepped exprs n) ns

pub type_in : (s : DeclBuilder) (types : List TypeExpr) (a : TypeExpr) → Leads (with_types s (types_of None [] types)) (type_of a) (with_types s (types_of None [] (a ∷ types)))
type_in s types a = all_typed s (Some (types_of None [] types)) (type_nodes a) ∙ ap (in_types s) (type_found None [] types a)

pub pred_in : (s : DeclBuilder) (ps : List PredExpr) (p : PredExpr) → Leads (with_types s (types_of None ps [])) (pred_of p) (with_types s (types_of None (p ∷ ps) []))
pred_in s ps p = all_typed s (Some (types_of None ps [])) (pred_nodes p) ∙ ap (in_types s) (pred_found None ps p)

pub context_in : (s : DeclBuilder) (ps : List PredExpr) → Leads (typeless s) (typed (context_nodes ps)) (with_types s (types_of (Some ps) [] []))
context_in s ps = all_typed s (Some no_types) (context_nodes ps) ∙ ap (in_types s) (context_found ps)

qualified_in : (s : DeclBuilder) (ps : List PredExpr) (a : TypeExpr) → Leads (typeless s) (typed (context_nodes ps ++ type_nodes a)) (with_types s (types_of (Some ps) [] (a ∷ [])))
qualified_in s ps a = all_typed s (Some no_types) (context_nodes ps ++ type_nodes a) ∙ ap (in_types s) (qualified_found ps a)

-- conditions behind `if`, with the node that has their count
pub conditions_in : (s : DeclBuilder) (ps : List PredExpr) → Leads (typeless s) (closed context_whole (counted pred_of ps)) (with_types s (types_of (Some ps) [] []))
conditions_in s ps =
    closed_found pred_of (λ p. Unit {0}) (λ stack. with_types s (types_of None stack [])) context_whole (λ stack p u. pred_in s stack p) ps [] (any ps)
    ∙ ap (in_types s) (if_counted pred_of ps (Some (types_of (Some (reverse (reverse ps))) [] [])) None)
    ∙ ap (λ l. Some (with_types s (types_of (Some l) [] []))) (reverse-reverse ps)

-- one name more
abbrev pub name_on : DeclBuilder → NameAt → DeclBuilder
name_on s n = with_heads s (with_names s.heads (n ∷ s.heads.names))

-- one list of names more
abbrev pub names_on : DeclBuilder → List NameAt → DeclBuilder
names_on s names = with_heads s (with_lists s.heads (names ∷ s.heads.lists))

pub names_in : (s : DeclBuilder) (names : List NameAt) → Leads s (names_of names) (names_on s names)
names_in s names =
    closed_found named (λ n. Unit {0}) (λ stack. with_heads s (with_names s.heads stack)) node.Names (λ stack n u. refl) names s.heads.names (any names)
    ∙ ap (λ found. in_heads s (of_names (with_names s.heads (reverse_aux names s.heads.names)) found)) (counted_off named names s.heads.names)

-- one number more
abbrev pub number_on : DeclBuilder → Option ℕ → DeclBuilder
number_on s number = with_heads s (heads s.heads.names s.heads.lists (number ∷ s.heads.numbers) s.heads.types s.heads.supers)

pub number_in : (s : DeclBuilder) (number : Option ℕ) → Leads s (number_of number) (number_on s number)
number_in s None = refl
number_in s (Some k) = refl

-- one list of types more
abbrev pub types_on : DeclBuilder → List TypeExpr → DeclBuilder
types_on s types = with_heads (typeless s) (heads s.heads.names s.heads.lists s.heads.numbers (types ∷ s.heads.types) s.heads.supers)

pub types_in : (s : DeclBuilder) (types : List TypeExpr) → Leads (typeless s) (closed node.Types (counted type_of types)) (types_on s types)
types_in s types =
    closed_found type_of (λ a. Unit {0}) (λ stack. with_types s (types_of None [] stack)) node.Types (λ stack a u. type_in s stack a) types [] (any types)
    ∙ if_counted type_of types (Some (types_on s (reverse (reverse types)))) None
    ∙ ap (λ l. Some (types_on s l)) (reverse-reverse types)

pub sig_in : (s : DeclBuilder) (a : Sig) → built stepped (Some (typeless s)) (sig_of a) ≡ with_method (typeless s) s.heads.supers a
sig_in s a =
    let s1 : DeclBuilder = names_on (typeless s) a.names in
    let s2 : DeclBuilder = with_types s1 (types_of (Some a.context) [] (a.body ∷ [])) in
    then stepped (typeless s) s2 (names_of a.names ++ typed (context_nodes a.context ++ type_nodes a.body)) (node.Sig a.place)
    (both stepped (typeless s) s1 s2 (names_of a.names) (typed (context_nodes a.context ++ type_nodes a.body)) (names_in (typeless s) a.names) (qualified_in s1 a.context a.body))

data_con_in : (s : DeclBuilder) (c : DataCon) → Leads (typeless s) (data_con_of c) (with_members (typeless s) (with_con s.members c))
data_con_in s c =
    let s1 : DeclBuilder = name_on (typeless s) c.name in
    both stepped (typeless s) s1 (with_members (typeless s) (with_con s.members c)) (named c.name) (closed node.Types (counted type_of c.args) ++ node.DataCon ∷ []) refl
    (then stepped s1 (types_on s1 c.args) (closed node.Types (counted type_of c.args)) node.DataCon (types_in s1 c.args))

fields_in : (s : DeclBuilder) (f : FieldDecl) → Leads (typeless s) (fields_of f) (with_members (typeless s) (with_fields s.members f))
fields_in s f =
    let s1 : DeclBuilder = names_on (typeless s) f.names in
    both stepped (typeless s) s1 (with_members (typeless s) (with_fields s.members f)) (names_of f.names) (type_of f.of ++ node.Fields ∷ []) (names_in (typeless s) f.names)
    (then stepped s1 (with_types s1 (types_of None [] (f.of ∷ []))) (type_of f.of) node.Fields (type_in s1 [] f.of))

-- these parts of bitdata constructors
abbrev bit_parts_at : DeclBuilder → List BitPart → DeclBuilder
bit_parts_at s stack = with_members (typeless s) (members s.members.sigs s.members.cons s.members.fields stack s.members.bit_cons s.members.struct_parts s.members.depends)

bit_part_in : (s : DeclBuilder) (stack : List BitPart) (p : BitPart) → Leads (bit_parts_at s stack) (bit_part_of p) (bit_parts_at s (p ∷ stack))
bit_part_in s stack (bit_part.Tag width k) = refl
bit_part_in s stack (bit_part.Fields f) =
    let s1 : DeclBuilder = bit_parts_at s stack in
    then stepped s1 (with_members s1 (with_fields s1.members f)) (fields_of f) node.BitFields (fields_in s1 f)

bit_con_in : (s : DeclBuilder) (c : BitCon) → Leads (typeless s) (bit_con_of c) (with_members (typeless s) (with_bit_con s.members c.name (c.parts, s.members.bit_parts)))
bit_con_in s c =
    let s1 : DeclBuilder = name_on (typeless s) c.name in
    let s2 : DeclBuilder = bit_parts_at s1 (reverse_aux c.parts s.members.bit_parts) in
    both stepped (typeless s) s1 (with_members (typeless s) (with_bit_con s.members c.name (c.parts, s.members.bit_parts))) (named c.name) (closed node.BitCon (counted bit_part_of c.parts)) refl
    (closed_found bit_part_of (λ p. Unit {0}) (bit_parts_at s1) node.BitCon (λ stack p u. bit_part_in s1 stack p) c.parts s.members.bit_parts (any c.parts)
    ∙ ap (of_bit_con s2 (c.name ∷ s.heads.names)) (counted_off bit_part_of c.parts s.members.bit_parts))

-- these parts of structs
abbrev pub struct_parts_at : DeclBuilder → List StructPart → DeclBuilder
struct_parts_at s stack = with_members (typeless s) (members s.members.sigs s.members.cons s.members.fields s.members.bit_parts s.members.bit_cons stack s.members.depends)

struct_part_in : (s : DeclBuilder) (stack : List StructPart) (p : StructPart) → Leads (struct_parts_at s stack) (struct_part_of p) (struct_parts_at s (p ∷ stack))
struct_part_in s stack (struct_part.Pad k) = refl
struct_part_in s stack (struct_part.Fields f) =
    let s1 : DeclBuilder = struct_parts_at s stack in
    then stepped s1 (with_members s1 (with_fields s1.members f)) (fields_of f) node.StructFields (fields_in s1 f)

-- these dependencies
abbrev pub depends_at : DeclBuilder → List Depend → DeclBuilder
depends_at s stack = with_members s (members s.members.sigs s.members.cons s.members.fields s.members.bit_parts s.members.bit_cons s.members.struct_parts stack)

pub depend_in : (s : DeclBuilder) (stack : List Depend) (d : Depend) → Leads (depends_at s stack) (depend_of d) (depends_at s (d ∷ stack))
depend_in s stack d =
    let s0 : DeclBuilder = depends_at s stack in
    let s1 : DeclBuilder = names_on s0 d.from in
    both stepped s0 s1 (depends_at s (d ∷ stack)) (names_of d.from) (names_of d.to ++ node.Depend ∷ []) (names_in s0 d.from)
    (then stepped s1 (names_on s1 d.to) (names_of d.to) node.Depend (names_in s1 d.to))

-- Below, all members of one kind, with the node that has their count, where none was there before.

abbrev pub cons_at : DeclBuilder → List DataCon → DeclBuilder
cons_at s stack = with_members (typeless s) (members s.members.sigs stack s.members.fields s.members.bit_parts s.members.bit_cons s.members.struct_parts s.members.depends)

pub cons_in : (s : DeclBuilder) (cons : List DataCon) → Leads (cons_at s []) (closed node.DataCons (counted data_con_of cons)) (cons_at s (reverse_aux cons []))
cons_in s cons = checked_found data_con_of (λ c. Unit {0}) (cons_at s) node.DataCons (λ stack c u. data_con_in (cons_at s stack) c) (λ stack n. refl) cons (any cons)

abbrev pub bit_cons_at : DeclBuilder → List BitCon → DeclBuilder
bit_cons_at s stack = with_members (typeless s) (members s.members.sigs s.members.cons s.members.fields s.members.bit_parts stack s.members.struct_parts s.members.depends)

pub bit_cons_in : (s : DeclBuilder) (cons : List BitCon) → Leads (bit_cons_at s []) (closed node.BitCons (counted bit_con_of cons)) (bit_cons_at s (reverse_aux cons []))
bit_cons_in s cons = checked_found bit_con_of (λ c. Unit {0}) (bit_cons_at s) node.BitCons (λ stack c u. bit_con_in (bit_cons_at s stack) c) (λ stack n. refl) cons (any cons)

pub struct_parts_in : (s : DeclBuilder) (parts : List StructPart) → Leads (struct_parts_at s []) (closed node.StructParts (counted struct_part_of parts)) (struct_parts_at s (reverse_aux parts []))
struct_parts_in s parts = checked_found struct_part_of (λ p. Unit {0}) (struct_parts_at s) node.StructParts (λ stack p u. struct_part_in s stack p) (λ stack n. refl) parts (any parts)

-- these methods, behind the head of a class with this context
abbrev pub sigs_at : DeclBuilder → List PredExpr → List Sig → DeclBuilder
sigs_at s supers stack = with_heads (with_members (typeless s) (members stack s.members.cons s.members.fields s.members.bit_parts s.members.bit_cons s.members.struct_parts s.members.depends)) (heads s.heads.names s.heads.lists s.heads.numbers s.heads.types (Some supers))

pub sigs_in : (s : DeclBuilder) (supers : List PredExpr) (sigs : List Sig) → Leads (sigs_at s supers []) (closed node.Sigs (counted sig_of sigs)) (sigs_at s supers (reverse_aux sigs []))
sigs_in s supers sigs = checked_found sig_of (λ a. Unit {0}) (sigs_at s supers) node.Sigs (λ stack a u. sig_in (sigs_at s supers stack) a) (λ stack n. refl) sigs (any sigs)

-- these definitions
abbrev pub binds_at : DeclBuilder → List Bind → DeclBuilder
binds_at s stack = with_exprs s (with_binds s.exprs stack)

pub bind_in : (s : DeclBuilder) (stack : List Bind) (b : Bind) → IsParsedBind b → Leads (binds_at s stack) (bind_of b) (binds_at s (b ∷ stack))
bind_in s stack b u =
    let e : ExprBuilder = with_binds s.exprs stack in
    all_valued (binds_at s stack) (Some e) (put_rows b.name b.place (equations b.rows) [])
    ∙ ap (in_exprs (binds_at s stack)) (rows_found e [] e b.name b.place (equations b.rows) u refl)
    ∙ ap (λ rows. Some (binds_at s (record { name = b.name; place = b.place; rows = rows } ∷ stack))) (list-equations b.rows)

pub binds_in : (s : DeclBuilder) (rows : List Bind) → AllOf IsParsedBind rows → Leads (binds_at s []) (closed node.Equations (counted bind_of rows)) (binds_at s (reverse_aux rows []))
binds_in s rows u = checked_found bind_of IsParsedBind (binds_at s) node.Equations (bind_in s) (λ stack n. refl) rows u
