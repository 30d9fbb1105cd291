-- The nodes of a declaration put that declaration on its stack, and those of a program build it.
use Rattle.std.proofs.Common.{ℕ, refl, ap, ◌∙◌, List, [], ◌∷◌, ◌++◌, reverse, Option, Some, None}
use Rattle.std.proofs.lemmas.List.{reverse-reverse}
use mathlib.Core.List.{reverse_aux}
use Rattle.hb_base.specs.declared.place.Place.{Place}
use Rattle.hb_tree.specs.declared.types.NameAt.{NameAt}
use Rattle.hb_tree.specs.declared.types.PredExpr.{PredExpr}
use Rattle.hb_tree.specs.declared.types.Sig.{Sig}
use Rattle.hb_tree.specs.declared.declaration.Depend.{Depend}
use Rattle.hb_tree.specs.declared.declaration.Decl.{Decl}
use Rattle.hb_tree.specs.declared.declaration.Decl.TheVariants as decl
use Rattle.hb_tree.specs.declared.declaration.Program.{Program}
use Rattle.hb_tree.specs.declared.statement.Bind.{Bind}
use Rattle.hb_tree.specs.Types.{TypeExpr}
use Rattle.hb_tree.specs.Initials.{InitExpr}
use Rattle.hb_read_types.specs.Nodes.{context_nodes}
use Rattle.hb_read_declarations.specs.declared.node.DeclNode.TheVariants as node
use Rattle.hb_read_declarations.specs.Nodes.{counted, closed, typed, type_of, pred_of, context_whole, named, names_of, number_of, sig_of, data_con_of, bit_con_of, struct_part_of, depend_of, bind_of, start_of, decl_nodes, program_nodes}
use Rattle.hb_build.specs.TypeSteps.{state as types_of, start as no_types}
use Rattle.hb_build.proofs.BuildingLaws.{then, both}
use Rattle.hb_build_expressions.specs.ExpressionSteps.{start as no_exprs}
use Rattle.hb_build_program.specs.declared.builder.DeclBuilder.{DeclBuilder}
use Rattle.hb_build_program.specs.States.{state, no_heads, no_members, no_starts, between, start}
use Rattle.hb_build_program.specs.DeclarationSteps.{stepped}
use Rattle.hb_build_program.specs.ParsedProgram.{AllOf, IsParsedBind, IsParsedStart, IsParsedDecl, IsParsed}
use Rattle.hb_build_program.proofs.Counted.{Leads, any, closed_found, if_counted}
use Rattle.hb_build_program.proofs.PartsFound.{with_types, name_on, names_on, number_on, types_on, type_in, context_in, conditions_in, names_in, number_in, types_in, sig_in, cons_at, cons_in, bit_cons_at, bit_cons_in, struct_parts_at, struct_parts_in, depends_at, depend_in, sigs_at, sigs_in, binds_at, bind_in, binds_in}
use Rattle.hb_build_program.proofs.InitsFound.{start_on, start_in}

area_in : (ds : List Decl) (p : Place) (name : NameAt) (init : Option InitExpr) (a : TypeExpr) (align : Option ℕ) → IsParsedStart init → Leads (between ds) (decl_nodes (decl.Area p name init a align)) (between (decl.Area p name init a align ∷ ds))
area_in ds p name init a align u =
    let s0 : DeclBuilder = between ds in
    let s1 : DeclBuilder = name_on s0 name in
    let s2 : DeclBuilder = start_on s1 init in
    let s3 : DeclBuilder = with_types s2 (types_of None [] (a ∷ [])) in
    let s4 : DeclBuilder = number_on s3 align in
    then stepped s0 s4 (named name ++ (start_of init ++ (type_of a ++ number_of align))) (node.Area p)
    (both stepped s0 s1 s4 (named name) (start_of init ++ (type_of a ++ number_of align)) refl
    (both stepped s1 s2 s4 (start_of init) (type_of a ++ number_of align) (start_in s1 init u)
    (both stepped s2 s3 s4 (type_of a) (number_of align) (type_in s2 [] a) (number_in s3 align))))

class_in : (ds : List Decl) (p : Place) (ps : List PredExpr) (name : NameAt) (params : List NameAt) (deps : List Depend) (sigs : List Sig) → Leads (between ds) (decl_nodes (decl.Class p ps name params deps sigs)) (between (decl.Class p ps name params deps sigs ∷ ds))
class_in ds p ps name params deps sigs =
    let s0 : DeclBuilder = between ds in
    let s1 : DeclBuilder = with_types s0 (types_of (Some ps) [] []) in
    let s2 : DeclBuilder = name_on s1 name in
    let s3 : DeclBuilder = names_on s2 params in
    let s4 : DeclBuilder = sigs_at (depends_at s3 (reverse_aux deps [])) ps [] in
    let s5 : DeclBuilder = sigs_at (depends_at s3 (reverse_aux deps [])) ps (reverse_aux sigs []) in
    then stepped s0 s5 ((typed (context_nodes ps) ++ (named name ++ names_of params)) ++ (closed node.Depends (counted depend_of deps) ++ closed node.Sigs (counted sig_of sigs))) (node.Class p)
    (both stepped s0 s3 s5 (typed (context_nodes ps) ++ (named name ++ names_of params)) (closed node.Depends (counted depend_of deps) ++ closed node.Sigs (counted sig_of sigs))
    (both stepped s0 s1 s3 (typed (context_nodes ps)) (named name ++ names_of params) (context_in s0 ps)
    (both stepped s1 s2 s3 (named name) (names_of params) refl (names_in s2 params)))
    (both stepped s3 s4 s5 (closed node.Depends (counted depend_of deps)) (closed node.Sigs (counted sig_of sigs))
    (closed_found depend_of (λ d. Unit {0}) (depends_at s3) node.Depends (λ stack d u. depend_in s3 stack d) deps [] (any deps) ∙ if_counted depend_of deps (Some s4) None)
    (sigs_in (depends_at s3 (reverse_aux deps [])) ps sigs)))
    ∙ (λ i. Some (between (decl.Class p ps name params (reverse-reverse deps i) (reverse-reverse sigs i) ∷ ds)))

instance_in : (ds : List Decl) (p : Place) (name : NameAt) (types : List TypeExpr) (ps : List PredExpr) (rows : List Bind) → AllOf IsParsedBind rows → Leads (between ds) (decl_nodes (decl.Instance p name types ps rows)) (between (decl.Instance p name types ps rows ∷ ds))
instance_in ds p name types ps rows u =
    let s0 : DeclBuilder = between ds in
    let s1 : DeclBuilder = name_on s0 name in
    let s2 : DeclBuilder = types_on s1 types in
    let s3 : DeclBuilder = with_types s2 (types_of (Some ps) [] []) in
    let s4 : DeclBuilder = binds_at s3 (reverse_aux rows []) in
    then stepped s0 s4 (named name ++ (closed node.Types (counted type_of types) ++ (closed context_whole (counted pred_of ps) ++ closed node.Equations (counted bind_of rows)))) (node.Instance p)
    (both stepped s0 s1 s4 (named name) (closed node.Types (counted type_of types) ++ (closed context_whole (counted pred_of ps) ++ closed node.Equations (counted bind_of rows))) refl
    (both stepped s1 s2 s4 (closed node.Types (counted type_of types)) (closed context_whole (counted pred_of ps) ++ closed node.Equations (counted bind_of rows)) (types_in s1 types)
    (both stepped s2 s3 s4 (closed context_whole (counted pred_of ps)) (closed node.Equations (counted bind_of rows)) (conditions_in s2 ps) (binds_in s3 rows u))))
    ∙ ap (λ l. Some (between (decl.Instance p name types ps l ∷ ds))) (reverse-reverse rows)

decl_in : (ds : List Decl) (d : Decl) → IsParsedDecl d → Leads (between ds) (decl_nodes d) (between (d ∷ ds))
decl_in ds (decl.Sig a) u = sig_in (between ds) a
decl_in ds (decl.Equation b) u = then stepped (between ds) (binds_at (between ds) (b ∷ [])) (bind_of b) node.Equation (bind_in (between ds) [] b u)
decl_in ds (decl.Fixity p fix k names) u = then stepped (between ds) (names_on (between ds) names) (names_of names) (node.Fixity p fix k) (names_in (between ds) names)
decl_in ds (decl.Data p name params cons) u =
    let s0 : DeclBuilder = between ds in
    let s1 : DeclBuilder = name_on s0 name in
    let s2 : DeclBuilder = names_on s1 params in
    let s3 : DeclBuilder = cons_at s2 (reverse_aux cons []) in
    then stepped s0 s3 (named name ++ (names_of params ++ closed node.DataCons (counted data_con_of cons))) (node.Data p)
    (both stepped s0 s1 s3 (named name) (names_of params ++ closed node.DataCons (counted data_con_of cons)) refl
    (both stepped s1 s2 s3 (names_of params) (closed node.DataCons (counted data_con_of cons)) (names_in s1 params) (cons_in s2 cons)))
    ∙ ap (λ l. Some (between (decl.Data p name params l ∷ ds))) (reverse-reverse cons)
decl_in ds (decl.Bitdata p name width cons) u =
    let s0 : DeclBuilder = between ds in
    let s1 : DeclBuilder = name_on s0 name in
    let s2 : DeclBuilder = number_on s1 width in
    let s3 : DeclBuilder = bit_cons_at s2 (reverse_aux cons []) in
    then stepped s0 s3 (named name ++ (number_of width ++ closed node.BitCons (counted bit_con_of cons))) (node.Bitdata p)
    (both stepped s0 s1 s3 (named name) (number_of width ++ closed node.BitCons (counted bit_con_of cons)) refl
    (both stepped s1 s2 s3 (number_of width) (closed node.BitCons (counted bit_con_of cons)) (number_in s1 width) (bit_cons_in s2 cons)))
    ∙ ap (λ l. Some (between (decl.Bitdata p name width l ∷ ds))) (reverse-reverse cons)
decl_in ds (decl.Struct p name bytes parts) u =
    let s0 : DeclBuilder = between ds in
    let s1 : DeclBuilder = name_on s0 name in
    let s2 : DeclBuilder = number_on s1 bytes in
    let s3 : DeclBuilder = struct_parts_at s2 (reverse_aux parts []) in
    then stepped s0 s3 (named name ++ (number_of bytes ++ closed node.StructParts (counted struct_part_of parts))) (node.Struct p)
    (both stepped s0 s1 s3 (named name) (number_of bytes ++ closed node.StructParts (counted struct_part_of parts)) refl
    (both stepped s1 s2 s3 (number_of bytes) (closed node.StructParts (counted struct_part_of parts)) (number_in s1 bytes) (struct_parts_in s2 parts)))
    ∙ ap (λ l. Some (between (decl.Struct p name bytes l ∷ ds))) (reverse-reverse parts)
decl_in ds (decl.Area p name init a align) u = area_in ds p name init a align u
decl_in ds (decl.Port p name dir a width k) u =
    let s0 : DeclBuilder = between ds in
    let s1 : DeclBuilder = name_on s0 name in
    both stepped s0 s1 (between (decl.Port p name dir a width k ∷ ds)) (named name) (type_of a ++ node.Port p dir width k ∷ []) refl
    (then stepped s1 (with_types s1 (types_of None [] (a ∷ []))) (type_of a) (node.Port p dir width k) (type_in s1 [] a))
decl_in ds (decl.Class p ps name params deps sigs) u = class_in ds p ps name params deps sigs
decl_in ds (decl.Instance p name types ps rows) u = instance_in ds p name types ps rows u

-- the program is at its end
abbrev pub finished : Program → DeclBuilder
finished p = state no_types no_exprs no_heads no_members no_starts [] (Some p)

pub program_found : (p : Program) → IsParsed p → Leads start (program_nodes p) (finished p)
program_found p u =
    closed_found decl_nodes IsParsedDecl between node.Program decl_in p.decls [] u
    ∙ if_counted decl_nodes p.decls (Some (finished (record { decls = reverse (reverse p.decls) }))) None
    ∙ ap (λ ds. Some (finished (record { decls = ds }))) (reverse-reverse p.decls)
