-- A program is at most four things for each of its tokens.
use Rattle.std.proofs.Common.{ℕ, List, Option, ◌+◌, ◌*◌, ◌≤◌, length, arith}
use Rattle.hb_tokens.specs.declared.token.Token.{Token}
use Rattle.hb_tree.specs.declared.types.NameAt.{NameAt}
use Rattle.hb_tree.specs.declared.types.PredExpr.{PredExpr}
use Rattle.hb_tree.specs.declared.types.Sig.{Sig}
use Rattle.hb_tree.specs.declared.declaration.FieldDecl.{FieldDecl}
use Rattle.hb_tree.specs.declared.declaration.DataCon.{DataCon}
use Rattle.hb_tree.specs.declared.declaration.BitPart.{BitPart}
use Rattle.hb_tree.specs.declared.declaration.BitCon.{BitCon}
use Rattle.hb_tree.specs.declared.declaration.StructPart.{StructPart}
use Rattle.hb_tree.specs.declared.declaration.Depend.{Depend}
use Rattle.hb_tree.specs.declared.declaration.Decl.{Decl}
use Rattle.hb_tree.specs.declared.declaration.Program.{Program}
use Rattle.hb_tree.specs.declared.statement.Bind.{Bind}
use Rattle.hb_tree.specs.ExpressionViews.{binds}
use Rattle.hb_tree.specs.Types.{TypeExpr}
use Rattle.hb_tree.specs.Initials.{InitExpr, FieldInits}
use Rattle.hb_tree.specs.Things.{total, type_things, pred_things, binds_things, names_things, sig_things, data_con_things, fields_things, bit_part_things, bit_con_things, struct_part_things, depend_things, init_things, field_inits_things, start_things, decl_things, program_things}
use Rattle.hb_grammar.specs.Declarations.{ReadsNames, last_name, more_names, ReadsInfixes, last_infix, more_infixes, ReadsVars, no_var, var_more, ReadsFieldNames, last_var, more_vars, ReadsQualified, unqualified, qualified, ReadsSig, sig, ReadsSigs, no_sig, empty_sig, last_sig, more_sigs, ReadsMethods, no_methods, methods, ReadsInstanceBody, no_body, body, ReadsDataCons, last_con, more_cons, ReadsFieldDecl, field_decl, ReadsBitPart, tag, bit_fields, ReadsBitParts, last_bit_part, more_bit_parts, ReadsBitCon, no_bit_parts, bit_parts, ReadsBitCons, last_bit_con, more_bit_cons, ReadsSize, no_size, size, ReadsStructPart, gap, struct_fields, ReadsStructParts, last_struct_part, more_struct_parts, ReadsInit, each, by_fields, cell, ReadsFieldInits, last_init, more_inits, ReadsStart, no_start, start, ReadsAlign, no_align, align, ReadsDepend, depend, ReadsDependList, last_depend, more_depends, ReadsDepends, no_depends, depends, ReadsSupers, no_supers, supers, ReadsConditions, no_conditions, conditions, ReadsDecl, signature, equation, fixity, data_decl, bitdata_decl, struct_decl, area_decl, port_decl, class_decl, instance_decl, ReadsDecls, no_decl, empty_decl, last_decl, more_decls, Derives, program}
use Rattle.hb_grammar_laws.specs.Counting.{AreFew}
use Rattle.hb_grammar_laws.proofs.TypesFew.{type_few, atype_few, atypes_few, preds_few, context_few}
use Rattle.hb_grammar_laws.proofs.ExpressionsFew.{name_few, infix_few, expr_few, binds_few, equation_few}

names_few : {ts us : List Token} {names : List NameAt} → ReadsNames ts names us → AreFew (names_things names) ts us
names_few (last_name n) = omega (arith, name_few n)
names_few (more_names n m more) = omega (arith, name_few n, names_few more)

infixes_few : {ts us : List Token} {names : List NameAt} → ReadsInfixes ts names us → AreFew (names_things names) ts us
infixes_few (last_infix n) = omega (arith, infix_few n)
infixes_few (more_infixes n m more) = omega (arith, infix_few n, infixes_few more)

vars_few : {ts us : List Token} {names : List NameAt} → ReadsVars ts names us → AreFew (names_things names) ts us
vars_few no_var = omega arith
vars_few (var_more m more) = omega (arith, vars_few more)

field_names_few : {ts us : List Token} {names : List NameAt} → ReadsFieldNames ts names us → AreFew (names_things names) ts us
field_names_few (last_var m) = omega arith
field_names_few (more_vars m c more) = omega (arith, field_names_few more)

qualified_few : {ts us : List Token} {ps : List PredExpr} {a : TypeExpr} → ReadsQualified ts ps a us → AreFew (total pred_things ps + type_things a) ts us
qualified_few (unqualified a) = omega (arith, type_few a)
qualified_few (qualified c m a) = omega (arith, context_few c, type_few a)

sig_few : {ts us : List Token} {a : Sig} → ReadsSig ts a us → AreFew (sig_things a) ts us
sig_few (sig n m q) = omega (arith, names_few n, qualified_few q)

sigs_few : {ts us : List Token} {sigs : List Sig} → ReadsSigs ts sigs us → AreFew (total sig_things sigs) ts us
sigs_few (no_sig c) = omega arith
sigs_few (empty_sig m more) = omega (arith, sigs_few more)
sigs_few (last_sig a c) = omega (arith, sig_few a)
sigs_few (more_sigs a m more) = omega (arith, sig_few a, sigs_few more)

methods_few : {ts us : List Token} {sigs : List Sig} → ReadsMethods ts sigs us → AreFew (total sig_things sigs) ts us
methods_few no_methods = omega arith
methods_few (methods w o more) = omega (arith, sigs_few more)

instance_body_few : {ts us : List Token} {rows : List Bind} → ReadsInstanceBody ts rows us → AreFew (binds_things (binds rows)) ts us
instance_body_few no_body = omega arith
instance_body_few (body w rows) = omega (arith, binds_few rows)

data_cons_few : {ts us : List Token} {cons : List DataCon} → ReadsDataCons ts cons us → AreFew (total data_con_things cons) ts us
data_cons_few (last_con m args) = omega (arith, atypes_few args)
data_cons_few (more_cons m args b more) = omega (arith, atypes_few args, data_cons_few more)

field_decl_few : {ts us : List Token} {f : FieldDecl} → ReadsFieldDecl ts f us → AreFew (fields_things f + 1) ts us
field_decl_few (field_decl names m a) = omega (arith, field_names_few names, type_few a)

bit_part_few : {ts us : List Token} {p : BitPart} → ReadsBitPart ts p us → AreFew (bit_part_things p) ts us
bit_part_few (tag m) = omega arith
bit_part_few (bit_fields f) = omega (arith, field_decl_few f)

bit_parts_few : {ts us : List Token} {ps : List BitPart} → ReadsBitParts ts ps us → AreFew (total bit_part_things ps) ts us
bit_parts_few (last_bit_part p) = omega (arith, bit_part_few p)
bit_parts_few (more_bit_parts p m more) = omega (arith, bit_part_few p, bit_parts_few more)

bit_con_few : {ts us : List Token} {c : BitCon} → ReadsBitCon ts c us → AreFew (bit_con_things c) ts us
bit_con_few (no_bit_parts m o c) = omega arith
bit_con_few (bit_parts m o ps c) = omega (arith, bit_parts_few ps)

bit_cons_few : {ts us : List Token} {cs : List BitCon} → ReadsBitCons ts cs us → AreFew (total bit_con_things cs) ts us
bit_cons_few (last_bit_con c) = omega (arith, bit_con_few c)
bit_cons_few (more_bit_cons c m more) = omega (arith, bit_con_few c, bit_cons_few more)

size_few : {ts us : List Token} {k : Option ℕ} → ReadsSize ts k us → AreFew 0 ts us
size_few no_size = omega arith
size_few (size o m) = omega arith

struct_part_few : {ts us : List Token} {p : StructPart} → ReadsStructPart ts p us → AreFew (struct_part_things p) ts us
struct_part_few (gap p m) = omega arith
struct_part_few (struct_fields f) = omega (arith, field_decl_few f)

struct_parts_few : {ts us : List Token} {ps : List StructPart} → ReadsStructParts ts ps us → AreFew (total struct_part_things ps) ts us
struct_parts_few (last_struct_part p) = omega (arith, struct_part_few p)
struct_parts_few (more_struct_parts p m more) = omega (arith, struct_part_few p, struct_parts_few more)

mutual
  init_few : {ts us : List Token} {i : InitExpr} → ReadsInit ts i us → AreFew (init_things i) ts us
  init_few (each w m a i) = omega (arith, init_few i)
  init_few (by_fields w o fs c) = omega (arith, field_inits_few fs)
  init_few (cell r) = omega (arith, expr_few r)

  field_inits_few : {ts us : List Token} {fs : FieldInits} → ReadsFieldInits ts fs us → AreFew (field_inits_things fs) ts us
  field_inits_few (last_init m a i) = omega (arith, init_few i)
  field_inits_few (more_inits m a i b more) = omega (arith, init_few i, field_inits_few more)

start_few : {ts us : List Token} {i : Option InitExpr} → ReadsStart ts i us → AreFew (start_things i) ts us
start_few no_start = omega arith
start_few (start m i) = omega (arith, init_few i)

align_few : {ts us : List Token} {k : Option ℕ} → ReadsAlign ts k us → AreFew 0 ts us
align_few no_align = omega arith
align_few (align w m) = omega arith

depend_few : {ts us : List Token} {d : Depend} → ReadsDepend ts d us → AreFew (depend_things d) ts us
depend_few (depend from a to) = omega (arith, vars_few from, vars_few to)

depend_list_few : {ts us : List Token} {ds : List Depend} → ReadsDependList ts ds us → AreFew (total depend_things ds) ts us
depend_list_few (last_depend d) = omega (arith, depend_few d)
depend_list_few (more_depends d m more) = omega (arith, depend_few d, depend_list_few more)

depends_few : {ts us : List Token} {ds : List Depend} → ReadsDepends ts ds us → AreFew (total depend_things ds) ts us
depends_few no_depends = omega arith
depends_few (depends m ds) = omega (arith, depend_list_few ds)

supers_few : {ts us : List Token} {ps : List PredExpr} → ReadsSupers ts ps us → AreFew (total pred_things ps) ts us
supers_few no_supers = omega arith
supers_few (supers c m) = omega (arith, context_few c)

conditions_few : {ts us : List Token} {ps : List PredExpr} → ReadsConditions ts ps us → AreFew (total pred_things ps) ts us
conditions_few no_conditions = omega arith
conditions_few (conditions m ps) = omega (arith, preds_few ps)

decl_few : {ts us : List Token} {d : Decl} → ReadsDecl ts d us → AreFew (decl_things d) ts us
decl_few (signature a) = sig_few a
decl_few (equation r) = omega (arith, equation_few r)
decl_few (fixity m k small names) = omega (arith, infixes_few names)
decl_few (data_decl w c params e cons) = omega (arith, vars_few params, data_cons_few cons)
decl_few (bitdata_decl w c width e cons) = omega (arith, size_few width, bit_cons_few cons)
decl_few (struct_decl w c bytes o parts q) = omega (arith, size_few bytes, struct_parts_few parts)
decl_few (area_decl w v init m a k) = omega (arith, start_few init, type_few a, align_few k)
decl_few (port_decl w v m dir a p k) = omega (arith, atype_few a)
decl_few (class_decl w ps c params ds sigs) = omega (arith, supers_few ps, vars_few params, depends_few ds, methods_few sigs)
decl_few (instance_decl w c args ps rows) = omega (arith, atypes_few args, conditions_few ps, instance_body_few rows)

decls_few : {ts us : List Token} {ds : List Decl} → ReadsDecls ts ds us → AreFew (total decl_things ds) ts us
decls_few (no_decl c) = omega arith
decls_few (empty_decl m more) = omega (arith, decls_few more)
decls_few (last_decl d c) = omega (arith, decl_few d)
decls_few (more_decls d m more) = omega (arith, decl_few d, decls_few more)

pub program_few : {ts : List Token} {p : Program} → Derives ts p → program_things p ≤ 4 * length ts
program_few (program o ds e) = omega (arith, decls_few ds)
