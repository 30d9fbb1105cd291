-- Declarations and initialisers are stretches, and so are the rows of a program.
use Rattle.std.proofs.Common.{ℕ, List, [], ◌∷◌, Option, subst}
use Rattle.hb_tokens.specs.declared.token.Token.{Token}
use Rattle.hb_tree.specs.declared.types.NameAt.{NameAt}
use Rattle.hb_tree.specs.declared.types.PredExpr.{PredExpr}
use Rattle.hb_tree.specs.declared.types.Sig.{Sig}
use Rattle.hb_tree.specs.declared.declaration.FieldDecl.{FieldDecl}
use Rattle.hb_tree.specs.declared.declaration.DataCon.{DataCon}
use Rattle.hb_tree.specs.declared.declaration.BitPart.{BitPart}
use Rattle.hb_tree.specs.declared.declaration.BitCon.{BitCon}
use Rattle.hb_tree.specs.declared.declaration.StructPart.{StructPart}
use Rattle.hb_tree.specs.declared.declaration.Depend.{Depend}
use Rattle.hb_tree.specs.declared.declaration.Decl.{Decl}
use Rattle.hb_tree.specs.declared.declaration.Decl.TheVariants as decl
use Rattle.hb_tree.specs.declared.statement.Bind.{Bind}
use Rattle.hb_tree.specs.Types.{TypeExpr}
use Rattle.hb_tree.specs.Initials.{InitExpr, Cell, FieldInits}
use Rattle.hb_grammar.specs.Tokens.{first_place}
use Rattle.hb_grammar.specs.Declarations.{ReadsNames, last_name, more_names, ReadsInfixes, last_infix, more_infixes, ReadsVars, no_var, var_more, ReadsFieldNames, last_var, more_vars, ReadsQualified, unqualified, qualified, ReadsSig, sig, ReadsSigs, no_sig, empty_sig, last_sig, more_sigs, ReadsMethods, no_methods, methods, ReadsInstanceBody, no_body, body, ReadsDataCons, last_con, more_cons, ReadsFieldDecl, field_decl, ReadsBitPart, tag, bit_fields, ReadsBitParts, last_bit_part, more_bit_parts, ReadsBitCon, no_bit_parts, bit_parts, ReadsBitCons, last_bit_con, more_bit_cons, ReadsSize, no_size, size, ReadsStructPart, gap, struct_fields, ReadsStructParts, last_struct_part, more_struct_parts, ReadsInit, each, by_fields, cell, ReadsFieldInits, last_init, more_inits, ReadsStart, no_start, start, ReadsAlign, no_align, align, ReadsDepend, depend, ReadsDependList, last_depend, more_depends, ReadsDepends, no_depends, depends, ReadsSupers, no_supers, supers, ReadsConditions, no_conditions, conditions, ReadsDecl, signature, equation, fixity, data_decl, bitdata_decl, struct_decl, area_decl, port_decl, class_decl, instance_decl, ReadsDecls, no_decl, empty_decl, last_decl, more_decls}
use Rattle.hb_grammar_laws.specs.Stretch.{Stretch}
use Rattle.hb_grammar_laws.proofs.Stretching.{nothing, token, next, last, both, three, four, reads_as, StandsAt, stands}
use Rattle.hb_grammar_laws.proofs.TypesStretch.{type_stretch, atype_stretch, atypes_stretch, preds_stretch, context_stretch}
use Rattle.hb_grammar_laws.proofs.ExpressionsStretch.{name_stands, infix_stretch, expr_stands, binds_stretch, equation_stands}

names_stand : {ts us : List Token} {names : List NameAt} → ReadsNames ts names us → Stretch (StandsAt (first_place ts) (λ xs ys. ReadsNames xs names ys)) ts us
names_stand (last_name n) = reads_as (λ xs ys x. (x.0, last_name x.1)) (name_stands n)
names_stand (more_names n m more) = both (λ xs ys zs x y. (x.0, more_names x.1 m y.1)) (last (name_stands n)) (names_stand more)

pub names_stretch : {ts us : List Token} {names : List NameAt} → ReadsNames ts names us → Stretch (λ xs ys. ReadsNames xs names ys) ts us
names_stretch r = stands (names_stand r)

pub infixes_stretch : {ts us : List Token} {names : List NameAt} → ReadsInfixes ts names us → Stretch (λ xs ys. ReadsInfixes xs names ys) ts us
infixes_stretch (last_infix n) = reads_as (λ xs ys x. last_infix x) (infix_stretch n)
infixes_stretch (more_infixes n m more) = both (λ xs ys zs x y. more_infixes x m y) (last (infix_stretch n)) (infixes_stretch more)

pub vars_stretch : {ts us : List Token} {names : List NameAt} → ReadsVars ts names us → Stretch (λ xs ys. ReadsVars xs names ys) ts us
vars_stretch no_var = nothing (λ us. no_var)
vars_stretch (var_more m more) = next (reads_as (λ xs ys x. var_more m x) (vars_stretch more))

pub field_names_stretch : {ts us : List Token} {names : List NameAt} → ReadsFieldNames ts names us → Stretch (λ xs ys. ReadsFieldNames xs names ys) ts us
field_names_stretch (last_var m) = token (λ us. last_var m)
field_names_stretch (more_vars m c more) = next (next (reads_as (λ xs ys x. more_vars m c x) (field_names_stretch more)))

pub qualified_stretch : {ts us : List Token} {ps : List PredExpr} {a : TypeExpr} → ReadsQualified ts ps a us → Stretch (λ xs ys. ReadsQualified xs ps a ys) ts us
qualified_stretch (unqualified a) = reads_as (λ xs ys x. unqualified x) (type_stretch a)
qualified_stretch (qualified c m a) = both (λ xs ys zs x y. qualified x m y) (last (context_stretch c)) (type_stretch a)

pub sig_stretch : {ts us : List Token} {a : Sig} → ReadsSig ts a us → Stretch (λ xs ys. ReadsSig xs a ys) ts us
sig_stretch (sig {names = names} {ps = ps} {a = a} n m q) =
    both (λ xs ys zs x y. subst (λ p. ReadsSig xs (record { place = p; names = names; context = ps; body = a }) zs) x.0 (sig x.1 m y)) (last (names_stand n)) (qualified_stretch q)

pub sigs_stretch : {ts us : List Token} {sigs : List Sig} → ReadsSigs ts sigs us → Stretch (λ xs ys. ReadsSigs xs sigs ys) ts us
sigs_stretch (no_sig c) = token (λ us. no_sig c)
sigs_stretch (empty_sig m more) = next (reads_as (λ xs ys x. empty_sig m x) (sigs_stretch more))
sigs_stretch (last_sig a c) = reads_as (λ xs ys x. last_sig x c) (last (sig_stretch a))
sigs_stretch (more_sigs a m more) = both (λ xs ys zs x y. more_sigs x m y) (last (sig_stretch a)) (sigs_stretch more)

pub methods_stretch : {ts us : List Token} {sigs : List Sig} → ReadsMethods ts sigs us → Stretch (λ xs ys. ReadsMethods xs sigs ys) ts us
methods_stretch no_methods = nothing (λ us. no_methods)
methods_stretch (methods w o more) = next (next (reads_as (λ xs ys x. methods w o x) (sigs_stretch more)))

pub instance_body_stretch : {ts us : List Token} {rows : List Bind} → ReadsInstanceBody ts rows us → Stretch (λ xs ys. ReadsInstanceBody xs rows ys) ts us
instance_body_stretch no_body = nothing (λ us. no_body)
instance_body_stretch (body w rows) = next (reads_as (λ xs ys x. body w x) (binds_stretch rows))

pub data_cons_stretch : {ts us : List Token} {cons : List DataCon} → ReadsDataCons ts cons us → Stretch (λ xs ys. ReadsDataCons xs cons ys) ts us
data_cons_stretch (last_con m args) = next (reads_as (λ xs ys x. last_con m x) (atypes_stretch args))
data_cons_stretch (more_cons m args b more) = next (both (λ xs ys zs x y. more_cons m x b y) (last (atypes_stretch args)) (data_cons_stretch more))

pub field_decl_stretch : {ts us : List Token} {f : FieldDecl} → ReadsFieldDecl ts f us → Stretch (λ xs ys. ReadsFieldDecl xs f ys) ts us
field_decl_stretch (field_decl names m a) = both (λ xs ys zs x y. field_decl x m y) (last (field_names_stretch names)) (type_stretch a)

pub bit_part_stretch : {ts us : List Token} {p : BitPart} → ReadsBitPart ts p us → Stretch (λ xs ys. ReadsBitPart xs p ys) ts us
bit_part_stretch (tag m) = token (λ us. tag m)
bit_part_stretch (bit_fields f) = reads_as (λ xs ys x. bit_fields x) (field_decl_stretch f)

pub bit_parts_stretch : {ts us : List Token} {ps : List BitPart} → ReadsBitParts ts ps us → Stretch (λ xs ys. ReadsBitParts xs ps ys) ts us
bit_parts_stretch (last_bit_part p) = reads_as (λ xs ys x. last_bit_part x) (bit_part_stretch p)
bit_parts_stretch (more_bit_parts p m more) = both (λ xs ys zs x y. more_bit_parts x m y) (last (bit_part_stretch p)) (bit_parts_stretch more)

pub bit_con_stretch : {ts us : List Token} {c : BitCon} → ReadsBitCon ts c us → Stretch (λ xs ys. ReadsBitCon xs c ys) ts us
bit_con_stretch (no_bit_parts m o c) = next (next (token (λ us. no_bit_parts m o c)))
bit_con_stretch (bit_parts m o ps c) = next (next (reads_as (λ xs ys x. bit_parts m o x c) (last (bit_parts_stretch ps))))

pub bit_cons_stretch : {ts us : List Token} {cs : List BitCon} → ReadsBitCons ts cs us → Stretch (λ xs ys. ReadsBitCons xs cs ys) ts us
bit_cons_stretch (last_bit_con c) = reads_as (λ xs ys x. last_bit_con x) (bit_con_stretch c)
bit_cons_stretch (more_bit_cons c m more) = both (λ xs ys zs x y. more_bit_cons x m y) (last (bit_con_stretch c)) (bit_cons_stretch more)

pub size_stretch : {ts us : List Token} {k : Option ℕ} → ReadsSize ts k us → Stretch (λ xs ys. ReadsSize xs k ys) ts us
size_stretch no_size = nothing (λ us. no_size)
size_stretch (size o m) = next (token (λ us. size o m))

pub struct_part_stretch : {ts us : List Token} {p : StructPart} → ReadsStructPart ts p us → Stretch (λ xs ys. ReadsStructPart xs p ys) ts us
struct_part_stretch (gap p m) = next (token (λ us. gap p m))
struct_part_stretch (struct_fields f) = reads_as (λ xs ys x. struct_fields x) (field_decl_stretch f)

pub struct_parts_stretch : {ts us : List Token} {ps : List StructPart} → ReadsStructParts ts ps us → Stretch (λ xs ys. ReadsStructParts xs ps ys) ts us
struct_parts_stretch (last_struct_part p) = reads_as (λ xs ys x. last_struct_part x) (struct_part_stretch p)
struct_parts_stretch (more_struct_parts p m more) = both (λ xs ys zs x y. more_struct_parts x m y) (last (struct_part_stretch p)) (struct_parts_stretch more)

mutual
  pub init_stretch : {ts us : List Token} {i : InitExpr} → ReadsInit ts i us → Stretch (λ xs ys. ReadsInit xs i ys) ts us
  init_stretch (each w m a i) = next (next (next (reads_as (λ xs ys x. each w m a x) (init_stretch i))))
  init_stretch (by_fields w o fs c) = next (next (reads_as (λ xs ys x. by_fields w o x c) (last (field_inits_stretch fs))))
  init_stretch (cell {e = e} r) = reads_as (λ xs ys x. subst (λ p. ReadsInit xs (Cell p e) ys) x.0 (cell x.1)) (expr_stands r)

  pub field_inits_stretch : {ts us : List Token} {fs : FieldInits} → ReadsFieldInits ts fs us → Stretch (λ xs ys. ReadsFieldInits xs fs ys) ts us
  field_inits_stretch (last_init m a i) = next (next (reads_as (λ xs ys x. last_init m a x) (init_stretch i)))
  field_inits_stretch (more_inits m a i b more) = next (next (both (λ xs ys zs x y. more_inits m a x b y) (last (init_stretch i)) (field_inits_stretch more)))

pub start_stretch : {ts us : List Token} {i : Option InitExpr} → ReadsStart ts i us → Stretch (λ xs ys. ReadsStart xs i ys) ts us
start_stretch no_start = nothing (λ us. no_start)
start_stretch (start m i) = next (reads_as (λ xs ys x. start m x) (init_stretch i))

pub align_stretch : {ts us : List Token} {k : Option ℕ} → ReadsAlign ts k us → Stretch (λ xs ys. ReadsAlign xs k ys) ts us
align_stretch no_align = nothing (λ us. no_align)
align_stretch (align w m) = next (token (λ us. align w m))

pub depend_stretch : {ts us : List Token} {d : Depend} → ReadsDepend ts d us → Stretch (λ xs ys. ReadsDepend xs d ys) ts us
depend_stretch (depend from a to) = both (λ xs ys zs x y. depend x a y) (last (vars_stretch from)) (vars_stretch to)

pub depend_list_stretch : {ts us : List Token} {ds : List Depend} → ReadsDependList ts ds us → Stretch (λ xs ys. ReadsDependList xs ds ys) ts us
depend_list_stretch (last_depend d) = reads_as (λ xs ys x. last_depend x) (depend_stretch d)
depend_list_stretch (more_depends d m more) = both (λ xs ys zs x y. more_depends x m y) (last (depend_stretch d)) (depend_list_stretch more)

pub depends_stretch : {ts us : List Token} {ds : List Depend} → ReadsDepends ts ds us → Stretch (λ xs ys. ReadsDepends xs ds ys) ts us
depends_stretch no_depends = nothing (λ us. no_depends)
depends_stretch (depends m ds) = next (reads_as (λ xs ys x. depends m x) (depend_list_stretch ds))

pub supers_stretch : {ts us : List Token} {ps : List PredExpr} → ReadsSupers ts ps us → Stretch (λ xs ys. ReadsSupers xs ps ys) ts us
supers_stretch no_supers = nothing (λ us. no_supers)
supers_stretch (supers c m) = reads_as (λ xs ys x. supers x m) (last (context_stretch c))

pub conditions_stretch : {ts us : List Token} {ps : List PredExpr} → ReadsConditions ts ps us → Stretch (λ xs ys. ReadsConditions xs ps ys) ts us
conditions_stretch no_conditions = nothing (λ us. no_conditions)
conditions_stretch (conditions m ps) = next (reads_as (λ xs ys x. conditions m x) (preds_stretch ps))

pub decl_stretch : {ts us : List Token} {d : Decl} → ReadsDecl ts d us → Stretch (λ xs ys. ReadsDecl xs d ys) ts us
decl_stretch (signature a) = reads_as (λ xs ys x. signature x) (sig_stretch a)
decl_stretch (equation {name = name} {row = row} r) =
    reads_as (λ xs ys x. subst (λ p. ReadsDecl xs (decl.Equation (record { name = name; place = p; rows = row ∷ [] })) ys) x.0 (equation x.1)) (equation_stands r)
decl_stretch (fixity m k small names) = next (next (reads_as (λ xs ys x. fixity m k small x) (infixes_stretch names)))
decl_stretch (data_decl w c params e cons) = next (next (both (λ xs ys zs x y. data_decl w c x e y) (last (vars_stretch params)) (data_cons_stretch cons)))
decl_stretch (bitdata_decl w c width e cons) = next (next (both (λ xs ys zs x y. bitdata_decl w c x e y) (last (size_stretch width)) (bit_cons_stretch cons)))
decl_stretch (struct_decl w c bytes o parts q) = next (next (both (λ xs ys zs x y. struct_decl w c x o y q) (last (size_stretch bytes)) (last (struct_parts_stretch parts))))
decl_stretch (area_decl w v init m a k) = next (next (three (λ xs ys zs vs x y z. area_decl w v x m y z) (last (start_stretch init)) (type_stretch a) (align_stretch k)))
decl_stretch (port_decl w v m dir a p k) = next (next (next (next (reads_as (λ xs ys x. port_decl w v m dir x p k) (last (last (atype_stretch a)))))))
decl_stretch (class_decl w ps c params ds sigs) = next (four (λ xs ys zs vs ws x y z q. class_decl w x c y z q) (last (supers_stretch ps)) (vars_stretch params) (depends_stretch ds) (methods_stretch sigs))
decl_stretch (instance_decl w c args ps rows) = next (next (three (λ xs ys zs vs x y z. instance_decl w c x y z) (atypes_stretch args) (conditions_stretch ps) (instance_body_stretch rows)))

pub decls_stretch : {ts us : List Token} {ds : List Decl} → ReadsDecls ts ds us → Stretch (λ xs ys. ReadsDecls xs ds ys) ts us
decls_stretch (no_decl c) = token (λ us. no_decl c)
decls_stretch (empty_decl m more) = next (reads_as (λ xs ys x. empty_decl m x) (decls_stretch more))
decls_stretch (last_decl d c) = reads_as (λ xs ys x. last_decl x c) (last (decl_stretch d))
decls_stretch (more_decls d m more) = both (λ xs ys zs x y. more_decls x m y) (last (decl_stretch d)) (decls_stretch more)
