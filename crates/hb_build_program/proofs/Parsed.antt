-- Whatever the grammar derives is a program as it is read.
use Rattle.std.proofs.Common.{List, [], ◌∷◌, Option}
use Rattle.hb_tokens.specs.declared.token.Token.{Token}
use Rattle.hb_tree.specs.declared.declaration.Decl.{Decl}
use Rattle.hb_tree.specs.declared.declaration.Program.{Program}
use Rattle.hb_tree.specs.declared.statement.Bind.{Bind}
use Rattle.hb_tree.specs.ExpressionViews.{binds}
use Rattle.hb_tree.specs.Initials.{InitExpr, FieldInits}
use Rattle.hb_grammar.specs.Declarations.{ReadsInstanceBody, ReadsInit, ReadsFieldInits, ReadsStart, ReadsDecl, ReadsDecls, Derives}
use Rattle.hb_grammar.specs.Declarations as decl
use Rattle.hb_build_expressions.specs.Parsed.{AreParsedBinds}
use Rattle.hb_build_program.specs.ParsedProgram.{AllOf, IsParsedBind, IsParsedInit, AreParsedInits, IsParsedStart, IsParsedDecl, IsParsed}
use Rattle.hb_build_program.proofs.ParsedExpressions.{expr_parsed, binds_parsed, equation_parsed}

each_bind : (rows : List Bind) → AreParsedBinds (binds rows) → AllOf IsParsedBind rows
each_bind [] u = tt
each_bind (b ∷ rows) u = (u.0, each_bind rows u.1)

body_parsed : {ts us : List Token} {rows : List Bind} → ReadsInstanceBody ts rows us → AllOf IsParsedBind rows
body_parsed decl.no_body = tt
body_parsed (decl.body {rows = rows} w r) = each_bind rows (binds_parsed r)

mutual
  init_parsed : {ts us : List Token} {i : InitExpr} → ReadsInit ts i us → IsParsedInit i
  init_parsed (decl.each e v a r) = init_parsed r
  init_parsed (decl.by_fields f o r c) = inits_parsed r
  init_parsed (decl.cell r) = expr_parsed r

  inits_parsed : {ts us : List Token} {fs : FieldInits} → ReadsFieldInits ts fs us → AreParsedInits fs
  inits_parsed (decl.last_init v a r) = (init_parsed r, tt)
  inits_parsed (decl.more_inits v a r b rs) = (init_parsed r, inits_parsed rs)

start_parsed : {ts us : List Token} {init : Option InitExpr} → ReadsStart ts init us → IsParsedStart init
start_parsed decl.no_start = tt
start_parsed (decl.start w r) = init_parsed r

decl_parsed : {ts us : List Token} {d : Decl} → ReadsDecl ts d us → IsParsedDecl d
decl_parsed (decl.signature r) = tt
decl_parsed (decl.equation r) = equation_parsed r
decl_parsed (decl.fixity w n l r) = tt
decl_parsed (decl.data_decl w c v e r) = tt
decl_parsed (decl.bitdata_decl w c v e r) = tt
decl_parsed (decl.struct_decl w c v o r d) = tt
decl_parsed (decl.area_decl w v s c r a) = start_parsed s
decl_parsed (decl.port_decl w v c d r a b) = tt
decl_parsed (decl.class_decl w s c v d m) = tt
decl_parsed (decl.instance_decl w c a i r) = body_parsed r

decls_parsed : {ts us : List Token} {ds : List Decl} → ReadsDecls ts ds us → AllOf IsParsedDecl ds
decls_parsed (decl.no_decl c) = tt
decls_parsed (decl.empty_decl s r) = decls_parsed r
decls_parsed (decl.last_decl r c) = (decl_parsed r, tt)
decls_parsed (decl.more_decls r s rs) = (decl_parsed r, decls_parsed rs)

-- a derived program has no numbers yet, each of its definitions has one row, and each of its runs has one operator fewer
pub derived_parsed : {ts : List Token} {p : Program} → Derives ts p → IsParsed p
derived_parsed (decl.program o r e) = decls_parsed r
