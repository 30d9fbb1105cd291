-- The program of a source is a program as it is written.
use Rattle.std.proofs.Common.{List, [], ◌∷◌, Option}
use Rattle.hb_tokens.specs.declared.token.Token.{Token}
use Rattle.hb_base.specs.declared.name.Name.{Name}
use Rattle.hb_base.specs.declared.place.Place.{Place}
use Rattle.hb_tree.specs.declared.declaration.Decl.{Decl}
use Rattle.hb_tree.specs.declared.declaration.Program.{Program}
use Rattle.hb_tree.specs.declared.statement.Bind.{Bind}
use Rattle.hb_tree.specs.ExpressionViews.{binds as all_binds}
use Rattle.hb_tree.specs.Expressions.{Expr, Exprs, FieldExprs, Alts, Stmts, Binds, NoBinds, MoreBinds, Equations, NoEquations, MoreEquations}
use Rattle.hb_tree.specs.Initials.{InitExpr, FieldInits}
use Rattle.hb_grammar.specs.Expressions.{ReadsExpr, operand, operands, ReadsOperands, last_operand, more_operands, ReadsLast, closed, opened, ReadsOpen, lambda, let_expr, if_expr, case_expr, do_expr, ReadsApply, AppliesTo, no_argument, argument, ReadsPost, post_atom, con_alone, con_select, build, build_empty, Follows, nothing_follows, selected, updated, ReadsFieldExprs, last_field, more_fields, ReadsAtom, atom_name, atom_number, atom_bits, atom_unit, atom_inside, atom_pair, ReadsBinds, binds, ReadsMoreBinds, no_bind, empty_bind, last_bind, more_binds, ReadsEquation, plain, with_where, ReadsAlts, alts, ReadsMoreAlts, no_alt, empty_alt, last_alt, more_alts, ReadsStmts, stmts, ReadsMoreStmts, empty_stmt, take_stmt, let_stmt, do_stmt, last_stmt}
use Rattle.hb_grammar.specs.Expressions.ReadsApply.{applied}
use Rattle.hb_grammar.specs.Declarations.{ReadsInstanceBody, no_body, body, ReadsInit, each, by_fields, cell, ReadsFieldInits, last_init, more_inits, ReadsStart, no_start, start, ReadsDecl, signature, equation, fixity, data_decl, bitdata_decl, struct_decl, area_decl, port_decl, class_decl, instance_decl, ReadsDecls, no_decl, empty_decl, last_decl, more_decls, Derives, program}
use Rattle.hb_depth.specs.Written.{IsOneMore, IsWritten, AreWritten, AreWrittenFields, AreWrittenAlts, AreWrittenStmts, AreWrittenBinds, AreWrittenRows, IsOneRow, AreWrittenEquations, IsWrittenInit, AreWrittenInits, IsWrittenStart, IsWrittenDecl, AreWrittenDecls, IsWrittenProgram}

-- each definition is one row
abbrev AreOneRow : Binds → Type 0
AreOneRow NoBinds = Unit {0}
AreOneRow (MoreBinds name place rows bs) = IsOneRow rows × AreOneRow bs

one_row_written : (rows : Equations) → IsOneRow rows → AreWrittenRows rows
one_row_written NoEquations h = absurd h
one_row_written (MoreEquations ps first e bs NoEquations) h = (h.1, h.2, tt)
one_row_written (MoreEquations ps first e bs (MoreEquations qs second f cs rows)) h = absurd h.0

rows_written : (bs : Binds) → AreOneRow bs → AreWrittenBinds bs
rows_written NoBinds h = tt
rows_written (MoreBinds name place rows bs) h = (one_row_written rows h.0, rows_written bs h.1)

equations_written : (bs : List Bind) → AreOneRow (all_binds bs) → AreWrittenEquations bs
equations_written [] h = tt
equations_written (b ∷ bs) h = (h.0, equations_written bs h.1)

-- operands and operators that are written, the first one more
abbrev IsRun : Exprs → Exprs → Type 0
IsRun es os = IsOneMore es os × AreWritten es × AreWritten os

mutual
  expr_written : {ts us : List Token} {e : Expr} → ReadsExpr ts e us → IsWritten e
  expr_written (operand d) = last_written d
  expr_written (operands d i rest) = ((operands_written rest).0, (apply_written d, (operands_written rest).1), (tt, (operands_written rest).2))

  operands_written : {ts us : List Token} {es os : Exprs} → ReadsOperands ts es os us → IsRun es os
  operands_written (last_operand d) = (tt, (last_written d, tt), tt)
  operands_written (more_operands d i rest) = ((operands_written rest).0, (apply_written d, (operands_written rest).1), (tt, (operands_written rest).2))

  last_written : {ts us : List Token} {e : Expr} → ReadsLast ts e us → IsWritten e
  last_written (closed d) = apply_written d
  last_written (opened d) = open_written d

  open_written : {ts us : List Token} {e : Expr} → ReadsOpen ts e us → IsWritten e
  open_written (lambda t ps s d) = expr_written d
  open_written (let_expr t bs s d) = (rows_written _ (binds_written bs), expr_written d)
  open_written (if_expr t c s a r b) = (expr_written c, expr_written a, expr_written b)
  open_written (case_expr t d s all) = (expr_written d, alts_written all)
  open_written (do_expr t d) = stmts_written d

  apply_written : {ts us : List Token} {e : Expr} → ReadsApply ts e us → IsWritten e
  apply_written (applied f d) = applies_written d (post_written f)

  applies_written : {ts us : List Token} {f e : Expr} → AppliesTo f ts e us → IsWritten f → IsWritten e
  applies_written no_argument w = w
  applies_written (argument x d) w = applies_written d (w, post_written x)

  post_written : {ts us : List Token} {e : Expr} → ReadsPost ts e us → IsWritten e
  post_written (post_atom a d) = follows_written d (atom_written a)
  post_written (con_alone t) = tt
  post_written (con_select t s r d) = follows_written d tt
  post_written (build t s fs r d) = follows_written d (fields_written fs)
  post_written (build_empty t s r) = tt

  follows_written : {ts us : List Token} {p : Place} {e d : Expr} → Follows p e ts d us → IsWritten e → IsWritten d
  follows_written nothing_follows w = w
  follows_written (selected t s d) w = follows_written d w
  follows_written (updated t fs s d) w = follows_written d (w, fields_written fs)

  fields_written : {ts us : List Token} {fs : FieldExprs} → ReadsFieldExprs ts fs us → AreWrittenFields fs
  fields_written (last_field t s d) = (expr_written d, tt)
  fields_written (more_fields t s d r fs) = (expr_written d, fields_written fs)

  atom_written : {ts us : List Token} {e : Expr} → ReadsAtom ts e us → IsWritten e
  atom_written (atom_name n) = tt
  atom_written (atom_number t) = tt
  atom_written (atom_bits t) = tt
  atom_written (atom_unit t s) = tt
  atom_written (atom_inside t d s) = expr_written d
  atom_written (atom_pair t a s b r) = (expr_written a, expr_written b)

  binds_written : {ts us : List Token} {bs : Binds} → ReadsBinds ts bs us → AreOneRow bs
  binds_written (binds t d) = more_binds_written d

  more_binds_written : {ts us : List Token} {bs : Binds} → ReadsMoreBinds ts bs us → AreOneRow bs
  more_binds_written (no_bind t) = tt
  more_binds_written (empty_bind t d) = more_binds_written d
  more_binds_written (last_bind d t) = (equation_written d, tt)
  more_binds_written (more_binds d t rest) = (equation_written d, more_binds_written rest)

  equation_written : {ts us : List Token} {name : Name} {rows : Equations} → ReadsEquation ts name rows us → IsOneRow rows
  equation_written (plain l t d) = (tt, expr_written d, tt)
  equation_written (with_where l t d s bs) = (tt, expr_written d, rows_written _ (binds_written bs))

  alts_written : {ts us : List Token} {all : Alts} → ReadsAlts ts all us → AreWrittenAlts all
  alts_written (alts t d) = more_alts_written d

  more_alts_written : {ts us : List Token} {all : Alts} → ReadsMoreAlts ts all us → AreWrittenAlts all
  more_alts_written (no_alt t) = tt
  more_alts_written (empty_alt t d) = more_alts_written d
  more_alts_written (last_alt p t d s) = (expr_written d, tt)
  more_alts_written (more_alts p t d s rest) = (expr_written d, more_alts_written rest)

  stmts_written : {ts us : List Token} {ss : Stmts} → ReadsStmts ts ss us → AreWrittenStmts ss
  stmts_written (stmts t d) = more_stmts_written d

  more_stmts_written : {ts us : List Token} {ss : Stmts} → ReadsMoreStmts ts ss us → AreWrittenStmts ss
  more_stmts_written (empty_stmt t d) = more_stmts_written d
  more_stmts_written (take_stmt p t d s rest) = (expr_written d, more_stmts_written rest)
  more_stmts_written (let_stmt t bs s rest) = (rows_written _ (binds_written bs), more_stmts_written rest)
  more_stmts_written (do_stmt d s rest) = (expr_written d, more_stmts_written rest)
  more_stmts_written (last_stmt d ends) = (expr_written d, tt)

mutual
  init_written : {ts us : List Token} {i : InitExpr} → ReadsInit ts i us → IsWrittenInit i
  init_written (each t s r d) = init_written d
  init_written (by_fields t s fs r) = inits_written fs
  init_written (cell d) = expr_written d

  inits_written : {ts us : List Token} {fs : FieldInits} → ReadsFieldInits ts fs us → AreWrittenInits fs
  inits_written (last_init t s d) = (init_written d, tt)
  inits_written (more_inits t s d r rest) = (init_written d, inits_written rest)

start_written : {ts us : List Token} {i : Option InitExpr} → ReadsStart ts i us → IsWrittenStart i
start_written no_start = tt
start_written (start t d) = init_written d

body_written : {ts us : List Token} {rows : List Bind} → ReadsInstanceBody ts rows us → AreWrittenEquations rows
body_written no_body = tt
body_written (body t d) = equations_written _ (binds_written d)

decl_written : {ts us : List Token} {d : Decl} → ReadsDecl ts d us → IsWrittenDecl d
decl_written (signature d) = tt
decl_written (equation d) = equation_written d
decl_written (fixity t s k names) = tt
decl_written (data_decl t s params r cons) = tt
decl_written (bitdata_decl t s width r cons) = tt
decl_written (struct_decl t s bytes r parts q) = tt
decl_written (area_decl t s i r a alignment) = start_written i
decl_written (port_decl t s r q a p o) = tt
decl_written (class_decl t ps s params ds sigs) = tt
decl_written (instance_decl t s args ps rows) = body_written rows

decls_written : {ts us : List Token} {ds : List Decl} → ReadsDecls ts ds us → AreWrittenDecls ds
decls_written (no_decl t) = tt
decls_written (empty_decl t rest) = decls_written rest
decls_written (last_decl d t) = (decl_written d, tt)
decls_written (more_decls d t rest) = (decl_written d, decls_written rest)

-- each program that a source has is written so
pub program_written : {ts : List Token} {p : Program} → Derives ts p → IsWrittenProgram p
program_written (program t ds s) = decls_written ds
