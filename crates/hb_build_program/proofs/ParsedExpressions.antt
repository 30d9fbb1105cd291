-- Whatever the grammar derives of patterns, expressions and equations is as it is read: without numbers, each definition
-- of one row, and each run with a variable between its operands.
use Rattle.std.proofs.Common.{refl, List}
use Rattle.hb_base.specs.declared.name.Name.{Name}
use Rattle.hb_base.specs.declared.place.Place.{Place}
use Rattle.hb_tokens.specs.declared.token.Token.{Token}
use Rattle.hb_tree.specs.Patterns.{Pat, Pats, NoPats, MorePats, FieldPats}
use Rattle.hb_tree.specs.Expressions.{Expr, Exprs, FieldExprs, Alts, Stmts, Binds, Equations}
use Rattle.hb_grammar.specs.Patterns.{ReadsPat, ReadsApat, ReadsApats, ReadsFieldPats, ReadsFieldPat}
use Rattle.hb_grammar.specs.Patterns as pat
use Rattle.hb_grammar.specs.Expressions.{pats_list, ReadsLeft, ReadsExpr, ReadsOperands, ReadsLast, ReadsOpen, ReadsApply, AppliesTo, ReadsPost, Follows, ReadsFieldExprs, ReadsAtom, ReadsBinds, ReadsMoreBinds, ReadsEquation, ReadsAlts, ReadsMoreAlts, ReadsStmts, ReadsMoreStmts}
use Rattle.hb_grammar.specs.Expressions as expr
use Rattle.hb_build.specs.Unnumbered.{IsUnnumbered, AreUnnumbered, AreUnnumberedFields}
use Rattle.hb_build_expressions.specs.Parsed.{AllUnnumbered, IsParsed, IsRun, AreParsedFields, AreParsedAlts, AreParsedStmts, AreParsedBinds, IsOneRow}

mutual
  pat_parsed : {ts us : List Token} {p : Pat} → ReadsPat ts p us → IsUnnumbered p
  pat_parsed (pat.con_applied c r) = (refl, apats_parsed r)
  pat_parsed (pat.apat_alone r) = apat_parsed r

  apats_parsed : {ts us : List Token} {ps : Pats} → ReadsApats ts ps us → AreUnnumbered ps
  apats_parsed pat.no_apat = tt
  apats_parsed (pat.apat_more r rs) = (apat_parsed r, apats_parsed rs)

  apat_parsed : {ts us : List Token} {p : Pat} → ReadsApat ts p us → IsUnnumbered p
  apat_parsed (pat.var v) = (refl, tt)
  apat_parsed (pat.any v) = (refl, tt)
  apat_parsed (pat.number v) = (refl, tt)
  apat_parsed (pat.bits v) = (refl, tt)
  apat_parsed (pat.con v) = (refl, tt)
  apat_parsed (pat.unit o c) = (refl, tt)
  apat_parsed (pat.inside o r c) = pat_parsed r
  apat_parsed (pat.pair o r s q c) = (refl, (pat_parsed r, pat_parsed q))
  apat_parsed (pat.no_fields c o d) = (refl, tt)
  apat_parsed (pat.fields c o r d) = (refl, field_pats_parsed r)

  field_pats_parsed : {ts us : List Token} {fs : FieldPats} → ReadsFieldPats ts fs us → AreUnnumberedFields fs
  field_pats_parsed (pat.field_last r) = (field_pat_parsed r, tt)
  field_pats_parsed (pat.field_more r b rs) = (field_pat_parsed r, field_pats_parsed rs)

  field_pat_parsed : {ts us : List Token} {place : Place} {name : Name} {p : Pat} → ReadsFieldPat ts place name p us → IsUnnumbered p
  field_pat_parsed (pat.field_alone v) = (refl, tt)
  field_pat_parsed (pat.field_given v e r) = pat_parsed r

listed : (ps : Pats) → AreUnnumbered ps → AllUnnumbered (pats_list ps)
listed NoPats u = tt
listed (MorePats p ps) u = (u.0, listed ps u.1)

left_parsed : {ts us : List Token} {name : Name} {ps : List Pat} → ReadsLeft ts name ps us → AllUnnumbered ps
left_parsed (expr.before {ps = ps} n r) = listed ps (apats_parsed r)
left_parsed (expr.between r i q) = (apat_parsed r, (apat_parsed q, tt))

mutual
  pub expr_parsed : {ts us : List Token} {e : Expr} → ReadsExpr ts e us → IsParsed e
  expr_parsed (expr.operand r) = last_parsed r
  expr_parsed (expr.operands a i r) = (refl, (apply_parsed a, (refl, operands_parsed r)))

  operands_parsed : {ts us : List Token} {es os : Exprs} → ReadsOperands ts es os us → IsRun es os
  operands_parsed (expr.last_operand r) = last_parsed r
  operands_parsed (expr.more_operands a i r) = (apply_parsed a, (refl, operands_parsed r))

  last_parsed : {ts us : List Token} {e : Expr} → ReadsLast ts e us → IsParsed e
  last_parsed (expr.closed r) = apply_parsed r
  last_parsed (expr.opened r) = open_parsed r

  open_parsed : {ts us : List Token} {e : Expr} → ReadsOpen ts e us → IsParsed e
  open_parsed (expr.lambda {p = p} {ps = ps} w a v r) = (refl, (listed (MorePats p ps) (apats_parsed a), expr_parsed r))
  open_parsed (expr.let_expr w b v r) = (refl, (binds_parsed b, expr_parsed r))
  open_parsed (expr.if_expr w c v a x b) = (refl, (expr_parsed c, (expr_parsed a, expr_parsed b)))
  open_parsed (expr.case_expr w r v a) = (refl, (expr_parsed r, alts_parsed a))
  open_parsed (expr.do_expr w r) = (refl, stmts_parsed r)

  apply_parsed : {ts us : List Token} {e : Expr} → ReadsApply ts e us → IsParsed e
  apply_parsed (expr.applied r a) = applied_parsed a (post_parsed r)

  applied_parsed : {f e : Expr} {ts us : List Token} → AppliesTo f ts e us → IsParsed f → IsParsed e
  applied_parsed expr.no_argument u = u
  applied_parsed (expr.argument r a) u = applied_parsed a (refl, (u, post_parsed r))

  post_parsed : {ts us : List Token} {e : Expr} → ReadsPost ts e us → IsParsed e
  post_parsed (expr.post_atom r f) = follows_parsed f (atom_parsed r)
  post_parsed (expr.con_alone c) = (refl, tt)
  post_parsed (expr.con_select c d v f) = follows_parsed f (refl, (refl, tt))
  post_parsed (expr.build c o r d f) = follows_parsed f (refl, fields_parsed r)
  post_parsed (expr.build_empty c o d) = (refl, tt)

  follows_parsed : {p : Place} {e d : Expr} {ts us : List Token} → Follows p e ts d us → IsParsed e → IsParsed d
  follows_parsed expr.nothing_follows u = u
  follows_parsed (expr.selected d v f) u = follows_parsed f (refl, u)
  follows_parsed (expr.updated o r c f) u = follows_parsed f (refl, (u, fields_parsed r))

  fields_parsed : {ts us : List Token} {fs : FieldExprs} → ReadsFieldExprs ts fs us → AreParsedFields fs
  fields_parsed (expr.last_field v q r) = (expr_parsed r, tt)
  fields_parsed (expr.more_fields v q r b rs) = (expr_parsed r, fields_parsed rs)

  atom_parsed : {ts us : List Token} {e : Expr} → ReadsAtom ts e us → IsParsed e
  atom_parsed (expr.atom_name n) = (refl, tt)
  atom_parsed (expr.atom_number n) = (refl, tt)
  atom_parsed (expr.atom_bits n) = (refl, tt)
  atom_parsed (expr.atom_unit o c) = (refl, tt)
  atom_parsed (expr.atom_inside o r c) = expr_parsed r
  atom_parsed (expr.atom_pair o a c b d) = (refl, (expr_parsed a, expr_parsed b))

  pub binds_parsed : {ts us : List Token} {bs : Binds} → ReadsBinds ts bs us → AreParsedBinds bs
  binds_parsed (expr.binds o r) = more_binds_parsed r

  more_binds_parsed : {ts us : List Token} {bs : Binds} → ReadsMoreBinds ts bs us → AreParsedBinds bs
  more_binds_parsed (expr.no_bind c) = tt
  more_binds_parsed (expr.empty_bind s r) = more_binds_parsed r
  more_binds_parsed (expr.last_bind r c) = (equation_parsed r, tt)
  more_binds_parsed (expr.more_binds r s rs) = (equation_parsed r, more_binds_parsed rs)

  pub equation_parsed : {ts us : List Token} {name : Name} {rows : Equations} → ReadsEquation ts name rows us → IsOneRow rows
  equation_parsed (expr.plain l w r) = (left_parsed l, (expr_parsed r, tt))
  equation_parsed (expr.with_where l w r v b) = (left_parsed l, (expr_parsed r, binds_parsed b))

  alts_parsed : {ts us : List Token} {all : Alts} → ReadsAlts ts all us → AreParsedAlts all
  alts_parsed (expr.alts o r) = more_alts_parsed r

  more_alts_parsed : {ts us : List Token} {all : Alts} → ReadsMoreAlts ts all us → AreParsedAlts all
  more_alts_parsed (expr.no_alt c) = tt
  more_alts_parsed (expr.empty_alt s r) = more_alts_parsed r
  more_alts_parsed (expr.last_alt p w r c) = (pat_parsed p, (expr_parsed r, tt))
  more_alts_parsed (expr.more_alts p w r s rs) = (pat_parsed p, (expr_parsed r, more_alts_parsed rs))

  stmts_parsed : {ts us : List Token} {ss : Stmts} → ReadsStmts ts ss us → AreParsedStmts ss
  stmts_parsed (expr.stmts o r) = more_stmts_parsed r

  more_stmts_parsed : {ts us : List Token} {ss : Stmts} → ReadsMoreStmts ts ss us → AreParsedStmts ss
  more_stmts_parsed (expr.empty_stmt s r) = more_stmts_parsed r
  more_stmts_parsed (expr.take_stmt p w r s rs) = (pat_parsed p, (expr_parsed r, more_stmts_parsed rs))
  more_stmts_parsed (expr.let_stmt w b s rs) = (binds_parsed b, more_stmts_parsed rs)
  more_stmts_parsed (expr.do_stmt r s rs) = (expr_parsed r, more_stmts_parsed rs)
  more_stmts_parsed (expr.last_stmt r c) = (expr_parsed r, tt)
