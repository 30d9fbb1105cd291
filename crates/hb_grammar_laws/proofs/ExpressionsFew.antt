-- An expression is at least two things fewer than four for each of its tokens, and so is an equation.
use Rattle.std.proofs.Common.{◌≡◌, List, ◌+◌, ◌*◌, ◌≤◌, length, refl, ap, arith}
use Rattle.hb_base.specs.declared.name.Name.{Name}
use Rattle.hb_base.specs.declared.place.Place.{Place}
use Rattle.hb_tokens.specs.declared.token.Token.{Token}
use Rattle.hb_tree.specs.Patterns.{Pat, Pats, NoPats, MorePats}
use Rattle.hb_tree.specs.Expressions.{Expr, Exprs, FieldExprs, Alts, Stmts, Binds, Equations}
use Rattle.hb_tree.specs.Things.{total, pat_things, pats_things, expr_things, exprs_things, operators_things, field_exprs_things, alts_things, stmts_things, binds_things, rows_things}
use Rattle.hb_grammar.specs.Expressions.{pats_list, ReadsName, ReadsInfix, ReadsLeft, before, between, ReadsExpr, operand, operands, ReadsOperands, last_operand, more_operands, ReadsLast, closed, opened, ReadsOpen, lambda, let_expr, if_expr, case_expr, do_expr, ReadsApply, applied, AppliesTo, no_argument, argument, ReadsPost, post_atom, con_alone, con_select, build, build_empty, Follows, nothing_follows, selected, updated, ReadsFieldExprs, last_field, more_fields, ReadsAtom, atom_name, atom_number, atom_bits, atom_unit, atom_inside, atom_pair, ReadsBinds, binds, ReadsMoreBinds, no_bind, empty_bind, last_bind, more_binds, ReadsEquation, plain, with_where, ReadsAlts, alts, ReadsMoreAlts, no_alt, empty_alt, last_alt, more_alts, ReadsStmts, stmts, ReadsMoreStmts, empty_stmt, take_stmt, let_stmt, do_stmt, last_stmt, OnlyCloses, closing, empty_closing}
use Rattle.hb_grammar.specs.Expressions.ReadsName.{var, op as op_name}
use Rattle.hb_grammar.specs.Expressions.ReadsInfix.{op as op_infix, named}
use Rattle.hb_grammar_laws.specs.Counting.{AreFew}
use Rattle.hb_grammar_laws.proofs.PatternsFew.{pat_few, apats_few, apat_few}

-- a name is at most one thing where it stands, and has three to spare
pub name_few : {ts us : List Token} {place : Place} {name : Name} → ReadsName ts place name us → AreFew 4 ts us
name_few (var m) = omega arith
name_few (op_name o m c) = omega arith

pub infix_few : {ts us : List Token} {place : Place} {name : Name} → ReadsInfix ts place name us → AreFew 4 ts us
infix_few (op_infix m) = omega arith
infix_few (named o m c) = omega arith

pub listed : (ps : Pats) → total pat_things (pats_list ps) ≡ pats_things ps
listed NoPats = refl
listed (MorePats p ps) = ap (λ n. pat_things p + n) (listed ps)

left_few : {ts us : List Token} {name : Name} {ps : List Pat} → ReadsLeft ts name ps us → AreFew (total pat_things ps + 4) ts us
left_few (before {ps} name all) = omega (arith, name_few name, apats_few all, listed ps)
left_few (between p o q) = omega (arith, apat_few p, infix_few o, apat_few q)

closes_few : {ts us : List Token} → OnlyCloses ts us → AreFew 4 ts us
closes_few (closing m) = omega arith
closes_few (empty_closing m more) = omega (arith, closes_few more)

mutual
  pub expr_few : {ts us : List Token} {e : Expr} → ReadsExpr ts e us → AreFew (expr_things e + 2) ts us
  expr_few (operand e) = last_few e
  expr_few (operands first o more) = omega (arith, apply_few first, infix_few o, operands_few more)

  operands_few : {ts us : List Token} {es os : Exprs} → ReadsOperands ts es os us → AreFew (exprs_things es + operators_things os + 2) ts us
  operands_few (last_operand e) = omega (arith, last_few e)
  operands_few (more_operands e o more) = omega (arith, apply_few e, infix_few o, operands_few more)

  last_few : {ts us : List Token} {e : Expr} → ReadsLast ts e us → AreFew (expr_things e + 2) ts us
  last_few (closed e) = apply_few e
  last_few (opened e) = open_few e

  open_few : {ts us : List Token} {e : Expr} → ReadsOpen ts e us → AreFew (expr_things e + 2) ts us
  open_few (lambda {p} {ps} m all a e) = omega (arith, apats_few all, listed (MorePats p ps), expr_few e)
  open_few (let_expr m bs i e) = omega (arith, binds_few bs, expr_few e)
  open_few (if_expr m c h a l b) = omega (arith, expr_few c, expr_few a, expr_few b)
  open_few (case_expr m e o rows) = omega (arith, expr_few e, alts_few rows)
  open_few (do_expr m rows) = omega (arith, stmts_few rows)

  apply_few : {ts us : List Token} {e : Expr} → ReadsApply ts e us → AreFew (expr_things e + 2) ts us
  apply_few (applied f more) = omega (arith, post_few f, applies_few more)

  -- how many things more the whole is than f
  applies_few : {f e : Expr} {ts us : List Token} → AppliesTo f ts e us → expr_things e + 4 * length us ≤ expr_things f + 4 * length ts
  applies_few no_argument = omega arith
  applies_few (argument x more) = omega (arith, post_few x, applies_few more)

  post_few : {ts us : List Token} {e : Expr} → ReadsPost ts e us → AreFew (expr_things e + 2) ts us
  post_few (post_atom a more) = omega (arith, atom_few a, follows_few more)
  post_few (con_alone m) = omega arith
  post_few (con_select m d f more) = omega (arith, follows_few more)
  post_few (build m o fs c more) = omega (arith, field_exprs_few fs, follows_few more)
  post_few (build_empty m o c) = omega arith

  follows_few : {p : Place} {f e : Expr} {ts us : List Token} → Follows p f ts e us → expr_things e + 4 * length us ≤ expr_things f + 4 * length ts
  follows_few nothing_follows = omega arith
  follows_few (selected d m more) = omega (arith, follows_few more)
  follows_few (updated o fs c more) = omega (arith, field_exprs_few fs, follows_few more)

  field_exprs_few : {ts us : List Token} {fs : FieldExprs} → ReadsFieldExprs ts fs us → AreFew (field_exprs_things fs) ts us
  field_exprs_few (last_field m q e) = omega (arith, expr_few e)
  field_exprs_few (more_fields m q e b more) = omega (arith, expr_few e, field_exprs_few more)

  atom_few : {ts us : List Token} {e : Expr} → ReadsAtom ts e us → AreFew (expr_things e + 2) ts us
  atom_few (atom_name name) = omega (arith, name_few name)
  atom_few (atom_number m) = omega arith
  atom_few (atom_bits m) = omega arith
  atom_few (atom_unit o c) = omega arith
  atom_few (atom_inside o e c) = omega (arith, expr_few e)
  atom_few (atom_pair o a m b c) = omega (arith, expr_few a, expr_few b)

  pub binds_few : {ts us : List Token} {bs : Binds} → ReadsBinds ts bs us → AreFew (binds_things bs) ts us
  binds_few (binds o more) = omega (arith, more_binds_few more)

  more_binds_few : {ts us : List Token} {bs : Binds} → ReadsMoreBinds ts bs us → AreFew (binds_things bs) ts us
  more_binds_few (no_bind c) = omega arith
  more_binds_few (empty_bind m more) = omega (arith, more_binds_few more)
  more_binds_few (last_bind r c) = omega (arith, equation_few r)
  more_binds_few (more_binds r m more) = omega (arith, equation_few r, more_binds_few more)

  pub equation_few : {ts us : List Token} {name : Name} {rows : Equations} → ReadsEquation ts name rows us → AreFew (rows_things rows + 2) ts us
  equation_few (plain left q r) = omega (arith, left_few left, expr_few r)
  equation_few (with_where left q r w rows) = omega (arith, left_few left, expr_few r, binds_few rows)

  alts_few : {ts us : List Token} {all : Alts} → ReadsAlts ts all us → AreFew (alts_things all) ts us
  alts_few (alts o more) = omega (arith, more_alts_few more)

  more_alts_few : {ts us : List Token} {all : Alts} → ReadsMoreAlts ts all us → AreFew (alts_things all) ts us
  more_alts_few (no_alt c) = omega arith
  more_alts_few (empty_alt m more) = omega (arith, more_alts_few more)
  more_alts_few (last_alt p a e c) = omega (arith, pat_few p, expr_few e)
  more_alts_few (more_alts p a e m more) = omega (arith, pat_few p, expr_few e, more_alts_few more)

  stmts_few : {ts us : List Token} {ss : Stmts} → ReadsStmts ts ss us → AreFew (stmts_things ss) ts us
  stmts_few (stmts o more) = omega (arith, more_stmts_few more)

  more_stmts_few : {ts us : List Token} {ss : Stmts} → ReadsMoreStmts ts ss us → AreFew (stmts_things ss) ts us
  more_stmts_few (empty_stmt m more) = omega (arith, more_stmts_few more)
  more_stmts_few (take_stmt p a e m more) = omega (arith, pat_few p, expr_few e, more_stmts_few more)
  more_stmts_few (let_stmt l bs m more) = omega (arith, binds_few bs, more_stmts_few more)
  more_stmts_few (do_stmt e m more) = omega (arith, expr_few e, more_stmts_few more)
  more_stmts_few (last_stmt e c) = omega (arith, expr_few e, closes_few c)
