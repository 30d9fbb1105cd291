-- Expressions, statements and equations are stretches. What is put at its first token is so wherever the stretch is read.
use Rattle.std.proofs.Common.{List, refl, sym, subst}
use Rattle.hb_base.specs.declared.name.Name.{Name}
use Rattle.hb_base.specs.declared.place.Place.{Place}
use Rattle.hb_tokens.specs.declared.token.Token.{Token}
use Rattle.hb_tree.specs.Patterns.{Pat}
use Rattle.hb_tree.specs.Expressions.{Expr, Var, Run, Exprs, MoreExprs, FieldExprs, Alts, Stmts, Binds, NoBinds, MoreBinds, Equations, NoEquations, MoreEquations}
use Rattle.hb_grammar.specs.Tokens.{first_place}
use Rattle.hb_grammar.specs.Expressions.{expression, ReadsName, ReadsInfix, ReadsLeft, before, between, ReadsExpr, operand, operands, ReadsOperands, last_operand, more_operands, ReadsLast, closed, opened, ReadsOpen, lambda, let_expr, if_expr, case_expr, do_expr, ReadsApply, applied, AppliesTo, no_argument, argument, ReadsPost, post_atom, con_alone, con_select, build, build_empty, Follows, nothing_follows, selected, updated, ReadsFieldExprs, last_field, more_fields, ReadsAtom, atom_name, atom_number, atom_bits, atom_unit, atom_inside, atom_pair, ReadsBinds, binds, ReadsMoreBinds, no_bind, empty_bind, last_bind, more_binds, ReadsEquation, plain, with_where, ReadsAlts, alts, ReadsMoreAlts, no_alt, empty_alt, last_alt, more_alts, ReadsStmts, stmts, ReadsMoreStmts, empty_stmt, take_stmt, let_stmt, do_stmt, last_stmt, OnlyCloses, closing, empty_closing}
use Rattle.hb_grammar.specs.Expressions.ReadsName.{var, op as op_name}
use Rattle.hb_grammar.specs.Expressions.ReadsInfix.{op as op_infix, named}
use Rattle.hb_grammar_laws.specs.Stretch.{Stretch}
use Rattle.hb_grammar_laws.proofs.Stretching.{nothing, token, next, last, both, three, reads_as, StandsAt, stands, opens}
use Rattle.hb_grammar_laws.proofs.PatternsStretch.{pat_stretch, apats_stretch, apat_stretch, apat_stands}

pub name_stands : {ts us : List Token} {place : Place} {name : Name} → ReadsName ts place name us → Stretch (StandsAt (first_place ts) (λ xs ys. ReadsName xs place name ys)) ts us
name_stands (var m) = token (λ us. (refl, var m))
name_stands (op_name o m c) = opens (next (token (λ us. op_name o m c)))

pub name_stretch : {ts us : List Token} {place : Place} {name : Name} → ReadsName ts place name us → Stretch (λ xs ys. ReadsName xs place name ys) ts us
name_stretch r = stands (name_stands r)

pub infix_stretch : {ts us : List Token} {place : Place} {name : Name} → ReadsInfix ts place name us → Stretch (λ xs ys. ReadsInfix xs place name ys) ts us
infix_stretch (op_infix m) = token (λ us. op_infix m)
infix_stretch (named o m c) = next (next (token (λ us. named o m c)))

left_stands : {ts us : List Token} {name : Name} {ps : List Pat} → ReadsLeft ts name ps us → Stretch (StandsAt (first_place ts) (λ xs ys. ReadsLeft xs name ps ys)) ts us
left_stands (before name ps) = both (λ xs ys zs x y. (x.0, before x.1 y)) (name_stands name) (apats_stretch ps)
left_stands (between p o q) = three (λ xs ys zs vs x y z. (x.0, between x.1 y z)) (apat_stands p) (infix_stretch o) (apat_stretch q)

pub left_stretch : {ts us : List Token} {name : Name} {ps : List Pat} → ReadsLeft ts name ps us → Stretch (λ xs ys. ReadsLeft xs name ps ys) ts us
left_stretch r = stands (left_stands r)

pub closes_stretch : {ts us : List Token} → OnlyCloses ts us → Stretch OnlyCloses ts us
closes_stretch (closing m) = token (λ us. closing m)
closes_stretch (empty_closing m more) = next (reads_as (λ xs ys x. empty_closing m x) (closes_stretch more))

mutual
  pub expr_stands : {ts us : List Token} {e : Expr} → ReadsExpr ts e us → Stretch (StandsAt (first_place ts) (λ xs ys. ReadsExpr xs e ys)) ts us
  expr_stands (operand e) = reads_as (λ xs ys x. (x.0, operand x.1)) (last_stands e)
  expr_stands (operands {place = place} {name = name} {e = e} {es = es} {os = os} first o more) =
      three (λ xs ys zs vs x y z. (x.0, subst (λ p. ReadsExpr xs (expression p (Run (MoreExprs e es) (MoreExprs (expression place (Var name)) os))) vs) x.0 (operands x.1 y z))) (apply_stands first) (infix_stretch o) (operands_stretch more)

  pub operands_stretch : {ts us : List Token} {es os : Exprs} → ReadsOperands ts es os us → Stretch (λ xs ys. ReadsOperands xs es os ys) ts us
  operands_stretch (last_operand e) = reads_as (λ xs ys x. last_operand x.1) (last_stands e)
  operands_stretch (more_operands e o more) = three (λ xs ys zs vs x y z. more_operands x.1 y z) (apply_stands e) (infix_stretch o) (operands_stretch more)

  last_stands : {ts us : List Token} {e : Expr} → ReadsLast ts e us → Stretch (StandsAt (first_place ts) (λ xs ys. ReadsLast xs e ys)) ts us
  last_stands (closed e) = reads_as (λ xs ys x. (x.0, closed x.1)) (apply_stands e)
  last_stands (opened e) = reads_as (λ xs ys x. (x.0, opened x.1)) (open_stands e)

  open_stands : {ts us : List Token} {e : Expr} → ReadsOpen ts e us → Stretch (StandsAt (first_place ts) (λ xs ys. ReadsOpen xs e ys)) ts us
  open_stands (lambda m ps a e) = opens (both (λ xs ys zs x y. lambda m x a y.1) (last (apats_stretch ps)) (expr_stands e))
  open_stands (let_expr m bs i e) = opens (both (λ xs ys zs x y. let_expr m x i y.1) (last (binds_stretch bs)) (expr_stands e))
  open_stands (if_expr m c h a l b) = opens (three (λ xs ys zs vs x y z. if_expr m x.1 h y.1 l z.1) (last (expr_stands c)) (last (expr_stands a)) (expr_stands b))
  open_stands (case_expr m e o rows) = opens (both (λ xs ys zs x y. case_expr m x.1 o y) (last (expr_stands e)) (alts_stretch rows))
  open_stands (do_expr m rows) = opens (reads_as (λ xs ys x. do_expr m x) (stmts_stretch rows))

  apply_stands : {ts us : List Token} {e : Expr} → ReadsApply ts e us → Stretch (StandsAt (first_place ts) (λ xs ys. ReadsApply xs e ys)) ts us
  apply_stands (applied f more) = both (λ xs ys zs x y. (x.0, applied x.1 y)) (post_stands f) (applies_stretch more)

  pub applies_stretch : {ts us : List Token} {f e : Expr} → AppliesTo f ts e us → Stretch (λ xs ys. AppliesTo f xs e ys) ts us
  applies_stretch no_argument = nothing (λ us. no_argument)
  applies_stretch (argument x more) = both (λ xs ys zs x y. argument x.1 y) (post_stands x) (applies_stretch more)

  post_stands : {ts us : List Token} {e : Expr} → ReadsPost ts e us → Stretch (StandsAt (first_place ts) (λ xs ys. ReadsPost xs e ys)) ts us
  post_stands {e = e} (post_atom {a = a} r more) =
      both (λ xs ys zs x y. (x.0, post_atom x.1 (subst (λ p. Follows p a ys e zs) (sym x.0) y))) (atom_stands r) (follows_stretch more)
  post_stands (con_alone m) = token (λ us. (refl, con_alone m))
  post_stands (con_select m d f more) = opens (next (next (reads_as (λ xs ys x. con_select m d f x) (follows_stretch more))))
  post_stands (build m o fs c more) = opens (next (both (λ xs ys zs x y. build m o x c y) (last (field_exprs_stretch fs)) (follows_stretch more)))
  post_stands (build_empty m o c) = opens (next (token (λ us. build_empty m o c)))

  pub follows_stretch : {p : Place} {ts us : List Token} {f e : Expr} → Follows p f ts e us → Stretch (λ xs ys. Follows p f xs e ys) ts us
  follows_stretch nothing_follows = nothing (λ us. nothing_follows)
  follows_stretch (selected d m more) = next (next (reads_as (λ xs ys x. selected d m x) (follows_stretch more)))
  follows_stretch (updated o fs c more) = next (both (λ xs ys zs x y. updated o x c y) (last (field_exprs_stretch fs)) (follows_stretch more))

  pub field_exprs_stretch : {ts us : List Token} {fs : FieldExprs} → ReadsFieldExprs ts fs us → Stretch (λ xs ys. ReadsFieldExprs xs fs ys) ts us
  field_exprs_stretch (last_field m q e) = next (next (reads_as (λ xs ys x. last_field m q x.1) (expr_stands e)))
  field_exprs_stretch (more_fields m q e b more) = next (next (both (λ xs ys zs x y. more_fields m q x.1 b y) (last (expr_stands e)) (field_exprs_stretch more)))

  atom_stands : {ts us : List Token} {e : Expr} → ReadsAtom ts e us → Stretch (StandsAt (first_place ts) (λ xs ys. ReadsAtom xs e ys)) ts us
  atom_stands (atom_name name) = reads_as (λ xs ys x. (x.0, atom_name x.1)) (name_stands name)
  atom_stands (atom_number m) = token (λ us. (refl, atom_number m))
  atom_stands (atom_bits m) = token (λ us. (refl, atom_bits m))
  atom_stands (atom_unit o c) = opens (token (λ us. atom_unit o c))
  atom_stands (atom_inside o e c) = opens (reads_as (λ xs ys x. atom_inside o x.1 c) (last (expr_stands e)))
  atom_stands (atom_pair o a m b c) = opens (both (λ xs ys zs x y. atom_pair o x.1 m y.1 c) (last (expr_stands a)) (last (expr_stands b)))

  pub binds_stretch : {ts us : List Token} {bs : Binds} → ReadsBinds ts bs us → Stretch (λ xs ys. ReadsBinds xs bs ys) ts us
  binds_stretch (binds o more) = next (reads_as (λ xs ys x. binds o x) (more_binds_stretch more))

  pub more_binds_stretch : {ts us : List Token} {bs : Binds} → ReadsMoreBinds ts bs us → Stretch (λ xs ys. ReadsMoreBinds xs bs ys) ts us
  more_binds_stretch (no_bind c) = token (λ us. no_bind c)
  more_binds_stretch (empty_bind m more) = next (reads_as (λ xs ys x. empty_bind m x) (more_binds_stretch more))
  more_binds_stretch (last_bind {name = name} {row = row} r c) =
      reads_as (λ xs ys x. subst (λ p. ReadsMoreBinds xs (MoreBinds name p row NoBinds) ys) x.0 (last_bind x.1 c)) (last (equation_stands r))
  more_binds_stretch (more_binds {name = name} {row = row} {bs = bs} r m more) =
      both (λ xs ys zs x y. subst (λ p. ReadsMoreBinds xs (MoreBinds name p row bs) zs) x.0 (more_binds x.1 m y)) (last (equation_stands r)) (more_binds_stretch more)

  pub equation_stands : {ts us : List Token} {name : Name} {row : Equations} → ReadsEquation ts name row us → Stretch (StandsAt (first_place ts) (λ xs ys. ReadsEquation xs name row ys)) ts us
  equation_stands (plain {name = name} {ps = ps} {e = e} left q r) =
      both (λ xs ys zs x y. (x.0, subst (λ p. ReadsEquation xs name (MoreEquations ps p e NoBinds NoEquations) zs) y.0 (plain x.1 q y.1))) (last (left_stands left)) (expr_stands r)
  equation_stands (with_where {name = name} {ps = ps} {e = e} {bs = bs} left q r w rows) =
      three (λ xs ys zs vs x y z. (x.0, subst (λ p. ReadsEquation xs name (MoreEquations ps p e bs NoEquations) vs) y.0 (with_where x.1 q y.1 w z))) (last (left_stands left)) (last (expr_stands r)) (binds_stretch rows)

  pub alts_stretch : {ts us : List Token} {rows : Alts} → ReadsAlts ts rows us → Stretch (λ xs ys. ReadsAlts xs rows ys) ts us
  alts_stretch (alts o more) = next (reads_as (λ xs ys x. alts o x) (more_alts_stretch more))

  pub more_alts_stretch : {ts us : List Token} {rows : Alts} → ReadsMoreAlts ts rows us → Stretch (λ xs ys. ReadsMoreAlts xs rows ys) ts us
  more_alts_stretch (no_alt c) = token (λ us. no_alt c)
  more_alts_stretch (empty_alt m more) = next (reads_as (λ xs ys x. empty_alt m x) (more_alts_stretch more))
  more_alts_stretch (last_alt p a e c) = both (λ xs ys zs x y. last_alt x a y.1 c) (last (pat_stretch p)) (last (expr_stands e))
  more_alts_stretch (more_alts p a e m more) = three (λ xs ys zs vs x y z. more_alts x a y.1 m z) (last (pat_stretch p)) (last (expr_stands e)) (more_alts_stretch more)

  pub stmts_stretch : {ts us : List Token} {rows : Stmts} → ReadsStmts ts rows us → Stretch (λ xs ys. ReadsStmts xs rows ys) ts us
  stmts_stretch (stmts o more) = next (reads_as (λ xs ys x. stmts o x) (more_stmts_stretch more))

  pub more_stmts_stretch : {ts us : List Token} {rows : Stmts} → ReadsMoreStmts ts rows us → Stretch (λ xs ys. ReadsMoreStmts xs rows ys) ts us
  more_stmts_stretch (empty_stmt m more) = next (reads_as (λ xs ys x. empty_stmt m x) (more_stmts_stretch more))
  more_stmts_stretch (take_stmt p a e m more) = three (λ xs ys zs vs x y z. take_stmt x a y.1 m z) (last (pat_stretch p)) (last (expr_stands e)) (more_stmts_stretch more)
  more_stmts_stretch (let_stmt l bs m more) = next (both (λ xs ys zs x y. let_stmt l x m y) (last (binds_stretch bs)) (more_stmts_stretch more))
  more_stmts_stretch (do_stmt e m more) = both (λ xs ys zs x y. do_stmt x.1 m y) (last (expr_stands e)) (more_stmts_stretch more)
  more_stmts_stretch (last_stmt e c) = both (λ xs ys zs x y. last_stmt x.1 y) (expr_stands e) (closes_stretch c)

pub expr_stretch : {ts us : List Token} {e : Expr} → ReadsExpr ts e us → Stretch (λ xs ys. ReadsExpr xs e ys) ts us
expr_stretch r = stands (expr_stands r)

pub last_stretch : {ts us : List Token} {e : Expr} → ReadsLast ts e us → Stretch (λ xs ys. ReadsLast xs e ys) ts us
last_stretch r = stands (last_stands r)

pub open_stretch : {ts us : List Token} {e : Expr} → ReadsOpen ts e us → Stretch (λ xs ys. ReadsOpen xs e ys) ts us
open_stretch r = stands (open_stands r)

pub apply_stretch : {ts us : List Token} {e : Expr} → ReadsApply ts e us → Stretch (λ xs ys. ReadsApply xs e ys) ts us
apply_stretch r = stands (apply_stands r)

pub post_stretch : {ts us : List Token} {e : Expr} → ReadsPost ts e us → Stretch (λ xs ys. ReadsPost xs e ys) ts us
post_stretch r = stands (post_stands r)

pub atom_stretch : {ts us : List Token} {e : Expr} → ReadsAtom ts e us → Stretch (λ xs ys. ReadsAtom xs e ys) ts us
atom_stretch r = stands (atom_stands r)

pub equation_stretch : {ts us : List Token} {name : Name} {row : Equations} → ReadsEquation ts name row us → Stretch (λ xs ys. ReadsEquation xs name row ys) ts us
equation_stretch r = stands (equation_stands r)
