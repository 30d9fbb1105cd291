-- Where parts end: what the reader of expressions says then of the tokens before.
use Rattle.std.proofs.Common.{◌≡◌, ℕ, ◌+◌, List, [], ◌∷◌, Option, Some, None, refl, sym, subst, arith}
use Rattle.hb_base.specs.declared.name.Name.{Name}
use Rattle.hb_base.specs.declared.place.Place.{Place}
use Rattle.hb_tokens.specs.declared.token.Token.{Token}
use Rattle.hb_tokens.specs.declared.word.Word.TheVariants as word
use Rattle.hb_tree.specs.Expressions.{Expr, Exprs, FieldExprs, NoFieldExprs, Alts, NoAlts, MoreAlts, Stmts, Binds, Equations}
use Rattle.hb_tree.specs.Expressions as tree
use Rattle.hb_grammar.specs.Tokens.{IsVar, IsCon, IsDot, first_place, IsOpenBrace, IsCloseBrace, IsSemicolon}
use Rattle.hb_grammar.specs.Expressions.{expression, ReadsInfix, operand, operands, last_operand, more_operands, closed, opened, let_expr, if_expr, case_expr, do_expr, no_argument, argument, ReadsPost, post_atom, con_alone, con_select, build, build_empty, Follows, nothing_follows, selected, updated, last_field, more_fields, atom_name, atom_number, atom_bits, atom_unit, atom_inside, atom_pair, binds, no_bind, empty_bind, last_bind, more_binds, plain, with_where, ReadsAlts, alts, ReadsMoreAlts, last_alt, more_alts, stmts, take_stmt, let_stmt, do_stmt, last_stmt, closing, empty_closing}
use Rattle.hb_grammar.specs.Expressions.ReadsApply.{applied}
use Rattle.hb_grammar.specs.Expressions.ReadsName.{var, op as op_name}
use Rattle.hb_grammar.specs.Expressions.ReadsInfix.{op, named}
use Rattle.hb_read_patterns.specs.declared.reader.PatReader.{PatReader}
use Rattle.hb_read_expressions.specs.declared.node.ExprNode.{ExprNode}
use Rattle.hb_read_expressions.specs.declared.node.ExprNode.TheVariants as node
use Rattle.hb_read_expressions.specs.declared.frame.Begun.{Begun}
use Rattle.hb_read_expressions.specs.declared.frame.Begun.TheVariants.{First, After}
use Rattle.hb_read_expressions.specs.declared.frame.Spot.{Spot}
use Rattle.hb_read_expressions.specs.declared.frame.Spot.TheVariants.{Head, Argument}
use Rattle.hb_read_expressions.specs.declared.frame.Target.TheVariants.{Build, Update}
use Rattle.hb_read_expressions.specs.declared.frame.Frame.{Frame}
use Rattle.hb_read_expressions.specs.declared.frame.Frame.TheVariants as frame
use Rattle.hb_read_expressions.specs.declared.now.Now.{Now}
use Rattle.hb_read_expressions.specs.declared.now.Now.TheVariants as now
use Rattle.hb_read_expressions.specs.Nodes.{put, put_expr, put_binds, put_rows, binds_from}
use Rattle.hb_read_expressions.specs.declared.sort.Sort.{Sort}
use Rattle.hb_read_expressions.specs.declared.sort.Sort.TheVariants as sort
use Rattle.hb_read_expressions.specs.declared.state.Core.{Core}
use Rattle.hb_read_expressions.specs.States.{first_of, run_at, end_run, one_more, begun_of, end_post}
use Rattle.hb_read_expressions.specs.Ends.{Ended, end_operand, settle, close, close_top, row_next}
use Rattle.hb_read_expressions.specs.Outside.{begin_post, begin_operand, after_post, or_else, move_core, let_statement}
use Rattle.hb_read_expressions.proofs.Sorting.{Means}
use Rattle.hb_read_expressions.proofs.Complete.{SomeAlt, one_row}
use Rattle.hb_read_expressions.proofs.Standing.{MadeExpr, made_expr, MadeOpen, made_open, MadePost, made_post, MadeBinds, made_binds, made_apats, InOperand, at_first, at_after, InPost, at_head, at_argument, IsPost, is_post, WholePost, whole_post, is_dotted, WholeApply, whole_apply, WholeLast, whole_last, WholeOpen, whole_open, WholeExpr, whole_expr, is_opened, is_op_name, is_second, is_con_name, is_quoted, is_quoted_name, in_fields, building, updating, is_field_name, in_field, InOpen, in_open, AfterWord, after_word, in_then, after_of, in_alts, in_alt, in_stmts, in_taken, in_statement, in_row, InWhere, in_where, InBlock, in_block, Root, a_block, AtRoot, Below, RowBelow, BraceBelow, in_lambda, in_params, left_pat, in_right, is_row_op, is_row_quote, is_row_quoted, RowWhole, row_whole, BlockWhole, block_whole, IsOver, is_over, StandsAt}

-- where a token leads, it leads to a core that stands
abbrev pub Leads : Root → List Token → Option Core → List Token → Type 0
Leads root top None ts = Unit {0}
Leads root top (Some core) ts = (pats : PatReader) → StandsAt root top core.last core.frames core.nodes pats ts

pub or_else_leads : (root : Root) (top : List Token) (a b : Option Core) (ts : List Token) → Leads root top a ts → Leads root top b ts → Leads root top (or_else a b) ts
or_else_leads root top None b ts p q = q
or_else_leads root top (Some core) b ts p q = p

-- the first token of a post
begin_leads : (root : Root) (top : List Token) (spot : Spot) (fs : List Frame) (out : List ExprNode) (t : Token) (x : Sort) (ts : List Token) → Means x t → InPost (Below root top fs) spot out (t ∷ ts) → Leads root top (begin_post spot fs out t.place x) ts
begin_leads root top spot fs out t (sort.Variable name) ts m i = λ pats. is_post i (λ d us f. post_atom (atom_name (var m)) f)
begin_leads root top spot fs out t (sort.Number k) ts m i = λ pats. is_post i (λ d us f. post_atom (atom_number m) f)
begin_leads root top spot fs out t (sort.Bits width k) ts m i = λ pats. is_post i (λ d us f. post_atom (atom_bits m) f)
begin_leads root top spot fs out t (sort.Constructor name) ts m i = λ pats. is_con_name m i
begin_leads root top spot fs out t sort.Open ts m i = λ pats. is_opened m i
begin_leads root top spot fs out t x ts m i = tt

-- the first token of an operand
operand_leads : (root : Root) (top : List Token) (begun : Begun) (fs : List Frame) (out : List ExprNode) (t : Token) (x : Sort) (ts : List Token) → Means x t → InOperand (Below root top fs) begun out (t ∷ ts) → Leads root top (begin_operand begun fs out t.place x) ts
operand_leads root top begun fs out t sort.Backslash ts m i = λ pats. in_lambda m i (λ ps us a. made_apats a)
operand_leads root top begun fs out t sort.Let ts m i = λ pats. after_word m i
operand_leads root top begun fs out t sort.If ts m i = λ pats. after_word m i
operand_leads root top begun fs out t sort.Case ts m i = λ pats. after_word m i
operand_leads root top begun fs out t sort.Do ts m i = λ pats. after_word m i
operand_leads root top begun fs out t x ts m i = begin_leads root top (Head begun) fs out t x ts m (at_head i)

-- a post ends
pub post_applies : {B : List ExprNode → List Token → Type 0} {spot : Spot} {stands : Place} {out : List ExprNode} {ts : List Token} → WholePost B spot stands out ts → WholeApply B (begun_of spot) stands (end_post spot stands out) ts
post_applies (whole_post (at_head i) p) = whole_apply i (λ e us a. applied p a)
post_applies (whole_post (at_argument i f) p) = whole_apply i (λ e us a. f e us (argument p a))

pub apply_last : {B : List ExprNode → List Token → Type 0} {begun : Begun} {stands : Place} {out : List ExprNode} {ts : List Token} → WholeApply B begun stands out ts → WholeLast B begun stands out ts
apply_last (whole_apply {ts = ts} {f = f} i g) = whole_last i (closed (g f ts no_argument))

pub open_last : {B : List ExprNode → List Token → Type 0} {begun : Begun} {stands : Place} {out : List ExprNode} {ts : List Token} → WholeOpen B begun stands out ts → WholeLast B begun stands out ts
open_last (whole_open i o) = whole_last i (opened o)

made_whole : {B : List ExprNode → List Token → Type 0} {out0 out : List ExprNode} {ts0 ts : List Token} {stands : Place} → B out0 ts0 → MadeExpr ts0 out0 ts out stands → WholeExpr B (first_place ts0) stands out ts
made_whole b (made_expr e) = whole_expr b e

pub last_expr : {B : List ExprNode → List Token → Type 0} {begun : Begun} {stands : Place} {out : List ExprNode} {ts : List Token} → WholeLast B begun stands out ts → WholeExpr B (first_of begun) (run_at begun stands) (end_run begun out) ts
last_expr (whole_last (at_first b) l) = whole_expr b (operand l)
last_expr (whole_last (at_after b run) l) = made_whole b (run _ _ _ (last_operand l))

pub made_open_whole : {B : List ExprNode → List Token → Type 0} {begun : Begun} {out0 out : List ExprNode} {ts0 ts : List Token} {stands : Place} → InOperand B begun out0 ts0 → MadeOpen ts0 out0 ts out stands → WholeOpen B begun stands out ts
made_open_whole i (made_open o) = whole_open i o

-- an operator after an operand
operator : {B : List ExprNode → List Token → Type 0} {begun : Begun} {stands place : Place} {name : Name} {out : List ExprNode} {ts us : List Token} → WholeApply B begun stands out ts → ReadsInfix ts place name us → InOperand B (one_more begun) (put out (node.Var place name)) us
operator (whole_apply {ts = ts} {f = f} (at_first b) g) i = at_after b (λ es os us r. made_expr (operands (g f ts no_argument) i r))
operator (whole_apply {ts = ts} {f = f} (at_after b run) g) i = at_after b (λ es os us r. run _ _ _ (more_operands (g f ts no_argument) i r))

argument_post : {B : List ExprNode → List Token → Type 0} {begun : Begun} {stands : Place} {out : List ExprNode} {ts : List Token} → WholeApply B begun stands out ts → InPost B (Argument begun) out ts
argument_post (whole_apply i g) = at_argument i g

abbrev WholeEnded : Root → List Token → Ended → List Token → Type 0
WholeEnded root top e ts = WholeExpr (Below root top e.frames) e.first e.stands e.nodes ts

right_end : {B : List ExprNode → List Token → Type 0} {begun : Begun} {place first stands : Place} {last : ExprNode} {out : List ExprNode} {ts : List Token} → WholeExpr (InOpen B begun place last) first stands out ts → WholeExpr B (first_of begun) (run_at begun place) (end_run begun (put out last)) ts
right_end (whole_expr {ts = ts} {e = e} (in_open i make) d) = last_expr (open_last (made_open_whole i (make e ts d)))

-- with an expression those end that are open to the right
pub settle_whole : (root : Root) (top : List Token) (fs : List Frame) (first stands : Place) (out : List ExprNode) (ts : List Token) → WholeExpr (Below root top fs) first stands out ts → WholeEnded root top (settle fs first stands out) ts
settle_whole root top [] first stands out ts w = w
settle_whole root top (frame.Lambda begun place n ∷ fs) first stands out ts w = settle_whole root top fs _ _ _ ts (right_end w)
settle_whole root top (frame.LetBody begun place n ∷ fs) first stands out ts w = settle_whole root top fs _ _ _ ts (right_end w)
settle_whole root top (frame.Else begun place ∷ fs) first stands out ts w = settle_whole root top fs _ _ _ ts (right_end w)
settle_whole root top (frame.Bracket spot place ∷ fs) first stands out ts w = w
settle_whole root top (frame.Second spot place ∷ fs) first stands out ts w = w
settle_whole root top (frame.Field spot begins target n place name ∷ fs) first stands out ts w = w
settle_whole root top (frame.LetBinds begun place ∷ fs) first stands out ts w = w
settle_whole root top (frame.If begun place ∷ fs) first stands out ts w = w
settle_whole root top (frame.Then begun place ∷ fs) first stands out ts w = w
settle_whole root top (frame.Case begun place ∷ fs) first stands out ts w = w
settle_whole root top (frame.Alternative begun place n ∷ fs) first stands out ts w = w
settle_whole root top (frame.Row name place n m ∷ fs) first stands out ts w = w
settle_whole root top (frame.Where name place n f m ∷ fs) first stands out ts w = w
settle_whole root top (frame.Block ∷ fs) first stands out ts w = w
settle_whole root top (frame.Statement begun place n mark ∷ fs) first stands out ts w = w
settle_whole root top (frame.Taken begun place n ∷ fs) first stands out ts w = w

made_is_post : {B : List ExprNode → List Token → Type 0} {spot : Spot} {out0 out : List ExprNode} {ts0 ts : List Token} → InPost B spot out0 ts0 → MadePost ts0 out0 (first_place ts0) ts out → IsPost B spot (first_place ts0) (first_place ts0) out ts
made_is_post {B = B} {spot = spot} {out0 = out0} {ts0 = ts0} {ts = ts} i (made_post {e = e} same goes) =
    subst (λ p. IsPost B spot (first_place ts0) p (put_expr e out0) ts) (sym same) (is_post i goes)

-- blocks of equations
made_block : {O : List ExprNode → List Token → Type 0} {n : ℕ} {out0 out : List ExprNode} {ts0 ts : List Token} → O out0 ts0 → MadeBinds ts0 out0 ts out n → BlockWhole O n out ts
made_block o (made_binds b) = block_whole o b

block_more : {O : List ExprNode → List Token → Type 0} {n : ℕ} {out : List ExprNode} {t : Token} {ts : List Token} → IsSemicolon t → RowWhole (InBlock O) n out (t ∷ ts) → InBlock O n out ts
block_more {O = O} m (row_whole {n = n} {name = name} {row = row} {out = out} {ts0 = ts1} (in_block {out0 = out0} {ts0 = ts0} o make) e) =
    in_block o (λ bs us more. subst (λ k. MadeBinds ts0 out0 us (put_binds bs (put_rows name (first_place ts1) row out)) (binds_from k bs)) (one_row e n) (make _ us (more_binds e m more)))

block_last : {O : List ExprNode → List Token → Type 0} {n : ℕ} {out : List ExprNode} {t : Token} {ts : List Token} → IsCloseBrace t → RowWhole (InBlock O) n out (t ∷ ts) → BlockWhole O n out ts
block_last {O = O} {ts = ts} m (row_whole {n = n} {name = name} {row = row} {out = out} {ts0 = ts1} (in_block {out0 = out0} {ts0 = ts0} o make) e) =
    made_block o (subst (λ k. MadeBinds ts0 out0 ts (put_rows name (first_place ts1) row out) k) (one_row e n) (make _ ts (last_bind e m)))

pub block_empty : {O : List ExprNode → List Token → Type 0} {n : ℕ} {out : List ExprNode} {t : Token} {ts : List Token} → IsSemicolon t → InBlock O n out (t ∷ ts) → InBlock O n out ts
block_empty m (in_block o make) = in_block o (λ bs us more. make bs us (empty_bind m more))

pub block_none : {O : List ExprNode → List Token → Type 0} {n : ℕ} {out : List ExprNode} {t : Token} {ts : List Token} → IsCloseBrace t → InBlock O n out (t ∷ ts) → BlockWhole O n out ts
block_none {ts = ts} m (in_block o make) = made_block o (make _ ts (no_bind m))

block_start : {O : List ExprNode → List Token → Type 0} {out : List ExprNode} (t : Token) {ts : List Token} → IsOpenBrace t → O out (t ∷ ts) → InBlock O 0 out ts
block_start t m o = in_block o (λ bs us more. made_binds (binds m more))

pub where_whole : {R : ℕ → List ExprNode → List Token → Type 0} {name : Name} {n patterns count : ℕ} {place first : Place} {out : List ExprNode} {ts : List Token} → BlockWhole (InWhere R name n place patterns first) count out ts → RowWhole R (n + 1) (put out (node.Row name place patterns first count)) ts
where_whole (block_whole (in_where r l q e w) b) = row_whole r (with_where l q e w b)

pub over : (root : Root) (top : List Token) (fs : List Frame) (n : ℕ) (out : List ExprNode) (ts : List Token) → fs ≡ [] → BlockWhole (AtRoot root top a_block) n out ts → IsOver root top fs n out ts
over root top fs n out ts h b = subst (λ f. IsOver root top f n out ts) (sym h) (is_over b)

-- an equation is whole: `;` or `}`
pub next_leads : (root : Root) (top : List Token) (fs : List Frame) (n : ℕ) (out : List ExprNode) (t : Token) (x : Sort) (ts : List Token) → Means x t → RowWhole (RowBelow root top fs) n out (t ∷ ts) → Leads root top (row_next fs n out x) ts
next_leads root top [] n out t x ts m r = tt
next_leads root top (frame.LetBinds begun place ∷ fs) n out t sort.Semicolon ts m r = λ pats. block_more m r
next_leads root top (frame.LetBinds begun place ∷ fs) n out t sort.CloseBrace ts m r = λ pats. block_last m r
next_leads root top (frame.Where name place patterns first before ∷ fs) n out t sort.Semicolon ts m r = λ pats. block_more m r
next_leads root top (frame.Where name place patterns first before ∷ fs) n out t sort.CloseBrace ts m r = λ pats. where_whole (block_last m r)
next_leads root top (frame.Block ∷ fs) n out t sort.Semicolon ts m (row_whole (h, r) e) = λ pats. (h, block_more m (row_whole r e))
next_leads root top (frame.Block ∷ fs) n out t sort.CloseBrace ts m (row_whole (h, r) e) = λ pats. over root top fs _ _ ts h (block_last m (row_whole r e))
next_leads root top (f ∷ fs) n out t sort.Semicolon ts m (row_whole r e) = absurd r
next_leads root top (f ∷ fs) n out t sort.CloseBrace ts m (row_whole r e) = absurd r
next_leads root top (f ∷ fs) n out t x ts m r = tt

-- a whole expression, and a token that ends it
close_leads : (root : Root) (top : List Token) (fs : List Frame) (first stands : Place) (out : List ExprNode) (t : Token) (x : Sort) (ts : List Token) → Means x t → WholeExpr (Below root top fs) first stands out (t ∷ ts) → Leads root top (close_top fs first stands out x) ts
close_leads root top [] first stands out t x ts m w = tt
close_leads root top (frame.Bracket spot place ∷ fs) first stands out t sort.Close ts m (whole_expr (is_opened o i) e) = λ pats. is_post i (λ d us f. post_atom (atom_inside o e m) f)
close_leads root top (frame.Bracket spot place ∷ fs) first stands out t sort.Comma ts m (whole_expr (is_opened o i) e) = λ pats. is_second o e m i
close_leads root top (frame.Bracket spot place ∷ fs) first stands out t x ts m w = tt
close_leads root top (frame.Second spot place ∷ fs) first stands out t sort.Close ts m (whole_expr (is_second o a c i) e) = λ pats. is_post i (λ d us f. post_atom (atom_pair o a c e m) f)
close_leads root top (frame.Second spot place ∷ fs) first stands out t x ts m w = tt
close_leads root top (frame.Field spot begins target n place name ∷ fs) first stands out t sort.Bar ts m (whole_expr (in_field v q (in_fields i make)) e) = λ pats. in_fields i (λ all r us fl c. make _ r us (more_fields v q e m fl) c)
close_leads root top (frame.Field spot begins target n place name ∷ fs) first stands out t sort.CloseSquare ts m (whole_expr (in_field v q (in_fields i make)) e) = λ pats. made_is_post i (make _ t ts (last_field v q e) m)
close_leads root top (frame.Field spot begins target n place name ∷ fs) first stands out t x ts m w = tt
close_leads root top (frame.Lambda begun place n ∷ fs) first stands out t x ts m w = tt
close_leads root top (frame.LetBody begun place n ∷ fs) first stands out t x ts m w = tt
close_leads root top (frame.Else begun place ∷ fs) first stands out t x ts m w = tt
close_leads root top (frame.LetBinds begun place ∷ fs) first stands out t x ts m w = tt
close_leads root top (frame.If begun place ∷ fs) first stands out t sort.Then ts m (whole_expr (after_word w i) e) = λ pats. in_then w e m i
close_leads root top (frame.If begun place ∷ fs) first stands out t x ts m w = tt
close_leads root top (frame.Then begun place ∷ fs) first stands out t sort.Else ts m (whole_expr (in_then w c h i) e) = λ pats. in_open i (λ d us b. made_open (if_expr w c h e m b))
close_leads root top (frame.Then begun place ∷ fs) first stands out t x ts m w = tt
close_leads root top (frame.Case begun place ∷ fs) first stands out t sort.Of ts m (whole_expr (after_word w i) e) = λ pats. after_of w e m i
close_leads root top (frame.Case begun place ∷ fs) first stands out t x ts m w = tt
close_leads root top (frame.Alternative begun place n ∷ fs) first stands out t sort.Semicolon ts m (whole_expr (in_alt p a (in_alts i make)) e) = λ pats. in_alts i (λ all us more some. make _ us (more_alts p a e m more) tt)
close_leads root top (frame.Alternative begun place n ∷ fs) first stands out t sort.CloseBrace ts m (whole_expr (in_alt p a (in_alts i make)) e) = λ pats. made_open_whole i (make _ ts (last_alt p a e m) tt)
close_leads root top (frame.Alternative begun place n ∷ fs) first stands out t x ts m w = tt
close_leads root top (frame.Row name place n before ∷ fs) first stands out t sort.Where ts m (whole_expr (in_row r l q) e) = λ pats. in_where r l q e m
close_leads root top (frame.Row name place n before ∷ fs) first stands out t sort.Semicolon ts m (whole_expr (in_row r l q) e) = next_leads root top fs _ _ t sort.Semicolon ts m (row_whole r (plain l q e))
close_leads root top (frame.Row name place n before ∷ fs) first stands out t sort.CloseBrace ts m (whole_expr (in_row r l q) e) = next_leads root top fs _ _ t sort.CloseBrace ts m (row_whole r (plain l q e))
close_leads root top (frame.Row name place n before ∷ fs) first stands out t x ts m w = tt
close_leads root top (frame.Where name place n f before ∷ fs) first stands out t x ts m w = tt
close_leads root top (frame.Block ∷ fs) first stands out t x ts m w = tt
close_leads root top (frame.Statement begun place n mark ∷ fs) first stands out t sort.Semicolon ts m (whole_expr (in_statement (in_stmts i make end)) e) =
    λ pats. in_stmts i (λ ss us more. make _ us (do_stmt e m more)) (λ us h o. make _ us (last_stmt e (empty_closing m o)))
close_leads root top (frame.Statement begun place n mark ∷ fs) first stands out t sort.CloseBrace ts m (whole_expr (in_statement (in_stmts i make end)) e) =
    λ pats. made_open_whole i (make _ ts (last_stmt e (closing m)))
close_leads root top (frame.Statement begun place n mark ∷ fs) first stands out t x ts m w = tt
close_leads root top (frame.Taken begun place n ∷ fs) first stands out t sort.Semicolon ts m (whole_expr (in_taken p a (in_stmts i make end)) e) =
    λ pats. in_stmts i (λ ss us more. make _ us (take_stmt p a e m more)) (λ us h o. absurd (cc))
close_leads root top (frame.Taken begun place n ∷ fs) first stands out t x ts m w = tt

-- a whole post, and the next token
after_post_leads : (root : Root) (top : List Token) (spot : Spot) (stands : Place) (fs : List Frame) (out : List ExprNode) (t : Token) (x : Sort) (ts : List Token) → Means x t → WholePost (Below root top fs) spot stands out (t ∷ ts) → Leads root top (after_post spot stands fs out t.place x) ts
after_post_leads root top spot stands fs out t (sort.Operator name) ts m w = λ pats. operator (post_applies w) (op m)
after_post_leads root top spot stands fs out t sort.Backquote ts m w = λ pats. is_quoted m (post_applies w)
after_post_leads root top spot stands fs out t x ts m w =
    let o = end_post spot stands out in
    let e = end_operand fs (begun_of spot) stands o in
    or_else_leads root top (begin_post (Argument (begun_of spot)) fs o t.place x) (close e x) ts
    (begin_leads root top (Argument (begun_of spot)) fs o t x ts m (argument_post (post_applies w)))
    (close_leads root top e.frames e.first e.stands e.nodes t x ts m (settle_whole root top fs _ _ _ (t ∷ ts) (last_expr (apply_last (post_applies w)))))

alts_read : {t : Token} {ts us : List Token} (all : Alts) → IsOpenBrace t → ReadsMoreAlts ts all us → SomeAlt 0 all → ReadsAlts (t ∷ ts) all us
alts_read NoAlts h more some = absurd (omega arith)
alts_read (MoreAlts p e all) h more some = alts h more

selects : {p : Place} {e d : Expr} {t s : Token} {ts us vs : List Token} {name : Name} → ts ≡ s ∷ us → IsDot t → IsVar name s → Follows p (expression p (tree.Select e name)) us d vs → Follows p e (t ∷ ts) d vs
selects {p = p} {e = e} {d = d} {t = t} {vs = vs} same m v f = subst (λ z. Follows p e (t ∷ z) d vs) (sym same) (selected m v f)

con_selects : {c t s : Token} {ts us vs : List Token} {name field : Name} {d : Expr} → ts ≡ s ∷ us → IsCon name c → IsDot t → IsVar field s → Follows c.place (expression c.place (tree.Select (expression c.place (tree.Con name)) field)) us d vs → ReadsPost (c ∷ t ∷ ts) d vs
con_selects {c = c} {t = t} {vs = vs} {d = d} same h m v f = subst (λ z. ReadsPost (c ∷ t ∷ z) d vs) (sym same) (con_select h m v f)

let_leads : (root : Root) (top : List Token) (fs : List Frame) (begun : Begun) (place : Place) (n : ℕ) (out : List ExprNode) (t : Token) (ts : List Token) → IsSemicolon t → BlockWhole (AfterWord (Below root top fs) word.Let begun place) n out (t ∷ ts) → Leads root top (let_statement fs begun n out) ts
let_leads root top (frame.Statement begun place n mark ∷ fs) (First p) let_place k out t ts m (block_whole (after_word w (at_first (in_statement (in_stmts i make end)))) b) =
    λ pats. in_stmts i (λ ss us more. make _ us (let_stmt w b m more)) (λ us h o. absurd (cc))
let_leads root top (frame.Statement begun place n mark ∷ fs) (After p c) let_place k out t ts m w = tt
let_leads root top fs begun place n out t ts m w = tt

brace_leads : (root : Root) (top : List Token) (fs : List Frame) (out : List ExprNode) (t : Token) (ts : List Token) → IsOpenBrace t → BraceBelow root top fs out (t ∷ ts) → RowBelow root top fs 0 out ts
brace_leads root top (frame.LetBinds begun place ∷ fs) out t ts m b = block_start t m b
brace_leads root top (frame.Where name place patterns first before ∷ fs) out t ts m b = block_start t m b
brace_leads root top (frame.Block ∷ []) out t ts m b = (refl, block_start t m b)
brace_leads root top fs out t ts m b = absurd b

-- a token outside patterns
pub core_leads : (root : Root) (top : List Token) (current : Now) (fs : List Frame) (out : List ExprNode) (pats : PatReader) (t : Token) (x : Sort) (ts : List Token) → Means x t → StandsAt root top current fs out pats (t ∷ ts) → Leads root top (move_core current fs out t.place x) ts
core_leads root top now.Want fs out pats t x ts m b = operand_leads root top (First t.place) fs out t x ts m (at_first b)
core_leads root top (now.Operand begun) fs out pats t x ts m i = operand_leads root top begun fs out t x ts m i
core_leads root top (now.Post spot first stands) fs out pats t sort.Dot ts m (is_post i f) = λ p. is_dotted i (λ s d us vs name same v g. f d vs (selects same m v g))
core_leads root top (now.Post spot first stands) fs out pats t sort.OpenSquare ts m (is_post i f) = λ p. (in_fields i (λ all r us fl c. made_post refl (λ d vs g. f d vs (updated m fl c g))), updating)
core_leads root top (now.Post spot first stands) fs out pats t x ts m (is_post {e = e} i f) = after_post_leads root top spot stands fs out t x ts m (whole_post i (f e (t ∷ ts) nothing_follows))
core_leads root top (now.Con spot place name) fs out pats t sort.Dot ts m (is_con_name h i) = λ p. is_dotted i (λ s d us vs field same v g. con_selects same h m v g)
core_leads root top (now.Con spot place name) fs out pats t sort.OpenSquare ts m (is_con_name h i) = λ p. (in_fields i (λ all r us fl c. made_post refl (λ d vs g. build h m fl c g)), building h m i)
core_leads root top (now.Con spot place name) fs out pats t x ts m (is_con_name h i) = after_post_leads root top spot place fs (put out (node.Con place name)) t x ts m (whole_post i (con_alone h))
core_leads root top (now.Sealed spot stands) fs out pats t x ts m w = after_post_leads root top spot stands fs out t x ts m w
core_leads root top (now.Dotted spot first) fs out pats t (sort.Variable name) ts m (is_dotted i f) = λ p. is_post i (λ d us g. f t d ts us name refl m g)
core_leads root top (now.Dotted spot first) fs out pats t x ts m w = tt
core_leads root top (now.Opened spot bracket) fs out pats t sort.Close ts m (is_opened o i) = λ p. is_post i (λ d us f. post_atom (atom_unit o m) f)
core_leads root top (now.Opened spot bracket) fs out pats t (sort.Operator name) ts m (is_opened o i) = λ p. is_op_name o m i
core_leads root top (now.Opened spot bracket) fs out pats t x ts m o = operand_leads root top (First t.place) (frame.Bracket spot bracket ∷ fs) out t x ts m (at_first o)
core_leads root top (now.OpName spot bracket name) fs out pats t sort.Close ts m (is_op_name o h i) = λ p. is_post i (λ d us f. post_atom (atom_name (op_name o h m)) f)
core_leads root top (now.OpName spot bracket name) fs out pats t x ts m w = tt
core_leads root top (now.Quoted begun) fs out pats t (sort.Variable name) ts m (is_quoted h w) = λ p. is_quoted_name h m w
core_leads root top (now.Quoted begun) fs out pats t x ts m w = tt
core_leads root top (now.QuotedName begun place name) fs out pats t sort.Backquote ts m (is_quoted_name h v w) = λ p. operator w (named h v m)
core_leads root top (now.QuotedName begun place name) fs out pats t x ts m w = tt
core_leads root top (now.FirstField spot begins (Build con)) fs out pats t sort.CloseSquare ts m (f, building h s i) = λ p. whole_post i (build_empty h s m)
core_leads root top (now.FirstField spot begins (Build con)) fs out pats t (sort.Variable name) ts m (f, b) = λ p. is_field_name m f
core_leads root top (now.FirstField spot begins (Build con)) fs out pats t x ts m w = tt
core_leads root top (now.FirstField spot begins Update) fs out pats t (sort.Variable name) ts m (f, b) = λ p. is_field_name m f
core_leads root top (now.FirstField spot begins Update) fs out pats t x ts m w = tt
core_leads root top (now.NextField spot begins target n) fs out pats t (sort.Variable name) ts m f = λ p. is_field_name m f
core_leads root top (now.NextField spot begins target n) fs out pats t x ts m f = tt
core_leads root top (now.FieldName spot begins target n place name) fs out pats t sort.Equals ts m (is_field_name v f) = λ p. in_field v m f
core_leads root top (now.FieldName spot begins target n place name) fs out pats t x ts m f = tt
core_leads root top (now.Whole begun stands) fs out pats t x ts m w =
    let e = end_operand fs begun stands out in
    close_leads root top e.frames e.first e.stands e.nodes t x ts m (settle_whole root top fs _ _ _ (t ∷ ts) (last_expr (open_last w)))
core_leads root top now.BindsBrace fs out pats t sort.OpenBrace ts m b = λ p. brace_leads root top fs out t ts m b
core_leads root top now.BindsBrace fs out pats t x ts m b = tt
core_leads root top (now.RowOp n place name) fs out pats t sort.Close ts m (is_row_op o h r) = λ p. in_params r (op_name o h m) (λ ps us a. made_apats a)
core_leads root top (now.RowOp n place name) fs out pats t x ts m r = tt
core_leads root top (now.RowQuote n place) fs out pats t (sort.Variable name) ts m (is_row_quote h l) = λ p. is_row_quoted h m l
core_leads root top (now.RowQuote n place) fs out pats t x ts m l = tt
core_leads root top (now.RowQuoted n place name) fs out pats t sort.Backquote ts m (is_row_quoted h v (left_pat r a)) = λ p. in_right r a (named h v m)
core_leads root top (now.RowQuoted n place name) fs out pats t x ts m l = tt
core_leads root top (now.RowEnd n) fs out pats t x ts m r = next_leads root top fs n out t x ts m r
core_leads root top (now.LetIn begun place n) fs out pats t sort.In ts m (block_whole (after_word w i) b) = λ p. in_open i (λ e us r. made_open (let_expr w b m r))
core_leads root top (now.LetIn begun place n) fs out pats t sort.Semicolon ts m w = let_leads root top fs begun place n out t ts m w
core_leads root top (now.LetIn begun place n) fs out pats t x ts m w = tt
core_leads root top (now.CaseBrace begun place) fs out pats t sort.OpenBrace ts m (after_of w e o i) = λ p. in_alts i (λ all us more some. made_open (case_expr w e o (alts_read all m more some)))
core_leads root top (now.CaseBrace begun place) fs out pats t x ts m w = tt
core_leads root top (now.DoBrace begun place) fs out pats t sort.OpenBrace ts m (after_word w i) = λ p. in_stmts i (λ ss us more. made_open (do_expr w (stmts m more))) (λ us h o. absurd (cc))
core_leads root top (now.DoBrace begun place) fs out pats t x ts m w = tt
core_leads root top current fs out pats t x ts m w = tt
