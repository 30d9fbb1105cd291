-- The reader of expressions takes nothing else: what a state says of the tokens before stays true with each token.
use Rattle.std.proofs.Common.{◌≡◌, ℕ, ◌+◌, ◌<◌, Bool, true, false, List, [], ◌∷◌, ◌++◌, length, Option, Some, None, refl, sym, subst, arith, zero, suc}
use Rattle.hb_base.specs.declared.name.Name.{Name}
use Rattle.hb_base.specs.declared.place.Place.{Place}
use Rattle.hb_tokens.specs.declared.token.Token.{Token}
use Rattle.hb_tokens.specs.declared.word.Word.TheVariants as word
use Rattle.hb_tree.specs.Patterns.{Pat, NoPats, MorePats}
use Rattle.hb_tree.specs.Expressions.{NoAlts}
use Rattle.hb_grammar.specs.Tokens.{IsWord, first_place, IsCloseBrace}
use Rattle.hb_grammar.specs.Patterns.{ReadsPat, ReadsApat, ReadsApats}
use Rattle.hb_grammar.specs.Expressions.{ReadsName, ReadsLeft, before as name_first, between, lambda, no_alt, empty_alt, empty_stmt, closing, empty_closing}
use Rattle.hb_grammar.specs.Expressions.ReadsName.{var}
use Rattle.hb_grammar.specs.Expressions.ReadsInfix.{op}
use Rattle.hb_grammar.specs.Patterns.{no_apat, apat_more}
use Rattle.hb_read_patterns.specs.declared.node.PatNode.{PatNode}
use Rattle.hb_read_patterns.specs.declared.reader.PatReader.{PatReader}
use Rattle.hb_read_patterns.specs.Moves.{pat_reader, apat_reader}
use Rattle.hb_read_expressions.specs.declared.node.ExprNode.{ExprNode}
use Rattle.hb_read_expressions.specs.declared.node.ExprNode.TheVariants as node
use Rattle.hb_read_expressions.specs.declared.frame.Begun.{Begun}
use Rattle.hb_read_expressions.specs.declared.frame.Frame.{Frame}
use Rattle.hb_read_expressions.specs.declared.frame.Frame.TheVariants as frame
use Rattle.hb_read_expressions.specs.declared.now.Purpose.{Purpose}
use Rattle.hb_read_expressions.specs.declared.now.Purpose.TheVariants.{ForLambda, ForRow, ForRight}
use Rattle.hb_read_expressions.specs.declared.now.Now.{Now}
use Rattle.hb_read_expressions.specs.declared.now.Now.TheVariants as now
use Rattle.hb_read_expressions.specs.Nodes.{put, put_pat}
use Rattle.hb_read_expressions.specs.declared.sort.Sort.{Sort}
use Rattle.hb_read_expressions.specs.declared.sort.Sort.TheVariants as sort
use Rattle.hb_grammar.specs.Reading.{at_start, after}
use Rattle.hb_grammar.specs.Reading.Runs.{stop, take as taking}
use Rattle.hb_grammar.specs.Patterns.{pattern}
use Rattle.hb_grammar.specs.Patterns as patterns
use Rattle.hb_read_patterns.specs.Nodes.{pat_nodes}
use Rattle.hb_read_patterns.specs.declared.node.PatNode.TheVariants as pat_node
use Rattle.hb_read_expressions.specs.Nodes.{wrapped}
use Rattle.hb_read_expressions.specs.declared.state.Core.{Core}
use Rattle.hb_read_expressions.specs.declared.state.State.{State}
use Rattle.hb_read_expressions.specs.States.{at}
use Rattle.hb_read_expressions.specs.Ends.{row_next}
use Rattle.hb_read_expressions.specs.Outside.{move_core}
use Rattle.hb_read_expressions.specs.Inside.{with_pats, in_pattern as going, if_done, end_params, next_param, move_param, row_infix, move_bind_start, move_row_var, move_row_left, move_row_open, alt_arrow, end_case, move_alt_start, move_alt_pat, stmt_arrow, move_stmt_pat}
use Rattle.hb_read_expressions.specs.Statements.{move_both, both, cut, pattern_alone, arrow_at, end_do, move_stmt_start}
use Rattle.hb_read_expressions.specs.Moves.{moved, move_state, move_alone}
use Rattle.hb_read_expressions.specs.Sorts.{sort_of}
use Rattle.hb_read_expressions.proofs.Params.{PatLaws}
use Rattle.hb_read_expressions.proofs.Heads.{head_cut, at_head as head_begins, core_keeps, pat_has, InHeadAfter}
use Rattle.hb_read_expressions.proofs.Closing.{Leads, core_leads, block_empty, block_none, where_whole, over, made_open_whole}
use Rattle.hb_read_expressions.proofs.Sorting.{Means, means}
use Rattle.hb_read_expressions.proofs.Standing.{made_open, MadeApats, made_apats, InOperand, InOpen, in_open, InAlts, in_alts, in_alt, InStmts, in_stmts, in_taken, in_statement, InRow, in_row, Root, Below, RowBelow, InLambda, in_lambda, InParams, in_params, LeftPat, left_pat, in_right, ForParams, InPattern, in_pattern, IsRowVar, is_row_var, IsRowOpen, is_row_open, is_row_op, IsRowLeft, is_row_left, is_row_quote, StandsAt, Beside, running, StandsBeside, Stands}

abbrev pub LeadsState : Root → List Token → Option State → List Token → Type 0
LeadsState root top None ts = Unit {0}
LeadsState root top (Some s) ts = Stands root top s ts

with_leads : (root : Root) (top : List Token) (pats : PatReader) (o : Option Core) (ts : List Token) → Leads root top o ts → LeadsState root top (with_pats pats o) ts
with_leads root top pats None ts l = tt
with_leads root top pats (Some core) ts l = record { read = l pats; side = tt }

-- a token in a pattern: it goes on, or something comes after it
going_leads : (root : Root) (top : List Token) (core : Core) (o : Option PatReader) (next : Option State) (ts : List Token) → ((r : PatReader) → o ≡ Some r → StandsAt root top core.last core.frames core.nodes r ts) → LeadsState root top next ts → LeadsState root top (going core o next) ts
going_leads root top core None next ts goes l = l
going_leads root top core (Some r) next ts goes l = record { read = goes r refl; side = tt }

done_leads : (root : Root) (top : List Token) (o : Option (List PatNode)) (f : List PatNode → Option State) (ts : List Token) → ((nodes : List PatNode) → o ≡ Some nodes → LeadsState root top (f nodes) ts) → LeadsState root top (if_done o f) ts
done_leads root top None f ts l = tt
done_leads root top (Some nodes) f ts l = l nodes refl

-- the right pattern of an equation is whole
data RightWhole (R : ℕ → List ExprNode → List Token → Type 0) (name : Name) (before : ℕ) : Place → ℕ → List ExprNode → List Token → Type 0 where
  right_whole : {p q : Pat} {out : List ExprNode} {ts0 ts : List Token} → R before out ts0 → ReadsLeft ts0 name (p ∷ q ∷ []) ts → RightWhole R name before (first_place ts0) 2 (put_pat q (put_pat p out)) ts

-- after so many simple patterns
abbrev AfterParams : Root → List Token → List Frame → Purpose → ℕ → List ExprNode → List Token → Type 0
AfterParams root top fs (ForLambda begun place) n out ts = (0 < n) × InLambda (Below root top fs) begun n place out ts
AfterParams root top fs (ForRow name place before) n out ts = InParams (RowBelow root top fs) name before n place out ts
AfterParams root top fs (ForRight name place before) n out ts = RightWhole (RowBelow root top fs) name before place n out ts

one_apat : (root : Root) (top : List Token) (fs : List Frame) (purpose : Purpose) (n : ℕ) (out : List ExprNode) (ts us : List Token) (p : Pat) → ForParams root top fs purpose n out ts → ReadsApat ts p us → AfterParams root top fs purpose (n + 1) (put_pat p out) us
one_apat root top fs (ForLambda begun place) n out ts us p (in_lambda w i make) a = (omega arith, in_lambda w i (λ ps vs more. make _ vs (apat_more a more)))
one_apat root top fs (ForRow name place before) n out ts us p (in_params r h make) a = in_params r h (λ ps vs more. make _ vs (apat_more a more))
one_apat root top fs (ForRight name place before) n out ts us p (in_right r b i) a = right_whole r (between b i a)

lambda_open : {B : List ExprNode → List Token → Type 0} {begun : Begun} {n : ℕ} {t s : Token} {out0 out : List ExprNode} {ts1 ts : List Token} → IsWord word.Backslash t → InOperand B begun out0 (t ∷ ts1) → IsWord word.RightArrow s → 0 < n → MadeApats ts1 out0 (s ∷ ts) out n → InOpen B begun t.place (node.Lambda t.place n) out ts
lambda_open w i m some (made_apats {ps = NoPats} a) = absurd (omega arith)
lambda_open w i m some (made_apats {ps = MorePats p ps} a) = in_open i (λ e us r. made_open (lambda w a m r))

row_open : {R : ℕ → List ExprNode → List Token → Type 0} {name : Name} {before n : ℕ} {s : Token} {place : Place} {out0 out : List ExprNode} {ts0 ts1 ts : List Token} → R before out0 ts0 → ReadsName ts0 place name ts1 → IsWord word.Equals s → MadeApats ts1 out0 (s ∷ ts) out n → InRow R name before (first_place ts0) n out ts
row_open r h m (made_apats a) = in_row r (name_first h a) m

params_leads : (root : Root) (top : List Token) (purpose : Purpose) (n : ℕ) (fs : List Frame) (out : List ExprNode) (t : Token) (x : Sort) (ts : List Token) → Means x t → AfterParams root top fs purpose n out (t ∷ ts) → Leads root top (end_params purpose n fs out x) ts
params_leads root top (ForLambda begun place) n fs out t sort.RightArrow ts m (some, in_lambda w i make) = λ pats. lambda_open w i m some (make NoPats (t ∷ ts) no_apat)
params_leads root top (ForLambda begun place) n fs out t x ts m l = tt
params_leads root top (ForRow name place before) n fs out t sort.Equals ts m (in_params r h make) = λ pats. row_open r h m (make NoPats (t ∷ ts) no_apat)
params_leads root top (ForRow name place before) n fs out t x ts m l = tt
params_leads root top (ForRight name place before) n fs out t sort.Equals ts m (right_whole r l) = λ pats. in_row r l m
params_leads root top (ForRight name place before) n fs out t x ts m l = tt

-- one more simple pattern, or what comes after them
next_param_leads : (root : Root) (top : List Token) (purpose : Purpose) (n : ℕ) (fs : List Frame) (out : List ExprNode) (pats : PatReader) (t : Token) (ts : List Token) → AfterParams root top fs purpose n out (t ∷ ts) → LeadsState root top (next_param purpose n fs out pats t) ts
next_param_leads root top (ForRight name place before) n fs out pats t ts l =
    with_leads root top pats (end_params (ForRight name place before) n fs out (sort_of t.kind)) ts (params_leads root top (ForRight name place before) n fs out t (sort_of t.kind) ts (means t) l)
next_param_leads root top (ForLambda begun place) n fs out pats t ts l =
    going_leads root top (at fs (now.Param (ForLambda begun place) n) out) (apat_reader.move apat_reader.start t) (with_pats pats (end_params (ForLambda begun place) n fs out (sort_of t.kind))) ts
    (λ r h. in_pattern l.1 (after at_start h) (λ nodes us runs. taking h runs))
    (with_leads root top pats (end_params (ForLambda begun place) n fs out (sort_of t.kind)) ts (params_leads root top (ForLambda begun place) n fs out t (sort_of t.kind) ts (means t) l))
next_param_leads root top (ForRow name place before) n fs out pats t ts l =
    going_leads root top (at fs (now.Param (ForRow name place before) n) out) (apat_reader.move apat_reader.start t) (with_pats pats (end_params (ForRow name place before) n fs out (sort_of t.kind))) ts
    (λ r h. in_pattern l (after at_start h) (λ nodes us runs. taking h runs))
    (with_leads root top pats (end_params (ForRow name place before) n fs out (sort_of t.kind)) ts (params_leads root top (ForRow name place before) n fs out t (sort_of t.kind) ts (means t) l))

-- the nodes of a pattern that was read
pat_out : (K : List ExprNode → Type 0) (out : List ExprNode) (nodes : List PatNode) (p : Pat) → nodes ≡ pat_nodes p → K (put_pat p out) → K (out ++ wrapped nodes)
pat_out K out nodes p same k = subst (λ n. K (out ++ wrapped n)) (sym same) k

param_leads : (laws : PatLaws) (root : Root) (top : List Token) (purpose : Purpose) (n : ℕ) (fs : List Frame) (out : List ExprNode) (pats : PatReader) (t : Token) (ts : List Token) → InPattern apat_reader pats (ForParams root top fs purpose n out) (t ∷ ts) → LeadsState root top (move_param purpose n fs out pats t) ts
param_leads laws root top purpose n fs out pats t ts (in_pattern {ts1 = ts1} k reached f) =
    going_leads root top (at fs (now.Param purpose n) out) (apat_reader.move pats t) (if_done (apat_reader.done pats) (λ nodes. next_param purpose (n + 1) fs (out ++ wrapped nodes) pats t)) ts
    (λ r h. in_pattern k (after reached h) (λ nodes us runs. f nodes us (taking h runs)))
    (done_leads root top (apat_reader.done pats) (λ nodes. next_param purpose (n + 1) fs (out ++ wrapped nodes) pats t) ts
    (λ nodes d. let a = laws.apat.sound (f nodes (t ∷ ts) (stop d)) in
    next_param_leads root top purpose (n + 1) fs (out ++ wrapped nodes) pats t ts
    (pat_out (λ o. AfterParams root top fs purpose (n + 1) o (t ∷ ts)) out nodes a.pat a.is (one_apat root top fs purpose n out ts1 (t ∷ ts) a.pat k a.reads))))

-- an operator after a left pattern
infix_leads : (root : Root) (top : List Token) (n : ℕ) (place : Place) (fs : List Frame) (out : List ExprNode) (t : Token) (x : Sort) (ts : List Token) → Means x t → LeftPat (RowBelow root top fs) n place out (t ∷ ts) → Leads root top (row_infix n place fs out x) ts
infix_leads root top n place fs out t (sort.Operator name) ts m (left_pat r a) = λ pats. in_right r a (op m)
infix_leads root top n place fs out t sort.Backquote ts m l = λ pats. is_row_quote m l
infix_leads root top n place fs out t x ts m l = tt

left_leads : (laws : PatLaws) (root : Root) (top : List Token) (n : ℕ) (place : Place) (fs : List Frame) (out : List ExprNode) (pats : PatReader) (t : Token) (ts : List Token) → IsRowLeft (RowBelow root top fs) n pats place out (t ∷ ts) → LeadsState root top (move_row_left n place fs out pats t) ts
left_leads laws root top n place fs out pats t ts (is_row_left {ts0 = ts0} r reached f) =
    going_leads root top (at fs (now.RowLeft n place) out) (apat_reader.move pats t) (if_done (apat_reader.done pats) (λ nodes. with_pats pats (row_infix n place fs (out ++ wrapped nodes) (sort_of t.kind)))) ts
    (λ r2 h. is_row_left r (after reached h) (λ nodes us runs. f nodes us (taking h runs)))
    (done_leads root top (apat_reader.done pats) (λ nodes. with_pats pats (row_infix n place fs (out ++ wrapped nodes) (sort_of t.kind))) ts
    (λ nodes d. let a = laws.apat.sound (f nodes (t ∷ ts) (stop d)) in
    with_leads root top pats (row_infix n place fs (out ++ wrapped nodes) (sort_of t.kind)) ts
    (infix_leads root top n place fs (out ++ wrapped nodes) t (sort_of t.kind) ts (means t)
    (pat_out (λ o. LeftPat (RowBelow root top fs) n place o (t ∷ ts)) out nodes a.pat a.is (left_pat r a.reads)))))

-- where an equation may begin
start_next : (root : Root) (top : List Token) (fs : List Frame) (n : ℕ) (out : List ExprNode) (t : Token) (x : Sort) (ts : List Token) → Means x t → RowBelow root top fs n out (t ∷ ts) → Leads root top (row_next fs n out x) ts
start_next root top [] n out t x ts m r = tt
start_next root top (frame.LetBinds begun place ∷ fs) n out t sort.Semicolon ts m r = λ pats. block_empty m r
start_next root top (frame.LetBinds begun place ∷ fs) n out t sort.CloseBrace ts m r = λ pats. block_none m r
start_next root top (frame.Where name place patterns first before ∷ fs) n out t sort.Semicolon ts m r = λ pats. block_empty m r
start_next root top (frame.Where name place patterns first before ∷ fs) n out t sort.CloseBrace ts m r = λ pats. where_whole (block_none m r)
start_next root top (frame.Block ∷ fs) n out t sort.Semicolon ts m (h, r) = λ pats. (h, block_empty m r)
start_next root top (frame.Block ∷ fs) n out t sort.CloseBrace ts m (h, r) = λ pats. over root top fs _ _ ts h (block_none m r)
start_next root top (f ∷ fs) n out t sort.Semicolon ts m r = absurd r
start_next root top (f ∷ fs) n out t sort.CloseBrace ts m r = absurd r
start_next root top (f ∷ fs) n out t x ts m r = tt

bind_leads : (root : Root) (top : List Token) (n : ℕ) (fs : List Frame) (out : List ExprNode) (pats : PatReader) (t : Token) (x : Sort) (ts : List Token) → Means x t → RowBelow root top fs n out (t ∷ ts) → LeadsState root top (move_bind_start n fs out pats t x) ts
bind_leads root top n fs out pats t (sort.Variable name) ts m r = record { read = is_row_var m r; side = tt }
bind_leads root top n fs out pats t sort.Open ts m r =
    going_leads root top (at fs (now.RowOpen n t.place) out) (apat_reader.move apat_reader.start t) None ts (λ z h. is_row_open m r (after at_start h) (λ nodes us runs. taking h runs)) tt
bind_leads root top n fs out pats t sort.Semicolon ts m r = with_leads root top pats (row_next fs n out sort.Semicolon) ts (start_next root top fs n out t sort.Semicolon ts m r)
bind_leads root top n fs out pats t sort.CloseBrace ts m r = with_leads root top pats (row_next fs n out sort.CloseBrace) ts (start_next root top fs n out t sort.CloseBrace ts m r)
bind_leads root top n fs out pats t x ts m r =
    going_leads root top (at fs (now.RowLeft n t.place) out) (apat_reader.move apat_reader.start t) None ts (λ z h. is_row_left r (after at_start h) (λ nodes us runs. taking h runs)) tt

var_leads : (root : Root) (top : List Token) (n : ℕ) (place : Place) (name : Name) (fs : List Frame) (out : List ExprNode) (pats : PatReader) (t : Token) (x : Sort) (ts : List Token) → Means x t → IsRowVar (RowBelow root top fs) n place name out (t ∷ ts) → LeadsState root top (move_row_var n place name fs out pats t x) ts
var_leads root top n place name fs out pats t (sort.Operator o) ts m (is_row_var v r) =
    let next = put out (node.Pat (pat_node.Var place name)) in
    with_leads root top pats (row_infix n place fs next (sort.Operator o)) ts (infix_leads root top n place fs next t (sort.Operator o) ts m (left_pat r (patterns.var v)))
var_leads root top n place name fs out pats t sort.Backquote ts m (is_row_var v r) =
    let next = put out (node.Pat (pat_node.Var place name)) in
    with_leads root top pats (row_infix n place fs next sort.Backquote) ts (infix_leads root top n place fs next t sort.Backquote ts m (left_pat r (patterns.var v)))
var_leads root top n place name fs out pats t x ts m (is_row_var v r) =
    next_param_leads root top (ForRow name place n) 0 fs out pats t ts (in_params r (var v) (λ ps us a. made_apats a))

open_leads : (laws : PatLaws) (root : Root) (top : List Token) (n : ℕ) (place : Place) (fs : List Frame) (out : List ExprNode) (pats : PatReader) (t : Token) (x : Sort) (ts : List Token) → Means x t → IsRowOpen (RowBelow root top fs) n pats place out (t ∷ ts) → LeadsState root top (move_row_open n place fs out pats t x) ts
open_leads laws root top n place fs out pats t (sort.Operator name) ts m (is_row_open o r reached f) = record { read = is_row_op o m r; side = tt }
open_leads laws root top n place fs out pats t x ts m (is_row_open o r reached f) = left_leads laws root top n place fs out pats t ts (is_row_left r reached f)

-- alternatives
case_leads : (root : Root) (top : List Token) (begun : Begun) (place : Place) (n : ℕ) (fs : List Frame) (out : List ExprNode) (t : Token) (ts : List Token) → IsCloseBrace t → InAlts (Below root top fs) begun place n out (t ∷ ts) → Leads root top (end_case begun place n fs out) ts
case_leads root top begun place zero fs out t ts m k = tt
case_leads root top begun place (suc n) fs out t ts m (in_alts i make) = λ pats. made_open_whole i (make NoAlts ts (no_alt m) (omega arith))

alt_start_leads : (root : Root) (top : List Token) (begun : Begun) (place : Place) (n : ℕ) (fs : List Frame) (out : List ExprNode) (pats : PatReader) (t : Token) (x : Sort) (ts : List Token) → Means x t → InAlts (Below root top fs) begun place n out (t ∷ ts) → LeadsState root top (move_alt_start begun place n fs out pats t x) ts
alt_start_leads root top begun place n fs out pats t sort.Semicolon ts m (in_alts i make) = record { read = in_alts i (λ all us more some. make all us (empty_alt m more) some); side = tt }
alt_start_leads root top begun place n fs out pats t sort.CloseBrace ts m k = with_leads root top pats (end_case begun place n fs out) ts (case_leads root top begun place n fs out t ts m k)
alt_start_leads root top begun place n fs out pats t x ts m k =
    going_leads root top (at fs (now.AltPat begun place n) out) (pat_reader.move pat_reader.start t) None ts (λ z h. in_pattern k (after at_start h) (λ nodes us runs. taking h runs)) tt

alt_arrow_leads : (root : Root) (top : List Token) (begun : Begun) (place : Place) (n : ℕ) (fs : List Frame) (out : List ExprNode) (p : Pat) (t : Token) (x : Sort) (ts ts1 : List Token) → Means x t → InAlts (Below root top fs) begun place n out ts1 → ReadsPat ts1 p (t ∷ ts) → Leads root top (alt_arrow begun place n fs (put_pat p out) x) ts
alt_arrow_leads root top begun place n fs out p t sort.RightArrow ts ts1 m k a = λ pats. in_alt a m k
alt_arrow_leads root top begun place n fs out p t x ts ts1 m k a = tt

alt_pat_leads : (laws : PatLaws) (root : Root) (top : List Token) (begun : Begun) (place : Place) (n : ℕ) (fs : List Frame) (out : List ExprNode) (pats : PatReader) (t : Token) (ts : List Token) → InPattern pat_reader pats (InAlts (Below root top fs) begun place n out) (t ∷ ts) → LeadsState root top (move_alt_pat begun place n fs out pats t) ts
alt_pat_leads laws root top begun place n fs out pats t ts (in_pattern {ts1 = ts1} k reached f) =
    going_leads root top (at fs (now.AltPat begun place n) out) (pat_reader.move pats t) (if_done (pat_reader.done pats) (λ nodes. with_pats pats (alt_arrow begun place n fs (out ++ wrapped nodes) (sort_of t.kind)))) ts
    (λ r h. in_pattern k (after reached h) (λ nodes us runs. f nodes us (taking h runs)))
    (done_leads root top (pat_reader.done pats) (λ nodes. with_pats pats (alt_arrow begun place n fs (out ++ wrapped nodes) (sort_of t.kind))) ts
    (λ nodes d. let a = laws.pat.sound (f nodes (t ∷ ts) (stop d)) in
    pat_out (λ o. LeadsState root top (with_pats pats (alt_arrow begun place n fs o (sort_of t.kind))) ts) out nodes a.pat a.is
    (with_leads root top pats (alt_arrow begun place n fs (put_pat a.pat out) (sort_of t.kind)) ts
    (alt_arrow_leads root top begun place n fs out a.pat t (sort_of t.kind) ts ts1 (means t) k a.reads))))

-- statements
stmt_arrow_leads : (root : Root) (top : List Token) (begun : Begun) (place : Place) (n : ℕ) (may_end : Bool) (fs : List Frame) (out : List ExprNode) (p : Pat) (t : Token) (x : Sort) (ts ts1 : List Token) → Means x t → InStmts (Below root top fs) begun place n may_end out ts1 → ReadsPat ts1 p (t ∷ ts) → Leads root top (stmt_arrow begun place n fs (put_pat p out) x) ts
stmt_arrow_leads root top begun place n may_end fs out p t sort.LeftArrow ts ts1 m k a = λ pats. in_taken a m k
stmt_arrow_leads root top begun place n may_end fs out p t x ts ts1 m k a = tt

-- after a statement's pattern, if it is whole
stmt_done_leads : (laws : PatLaws) (root : Root) (top : List Token) (begun : Begun) (place : Place) (n : ℕ) (fs : List Frame) (out : List ExprNode) (pats : PatReader) (t : Token) (ts : List Token) → InPattern pat_reader pats (λ ts1. (may_end : Bool) × InStmts (Below root top fs) begun place n may_end out ts1) (t ∷ ts) → LeadsState root top (if_done (pat_reader.done pats) (λ nodes. with_pats pats (stmt_arrow begun place n fs (out ++ wrapped nodes) (sort_of t.kind)))) ts
stmt_done_leads laws root top begun place n fs out pats t ts (in_pattern {ts1 = ts1} k reached f) =
    done_leads root top (pat_reader.done pats) (λ nodes. with_pats pats (stmt_arrow begun place n fs (out ++ wrapped nodes) (sort_of t.kind))) ts
    (λ nodes d. let a = laws.pat.sound (f nodes (t ∷ ts) (stop d)) in
    pat_out (λ o. LeadsState root top (with_pats pats (stmt_arrow begun place n fs o (sort_of t.kind))) ts) out nodes a.pat a.is
    (with_leads root top pats (stmt_arrow begun place n fs (put_pat a.pat out) (sort_of t.kind)) ts
    (stmt_arrow_leads root top begun place n k.0 fs out a.pat t (sort_of t.kind) ts ts1 (means t) k.1 a.reads)))

stmt_pat_leads : (laws : PatLaws) (root : Root) (top : List Token) (begun : Begun) (place : Place) (n : ℕ) (fs : List Frame) (out : List ExprNode) (pats : PatReader) (t : Token) (ts : List Token) → InPattern pat_reader pats (λ ts1. (may_end : Bool) × InStmts (Below root top fs) begun place n may_end out ts1) (t ∷ ts) → LeadsState root top (move_stmt_pat begun place n fs out pats t) ts
stmt_pat_leads laws root top begun place n fs out pats t ts (in_pattern k reached f) =
    going_leads root top (at fs (now.StmtPat begun place n) out) (pat_reader.move pats t) (if_done (pat_reader.done pats) (λ nodes. with_pats pats (stmt_arrow begun place n fs (out ++ wrapped nodes) (sort_of t.kind)))) ts
    (λ r h. in_pattern k (after reached h) (λ nodes us runs. f nodes us (taking h runs)))
    (stmt_done_leads laws root top begun place n fs out pats t ts (in_pattern k reached f))

-- at a statement's head
arrow_leads : (laws : PatLaws) (root : Root) (top : List Token) (core : Core) (pats : PatReader) (t : Token) (ts : List Token) → Beside root top core pats (t ∷ ts) → LeadsState root top (arrow_at (cut core.frames core.nodes) pats t) ts
arrow_leads laws root top core pats t ts (running h i p) =
    subst (λ o. LeadsState root top (arrow_at o pats t) ts) (sym (head_cut h core.frames core.nodes i))
    (stmt_done_leads laws root top h.begun h.place h.statements h.frames h.nodes pats t ts p)

some_of : {A : Type 0} {o : Option A} {a : A} → (K : Option A → Type 0) → o ≡ Some a → K o → K (Some a)
some_of K h k = subst K h k

both_by : (root : Root) (top : List Token) (core : Core) (pats : PatReader) (t : Token) (x : Sort) (ts : List Token) (o : Option Core) (p : Option PatReader) → Means x t → move_core core.last core.frames core.nodes t.place x ≡ o → pat_reader.move pats t ≡ p → Leads root top o ts → Beside root top core pats (t ∷ ts) → LeadsState root top (both core o pats p) ts
both_by root top core pats t x ts (Some c) None m e g l b = record { read = l pats; side = tt }
both_by root top core pats t x ts (Some c) (Some r) m e g l (running h i (in_pattern k reached f)) = record {
  read = l r;
  side = running h (some_of (InHeadAfter h) e (core_keeps core.last core.frames core.nodes t.place x (pat_has pats r t x m g) i)) (in_pattern k (after reached g) (λ nodes us runs. f nodes us (taking g runs)));
}
both_by root top core pats t x ts None None m e g l b = tt
both_by root top core pats t x ts None (Some r) m e g l (running h i (in_pattern k reached f)) =
    subst (λ o. LeadsState root top (pattern_alone r o) ts) (sym (head_cut h core.frames core.nodes i))
    (record { read = in_pattern k (after reached g) (λ nodes us runs. f nodes us (taking g runs)); side = tt })

both_leads : (laws : PatLaws) (root : Root) (top : List Token) (core : Core) (pats : PatReader) (t : Token) (x : Sort) (ts : List Token) → Means x t → StandsAt root top core.last core.frames core.nodes pats (t ∷ ts) → Beside root top core pats (t ∷ ts) → LeadsState root top (move_both core pats t x) ts
both_leads laws root top core pats t sort.LeftArrow ts m s b = arrow_leads laws root top core pats t ts b
both_leads laws root top core pats t x ts m s b =
    both_by root top core pats t x ts (move_core core.last core.frames core.nodes t.place x) (pat_reader.move pats t) m refl refl (core_leads root top core.last core.frames core.nodes pats t x ts m s) b

do_leads : (root : Root) (top : List Token) (begun : Begun) (place : Place) (n : ℕ) (may_end : Bool) (fs : List Frame) (out : List ExprNode) (t : Token) (ts : List Token) → IsCloseBrace t → InStmts (Below root top fs) begun place n may_end out (t ∷ ts) → Leads root top (end_do may_end begun place n fs out) ts
do_leads root top begun place n false fs out t ts m k = tt
do_leads root top begun place n true fs out t ts m (in_stmts i make end) = λ pats. made_open_whole i (end ts refl (closing m))

stmt_start_leads : (laws : PatLaws) (root : Root) (top : List Token) (begun : Begun) (place : Place) (n : ℕ) (may_end : Bool) (fs : List Frame) (out : List ExprNode) (pats : PatReader) (t : Token) (x : Sort) (ts : List Token) → Means x t → InStmts (Below root top fs) begun place n may_end out (t ∷ ts) → LeadsState root top (move_stmt_start begun place n may_end fs out pats t x) ts
stmt_start_leads laws root top begun place n may_end fs out pats t sort.Semicolon ts m (in_stmts i make end) =
    record { read = in_stmts i (λ ss us more. make ss us (empty_stmt m more)) (λ us h o. end us h (empty_closing m o)); side = tt }
stmt_start_leads laws root top begun place n may_end fs out pats t sort.CloseBrace ts m k = with_leads root top pats (end_do may_end begun place n fs out) ts (do_leads root top begun place n may_end fs out t ts m k)
stmt_start_leads laws root top begun place n may_end fs out pats t x ts m k =
    both_leads laws root top (at (frame.Statement begun place n (length out) ∷ fs) now.Want out) pat_reader.start t x ts m (in_statement k)
    (running (record { begun = begun; place = place; statements = n; frames = fs; nodes = out }) (head_begins begun place n fs out) (in_pattern (may_end, k) at_start (λ nodes us runs. runs)))

alone_leads : (laws : PatLaws) (root : Root) (top : List Token) (current : Now) (fs : List Frame) (out : List ExprNode) (pats : PatReader) (t : Token) (ts : List Token) → StandsAt root top current fs out pats (t ∷ ts) → LeadsState root top (move_alone current fs out pats t) ts
alone_leads laws root top (now.ParamStart purpose n) fs out pats t ts s =
    going_leads root top (at fs (now.Param purpose n) out) (apat_reader.move apat_reader.start t) None ts (λ r h. in_pattern s (after at_start h) (λ nodes us runs. taking h runs)) tt
alone_leads laws root top (now.Param purpose n) fs out pats t ts s = param_leads laws root top purpose n fs out pats t ts s
alone_leads laws root top (now.BindStart n) fs out pats t ts s = bind_leads root top n fs out pats t (sort_of t.kind) ts (means t) s
alone_leads laws root top (now.RowVar n place name) fs out pats t ts s = var_leads root top n place name fs out pats t (sort_of t.kind) ts (means t) s
alone_leads laws root top (now.RowOpen n place) fs out pats t ts s = open_leads laws root top n place fs out pats t (sort_of t.kind) ts (means t) s
alone_leads laws root top (now.RowName n place name) fs out pats t ts s = next_param_leads root top (ForRow name place n) 0 fs out pats t ts s
alone_leads laws root top (now.RowLeft n place) fs out pats t ts s = left_leads laws root top n place fs out pats t ts s
alone_leads laws root top (now.AltStart begun place n) fs out pats t ts s = alt_start_leads root top begun place n fs out pats t (sort_of t.kind) ts (means t) s
alone_leads laws root top (now.AltPat begun place n) fs out pats t ts s = alt_pat_leads laws root top begun place n fs out pats t ts s
alone_leads laws root top (now.StmtStart begun place n may_end) fs out pats t ts s = stmt_start_leads laws root top begun place n may_end fs out pats t (sort_of t.kind) ts (means t) s
alone_leads laws root top (now.StmtPat begun place n) fs out pats t ts s = stmt_pat_leads laws root top begun place n fs out pats t ts s
alone_leads laws root top current fs out pats t ts s =
    with_leads root top pats (move_core current fs out t.place (sort_of t.kind)) ts (core_leads root top current fs out pats t (sort_of t.kind) ts (means t) s)

state_leads : (laws : PatLaws) (root : Root) (top : List Token) (side : Bool) (core : Core) (pats : PatReader) (t : Token) (ts : List Token) → StandsAt root top core.last core.frames core.nodes pats (t ∷ ts) → StandsBeside root top side core pats (t ∷ ts) → LeadsState root top (move_state side core pats t) ts
state_leads laws root top false core pats t ts s b = alone_leads laws root top core.last core.frames core.nodes pats t ts s
state_leads laws root top true core pats t ts s b = both_leads laws root top core pats t (sort_of t.kind) ts (means t) s b

-- a token that is taken leads from what is true to what is true
pub step : (laws : PatLaws) (root : Root) (top : List Token) {s r : State} {t : Token} {ts : List Token} → moved s t ≡ Some r → Stands root top s (t ∷ ts) → Stands root top r ts
unfolding moved
step laws root top {s = s} {r = r} {t = t} {ts = ts} h stands = subst (λ o. LeadsState root top o ts) h (state_leads laws root top s.beside s.core s.pats t ts stands.read stands.side)
