-- Each state that is reached can be completed.
use Rattle.std.proofs.Common.{ℕ, ◌+◌, Bool, true, false, List, [], ◌∷◌, ◌++◌, refl, sym, subst}
use Rattle.hb_base.specs.declared.name.Name.{Name}
use Rattle.hb_base.specs.declared.place.Place.{Place}
use Rattle.hb_tokens.specs.declared.token.Token.{Token}
use Rattle.hb_tokens.specs.declared.word.Word.TheVariants as word
use Rattle.hb_tree.specs.Patterns.{Pat, Pats, NoPats, MorePats}
use Rattle.hb_grammar.specs.Patterns.{ReadsPat, ReadsApat, ReadsApats}
use Rattle.hb_read_patterns.specs.declared.reader.PatReader.{PatReader}
use Rattle.hb_read_patterns.specs.Moves.{pat_reader, apat_reader}
use Rattle.hb_read_patterns.proofs.Runs.{runs_longer}
use Rattle.hb_read_expressions.specs.declared.node.ExprNode.{ExprNode}
use Rattle.hb_read_expressions.specs.declared.node.ExprNode.TheVariants as node
use Rattle.hb_read_expressions.specs.declared.frame.Begun.{Begun}
use Rattle.hb_read_expressions.specs.declared.frame.Spot.{Spot}
use Rattle.hb_read_expressions.specs.declared.frame.Target.{Target}
use Rattle.hb_read_expressions.specs.declared.frame.Frame.{Frame}
use Rattle.hb_read_expressions.specs.declared.frame.Frame.TheVariants as frame
use Rattle.hb_read_expressions.specs.declared.now.Purpose.{Purpose}
use Rattle.hb_read_expressions.specs.declared.now.Purpose.TheVariants.{ForLambda, ForRow, ForRight}
use Rattle.hb_read_expressions.specs.declared.now.Now.{Now}
use Rattle.hb_read_expressions.specs.declared.now.Now.TheVariants as now
use Rattle.hb_read_expressions.specs.Nodes.{put, put_expr, put_pat}
use Rattle.hb_read_expressions.specs.declared.sort.Sort.TheVariants as sort
use Rattle.hb_grammar.specs.Patterns.{pattern}
use Rattle.hb_grammar.specs.Patterns as patterns
use Rattle.hb_read_expressions.specs.Nodes.{wrapped}
use Rattle.hb_read_expressions.specs.declared.state.Core.{Core}
use Rattle.hb_read_expressions.specs.declared.state.State.{State}
use Rattle.hb_read_expressions.specs.States.{run_at, first_of, end_run, one_more, at, state}
use Rattle.hb_read_expressions.specs.Ends.{target_node}
use Rattle.hb_read_expressions.specs.Moves.{moved, done, expr_start, equation_start, binds_start, expr_reader, equation_reader, binds_reader}
use Rattle.hb_read_expressions.proofs.Standing.{IsPost, is_post, WholePost, whole_post, IsDotted, is_dotted, WholeApply, whole_apply, WholeOpen, whole_open, IsOpName, is_op_name, IsConName, is_con_name, IsQuoted, is_quoted, IsQuotedName, is_quoted_name, IsFieldName, is_field_name, AfterWord, AfterOf, after_of, Root, an_expr, an_equation, a_block, Below, RowBelow, InLambda, in_lambda, InParams, in_params, LeftPat, left_pat, InRight, in_right, ForParams, in_pattern, IsRowVar, is_row_var, IsRowOpen, is_row_open, IsRowOp, is_row_op, is_row_left, IsRowQuote, is_row_quote, IsRowQuoted, is_row_quoted, RowWhole, row_whole, BlockWhole, block_whole, IsOver, is_over, StandsAt, running, StandsBeside, Stands}
use Rattle.hb_tokens.specs.declared.token.TokenKind.TheVariants as kinds
use Rattle.hb_tree.specs.Patterns as tree_pat
use Rattle.hb_grammar.specs.Reading.{Runs, Reached, at_start, after}
use Rattle.hb_grammar.specs.Patterns.{no_apat, apat_alone, any}
use Rattle.hb_grammar.specs.Expressions.{plain, before as name_first}
use Rattle.hb_grammar.specs.Expressions.ReadsName.{var}
use Rattle.hb_grammar.specs.Expressions.ReadsInfix.{op}
use Rattle.hb_read_expressions.proofs.PatStops.{start_other}
use Rattle.hb_read_expressions.proofs.Steps.{then_all, con, sealed}
use Rattle.hb_read_expressions.proofs.Params.{PatLaws, NextAt, one_param, params_end, runs_in, param_next, param_inside}
use Rattle.hb_read_expressions.proofs.Rows.{start_param, row_equals, right_equals, var_next, name_next, right_side, left_inside, left_moves, open_op}
use Rattle.hb_read_expressions.proofs.Heads.{AHead, Headed, headed_runs, arrow_moves}
use Rattle.hb_read_expressions.proofs.Heads.Headed.{beside, alone}
use Rattle.hb_read_expressions.proofs.Complete.{equation, alt_inside, alt_arrow_moves, first_name}
use Rattle.hb_read_expressions.proofs.Taken.{RunsTo, runs_closed}
use Rattle.hb_read_expressions.proofs.Finishing.{HeldBlock, row_block, row_in_block, brace_block, AloneFinish, CoreFinish, Finish, Held, HeldRow, alt_finish, alts_held, block_ends, case_finish, closes, closes_alone, do_finish, ends_of, fields_held, goes, goes_alone, is_x, let_in_finish, mark, opened_held, operand_finish, operand_held, over_finish, post_finish, post_held, posted_finish, reads_x, row_end, row_ends, row_holds, stmt_finish, stmts_held, token, want_finish, whole_finish, word_held, word_token, x_expr, x_name, x_token}
use Rattle.hb_grammar.specs.Patterns as patterns
use Rattle.hb_read_expressions.specs.Nodes.{wrapped}
use Rattle.hb_read_expressions.specs.Exactly.{ExprReaderIsExact, EquationReaderIsExact, BindsReaderIsExact}
use Rattle.hb_read_expressions.proofs.Sound.{step}
use Rattle.hb_read_expressions.proofs.WholeReads.{expr_sound, equation_sound, binds_sound, expr_stands, equation_stands, binds_stands}
use Rattle.hb_read_expressions.proofs.Taken.{expr_complete, equation_complete, binds_complete}
use Rattle.hb_read_expressions.specs.Exactly.{ExprOf, EquationOf, BindsOf}

-- tokens that complete a state
abbrev StateFinish : State → State → Type 0
StateFinish start s = (ts : List Token) × (nodes : List ExprNode) × RunsTo start nodes [] s ts

here : (start : State) (core : Core) (pats : PatReader) → CoreFinish start core → StateFinish start (state core pats false)
here start core pats f = (f.0, f.1, f.2 pats false)

here_alone : (start : State) (core : Core) (pats : PatReader) → AloneFinish start core → StateFinish start (state core pats false)
here_alone start core pats f = (f.0, f.1, f.2 pats)

-- after `=` of an equation
row_want : PatLaws → (start : State) (root : Root) (top : List Token) (fs : List Frame) (name : Name) (place : Place) (n before : ℕ) (out : List ExprNode) → HeldBlock root top fs → CoreFinish start (at (frame.Row name place n before ∷ fs) now.Want out)
row_want laws start root top fs name place n before out r = want_finish laws start (frame.Row name place n before ∷ fs) out (row_ends start fs name place n before (block_ends laws start root top fs r))

-- so many simple patterns are read: tokens that complete the rest
abbrev NextFinish : State → Purpose → ℕ → List Frame → List ExprNode → Type 0
NextFinish start purpose n fs out = Finish start (λ Q ts. (s : State) → NextAt purpose n fs out ts s → Q s ts)

abbrev equals : Token
equals = word_token word.Equals

lambda_next : PatLaws → (start : State) (root : Root) (top : List Token) (fs : List Frame) (begun : Begun) (place : Place) (n : ℕ) (out : List ExprNode) → Held (Below root top fs) → NextFinish start (ForLambda begun place) n fs out
lambda_next laws start root top fs begun place n out h =
    let f = want_finish laws start (frame.Lambda begun place n ∷ fs) out (λ first stands nodes. ends_of laws start root top fs h (first_of begun) (run_at begun place) (end_run begun (put nodes (node.Lambda place n)))) in (
      word_token word.RightArrow ∷ f.0,
      f.1,
      λ s next.
          then_all (runs_closed start f.1 []) (params_end (ForLambda begun place) n fs out (word_token word.RightArrow) f.0 (λ count frames nodes pats t. refl) next sort.RightArrow refl refl (start_other (word_token word.RightArrow) refl) refl) f.2,
    )

row_next_finish : PatLaws → (start : State) (root : Root) (top : List Token) (fs : List Frame) (name : Name) (place : Place) (n before : ℕ) (out : List ExprNode) → HeldBlock root top fs → NextFinish start (ForRow name place before) n fs out
row_next_finish laws start root top fs name place n before out r =
    let f = row_want laws start root top fs name place n before out r in
    (equals ∷ f.0, f.1, λ s next. then_all (runs_closed start f.1 []) (row_equals name place n before fs out (equals ∷ f.0) s next refl) f.2)

right_next_finish : PatLaws → (start : State) (root : Root) (top : List Token) (fs : List Frame) (name : Name) (place : Place) (n before : ℕ) (out : List ExprNode) → HeldBlock root top fs → NextFinish start (ForRight name place before) n fs out
right_next_finish laws start root top fs name place n before out r =
    let f = row_want laws start root top fs name place n before out r in
    (equals ∷ f.0, f.1, λ s next. then_all (runs_closed start f.1 []) (right_equals name place n before fs out (equals ∷ f.0) s next refl) f.2)

lambda_held : {B : List ExprNode → List Token → Type 0} {begun : Begun} {n : ℕ} {place : Place} {out : List ExprNode} {ts : List Token} → InLambda B begun n place out ts → Held B
lambda_held (in_lambda w i make) = operand_held i

params_held : {R : ℕ → List ExprNode → List Token → Type 0} {name : Name} {before n : ℕ} {place : Place} {out : List ExprNode} {ts : List Token} → InParams R name before n place out ts → HeldRow R
params_held (in_params r h make) = (_, _, _, r)

right_held : {R : ℕ → List ExprNode → List Token → Type 0} {name : Name} {before n : ℕ} {place : Place} {out : List ExprNode} {ts : List Token} → InRight R name before place n out ts → HeldRow R
right_held (in_right r p i) = (_, _, _, r)

params_next : PatLaws → (start : State) (root : Root) (top : List Token) (fs : List Frame) (purpose : Purpose) (n m : ℕ) (out out2 : List ExprNode) (ts : List Token) → ForParams root top fs purpose n out ts → NextFinish start purpose m fs out2
params_next laws start root top fs (ForLambda begun place) n m out out2 ts p = lambda_next laws start root top fs begun place m out2 (lambda_held p)
params_next laws start root top fs (ForRow name place before) n m out out2 ts p = row_next_finish laws start root top fs name place m before out2 (row_in_block root top fs (params_held p))
params_next laws start root top fs (ForRight name place before) n m out out2 ts p = right_next_finish laws start root top fs name place m before out2 (row_in_block root top fs (right_held p))

abbrev x_pat : Pat
x_pat = pattern x_token.place (tree_pat.Var x_name)

-- a simple pattern and the rest
start_finish : PatLaws → (start : State) (fs : List Frame) (purpose : Purpose) (n : ℕ) (out : List ExprNode) → NextFinish start purpose (n + 1) fs (put_pat x_pat out) → AloneFinish start (at fs (now.ParamStart purpose n) out)
start_finish laws start fs purpose n out f = (
  x_token ∷ f.0,
  f.1,
  λ pats. one_param purpose n fs out (state (at fs (now.ParamStart purpose n) out) pats false) laws (runs_closed start f.1 []) (patterns.var is_x)
      (λ t r vs e follow g. start_param purpose n fs out pats r t g) (λ r next. f.2 r next),
)

param_finish : (laws : PatLaws) (start : State) (fs : List Frame) (purpose : Purpose) (n : ℕ) (out : List ExprNode) (pats : PatReader) → Reached apat_reader pats → ((out2 : List ExprNode) → NextFinish start purpose (n + 1) fs out2) → StateFinish start (state (at fs (now.Param purpose n) out) pats false)
param_finish laws start fs purpose n out pats reached f =
    let live = laws.apat.alive reached in
    let g = f (out ++ wrapped live.1.0) in (
      live.0 ++ g.0,
      g.1,
      runs_in (runs_closed start g.1 []) (param_inside purpose n fs out) (runs_longer apat_reader pats live.0 live.1.0 [] g.0 live.1.1) reached
          (λ r reached d. g.2 (state (at fs (now.Param purpose n) out) r false) (param_next laws purpose n fs out r g.0 reached d)),
    )

-- `= x` after the name of an equation
name_finish : PatLaws → (start : State) (root : Root) (top : List Token) (fs : List Frame) (name : Name) (place : Place) (before : ℕ) (out : List ExprNode) → HeldBlock root top fs → AloneFinish start (at fs (now.RowName before place name) out)
name_finish laws start root top fs name place before out r =
    let f = row_next_finish laws start root top fs name place 0 before out r in
    (f.0, f.1, λ pats. f.2 (state (at fs (now.RowName before place name) out) pats false) (name_next before place name fs out pats f.0))

var_finish : PatLaws → (start : State) (root : Root) (top : List Token) (fs : List Frame) (name : Name) (place : Place) (before : ℕ) (out : List ExprNode) → HeldBlock root top fs → AloneFinish start (at fs (now.RowVar before place name) out)
var_finish laws start root top fs name place before out r =
    let f = row_next_finish laws start root top fs name place 0 before out r in
    (f.0, f.1, λ pats. f.2 (state (at fs (now.RowVar before place name) out) pats false) (var_next before place name fs out pats f.0))

op_finish : PatLaws → (start : State) (root : Root) (top : List Token) (fs : List Frame) (name : Name) (place : Place) (before : ℕ) (out : List ExprNode) → HeldBlock root top fs → AloneFinish start (at fs (now.RowOp before place name) out)
op_finish laws start root top fs name place before out r =
    goes_alone start (now.RowOp before place name) fs out (mark 41) sort.Close (at fs (now.RowName before place name) out) (λ fs out pats t. refl) refl refl (name_finish laws start root top fs name place before out r)

open_finish : PatLaws → (start : State) (root : Root) (top : List Token) (fs : List Frame) (place : Place) (before : ℕ) (out : List ExprNode) → HeldBlock root top fs → AloneFinish start (at fs (now.RowOpen before place) out)
open_finish laws start root top fs place before out r =
    let f = op_finish laws start root top fs x_name place before out r in
    (token (kinds.Op x_name) ∷ f.0, f.1, λ pats. (runs_closed start f.1 []).taken (open_op (token (kinds.Op x_name)) refl before place fs out pats) (f.2 pats))

quoted_finish : PatLaws → (start : State) (root : Root) (top : List Token) (fs : List Frame) (name : Name) (place : Place) (before : ℕ) (out : List ExprNode) → HeldBlock root top fs → AloneFinish start (at fs (now.RowQuoted before place name) out)
quoted_finish laws start root top fs name place before out r =
    goes_alone start (now.RowQuoted before place name) fs out (mark 96) sort.Backquote (at fs (now.ParamStart (ForRight name place before) 1) out) (λ fs out pats t. refl) refl refl
    (start_finish laws start fs (ForRight name place before) 1 out (right_next_finish laws start root top fs name place 2 before (put_pat x_pat out) r))

quote_finish : PatLaws → (start : State) (root : Root) (top : List Token) (fs : List Frame) (place : Place) (before : ℕ) (out : List ExprNode) → HeldBlock root top fs → AloneFinish start (at fs (now.RowQuote before place) out)
quote_finish laws start root top fs place before out r =
    goes_alone start (now.RowQuote before place) fs out x_token (sort.Variable x_name) (at fs (now.RowQuoted before place x_name) out) (λ fs out pats t. refl) refl refl (quoted_finish laws start root top fs x_name place before out r)

left_finish : (laws : PatLaws) (start : State) (root : Root) (top : List Token) (fs : List Frame) (place : Place) (before : ℕ) (out : List ExprNode) (pats : PatReader) → Reached apat_reader pats → HeldBlock root top fs → StateFinish start (state (at fs (now.RowLeft before place) out) pats false)
left_finish laws start root top fs place before out pats reached r =
    let live = laws.apat.alive reached in
    let next = out ++ wrapped live.1.0 in
    let f = row_want laws start root top fs x_name place 2 before (put_pat x_pat next) r in
    let k = runs_closed start f.1 [] in
    let rest = token (kinds.Op x_name) ∷ x_token ∷ equals ∷ f.0 in (
      live.0 ++ rest,
      f.1,
      runs_in k (left_inside before place fs out) (runs_longer apat_reader pats live.0 live.1.0 [] rest live.1.1) reached
          (λ z reached d. right_side laws k place before fs next (state (at fs (now.RowLeft before place) out) z false) (op refl) (patterns.var is_x)
          (λ x core t ws e h other g. (z, left_moves before place fs out z t x core d h other g))
          (λ y next_at. then_all k (next_at refl) f.2)),
    )

-- an equation `x = x`
bind_finish : PatLaws → (start : State) (root : Root) (top : List Token) (fs : List Frame) (n : ℕ) (out : List ExprNode) → HeldBlock root top fs → AloneFinish start (at fs (now.BindStart n) out)
bind_finish laws start root top fs n out r =
    let g = row_holds start fs (block_ends laws start root top fs r) n (put (put_expr x_expr out) (node.Row x_name x_token.place 0 x_token.place 0)) in
    (x_token ∷ equals ∷ x_token ∷ g.0, g.1, equation laws (runs_closed start g.1 []) (plain (name_first (var is_x) no_apat) refl (reads_x g.0)) fs n out g.2)

brace_finish : PatLaws → (start : State) (root : Root) (top : List Token) (fs : List Frame) (out : List ExprNode) → HeldBlock root top fs → AloneFinish start (at fs now.BindsBrace out)
brace_finish laws start root top fs out r =
    goes_alone start now.BindsBrace fs out (mark 123) sort.OpenBrace (at fs (now.BindStart 0) out) (λ fs out pats t. refl) refl refl (bind_finish laws start root top fs 0 out r)

-- the pattern of an alternative, and `-> x }`
alt_pat_finish : (laws : PatLaws) (start : State) (root : Root) (top : List Token) (fs : List Frame) (begun : Begun) (place : Place) (n : ℕ) (out : List ExprNode) (pats : PatReader) → Reached pat_reader pats → Held (Below root top fs) → StateFinish start (state (at fs (now.AltPat begun place n) out) pats false)
alt_pat_finish laws start root top fs begun place n out pats reached h =
    let live = laws.pat.alive reached in
    let next = out ++ wrapped live.1.0 in
    let f = want_finish laws start (frame.Alternative begun place n ∷ fs) next
    (λ first stands nodes. closes start (mark 125) sort.CloseBrace _ _ refl refl refl (whole_finish start fs begun place (put (put nodes node.Alternative) (node.Case place (n + 1))) (ends_of laws start root top fs h))) in
    let k = runs_closed start f.1 [] in
    let arrow = word_token word.RightArrow in (
      live.0 ++ arrow ∷ f.0,
      f.1,
      runs_in k (alt_inside begun place n fs out) (runs_longer pat_reader pats live.0 live.1.0 [] (arrow ∷ f.0) live.1.1) reached
          (λ z reached d. k.taken (alt_arrow_moves begun place n fs out z live.1.0 arrow refl d) (f.2 z false)),
    )

-- the pattern of a statement, and `<- x ; x }`
head_finish : (laws : PatLaws) (start : State) (root : Root) (top : List Token) (h : AHead) (pats : PatReader) (s : State) → Reached pat_reader pats → Headed h pats s → Held (Below root top h.frames) → StateFinish start s
head_finish laws start root top h pats s reached headed b =
    let live = laws.pat.alive reached in
    let next = h.nodes ++ wrapped live.1.0 in
    let f = want_finish laws start (frame.Taken h.begun h.place h.statements ∷ h.frames) next
    (λ first stands nodes. closes_alone start (mark 59) sort.Semicolon _ _ refl refl refl refl
    (stmt_finish laws start h.frames h.begun h.place (h.statements + 1) false (put nodes node.TakeStmt) (ends_of laws start root top h.frames b))) in
    let k = runs_closed start f.1 [] in
    let arrow = word_token word.LeftArrow in (
      live.0 ++ arrow ∷ f.0,
      f.1,
      headed_runs k h (runs_longer pat_reader pats live.0 live.1.0 [] (arrow ∷ f.0) live.1.1) reached
          (λ r y d i. k.taken (arrow_moves h r y arrow refl d i) (f.2 r false)) s headed,
    )

opened_name_held : {B : List ExprNode → List Token → Type 0} {spot : Spot} {place : Place} {name : Name} {out : List ExprNode} {ts : List Token} → IsOpName B spot place name out ts → Held B
opened_name_held (is_op_name o h i) = post_held i

con_held : {B : List ExprNode → List Token → Type 0} {spot : Spot} {place : Place} {name : Name} {out : List ExprNode} {ts : List Token} → IsConName B spot place name out ts → Held B
con_held (is_con_name h i) = post_held i

is_post_held : {B : List ExprNode → List Token → Type 0} {spot : Spot} {first stands : Place} {out : List ExprNode} {ts : List Token} → IsPost B spot first stands out ts → Held B
is_post_held (is_post i f) = post_held i

whole_post_held : {B : List ExprNode → List Token → Type 0} {spot : Spot} {stands : Place} {out : List ExprNode} {ts : List Token} → WholePost B spot stands out ts → Held B
whole_post_held (whole_post i p) = post_held i

dotted_held : {B : List ExprNode → List Token → Type 0} {spot : Spot} {first : Place} {out : List ExprNode} {ts : List Token} → IsDotted B spot first out ts → Held B
dotted_held (is_dotted i f) = post_held i

apply_held : {B : List ExprNode → List Token → Type 0} {begun : Begun} {stands : Place} {out : List ExprNode} {ts : List Token} → WholeApply B begun stands out ts → Held B
apply_held (whole_apply i f) = operand_held i

quoted_held : {B : List ExprNode → List Token → Type 0} {begun : Begun} {out : List ExprNode} {ts : List Token} → IsQuoted B begun out ts → Held B
quoted_held (is_quoted h w) = apply_held w

quoted_name_held : {B : List ExprNode → List Token → Type 0} {begun : Begun} {place : Place} {name : Name} {out : List ExprNode} {ts : List Token} → IsQuotedName B begun place name out ts → Held B
quoted_name_held (is_quoted_name h v w) = apply_held w

open_whole_held : {B : List ExprNode → List Token → Type 0} {begun : Begun} {stands : Place} {out : List ExprNode} {ts : List Token} → WholeOpen B begun stands out ts → Held B
open_whole_held (whole_open i o) = operand_held i

name_held : {B : List ExprNode → List Token → Type 0} {spot : Spot} {target : Target} {n : ℕ} {begins place : Place} {name : Name} {out : List ExprNode} {ts : List Token} → IsFieldName B spot target n begins place name out ts → Held B
name_held (is_field_name v f) = fields_held f

of_held : {B : List ExprNode → List Token → Type 0} {begun : Begun} {place : Place} {out : List ExprNode} {ts : List Token} → AfterOf B begun place out ts → Held B
of_held (after_of w e o i) = operand_held i

let_in_held : {B : List ExprNode → List Token → Type 0} {begun : Begun} {place : Place} {n : ℕ} {out : List ExprNode} {ts : List Token} → BlockWhole (AfterWord B word.Let begun place) n out ts → Held B
let_in_held (block_whole w b) = word_held w

-- `= x ]` after a field's name
field_finish : PatLaws → (start : State) (root : Root) (top : List Token) (fs : List Frame) (spot : Spot) (begins : Place) (target : Target) (n : ℕ) (place : Place) (name : Name) (out : List ExprNode) → Held (Below root top fs) → CoreFinish start (at fs (now.FieldName spot begins target n place name) out)
field_finish laws start root top fs spot begins target n place name out h =
    goes start (now.FieldName spot begins target n place name) fs out equals sort.Equals (at (frame.Field spot begins target n place name ∷ fs) now.Want out) (λ fs out pats t. refl) refl refl refl
    (want_finish laws start (frame.Field spot begins target n place name ∷ fs) out
    (λ first stands nodes. closes start (mark 93) sort.CloseSquare _ _ refl refl refl (post_finish start fs spot begins begins (put (put nodes (node.Field place name)) (target_node target begins (n + 1))) (ends_of laws start root top fs h))))

fields_finish : PatLaws → (start : State) (root : Root) (top : List Token) (fs : List Frame) (spot : Spot) (begins : Place) (target : Target) (n : ℕ) (out : List ExprNode) → Held (Below root top fs) → CoreFinish start (at fs (now.NextField spot begins target n) out)
fields_finish laws start root top fs spot begins target n out h =
    goes start (now.NextField spot begins target n) fs out x_token (sort.Variable x_name) (at fs (now.FieldName spot begins target n x_token.place x_name) out) (λ fs out pats t. refl) refl refl refl
    (field_finish laws start root top fs spot begins target n x_token.place x_name out h)

first_fields_finish : PatLaws → (start : State) (root : Root) (top : List Token) (fs : List Frame) (spot : Spot) (begins : Place) (target : Target) (out : List ExprNode) → Held (Below root top fs) → CoreFinish start (at fs (now.FirstField spot begins target) out)
first_fields_finish laws start root top fs spot begins target out h =
    goes start (now.FirstField spot begins target) fs out x_token (sort.Variable x_name) (at fs (now.FieldName spot begins target 0 x_token.place x_name) out) (λ fs out pats t. refl) refl refl (first_name spot begins target fs out x_token.place x_name)
    (field_finish laws start root top fs spot begins target 0 x_token.place x_name out h)

quoted_name_finish : PatLaws → (start : State) (root : Root) (top : List Token) (fs : List Frame) (begun : Begun) (place : Place) (name : Name) (out : List ExprNode) → Held (Below root top fs) → CoreFinish start (at fs (now.QuotedName begun place name) out)
quoted_name_finish laws start root top fs begun place name out h =
    goes start (now.QuotedName begun place name) fs out (mark 96) sort.Backquote (at fs (now.Operand (one_more begun)) (put out (node.Var place name))) (λ fs out pats t. refl) refl refl refl
    (operand_finish laws start fs (one_more begun) (put out (node.Var place name)) (ends_of laws start root top fs h))

row_end_finish : PatLaws → (start : State) (root : Root) (top : List Token) (fs : List Frame) (n : ℕ) (out : List ExprNode) (ts : List Token) → RowWhole (RowBelow root top fs) n out ts → CoreFinish start (at fs (now.RowEnd n) out)
row_end_finish laws start root top fs n out ts (row_whole {n = m} {out = out0} {ts0 = ts0} r e) = row_end start fs m _ (block_ends laws start root top fs (row_block root top fs m out0 ts0 r))

over_done : (start : State) (root : Root) (top : List Token) (fs : List Frame) (n : ℕ) (out : List ExprNode) (ts : List Token) → IsOver root top fs n out ts → CoreFinish start (at fs (now.Over n) out)
over_done start root top fs n out ts (is_over b) = over_finish start [] n out refl

row_var_block : (root : Root) (top : List Token) (fs : List Frame) (n : ℕ) (place : Place) (name : Name) (out : List ExprNode) (ts : List Token) → IsRowVar (RowBelow root top fs) n place name out ts → HeldBlock root top fs
row_var_block root top fs n place name out ts (is_row_var v r) = row_block root top fs n out _ r

row_open_block : (root : Root) (top : List Token) (fs : List Frame) (n : ℕ) (pats : PatReader) (place : Place) (out : List ExprNode) (ts : List Token) → IsRowOpen (RowBelow root top fs) n pats place out ts → HeldBlock root top fs
row_open_block root top fs n pats place out ts (is_row_open o r reached f) = row_block root top fs n out _ r

row_op_block : (root : Root) (top : List Token) (fs : List Frame) (n : ℕ) (place : Place) (name : Name) (out : List ExprNode) (ts : List Token) → IsRowOp (RowBelow root top fs) n place name out ts → HeldBlock root top fs
row_op_block root top fs n place name out ts (is_row_op o h r) = row_block root top fs n out _ r

left_block : (root : Root) (top : List Token) (fs : List Frame) (n : ℕ) (place : Place) (out : List ExprNode) (ts : List Token) → LeftPat (RowBelow root top fs) n place out ts → HeldBlock root top fs
left_block root top fs n place out ts (left_pat r a) = row_block root top fs n _ _ r

row_quote_block : (root : Root) (top : List Token) (fs : List Frame) (n : ℕ) (place : Place) (out : List ExprNode) (ts : List Token) → IsRowQuote (RowBelow root top fs) n place out ts → HeldBlock root top fs
row_quote_block root top fs n place out ts (is_row_quote h l) = left_block root top fs n place out _ l

row_quoted_block : (root : Root) (top : List Token) (fs : List Frame) (n : ℕ) (place : Place) (name : Name) (out : List ExprNode) (ts : List Token) → IsRowQuoted (RowBelow root top fs) n place name out ts → HeldBlock root top fs
row_quoted_block root top fs n place name out ts (is_row_quoted h v l) = left_block root top fs n place out _ l

-- a state with no pattern beside
alone_alive : (laws : PatLaws) (start : State) (root : Root) (top : List Token) (current : Now) (fs : List Frame) (out : List ExprNode) (pats : PatReader) (ts : List Token) → StandsAt root top current fs out pats ts → StateFinish start (state (at fs current out) pats false)
alone_alive laws start root top now.Want fs out pats ts s = here start _ pats (want_finish laws start fs out (ends_of laws start root top fs (out, ts, s)))
alone_alive laws start root top (now.Operand begun) fs out pats ts s = here start _ pats (operand_finish laws start fs begun out (ends_of laws start root top fs (operand_held s)))
alone_alive laws start root top (now.Post spot first stands) fs out pats ts s = here start _ pats (post_finish start fs spot first stands out (ends_of laws start root top fs (is_post_held s)))
alone_alive laws start root top (now.Con spot place name) fs out pats ts s = here start _ pats (posted_finish start fs spot (now.Con spot place name) out (put out (node.Con place name)) place (ends_of laws start root top fs (con_held s)) con)
alone_alive laws start root top (now.Sealed spot stands) fs out pats ts s = here start _ pats (posted_finish start fs spot (now.Sealed spot stands) out out stands (ends_of laws start root top fs (whole_post_held s)) sealed)
alone_alive laws start root top (now.Dotted spot first) fs out pats ts s =
    here start _ pats (goes start (now.Dotted spot first) fs out x_token (sort.Variable x_name) (at fs (now.Post spot first first) (put out (node.Select first x_name))) (λ fs out pats t. refl) refl refl refl
    (post_finish start fs spot first first (put out (node.Select first x_name)) (ends_of laws start root top fs (dotted_held s))))
alone_alive laws start root top (now.Opened spot place) fs out pats ts s =
    here start _ pats (goes start (now.Opened spot place) fs out (mark 41) sort.Close (at fs (now.Post spot place place) (put out (node.Unit place))) (λ fs out pats t. refl) refl refl refl
    (post_finish start fs spot place place (put out (node.Unit place)) (ends_of laws start root top fs (opened_held s))))
alone_alive laws start root top (now.OpName spot place name) fs out pats ts s =
    here start _ pats (goes start (now.OpName spot place name) fs out (mark 41) sort.Close (at fs (now.Post spot place place) (put out (node.Var place name))) (λ fs out pats t. refl) refl refl refl
    (post_finish start fs spot place place (put out (node.Var place name)) (ends_of laws start root top fs (opened_name_held s))))
alone_alive laws start root top (now.Quoted begun) fs out pats ts s =
    here start _ pats (goes start (now.Quoted begun) fs out x_token (sort.Variable x_name) (at fs (now.QuotedName begun x_token.place x_name) out) (λ fs out pats t. refl) refl refl refl
    (quoted_name_finish laws start root top fs begun x_token.place x_name out (quoted_held s)))
alone_alive laws start root top (now.QuotedName begun place name) fs out pats ts s = here start _ pats (quoted_name_finish laws start root top fs begun place name out (quoted_name_held s))
alone_alive laws start root top (now.FirstField spot begins target) fs out pats ts s = here start _ pats (first_fields_finish laws start root top fs spot begins target out (fields_held s.0))
alone_alive laws start root top (now.NextField spot begins target n) fs out pats ts s = here start _ pats (fields_finish laws start root top fs spot begins target n out (fields_held s))
alone_alive laws start root top (now.FieldName spot begins target n place name) fs out pats ts s = here start _ pats (field_finish laws start root top fs spot begins target n place name out (name_held s))
alone_alive laws start root top (now.Whole begun stands) fs out pats ts s = here start _ pats (whole_finish start fs begun stands out (ends_of laws start root top fs (open_whole_held s)))
alone_alive laws start root top (now.ParamStart purpose n) fs out pats ts s = here_alone start _ pats (start_finish laws start fs purpose n out (params_next laws start root top fs purpose n (n + 1) out (put_pat x_pat out) ts s))
alone_alive laws start root top (now.Param purpose n) fs out pats ts (in_pattern {ts1 = ts1} k reached f) =
    param_finish laws start fs purpose n out pats reached (λ out2. params_next laws start root top fs purpose n (n + 1) out out2 ts1 k)
alone_alive laws start root top now.BindsBrace fs out pats ts s = here_alone start _ pats (brace_finish laws start root top fs out (brace_block root top fs out ts s))
alone_alive laws start root top (now.BindStart n) fs out pats ts s = here_alone start _ pats (bind_finish laws start root top fs n out (row_block root top fs n out ts s))
alone_alive laws start root top (now.RowVar n place name) fs out pats ts s = here_alone start _ pats (var_finish laws start root top fs name place n out (row_var_block root top fs n place name out ts s))
alone_alive laws start root top (now.RowOpen n place) fs out pats ts s = here_alone start _ pats (open_finish laws start root top fs place n out (row_open_block root top fs n pats place out ts s))
alone_alive laws start root top (now.RowOp n place name) fs out pats ts s = here_alone start _ pats (op_finish laws start root top fs name place n out (row_op_block root top fs n place name out ts s))
alone_alive laws start root top (now.RowName n place name) fs out pats ts s = here_alone start _ pats (name_finish laws start root top fs name place n out (row_in_block root top fs (params_held s)))
alone_alive laws start root top (now.RowLeft n place) fs out pats ts (is_row_left {ts0 = ts0} r reached f) = left_finish laws start root top fs place n out pats reached (row_block root top fs n out ts0 r)
alone_alive laws start root top (now.RowQuote n place) fs out pats ts s = here_alone start _ pats (quote_finish laws start root top fs place n out (row_quote_block root top fs n place out ts s))
alone_alive laws start root top (now.RowQuoted n place name) fs out pats ts s = here_alone start _ pats (quoted_finish laws start root top fs name place n out (row_quoted_block root top fs n place name out ts s))
alone_alive laws start root top (now.RowEnd n) fs out pats ts s = here start _ pats (row_end_finish laws start root top fs n out ts s)
alone_alive laws start root top (now.Over n) fs out pats ts s = here start _ pats (over_done start root top fs n out ts s)
alone_alive laws start root top (now.LetIn begun place n) fs out pats ts s = here start _ pats (let_in_finish laws start fs begun place n out (ends_of laws start root top fs (let_in_held s)))
alone_alive laws start root top (now.CaseBrace begun place) fs out pats ts s = here start _ pats (case_finish laws start fs begun place out (ends_of laws start root top fs (of_held s)))
alone_alive laws start root top (now.AltStart begun place n) fs out pats ts s = here_alone start _ pats (alt_finish laws start fs begun place n out (ends_of laws start root top fs (alts_held s)))
alone_alive laws start root top (now.AltPat begun place n) fs out pats ts (in_pattern k reached f) = alt_pat_finish laws start root top fs begun place n out pats reached (alts_held k)
alone_alive laws start root top (now.DoBrace begun place) fs out pats ts s = here start _ pats (do_finish laws start fs begun place out (ends_of laws start root top fs (word_held s)))
alone_alive laws start root top (now.StmtStart begun place n may_end) fs out pats ts s = here_alone start _ pats (stmt_finish laws start fs begun place n may_end out (ends_of laws start root top fs (stmts_held s)))
alone_alive laws start root top (now.StmtPat begun place n) fs out pats ts (in_pattern k reached f) =
    head_finish laws start root top (record { begun = begun; place = place; statements = n; frames = fs; nodes = out }) pats (state (at fs (now.StmtPat begun place n) out) pats false) reached alone (stmts_held k.1)

side_alive : (laws : PatLaws) (start : State) (root : Root) (top : List Token) (side : Bool) (core : Core) (pats : PatReader) (ts : List Token) → StandsAt root top core.last core.frames core.nodes pats ts → StandsBeside root top side core pats ts → StateFinish start (state core pats side)
side_alive laws start root top false core pats ts s b = alone_alive laws start root top core.last core.frames core.nodes pats ts s
side_alive laws start root top true core pats ts s (running h i (in_pattern k reached f)) = head_finish laws start root top h pats (state core pats true) reached (beside i) (stmts_held k.1)

-- a state that tokens lead to stands, whatever comes then
reached_stands : (laws : PatLaws) (root : Root) (start : State) {s : State} → ((ts : List Token) → Stands root ts start ts) → Reached (record { start = start; move = moved; done = done }) s → (f : List Token → List Token) × ((ts : List Token) → Stands root (f ts) s ts)
reached_stands laws root start begins at_start = (λ ts. ts, begins)
reached_stands laws root start begins (after {t = t} reached h) =
    let r = reached_stands laws root start begins reached in
    (λ ts. r.0 (t ∷ ts), λ ts. step laws root (r.0 (t ∷ ts)) h (r.1 (t ∷ ts)))

alive_from : (laws : PatLaws) (root : Root) (start : State) {s : State} → ((ts : List Token) → Stands root ts start ts) → Reached (record { start = start; move = moved; done = done }) s → StateFinish start s
alive_from laws root start {s = s} begins reached =
    let r = reached_stands laws root start begins reached in
    let stands = r.1 [] in
    side_alive laws start root (r.0 []) s.beside s.core s.pats [] stands.read stands.side

expr_run : PatLaws → (pats : PatReader) {ts us : List Token} {nodes : List ExprNode} → ExprOf ts nodes us → Runs (expr_reader pats) (expr_start pats) ts nodes us
expr_run laws pats {ts = ts} {us = us} e = subst (λ nodes. Runs (expr_reader pats) (expr_start pats) ts nodes us) (sym e.is) (expr_complete laws pats e.reads)

equation_run : PatLaws → (pats : PatReader) {ts us : List Token} {nodes : List ExprNode} → EquationOf ts nodes us → Runs (equation_reader pats) (equation_start pats) ts nodes us
equation_run laws pats {ts = ts} {us = us} e = subst (λ nodes. Runs (equation_reader pats) (equation_start pats) ts nodes us) (sym e.is) (equation_complete laws pats e.reads)

binds_run : PatLaws → (pats : PatReader) {ts us : List Token} {nodes : List ExprNode} → BindsOf ts nodes us → Runs (binds_reader pats) (binds_start pats) ts nodes us
binds_run laws pats {ts = ts} {us = us} e = subst (λ nodes. Runs (binds_reader pats) (binds_start pats) ts nodes us) (sym e.is) (binds_complete laws pats e.reads)

-- the reader of expressions is exact where those of patterns are
pub expr_exact : PatLaws → ExprReaderIsExact
expr_exact laws pats = record {
  sound = λ runs. expr_sound laws pats runs;
  complete = λ e. expr_run laws pats e;
  alive = λ reached. let f = alive_from laws an_expr (expr_start pats) (expr_stands pats) reached in (f.0, (f.1, f.2));
}

-- so is the reader of equations
pub equation_exact : PatLaws → EquationReaderIsExact
equation_exact laws pats = record {
  sound = λ runs. equation_sound laws pats runs;
  complete = λ e. equation_run laws pats e;
  alive = λ reached. let f = alive_from laws an_equation (equation_start pats) (equation_stands pats) reached in (f.0, (f.1, f.2));
}

-- and the reader of blocks of equations
pub binds_exact : PatLaws → BindsReaderIsExact
binds_exact laws pats = record {
  sound = λ runs. binds_sound laws pats runs;
  complete = λ e. binds_run laws pats e;
  alive = λ reached. let f = alive_from laws a_block (binds_start pats) (binds_stands pats) reached in (f.0, (f.1, f.2));
}
