-- Whatever stands can be completed: the shortest tokens that close each frame.
use Rattle.std.proofs.Common.{◌≡◌, ◌≢◌, ℕ, ◌+◌, Bool, true, false, List, [], ◌∷◌, Some, refl, sym, ap, subst, arith}
use Rattle.hb_base.specs.declared.name.Name.{Name}
use Rattle.hb_base.specs.declared.place.Place.{Place}
use Rattle.hb_tokens.specs.declared.token.Token.{Token}
use Rattle.hb_tokens.specs.declared.word.Word.TheVariants as word
use Rattle.hb_tree.specs.Patterns.{Pat, Pats, NoPats, MorePats}
use Rattle.hb_tree.specs.Expressions.{Expr, Exprs, FieldExprs, NoFieldExprs, Alts, NoAlts, MoreAlts, Stmts, Binds, Equations}
use Rattle.hb_tree.specs.Expressions as tree
use Rattle.hb_grammar.specs.Tokens.{IsVar}
use Rattle.hb_read_expressions.specs.declared.node.ExprNode.{ExprNode}
use Rattle.hb_read_expressions.specs.declared.node.ExprNode.TheVariants as node
use Rattle.hb_read_expressions.specs.declared.frame.Begun.{Begun}
use Rattle.hb_read_expressions.specs.declared.frame.Spot.{Spot}
use Rattle.hb_read_expressions.specs.declared.frame.Target.{Target}
use Rattle.hb_read_expressions.specs.declared.frame.Frame.{Frame}
use Rattle.hb_read_expressions.specs.declared.frame.Frame.TheVariants as frame
use Rattle.hb_read_expressions.specs.declared.now.Now.{Now}
use Rattle.hb_read_expressions.specs.declared.now.Now.TheVariants as now
use Rattle.hb_read_expressions.specs.Nodes.{put, put_expr, put_pat}
use Rattle.hb_read_expressions.specs.declared.sort.Sort.{Sort}
use Rattle.hb_read_expressions.specs.declared.sort.Sort.TheVariants as sort
use Rattle.hb_grammar.specs.Patterns.{pattern}
use Rattle.hb_read_expressions.specs.declared.state.Core.{Core}
use Rattle.hb_read_expressions.specs.declared.state.State.{State}
use Rattle.hb_read_expressions.specs.States.{run_at, first_of, end_run, end_post, begun_of, at, state}
use Rattle.hb_read_expressions.specs.Ends.{close, target_node, settle, Ended}
use Rattle.hb_read_expressions.specs.Outside.{move_core}
use Rattle.hb_read_expressions.specs.Moves.{done}
use Rattle.hb_read_expressions.specs.Sorts.{sort_of}
use Rattle.hb_read_expressions.proofs.Standing.{InOperand, at_first, at_after, InPost, at_head, at_argument, IsOpened, is_opened, IsSecond, is_second, InFields, in_fields, InField, in_field, InOpen, in_open, AfterWord, after_word, InThen, in_then, InAlts, in_alts, InAlt, in_alt, InStmts, in_stmts, InTaken, in_taken, InStatement, in_statement, InRow, in_row, InWhere, in_where, InBlock, in_block, Root, Below, RowBelow, BraceBelow}
use Rattle.hb_base.specs.Fixed.{wildcard}
use Rattle.hb_tokens.specs.declared.token.TokenKind.{TokenKind}
use Rattle.hb_tokens.specs.declared.token.TokenKind.TheVariants as kinds
use Rattle.hb_tree.specs.Patterns as tree_pat
use Rattle.hb_grammar.specs.Reading.Runs.{stop}
use Rattle.hb_grammar.specs.Patterns.{apat_alone, any}
use Rattle.hb_grammar.specs.Expressions.{expression, ReadsExpr, operand, closed, no_argument, post_atom, nothing_follows, atom_name, last_stmt, closing, stmts, last_alt, alts}
use Rattle.hb_grammar.specs.Expressions.ReadsApply.{applied as post_applied}
use Rattle.hb_grammar.specs.Expressions.ReadsName.{var}
use Rattle.hb_read_patterns.specs.Sorts.{sort_of as pat_sort_of}
use Rattle.hb_read_patterns.specs.declared.sort.Sort.TheVariants as pat_sort
use Rattle.hb_read_expressions.proofs.Steps.{All, Alone, Plain, go, Posted, post, applied, applied_ends, whole_ends, EndsHold, close_by, close_alone, is_closer, is_arrow, operand_starts}
use Rattle.hb_read_expressions.proofs.Params.{PatLaws}
use Rattle.hb_read_expressions.proofs.Rows.{go_false}
use Rattle.hb_read_expressions.proofs.Complete.{expr, last, from_want, RowHold, BlockEnds, row_last, alternatives, in_alts as alts_go, statements, in_stmts as stmts_go}
use Rattle.hb_read_expressions.proofs.Taken.{RunsTo, runs_closed, ended_done, row_done, block_done}

-- a token of this kind
abbrev pub token : TokenKind → Token
token kind = record { place = record { line = 0; col = 0 }; kind = kind }

abbrev pub x_name : Name
x_name = record { 0 = 0 }

pub not_both : (n : ℕ) → n ≡ 0 → n ≡ 70 → ⊥
not_both n a b = absurd (omega arith)

pub x_is_none : x_name ≢ wildcard
x_is_none h = not_both 0 refl (ap (λ (n : Name). n.0) h)

abbrev pub x_token : Token
x_token = token (kinds.VarId x_name)

pub is_x : IsVar x_name x_token
is_x = record { kind = refl; named = x_is_none }

abbrev pub mark : ℕ → Token
mark byte = token (kinds.Mark byte)

abbrev pub word_token : word.the_data → Token
word_token w = token (kinds.Word w)

abbrev pub x_expr : Expr
x_expr = expression x_token.place (tree.Var x_name)

pub reads_x : (us : List Token) → ReadsExpr (x_token ∷ us) x_expr us
reads_x us = operand (closed (post_applied (post_atom (atom_name (var is_x)) nothing_follows) no_argument))

-- tokens that complete this
abbrev pub Finish : State → ((State → List Token → Type 0) → List Token → Type 0) → Type 0
Finish start H = (ts : List Token) × (nodes : List ExprNode) × H (RunsTo start nodes []) ts

abbrev pub CoreFinish : State → Core → Type 0
CoreFinish start core = Finish start (λ Q. All Q core)

abbrev pub AloneFinish : State → Core → Type 0
AloneFinish start core = Finish start (λ Q. Alone Q core)

abbrev pub EndsFinish : State → List Frame → Type 0
EndsFinish start fs = (first stands : Place) (out : List ExprNode) → Finish start (λ Q. EndsHold Q (settle fs first stands out))

pub all_alone : (start : State) (core : Core) → CoreFinish start core → AloneFinish start core
all_alone start core f = (f.0, f.1, λ pats. f.2 pats false)

pub closes : (start : State) (t : Token) (x : Sort) (e : Ended) (core : Core) → sort_of t.kind ≡ x → is_closer x ≡ true → close e x ≡ Some core → CoreFinish start core → Finish start (λ Q. EndsHold Q e)
closes start t x e core h c m f = (t ∷ f.0, f.1, close_by (runs_closed start f.1 []) x h c m f.2)

pub closes_alone : (start : State) (t : Token) (x : Sort) (e : Ended) (core : Core) → sort_of t.kind ≡ x → pat_sort_of t.kind ≡ pat_sort.Other → is_closer x ≡ true → close e x ≡ Some core → AloneFinish start core → Finish start (λ Q. EndsHold Q e)
closes_alone start t x e core h o c m f = (t ∷ f.0, f.1, close_alone (runs_closed start f.1 []) x h o c m f.2)

pub goes : (start : State) (current : Now) (fs : List Frame) (out : List ExprNode) (t : Token) (x : Sort) (core : Core) → Plain current → sort_of t.kind ≡ x → is_arrow x ≡ false → move_core current fs out t.place x ≡ Some core → CoreFinish start core → CoreFinish start (at fs current out)
goes start current fs out t x core outside h a m f = (t ∷ f.0, f.1, go (runs_closed start f.1 []) outside x h a m f.2)

pub goes_alone : (start : State) (current : Now) (fs : List Frame) (out : List ExprNode) (t : Token) (x : Sort) (core : Core) → Plain current → sort_of t.kind ≡ x → move_core current fs out t.place x ≡ Some core → AloneFinish start core → AloneFinish start (at fs current out)
goes_alone start current fs out t x core outside h m f = (t ∷ f.0, f.1, go_false (runs_closed start f.1 []) outside x h m f.2)

pub posted_finish : (start : State) (fs : List Frame) (spot : Spot) (current : Now) (nodes out : List ExprNode) (stands : Place) → EndsFinish start fs → Posted spot current nodes stands out → CoreFinish start (at fs current nodes)
posted_finish start fs spot current nodes out stands ends p =
    let f = ends (first_of (begun_of spot)) (run_at (begun_of spot) stands) (end_run (begun_of spot) (end_post spot stands out)) in
    (f.0, f.1, f.2 current fs nodes (applied_ends (applied p) fs))

pub post_finish : (start : State) (fs : List Frame) (spot : Spot) (first stands : Place) (out : List ExprNode) → EndsFinish start fs → CoreFinish start (at fs (now.Post spot first stands) out)
post_finish start fs spot first stands out ends = posted_finish start fs spot (now.Post spot first stands) out out stands ends post

pub whole_finish : (start : State) (fs : List Frame) (begun : Begun) (stands : Place) (out : List ExprNode) → EndsFinish start fs → CoreFinish start (at fs (now.Whole begun stands) out)
whole_finish start fs begun stands out ends =
    let f = ends (first_of begun) (run_at begun stands) (end_run begun out) in
    (f.0, f.1, f.2 (now.Whole begun stands) fs out (whole_ends begun stands fs out))

pub want_finish : PatLaws → (start : State) (fs : List Frame) (out : List ExprNode) → EndsFinish start fs → CoreFinish start (at fs now.Want out)
want_finish laws start fs out ends =
    let f = ends x_token.place x_token.place (put out (node.Var x_token.place x_name)) in
    let k = runs_closed start f.1 [] in
    (x_token ∷ f.0, f.1, from_want k (reads_x f.0) (expr laws k (reads_x f.0)) fs out f.2)

pub operand_finish : PatLaws → (start : State) (fs : List Frame) (begun : Begun) (out : List ExprNode) → EndsFinish start fs → CoreFinish start (at fs (now.Operand begun) out)
operand_finish laws start fs begun out ends =
    let f = ends (first_of begun) (run_at begun x_token.place) (end_run begun (put out (node.Var x_token.place x_name))) in
    let k = runs_closed start f.1 [] in
    (x_token ∷ f.0, f.1, λ pats side. last laws k (closed (post_applied (post_atom (atom_name (var is_x)) nothing_follows) no_argument)) begun fs out (state (at fs (now.Operand begun) out) pats side) (operand_starts begun fs out pats side (x_token ∷ f.0)) f.2)

-- `x }` in a `do`
pub stmt_finish : PatLaws → (start : State) (fs : List Frame) (begun : Begun) (place : Place) (n : ℕ) (may_end : Bool) (out : List ExprNode) → EndsFinish start fs → AloneFinish start (at fs (now.StmtStart begun place n may_end) out)
stmt_finish laws start fs begun place n may_end out ends =
    let f = whole_finish start fs begun place (put (put (put_expr x_expr out) node.DoStmt) (node.Do place (n + 1))) ends in
    (x_token ∷ mark 125 ∷ f.0, f.1, stmts_go laws (runs_closed start f.1 []) (last_stmt (reads_x (mark 125 ∷ f.0)) (closing refl)) begun place n may_end fs out f.2)

pub do_finish : PatLaws → (start : State) (fs : List Frame) (begun : Begun) (place : Place) (out : List ExprNode) → EndsFinish start fs → CoreFinish start (at fs (now.DoBrace begun place) out)
do_finish laws start fs begun place out ends =
    let f = whole_finish start fs begun place (put (put (put_expr x_expr out) node.DoStmt) (node.Do place 1)) ends in
    (mark 123 ∷ x_token ∷ mark 125 ∷ f.0, f.1, statements laws (runs_closed start f.1 []) (stmts refl (last_stmt (reads_x (mark 125 ∷ f.0)) (closing refl))) begun place fs out f.2)

abbrev pub any_token : Token
any_token = token (kinds.VarId wildcard)

abbrev pub any_pat : Pat
any_pat = pattern any_token.place tree_pat.Any

-- `_ -> x }` in a `case`
pub alt_finish : PatLaws → (start : State) (fs : List Frame) (begun : Begun) (place : Place) (n : ℕ) (out : List ExprNode) → EndsFinish start fs → AloneFinish start (at fs (now.AltStart begun place n) out)
alt_finish laws start fs begun place n out ends =
    let f = whole_finish start fs begun place (put (put (put_expr x_expr (put_pat any_pat out)) node.Alternative) (node.Case place (n + 1))) ends in
    (any_token ∷ word_token word.RightArrow ∷ x_token ∷ mark 125 ∷ f.0, f.1, alts_go laws (runs_closed start f.1 []) (last_alt (apat_alone (any refl)) refl (reads_x (mark 125 ∷ f.0)) refl) begun place n fs out tt f.2)

pub case_finish : PatLaws → (start : State) (fs : List Frame) (begun : Begun) (place : Place) (out : List ExprNode) → EndsFinish start fs → CoreFinish start (at fs (now.CaseBrace begun place) out)
case_finish laws start fs begun place out ends =
    let f = whole_finish start fs begun place (put (put (put_expr x_expr (put_pat any_pat out)) node.Alternative) (node.Case place 1)) ends in
    (mark 123 ∷ any_token ∷ word_token word.RightArrow ∷ x_token ∷ mark 125 ∷ f.0, f.1, alternatives laws (runs_closed start f.1 []) (alts refl (last_alt (apat_alone (any refl)) refl (reads_x (mark 125 ∷ f.0)) refl)) begun place fs out f.2)

-- what ends a block of equations
abbrev pub BlockFinish : State → List Frame → Type 0
BlockFinish start [] = Unit {0}
BlockFinish start (f ∷ fs) = (b : BlockEnds (f ∷ fs)) × ((n : ℕ) (out : List ExprNode) → CoreFinish start (b.after_block n out))

pub row_holds : (start : State) (fs : List Frame) → BlockFinish start fs → (n : ℕ) (out : List ExprNode) → Finish start (λ Q. RowHold Q fs n out)
row_holds start [] block n out = (
  [],
  out,
  record {
    open_row = λ name place patterns first stands nodes e current fs nodes2 ends p b. stop (ended_done current fs nodes2 p b ends (ap Some e));
    closed_row = λ p b. stop (row_done (n + 1) out p b);
  },
)
row_holds start (f ∷ fs) block n out =
    let g = block.1 (n + 1) out in
    (mark 125 ∷ g.0, g.1, row_last (runs_closed start g.1 []) (f ∷ fs) block.0 n out refl g.2)

pub row_ends : (start : State) (fs : List Frame) (name : Name) (place : Place) (n before : ℕ) → BlockFinish start fs → EndsFinish start (frame.Row name place n before ∷ fs)
row_ends start fs name place n before block first stands out =
    let g = row_holds start fs block before (put out (node.Row name place n first 0)) in
    (g.0, g.1, g.2.open_row name place n first stands out refl)

pub row_end : (start : State) (fs : List Frame) (n : ℕ) (out : List ExprNode) → BlockFinish start fs → CoreFinish start (at fs (now.RowEnd (n + 1)) out)
row_end start fs n out block = let g = row_holds start fs block n out in (g.0, g.1, g.2.closed_row)

pub let_in_finish : PatLaws → (start : State) (fs : List Frame) (begun : Begun) (place : Place) (n : ℕ) (out : List ExprNode) → EndsFinish start fs → CoreFinish start (at fs (now.LetIn begun place n) out)
let_in_finish laws start fs begun place n out ends =
    goes start (now.LetIn begun place n) fs out (word_token word.In) sort.In (at (frame.LetBody begun place n ∷ fs) now.Want out) (λ fs out pats t. refl) refl refl refl
    (want_finish laws start (frame.LetBody begun place n ∷ fs) out (λ first stands nodes. ends (first_of begun) (run_at begun place) (end_run begun (put nodes (node.Let place n)))))

abbrev pub Held : (List ExprNode → List Token → Type 0) → Type 0
Held B = (out : List ExprNode) × (ts : List Token) × B out ts

abbrev pub HeldRow : (ℕ → List ExprNode → List Token → Type 0) → Type 0
HeldRow R = (n : ℕ) × (out : List ExprNode) × (ts : List Token) × R n out ts

pub operand_held : {B : List ExprNode → List Token → Type 0} {begun : Begun} {out : List ExprNode} {ts : List Token} → InOperand B begun out ts → Held B
operand_held (at_first b) = (_, _, b)
operand_held (at_after b run) = (_, _, b)

pub post_held : {B : List ExprNode → List Token → Type 0} {spot : Spot} {out : List ExprNode} {ts : List Token} → InPost B spot out ts → Held B
post_held (at_head i) = operand_held i
post_held (at_argument i f) = operand_held i

pub open_held : {B : List ExprNode → List Token → Type 0} {begun : Begun} {place : Place} {l : ExprNode} {out : List ExprNode} {ts : List Token} → InOpen B begun place l out ts → Held B
open_held (in_open i make) = operand_held i

pub opened_held : {B : List ExprNode → List Token → Type 0} {spot : Spot} {place : Place} {out : List ExprNode} {ts : List Token} → IsOpened B spot place out ts → Held B
opened_held (is_opened o i) = post_held i

pub second_held : {B : List ExprNode → List Token → Type 0} {spot : Spot} {place : Place} {out : List ExprNode} {ts : List Token} → IsSecond B spot place out ts → Held B
second_held (is_second o a c i) = post_held i

pub fields_held : {B : List ExprNode → List Token → Type 0} {spot : Spot} {target : Target} {n : ℕ} {place : Place} {out : List ExprNode} {ts : List Token} → InFields B spot target n place out ts → Held B
fields_held (in_fields i make) = post_held i

pub field_held : {B : List ExprNode → List Token → Type 0} {spot : Spot} {target : Target} {n : ℕ} {begins place : Place} {name : Name} {out : List ExprNode} {ts : List Token} → InField B spot target n begins place name out ts → Held B
field_held (in_field v q f) = fields_held f

pub word_held : {B : List ExprNode → List Token → Type 0} {w : word.the_data} {begun : Begun} {place : Place} {out : List ExprNode} {ts : List Token} → AfterWord B w begun place out ts → Held B
word_held (after_word w i) = operand_held i

pub then_held : {B : List ExprNode → List Token → Type 0} {begun : Begun} {place : Place} {out : List ExprNode} {ts : List Token} → InThen B begun place out ts → Held B
then_held (in_then w c t i) = operand_held i

pub alts_held : {B : List ExprNode → List Token → Type 0} {begun : Begun} {place : Place} {n : ℕ} {out : List ExprNode} {ts : List Token} → InAlts B begun place n out ts → Held B
alts_held (in_alts i make) = operand_held i

pub alt_held : {B : List ExprNode → List Token → Type 0} {begun : Begun} {place : Place} {n : ℕ} {out : List ExprNode} {ts : List Token} → InAlt B begun place n out ts → Held B
alt_held (in_alt p a k) = alts_held k

pub stmts_held : {B : List ExprNode → List Token → Type 0} {begun : Begun} {place : Place} {n : ℕ} {may_end : Bool} {out : List ExprNode} {ts : List Token} → InStmts B begun place n may_end out ts → Held B
stmts_held (in_stmts i make end) = operand_held i

pub taken_held : {B : List ExprNode → List Token → Type 0} {begun : Begun} {place : Place} {n : ℕ} {out : List ExprNode} {ts : List Token} → InTaken B begun place n out ts → Held B
taken_held (in_taken p a k) = stmts_held k

pub statement_held : {B : List ExprNode → List Token → Type 0} {begun : Begun} {place : Place} {n m : ℕ} {out : List ExprNode} {ts : List Token} → InStatement B begun place n m out ts → Held B
statement_held (in_statement k) = stmts_held k

pub row_held : {R : ℕ → List ExprNode → List Token → Type 0} {name : Name} {n m : ℕ} {place : Place} {out : List ExprNode} {ts : List Token} → InRow R name n place m out ts → HeldRow R
row_held (in_row r l q) = (_, _, _, r)

pub where_held : {R : ℕ → List ExprNode → List Token → Type 0} {name : Name} {n m : ℕ} {place first : Place} {out : List ExprNode} {ts : List Token} → InWhere R name n place m first out ts → HeldRow R
where_held (in_where r l q e w) = (_, _, _, r)

pub block_held : {O : List ExprNode → List Token → Type 0} {n : ℕ} {out : List ExprNode} {ts : List Token} → InBlock O n out ts → Held O
block_held (in_block o make) = (_, _, o)

pub over_finish : (start : State) (fs : List Frame) (n : ℕ) (out : List ExprNode) → fs ≡ [] → CoreFinish start (at fs (now.Over n) out)
over_finish start fs n out h = ([], out, λ p b. stop (subst (λ f. done (state (at f (now.Over n) out) p b) ≡ Some out) (sym h) (block_done n out p b)))

-- what is known where a block of equations is open on top, or an equation is read by itself
abbrev pub HeldBlock : Root → List Token → List Frame → Type 0
HeldBlock root top [] = Unit {0}
HeldBlock root top (frame.LetBinds begun place ∷ fs) = Held (AfterWord (Below root top fs) word.Let begun place)
HeldBlock root top (frame.Where name place patterns first before ∷ fs) = Held (InWhere (RowBelow root top fs) name before place patterns first)
HeldBlock root top (frame.Block ∷ fs) = fs ≡ []
HeldBlock root top (f ∷ fs) = ⊥

pub row_block : (root : Root) (top : List Token) (fs : List Frame) (n : ℕ) (out : List ExprNode) (ts : List Token) → RowBelow root top fs n out ts → HeldBlock root top fs
row_block root top [] n out ts r = tt
row_block root top (frame.LetBinds begun place ∷ fs) n out ts r = block_held r
row_block root top (frame.Where name place patterns first before ∷ fs) n out ts r = block_held r
row_block root top (frame.Block ∷ fs) n out ts r = r.0
row_block root top (f ∷ fs) n out ts r = r

pub row_in_block : (root : Root) (top : List Token) (fs : List Frame) → HeldRow (RowBelow root top fs) → HeldBlock root top fs
row_in_block root top fs h = row_block root top fs h.0 h.1 h.2 h.3

pub brace_block : (root : Root) (top : List Token) (fs : List Frame) (out : List ExprNode) (ts : List Token) → BraceBelow root top fs out ts → HeldBlock root top fs
brace_block root top (frame.LetBinds begun place ∷ fs) out ts b = (out, ts, b)
brace_block root top (frame.Where name place patterns first before ∷ fs) out ts b = (out, ts, b)
brace_block root top (frame.Block ∷ []) out ts b = refl
brace_block root top fs out ts b = absurd b

mutual
  -- what ends an expression inside these frames
  pub ends_of : PatLaws → (start : State) (root : Root) (top : List Token) (fs : List Frame) → Held (Below root top fs) → EndsFinish start fs
  ends_of laws start root top [] h first stands out = ([], out, λ current fs nodes ends p b. stop (ended_done current fs nodes p b ends refl))
  ends_of laws start root top (frame.Bracket spot place ∷ fs) h first stands out =
      closes start (mark 41) sort.Close _ _ refl refl refl (post_finish start fs spot place stands out (ends_of laws start root top fs (opened_held h.2)))
  ends_of laws start root top (frame.Second spot place ∷ fs) h first stands out =
      closes start (mark 41) sort.Close _ _ refl refl refl (post_finish start fs spot place place (put out (node.Pair place)) (ends_of laws start root top fs (second_held h.2)))
  ends_of laws start root top (frame.Field spot begins target n place name ∷ fs) h first stands out =
      closes start (mark 93) sort.CloseSquare _ _ refl refl refl (post_finish start fs spot begins begins (put (put out (node.Field place name)) (target_node target begins (n + 1))) (ends_of laws start root top fs (field_held h.2)))
  ends_of laws start root top (frame.Lambda begun place n ∷ fs) h first stands out = ends_of laws start root top fs (open_held h.2) (first_of begun) (run_at begun place) (end_run begun (put out (node.Lambda place n)))
  ends_of laws start root top (frame.LetBody begun place n ∷ fs) h first stands out = ends_of laws start root top fs (open_held h.2) (first_of begun) (run_at begun place) (end_run begun (put out (node.Let place n)))
  ends_of laws start root top (frame.Else begun place ∷ fs) h first stands out = ends_of laws start root top fs (open_held h.2) (first_of begun) (run_at begun place) (end_run begun (put out (node.If place)))
  ends_of laws start root top (frame.LetBinds begun place ∷ fs) h first stands out = absurd h.2
  ends_of laws start root top (frame.If begun place ∷ fs) h first stands out =
      closes start (word_token word.Then) sort.Then _ _ refl refl refl
      (want_finish laws start (frame.Then begun place ∷ fs) out (λ first2 stands2 out2.
      closes start (word_token word.Else) sort.Else _ _ refl refl refl
      (want_finish laws start (frame.Else begun place ∷ fs) out2 (λ first3 stands3 out3. ends_of laws start root top fs (word_held h.2) (first_of begun) (run_at begun place) (end_run begun (put out3 (node.If place)))))))
  ends_of laws start root top (frame.Then begun place ∷ fs) h first stands out =
      closes start (word_token word.Else) sort.Else _ _ refl refl refl
      (want_finish laws start (frame.Else begun place ∷ fs) out (λ first3 stands3 out3. ends_of laws start root top fs (then_held h.2) (first_of begun) (run_at begun place) (end_run begun (put out3 (node.If place)))))
  ends_of laws start root top (frame.Case begun place ∷ fs) h first stands out =
      closes start (word_token word.Of) sort.Of _ _ refl refl refl (case_finish laws start fs begun place out (ends_of laws start root top fs (word_held h.2)))
  ends_of laws start root top (frame.Alternative begun place n ∷ fs) h first stands out =
      closes start (mark 125) sort.CloseBrace _ _ refl refl refl (whole_finish start fs begun place _ (ends_of laws start root top fs (alt_held h.2)))
  ends_of laws start root top (frame.Row name place n before ∷ fs) h first stands out =
      row_ends start fs name place n before (block_ends laws start root top fs (row_in_block root top fs (row_held h.2))) first stands out
  ends_of laws start root top (frame.Where name place n f before ∷ fs) h first stands out = absurd h.2
  ends_of laws start root top (frame.Block ∷ fs) h first stands out = absurd h.2
  ends_of laws start root top (frame.Statement begun place n m ∷ fs) h first stands out =
      closes start (mark 125) sort.CloseBrace _ _ refl refl refl (whole_finish start fs begun place _ (ends_of laws start root top fs (statement_held h.2)))
  ends_of laws start root top (frame.Taken begun place n ∷ fs) h first stands out =
      closes_alone start (mark 59) sort.Semicolon _ _ refl refl refl refl (stmt_finish laws start fs begun place (n + 1) false (put out node.TakeStmt) (ends_of laws start root top fs (taken_held h.2)))

  -- what ends a block of equations inside these frames
  pub block_ends : PatLaws → (start : State) (root : Root) (top : List Token) (fs : List Frame) → HeldBlock root top fs → BlockFinish start fs
  block_ends laws start root top [] h = tt
  block_ends laws start root top (frame.LetBinds begun place ∷ fs) h = (
    record { top = frame.LetBinds begun place; below = fs; is = refl; after_block = λ n out. at fs (now.LetIn begun place n) out; ends = λ n out. refl },
    λ n out. let_in_finish laws start fs begun place n out (ends_of laws start root top fs (word_held h.2)),
  )
  block_ends laws start root top (frame.Where name place patterns first before ∷ fs) h = (
    record { top = frame.Where name place patterns first before; below = fs; is = refl; after_block = λ n out. at fs (now.RowEnd (before + 1)) (put out (node.Row name place patterns first n)); ends = λ n out. refl },
    λ n out. row_end start fs before (put out (node.Row name place patterns first n)) (block_ends laws start root top fs (row_in_block root top fs (where_held h.2))),
  )
  block_ends laws start root top (frame.Block ∷ fs) h =
      (record { top = frame.Block; below = fs; is = refl; after_block = λ n out. at fs (now.Over n) out; ends = λ n out. refl }, λ n out. over_finish start fs n out h)
  block_ends laws start root top (f ∷ fs) h = absurd h
