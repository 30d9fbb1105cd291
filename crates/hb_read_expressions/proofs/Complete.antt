-- The reader of expressions takes all that the grammar has: each derivation is a run. What holds before a token that is
-- taken holds on the way back, so each part hands on what is to hold after it.
use Rattle.std.proofs.Common.{◌≡◌, ℕ, zero, suc, ◌+◌, ◌<◌, Bool, true, false, List, [], ◌∷◌, ◌++◌, length, Some, None, refl, sym, ap, subst, ◌∙◌, arith}
use Rattle.hb_base.specs.declared.name.Name.{Name}
use Rattle.hb_base.specs.declared.place.Place.{Place}
use Rattle.hb_tokens.specs.declared.token.Token.{Token}
use Rattle.hb_tokens.specs.declared.word.Word.TheVariants as word
use Rattle.hb_tree.specs.Patterns.{Pat}
use Rattle.hb_tree.specs.Expressions.{Expr, Exprs, FieldExprs, Alts, NoAlts, MoreAlts, Stmts, Binds, Equations}
use Rattle.hb_grammar.specs.Tokens.{IsWord, IsCloseBrace, IsSemicolon, IsCloseSquare, first_place}
use Rattle.hb_grammar.specs.Patterns.{ReadsPat, apat_more}
use Rattle.hb_grammar.specs.Expressions.{place_of, pats_list, ReadsExpr, operand, operands, ReadsOperands, last_operand, more_operands, ReadsLast, closed, opened, ReadsOpen, lambda, let_expr, if_expr, case_expr, do_expr, ReadsApply, AppliesTo, no_argument, argument, ReadsPost, post_atom, con_alone, con_select, build, build_empty, Follows, nothing_follows, selected, updated, ReadsFieldExprs, last_field, more_fields, ReadsAtom, atom_name, atom_number, atom_bits, atom_unit, atom_inside, atom_pair, ReadsBinds, binds, ReadsMoreBinds, no_bind, empty_bind, last_bind, more_binds, ReadsEquation, plain, with_where, ReadsAlts, alts, ReadsMoreAlts, no_alt, empty_alt, last_alt, more_alts, ReadsStmts, stmts, ReadsMoreStmts, empty_stmt, take_stmt, let_stmt, do_stmt, last_stmt, OnlyCloses, closing, empty_closing}
use Rattle.hb_grammar.specs.Expressions.ReadsApply.{applied as post_applied}
use Rattle.hb_grammar.specs.Expressions.ReadsName.{var, op as op_name}
use Rattle.hb_grammar.specs.Reading.{at_start, after}
use Rattle.hb_read_patterns.specs.declared.node.PatNode.{PatNode}
use Rattle.hb_read_patterns.specs.declared.reader.PatReader.{PatReader}
use Rattle.hb_read_patterns.specs.Sorts.{sort_of as pat_sort_of}
use Rattle.hb_read_patterns.specs.Nodes.{pat_nodes}
use Rattle.hb_read_patterns.specs.Moves.{pat_reader, moved as pat_move, done as pat_done}
use Rattle.hb_read_expressions.specs.declared.node.ExprNode.{ExprNode}
use Rattle.hb_read_expressions.specs.declared.node.ExprNode.TheVariants as node
use Rattle.hb_read_expressions.specs.declared.sort.Sort.{Sort}
use Rattle.hb_read_expressions.specs.declared.sort.Sort.TheVariants as sort
use Rattle.hb_read_expressions.specs.declared.frame.Begun.{Begun}
use Rattle.hb_read_expressions.specs.declared.frame.Begun.TheVariants.{First, After}
use Rattle.hb_read_expressions.specs.declared.frame.Spot.{Spot}
use Rattle.hb_read_expressions.specs.declared.frame.Spot.TheVariants.{Head, Argument}
use Rattle.hb_read_expressions.specs.declared.frame.Target.{Target}
use Rattle.hb_read_expressions.specs.declared.frame.Target.TheVariants.{Build, Update}
use Rattle.hb_read_expressions.specs.declared.frame.Frame.{Frame}
use Rattle.hb_read_expressions.specs.declared.frame.Frame.TheVariants as frame
use Rattle.hb_read_expressions.specs.declared.now.Purpose.TheVariants.{ForLambda}
use Rattle.hb_read_expressions.specs.declared.now.Now.{Now}
use Rattle.hb_read_expressions.specs.declared.now.Now.TheVariants as now
use Rattle.hb_read_expressions.specs.Nodes.{put, wrapped, put_pat, put_pats, pats_from, exprs_from, fields_from, alts_from, stmts_from, binds_from, rows_from, put_expr, put_run, puts, put_fields, put_alts, put_stmts, put_binds, put_rows}
use Rattle.hb_read_expressions.specs.Sorts.{sort_of}
use Rattle.hb_read_expressions.specs.declared.state.Core.{Core}
use Rattle.hb_read_expressions.specs.declared.state.State.{State}
use Rattle.hb_read_expressions.specs.States.{at, state}
use Rattle.hb_read_expressions.specs.Ends.{end_operand, ended, settle, end_binds, row_next, target_node}
use Rattle.hb_read_expressions.specs.Outside.{move_core, begin_post, begin_operand}
use Rattle.hb_read_expressions.specs.Inside.{in_pattern, if_done, with_pats, alt_arrow, end_case, move_alt_start, move_bind_start}
use Rattle.hb_read_expressions.specs.Statements.{move_stmt_start, move_both, both}
use Rattle.hb_read_expressions.specs.Moves.{moved}
use Rattle.hb_read_expressions.proofs.Sorting.{Means, means, sort_var}
use Rattle.hb_read_expressions.proofs.PatStops.{other_stops, start_other, pat_not_start}
use Rattle.hb_read_expressions.proofs.Steps.{Closed, All, Alone, then_all, then_alone, go, go_alone, both_takes, Posted, post, con, sealed, Applied, applied, applied_ends, whole_ends, EndsHold, close_by, close_alone, Starts, head_starts, operand_starts, want_starts, opened_starts, argument_starts}
use Rattle.hb_read_expressions.proofs.Params.{PatLaws, one_param, params, params_end, runs_in, none_some}
use Rattle.hb_read_expressions.proofs.Rows.{infix_goes, start_param, left, first, first_move}
use Rattle.hb_read_expressions.proofs.Heads.{AHead, headed, headed_runs, arrow_moves, at_head}

-- what is to hold after a post, and after an application
abbrev PostedHold : (State → List Token → Type 0) → Spot → List Frame → Place → List ExprNode → List Token → Type 0
PostedHold Q spot frames stands out ts = (current : Now) (nodes : List ExprNode) → Posted spot current nodes stands out → All Q (at frames current nodes) ts

abbrev AppliedHold : (State → List Token → Type 0) → Begun → List Frame → Place → List ExprNode → List Token → Type 0
AppliedHold Q begun frames stands out ts = (current : Now) (nodes : List ExprNode) → Applied begun current nodes stands out → All Q (at frames current nodes) ts

-- after the last of some fields
abbrev FieldsHold : (State → List Token → Type 0) → Spot → Place → Target → List Frame → ℕ → List ExprNode → List Token → Type 0
FieldsHold Q spot first target frames count out ts = (n : ℕ) (place : Place) (name : Name) (nodes : List ExprNode) (begins stands : Place) → n + 1 ≡ count → put nodes (node.Field place name) ≡ out → EndsHold Q (ended (frame.Field spot first target n place name ∷ frames) begins stands nodes) ts

-- after an equation: in its expression, or after its local equations
pub record RowHold (Q : State → List Token → Type 0) (frames : List Frame) (before : ℕ) (out : List ExprNode) (ts : List Token) : Type 0 where
  pub open_row : (name : Name) (place : Place) (patterns : ℕ) (first stands : Place) (nodes : List ExprNode) → put nodes (node.Row name place patterns first 0) ≡ out → EndsHold Q (ended (frame.Row name place patterns before ∷ frames) first stands nodes) ts
  pub closed_row : All Q (at frames (now.RowEnd (before + 1)) out) ts

-- the block of equations that is open on top ends so
pub record BlockEnds (frames : List Frame) : Type 0 where
  pub top : Frame
  pub below : List Frame
  pub is : frames ≡ top ∷ below
  pub after_block : ℕ → List ExprNode → Core
  pub ends : (n : ℕ) (nodes : List ExprNode) → end_binds frames n nodes ≡ Some (after_block n nodes)

block_next : (frames : List Frame) (b : BlockEnds frames) (n : ℕ) (nodes : List ExprNode) → row_next frames n nodes sort.Semicolon ≡ Some (at frames (now.BindStart n) nodes)
block_next frames b n nodes = subst (λ f. row_next f n nodes sort.Semicolon ≡ Some (at f (now.BindStart n) nodes)) (sym b.is) refl

block_end : (frames : List Frame) (b : BlockEnds frames) (n : ℕ) (nodes : List ExprNode) → row_next frames n nodes sort.CloseBrace ≡ Some (b.after_block n nodes)
block_end frames b n nodes = subst (λ f. row_next f n nodes sort.CloseBrace ≡ end_binds f n nodes) (sym b.is) refl ∙ b.ends n nodes

-- an equation and `;`, or `}`
row_then : {Q : State → List Token → Type 0} {t : Token} {ts : List Token} → Closed Q → (frames : List Frame) (b : BlockEnds frames) (before : ℕ) (out : List ExprNode) → IsSemicolon t → Alone Q (at frames (now.BindStart (before + 1)) out) ts → RowHold Q frames before out (t ∷ ts)
row_then {Q = Q} {ts = ts} k frames b before out h rest = record {
  open_row = λ name place patterns first stands nodes e.
      close_alone k sort.Semicolon (ap sort_of h) (ap pat_sort_of h) refl (block_next frames b (before + 1) (put nodes (node.Row name place patterns first 0)))
      (subst (λ o. Alone Q (at frames (now.BindStart (before + 1)) o) ts) (sym e) rest);
  closed_row = go_alone k (λ frames nodes pats t. refl) sort.Semicolon (ap sort_of h) (ap pat_sort_of h) refl (block_next frames b (before + 1) out) rest;
}

pub row_last : {Q : State → List Token → Type 0} {t : Token} {ts : List Token} → Closed Q → (frames : List Frame) (b : BlockEnds frames) (before : ℕ) (out : List ExprNode) → IsCloseBrace t → All Q (b.after_block (before + 1) out) ts → RowHold Q frames before out (t ∷ ts)
row_last {Q = Q} {ts = ts} k frames b before out h rest = record {
  open_row = λ name place patterns first stands nodes e.
      close_by k sort.CloseBrace (ap sort_of h) refl (block_end frames b (before + 1) (put nodes (node.Row name place patterns first 0)))
      (subst (λ o. All Q (b.after_block (before + 1) o) ts) (sym e) rest);
  closed_row = go k (λ frames nodes pats t. refl) sort.CloseBrace (ap sort_of h) refl (block_end frames b (before + 1) out) rest;
}

-- between equations
bind_semicolon : (t : Token) → IsSemicolon t → (frames : List Frame) (b : BlockEnds frames) (n : ℕ) (nodes : List ExprNode) (pats : PatReader) → moved (state (at frames (now.BindStart n) nodes) pats false) t ≡ Some (state (at frames (now.BindStart n) nodes) pats false)
unfolding moved
bind_semicolon t h frames b n nodes pats = ap (λ kind. move_bind_start n frames nodes pats t (sort_of kind)) h ∙ ap (with_pats pats) (block_next frames b n nodes)

bind_close : (t : Token) → IsCloseBrace t → (frames : List Frame) (b : BlockEnds frames) (n : ℕ) (nodes : List ExprNode) (pats : PatReader) → moved (state (at frames (now.BindStart n) nodes) pats false) t ≡ Some (state (b.after_block n nodes) pats false)
unfolding moved
bind_close t h frames b n nodes pats = ap (λ kind. move_bind_start n frames nodes pats t (sort_of kind)) h ∙ ap (with_pats pats) (block_end frames b n nodes)

-- the end of alternatives: one is there, or is to come
abbrev pub SomeAlt : ℕ → Alts → Type 0
SomeAlt n NoAlts = 0 < n
SomeAlt n (MoreAlts p e all) = Unit {0}

pub some_more : (n : ℕ) (all : Alts) → SomeAlt (n + 1) all
some_more n NoAlts = omega arith
some_more n (MoreAlts p e all) = tt

case_ends : (begun : Begun) (place : Place) (n : ℕ) (frames : List Frame) (nodes : List ExprNode) → 0 < n → end_case begun place n frames nodes ≡ Some (at frames (now.Whole begun place) (put nodes (node.Case place n)))
case_ends begun place zero frames nodes h = absurd (omega arith)
case_ends begun place (suc n) frames nodes h = refl

alt_semicolon : (t : Token) → IsSemicolon t → (begun : Begun) (place : Place) (n : ℕ) (frames : List Frame) (nodes : List ExprNode) (pats : PatReader) → moved (state (at frames (now.AltStart begun place n) nodes) pats false) t ≡ Some (state (at frames (now.AltStart begun place n) nodes) pats false)
unfolding moved
alt_semicolon t h begun place n frames nodes pats = ap (λ kind. move_alt_start begun place n frames nodes pats t (sort_of kind)) h

alt_close : (t : Token) → IsCloseBrace t → (begun : Begun) (place : Place) (n : ℕ) (frames : List Frame) (nodes : List ExprNode) (pats : PatReader) → 0 < n → moved (state (at frames (now.AltStart begun place n) nodes) pats false) t ≡ Some (state (at frames (now.Whole begun place) (put nodes (node.Case place n))) pats false)
unfolding moved
alt_close t h begun place n frames nodes pats some = ap (λ kind. move_alt_start begun place n frames nodes pats t (sort_of kind)) h ∙ ap (with_pats pats) (case_ends begun place n frames nodes some)

stmt_semicolon : (t : Token) → IsSemicolon t → (begun : Begun) (place : Place) (n : ℕ) (may_end : Bool) (frames : List Frame) (nodes : List ExprNode) (pats : PatReader) → moved (state (at frames (now.StmtStart begun place n may_end) nodes) pats false) t ≡ Some (state (at frames (now.StmtStart begun place n may_end) nodes) pats false)
unfolding moved
stmt_semicolon t h begun place n may_end frames nodes pats = ap (λ kind. move_stmt_start begun place n may_end frames nodes pats t (sort_of kind)) h

stmt_close : (t : Token) → IsCloseBrace t → (begun : Begun) (place : Place) (n : ℕ) (frames : List Frame) (nodes : List ExprNode) (pats : PatReader) → moved (state (at frames (now.StmtStart begun place n true) nodes) pats false) t ≡ Some (state (at frames (now.Whole begun place) (put nodes (node.Do place n))) pats false)
unfolding moved
stmt_close t h begun place n frames nodes pats = ap (λ kind. move_stmt_start begun place n true frames nodes pats t (sort_of kind)) h

-- the pattern of an alternative and its arrow
alt_first : (begun : Begun) (place : Place) (n : ℕ) (frames : List Frame) (nodes : List ExprNode) (pats r : PatReader) (t : Token) → pat_move pat_reader.start t ≡ Some r → moved (state (at frames (now.AltStart begun place n) nodes) pats false) t ≡ Some (state (at frames (now.AltPat begun place n) nodes) r false)
unfolding moved
alt_first begun place n frames nodes pats r t g = by_sort (sort_of t.kind) (means t) ∙ ap (λ o. in_pattern (at frames (now.AltPat begun place n) nodes) o None) g where
  by_sort : (x : Sort) → Means x t → move_alt_start begun place n frames nodes pats t x ≡ in_pattern (at frames (now.AltPat begun place n) nodes) (pat_reader.move pat_reader.start t) None
  by_sort sort.Semicolon m = absurd (none_some (other_stops pat_reader.start t (ap pat_sort_of m)) g)
  by_sort sort.CloseBrace m = absurd (none_some (other_stops pat_reader.start t (ap pat_sort_of m)) g)
  by_sort x m = refl

pub alt_inside : (begun : Begun) (place : Place) (n : ℕ) (frames : List Frame) (nodes : List ExprNode) (pats r : PatReader) (t : Token) → pat_move pats t ≡ Some r → moved (state (at frames (now.AltPat begun place n) nodes) pats false) t ≡ Some (state (at frames (now.AltPat begun place n) nodes) r false)
unfolding moved
alt_inside begun place n frames nodes pats r t g = ap (λ o. in_pattern (at frames (now.AltPat begun place n) nodes) o (if_done (pat_done pats) (λ pat_nodes. with_pats pats (alt_arrow begun place n frames (nodes ++ wrapped pat_nodes) (sort_of t.kind))))) g

pub alt_arrow_moves : (begun : Begun) (place : Place) (n : ℕ) (frames : List Frame) (nodes : List ExprNode) (pats : PatReader) (out : List PatNode) (t : Token) → IsWord word.RightArrow t → pat_done pats ≡ Some out → moved (state (at frames (now.AltPat begun place n) nodes) pats false) t ≡ Some (state (at (frame.Alternative begun place n ∷ frames) now.Want (nodes ++ wrapped out)) pats false)
unfolding moved
alt_arrow_moves begun place n frames nodes pats out t h d =
    ap (λ o. in_pattern (at frames (now.AltPat begun place n) nodes) o (if_done (pat_done pats) (λ pat_nodes. with_pats pats (alt_arrow begun place n frames (nodes ++ wrapped pat_nodes) (sort_of t.kind))))) (other_stops pats t (ap pat_sort_of h))
    ∙ ap (λ o. if_done o (λ pat_nodes. with_pats pats (alt_arrow begun place n frames (nodes ++ wrapped pat_nodes) (sort_of t.kind)))) d
    ∙ ap (λ kind. with_pats pats (alt_arrow begun place n frames (nodes ++ wrapped out) (sort_of kind))) h

alt_goes : {Q : State → List Token → Type 0} {ts us : List Token} {t : Token} {p : Pat} → PatLaws → Closed Q → ReadsPat ts p (t ∷ us) → IsWord word.RightArrow t → (begun : Begun) (place : Place) (n : ℕ) (frames : List Frame) (nodes : List ExprNode) → Alone Q (at (frame.Alternative begun place n ∷ frames) now.Want (put_pat p nodes)) us → Alone Q (at frames (now.AltStart begun place n) nodes) ts
alt_goes {Q = Q} {ts = ts} {us = us} {t = t} {p = p} laws k d h begun place n frames nodes rest pats =
    goes (first pat_not_start (laws.pat.complete (record { pat = p; reads = d; is = refl }))) where
      goes : {vs : List Token} → first_move pat_reader pat_reader.start (pat_nodes p) (t ∷ us) vs → Q (state (at frames (now.AltStart begun place n) nodes) pats false) vs
      goes (first_move.first_taken {t = s} {r = r} g runs) = k.taken (alt_first begun place n frames nodes pats r s g)
          (runs_in k (alt_inside begun place n frames nodes) runs (after at_start g)
          (λ z reached e. k.taken (alt_arrow_moves begun place n frames nodes z (pat_nodes p) t h e) (rest z)))

-- the pattern of a statement and its arrow
stmt_first : (begun : Begun) (place : Place) (n : ℕ) (may_end : Bool) (frames : List Frame) (nodes : List ExprNode) (pats r : PatReader) (t : Token) → pat_move pat_reader.start t ≡ Some r → moved (state (at frames (now.StmtStart begun place n may_end) nodes) pats false) t ≡ move_both (at (frame.Statement begun place n (length nodes) ∷ frames) now.Want nodes) pat_reader.start t (sort_of t.kind)
unfolding moved
stmt_first begun place n may_end frames nodes pats r t g = by_sort (sort_of t.kind) (means t) where
  by_sort : (x : Sort) → Means x t → move_stmt_start begun place n may_end frames nodes pats t x ≡ move_both (at (frame.Statement begun place n (length nodes) ∷ frames) now.Want nodes) pat_reader.start t x
  by_sort sort.Semicolon m = absurd (none_some (other_stops pat_reader.start t (ap pat_sort_of m)) g)
  by_sort sort.CloseBrace m = absurd (none_some (other_stops pat_reader.start t (ap pat_sort_of m)) g)
  by_sort x m = refl

take_goes : {Q : State → List Token → Type 0} {ts us : List Token} {t : Token} {p : Pat} → PatLaws → Closed Q → ReadsPat ts p (t ∷ us) → IsWord word.LeftArrow t → (begun : Begun) (place : Place) (n : ℕ) (may_end : Bool) (frames : List Frame) (nodes : List ExprNode) → Alone Q (at (frame.Taken begun place n ∷ frames) now.Want (put_pat p nodes)) us → Alone Q (at frames (now.StmtStart begun place n may_end) nodes) ts
take_goes {Q = Q} {ts = ts} {us = us} {t = t} {p = p} laws k d h begun place n may_end frames nodes rest pats =
    goes (first pat_not_start (laws.pat.complete (record { pat = p; reads = d; is = refl }))) where
      the_head : AHead
      the_head = record { begun = begun; place = place; statements = n; frames = frames; nodes = nodes }

      goes : {vs : List Token} → first_move pat_reader pat_reader.start (pat_nodes p) (t ∷ us) vs → Q (state (at frames (now.StmtStart begun place n may_end) nodes) pats false) vs
      goes (first_move.first_taken {t = s} {r = r} g runs) =
          let m = headed the_head (at (frame.Statement begun place n (length nodes) ∷ frames) now.Want nodes) pat_reader.start r s (sort_of s.kind) (means s) (at_head begun place n frames nodes) g in
          k.taken (stmt_first begun place n may_end frames nodes pats r s g ∙ m.1)
          (headed_runs k the_head runs (after at_start g) (λ z y e i. k.taken (arrow_moves the_head z y t h e i) (rest z)) m.0 m.2)

-- the expression of a statement
stmt_starts : (begun : Begun) (place : Place) (n : ℕ) (may_end : Bool) (frames : List Frame) (nodes : List ExprNode) (pats : PatReader) (ts : List Token) → Starts (begin_operand (First (first_place ts)) (frame.Statement begun place n (length nodes) ∷ frames) nodes) ts (state (at frames (now.StmtStart begun place n may_end) nodes) pats false)
unfolding moved
stmt_starts begun place n may_end frames nodes pats [] = tt
stmt_starts begun place n may_end frames nodes pats (t ∷ ts) = λ x core h moves.
    let b = both_takes core0 core pat_reader.start (pat_reader.move pat_reader.start t) in
    record {
      pats = b.0;
      beside = b.1;
      alone = λ o. b.3 (other_stops pat_reader.start t o);
      moves = ap (move_stmt_start begun place n may_end frames nodes pats t) h ∙ by_sort x core moves ∙ b.2;
    } where
      core0 : Core
      core0 = at (frame.Statement begun place n (length nodes) ∷ frames) now.Want nodes

      by_sort : (x : Sort) (core : Core) → begin_operand (First t.place) (frame.Statement begun place n (length nodes) ∷ frames) nodes t.place x ≡ Some core → move_stmt_start begun place n may_end frames nodes pats t x ≡ both core0 (Some core) pat_reader.start (pat_reader.move pat_reader.start t)
      by_sort sort.Semicolon core e = absurd (cc)
      by_sort sort.CloseBrace core e = absurd (cc)
      by_sort sort.LeftArrow core e = absurd (cc)
      by_sort x core e = ap (λ c. both core0 c pat_reader.start (pat_reader.move pat_reader.start t)) e

only_closes : {Q : State → List Token → Type 0} {ts us : List Token} → Closed Q → OnlyCloses ts us → (begun : Begun) (place : Place) (n : ℕ) (frames : List Frame) (nodes : List ExprNode) → All Q (at frames (now.Whole begun place) (put nodes (node.Do place n))) us → Alone Q (at frames (now.StmtStart begun place n true) nodes) ts
only_closes k (closing {t = t} h) begun place n frames nodes rest pats = k.taken (stmt_close t h begun place n frames nodes pats) (rest pats false)
only_closes k (empty_closing {t = t} h more) begun place n frames nodes rest pats = k.taken (stmt_semicolon t h begun place n true frames nodes pats) (only_closes k more begun place n frames nodes rest pats)

-- an expression statement and what ends the block
last_stmt_hold : {Q : State → List Token → Type 0} {ts us : List Token} → Closed Q → OnlyCloses ts us → (begun : Begun) (place : Place) (n mark : ℕ) (frames : List Frame) (first stands : Place) (nodes : List ExprNode) → All Q (at frames (now.Whole begun place) (put (put nodes node.DoStmt) (node.Do place (n + 1)))) us → EndsHold Q (ended (frame.Statement begun place n mark ∷ frames) first stands nodes) ts
last_stmt_hold k (closing {t = t} h) begun place n mark frames first stands nodes rest = close_by k sort.CloseBrace (ap sort_of h) refl refl rest
last_stmt_hold k (empty_closing {t = t} h more) begun place n mark frames first stands nodes rest =
    close_alone k sort.Semicolon (ap sort_of h) (ap pat_sort_of h) refl refl (only_closes k more begun place (n + 1) frames (put nodes node.DoStmt) rest)

-- an expression where one is to come, by what its derivation does
pub from_want : {Q : State → List Token → Type 0} {ts us : List Token} {e : Expr} → Closed Q → ReadsExpr ts e us → ((frames : List Frame) (nodes : List ExprNode) (s : State) → Starts (begin_operand (First (first_place ts)) frames nodes) ts s → EndsHold Q (settle frames (first_place ts) (place_of e) (put_expr e nodes)) us → Q s ts) → (frames : List Frame) (nodes : List ExprNode) → EndsHold Q (settle frames (first_place ts) (place_of e) (put_expr e nodes)) us → All Q (at frames now.Want nodes) ts
from_want {ts = ts} k d f frames nodes rest pats beside = f frames nodes (state (at frames now.Want nodes) pats beside) (want_starts frames nodes pats beside ts) rest

pub field_equals : {Q : State → List Token → Type 0} {t : Token} {ts : List Token} → Closed Q → IsWord word.Equals t → (spot : Spot) (begins : Place) (target : Target) (n : ℕ) (place : Place) (name : Name) (frames : List Frame) (nodes : List ExprNode) → All Q (at (frame.Field spot begins target n place name ∷ frames) now.Want nodes) ts → All Q (at frames (now.FieldName spot begins target n place name) nodes) (t ∷ ts)
field_equals k h spot begins target n place name frames nodes rest = go k (λ frames nodes pats t. refl) sort.Equals (ap sort_of h) refl refl rest

pub first_name : (spot : Spot) (begins : Place) (target : Target) (frames : List Frame) (nodes : List ExprNode) (place : Place) (name : Name) → move_core (now.FirstField spot begins target) frames nodes place (sort.Variable name) ≡ Some (at frames (now.FieldName spot begins target 0 place name) nodes)
first_name spot begins (Build c) frames nodes place name = refl
first_name spot begins Update frames nodes place name = refl

-- the end of fields
fields_end : {Q : State → List Token → Type 0} {t : Token} {ts : List Token} {count : ℕ} {out : List ExprNode} → Closed Q → (spot : Spot) (begins : Place) (target : Target) (frames : List Frame) → IsCloseSquare t → All Q (at frames (now.Post spot begins begins) (put out (target_node target begins count))) ts → FieldsHold Q spot begins target frames count out (t ∷ ts)
fields_end {Q = Q} {ts = ts} {out = out} k spot begins target frames c rest n place name nodes b stands e g =
    let back : All Q (at frames (now.Post spot begins begins) (put (put nodes (node.Field place name)) (target_node target begins (n + 1)))) ts =
    subst (λ o. All Q (at frames (now.Post spot begins begins) (put o (target_node target begins (n + 1)))) ts) (sym g) (subst (λ m. All Q (at frames (now.Post spot begins begins) (put out (target_node target begins m))) ts) (sym e) rest) in
    close_by k sort.CloseSquare (ap sort_of c) refl refl back

-- an equation is one row
pub one_row : {ts us : List Token} {name : Name} {row : Equations} → ReadsEquation ts name row us → (n : ℕ) → rows_from n row ≡ n + 1
one_row (plain l h d) n = refl
one_row (with_where l h d w b) n = refl

mutual
  pub expr : {Q : State → List Token → Type 0} {ts us : List Token} {e : Expr} → PatLaws → Closed Q → ReadsExpr ts e us → (frames : List Frame) (nodes : List ExprNode) (s : State) → Starts (begin_operand (First (first_place ts)) frames nodes) ts s → EndsHold Q (settle frames (first_place ts) (place_of e) (put_expr e nodes)) us → Q s ts
  expr laws k (operand {ts = ts} l) frames nodes s starts rest = last laws k l (First (first_place ts)) frames nodes s starts rest
  expr laws k (operands {ts = ts} {us = us} {vs = vs} {place = place} {name = name} {e = e} a i r) frames nodes s starts rest =
      apply laws k a (First (first_place ts)) frames nodes s (head_starts (First (first_place ts)) frames nodes ts s starts)
      (λ current out done. infix_goes k i done frames
      (λ pats beside. run laws k r (first_place ts) 1 frames (put (put_expr e nodes) (node.Var place name)) (state (at frames (now.Operand (After (first_place ts) 1)) (put (put_expr e nodes) (node.Var place name))) pats beside)
      (operand_starts (After (first_place ts) 1) frames (put (put_expr e nodes) (node.Var place name)) pats beside vs) rest))

  run : {Q : State → List Token → Type 0} {ts us : List Token} {es os : Exprs} → PatLaws → Closed Q → ReadsOperands ts es os us → (begins : Place) (n : ℕ) (frames : List Frame) (nodes : List ExprNode) (s : State) → Starts (begin_operand (After begins n) frames nodes) ts s → EndsHold Q (settle frames begins begins (put (put_run es (puts os) nodes) (node.Run begins (exprs_from n os)))) us → Q s ts
  run laws k (last_operand l) begins n frames nodes s starts rest = last laws k l (After begins n) frames nodes s starts rest
  run laws k (more_operands {ts = ts} {vs = vs} {place = place} {name = name} {e = e} a i r) begins n frames nodes s starts rest =
      apply laws k a (After begins n) frames nodes s (head_starts (After begins n) frames nodes ts s starts)
      (λ current out done. infix_goes k i done frames
      (λ pats beside. run laws k r begins (n + 1) frames (put (put_expr e nodes) (node.Var place name)) (state (at frames (now.Operand (After begins (n + 1))) (put (put_expr e nodes) (node.Var place name))) pats beside)
      (operand_starts (After begins (n + 1)) frames (put (put_expr e nodes) (node.Var place name)) pats beside vs) rest))

  pub last : {Q : State → List Token → Type 0} {ts us : List Token} {e : Expr} → PatLaws → Closed Q → ReadsLast ts e us → (begun : Begun) (frames : List Frame) (nodes : List ExprNode) (s : State) → Starts (begin_operand begun frames nodes) ts s → EndsHold Q (end_operand frames begun (place_of e) (put_expr e nodes)) us → Q s ts
  last laws k (closed {ts = ts} a) begun frames nodes s starts rest =
      apply laws k a begun frames nodes s (head_starts begun frames nodes ts s starts) (λ current out done. rest current frames out (applied_ends done frames))
  last laws k (opened o) begun frames nodes s starts rest = open_form laws k o begun frames nodes s starts rest

  open_form : {Q : State → List Token → Type 0} {ts us : List Token} {e : Expr} → PatLaws → Closed Q → ReadsOpen ts e us → (begun : Begun) (frames : List Frame) (nodes : List ExprNode) (s : State) → Starts (begin_operand begun frames nodes) ts s → EndsHold Q (end_operand frames begun (place_of e) (put_expr e nodes)) us → Q s ts
  open_form laws k (lambda {t = t} {s = r} {us = us} {p = p} {ps = ps} {e = e} h (apat_more a more) g body) begun frames nodes s starts rest =
      then_alone k (starts sort.Backslash (at frames (now.ParamStart (ForLambda begun t.place) 0) nodes) (ap sort_of h) refl) (ap pat_sort_of h)
      (λ pats. one_param (ForLambda begun t.place) 0 frames nodes (state (at frames (now.ParamStart (ForLambda begun t.place) 0) nodes) pats false) laws k a
      (λ x y ws e2 follow m. start_param (ForLambda begun t.place) 0 frames nodes pats y x m)
      (λ z next. params laws k more (ForLambda begun t.place) (λ count frames nodes pats t. refl) 1 frames (put_pat p nodes) z next
      (λ w end. then_all k (params_end (ForLambda begun t.place) (pats_from 1 (pats_list ps)) frames (put_pats (pats_list ps) (put_pat p nodes)) r us (λ count frames nodes pats t. refl) end sort.RightArrow (ap sort_of g) refl (start_other r (ap pat_sort_of g)) refl)
      (from_want k body (expr laws k body) (frame.Lambda begun t.place (pats_from 1 (pats_list ps)) ∷ frames) (put_pats (pats_list ps) (put_pat p nodes)) rest))))
  open_form laws k (let_expr {t = t} {us = us} {bs = bs} h b g body) begun frames nodes s starts rest =
      let n = binds_from 0 bs in let out = put_binds bs nodes in
      then_all k (starts sort.Let (at (frame.LetBinds begun t.place ∷ frames) now.BindsBrace nodes) (ap sort_of h) refl)
      (block laws k b (frame.LetBinds begun t.place ∷ frames) (record { top = frame.LetBinds begun t.place; below = frames; is = refl; after_block = λ n out. at frames (now.LetIn begun t.place n) out; ends = λ n out. refl }) nodes
      (go k (λ frames nodes pats t. refl) sort.In (ap sort_of g) refl refl
      (from_want k body (expr laws k body) (frame.LetBody begun t.place n ∷ frames) out rest)))
  open_form laws k (if_expr {t = t} {ts = ts} {us = us} {vs = vs} {c = c} {a = a} h d g f j b) begun frames nodes s starts rest =
      then_all k (starts sort.If (at (frame.If begun t.place ∷ frames) now.Want nodes) (ap sort_of h) refl)
      (from_want k d (expr laws k d) (frame.If begun t.place ∷ frames) nodes
      (close_by k sort.Then (ap sort_of g) refl refl
      (from_want k f (expr laws k f) (frame.Then begun t.place ∷ frames) (put_expr c nodes)
      (close_by k sort.Else (ap sort_of j) refl refl
      (from_want k b (expr laws k b) (frame.Else begun t.place ∷ frames) (put_expr a (put_expr c nodes)) rest)))))
  open_form laws k (case_expr {t = t} {ts = ts} {e = e} h d g all) begun frames nodes s starts rest =
      then_all k (starts sort.Case (at (frame.Case begun t.place ∷ frames) now.Want nodes) (ap sort_of h) refl)
      (from_want k d (expr laws k d) (frame.Case begun t.place ∷ frames) nodes
      (close_by k sort.Of (ap sort_of g) refl refl
      (alternatives laws k all begun t.place frames (put_expr e nodes) (λ pats beside. rest (now.Whole begun t.place) frames _ (whole_ends begun t.place frames _) pats beside))))
  open_form laws k (do_expr {t = t} h all) begun frames nodes s starts rest =
      then_all k (starts sort.Do (at frames (now.DoBrace begun t.place) nodes) (ap sort_of h) refl)
      (statements laws k all begun t.place frames nodes (λ pats beside. rest (now.Whole begun t.place) frames _ (whole_ends begun t.place frames _) pats beside))

  apply : {Q : State → List Token → Type 0} {ts us : List Token} {e : Expr} → PatLaws → Closed Q → ReadsApply ts e us → (begun : Begun) (frames : List Frame) (nodes : List ExprNode) (s : State) → Starts (begin_post (Head begun) frames nodes) ts s → AppliedHold Q begun frames (place_of e) (put_expr e nodes) us → Q s ts
  apply laws k (post_applied p a) begun frames nodes s starts rest =
      a_post laws k p (Head begun) frames nodes s starts
      (λ current out whole pats beside. applies laws k a begun frames nodes current out pats beside (applied whole) rest)

  applies : {Q : State → List Token → Type 0} {ts us : List Token} {f e : Expr} → PatLaws → Closed Q → AppliesTo f ts e us → (begun : Begun) (frames : List Frame) (nodes : List ExprNode) (current : Now) (out : List ExprNode) (pats : PatReader) (beside : Bool) → Applied begun current out (place_of f) (put_expr f nodes) → AppliedHold Q begun frames (place_of e) (put_expr e nodes) us → Q (state (at frames current out) pats beside) ts
  applies laws k no_argument begun frames nodes current out pats beside done rest = rest current out done pats beside
  applies laws k (argument {f = f} {ts = ts} p a) begun frames nodes current out pats beside done rest =
      a_post laws k p (Argument begun) frames (put_expr f nodes) (state (at frames current out) pats beside) (argument_starts done frames pats beside ts)
      (λ next out2 whole pats2 beside2. applies laws k a begun frames nodes next out2 pats2 beside2 (applied whole) rest)

  a_post : {Q : State → List Token → Type 0} {ts us : List Token} {e : Expr} → PatLaws → Closed Q → ReadsPost ts e us → (spot : Spot) (frames : List Frame) (nodes : List ExprNode) (s : State) → Starts (begin_post spot frames nodes) ts s → PostedHold Q spot frames (place_of e) (put_expr e nodes) us → Q s ts
  a_post laws k (post_atom {ts = ts} {a = a} d f) spot frames nodes s starts rest = an_atom laws k d spot frames nodes s starts (λ pats beside. follows laws k f spot frames nodes rest pats beside)
  a_post laws k (con_alone {t = t} {name = name} h) spot frames nodes s starts rest =
      then_all k (starts (sort.Constructor name) (at frames (now.Con spot t.place name) nodes) (ap sort_of h) refl) (rest (now.Con spot t.place name) nodes con)
  a_post laws k (con_select {t = t} {s = r} {name = name} {field = field} h g m f) spot frames nodes s starts rest =
      then_all k (starts (sort.Constructor name) (at frames (now.Con spot t.place name) nodes) (ap sort_of h) refl)
      (go k (λ frames nodes pats t. refl) sort.Dot (ap sort_of g) refl refl
      (go k (λ frames nodes pats t. refl) (sort.Variable field) (sort_var m) refl refl (follows laws k f spot frames nodes rest)))
  a_post laws k (build {t = t} {ts = ts} {name = name} {fs = fs} h g d c f) spot frames nodes s starts rest =
      then_all k (starts (sort.Constructor name) (at frames (now.Con spot t.place name) nodes) (ap sort_of h) refl)
      (go k (λ frames nodes pats t. refl) sort.OpenSquare (ap sort_of g) refl refl
      (first_fields laws k d spot t.place (Build name) frames nodes (fields_end k spot t.place (Build name) frames c (follows laws k f spot frames nodes rest))))
  a_post laws k (build_empty {t = t} {name = name} h g c) spot frames nodes s starts rest =
      then_all k (starts (sort.Constructor name) (at frames (now.Con spot t.place name) nodes) (ap sort_of h) refl)
      (go k (λ frames nodes pats t. refl) sort.OpenSquare (ap sort_of g) refl refl
      (go k (λ frames nodes pats t. refl) sort.CloseSquare (ap sort_of c) refl refl (rest (now.Sealed spot t.place) (put nodes (node.Build t.place name 0)) sealed)))

  an_atom : {Q : State → List Token → Type 0} {ts us : List Token} {a : Expr} → PatLaws → Closed Q → ReadsAtom ts a us → (spot : Spot) (frames : List Frame) (nodes : List ExprNode) (s : State) → Starts (begin_post spot frames nodes) ts s → All Q (at frames (now.Post spot (first_place ts) (place_of a)) (put_expr a nodes)) us → Q s ts
  an_atom laws k (atom_name (var {t = t} {name = name} h)) spot frames nodes s starts rest = then_all k (starts (sort.Variable name) _ (sort_var h) refl) rest
  an_atom laws k (atom_name (op_name {t = t} {name = name} h g c)) spot frames nodes s starts rest =
      then_all k (starts sort.Open (at frames (now.Opened spot t.place) nodes) (ap sort_of h) refl)
      (go k (λ frames nodes pats t. refl) (sort.Operator name) (ap sort_of g) refl refl
      (go k (λ frames nodes pats t. refl) sort.Close (ap sort_of c) refl refl rest))
  an_atom laws k (atom_number {k = value} h) spot frames nodes s starts rest = then_all k (starts (sort.Number value) _ (ap sort_of h) refl) rest
  an_atom laws k (atom_bits {width = width} {k = value} h) spot frames nodes s starts rest = then_all k (starts (sort.Bits width value) _ (ap sort_of h) refl) rest
  an_atom laws k (atom_unit {t = t} h c) spot frames nodes s starts rest =
      then_all k (starts sort.Open (at frames (now.Opened spot t.place) nodes) (ap sort_of h) refl)
      (go k (λ frames nodes pats t. refl) sort.Close (ap sort_of c) refl refl rest)
  an_atom laws k (atom_inside {t = t} {ts = ts} h d c) spot frames nodes s starts rest =
      then_all k (starts sort.Open (at frames (now.Opened spot t.place) nodes) (ap sort_of h) refl)
      (λ pats beside. expr laws k d (frame.Bracket spot t.place ∷ frames) nodes (state (at frames (now.Opened spot t.place) nodes) pats beside) (opened_starts spot t.place frames nodes pats beside ts)
      (close_by k sort.Close (ap sort_of c) refl refl rest))
  an_atom laws k (atom_pair {t = t} {ts = ts} {us = us} {a = a} h d g f c) spot frames nodes s starts rest =
      then_all k (starts sort.Open (at frames (now.Opened spot t.place) nodes) (ap sort_of h) refl)
      (λ pats beside. expr laws k d (frame.Bracket spot t.place ∷ frames) nodes (state (at frames (now.Opened spot t.place) nodes) pats beside) (opened_starts spot t.place frames nodes pats beside ts)
      (close_by k sort.Comma (ap sort_of g) refl refl
      (from_want k f (expr laws k f) (frame.Second spot t.place ∷ frames) (put_expr a nodes)
      (close_by k sort.Close (ap sort_of c) refl refl rest))))

  follows : {Q : State → List Token → Type 0} {p : Place} {e d : Expr} {ts us : List Token} → PatLaws → Closed Q → Follows p e ts d us → (spot : Spot) (frames : List Frame) (nodes : List ExprNode) → PostedHold Q spot frames (place_of d) (put_expr d nodes) us → All Q (at frames (now.Post spot p (place_of e)) (put_expr e nodes)) ts
  follows laws k (nothing_follows {p = p} {e = e}) spot frames nodes rest = rest (now.Post spot p (place_of e)) (put_expr e nodes) post
  follows laws k (selected {name = name} h m f) spot frames nodes rest =
      go k (λ frames nodes pats t. refl) sort.Dot (ap sort_of h) refl refl
      (go k (λ frames nodes pats t. refl) (sort.Variable name) (sort_var m) refl refl (follows laws k f spot frames nodes rest))
  follows laws k (updated {p = p} {e = e} h d c f) spot frames nodes rest =
      go k (λ frames nodes pats t. refl) sort.OpenSquare (ap sort_of h) refl refl
      (first_fields laws k d spot p Update frames (put_expr e nodes) (fields_end k spot p Update frames c (follows laws k f spot frames nodes rest)))

  first_fields : {Q : State → List Token → Type 0} {ts us : List Token} {fs : FieldExprs} → PatLaws → Closed Q → ReadsFieldExprs ts fs us → (spot : Spot) (begins : Place) (target : Target) (frames : List Frame) (nodes : List ExprNode) → FieldsHold Q spot begins target frames (fields_from 0 fs) (put_fields fs nodes) us → All Q (at frames (now.FirstField spot begins target) nodes) ts
  first_fields laws k (last_field {t = t} {ts = ts} {name = name} {e = e} m h d) spot begins target frames nodes rest =
      go k (λ frames nodes pats t. refl) (sort.Variable name) (sort_var m) refl (first_name spot begins target frames nodes t.place name)
      (field_equals k h spot begins target 0 t.place name frames nodes (from_want k d (expr laws k d) (frame.Field spot begins target 0 t.place name ∷ frames) nodes (rest 0 t.place name (put_expr e nodes) (first_place ts) (place_of e) refl refl)))
  first_fields laws k (more_fields {t = t} {ts = ts} {us = us} {name = name} {e = e} m h d b more) spot begins target frames nodes rest =
      go k (λ frames nodes pats t. refl) (sort.Variable name) (sort_var m) refl (first_name spot begins target frames nodes t.place name)
      (field_equals k h spot begins target 0 t.place name frames nodes (from_want k d (expr laws k d) (frame.Field spot begins target 0 t.place name ∷ frames) nodes
      (close_by k sort.Bar (ap sort_of b) refl refl (next_fields laws k more spot begins target 1 frames (put (put_expr e nodes) (node.Field t.place name)) rest))))

  next_fields : {Q : State → List Token → Type 0} {ts us : List Token} {fs : FieldExprs} → PatLaws → Closed Q → ReadsFieldExprs ts fs us → (spot : Spot) (begins : Place) (target : Target) (n : ℕ) (frames : List Frame) (nodes : List ExprNode) → FieldsHold Q spot begins target frames (fields_from n fs) (put_fields fs nodes) us → All Q (at frames (now.NextField spot begins target n) nodes) ts
  next_fields laws k (last_field {t = t} {ts = ts} {name = name} {e = e} m h d) spot begins target n frames nodes rest =
      go k (λ frames nodes pats t. refl) (sort.Variable name) (sort_var m) refl refl
      (field_equals k h spot begins target n t.place name frames nodes (from_want k d (expr laws k d) (frame.Field spot begins target n t.place name ∷ frames) nodes (rest n t.place name (put_expr e nodes) (first_place ts) (place_of e) refl refl)))
  next_fields laws k (more_fields {t = t} {ts = ts} {us = us} {name = name} {e = e} m h d b more) spot begins target n frames nodes rest =
      go k (λ frames nodes pats t. refl) (sort.Variable name) (sort_var m) refl refl
      (field_equals k h spot begins target n t.place name frames nodes (from_want k d (expr laws k d) (frame.Field spot begins target n t.place name ∷ frames) nodes
      (close_by k sort.Bar (ap sort_of b) refl refl (next_fields laws k more spot begins target (n + 1) frames (put (put_expr e nodes) (node.Field t.place name)) rest))))

  pub block : {Q : State → List Token → Type 0} {ts us : List Token} {bs : Binds} → PatLaws → Closed Q → ReadsBinds ts bs us → (frames : List Frame) (b : BlockEnds frames) (nodes : List ExprNode) → All Q (b.after_block (binds_from 0 bs) (put_binds bs nodes)) us → All Q (at frames now.BindsBrace nodes) ts
  block laws k (binds h m) frames b nodes rest = go_alone k (λ frames nodes pats t. refl) sort.OpenBrace (ap sort_of h) (ap pat_sort_of h) refl refl (in_block laws k m frames b 0 nodes rest)

  in_block : {Q : State → List Token → Type 0} {ts us : List Token} {bs : Binds} → PatLaws → Closed Q → ReadsMoreBinds ts bs us → (frames : List Frame) (b : BlockEnds frames) (n : ℕ) (nodes : List ExprNode) → All Q (b.after_block (binds_from n bs) (put_binds bs nodes)) us → Alone Q (at frames (now.BindStart n) nodes) ts
  in_block laws k (no_bind {t = t} h) frames b n nodes rest pats = k.taken (bind_close t h frames b n nodes pats) (rest pats false)
  in_block laws k (empty_bind {t = t} h m) frames b n nodes rest pats = k.taken (bind_semicolon t h frames b n nodes pats) (in_block laws k m frames b n nodes rest pats)
  in_block {Q = Q} laws k (last_bind {t = t} {ts = ts} {us = us} {name = name} {row = row} e h) frames b n nodes rest pats =
      equation laws k e frames n nodes (row_last k frames b n (put_rows name (first_place ts) row nodes) h
      (subst (λ m. All Q (b.after_block m (put_rows name (first_place ts) row nodes)) us) (one_row e n) rest)) pats
  in_block {Q = Q} laws k (more_binds {t = t} {ts = ts} {us = us} {vs = vs} {name = name} {row = row} {bs = bs} e h m) frames b n nodes rest pats =
      equation laws k e frames n nodes (row_then k frames b n (put_rows name (first_place ts) row nodes) h
      (in_block laws k m frames b (n + 1) (put_rows name (first_place ts) row nodes)
      (subst (λ m. All Q (b.after_block (binds_from m bs) (put_binds bs (put_rows name (first_place ts) row nodes))) vs) (one_row e n) rest))) pats

  pub equation : {Q : State → List Token → Type 0} {ts us : List Token} {name : Name} {row : Equations} → PatLaws → Closed Q → ReadsEquation ts name row us → (frames : List Frame) (n : ℕ) (nodes : List ExprNode) → RowHold Q frames n (put_rows name (first_place ts) row nodes) us → Alone Q (at frames (now.BindStart n) nodes) ts
  equation laws k (plain {ts = ts} {us = us} {name = name} {ps = ps} {e = e} l h d) frames n nodes rest pats =
      left laws k l n frames nodes pats (λ s next. then_all k (next h)
      (from_want k d (expr laws k d) (frame.Row name (first_place ts) (pats_from 0 ps) n ∷ frames) (put_pats ps nodes)
      (rest.open_row name (first_place ts) (pats_from 0 ps) (first_place us) (place_of e) (put_expr e (put_pats ps nodes)) refl)))
  equation laws k (with_where {ts = ts} {us = us} {name = name} {ps = ps} {e = e} {bs = bs} l h d w b) frames n nodes rest pats =
      left laws k l n frames nodes pats (λ s next. then_all k (next h)
      (from_want k d (expr laws k d) (frame.Row name (first_place ts) (pats_from 0 ps) n ∷ frames) (put_pats ps nodes)
      (close_by k sort.Where (ap sort_of w) refl refl
      (block laws k b (frame.Where name (first_place ts) (pats_from 0 ps) (first_place us) n ∷ frames)
      (record { top = frame.Where name (first_place ts) (pats_from 0 ps) (first_place us) n; below = frames; is = refl; after_block = λ m out. at frames (now.RowEnd (n + 1)) (put out (node.Row name (first_place ts) (pats_from 0 ps) (first_place us) m)); ends = λ m out. refl })
      (put_expr e (put_pats ps nodes)) rest.closed_row))))

  pub alternatives : {Q : State → List Token → Type 0} {ts us : List Token} {all : Alts} → PatLaws → Closed Q → ReadsAlts ts all us → (begun : Begun) (place : Place) (frames : List Frame) (nodes : List ExprNode) → All Q (at frames (now.Whole begun place) (put (put_alts all nodes) (node.Case place (alts_from 0 all)))) us → All Q (at frames (now.CaseBrace begun place) nodes) ts
  alternatives laws k (alts h m) begun place frames nodes rest = go_alone k (λ frames nodes pats t. refl) sort.OpenBrace (ap sort_of h) (ap pat_sort_of h) refl refl (in_alts laws k m begun place 0 frames nodes tt rest)

  pub in_alts : {Q : State → List Token → Type 0} {ts us : List Token} {all : Alts} → PatLaws → Closed Q → ReadsMoreAlts ts all us → (begun : Begun) (place : Place) (n : ℕ) (frames : List Frame) (nodes : List ExprNode) → SomeAlt n all → All Q (at frames (now.Whole begun place) (put (put_alts all nodes) (node.Case place (alts_from n all)))) us → Alone Q (at frames (now.AltStart begun place n) nodes) ts
  in_alts laws k (no_alt {t = t} h) begun place n frames nodes some rest pats = k.taken (alt_close t h begun place n frames nodes pats some) (rest pats false)
  in_alts laws k (empty_alt {t = t} h m) begun place n frames nodes some rest pats = k.taken (alt_semicolon t h begun place n frames nodes pats) (in_alts laws k m begun place n frames nodes some rest pats)
  in_alts laws k (last_alt {p = p} d h e c) begun place n frames nodes some rest pats =
      alt_goes laws k d h begun place n frames nodes
      (λ pats. from_want k e (expr laws k e) (frame.Alternative begun place n ∷ frames) (put_pat p nodes) (close_by k sort.CloseBrace (ap sort_of c) refl refl rest) pats false) pats
  in_alts laws k (more_alts {p = p} {e = e} {alts = all} d h f c m) begun place n frames nodes some rest pats =
      alt_goes laws k d h begun place n frames nodes
      (λ pats. from_want k f (expr laws k f) (frame.Alternative begun place n ∷ frames) (put_pat p nodes)
      (close_alone k sort.Semicolon (ap sort_of c) (ap pat_sort_of c) refl refl (in_alts laws k m begun place (n + 1) frames (put (put_expr e (put_pat p nodes)) node.Alternative) (some_more n all) rest)) pats false) pats

  pub statements : {Q : State → List Token → Type 0} {ts us : List Token} {ss : Stmts} → PatLaws → Closed Q → ReadsStmts ts ss us → (begun : Begun) (place : Place) (frames : List Frame) (nodes : List ExprNode) → All Q (at frames (now.Whole begun place) (put (put_stmts ss nodes) (node.Do place (stmts_from 0 ss)))) us → All Q (at frames (now.DoBrace begun place) nodes) ts
  statements laws k (stmts h m) begun place frames nodes rest = go_alone k (λ frames nodes pats t. refl) sort.OpenBrace (ap sort_of h) (ap pat_sort_of h) refl refl (in_stmts laws k m begun place 0 false frames nodes rest)

  pub in_stmts : {Q : State → List Token → Type 0} {ts us : List Token} {ss : Stmts} → PatLaws → Closed Q → ReadsMoreStmts ts ss us → (begun : Begun) (place : Place) (n : ℕ) (may_end : Bool) (frames : List Frame) (nodes : List ExprNode) → All Q (at frames (now.Whole begun place) (put (put_stmts ss nodes) (node.Do place (stmts_from n ss)))) us → Alone Q (at frames (now.StmtStart begun place n may_end) nodes) ts
  in_stmts laws k (empty_stmt {t = t} h m) begun place n may_end frames nodes rest pats = k.taken (stmt_semicolon t h begun place n may_end frames nodes pats) (in_stmts laws k m begun place n may_end frames nodes rest pats)
  in_stmts laws k (take_stmt {p = p} {e = e} d h f c m) begun place n may_end frames nodes rest pats =
      take_goes laws k d h begun place n may_end frames nodes
      (λ pats. from_want k f (expr laws k f) (frame.Taken begun place n ∷ frames) (put_pat p nodes)
      (close_alone k sort.Semicolon (ap sort_of c) (ap pat_sort_of c) refl refl (in_stmts laws k m begun place (n + 1) false frames (put (put_expr e (put_pat p nodes)) node.TakeStmt) rest)) pats false) pats
  in_stmts laws k (let_stmt {t = t} {ts = ts} {bs = bs} h b c m) begun place n may_end frames nodes rest pats =
      let inner = frame.Statement begun place n (length nodes) ∷ frames in
      then_all k (stmt_starts begun place n may_end frames nodes pats (t ∷ ts) sort.Let (at (frame.LetBinds (First t.place) t.place ∷ inner) now.BindsBrace nodes) (ap sort_of h) refl)
      (block laws k b (frame.LetBinds (First t.place) t.place ∷ inner) (record { top = frame.LetBinds (First t.place) t.place; below = inner; is = refl; after_block = λ n out. at inner (now.LetIn (First t.place) t.place n) out; ends = λ n out. refl }) nodes
      (go_alone k (λ frames nodes pats t. refl) sort.Semicolon (ap sort_of c) (ap pat_sort_of c) refl refl
      (in_stmts laws k m begun place (n + 1) false frames (put (put_binds bs nodes) (node.LetStmt (binds_from 0 bs))) rest)))
  in_stmts laws k (do_stmt {ts = ts} {e = e} d c m) begun place n may_end frames nodes rest pats =
      expr laws k d (frame.Statement begun place n (length nodes) ∷ frames) nodes (state (at frames (now.StmtStart begun place n may_end) nodes) pats false) (stmt_starts begun place n may_end frames nodes pats ts)
      (close_alone k sort.Semicolon (ap sort_of c) (ap pat_sort_of c) refl refl (in_stmts laws k m begun place (n + 1) true frames (put (put_expr e nodes) node.DoStmt) rest))
  in_stmts laws k (last_stmt {ts = ts} {e = e} d o) begun place n may_end frames nodes rest pats =
      expr laws k d (frame.Statement begun place n (length nodes) ∷ frames) nodes (state (at frames (now.StmtStart begun place n may_end) nodes) pats false) (stmt_starts begun place n may_end frames nodes pats ts)
      (last_stmt_hold k o begun place n (length nodes) frames (first_place ts) (place_of e) (put_expr e nodes) rest)
