-- The readers take what the grammar has.
use Rattle.std.proofs.Common.{◌≡◌, ℕ, Bool, false, List, [], ◌∷◌, Some, refl, ap, ◌∙◌}
use Rattle.hb_base.specs.declared.name.Name.{Name}
use Rattle.hb_tokens.specs.declared.token.Token.{Token}
use Rattle.hb_tree.specs.Expressions.{Expr, Equations, Binds}
use Rattle.hb_grammar.specs.Tokens.{first_place}
use Rattle.hb_grammar.specs.Expressions.{ReadsExpr, ReadsEquation, ReadsBinds}
use Rattle.hb_grammar.specs.Reading.{Runs}
use Rattle.hb_grammar.specs.Reading.Runs.{stop, take}
use Rattle.hb_read_patterns.specs.declared.reader.PatReader.{PatReader}
use Rattle.hb_read_expressions.specs.declared.node.ExprNode.{ExprNode}
use Rattle.hb_read_expressions.specs.declared.frame.Frame.{Frame}
use Rattle.hb_read_expressions.specs.declared.frame.Frame.TheVariants as frame
use Rattle.hb_read_expressions.specs.declared.now.Now.{Now}
use Rattle.hb_read_expressions.specs.declared.now.Now.TheVariants as now
use Rattle.hb_read_expressions.specs.Nodes.{put_expr, put_rows, put_binds, binds_from}
use Rattle.hb_read_expressions.specs.declared.state.State.{State}
use Rattle.hb_read_expressions.specs.States.{at, state}
use Rattle.hb_read_expressions.specs.Ends.{Ended}
use Rattle.hb_read_expressions.specs.Moves.{moved, done, done_now, end_nodes, ended_at, outermost_end, expr_start, equation_start, binds_start, expr_reader, equation_reader, binds_reader}
use Rattle.hb_read_expressions.proofs.Steps.{Closed, Ends, want_starts}
use Rattle.hb_read_expressions.proofs.Params.{PatLaws}
use Rattle.hb_read_expressions.proofs.Complete.{expr, equation, block}

-- the tokens to come make a run to this end
abbrev pub RunsTo : (start : State) → List ExprNode → List Token → State → List Token → Type 0
RunsTo start nodes us s ts = Runs (record { start = start; move = moved; done = done }) s ts nodes us

pub runs_closed : (start : State) (nodes : List ExprNode) (us : List Token) → Closed (RunsTo start nodes us)
runs_closed start nodes us = record { taken = λ h rest. take h rest }

end_now : (current : Now) (frames : List Frame) (nodes : List ExprNode) {e : Ended} → ended_at current frames nodes ≡ Some e → done_now current frames nodes ≡ end_nodes (Some e)
end_now (now.RowEnd n) frames nodes h = absurd (cc)
end_now (now.Over n) frames nodes h = absurd (cc)
end_now current frames nodes h = ap end_nodes h

pub ended_done : (current : Now) (frames : List Frame) (nodes : List ExprNode) (pats : PatReader) (side : Bool) {e : Ended} {out : List ExprNode} → Ends current frames nodes e → outermost_end e.frames e.first e.nodes ≡ Some out → done (state (at frames current nodes) pats side) ≡ Some out
unfolding done
ended_done current frames nodes pats side ends h = end_now current frames nodes ends.ends ∙ h

pub expr_complete : PatLaws → (pats : PatReader) {ts us : List Token} {e : Expr} → ReadsExpr ts e us → Runs (expr_reader pats) (expr_start pats) ts (put_expr e []) us
expr_complete laws pats {ts = ts} {us = us} {e = e} d =
    expr {Q = RunsTo (expr_start pats) (put_expr e []) us} laws (runs_closed (expr_start pats) (put_expr e []) us) d [] [] (expr_start pats) (want_starts [] [] pats false ts)
    (λ current frames nodes ends p b. stop (ended_done current frames nodes p b ends refl))

pub row_done : (n : ℕ) (nodes : List ExprNode) (pats : PatReader) (side : Bool) → done (state (at [] (now.RowEnd n) nodes) pats side) ≡ Some nodes
unfolding done
row_done n nodes pats side = refl

pub block_done : (n : ℕ) (nodes : List ExprNode) (pats : PatReader) (side : Bool) → done (state (at [] (now.Over n) nodes) pats side) ≡ Some nodes
unfolding done
block_done n nodes pats side = refl

pub equation_complete : PatLaws → (pats : PatReader) {ts us : List Token} {name : Name} {row : Equations} → ReadsEquation ts name row us → Runs (equation_reader pats) (equation_start pats) ts (put_rows name (first_place ts) row []) us
equation_complete laws pats {ts = ts} {us = us} {name = name} {row = row} d =
    let out = put_rows name (first_place ts) row [] in
    equation {Q = RunsTo (equation_start pats) out us} laws (runs_closed (equation_start pats) out us) d [] 0 []
    (record {
      open_row = λ name place patterns first stands nodes e current frames out ends p b. stop (ended_done current frames out p b ends (ap Some e));
      closed_row = λ p b. stop (row_done 1 out p b);
    }) pats

pub binds_complete : PatLaws → (pats : PatReader) {ts us : List Token} {bs : Binds} → ReadsBinds ts bs us → Runs (binds_reader pats) (binds_start pats) ts (put_binds bs []) us
binds_complete laws pats {us = us} {bs = bs} d =
    let out = put_binds bs [] in
    block {Q = RunsTo (binds_start pats) out us} laws (runs_closed (binds_start pats) out us) d (frame.Block ∷ [])
    (record { top = frame.Block; below = []; is = refl; after_block = λ n o. at [] (now.Over n) o; ends = λ n o. refl }) []
    (λ p b. stop (block_done (binds_from 0 bs) out p b)) pats false
