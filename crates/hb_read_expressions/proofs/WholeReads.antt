-- Where the reader of expressions may stop, what was read is what the grammar has.
use Rattle.std.proofs.Common.{◌≡◌, ℕ, List, [], ◌∷◌, Some, None, refl, sym, subst}
use Rattle.hb_base.specs.declared.name.Name.{Name}
use Rattle.hb_base.specs.declared.place.Place.{Place}
use Rattle.hb_tokens.specs.declared.token.Token.{Token}
use Rattle.hb_tree.specs.Expressions.{Expr, Binds, Equations}
use Rattle.hb_grammar.specs.Tokens.{first_place}
use Rattle.hb_grammar.specs.Expressions.{ReadsExpr, con_alone, nothing_follows, ReadsBinds, ReadsEquation, plain}
use Rattle.hb_grammar.specs.Reading.{Runs}
use Rattle.hb_read_patterns.specs.declared.reader.PatReader.{PatReader}
use Rattle.hb_read_expressions.specs.declared.node.ExprNode.{ExprNode}
use Rattle.hb_read_expressions.specs.declared.node.ExprNode.TheVariants as node
use Rattle.hb_read_expressions.specs.declared.frame.Spot.{Spot}
use Rattle.hb_read_expressions.specs.declared.frame.Frame.{Frame}
use Rattle.hb_read_expressions.specs.declared.frame.Frame.TheVariants as frame
use Rattle.hb_read_expressions.specs.declared.now.Now.{Now}
use Rattle.hb_read_expressions.specs.declared.now.Now.TheVariants as now
use Rattle.hb_read_expressions.specs.Nodes.{put, put_expr, put_binds, put_rows}
use Rattle.hb_grammar.specs.Reading.Runs.{stop, take as taking}
use Rattle.hb_read_expressions.specs.declared.state.State.{State}
use Rattle.hb_read_expressions.specs.States.{end_post, begun_of}
use Rattle.hb_read_expressions.specs.Ends.{end_operand, settle}
use Rattle.hb_read_expressions.specs.Moves.{moved, done, done_now, end_nodes, outermost_end, expr_start, equation_start, binds_start, expr_reader, equation_reader, binds_reader}
use Rattle.hb_read_expressions.proofs.Params.{PatLaws}
use Rattle.hb_read_expressions.proofs.Closing.{settle_whole, last_expr, apply_last, post_applies, open_last}
use Rattle.hb_read_expressions.proofs.Standing.{is_post, WholePost, whole_post, WholeExpr, whole_expr, is_con_name, in_row, Root, an_expr, an_equation, a_block, AtRoot, at_root, RowAtRoot, row_at_root, Below, RowWhole, row_whole, BlockWhole, block_whole, is_over, StandsAt, Stands}
use Rattle.hb_grammar.specs.Reading.{Runs}
use Rattle.hb_read_expressions.proofs.Sound.{step}
use Rattle.hb_read_expressions.specs.Exactly.{ExprOf, EquationOf, BindsOf}

-- what was read as a whole
pub data Whole (top us : List Token) : Root → List ExprNode → Type 0 where
  whole_of_expr : {e : Expr} → ReadsExpr top e us → Whole top us an_expr (put_expr e [])
  whole_of_row : {name : Name} {row : Equations} → ReadsEquation top name row us → Whole top us an_equation (put_rows name (first_place top) row [])
  whole_of_block : {bs : Binds} → ReadsBinds top bs us → Whole top us a_block (put_binds bs [])

some_is : {A : Type 0} {a b : A} → Some a ≡ Some b → a ≡ b
some_is h = cc

none_is : {A : Type 0} {a : A} → None ≡ Some a → ⊥
none_is h = absurd (cc)

row_at : (root : Root) (top us : List Token) (n : ℕ) (out : List ExprNode) → RowWhole (RowAtRoot root top) n out us → Whole top us root out
row_at root top us n out (row_whole {name = name} {row = row} (row_at_root same) e) = subst (λ r. Whole top us r (put_rows name (first_place top) row [])) (sym same) (whole_of_row e)

expr_at : (root : Root) (top us : List Token) (first stands : Place) (out : List ExprNode) → WholeExpr (AtRoot root top an_expr) first stands out us → Whole top us root out
expr_at root top us first stands out (whole_expr at_root e) = whole_of_expr e

block_at : (root : Root) (top us : List Token) (n : ℕ) (out : List ExprNode) → BlockWhole (AtRoot root top a_block) n out us → Whole top us root out
block_at root top us n out (block_whole at_root b) = whole_of_block b

-- a whole expression with no frame around it, or an equation by itself
end_whole : (root : Root) (top us : List Token) (fs : List Frame) (first stands : Place) (out nodes : List ExprNode) → WholeExpr (Below root top fs) first stands out us → outermost_end fs first out ≡ Some nodes → Whole top us root nodes
end_whole root top us [] first stands out nodes w h = subst (Whole top us root) (some_is h) (expr_at root top us first stands out w)
end_whole root top us (frame.Row name place n before ∷ []) first stands out nodes (whole_expr (in_row r l q) e) h = subst (Whole top us root) (some_is h) (row_at root top us _ _ (row_whole r (plain l q e)))
end_whole root top us (frame.Row name place n before ∷ f ∷ fs) first stands out nodes w h = absurd (none_is h)
end_whole root top us (f ∷ fs) first stands out nodes w h = absurd (none_is h)

settled : (root : Root) (top us : List Token) (fs : List Frame) (first stands : Place) (out nodes : List ExprNode) → WholeExpr (Below root top fs) first stands out us → end_nodes (Some (settle fs first stands out)) ≡ Some nodes → Whole top us root nodes
settled root top us fs first stands out nodes w h =
    let e = settle fs first stands out in
    end_whole root top us e.frames e.first e.stands e.nodes nodes (settle_whole root top fs first stands out us w) h

post_end : (root : Root) (top us : List Token) (spot : Spot) (stands : Place) (fs : List Frame) (out nodes : List ExprNode) → WholePost (Below root top fs) spot stands out us → end_nodes (Some (end_operand fs (begun_of spot) stands (end_post spot stands out))) ≡ Some nodes → Whole top us root nodes
post_end root top us spot stands fs out nodes w h = settled root top us fs _ _ _ nodes (last_expr (apply_last (post_applies w))) h

now_whole : (root : Root) (top us : List Token) (current : Now) (fs : List Frame) (out nodes : List ExprNode) (pats : PatReader) → StandsAt root top current fs out pats us → done_now current fs out ≡ Some nodes → Whole top us root nodes
now_whole root top us (now.Post spot first stands) fs out nodes pats (is_post {e = e} i f) h = post_end root top us spot stands fs out nodes (whole_post i (f e us nothing_follows)) h
now_whole root top us (now.Con spot place name) fs out nodes pats (is_con_name c i) h = post_end root top us spot place fs (put out (node.Con place name)) nodes (whole_post i (con_alone c)) h
now_whole root top us (now.Sealed spot stands) fs out nodes pats w h = post_end root top us spot stands fs out nodes w h
now_whole root top us (now.Whole begun stands) fs out nodes pats w h = settled root top us fs _ _ _ nodes (last_expr (open_last w)) h
now_whole root top us (now.RowEnd n) [] out nodes pats w h = subst (Whole top us root) (some_is h) (row_at root top us n out w)
now_whole root top us (now.RowEnd n) (f ∷ fs) out nodes pats w h = absurd (none_is h)
now_whole root top us (now.Over n) [] out nodes pats (is_over b) h = subst (Whole top us root) (some_is h) (block_at root top us n out b)
now_whole root top us (now.Over n) (f ∷ fs) out nodes pats w h = absurd (none_is h)
now_whole root top us current fs out nodes pats s h = absurd (none_is h)

pub done_whole : (root : Root) (top us : List Token) (s : State) (nodes : List ExprNode) → Stands root top s us → done s ≡ Some nodes → Whole top us root nodes
unfolding done
done_whole root top us s nodes stands h = now_whole root top us s.core.last s.core.frames s.core.nodes nodes s.pats stands.read h

-- a run reads the whole
pub runs_whole : (laws : PatLaws) (root : Root) (top : List Token) (start : State) {s : State} {ts us : List Token} {nodes : List ExprNode} → Runs (record { start = start; move = moved; done = done }) s ts nodes us → Stands root top s ts → Whole top us root nodes
runs_whole laws root top start (stop {s = s} {ts = ts} {a = nodes} h) stands = done_whole root top ts s nodes stands h
runs_whole laws root top start (taking h runs) stands = runs_whole laws root top start runs (step laws root top h stands)

expr_of : (top us : List Token) (nodes : List ExprNode) → Whole top us an_expr nodes → ExprOf top nodes us
expr_of top us nodes (whole_of_expr {e = e} r) = record { expr = e; reads = r; is = refl }

row_of : (top us : List Token) (nodes : List ExprNode) → Whole top us an_equation nodes → EquationOf top nodes us
row_of top us nodes (whole_of_row {name = name} {row = row} r) = record { name = name; row = row; reads = r; is = refl }

block_of : (top us : List Token) (nodes : List ExprNode) → Whole top us a_block nodes → BindsOf top nodes us
block_of top us nodes (whole_of_block {bs = bs} r) = record { binds = bs; reads = r; is = refl }

-- the starts stand
pub expr_stands : (pats : PatReader) (ts : List Token) → Stands an_expr ts (expr_start pats) ts
expr_stands pats ts = record { read = at_root; side = tt }

pub equation_stands : (pats : PatReader) (ts : List Token) → Stands an_equation ts (equation_start pats) ts
equation_stands pats ts = record { read = row_at_root refl; side = tt }

pub binds_stands : (pats : PatReader) (ts : List Token) → Stands a_block ts (binds_start pats) ts
binds_stands pats ts = record { read = at_root; side = tt }

pub expr_sound : PatLaws → (pats : PatReader) {ts us : List Token} {nodes : List ExprNode} → Runs (expr_reader pats) (expr_start pats) ts nodes us → ExprOf ts nodes us
expr_sound laws pats {ts = ts} {us = us} {nodes = nodes} runs = expr_of ts us nodes (runs_whole laws an_expr ts (expr_start pats) runs (expr_stands pats ts))

pub equation_sound : PatLaws → (pats : PatReader) {ts us : List Token} {nodes : List ExprNode} → Runs (equation_reader pats) (equation_start pats) ts nodes us → EquationOf ts nodes us
equation_sound laws pats {ts = ts} {us = us} {nodes = nodes} runs = row_of ts us nodes (runs_whole laws an_equation ts (equation_start pats) runs (equation_stands pats ts))

pub binds_sound : PatLaws → (pats : PatReader) {ts us : List Token} {nodes : List ExprNode} → Runs (binds_reader pats) (binds_start pats) ts nodes us → BindsOf ts nodes us
binds_sound laws pats {ts = ts} {us = us} {nodes = nodes} runs = block_of ts us nodes (runs_whole laws a_block ts (binds_start pats) runs (binds_stands pats ts))
