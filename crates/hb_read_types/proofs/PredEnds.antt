-- A whole predicate is put out, and another can begin.
use Rattle.std.proofs.Common.{◌≡◌, Bool, true, false, List, [], Option, is_some, sym, ap, subst, ◌∙◌}
use Rattle.hb_read_types.specs.declared.node.TypeNode.{TypeNode}
use Rattle.hb_read_types.specs.declared.type_reader.Now.TheVariants.{Want}
use Rattle.hb_read_types.specs.declared.type_reader.TypeReader.{TypeReader}
use Rattle.hb_read_types.specs.declared.pred_reader.PredStage.TheVariants.{Begin}
use Rattle.hb_read_types.specs.declared.pred_reader.PredReader.{PredReader}
use Rattle.hb_read_types.specs.Taking.{Ended}
use Rattle.hb_read_types.specs.TypeMoves.{state, put, type_done}
use Rattle.hb_read_types.specs.PredMoves.{pred_state, nodes_of, alone_from, whole_with, pred_start}
use Rattle.hb_read_types.proofs.PredBack.{some_nodes}

pub ends_with : (old : PredReader) (r next last : TypeReader) (whole : TypeNode) (b : Bool) → b ≡ is_some (type_done r) → b ≡ true → next ≡ state false Want [] (nodes_of r) → last ≡ record next { nodes = put next.nodes whole } → Ended true (whole_with whole (type_done r)) pred_start old (pred_state Begin last)
ends_with old r next last whole b d e f g =
    let P : Option (List TypeNode) → Type 0 = λ v. Ended true (whole_with whole v) pred_start old (pred_state Begin last) in
    let same : last ≡ alone_from (put (nodes_of r) whole) = g ∙ ap (λ v. let q : TypeReader = record v { nodes = put v.nodes whole } in q) f in
    subst P (sym (some_nodes r (sym d ∙ e))) (ap (λ v. pred_state Begin v) same)
