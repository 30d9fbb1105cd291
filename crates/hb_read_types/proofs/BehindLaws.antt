-- The readers of types and predicates behind other nodes.
use Rattle.std.proofs.Common.{◌≡◌, true, false, List, ◌++◌, refl, sym, ap, subst, ◌∙◌}
use Rattle.hb_tokens.specs.declared.token.Token.{Token}
use Rattle.hb_tree.specs.declared.types.PredExpr.{PredExpr}
use Rattle.hb_tree.specs.Types.{TypeExpr}
use Rattle.hb_grammar.specs.Types.{ReadsType, ReadsAtype, ReadsPred}
use Rattle.hb_read_types.specs.declared.node.TypeNode.{TypeNode}
use Rattle.hb_read_types.specs.Nodes.{type_nodes, pred_nodes}
use Rattle.hb_read_types.specs.Reads.{TypeNodesRead, AtypeNodesRead, PredNodesRead}
use Rattle.hb_read_types.specs.Behind.{ReadBehind, ExactBehind}
use Rattle.hb_read_types.specs.TypeMoves.{begin_at, type_reader, atype_reader}
use Rattle.hb_read_types.specs.PredMoves.{pred_start, pred_reader}
use Rattle.hb_read_types.proofs.Puts.{PutsType, PutsAtype}
use Rattle.hb_read_types.proofs.TypeTrees.{TypeTree, type_tree, AtypeTree, atype_tree, type_of, atype_of, puts_type, puts_atype, put_tree, put_nodes}
use Rattle.hb_read_types.proofs.TypeExact.{rest_of_run, run_of_rest, start_type, type_start, start_atype, atype_start}
use Rattle.hb_read_types.proofs.Alone.{alone_start}
use Rattle.hb_read_types.proofs.PredRest.{PutsPred}
use Rattle.hb_read_types.proofs.PredTrees.{put_pred, put_pred_nodes, puts_pred, PredTree, pred_tree, pred_of}
use Rattle.hb_read_types.proofs.PredExact.{pred_rest_of_run, pred_run_of_rest}

type_behind : {ns ls : List TypeNode} {ts us : List Token} → TypeTree ts ns ls us → ReadBehind TypeNodesRead ns ts ls us
type_behind {ns} (type_tree a h e) = record { nodes = type_nodes a; read = record { tree = a; read = h; nodes_of = refl }; behind = e ∙ put_nodes ns a }

atype_behind : {ns ls : List TypeNode} {ts us : List Token} → AtypeTree ts ns ls us → ReadBehind AtypeNodesRead ns ts ls us
atype_behind {ns} (atype_tree a h e) = record { nodes = type_nodes a; read = record { tree = a; read = h; nodes_of = refl }; behind = e ∙ put_nodes ns a }

pred_behind : {ns ls : List TypeNode} {ts us : List Token} → PredTree ns ts ls us → ReadBehind PredNodesRead ns ts ls us
pred_behind {ns} (pred_tree p h e) = record { nodes = pred_nodes p; read = record { tree = p; read = h; nodes_of = refl }; behind = e ∙ put_pred_nodes ns p }

same_nodes : (ns nodes own ls put : List TypeNode) → nodes ≡ own → ls ≡ ns ++ nodes → put ≡ ns ++ own → put ≡ ls
same_nodes ns nodes own ls put d e f = f ∙ sym (e ∙ ap (λ v. ns ++ v) d)

put_type : {ts us : List Token} (ns ls nodes : List TypeNode) (a : TypeExpr) → nodes ≡ type_nodes a → ls ≡ ns ++ nodes → ReadsType ts a us → PutsType ts ns ls us
put_type {ts} {us} ns ls nodes a d e h = let P : List TypeNode → Type 0 = λ v. PutsType ts ns v us in subst P (same_nodes ns nodes (type_nodes a) ls (put_tree ns a) d e (put_nodes ns a)) (puts_type ns h)

put_atype : {ts us : List Token} (ns ls nodes : List TypeNode) (a : TypeExpr) → nodes ≡ type_nodes a → ls ≡ ns ++ nodes → ReadsAtype ts a us → PutsAtype ts ns ls us
put_atype {ts} {us} ns ls nodes a d e h = let P : List TypeNode → Type 0 = λ v. PutsAtype ts ns v us in subst P (same_nodes ns nodes (type_nodes a) ls (put_tree ns a) d e (put_nodes ns a)) (puts_atype ns h)

put_one : {ts us : List Token} (ns ls nodes : List TypeNode) (p : PredExpr) → nodes ≡ pred_nodes p → ls ≡ ns ++ nodes → ReadsPred ts p us → PutsPred ns ts ls us
put_one {ts} {us} ns ls nodes p d e h = let P : List TypeNode → Type 0 = λ v. PutsPred ns ts v us in subst P (same_nodes ns nodes (pred_nodes p) ls (put_pred ns p) d e (put_pred_nodes ns p)) (puts_pred ns h)

pub type_exact_behind : ExactBehind type_reader (begin_at true) TypeNodesRead
type_exact_behind = record {
  sound = λ before h. type_behind (type_of (start_type (rest_of_run h)));
  complete = λ {ts} {us} {ls} before h. run_of_rest true ts (begin_at true before) ls us (type_start (put_type before ls h.nodes h.read.tree h.read.nodes_of h.behind h.read.read));
}

pub atype_exact_behind : ExactBehind atype_reader (begin_at false) AtypeNodesRead
atype_exact_behind = record {
  sound = λ before h. atype_behind (atype_of (start_atype (rest_of_run h)));
  complete = λ {ts} {us} {ls} before h. run_of_rest false ts (begin_at false before) ls us (atype_start (put_atype before ls h.nodes h.read.tree h.read.nodes_of h.behind h.read.read));
}

pub pred_exact_behind : ExactBehind pred_reader pred_start PredNodesRead
pred_exact_behind = record {
  sound = λ before h. pred_behind (pred_of (pred_rest_of_run h));
  complete = λ {ts} {us} {ls} before h. pred_run_of_rest ts (pred_start before) ls us (alone_start before) (put_one before ls h.nodes h.read.tree h.read.nodes_of h.behind h.read.read);
}
