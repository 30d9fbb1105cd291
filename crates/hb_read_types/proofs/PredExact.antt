-- The reader of predicates reads just what the grammar says, and what it has taken can always be ended.
use Rattle.std.proofs.Common.{◌≡◌, ℕ, ◌+◌, List, [], ◌∷◌, Option, Some, None, refl, sym, subst, ◌∙◌}
use Rattle.std.specs.Prelude.{◌==◌}
use Rattle.hb_base.specs.declared.place.Place.{Place}
use Rattle.hb_base.specs.declared.name.Name.{Name}
use Rattle.hb_base.specs.Fixed.{at_most}
use Rattle.hb_tokens.specs.declared.token.Token.{Token}
use Rattle.hb_tokens.specs.declared.token.TokenKind.TheVariants.{Op, Word as AWord}
use Rattle.hb_tokens.specs.declared.word.Word.TheVariants.{Equals as EqualsWord}
use Rattle.hb_tree.specs.declared.types.PredExpr.{PredExpr}
use Rattle.hb_grammar.specs.Types.{ReadsPred}
use Rattle.hb_grammar.specs.Reading.{Runs, stop, take, Reached, at_start, after, Exact}
use Rattle.hb_read_types.specs.declared.node.TypeNode.{TypeNode}
use Rattle.hb_read_types.specs.declared.node.TypeNode.TheVariants as node
use Rattle.hb_read_types.specs.declared.sort.Sort.{Sort}
use Rattle.hb_read_types.specs.declared.sort.Sort.TheVariants as sort
use Rattle.hb_read_types.specs.declared.type_reader.TypeReader.{TypeReader}
use Rattle.hb_read_types.specs.declared.pred_reader.Fact.{Fact}
use Rattle.hb_read_types.specs.declared.pred_reader.PredStage.{PredStage}
use Rattle.hb_read_types.specs.declared.pred_reader.PredStage.TheVariants.{Begin, ClassOrType, PowerOrType, Class, First, Middle, Last}
use Rattle.hb_read_types.specs.declared.pred_reader.PredReader.{PredReader}
use Rattle.hb_read_types.specs.Sorts.{sort_of}
use Rattle.hb_read_types.specs.Nodes.{pred_nodes}
use Rattle.hb_read_types.specs.Reads.{PredNodesRead}
use Rattle.hb_read_types.specs.TypeMoves.{put, type_move}
use Rattle.hb_read_types.specs.PredMoves.{is_alone_whole, pred_state, nodes_of, alone_from, typed, operator, begin_pred, after_name, after_two, equals, after_type, in_type, move_pred_at, pred_move, pred_start, pred_reader}
use Rattle.hb_read_types.proofs.Puts.{atom}
use Rattle.hb_read_types.proofs.TypeBack.{Each, each_of}
use Rattle.hb_read_types.proofs.TypeExact.{con_token, SomeRest, some_rest, some_rest_of}
use Rattle.hb_read_types.proofs.Alone.{Alone, alone_start, alone_move}
use Rattle.hb_read_types.proofs.PredRest.{args_end, last_end, equals_next, at_most_next, name_args, two_fact, PutsPred, class_pred, type_then, PredRest}
use Rattle.hb_read_types.proofs.PredBack.{pred_move_back, pred_done_back, each_choice}
use Rattle.hb_read_types.proofs.PredForth.{PredGoes, pred_stops, pred_takes, pred_goes}
use Rattle.hb_read_types.proofs.PredTrees.{PredTree, pred_tree, pred_of, puts_pred, put_pred_nodes}

-- its types stand by themselves
abbrev pub PredAlone : PredReader → Type 0
PredAlone r = Alone r.types

typed_alone : (stage : PredStage) (r : TypeReader) (t : Token) (o : Option TypeReader) → Alone r → type_move r t ≡ o → Each (typed stage o) PredAlone
typed_alone stage r t None a e = tt
typed_alone stage r t (Some s) a e = alone_move r s t a e

begun_alone : (stage : PredStage) (ns : List TypeNode) (t : Token) → Each (typed stage (type_move (alone_from ns) t)) PredAlone
begun_alone stage ns t = typed_alone stage (alone_from ns) t (type_move (alone_from ns) t) (alone_start ns) refl

operator_alone : (ns : List TypeNode) (s : Sort) → Each (operator ns s) PredAlone
operator_alone ns sort.Plus = alone_start ns
operator_alone ns sort.Times = alone_start ns
operator_alone ns sort.AtMost = alone_start ns
operator_alone ns _ = tt

begin_alone : (ns : List TypeNode) (t : Token) (s : Sort) → Each (begin_pred ns t s) PredAlone
begin_alone ns t (sort.Atom (node.Con p n)) = alone_start ns
begin_alone ns t (sort.Atom (node.Number p k)) = each_choice PredAlone (k == 2) (Some (pred_state (PowerOrType p) (alone_from ns))) (typed First (type_move (alone_from ns) t)) (λ e. alone_start ns) (λ e. begun_alone First ns t)
begin_alone ns t (sort.Atom _) = begun_alone First ns t
begin_alone ns t _ = begun_alone First ns t

name_alone : (p : Place) (n : Name) (ns : List TypeNode) (t : Token) (s : Sort) → Each (after_name p n ns t s) PredAlone
name_alone p n ns t sort.Plus = alone_start _
name_alone p n ns t sort.Times = alone_start _
name_alone p n ns t sort.AtMost = alone_start _
name_alone p n ns t _ = begun_alone (Class p n 1) ns t

two_alone : (p : Place) (ns : List TypeNode) (s : Sort) → Each (after_two p ns s) PredAlone
two_alone p ns sort.Power = alone_start ns
two_alone p ns sort.Plus = alone_start _
two_alone p ns sort.Times = alone_start _
two_alone p ns sort.AtMost = alone_start _
two_alone p ns _ = tt

equals_alone : (f : Fact) (ns : List TypeNode) (s : Sort) → Each (equals f ns s) PredAlone
equals_alone f ns sort.Equals = alone_start ns
equals_alone f ns _ = tt

after_alone : (stage : PredStage) (ns : List TypeNode) (t : Token) → Each (after_type stage ns t (sort_of t)) PredAlone
after_alone (Class p n c) ns t = begun_alone (Class p n (c + 1)) ns t
after_alone First ns t = operator_alone ns (sort_of t)
after_alone (Middle f) ns t = equals_alone f ns (sort_of t)
after_alone Begin ns t = tt
after_alone (ClassOrType p n) ns t = tt
after_alone (PowerOrType p) ns t = tt
after_alone (Last f) ns t = tt

in_alone : (stage : PredStage) (r : TypeReader) (t : Token) → Alone r → Each (in_type stage r t) PredAlone
in_alone stage r t a = each_choice PredAlone (is_alone_whole r) (after_type stage (nodes_of r) t (sort_of t)) (typed stage (type_move r t)) (λ e. after_alone stage (nodes_of r) t) (λ e. typed_alone stage r t (type_move r t) a refl)

at_alone : (stage : PredStage) (r : TypeReader) (t : Token) → Alone r → Each (move_pred_at stage r t) PredAlone
at_alone Begin r t a = begin_alone (nodes_of r) t (sort_of t)
at_alone (ClassOrType p n) r t a = name_alone p n (nodes_of r) t (sort_of t)
at_alone (PowerOrType p) r t a = two_alone p (nodes_of r) (sort_of t)
at_alone (Class p n c) r t a = in_alone (Class p n c) r t a
at_alone First r t a = in_alone First r t a
at_alone (Middle f) r t a = in_alone (Middle f) r t a
at_alone (Last f) r t a = in_alone (Last f) r t a

pub pred_alone : (r s : PredReader) (t : Token) → PredAlone r → pred_move r t ≡ Some s → PredAlone s
unfolding pred_move
pred_alone r s t a e = each_of PredAlone (pred_move r t) (at_alone r.stage r.types t a) e

reached_alone : {s : PredReader} → Reached pred_reader s → PredAlone s
reached_alone at_start = alone_start []
reached_alone (after {s} {r} {t} h e) = pred_alone s r t (reached_alone h) e

pub pred_rest_of_run : {s : PredReader} {ts us : List Token} {ls : List TypeNode} → Runs pred_reader s ts ls us → PredRest s ts ls us
pred_rest_of_run (stop {s} {ts} {a} e) = pred_done_back s ts a e
pred_rest_of_run (take {s} {r} {t} {ts} {us} {a} e h) = pred_move_back s r t ts a us e (pred_rest_of_run h)

run_on : {s : PredReader} {t : Token} {ts us : List Token} {ls : List TypeNode} → PredAlone s → PredGoes s (t ∷ ts) ls us → ((r : PredReader) → PredAlone r → PredRest r ts ls us → Runs pred_reader r ts ls us) → Runs pred_reader s (t ∷ ts) ls us
run_on a (pred_stops e) f = stop e
run_on {s} {t} a (pred_takes {s = r} e h) f = take e (f r (pred_alone s r t a e) h)

run_out : {s : PredReader} {us : List Token} {ls : List TypeNode} → PredGoes s [] ls us → Runs pred_reader s [] ls us
run_out (pred_stops e) = stop e

pub pred_run_of_rest : (ts : List Token) (s : PredReader) (ls : List TypeNode) (us : List Token) → PredAlone s → PredRest s ts ls us → Runs pred_reader s ts ls us
pred_run_of_rest [] s ls us a h = run_out (pred_goes s [] us ls a h)
pred_run_of_rest (t ∷ ts) s ls us a h = run_on a (pred_goes s (t ∷ ts) us ls a h) (λ r b g. pred_run_of_rest ts r ls us b g)

-- tokens that end what is begun
abbrev at_most_token : Token
at_most_token = record { place = record { line = 0; col = 0 }; kind = Op at_most }

abbrev equals_token : Token
equals_token = record { place = record { line = 0; col = 0 }; kind = AWord EqualsWord }

pub data SomePred : PredReader → List Token → Type 0 where
  some_pred : {r : PredReader} {us : List Token} → (ts : List Token) (ls : List TypeNode) → PredRest r ts ls us → SomePred r us

class_some : {p : Place} {n : Name} {c : ℕ} {r : TypeReader} {us : List Token} → SomeRest r us → SomePred (pred_state (Class p n c) r) us
class_some {p} {n} {c} {us} (some_rest ts ls h) = some_pred ts (put ls (node.Class p n c)) (type_then ls us h args_end)

first_some : {r : TypeReader} {us : List Token} → SomeRest r (at_most_token ∷ con_token ∷ us) → SomePred (pred_state First r) us
first_some {us} (some_rest ts ls h) = some_pred ts _ (type_then ls (at_most_token ∷ con_token ∷ us) h (at_most_next refl (atom refl)))

middle_some : {f : Fact} {r : TypeReader} {us : List Token} → SomeRest r (equals_token ∷ con_token ∷ us) → SomePred (pred_state (Middle f) r) us
middle_some {us} (some_rest ts ls h) = some_pred ts _ (type_then ls (equals_token ∷ con_token ∷ us) h (equals_next refl (atom refl)))

last_some : {f : Fact} {r : TypeReader} {us : List Token} → SomeRest r us → SomePred (pred_state (Last f) r) us
last_some {us} (some_rest ts ls h) = some_pred ts _ (type_then ls us h last_end)

at_some : (stage : PredStage) (r : TypeReader) (us : List Token) → SomePred (pred_state stage r) us
at_some Begin r us = some_pred (con_token ∷ con_token ∷ us) _ (class_pred refl (atom refl) args_end)
at_some (ClassOrType p n) r us = some_pred (con_token ∷ us) _ (name_args (atom refl) args_end)
at_some (PowerOrType p) r us = some_pred (at_most_token ∷ con_token ∷ us) _ (two_fact (at_most_next refl (atom refl)))
at_some (Class p n c) r us = class_some (some_rest_of r us)
at_some First r us = first_some (some_rest_of r (at_most_token ∷ con_token ∷ us))
at_some (Middle f) r us = middle_some (some_rest_of r (equals_token ∷ con_token ∷ us))
at_some (Last f) r us = last_some (some_rest_of r us)

-- each state can be ended before any tokens
pub some_pred_of : (r : PredReader) (us : List Token) → SomePred r us
some_pred_of r us = at_some r.stage r.types us

alive_by : {s : PredReader} → PredAlone s → SomePred s [] → (ts : List Token) × ((ls : List TypeNode) × Runs pred_reader s ts ls [])
alive_by {s} a (some_pred ts ls h) = (ts, (ls, pred_run_of_rest ts s ls [] a h))

nodes_read : {ts us : List Token} {ls : List TypeNode} → PredTree [] ts ls us → PredNodesRead ts ls us
nodes_read (pred_tree p h e) = record { tree = p; read = h; nodes_of = e ∙ put_pred_nodes [] p }

put_read : {ts us : List Token} {ls : List TypeNode} → (p : PredExpr) → ls ≡ pred_nodes p → ReadsPred ts p us → PutsPred [] ts ls us
put_read {ts} {us} p e h = let P : List TypeNode → Type 0 = λ v. PutsPred [] ts v us in subst P (put_pred_nodes [] p ∙ sym e) (puts_pred [] h)

pub pred_exact : Exact pred_reader PredNodesRead
pred_exact = record {
  sound = λ h. nodes_read (pred_of (pred_rest_of_run h));
  complete = λ {ts} {us} {a} h. pred_run_of_rest ts (pred_start []) a us (alone_start []) (put_read h.tree h.nodes_of h.read);
  alive = λ {s} h. alive_by (reached_alone h) (some_pred_of s []);
}
