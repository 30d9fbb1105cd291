-- The reader of contexts reads just what the grammar says, and what it has taken can always be ended.
use Rattle.std.proofs.Common.{◌≡◌, ℕ, ◌+◌, List, [], ◌∷◌, ◌++◌, length, Option, Some, None, refl, sym, ap, subst, ◌∙◌, append_assoc, arith}
use Rattle.std.proofs.lemmas.List.{append-nil}
use Rattle.hb_tokens.specs.declared.token.Token.{Token}
use Rattle.hb_tokens.specs.declared.token.TokenKind.TheVariants.{Mark}
use Rattle.hb_tree.specs.declared.types.PredExpr.{PredExpr}
use Rattle.hb_grammar.specs.Types as grammar
use Rattle.hb_grammar.specs.Types.{ReadsPred, ReadsPreds, ReadsContext}
use Rattle.hb_grammar.specs.Reading.{Runs, stop, take, Reached, at_start, after, Exact}
use Rattle.hb_read_types.specs.declared.node.TypeNode.{TypeNode}
use Rattle.hb_read_types.specs.declared.node.TypeNode.TheVariants as node
use Rattle.hb_read_types.specs.declared.sort.Sort.TheVariants as sort
use Rattle.hb_read_types.specs.declared.pred_reader.PredReader.{PredReader}
use Rattle.hb_read_types.specs.declared.context_reader.SeveralStage.{SeveralStage}
use Rattle.hb_read_types.specs.declared.context_reader.SeveralStage.TheVariants.{Opening, Inside, Closed}
use Rattle.hb_read_types.specs.declared.context_reader.Several.{Several}
use Rattle.hb_read_types.specs.declared.context_reader.ContextReader.{ContextReader}
use Rattle.hb_read_types.specs.Sorts.{sort_of}
use Rattle.hb_read_types.specs.Nodes.{pred_nodes, preds_nodes, context_nodes}
use Rattle.hb_read_types.specs.Reads.{ContextNodesRead}
use Rattle.hb_read_types.specs.TypeMoves.{put}
use Rattle.hb_read_types.specs.ContextMoves.{several_state, one_moved, several_moved, side_by_side, context_move, context_start, context_reader}
use Rattle.hb_read_types.proofs.SortLaws.{open_sort, close_sort, comma_sort, sort_is}
use Rattle.hb_read_types.proofs.TypeBack.{Each, each_of}
use Rattle.hb_read_types.proofs.TypeExact.{close_token}
use Rattle.hb_read_types.proofs.Alone.{alone_start}
use Rattle.hb_read_types.proofs.PredRest.{PutsPred}
use Rattle.hb_read_types.proofs.PredTrees.{put_pred, put_pred_nodes, puts_pred, PredTree, pred_tree, pred_of}
use Rattle.hb_read_types.proofs.PredExact.{SomePred, some_pred, some_pred_of}
use Rattle.hb_read_types.proofs.ContextRest.{PredsRest, preds_close, preds_more, PutsContext, one_pred, several_preds, pred_then, opening_rest, inside_rest, closed_rest, SideRest, by_one, by_several, ContextRest, context_move_back, context_done_back}
use Rattle.hb_read_types.proofs.ContextForth.{GoodContext, good_both, at_opening, good_move, ContextGoes, context_stops, context_takes, context_goes}

-- with trees and without

abbrev pub put_preds : List TypeNode → List PredExpr → List TypeNode
put_preds ns [] = ns
put_preds ns (p ∷ ps) = put_preds (put_pred ns p) ps

pub put_preds_nodes : (ns : List TypeNode) (ps : List PredExpr) → put_preds ns ps ≡ ns ++ preds_nodes ps
put_preds_nodes ns [] = sym (append-nil ns)
put_preds_nodes ns (p ∷ ps) = put_preds_nodes (put_pred ns p) ps ∙ (ap (λ v. v ++ preds_nodes ps) (put_pred_nodes ns p) ∙ append_assoc ns (pred_nodes p) (preds_nodes ps))

pub put_context_nodes : (ns : List TypeNode) (ps : List PredExpr) → put (put_preds ns ps) (node.Context (length ps)) ≡ ns ++ context_nodes ps
put_context_nodes ns ps = ap (λ v. v ++ node.Context (length ps) ∷ []) (put_preds_nodes ns ps) ∙ append_assoc ns (preds_nodes ps) (node.Context (length ps) ∷ [])

-- the predicates from the one that is this number on, and the bracket's end
data PredsTree : ℕ → List TypeNode → List Token → List TypeNode → List Token → Type 0 where
  preds_tree : {c : ℕ} {ns ls : List TypeNode} {s : Token} {ts us : List Token} → (ps : List PredExpr) → ReadsPreds ts ps (s ∷ us) → sort_of s ≡ sort.Close → ls ≡ put (put_preds ns ps) (node.Context (c + length ps)) → PredsTree c ns ts ls us

plus_one : (c : ℕ) (p : PredExpr) → c + 1 ≡ c + length (p ∷ [])
plus_one c p = omega arith

longer : (c : ℕ) (p : PredExpr) (ps : List PredExpr) → (c + 1) + length ps ≡ c + length (p ∷ ps)
longer c p ps = omega arith

last_of : {c : ℕ} {ns ms : List TypeNode} {s : Token} {ts us : List Token} → PredTree ns ts ms (s ∷ us) → sort_of s ≡ sort.Close → PredsTree c ns ts (put ms (node.Context (c + 1))) us
last_of {c} {ns} (pred_tree p h e) d = preds_tree (p ∷ []) (grammar.last_pred h) d (ap (λ v. put v (node.Context (c + 1))) e ∙ ap (λ v. put (put_pred ns p) (node.Context v)) (plus_one c p))

more_of : {c : ℕ} {ns ms ls : List TypeNode} {t : Token} {ts us vs : List Token} → PredTree ns ts ms (t ∷ us) → sort_of t ≡ sort.Comma → PredsTree (c + 1) ms us ls vs → PredsTree c ns ts ls vs
more_of {c} {ns} {t} (pred_tree p h e) k (preds_tree ps g d f) = preds_tree (p ∷ ps) (grammar.more_preds h (sort_is t sort.Comma k) g) d (f ∙ (ap (λ v. put (put_preds v ps) (node.Context ((c + 1) + length ps))) e ∙ ap (λ v. put (put_preds (put_pred ns p) ps) (node.Context v)) (longer c p ps)))

preds_of : {d : ℕ} {ms ls : List TypeNode} {us vs : List Token} → PredsRest d ms us ls vs → (c : ℕ) (ns : List TypeNode) (ts : List Token) → d ≡ c + 1 → PredTree ns ts ms us → PredsTree c ns ts ls vs
preds_of {d} {ms} (preds_close {t} {ts = us} k) c ns ts e h = let P : ℕ → Type 0 = λ v. PredsTree c ns ts (put ms (node.Context v)) us in subst P (sym e) (last_of h k)
preds_of {d} {ms} (preds_more {ts = us} k a r) c ns ts e h = more_of h k (preds_of r (c + 1) ms us (ap (λ v. v + 1) e) (pred_of a))

pub data ContextTree : List TypeNode → List Token → List TypeNode → List Token → Type 0 where
  context_tree : {ns ls : List TypeNode} {ts us : List Token} → (ps : List PredExpr) → ReadsContext ts ps us → ls ≡ put (put_preds ns ps) (node.Context (length ps)) → ContextTree ns ts ls us

one_of : {ns ms : List TypeNode} {ts us : List Token} → PredTree ns ts ms us → ContextTree ns ts (put ms (node.Context 1)) us
one_of (pred_tree p h e) = context_tree (p ∷ []) (grammar.one h) (ap (λ v. put v (node.Context 1)) e)

none_before : (ps : List PredExpr) → 0 + length ps ≡ length ps
none_before ps = omega arith

several_of : {ns ls : List TypeNode} {t : Token} {ts us : List Token} → sort_of t ≡ sort.Open → PredsTree 0 ns ts ls us → ContextTree ns (t ∷ ts) ls us
several_of {ns} {t} o (preds_tree {s} ps h d e) = context_tree ps (grammar.several (sort_is t sort.Open o) h (sort_is s sort.Close d)) (e ∙ ap (λ v. put (put_preds ns ps) (node.Context v)) (none_before ps))

pub context_of : {ns ls : List TypeNode} {ts us : List Token} → PutsContext ns ts ls us → ContextTree ns ts ls us
context_of (one_pred a) = one_of (pred_of a)
context_of (several_preds {ns} {ts} o a r) = several_of o (preds_of r 0 ns ts refl (pred_of a))

-- the first predicate, and the others
data PutsPreds : ℕ → List TypeNode → List Token → List TypeNode → List Token → Type 0 where
  puts_preds : {c : ℕ} {ns ms ls : List TypeNode} {ts us vs : List Token} → PutsPred ns ts ms us → PredsRest c ms us ls vs → PutsPreds c ns ts ls vs

more_puts : {c : ℕ} {ns ms ls : List TypeNode} {t : Token} {ts us vs : List Token} → PutsPred ns ts ms (t ∷ us) → sort_of t ≡ sort.Comma → PutsPreds (c + 1) ms us ls vs → PutsPreds c ns ts ls vs
more_puts a k (puts_preds b r) = puts_preds a (preds_more k b r)

preds_put : {ts us : List Token} {s : Token} {ps : List PredExpr} (ns : List TypeNode) (c k : ℕ) → ReadsPreds ts ps (s ∷ us) → sort_of s ≡ sort.Close → k + 1 ≡ c + length ps → PutsPreds c ns ts (put (put_preds ns ps) (node.Context k)) us
preds_put {ts} {us} {s} ns c k (grammar.last_pred {p} h) d e = let same : c ≡ k = omega arith in let P : ℕ → Type 0 = λ v. PredsRest c (put_pred ns p) (s ∷ us) (put (put_pred ns p) (node.Context v)) us in puts_preds (puts_pred ns h) (subst P same (preds_close d))
preds_put ns c k (grammar.more_preds {t} {p} {ps = rest} h m g) d e = more_puts (puts_pred ns h) (comma_sort t m) (preds_put (put_pred ns p) (c + 1) k g d (omega arith))

several_puts : {ns ls : List TypeNode} {t : Token} {ts us : List Token} → sort_of t ≡ sort.Open → PutsPreds 1 ns ts ls us → PutsContext ns (t ∷ ts) ls us
several_puts o (puts_preds a r) = several_preds o a r

next_length : (k : ℕ) → k + 1 ≡ 1 + k
next_length k = omega arith

pub context_puts : {ts us : List Token} {ps : List PredExpr} → (ns : List TypeNode) → ReadsContext ts ps us → PutsContext ns ts (put (put_preds ns ps) (node.Context (length ps))) us
context_puts ns (grammar.one h) = one_pred (puts_pred ns h)
context_puts ns (grammar.several {t} {s} {ps} o h c) = several_puts (open_sort t o) (preds_put ns 1 (length ps) h (close_sort s c) (next_length (length ps)))

-- runs

rest_of_run : {s : ContextReader} {ts us : List Token} {ls : List TypeNode} → Runs context_reader s ts ls us → ContextRest s ts ls us
rest_of_run (stop {s} {ts} {a} e) = context_done_back s ts a e
rest_of_run (take {s} {r} {t} {ts} {us} {a} e h) = context_move_back s r t ts us a e (rest_of_run h)

run_on : {s : ContextReader} {t : Token} {ts us : List Token} {ls : List TypeNode} → GoodContext s → ContextGoes s (t ∷ ts) ls us → ((r : ContextReader) → GoodContext r → ContextRest r ts ls us → Runs context_reader r ts ls us) → Runs context_reader s (t ∷ ts) ls us
run_on a (context_stops e) f = stop e
run_on {s} {t} a (context_takes {s = r} e h) f = take e (f r (good_move s r t a e) h)

run_out : {s : ContextReader} {us : List Token} {ls : List TypeNode} → ContextGoes s [] ls us → Runs context_reader s [] ls us
run_out (context_stops e) = stop e

run_of_rest : (ts : List Token) (s : ContextReader) (ls : List TypeNode) (us : List Token) → GoodContext s → ContextRest s ts ls us → Runs context_reader s ts ls us
run_of_rest [] s ls us a h = run_out (context_goes s [] us ls a h)
run_of_rest (t ∷ ts) s ls us a h = run_on a (context_goes s (t ∷ ts) us ls a h) (λ r b g. run_of_rest ts r ls us b g)

pub start_good : (ns : List TypeNode) → GoodContext (context_start ns)
start_good ns = good_both (alone_start ns) (alone_start ns) at_opening

pub start_puts : {ns ls : List TypeNode} {ts us : List Token} → ContextRest (context_start ns) ts ls us → PutsContext ns ts ls us
start_puts (by_one ms h) = one_pred h
start_puts (by_several (opening_rest e (pred_then ms vs h g))) = several_preds e h g

pub puts_start : {ns ls : List TypeNode} {ts us : List Token} → PutsContext ns ts ls us → ContextRest (context_start ns) ts ls us
puts_start (one_pred {ms} a) = by_one ms a
puts_start (several_preds {ms} {us} o a r) = by_several (opening_rest o (pred_then ms us a r))

-- each state can be ended

-- something is read
pub data Live : Option PredReader → Option Several → Type 0 where
  live_one : {o : PredReader} {s : Option Several} → Live (Some o) s
  live_several : {o : Option PredReader} {s : Several} → Live o (Some s)

pub sides_live : (o : Option PredReader) (s : Option Several) → Each (side_by_side o s) (λ r. Live r.one r.several)
sides_live None None = tt
sides_live (Some o) None = live_one
sides_live None (Some s) = live_several
sides_live (Some o) (Some s) = live_one

pub live_move : (s r : ContextReader) (t : Token) → context_move s t ≡ Some r → Live r.one r.several
unfolding context_move
live_move s r t e = each_of (λ v. Live v.one v.several) (context_move s t) (sides_live (one_moved s.one t) (several_moved s.several t)) e

reached_live : {s : ContextReader} → Reached context_reader s → Live s.one s.several
reached_live at_start = live_one
reached_live (after {s} {r} {t} h e) = live_move s r t e

reached_good : {s : ContextReader} → Reached context_reader s → GoodContext s
reached_good at_start = start_good []
reached_good (after {s} {r} {t} h e) = good_move s r t (reached_good h) e

pub data SomeContext : Option PredReader → Option Several → List Token → Type 0 where
  some_context : {o : Option PredReader} {s : Option Several} {us : List Token} → (ts : List Token) (ls : List TypeNode) → SideRest o s ts ls us → SomeContext o s us

one_some : {o : PredReader} {s : Option Several} {us : List Token} → SomePred o us → SomeContext (Some o) s us
one_some (some_pred ts ls h) = some_context ts (put ls (node.Context 1)) (by_one ls h)

abbrev open_token : Token
open_token = record { place = record { line = 0; col = 0 }; kind = Mark 40 }

opening_some : {o : Option PredReader} {c : ℕ} {p : PredReader} {us : List Token} → SomePred p (close_token ∷ us) → SomeContext o (Some (several_state Opening c p)) us
opening_some {c} {us} (some_pred ts ls h) = some_context (open_token ∷ ts) (put ls (node.Context c)) (by_several (opening_rest refl (pred_then ls (close_token ∷ us) h (preds_close refl))))

inside_some : {o : Option PredReader} {c : ℕ} {p : PredReader} {us : List Token} → SomePred p (close_token ∷ us) → SomeContext o (Some (several_state Inside c p)) us
inside_some {c} {us} (some_pred ts ls h) = some_context ts (put ls (node.Context c)) (by_several (inside_rest (pred_then ls (close_token ∷ us) h (preds_close refl))))

several_some : (o : Option PredReader) (stage : SeveralStage) (c : ℕ) (p : PredReader) (us : List Token) → SomeContext o (Some (several_state stage c p)) us
several_some o Opening c p us = opening_some (some_pred_of p (close_token ∷ us))
several_some o Inside c p us = inside_some (some_pred_of p (close_token ∷ us))
several_some o Closed c p us = some_context us _ (by_several closed_rest)

pub live_some : {o : Option PredReader} {s : Option Several} → (us : List Token) → Live o s → SomeContext o s us
live_some us (live_one {o}) = one_some (some_pred_of o us)
live_some us (live_several {o} {s}) = several_some o s.stage s.count s.pred us

alive_by : {s : ContextReader} → GoodContext s → SomeContext s.one s.several [] → (ts : List Token) × ((ls : List TypeNode) × Runs context_reader s ts ls [])
alive_by {s} g (some_context ts ls h) = (ts, (ls, run_of_rest ts s ls [] g h))

nodes_read : {ts us : List Token} {ls : List TypeNode} → ContextTree [] ts ls us → ContextNodesRead ts ls us
nodes_read (context_tree ps h e) = record { tree = ps; read = h; nodes_of = e ∙ put_context_nodes [] ps }

put_read : {ts us : List Token} {ls : List TypeNode} → (ps : List PredExpr) → ls ≡ context_nodes ps → ReadsContext ts ps us → PutsContext [] ts ls us
put_read {ts} {us} ps e h = let P : List TypeNode → Type 0 = λ v. PutsContext [] ts v us in subst P (put_context_nodes [] ps ∙ sym e) (context_puts [] h)

pub context_exact : Exact context_reader ContextNodesRead
context_exact = record {
  sound = λ h. nodes_read (context_of (start_puts (rest_of_run h)));
  complete = λ {ts} {us} {a} h. run_of_rest ts (context_start []) a us (start_good []) (puts_start (put_read h.tree h.nodes_of h.read));
  alive = λ {s} h. alive_by (reached_good h) (live_some [] (reached_live h));
}
