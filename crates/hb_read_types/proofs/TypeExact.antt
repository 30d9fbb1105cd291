-- The readers of types read just what the grammar says, and what they have taken can always be ended.
use Rattle.std.proofs.Common.{◌≡◌, Bool, true, false, List, [], ◌∷◌, refl, sym, subst, ◌∙◌}
use Rattle.hb_base.specs.declared.place.Place.{Place}
use Rattle.hb_base.specs.Fixed.{plus}
use Rattle.hb_tokens.specs.declared.token.Token.{Token}
use Rattle.hb_tokens.specs.declared.token.TokenKind.TheVariants.{ConId, Mark}
use Rattle.hb_grammar.specs.Reading.{Runs, stop, take, Exact}
use Rattle.hb_read_types.specs.declared.node.TypeNode.{TypeNode}
use Rattle.hb_read_types.specs.declared.node.TypeNode.TheVariants as node
use Rattle.hb_tree.specs.Types.{TypeExpr}
use Rattle.hb_grammar.specs.Types.{ReadsType, ReadsAtype}
use Rattle.hb_read_types.specs.Nodes.{type_nodes}
use Rattle.hb_read_types.specs.declared.type_reader.Spot.{Spot}
use Rattle.hb_read_types.specs.declared.type_reader.Frame.{Frame}
use Rattle.hb_read_types.specs.declared.type_reader.Frame.TheVariants.{Open, Pair, Sum, Arrow}
use Rattle.hb_read_types.specs.declared.type_reader.Now.{Now}
use Rattle.hb_read_types.specs.declared.type_reader.Now.TheVariants.{Want, Opened, Had}
use Rattle.hb_read_types.specs.declared.type_reader.TypeReader.{TypeReader}
use Rattle.hb_read_types.specs.TypeMoves.{put, filled, start, reader, type_reader, atype_reader}
use Rattle.hb_read_types.specs.Reads.{TypeNodesRead, AtypeNodesRead}
use Rattle.hb_read_types.proofs.Puts.{PutsType, PutsAtype, alone, arrow, row, atom}
use Rattle.hb_read_types.proofs.TypeTrees.{TypeTree, type_tree, AtypeTree, atype_tree, type_of, atype_of, puts_type, puts_atype, put_nodes}
use Rattle.hb_read_types.proofs.TypeRest.{itself, row_on, type_end, arrow_next, TypeRest, at_bottom, arrow_end, bracket_end, pair_end, sum_end, WantRest, want, want_rest, NowRest, Rest}
use Rattle.hb_read_types.proofs.TypeBack.{move_back, done_back, had_end}
use Rattle.hb_read_types.proofs.TypeForth.{Goes, stops, takes, goes, type_want}

pub rest_of_run : {w : Bool} {s : TypeReader} {ts us : List Token} {ls : List TypeNode} → Runs (reader w) s ts ls us → Rest s ts ls us
rest_of_run (stop {s} {ts} {a} e) = done_back s ts a e
rest_of_run (take {s} {r} {t} {ts} {us} {a} e h) = move_back s r t ts a us e (rest_of_run h)

run_on : {w : Bool} {s : TypeReader} {t : Token} {ts us : List Token} {ls : List TypeNode} → Goes s (t ∷ ts) ls us → ((r : TypeReader) → Rest r ts ls us → Runs (reader w) r ts ls us) → Runs (reader w) s (t ∷ ts) ls us
run_on (stops e) f = stop e
run_on (takes {s = r} e h) f = take e (f r h)

run_out : {w : Bool} {s : TypeReader} {us : List Token} {ls : List TypeNode} → Goes s [] ls us → Runs (reader w) s [] ls us
run_out (stops e) = stop e

pub run_of_rest : (w : Bool) (ts : List Token) (s : TypeReader) (ls : List TypeNode) (us : List Token) → Rest s ts ls us → Runs (reader w) s ts ls us
run_of_rest w [] s ls us h = run_out (goes s [] ls us h)
run_of_rest w (t ∷ ts) s ls us h = run_on (goes s (t ∷ ts) ls us h) (λ r g. run_of_rest w ts r ls us g)

-- what a start can end with
pub start_type : {ns ls : List TypeNode} {ts us : List Token} → WantRest true [] ns ts ls us → PutsType ts ns ls us
start_type (want a (row_on m r (type_end at_bottom))) = alone (row a r)
start_type (want a (row_on m r (arrow_next n e b at_bottom))) = arrow (row a r) e b

pub start_atype : {ns ls : List TypeNode} {ts us : List Token} → WantRest false [] ns ts ls us → PutsAtype ts ns ls us
start_atype (want a itself) = a
start_atype (want a (row_on m r h)) = cc

type_nodes_read : {ts us : List Token} {ls : List TypeNode} → TypeTree ts [] ls us → TypeNodesRead ts ls us
type_nodes_read (type_tree a h e) = record { tree = a; read = h; nodes_of = e ∙ put_nodes [] a }

atype_nodes_read : {ts us : List Token} {ls : List TypeNode} → AtypeTree ts [] ls us → AtypeNodesRead ts ls us
atype_nodes_read (atype_tree a h e) = record { tree = a; read = h; nodes_of = e ∙ put_nodes [] a }

-- tokens that end what is begun
abbrev pub close_token : Token
close_token = record { place = record { line = 0; col = 0 }; kind = Mark 41 }

abbrev pub con_token : Token
con_token = record { place = record { line = 0; col = 0 }; kind = ConId plus }

-- some tokens before the tokens us end what is begun
pub data SomeEnd : Bool → List Frame → List TypeNode → List Token → Type 0 where
  some_end : {w : Bool} {frames : List Frame} {ns : List TypeNode} {us : List Token} → (ts : List Token) (ls : List TypeNode) → TypeRest w frames ns ts ls us → SomeEnd w frames ns us

pub data SomeRest : TypeReader → List Token → Type 0 where
  some_rest : {r : TypeReader} {us : List Token} → (ts : List Token) (ls : List TypeNode) → Rest r ts ls us → SomeRest r us

close_open : {w : Bool} {bracket : Place} {spot : Spot} {frames : List Frame} {ns : List TypeNode} {us : List Token} → SomeEnd w frames (filled spot ns) us → SomeEnd w (Open bracket spot ∷ frames) ns us
close_open (some_end ts ls h) = some_end (close_token ∷ ts) ls (bracket_end refl (had_end h))

close_pair : {w : Bool} {bracket : Place} {spot : Spot} {frames : List Frame} {ns : List TypeNode} {us : List Token} → SomeEnd w frames (filled spot (put ns (node.Pair bracket))) us → SomeEnd w (Pair bracket spot ∷ frames) ns us
close_pair (some_end ts ls h) = some_end (close_token ∷ ts) ls (pair_end refl (had_end h))

close_sum : {w : Bool} {bracket : Place} {spot : Spot} {frames : List Frame} {ns : List TypeNode} {us : List Token} → SomeEnd w frames (filled spot (put ns (node.Sum bracket))) us → SomeEnd w (Sum bracket spot ∷ frames) ns us
close_sum (some_end ts ls h) = some_end (close_token ∷ ts) ls (sum_end refl (had_end h))

end_arrow : {w : Bool} {place : Place} {frames : List Frame} {ns : List TypeNode} {us : List Token} → SomeEnd w frames (put ns (node.Arrow place)) us → SomeEnd w (Arrow place ∷ frames) ns us
end_arrow (some_end ts ls h) = some_end ts ls (arrow_end h)

ends_some : (w : Bool) (frames : List Frame) (ns : List TypeNode) (us : List Token) → SomeEnd w frames ns us
ends_some w [] ns us = some_end us ns at_bottom
ends_some w (Open bracket spot ∷ frames) ns us = close_open (ends_some w frames (filled spot ns) us)
ends_some w (Pair bracket spot ∷ frames) ns us = close_pair (ends_some w frames (filled spot (put ns (node.Pair bracket))) us)
ends_some w (Sum bracket spot ∷ frames) ns us = close_sum (ends_some w frames (filled spot (put ns (node.Sum bracket))) us)
ends_some w (Arrow place ∷ frames) ns us = end_arrow (ends_some w frames (put ns (node.Arrow place)) us)

want_ends : {r : TypeReader} {us : List Token} → r.stage ≡ Want → SomeEnd r.is_whole r.frames (put r.nodes (node.Con con_token.place plus)) us → SomeRest r us
want_ends {r} {us} e (some_end ts ls h) = let P : Now → Type 0 = λ v. NowRest r.is_whole v r.frames r.nodes (con_token ∷ ts) ls us in some_rest (con_token ∷ ts) ls (subst P (sym e) (want (atom refl) (had_end h)))

opened_ends : {r : TypeReader} {us : List Token} (bracket : Place) (spot : Spot) → r.stage ≡ Opened bracket spot → SomeEnd r.is_whole (Open bracket spot ∷ r.frames) (put r.nodes (node.Con con_token.place plus)) us → SomeRest r us
opened_ends {r} {us} bracket spot e (some_end ts ls h) = let P : Now → Type 0 = λ v. NowRest r.is_whole v r.frames r.nodes (con_token ∷ ts) ls us in some_rest (con_token ∷ ts) ls (subst P (sym e) (want_rest (want (atom refl) (had_end h))))

had_ends : {r : TypeReader} {us : List Token} (head : Place) → r.stage ≡ Had head → SomeEnd r.is_whole r.frames r.nodes us → SomeRest r us
had_ends {r} {us} head e (some_end ts ls h) = let P : Now → Type 0 = λ v. NowRest r.is_whole v r.frames r.nodes ts ls us in some_rest ts ls (subst P (sym e) (had_end h))

stage_ends : (r : TypeReader) (us : List Token) (now : Now) → r.stage ≡ now → SomeRest r us
stage_ends r us Want e = want_ends e (ends_some r.is_whole r.frames (put r.nodes (node.Con con_token.place plus)) us)
stage_ends r us (Opened bracket spot) e = opened_ends bracket spot e (ends_some r.is_whole (Open bracket spot ∷ r.frames) (put r.nodes (node.Con con_token.place plus)) us)
stage_ends r us (Had head) e = had_ends head e (ends_some r.is_whole r.frames r.nodes us)

-- each state can be ended before any tokens
pub some_rest_of : (r : TypeReader) (us : List Token) → SomeRest r us
some_rest_of r us = stage_ends r us r.stage refl

alive_by : {w : Bool} {s : TypeReader} → SomeRest s [] → (ts : List Token) × ((ls : List TypeNode) × Runs (reader w) s ts ls [])
alive_by {w} {s} (some_rest ts ls h) = (ts, (ls, run_of_rest w ts s ls [] h))

pub type_start : {ns ls : List TypeNode} {ts us : List Token} → PutsType ts ns ls us → WantRest true [] ns ts ls us
type_start h = type_want refl refl h at_bottom

pub atype_start : {ns ls : List TypeNode} {ts us : List Token} → PutsAtype ts ns ls us → WantRest false [] ns ts ls us
atype_start h = want h itself

put_type_nodes : {ts us : List Token} {ls : List TypeNode} → (a : TypeExpr) → ls ≡ type_nodes a → ReadsType ts a us → PutsType ts [] ls us
put_type_nodes {ts} {us} a e h = let P : List TypeNode → Type 0 = λ v. PutsType ts [] v us in subst P (put_nodes [] a ∙ sym e) (puts_type [] h)

put_atype_nodes : {ts us : List Token} {ls : List TypeNode} → (a : TypeExpr) → ls ≡ type_nodes a → ReadsAtype ts a us → PutsAtype ts [] ls us
put_atype_nodes {ts} {us} a e h = let P : List TypeNode → Type 0 = λ v. PutsAtype ts [] v us in subst P (put_nodes [] a ∙ sym e) (puts_atype [] h)

pub type_exact : Exact type_reader TypeNodesRead
type_exact = record {
  sound = λ h. type_nodes_read (type_of (start_type (rest_of_run h)));
  complete = λ {ts} {us} {a} h. run_of_rest true ts (start true) a us (type_start (put_type_nodes h.tree h.nodes_of h.read));
  alive = λ {s} h. alive_by (some_rest_of s []);
}

pub atype_exact : Exact atype_reader AtypeNodesRead
atype_exact = record {
  sound = λ h. atype_nodes_read (atype_of (start_atype (rest_of_run h)));
  complete = λ {ts} {us} {a} h. run_of_rest false ts (start false) a us (atype_start (put_atype_nodes h.tree h.nodes_of h.read));
  alive = λ {s} h. alive_by (some_rest_of s []);
}
