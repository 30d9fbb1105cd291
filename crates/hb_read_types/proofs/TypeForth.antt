-- Before its rest a reader of types is at its end, or takes the next token and stands before the rest of that.
use Rattle.std.proofs.Common.{◌≡◌, Bool, true, false, cond, List, ◌∷◌, Option, Some, None, refl, sym, subst}
use Rattle.hb_base.specs.declared.place.Place.{Place}
use Rattle.hb_tokens.specs.declared.token.Token.{Token}
use Rattle.hb_grammar.specs.Tokens.{first_place}
use Rattle.hb_read_types.specs.declared.node.TypeNode.{TypeNode}
use Rattle.hb_read_types.specs.declared.node.TypeNode.TheVariants as node
use Rattle.hb_read_types.specs.declared.sort.Sort.{Sort}
use Rattle.hb_read_types.specs.declared.sort.Sort.TheVariants as sort
use Rattle.hb_read_types.specs.declared.type_reader.Spot.{Spot}
use Rattle.hb_read_types.specs.declared.type_reader.Spot.TheVariants.{First, Argument}
use Rattle.hb_read_types.specs.declared.type_reader.Frame.{Frame}
use Rattle.hb_read_types.specs.declared.type_reader.Frame.TheVariants.{Open, Arrow}
use Rattle.hb_read_types.specs.declared.type_reader.Now.{Now}
use Rattle.hb_read_types.specs.declared.type_reader.Now.TheVariants.{Want, Opened, Had}
use Rattle.hb_read_types.specs.declared.type_reader.TypeReader.{TypeReader}
use Rattle.hb_read_types.specs.Sorts.{sort_of}
use Rattle.hb_read_types.specs.TypeMoves.{state, put, head_place, filled, begin, in_bracket, may_apply, may_arrow, divide, close, go_on, move_now, type_move, ended, done_now, type_done}
use Rattle.hb_read_types.proofs.Puts.{PutsType, PutsBtype, PutsAtype, alone, arrow, row, no_more, one_more, atom, unit, inside, pair, sum}
use Rattle.hb_read_types.proofs.TypeRest.{HadRest, itself, row_on, RowRest, type_end, arrow_next, sum_next, TypeRest, at_bottom, arrow_end, bracket_end, pair_next, pair_end, sum_end, WantRest, want, OpenedRest, unit_rest, want_rest, NowRest, Rest}

pub data Goes : TypeReader → List Token → List TypeNode → List Token → Type 0 where
  stops : {r : TypeReader} {ts : List Token} {ls : List TypeNode} → type_done r ≡ Some ls → Goes r ts ls ts
  takes : {r s : TypeReader} {t : Token} {ts us : List Token} {ls : List TypeNode} → type_move r t ≡ Some s → Rest s ts ls us → Goes r (t ∷ ts) ls us

-- a token of this sort is taken
data TakesNow : Bool → Now → List Frame → List TypeNode → List Token → List TypeNode → List Token → Type 0 where
  takes_now : {w : Bool} {now : Now} {frames : List Frame} {ns ls : List TypeNode} {s : Sort} {r : TypeReader} {t : Token} {ts us : List Token} → sort_of t ≡ s → move_now w now frames ns t.place s ≡ Some r → Rest r ts ls us → TakesNow w now frames ns (t ∷ ts) ls us
  stops_now : {w : Bool} {now : Now} {frames : List Frame} {ns ls : List TypeNode} {ts : List Token} → done_now now frames ns ≡ Some ls → TakesNow w now frames ns ts ls ts

row_want : {w : Bool} {frames : List Frame} {ns ms ls : List TypeNode} {ts us vs : List Token} → may_apply w frames ≡ true → PutsBtype ts ns ms us → RowRest w frames (first_place ts) ms us ls vs → WantRest w frames ns ts ls vs
row_want m (row a r) h = want a (row_on m r h)

pub type_want : {w : Bool} {frames : List Frame} {ns ms ls : List TypeNode} {ts us vs : List Token} → may_apply w frames ≡ true → may_arrow w frames ≡ true → PutsType ts ns ms us → TypeRest w frames ms us ls vs → WantRest w frames ns ts ls vs
type_want m n (alone b) h = row_want m b (type_end h)
type_want m n (arrow b e a) h = row_want m b (arrow_next n e a h)

data Begins : Bool → Spot → List Frame → List TypeNode → List Token → List TypeNode → List Token → Type 0 where
  begins : {w : Bool} {spot : Spot} {frames : List Frame} {ns ls : List TypeNode} {s : Sort} {r : TypeReader} {t : Token} {ts us : List Token} → sort_of t ≡ s → begin w spot frames ns t.place s ≡ Some r → Rest r ts ls us → Begins w spot frames ns (t ∷ ts) ls us

begin_forth : {w : Bool} {spot : Spot} {frames : List Frame} {ns ms ls : List TypeNode} {ts us vs : List Token} → PutsAtype ts ns ms us → HadRest w frames (head_place spot (first_place ts)) (filled spot ms) us ls vs → Begins w spot frames ns ts ls vs
begin_forth (atom e) h = begins e refl h
begin_forth (unit o c) h = begins o refl (unit_rest c h)
begin_forth (inside o a c) h = begins o refl (want_rest (type_want refl refl a (bracket_end c h)))
begin_forth (pair o a k b c) h = begins o refl (want_rest (type_want refl refl a (pair_next k b c h)))
begin_forth (sum o a p b c) h = begins o refl (want_rest (row_want refl a (sum_next p b c h)))

in_bracket_is : (w : Bool) (bracket : Place) (spot : Spot) (frames : List Frame) (ns : List TypeNode) (place : Place) (s : Sort) (r : TypeReader) → begin w First (Open bracket spot ∷ frames) ns place s ≡ Some r → in_bracket w bracket spot frames ns place s ≡ Some r
in_bracket_is w bracket spot frames ns place (sort.Atom n) r e = e
in_bracket_is w bracket spot frames ns place sort.Open r e = e
in_bracket_is w bracket spot frames ns place sort.Close r e = cc
in_bracket_is w bracket spot frames ns place sort.Comma r e = e
in_bracket_is w bracket spot frames ns place sort.Arrow r e = e
in_bracket_is w bracket spot frames ns place sort.Equals r e = e
in_bracket_is w bracket spot frames ns place sort.Plus r e = e
in_bracket_is w bracket spot frames ns place sort.Times r e = e
in_bracket_is w bracket spot frames ns place sort.Power r e = e
in_bracket_is w bracket spot frames ns place sort.AtMost r e = e
in_bracket_is w bracket spot frames ns place sort.Other r e = e

if_true : {A : Type 0} (b : Bool) (o : Option A) (r : A) → b ≡ true → o ≡ Some r → cond b o None ≡ Some r
if_true true o r m e = e
if_true false o r m e = cc

go_on_is : (w : Bool) (head : Place) (frames : List Frame) (ns : List TypeNode) (place : Place) (s : Sort) (r : TypeReader) → may_apply w frames ≡ true → begin w (Argument head) frames ns place s ≡ Some r → go_on w head frames ns place s ≡ Some r
go_on_is w head frames ns place (sort.Atom n) r m e = if_true (may_apply w frames) (begin w (Argument head) frames ns place (sort.Atom n)) r m e
go_on_is w head frames ns place sort.Open r m e = if_true (may_apply w frames) (begin w (Argument head) frames ns place sort.Open) r m e
go_on_is w head frames ns place sort.Close r m e = cc
go_on_is w head frames ns place sort.Comma r m e = cc
go_on_is w head frames ns place sort.Arrow r m e = cc
go_on_is w head frames ns place sort.Equals r m e = cc
go_on_is w head frames ns place sort.Plus r m e = cc
go_on_is w head frames ns place sort.Times r m e = cc
go_on_is w head frames ns place sort.Power r m e = cc
go_on_is w head frames ns place sort.AtMost r m e = cc
go_on_is w head frames ns place sort.Other r m e = cc

data Ends : Bool → List Frame → List TypeNode → List Token → List TypeNode → List Token → Type 0 where
  ends_here : {w : Bool} {frames : List Frame} {ns ls : List TypeNode} {ts : List Token} → ended frames ns ≡ Some ls → Ends w frames ns ts ls ts
  ends_closed : {w : Bool} {frames : List Frame} {ns ls : List TypeNode} {r : TypeReader} {t : Token} {ts us : List Token} → sort_of t ≡ sort.Close → close w frames ns ≡ Some r → Rest r ts ls us → Ends w frames ns (t ∷ ts) ls us
  ends_divided : {w : Bool} {frames : List Frame} {ns ls : List TypeNode} {r : TypeReader} {t : Token} {ts us : List Token} → sort_of t ≡ sort.Comma → divide w frames ns ≡ Some r → Rest r ts ls us → Ends w frames ns (t ∷ ts) ls us

past_arrow : {w : Bool} {frames : List Frame} {place : Place} {ns ls : List TypeNode} {ts us : List Token} → Ends w frames (put ns (node.Arrow place)) ts ls us → Ends w (Arrow place ∷ frames) ns ts ls us
past_arrow (ends_here e) = ends_here e
past_arrow (ends_closed c e h) = ends_closed c e h
past_arrow (ends_divided k e h) = ends_divided k e h

ends : {w : Bool} {frames : List Frame} {ns ls : List TypeNode} {ts us : List Token} → TypeRest w frames ns ts ls us → Ends w frames ns ts ls us
ends at_bottom = ends_here refl
ends (arrow_end h) = past_arrow (ends h)
ends (bracket_end c h) = ends_closed c refl h
ends (pair_next k b c h) = ends_divided k refl (type_want refl refl b (pair_end c h))
ends (pair_end c h) = ends_closed c refl h
ends (sum_end c h) = ends_closed c refl h

had_ends : {w : Bool} {head : Place} {frames : List Frame} {ns ls : List TypeNode} {ts us : List Token} → Ends w frames ns ts ls us → TakesNow w (Had head) frames ns ts ls us
had_ends (ends_here e) = stops_now e
had_ends (ends_closed c e h) = takes_now c e h
had_ends (ends_divided k e h) = takes_now k e h

row_forth : {w : Bool} {head : Place} {frames : List Frame} {ns ls : List TypeNode} {ts us : List Token} → RowRest w frames head ns ts ls us → TakesNow w (Had head) frames ns ts ls us
row_forth (type_end h) = had_ends (ends h)
row_forth {w} {head} {frames} {ns} (arrow_next n e a h) = takes_now e (if_true (may_arrow w frames) (Some (state w Want (Arrow head ∷ frames) ns)) (state w Want (Arrow head ∷ frames) ns) n refl) (type_want refl refl a (arrow_end h))
row_forth (sum_next e b c h) = takes_now e refl (row_want refl b (type_end (sum_end c h)))

had_begins : {w : Bool} {head : Place} {frames : List Frame} {ns ls : List TypeNode} {ts us : List Token} → may_apply w frames ≡ true → Begins w (Argument head) frames ns ts ls us → TakesNow w (Had head) frames ns ts ls us
had_begins {head} m (begins {w} {frames} {ns} {s} {r} {t} e f h) = takes_now e (go_on_is w head frames ns t.place s r m f) h

had_forth : {w : Bool} {head : Place} {frames : List Frame} {ns ls : List TypeNode} {ts us : List Token} → HadRest w frames head ns ts ls us → TakesNow w (Had head) frames ns ts ls us
had_forth itself = stops_now refl
had_forth (row_on m no_more h) = row_forth h
had_forth (row_on m (one_more a r) h) = had_begins m (begin_forth a (row_on m r h))

want_begins : {w : Bool} {frames : List Frame} {ns ls : List TypeNode} {ts us : List Token} → Begins w First frames ns ts ls us → TakesNow w Want frames ns ts ls us
want_begins (begins e f h) = takes_now e f h

opened_begins : {w : Bool} {bracket : Place} {spot : Spot} {frames : List Frame} {ns ls : List TypeNode} {ts us : List Token} → Begins w First (Open bracket spot ∷ frames) ns ts ls us → TakesNow w (Opened bracket spot) frames ns ts ls us
opened_begins {w} {bracket} {spot} {frames} {ns} (begins {s} {r} {t} e f h) = takes_now e (in_bracket_is w bracket spot frames ns t.place s r f) h

want_forth : {w : Bool} {frames : List Frame} {ns ls : List TypeNode} {ts us : List Token} → WantRest w frames ns ts ls us → TakesNow w Want frames ns ts ls us
want_forth (want a h) = want_begins (begin_forth a h)

opened_forth : {w : Bool} {bracket : Place} {spot : Spot} {frames : List Frame} {ns ls : List TypeNode} {ts us : List Token} → OpenedRest w bracket spot frames ns ts ls us → TakesNow w (Opened bracket spot) frames ns ts ls us
opened_forth (unit_rest c h) = takes_now c refl h
opened_forth (want_rest (want a h)) = opened_begins (begin_forth a h)

now_forth : (w : Bool) (now : Now) (frames : List Frame) (ns ls : List TypeNode) (ts us : List Token) → NowRest w now frames ns ts ls us → TakesNow w now frames ns ts ls us
now_forth w Want frames ns ls ts us h = want_forth h
now_forth w (Opened bracket spot) frames ns ls ts us h = opened_forth h
now_forth w (Had head) frames ns ls ts us h = had_forth h

move_is : (w : Bool) (now : Now) (frames : List Frame) (ns : List TypeNode) (t : Token) (s : Sort) (r : TypeReader) → sort_of t ≡ s → move_now w now frames ns t.place s ≡ Some r → type_move (state w now frames ns) t ≡ Some r
unfolding type_move
move_is w now frames ns t s r e f = let P : Sort → Type 0 = λ v. move_now w now frames ns t.place v ≡ Some r in subst P (sym e) f

done_is : (w : Bool) (now : Now) (frames : List Frame) (ns ls : List TypeNode) → done_now now frames ns ≡ Some ls → type_done (state w now frames ns) ≡ Some ls
unfolding type_done
done_is w now frames ns ls e = e

goes_now : (w : Bool) (now : Now) (frames : List Frame) (ns ls : List TypeNode) (ts us : List Token) → TakesNow w now frames ns ts ls us → Goes (state w now frames ns) ts ls us
goes_now w now frames ns ls ts us (takes_now {s} {r} {t} e f h) = takes (move_is w now frames ns t s r e f) h
goes_now w now frames ns ls ts us (stops_now e) = stops (done_is w now frames ns ls e)

-- the reader goes on along its rest
pub goes : (r : TypeReader) (ts : List Token) (ls : List TypeNode) (us : List Token) → Rest r ts ls us → Goes r ts ls us
goes r ts ls us h = goes_now r.is_whole r.stage r.frames r.nodes ls ts us (now_forth r.is_whole r.stage r.frames r.nodes ls ts us h)
