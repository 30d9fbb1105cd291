-- A token that is taken stands before the rest of the state after it.
use Rattle.std.proofs.Common.{◌≡◌, Bool, true, false, cond, List, [], ◌∷◌, Option, Some, None, refl, subst}
use Rattle.hb_base.specs.declared.place.Place.{Place}
use Rattle.hb_tokens.specs.declared.token.Token.{Token}
use Rattle.hb_read_types.specs.declared.node.TypeNode.{TypeNode}
use Rattle.hb_read_types.specs.declared.node.TypeNode.TheVariants as node
use Rattle.hb_read_types.specs.declared.sort.Sort.{Sort}
use Rattle.hb_read_types.specs.declared.sort.Sort.TheVariants as sort
use Rattle.hb_read_types.specs.declared.type_reader.Spot.{Spot}
use Rattle.hb_read_types.specs.declared.type_reader.Spot.TheVariants.{First, Argument}
use Rattle.hb_read_types.specs.declared.type_reader.Frame.{Frame}
use Rattle.hb_read_types.specs.declared.type_reader.Frame.TheVariants.{Open, Pair, Sum, Arrow}
use Rattle.hb_read_types.specs.declared.type_reader.Now.{Now}
use Rattle.hb_read_types.specs.declared.type_reader.Now.TheVariants.{Want, Opened, Had}
use Rattle.hb_read_types.specs.declared.type_reader.TypeReader.{TypeReader}
use Rattle.hb_read_types.specs.Sorts.{sort_of}
use Rattle.hb_read_types.specs.TypeMoves.{state, put, begin, in_bracket, may_apply, may_arrow, add, divide, close, go_on, move_now, type_move, ended, done_now, type_done}
use Rattle.hb_read_types.proofs.Puts.{alone, arrow, row, no_more, one_more, atom, unit, inside, pair, sum}
use Rattle.hb_read_types.proofs.TypeRest.{HadRest, itself, row_on, RowRest, type_end, arrow_next, sum_next, TypeRest, at_bottom, arrow_end, bracket_end, pair_next, pair_end, sum_end, WantRest, want, OpenedRest, unit_rest, want_rest, NowRest, Rest, AtypeThen, atype_then}

-- of what there is, if there is something
abbrev pub Each : {A : Type 0} → Option A → (A → Type 0) → Type 0
Each None P = Unit {0}
Each (Some a) P = P a

pub each_of : {A : Type 0} (P : A → Type 0) {a : A} → (o : Option A) → Each o P → o ≡ Some a → P a
each_of {A} P {a} o h e = let Q : Option A → Type 0 = λ v. Each v P in subst Q e h

pub each_map : {A : Type 0} (P Q : A → Type 0) → (o : Option A) → ((a : A) → P a → Q a) → Each o P → Each o Q
each_map P Q None f h = tt
each_map P Q (Some a) f h = f a h

pub each_if : {A : Type 0} (P : A → Type 0) → (b : Bool) (o : Option A) → (b ≡ true → Each o P) → Each (cond b o None) P
each_if P true o f = f refl
each_if P false o f = tt

pub opened_atype : {w : Bool} {spot : Spot} {frames : List Frame} {ns ls : List TypeNode} {t : Token} {ts us : List Token} → sort_of t ≡ sort.Open → OpenedRest w t.place spot frames ns ts ls us → AtypeThen w spot frames ns (t ∷ ts) ls us
opened_atype o (unit_rest c h) = atype_then (unit o c) h
opened_atype o (want_rest (want a (row_on m r (type_end (bracket_end c h))))) = atype_then (inside o (alone (row a r)) c) h
opened_atype o (want_rest (want a (row_on m r (type_end (pair_next k b c h))))) = atype_then (pair o (alone (row a r)) k b c) h
opened_atype o (want_rest (want a (row_on m r (arrow_next n e b (bracket_end c h))))) = atype_then (inside o (arrow (row a r) e b) c) h
opened_atype o (want_rest (want a (row_on m r (arrow_next n e b (pair_next k d c h))))) = atype_then (pair o (arrow (row a r) e b) k d c) h
opened_atype o (want_rest (want a (row_on m r (sum_next p b c h)))) = atype_then (sum o (row a r) p b c) h

pub begin_back : (w : Bool) (spot : Spot) (frames : List Frame) (ns ls : List TypeNode) (t : Token) (ts us : List Token) (s : Sort) → sort_of t ≡ s → Each (begin w spot frames ns t.place s) (λ r. Rest r ts ls us → AtypeThen w spot frames ns (t ∷ ts) ls us)
begin_back w spot frames ns ls t ts us (sort.Atom n) e = λ h. atype_then (atom e) h
begin_back w spot frames ns ls t ts us sort.Open e = λ h. opened_atype e h
begin_back w spot frames ns ls t ts us sort.Close e = tt
begin_back w spot frames ns ls t ts us sort.Comma e = tt
begin_back w spot frames ns ls t ts us sort.Arrow e = tt
begin_back w spot frames ns ls t ts us sort.Equals e = tt
begin_back w spot frames ns ls t ts us sort.Plus e = tt
begin_back w spot frames ns ls t ts us sort.Times e = tt
begin_back w spot frames ns ls t ts us sort.Power e = tt
begin_back w spot frames ns ls t ts us sort.AtMost e = tt
begin_back w spot frames ns ls t ts us sort.Other e = tt

wanted : {w : Bool} {frames : List Frame} {ns ls : List TypeNode} {ts us : List Token} → AtypeThen w First frames ns ts ls us → WantRest w frames ns ts ls us
wanted (atype_then a h) = want a h

opened : {w : Bool} {bracket : Place} {spot : Spot} {frames : List Frame} {ns ls : List TypeNode} {ts us : List Token} → AtypeThen w First (Open bracket spot ∷ frames) ns ts ls us → OpenedRest w bracket spot frames ns ts ls us
opened (atype_then a h) = want_rest (want a h)

applied : {w : Bool} {head : Place} {frames : List Frame} {ns ls : List TypeNode} {ts us : List Token} → may_apply w frames ≡ true → AtypeThen w (Argument head) frames ns ts ls us → HadRest w frames head ns ts ls us
applied m (atype_then a (row_on n r e)) = row_on n (one_more a r) e
applied m (atype_then a itself) = cc

after_arrow : {w : Bool} {head : Place} {frames : List Frame} {ns ls : List TypeNode} {t : Token} {ts us : List Token} → may_arrow w frames ≡ true → sort_of t ≡ sort.Arrow → WantRest w (Arrow head ∷ frames) ns ts ls us → RowRest w frames head ns (t ∷ ts) ls us
after_arrow n e (want a (row_on m r (type_end (arrow_end h)))) = arrow_next n e (alone (row a r)) h
after_arrow n e (want a (row_on m r (arrow_next k f b (arrow_end h)))) = arrow_next n e (arrow (row a r) f b) h

after_plus : {w : Bool} {bracket head : Place} {spot : Spot} {frames : List Frame} {ns ls : List TypeNode} {t : Token} {ts us : List Token} → sort_of t ≡ sort.Plus → WantRest w (Sum bracket spot ∷ frames) ns ts ls us → RowRest w (Open bracket spot ∷ frames) head ns (t ∷ ts) ls us
after_plus e (want a (row_on m r (type_end (sum_end c h)))) = sum_next e (row a r) c h
after_plus e (want a (row_on m r (arrow_next k f b h))) = cc

after_comma : {w : Bool} {bracket : Place} {spot : Spot} {frames : List Frame} {ns ls : List TypeNode} {t : Token} {ts us : List Token} → sort_of t ≡ sort.Comma → WantRest w (Pair bracket spot ∷ frames) ns ts ls us → TypeRest w (Open bracket spot ∷ frames) ns (t ∷ ts) ls us
after_comma e (want a (row_on m r (type_end (pair_end c h)))) = pair_next e (alone (row a r)) c h
after_comma e (want a (row_on m r (arrow_next k f b (pair_end c h)))) = pair_next e (arrow (row a r) f b) c h

close_back : (w : Bool) (frames : List Frame) (ns ls : List TypeNode) (t : Token) (ts us : List Token) → sort_of t ≡ sort.Close → Each (close w frames ns) (λ r. Rest r ts ls us → TypeRest w frames ns (t ∷ ts) ls us)
close_back w [] ns ls t ts us e = tt
close_back w (Open bracket spot ∷ frames) ns ls t ts us e = λ h. bracket_end e h
close_back w (Pair bracket spot ∷ frames) ns ls t ts us e = λ h. pair_end e h
close_back w (Sum bracket spot ∷ frames) ns ls t ts us e = λ h. sum_end e h
close_back w (Arrow place ∷ frames) ns ls t ts us e = each_map (λ r. Rest r ts ls us → TypeRest w frames (put ns (node.Arrow place)) (t ∷ ts) ls us) (λ r. Rest r ts ls us → TypeRest w (Arrow place ∷ frames) ns (t ∷ ts) ls us) (close w frames (put ns (node.Arrow place))) (λ r f h. arrow_end (f h)) (close_back w frames (put ns (node.Arrow place)) ls t ts us e)

divide_back : (w : Bool) (frames : List Frame) (ns ls : List TypeNode) (t : Token) (ts us : List Token) → sort_of t ≡ sort.Comma → Each (divide w frames ns) (λ r. Rest r ts ls us → TypeRest w frames ns (t ∷ ts) ls us)
divide_back w [] ns ls t ts us e = tt
divide_back w (Open bracket spot ∷ frames) ns ls t ts us e = λ h. after_comma e h
divide_back w (Pair bracket spot ∷ frames) ns ls t ts us e = tt
divide_back w (Sum bracket spot ∷ frames) ns ls t ts us e = tt
divide_back w (Arrow place ∷ frames) ns ls t ts us e = each_map (λ r. Rest r ts ls us → TypeRest w frames (put ns (node.Arrow place)) (t ∷ ts) ls us) (λ r. Rest r ts ls us → TypeRest w (Arrow place ∷ frames) ns (t ∷ ts) ls us) (divide w frames (put ns (node.Arrow place))) (λ r f h. arrow_end (f h)) (divide_back w frames (put ns (node.Arrow place)) ls t ts us e)

add_back : (w : Bool) (head : Place) (frames : List Frame) (ns ls : List TypeNode) (t : Token) (ts us : List Token) → sort_of t ≡ sort.Plus → Each (add w frames ns) (λ r. Rest r ts ls us → RowRest w frames head ns (t ∷ ts) ls us)
add_back w head [] ns ls t ts us e = tt
add_back w head (Open bracket spot ∷ frames) ns ls t ts us e = λ h. after_plus e h
add_back w head (Pair bracket spot ∷ frames) ns ls t ts us e = tt
add_back w head (Sum bracket spot ∷ frames) ns ls t ts us e = tt
add_back w head (Arrow place ∷ frames) ns ls t ts us e = tt

pub had_end : {w : Bool} {frames : List Frame} {head : Place} {ns ls : List TypeNode} {ts us : List Token} → TypeRest w frames ns ts ls us → HadRest w frames head ns ts ls us
had_end (at_bottom {w = true}) = row_on refl no_more (type_end at_bottom)
had_end (at_bottom {w = false}) = itself
had_end (arrow_end h) = row_on refl no_more (type_end (arrow_end h))
had_end (bracket_end c h) = row_on refl no_more (type_end (bracket_end c h))
had_end (pair_next k b c h) = row_on refl no_more (type_end (pair_next k b c h))
had_end (pair_end c h) = row_on refl no_more (type_end (pair_end c h))
had_end (sum_end c h) = row_on refl no_more (type_end (sum_end c h))

arrow_applies : (w : Bool) (frames : List Frame) → may_arrow w frames ≡ true → may_apply w frames ≡ true
arrow_applies w [] e = e
arrow_applies w (frame ∷ frames) e = refl

had_row : {w : Bool} {frames : List Frame} {head : Place} {ns ls : List TypeNode} {ts us : List Token} → RowRest w frames head ns ts ls us → HadRest w frames head ns ts ls us
had_row (type_end h) = had_end h
had_row (arrow_next {w} {frames} n e b h) = row_on (arrow_applies w frames n) no_more (arrow_next n e b h)
had_row (sum_next e b c h) = row_on refl no_more (sum_next e b c h)

apply_back : (w : Bool) (head : Place) (frames : List Frame) (ns ls : List TypeNode) (t : Token) (ts us : List Token) (s : Sort) → sort_of t ≡ s → Each (cond (may_apply w frames) (begin w (Argument head) frames ns t.place s) None) (λ r. Rest r ts ls us → HadRest w frames head ns (t ∷ ts) ls us)
apply_back w head frames ns ls t ts us s e =
    each_if (λ r. Rest r ts ls us → HadRest w frames head ns (t ∷ ts) ls us) (may_apply w frames) (begin w (Argument head) frames ns t.place s)
    (λ m. each_map (λ r. Rest r ts ls us → AtypeThen w (Argument head) frames ns (t ∷ ts) ls us) (λ r. Rest r ts ls us → HadRest w frames head ns (t ∷ ts) ls us) (begin w (Argument head) frames ns t.place s) (λ r f h. applied m (f h)) (begin_back w (Argument head) frames ns ls t ts us s e))

go_on_back : (w : Bool) (head : Place) (frames : List Frame) (ns ls : List TypeNode) (t : Token) (ts us : List Token) (s : Sort) → sort_of t ≡ s → Each (go_on w head frames ns t.place s) (λ r. Rest r ts ls us → HadRest w frames head ns (t ∷ ts) ls us)
go_on_back w head frames ns ls t ts us (sort.Atom n) e = apply_back w head frames ns ls t ts us (sort.Atom n) e
go_on_back w head frames ns ls t ts us sort.Open e = apply_back w head frames ns ls t ts us sort.Open e
go_on_back w head frames ns ls t ts us sort.Close e = each_map (λ r. Rest r ts ls us → TypeRest w frames ns (t ∷ ts) ls us) (λ r. Rest r ts ls us → HadRest w frames head ns (t ∷ ts) ls us) (close w frames ns) (λ r f h. had_end (f h)) (close_back w frames ns ls t ts us e)
go_on_back w head frames ns ls t ts us sort.Comma e = each_map (λ r. Rest r ts ls us → TypeRest w frames ns (t ∷ ts) ls us) (λ r. Rest r ts ls us → HadRest w frames head ns (t ∷ ts) ls us) (divide w frames ns) (λ r f h. had_end (f h)) (divide_back w frames ns ls t ts us e)
go_on_back w head frames ns ls t ts us sort.Arrow e = each_if (λ r. Rest r ts ls us → HadRest w frames head ns (t ∷ ts) ls us) (may_arrow w frames) (Some (state w Want (Arrow head ∷ frames) ns)) (λ n h. had_row (after_arrow n e h))
go_on_back w head frames ns ls t ts us sort.Plus e = each_map (λ r. Rest r ts ls us → RowRest w frames head ns (t ∷ ts) ls us) (λ r. Rest r ts ls us → HadRest w frames head ns (t ∷ ts) ls us) (add w frames ns) (λ r f h. had_row (f h)) (add_back w head frames ns ls t ts us e)
go_on_back w head frames ns ls t ts us sort.Equals e = tt
go_on_back w head frames ns ls t ts us sort.Times e = tt
go_on_back w head frames ns ls t ts us sort.Power e = tt
go_on_back w head frames ns ls t ts us sort.AtMost e = tt
go_on_back w head frames ns ls t ts us sort.Other e = tt

want_back : (w : Bool) (frames : List Frame) (ns ls : List TypeNode) (t : Token) (ts us : List Token) (s : Sort) → sort_of t ≡ s → Each (begin w First frames ns t.place s) (λ r. Rest r ts ls us → WantRest w frames ns (t ∷ ts) ls us)
want_back w frames ns ls t ts us s e = each_map (λ r. Rest r ts ls us → AtypeThen w First frames ns (t ∷ ts) ls us) (λ r. Rest r ts ls us → WantRest w frames ns (t ∷ ts) ls us) (begin w First frames ns t.place s) (λ r f h. wanted (f h)) (begin_back w First frames ns ls t ts us s e)

opened_back : (w : Bool) (bracket : Place) (spot : Spot) (frames : List Frame) (ns ls : List TypeNode) (t : Token) (ts us : List Token) (s : Sort) → sort_of t ≡ s → Each (begin w First (Open bracket spot ∷ frames) ns t.place s) (λ r. Rest r ts ls us → OpenedRest w bracket spot frames ns (t ∷ ts) ls us)
opened_back w bracket spot frames ns ls t ts us s e = each_map (λ r. Rest r ts ls us → WantRest w (Open bracket spot ∷ frames) ns (t ∷ ts) ls us) (λ r. Rest r ts ls us → OpenedRest w bracket spot frames ns (t ∷ ts) ls us) (begin w First (Open bracket spot ∷ frames) ns t.place s) (λ r f h. want_rest (f h)) (want_back w (Open bracket spot ∷ frames) ns ls t ts us s e)

in_bracket_back : (w : Bool) (bracket : Place) (spot : Spot) (frames : List Frame) (ns ls : List TypeNode) (t : Token) (ts us : List Token) (s : Sort) → sort_of t ≡ s → Each (in_bracket w bracket spot frames ns t.place s) (λ r. Rest r ts ls us → OpenedRest w bracket spot frames ns (t ∷ ts) ls us)
in_bracket_back w bracket spot frames ns ls t ts us sort.Close e = λ h. unit_rest e h
in_bracket_back w bracket spot frames ns ls t ts us (sort.Atom n) e = opened_back w bracket spot frames ns ls t ts us (sort.Atom n) e
in_bracket_back w bracket spot frames ns ls t ts us sort.Open e = opened_back w bracket spot frames ns ls t ts us sort.Open e
in_bracket_back w bracket spot frames ns ls t ts us sort.Comma e = tt
in_bracket_back w bracket spot frames ns ls t ts us sort.Arrow e = tt
in_bracket_back w bracket spot frames ns ls t ts us sort.Equals e = tt
in_bracket_back w bracket spot frames ns ls t ts us sort.Plus e = tt
in_bracket_back w bracket spot frames ns ls t ts us sort.Times e = tt
in_bracket_back w bracket spot frames ns ls t ts us sort.Power e = tt
in_bracket_back w bracket spot frames ns ls t ts us sort.AtMost e = tt
in_bracket_back w bracket spot frames ns ls t ts us sort.Other e = tt

now_back : (w : Bool) (now : Now) (frames : List Frame) (ns ls : List TypeNode) (t : Token) (ts us : List Token) → Each (move_now w now frames ns t.place (sort_of t)) (λ r. Rest r ts ls us → NowRest w now frames ns (t ∷ ts) ls us)
now_back w Want frames ns ls t ts us = want_back w frames ns ls t ts us (sort_of t) refl
now_back w (Opened bracket spot) frames ns ls t ts us = in_bracket_back w bracket spot frames ns ls t ts us (sort_of t) refl
now_back w (Had head) frames ns ls t ts us = go_on_back w head frames ns ls t ts us (sort_of t) refl

-- what was taken stands before what is still to come
pub move_back : (r s : TypeReader) (t : Token) (ts : List Token) (ls : List TypeNode) (us : List Token) → type_move r t ≡ Some s → Rest s ts ls us → Rest r (t ∷ ts) ls us
unfolding type_move
move_back r s t ts ls us e = each_of (λ q. Rest q ts ls us → Rest r (t ∷ ts) ls us) (type_move r t) (now_back r.is_whole r.stage r.frames r.nodes ls t ts us) e

ended_back : (w : Bool) (frames : List Frame) (ns : List TypeNode) (ts : List Token) → Each (ended frames ns) (λ ls. TypeRest w frames ns ts ls ts)
ended_back w [] ns ts = at_bottom
ended_back w (Open bracket spot ∷ frames) ns ts = tt
ended_back w (Pair bracket spot ∷ frames) ns ts = tt
ended_back w (Sum bracket spot ∷ frames) ns ts = tt
ended_back w (Arrow place ∷ frames) ns ts = each_map (λ ls. TypeRest w frames (put ns (node.Arrow place)) ts ls ts) (λ ls. TypeRest w (Arrow place ∷ frames) ns ts ls ts) (ended frames (put ns (node.Arrow place))) (λ ls h. arrow_end h) (ended_back w frames (put ns (node.Arrow place)) ts)

done_now_back : (w : Bool) (now : Now) (frames : List Frame) (ns : List TypeNode) (ts : List Token) → Each (done_now now frames ns) (λ ls. NowRest w now frames ns ts ls ts)
done_now_back w Want frames ns ts = tt
done_now_back w (Opened bracket spot) frames ns ts = tt
done_now_back w (Had head) frames ns ts = each_map (λ ls. TypeRest w frames ns ts ls ts) (λ ls. HadRest w frames head ns ts ls ts) (ended frames ns) (λ ls h. had_end h) (ended_back w frames ns ts)

-- where a type is whole nothing is still to come
pub done_back : (r : TypeReader) (ts : List Token) (ls : List TypeNode) → type_done r ≡ Some ls → Rest r ts ls ts
unfolding type_done
done_back r ts ls e = each_of (λ ms. Rest r ts ms ts) (type_done r) (done_now_back r.is_whole r.stage r.frames r.nodes ts) e
