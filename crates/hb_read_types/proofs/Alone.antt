-- In a reader of a type that stands by itself each arrow is in a bracket. So it takes nothing where it is at its end.
use Rattle.std.proofs.Common.{◌≡◌, Bool, true, false, List, [], ◌∷◌, Some, None, refl, sym, subst, is_some}
use Rattle.hb_base.specs.declared.place.Place.{Place}
use Rattle.hb_tokens.specs.declared.token.Token.{Token}
use Rattle.hb_read_types.specs.declared.node.TypeNode.{TypeNode}
use Rattle.hb_read_types.specs.declared.node.TypeNode.TheVariants as node
use Rattle.hb_read_types.specs.declared.sort.Sort.{Sort}
use Rattle.hb_read_types.specs.declared.sort.Sort.TheVariants as sort
use Rattle.hb_read_types.specs.declared.type_reader.Spot.{Spot}
use Rattle.hb_read_types.specs.declared.type_reader.Spot.TheVariants.{First, Argument}
use Rattle.hb_read_types.specs.declared.type_reader.Frame.{Frame}
use Rattle.hb_read_types.specs.declared.type_reader.Frame.TheVariants.{Open, Pair, Sum, Arrow}
use Rattle.hb_read_types.specs.declared.type_reader.Now.{Now}
use Rattle.hb_read_types.specs.declared.type_reader.Now.TheVariants.{Want, Opened, Had}
use Rattle.hb_read_types.specs.declared.type_reader.TypeReader.{TypeReader}
use Rattle.hb_read_types.specs.Sorts.{sort_of}
use Rattle.hb_read_types.specs.TypeMoves.{state, put, begin, in_bracket, may_apply, may_arrow, add, divide, close, go_on, move_now, type_move, ended, done_now, type_done}
use Rattle.hb_stack.specs.Stacks.{first_of}
use Rattle.hb_read_types.specs.PredMoves.{alone_whole, is_alone_whole}
use Rattle.hb_read_types.proofs.TypeBack.{Each, each_of, each_if}

-- whether there is a frame, and under each arrow a bracket
pub data Based : Bool → List Frame → Type 0 where
  bottom : Based false []
  on_open : {b : Bool} {bracket : Place} {spot : Spot} {frames : List Frame} → Based b frames → Based true (Open bracket spot ∷ frames)
  on_pair : {b : Bool} {bracket : Place} {spot : Spot} {frames : List Frame} → Based b frames → Based true (Pair bracket spot ∷ frames)
  on_sum : {b : Bool} {bracket : Place} {spot : Spot} {frames : List Frame} → Based b frames → Based true (Sum bracket spot ∷ frames)
  on_arrow : {place : Place} {frames : List Frame} → Based true frames → Based true (Arrow place ∷ frames)

pub record Alone (r : TypeReader) : Type 0 where
  pub some : Bool
  pub based : Based some r.frames
  pub part : r.is_whole ≡ false

one_alone : {b : Bool} {now : Now} {frames : List Frame} {nodes : List TypeNode} → Based b frames → Alone (state false now frames nodes)
one_alone {b} h = record { some = b; based = h; part = refl }

begin_alone : {b : Bool} (spot : Spot) (frames : List Frame) (nodes : List TypeNode) (place : Place) (s : Sort) → Based b frames → Each (begin false spot frames nodes place s) Alone
begin_alone spot frames nodes place (sort.Atom n) h = one_alone h
begin_alone spot frames nodes place sort.Open h = one_alone h
begin_alone spot frames nodes place _ h = tt

in_bracket_alone : {b : Bool} (bracket : Place) (spot : Spot) (frames : List Frame) (nodes : List TypeNode) (place : Place) (s : Sort) → Based b frames → Each (in_bracket false bracket spot frames nodes place s) Alone
in_bracket_alone bracket spot frames nodes place sort.Close h = one_alone h
in_bracket_alone bracket spot frames nodes place (sort.Atom n) h = one_alone (on_open h)
in_bracket_alone bracket spot frames nodes place sort.Open h = one_alone (on_open h)
in_bracket_alone bracket spot frames nodes place _ h = tt

divide_alone : {b : Bool} (frames : List Frame) (nodes : List TypeNode) → Based b frames → Each (divide false frames nodes) Alone
divide_alone [] nodes h = tt
divide_alone (Open bracket spot ∷ frames) nodes (on_open h) = one_alone (on_pair h)
divide_alone (Pair bracket spot ∷ frames) nodes h = tt
divide_alone (Sum bracket spot ∷ frames) nodes h = tt
divide_alone (Arrow place ∷ frames) nodes (on_arrow h) = divide_alone frames (put nodes (node.Arrow place)) h

close_alone : {b : Bool} (frames : List Frame) (nodes : List TypeNode) → Based b frames → Each (close false frames nodes) Alone
close_alone [] nodes h = tt
close_alone (Open bracket spot ∷ frames) nodes (on_open h) = one_alone h
close_alone (Pair bracket spot ∷ frames) nodes (on_pair h) = one_alone h
close_alone (Sum bracket spot ∷ frames) nodes (on_sum h) = one_alone h
close_alone (Arrow place ∷ frames) nodes (on_arrow h) = close_alone frames (put nodes (node.Arrow place)) h

add_alone : {b : Bool} (frames : List Frame) (nodes : List TypeNode) → Based b frames → Each (add false frames nodes) Alone
add_alone (Open bracket spot ∷ frames) nodes (on_open h) = one_alone (on_sum h)
add_alone [] nodes h = tt
add_alone (Pair bracket spot ∷ frames) nodes h = tt
add_alone (Sum bracket spot ∷ frames) nodes h = tt
add_alone (Arrow place ∷ frames) nodes h = tt

arrow_based : {b : Bool} {head : Place} (frames : List Frame) → may_arrow false frames ≡ true → Based b frames → Based true (Arrow head ∷ frames)
arrow_based [] e h = cc
arrow_based (Open bracket spot ∷ frames) e (on_open h) = on_arrow (on_open h)
arrow_based (Pair bracket spot ∷ frames) e (on_pair h) = on_arrow (on_pair h)
arrow_based (Sum bracket spot ∷ frames) e h = cc
arrow_based (Arrow place ∷ frames) e (on_arrow h) = on_arrow (on_arrow h)

go_on_alone : {b : Bool} (head : Place) (frames : List Frame) (nodes : List TypeNode) (place : Place) (s : Sort) → Based b frames → Each (go_on false head frames nodes place s) Alone
go_on_alone head frames nodes place (sort.Atom n) h = each_if Alone (may_apply false frames) (begin false (Argument head) frames nodes place (sort.Atom n)) (λ m. one_alone h)
go_on_alone head frames nodes place sort.Open h = each_if Alone (may_apply false frames) (begin false (Argument head) frames nodes place sort.Open) (λ m. one_alone h)
go_on_alone head frames nodes place sort.Arrow h = each_if Alone (may_arrow false frames) (Some (state false Want (Arrow head ∷ frames) nodes)) (λ n. one_alone (arrow_based frames n h))
go_on_alone head frames nodes place sort.Plus h = add_alone frames nodes h
go_on_alone head frames nodes place sort.Comma h = divide_alone frames nodes h
go_on_alone head frames nodes place sort.Close h = close_alone frames nodes h
go_on_alone head frames nodes place _ h = tt

now_alone : {b : Bool} (now : Now) (frames : List Frame) (nodes : List TypeNode) (place : Place) (s : Sort) → Based b frames → Each (move_now false now frames nodes place s) Alone
now_alone Want frames nodes place s h = begin_alone First frames nodes place s h
now_alone (Opened bracket spot) frames nodes place s h = in_bracket_alone bracket spot frames nodes place s h
now_alone (Had head) frames nodes place s h = go_on_alone head frames nodes place s h

pub alone_start : (nodes : List TypeNode) → Alone (state false Want [] nodes)
alone_start nodes = one_alone bottom

-- it stays so
pub alone_move : (r s : TypeReader) (t : Token) → Alone r → type_move r t ≡ Some s → Alone s
unfolding type_move
alone_move r s t a e =
    let P : Bool → Type 0 = λ w. Each (move_now w r.stage r.frames r.nodes t.place (sort_of t)) Alone in
    each_of Alone (type_move r t) (subst P (sym a.part) (now_alone r.stage r.frames r.nodes t.place (sort_of t) a.based)) e

based_ended : {frames : List Frame} (nodes : List TypeNode) → Based true frames → ended frames nodes ≡ None
based_ended nodes (on_open h) = refl
based_ended nodes (on_pair h) = refl
based_ended nodes (on_sum h) = refl
based_ended nodes (on_arrow {place} h) = based_ended (put nodes (node.Arrow place)) h

bottom_still : (head : Place) (nodes : List TypeNode) (place : Place) (s : Sort) → go_on false head [] nodes place s ≡ None
bottom_still head nodes place (sort.Atom n) = refl
bottom_still head nodes place sort.Open = refl
bottom_still head nodes place sort.Close = refl
bottom_still head nodes place sort.Comma = refl
bottom_still head nodes place sort.Arrow = refl
bottom_still head nodes place sort.Equals = refl
bottom_still head nodes place sort.Plus = refl
bottom_still head nodes place sort.Times = refl
bottom_still head nodes place sort.Power = refl
bottom_still head nodes place sort.AtMost = refl
bottom_still head nodes place sort.Other = refl

now_ended : {b : Bool} (now : Now) (frames : List Frame) (nodes : List TypeNode) (place : Place) (s : Sort) (r : TypeReader) → Based b frames → move_now false now frames nodes place s ≡ Some r → done_now now frames nodes ≡ None
now_ended Want frames nodes place s r h e = refl
now_ended (Opened bracket spot) frames nodes place s r h e = refl
now_ended (Had head) [] nodes place s r bottom e = let n : go_on false head [] nodes place s ≡ None = bottom_still head nodes place s in cc
now_ended (Had head) frames nodes place s r (on_open h) e = refl
now_ended (Had head) frames nodes place s r (on_pair h) e = refl
now_ended (Had head) frames nodes place s r (on_sum h) e = refl
now_ended (Had head) frames nodes place s r (on_arrow h) e = based_ended nodes (on_arrow h)

-- where it takes a token it is not at its end
pub alone_done : (r s : TypeReader) (t : Token) → Alone r → type_move r t ≡ Some s → type_done r ≡ None
unfolding type_move type_done
alone_done r s t a e =
    let P : Bool → Type 0 = λ w. move_now w r.stage r.frames r.nodes t.place (sort_of t) ≡ Some s in
    now_ended r.stage r.frames r.nodes t.place (sort_of t) s a.based (subst P a.part e)

some_ended : (frames : List Frame) (nodes : List TypeNode) → ended frames nodes ≡ None → is_some (ended frames nodes) ≡ true → ⊥
some_ended frames nodes d e = cc

based_whole : {b : Bool} (now : Now) (frames : List Frame) (nodes : List TypeNode) → Based b frames → is_some (done_now now frames nodes) ≡ true → alone_whole now (first_of frames) ≡ true
based_whole Want frames nodes h e = cc
based_whole (Opened bracket spot) frames nodes h e = cc
based_whole (Had head) [] nodes bottom e = refl
based_whole (Had head) frames nodes (on_open h) e = cc
based_whole (Had head) frames nodes (on_pair h) e = cc
based_whole (Had head) frames nodes (on_sum h) e = cc
based_whole (Had head) frames nodes (on_arrow {place} {frames = rest} h) e = absurd (some_ended (Arrow place ∷ rest) nodes (based_ended nodes (on_arrow h)) e)

-- at its end no bracket is open, and no arrow
pub alone_is_whole : (r : TypeReader) → Alone r → is_some (type_done r) ≡ true → is_alone_whole r ≡ true
unfolding type_done
alone_is_whole r a e = based_whole r.stage r.frames r.nodes a.based e
