-- What the tokens ahead must be to end what is begun: the rest of each state of the reader of types. The reader stands
-- with the nodes ns before the tokens ts; at the end there are the nodes ls, and the tokens us are left.
use Rattle.std.proofs.Common.{◌≡◌, Bool, true, false, List, [], ◌∷◌}
use Rattle.hb_base.specs.declared.place.Place.{Place}
use Rattle.hb_tokens.specs.declared.token.Token.{Token}
use Rattle.hb_grammar.specs.Tokens.{first_place}
use Rattle.hb_read_types.specs.declared.node.TypeNode.{TypeNode}
use Rattle.hb_read_types.specs.declared.node.TypeNode.TheVariants as node
use Rattle.hb_read_types.specs.declared.sort.Sort.TheVariants as sort
use Rattle.hb_read_types.specs.declared.type_reader.Spot.{Spot}
use Rattle.hb_read_types.specs.declared.type_reader.Frame.{Frame}
use Rattle.hb_read_types.specs.declared.type_reader.Frame.TheVariants.{Open, Pair, Sum, Arrow}
use Rattle.hb_read_types.specs.declared.type_reader.Now.{Now}
use Rattle.hb_read_types.specs.declared.type_reader.Now.TheVariants.{Want, Opened, Had}
use Rattle.hb_read_types.specs.declared.type_reader.TypeReader.{TypeReader}
use Rattle.hb_read_types.specs.Sorts.{sort_of}
use Rattle.hb_read_types.specs.TypeMoves.{put, head_place, filled, may_apply, may_arrow}
use Rattle.hb_read_types.proofs.Puts.{PutsType, PutsBtype, PutsRow, PutsAtype}

mutual
  -- a row of types that begins at `head` may go on
  pub data HadRest : Bool → List Frame → Place → List TypeNode → List Token → List TypeNode → List Token → Type 0 where
    itself : {head : Place} {ns : List TypeNode} {ts : List Token} → HadRest false [] head ns ts ns ts
    row_on : {w : Bool} {frames : List Frame} {head : Place} {ns ms ls : List TypeNode} {ts us vs : List Token} → may_apply w frames ≡ true → PutsRow head ns ts ms us → RowRest w frames head ms us ls vs → HadRest w frames head ns ts ls vs

  -- a row of types that begins at `head` is at its end
  pub data RowRest : Bool → List Frame → Place → List TypeNode → List Token → List TypeNode → List Token → Type 0 where
    type_end : {w : Bool} {frames : List Frame} {head : Place} {ns ls : List TypeNode} {ts us : List Token} → TypeRest w frames ns ts ls us → RowRest w frames head ns ts ls us
    arrow_next : {w : Bool} {frames : List Frame} {head : Place} {ns ms ls : List TypeNode} {t : Token} {ts us vs : List Token} → may_arrow w frames ≡ true → sort_of t ≡ sort.Arrow → PutsType ts ns ms us → TypeRest w frames (put ms (node.Arrow head)) us ls vs → RowRest w frames head ns (t ∷ ts) ls vs
    sum_next : {w : Bool} {frames : List Frame} {bracket head : Place} {spot : Spot} {ns ms ls : List TypeNode} {t s : Token} {ts us vs : List Token} → sort_of t ≡ sort.Plus → PutsBtype ts ns ms (s ∷ us) → sort_of s ≡ sort.Close → HadRest w frames (head_place spot bracket) (filled spot (put ms (node.Sum bracket))) us ls vs → RowRest w (Open bracket spot ∷ frames) head ns (t ∷ ts) ls vs

  -- a type is at its end
  pub data TypeRest : Bool → List Frame → List TypeNode → List Token → List TypeNode → List Token → Type 0 where
    at_bottom : {w : Bool} {ns : List TypeNode} {ts : List Token} → TypeRest w [] ns ts ns ts
    arrow_end : {w : Bool} {frames : List Frame} {place : Place} {ns ls : List TypeNode} {ts us : List Token} → TypeRest w frames (put ns (node.Arrow place)) ts ls us → TypeRest w (Arrow place ∷ frames) ns ts ls us
    bracket_end : {w : Bool} {frames : List Frame} {bracket : Place} {spot : Spot} {ns ls : List TypeNode} {t : Token} {ts us : List Token} → sort_of t ≡ sort.Close → HadRest w frames (head_place spot bracket) (filled spot ns) ts ls us → TypeRest w (Open bracket spot ∷ frames) ns (t ∷ ts) ls us
    pair_next : {w : Bool} {frames : List Frame} {bracket : Place} {spot : Spot} {ns ms ls : List TypeNode} {t s : Token} {ts us vs : List Token} → sort_of t ≡ sort.Comma → PutsType ts ns ms (s ∷ us) → sort_of s ≡ sort.Close → HadRest w frames (head_place spot bracket) (filled spot (put ms (node.Pair bracket))) us ls vs → TypeRest w (Open bracket spot ∷ frames) ns (t ∷ ts) ls vs
    pair_end : {w : Bool} {frames : List Frame} {bracket : Place} {spot : Spot} {ns ls : List TypeNode} {t : Token} {ts us : List Token} → sort_of t ≡ sort.Close → HadRest w frames (head_place spot bracket) (filled spot (put ns (node.Pair bracket))) ts ls us → TypeRest w (Pair bracket spot ∷ frames) ns (t ∷ ts) ls us
    sum_end : {w : Bool} {frames : List Frame} {bracket : Place} {spot : Spot} {ns ls : List TypeNode} {t : Token} {ts us : List Token} → sort_of t ≡ sort.Close → HadRest w frames (head_place spot bracket) (filled spot (put ns (node.Sum bracket))) ts ls us → TypeRest w (Sum bracket spot ∷ frames) ns (t ∷ ts) ls us

-- a type must begin
pub data WantRest : Bool → List Frame → List TypeNode → List Token → List TypeNode → List Token → Type 0 where
  want : {w : Bool} {frames : List Frame} {ns ms ls : List TypeNode} {ts us vs : List Token} → PutsAtype ts ns ms us → HadRest w frames (first_place ts) ms us ls vs → WantRest w frames ns ts ls vs

-- a bracket is just open
pub data OpenedRest : Bool → Place → Spot → List Frame → List TypeNode → List Token → List TypeNode → List Token → Type 0 where
  unit_rest : {w : Bool} {bracket : Place} {spot : Spot} {frames : List Frame} {ns ls : List TypeNode} {t : Token} {ts us : List Token} → sort_of t ≡ sort.Close → HadRest w frames (head_place spot bracket) (filled spot (put ns (node.Unit bracket))) ts ls us → OpenedRest w bracket spot frames ns (t ∷ ts) ls us
  want_rest : {w : Bool} {bracket : Place} {spot : Spot} {frames : List Frame} {ns ls : List TypeNode} {ts us : List Token} → WantRest w (Open bracket spot ∷ frames) ns ts ls us → OpenedRest w bracket spot frames ns ts ls us

abbrev pub NowRest : Bool → Now → List Frame → List TypeNode → List Token → List TypeNode → List Token → Type 0
NowRest w Want frames ns ts ls us = WantRest w frames ns ts ls us
NowRest w (Opened bracket spot) frames ns ts ls us = OpenedRest w bracket spot frames ns ts ls us
NowRest w (Had head) frames ns ts ls us = HadRest w frames head ns ts ls us

abbrev pub Rest : TypeReader → List Token → List TypeNode → List Token → Type 0
Rest r ts ls us = NowRest r.is_whole r.stage r.frames r.nodes ts ls us

-- a type at this spot, and then the rest
pub data AtypeThen : Bool → Spot → List Frame → List TypeNode → List Token → List TypeNode → List Token → Type 0 where
  atype_then : {w : Bool} {spot : Spot} {frames : List Frame} {ns ms ls : List TypeNode} {ts us vs : List Token} → PutsAtype ts ns ms us → HadRest w frames (head_place spot (first_place ts)) (filled spot ms) us ls vs → AtypeThen w spot frames ns ts ls vs
