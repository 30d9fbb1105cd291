-- Where the readers of patterns stop.
use Rattle.std.proofs.Common.{◌≡◌, List, [], ◌∷◌, Some, None, refl, ap, ◌∙◌}
use Rattle.hb_base.specs.declared.place.Place.{Place}
use Rattle.hb_tokens.specs.declared.token.Token.{Token}
use Rattle.hb_read_patterns.specs.declared.node.PatNode.{PatNode}
use Rattle.hb_read_patterns.specs.declared.reader.PatReader.{PatReader}
use Rattle.hb_read_patterns.specs.declared.head.Head.{Head}
use Rattle.hb_read_patterns.specs.declared.head.Head.TheVariants as head
use Rattle.hb_read_patterns.specs.declared.frame.Frame.{Frame as PatFrame}
use Rattle.hb_read_patterns.specs.declared.frame.Frame.TheVariants as pat_frame
use Rattle.hb_read_patterns.specs.declared.reader.Last.{Last as PatLast}
use Rattle.hb_read_patterns.specs.declared.reader.Last.TheVariants as last
use Rattle.hb_read_patterns.specs.declared.sort.Sort.TheVariants as pat_sort
use Rattle.hb_read_patterns.specs.Sorts.{sort_of as pat_sort_of}
use Rattle.hb_read_patterns.specs.Moves.{pat_reader, apat_reader, moved as pat_move, done as pat_done, move_last, go_on}
use Rattle.hb_read_patterns.specs.Heads.{named_head, named_nodes}

go_on_other : (frames : List PatFrame) (h : Head) (nodes : List PatNode) (place : Place) → go_on frames h nodes place pat_sort.Other ≡ None
go_on_other [] head.Whole nodes place = refl
go_on_other [] head.Single nodes place = refl
go_on_other [] (head.Applied p n k) nodes place = refl
go_on_other [] (head.Many k) nodes place = refl
go_on_other (pat_frame.First h p ∷ frames) head.Whole nodes place = refl
go_on_other (pat_frame.First h p ∷ frames) head.Single nodes place = refl
go_on_other (pat_frame.First h p ∷ frames) (head.Applied q n k) nodes place = refl
go_on_other (pat_frame.First h p ∷ frames) (head.Many k) nodes place = refl
go_on_other (pat_frame.Second h p ∷ frames) head.Whole nodes place = refl
go_on_other (pat_frame.Second h p ∷ frames) head.Single nodes place = refl
go_on_other (pat_frame.Second h p ∷ frames) (head.Applied q n k) nodes place = refl
go_on_other (pat_frame.Second h p ∷ frames) (head.Many k) nodes place = refl
go_on_other (pat_frame.Given h f ∷ frames) head.Whole nodes place = refl
go_on_other (pat_frame.Given h f ∷ frames) head.Single nodes place = refl
go_on_other (pat_frame.Given h f ∷ frames) (head.Applied r l j) nodes place = refl
go_on_other (pat_frame.Given h f ∷ frames) (head.Many k) nodes place = refl

last_other : (l : PatLast) (frames : List PatFrame) (h : Head) (nodes : List PatNode) (place : Place) → move_last l frames h nodes place pat_sort.Other ≡ None
last_other last.Wanted frames h nodes place = refl
last_other (last.Opened bracket) frames h nodes place = refl
last_other (last.Named p n) frames head.Whole nodes place = go_on_other frames (named_head head.Whole p n) (named_nodes head.Whole p n nodes) place
last_other (last.Named p n) frames head.Single nodes place = go_on_other frames (named_head head.Single p n) (named_nodes head.Single p n nodes) place
last_other (last.Named p n) frames (head.Applied q m k) nodes place = go_on_other frames (named_head (head.Applied q m k) p n) (named_nodes (head.Applied q m k) p n nodes) place
last_other (last.Named p n) frames (head.Many k) nodes place = go_on_other frames (named_head (head.Many k) p n) (named_nodes (head.Many k) p n nodes) place
last_other last.Done frames h nodes place = go_on_other frames h nodes place
last_other (last.Bracketed p n) frames h nodes place = refl
last_other (last.Parted p n k) frames h nodes place = refl
last_other (last.Chosen f) frames h nodes place = refl

-- no pattern goes on with a token that no pattern has
pub other_stops : (r : PatReader) (t : Token) → pat_sort_of t.kind ≡ pat_sort.Other → pat_move r t ≡ None
unfolding pat_move
other_stops r t h = ap (move_last r.last r.frames r.head r.nodes t.place) h ∙ last_other r.last r.frames r.head r.nodes t.place

pub start_other : (t : Token) → pat_sort_of t.kind ≡ pat_sort.Other → pat_move apat_reader.start t ≡ None
start_other t h = other_stops apat_reader.start t h

-- no pattern begins with `=` or `[`
pub start_equals : (t : Token) → pat_sort_of t.kind ≡ pat_sort.Equals → pat_move apat_reader.start t ≡ None
unfolding pat_move
start_equals t h = ap (move_last last.Wanted [] head.Single [] t.place) h

pub start_square : (t : Token) → pat_sort_of t.kind ≡ pat_sort.OpenSquare → pat_move apat_reader.start t ≡ None
unfolding pat_move
start_square t h = ap (move_last last.Wanted [] head.Single [] t.place) h

pub not_start : {nodes : List PatNode} → pat_done apat_reader.start ≡ Some nodes → ⊥
unfolding pat_done
not_start h = absurd (cc)

pub pat_not_start : {nodes : List PatNode} → pat_done pat_reader.start ≡ Some nodes → ⊥
unfolding pat_done
pat_not_start h = absurd (cc)
