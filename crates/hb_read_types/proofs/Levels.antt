-- How many brackets are open: each token changes that in its own way, whoever takes it.
use Rattle.std.proofs.Common.{◌≡◌, ◌+◌, Bool, true, List, [], ◌∷◌, Option, Some, None, is_some, refl, sym, subst, ◌∙◌}
use Rattle.std.specs.Prelude.{◌==◌}
use Rattle.hb_base.specs.declared.place.Place.{Place}
use Rattle.hb_base.specs.declared.name.Name.{Name}
use Rattle.hb_tokens.specs.declared.token.Token.{Token}
use Rattle.hb_read_types.specs.declared.node.TypeNode.{TypeNode}
use Rattle.hb_read_types.specs.declared.node.TypeNode.TheVariants as node
use Rattle.hb_read_types.specs.declared.sort.Sort.{Sort}
use Rattle.hb_read_types.specs.declared.sort.Sort.TheVariants as sort
use Rattle.hb_read_types.specs.declared.type_reader.Spot.{Spot}
use Rattle.hb_read_types.specs.declared.type_reader.Spot.TheVariants as spot
use Rattle.hb_read_types.specs.declared.type_reader.Frame.{Frame}
use Rattle.hb_read_types.specs.declared.type_reader.Frame.TheVariants.{Open, Pair, Sum, Arrow}
use Rattle.hb_read_types.specs.declared.type_reader.Now.{Now}
use Rattle.hb_read_types.specs.declared.type_reader.Now.TheVariants.{Want, Opened, Had}
use Rattle.hb_read_types.specs.declared.type_reader.TypeReader.{TypeReader}
use Rattle.hb_read_types.specs.declared.pred_reader.Fact.{Fact}
use Rattle.hb_read_types.specs.declared.pred_reader.PredStage.{PredStage}
use Rattle.hb_read_types.specs.declared.pred_reader.PredStage.TheVariants.{Begin, ClassOrType, PowerOrType, Class, First, Middle, Last}
use Rattle.hb_read_types.specs.declared.pred_reader.PredReader.{PredReader}
use Rattle.hb_read_types.specs.Sorts.{sort_of}
use Rattle.hb_stack.specs.Stacks.{first_of}
use Rattle.hb_read_types.specs.TypeMoves.{state, put, begin, in_bracket, may_apply, may_arrow, add, divide, close, go_on, move_now, type_move, bracket_of, ended_nodes, ended_at, done_now, type_done}
use Rattle.hb_read_types.specs.PredMoves.{alone_whole, is_alone_whole, pred_state, nodes_of, alone_from, typed, operator, begin_pred, after_name, after_two, equals, after_type, in_type, move_pred_at, pred_move}
use Rattle.hb_read_types.proofs.TypeBack.{Each, each_of, each_if}
use Rattle.hb_read_types.proofs.PredBack.{Reads, of_class, of_first, of_middle, of_last, each_choice}

pub data Level : Type 0 where
  outside : Level
  deeper : Level → Level

abbrev pub frames_level : List Frame → Level
frames_level [] = outside
frames_level (Open bracket spot ∷ frames) = deeper (frames_level frames)
frames_level (Pair bracket spot ∷ frames) = deeper (frames_level frames)
frames_level (Sum bracket spot ∷ frames) = deeper (frames_level frames)
frames_level (Arrow place ∷ frames) = frames_level frames

abbrev pub now_level : Now → List Frame → Level
now_level Want frames = frames_level frames
now_level (Opened bracket spot) frames = deeper (frames_level frames)
now_level (Had head) frames = frames_level frames

abbrev pub type_level : TypeReader → Level
type_level r = now_level r.stage r.frames

-- from one level to the next by a token of this sort
abbrev pub Shift : Sort → Level → Level → Type 0
Shift sort.Open from to = to ≡ deeper from
Shift sort.Close from to = from ≡ deeper to
Shift _ from to = to ≡ from

abbrev To : Sort → Level → TypeReader → Type 0
To s from r = Shift s from (type_level r)

begin_shift : (w : Bool) (sp : Spot) (frames : List Frame) (ns : List TypeNode) (place : Place) (s : Sort) → Each (begin w sp frames ns place s) (To s (frames_level frames))
begin_shift w sp frames ns place (sort.Atom n) = refl
begin_shift w sp frames ns place sort.Open = refl
begin_shift w sp frames ns place _ = tt

in_bracket_shift : (w : Bool) (bracket : Place) (sp : Spot) (frames : List Frame) (ns : List TypeNode) (place : Place) (s : Sort) → Each (in_bracket w bracket sp frames ns place s) (To s (deeper (frames_level frames)))
in_bracket_shift w bracket sp frames ns place sort.Close = refl
in_bracket_shift w bracket sp frames ns place (sort.Atom n) = refl
in_bracket_shift w bracket sp frames ns place sort.Open = refl
in_bracket_shift w bracket sp frames ns place _ = tt

add_shift : (w : Bool) (frames : List Frame) (ns : List TypeNode) → Each (add w frames ns) (To sort.Plus (frames_level frames))
add_shift w [] ns = tt
add_shift w (Open bracket sp ∷ frames) ns = refl
add_shift w (Pair bracket sp ∷ frames) ns = tt
add_shift w (Sum bracket sp ∷ frames) ns = tt
add_shift w (Arrow place ∷ frames) ns = tt

divide_shift : (w : Bool) (frames : List Frame) (ns : List TypeNode) → Each (divide w frames ns) (To sort.Comma (frames_level frames))
divide_shift w [] ns = tt
divide_shift w (Open bracket sp ∷ frames) ns = refl
divide_shift w (Pair bracket sp ∷ frames) ns = tt
divide_shift w (Sum bracket sp ∷ frames) ns = tt
divide_shift w (Arrow place ∷ frames) ns = divide_shift w frames (put ns (node.Arrow place))

close_shift : (w : Bool) (frames : List Frame) (ns : List TypeNode) → Each (close w frames ns) (To sort.Close (frames_level frames))
close_shift w [] ns = tt
close_shift w (Open bracket sp ∷ frames) ns = refl
close_shift w (Pair bracket sp ∷ frames) ns = refl
close_shift w (Sum bracket sp ∷ frames) ns = refl
close_shift w (Arrow place ∷ frames) ns = close_shift w frames (put ns (node.Arrow place))

go_on_shift : (w : Bool) (head : Place) (frames : List Frame) (ns : List TypeNode) (place : Place) (s : Sort) → Each (go_on w head frames ns place s) (To s (frames_level frames))
go_on_shift w head frames ns place (sort.Atom n) = each_if (To (sort.Atom n) (frames_level frames)) (may_apply w frames) (begin w (spot.Argument head) frames ns place (sort.Atom n)) (λ m. refl)
go_on_shift w head frames ns place sort.Open = each_if (To sort.Open (frames_level frames)) (may_apply w frames) (begin w (spot.Argument head) frames ns place sort.Open) (λ m. refl)
go_on_shift w head frames ns place sort.Arrow = each_if (To sort.Arrow (frames_level frames)) (may_arrow w frames) (Some (state w Want (Arrow head ∷ frames) ns)) (λ m. refl)
go_on_shift w head frames ns place sort.Plus = add_shift w frames ns
go_on_shift w head frames ns place sort.Comma = divide_shift w frames ns
go_on_shift w head frames ns place sort.Close = close_shift w frames ns
go_on_shift w head frames ns place _ = tt

now_shift : (w : Bool) (now : Now) (frames : List Frame) (ns : List TypeNode) (place : Place) (s : Sort) → Each (move_now w now frames ns place s) (To s (now_level now frames))
now_shift w Want frames ns place s = begin_shift w spot.First frames ns place s
now_shift w (Opened bracket sp) frames ns place s = in_bracket_shift w bracket sp frames ns place s
now_shift w (Had head) frames ns place s = go_on_shift w head frames ns place s

pub type_shift : (r s : TypeReader) (t : Token) → type_move r t ≡ Some s → Shift (sort_of t) (type_level r) (type_level s)
unfolding type_move
type_shift r s t e = each_of (To (sort_of t) (type_level r)) (type_move r t) (now_shift r.is_whole r.stage r.frames r.nodes t.place (sort_of t)) e

no_bracket : (frames : List Frame) (ns : List TypeNode) → is_some (ended_at (bracket_of frames) ns) ≡ true → frames_level frames ≡ outside
no_bracket [] ns e = refl
no_bracket (Open bracket sp ∷ frames) ns e = cc
no_bracket (Pair bracket sp ∷ frames) ns e = cc
no_bracket (Sum bracket sp ∷ frames) ns e = cc
no_bracket (Arrow place ∷ frames) ns e = no_bracket frames ns e

now_outside : (now : Now) (frames : List Frame) (ns : List TypeNode) → is_some (done_now now frames ns) ≡ true → now_level now frames ≡ outside
now_outside Want frames ns e = cc
now_outside (Opened bracket sp) frames ns e = cc
now_outside (Had head) frames ns e = no_bracket frames (ended_nodes frames ns) e

-- at its end a type is in no bracket
pub done_outside : (r : TypeReader) → is_some (type_done r) ≡ true → type_level r ≡ outside
unfolding type_done
done_outside r e = now_outside r.stage r.frames r.nodes e

whole_at : (now : Now) (frames : List Frame) → alone_whole now (first_of frames) ≡ true → now_level now frames ≡ outside
whole_at Want frames e = cc
whole_at (Opened bracket sp) frames e = cc
whole_at (Had head) [] e = refl
whole_at (Had head) (frame ∷ frames) e = cc

pub whole_outside : (r : TypeReader) → is_alone_whole r ≡ true → type_level r ≡ outside
whole_outside r e = whole_at r.stage r.frames e

abbrev pub stage_level : PredStage → TypeReader → Level
stage_level Begin r = outside
stage_level (ClassOrType p n) r = outside
stage_level (PowerOrType p) r = outside
stage_level _ r = type_level r

abbrev pub pred_level : PredReader → Level
pred_level r = stage_level r.stage r.types

abbrev PredTo : Sort → Level → PredReader → Type 0
PredTo s from r = Shift s from (pred_level r)

read_level : {stage : PredStage} (r : TypeReader) → Reads stage → pred_level (pred_state stage r) ≡ type_level r
read_level r of_class = refl
read_level r of_first = refl
read_level r of_middle = refl
read_level r of_last = refl

typed_shift : (stage : PredStage) (r : TypeReader) (t : Token) (o : Option TypeReader) → Reads stage → type_move r t ≡ o → Each (typed stage o) (PredTo (sort_of t) (type_level r))
typed_shift stage r t None d e = tt
typed_shift stage r t (Some s) d e = let P : Level → Type 0 = λ v. Shift (sort_of t) (type_level r) v in subst P (sym (read_level s d)) (type_shift r s t e)

begun_shift : (stage : PredStage) (ns : List TypeNode) (t : Token) → Reads stage → Each (typed stage (type_move (alone_from ns) t)) (PredTo (sort_of t) outside)
begun_shift stage ns t d = typed_shift stage (alone_from ns) t (type_move (alone_from ns) t) d refl

operator_shift : (ns : List TypeNode) (s : Sort) → Each (operator ns s) (PredTo s outside)
operator_shift ns sort.Plus = refl
operator_shift ns sort.Times = refl
operator_shift ns sort.AtMost = refl
operator_shift ns _ = tt

-- the sort of the token is this one
with_sort : (t : Token) {s : Sort} (o : Option PredReader) → sort_of t ≡ s → Each o (PredTo (sort_of t) outside) → Each o (PredTo s outside)
with_sort t o e h = let P : Sort → Type 0 = λ v. Each o (PredTo v outside) in subst P e h

begin_pred_shift : (ns : List TypeNode) (t : Token) (s : Sort) → sort_of t ≡ s → Each (begin_pred ns t s) (PredTo s outside)
begin_pred_shift ns t (sort.Atom (node.Con p n)) e = refl
begin_pred_shift ns t (sort.Atom (node.Number p k)) e = each_choice (PredTo (sort.Atom (node.Number p k)) outside) (k == 2) (Some (pred_state (PowerOrType p) (alone_from ns))) (typed First (type_move (alone_from ns) t)) (λ b. refl) (λ b. with_sort t (typed First (type_move (alone_from ns) t)) e (begun_shift First ns t of_first))
begin_pred_shift ns t (sort.Atom _) e = with_sort t (typed First (type_move (alone_from ns) t)) e (begun_shift First ns t of_first)
begin_pred_shift ns t _ e = with_sort t (typed First (type_move (alone_from ns) t)) e (begun_shift First ns t of_first)

name_shift : (p : Place) (n : Name) (ns : List TypeNode) (t : Token) (s : Sort) → sort_of t ≡ s → Each (after_name p n ns t s) (PredTo s outside)
name_shift p n ns t sort.Plus e = refl
name_shift p n ns t sort.Times e = refl
name_shift p n ns t sort.AtMost e = refl
name_shift p n ns t _ e = with_sort t (typed (Class p n 1) (type_move (alone_from ns) t)) e (begun_shift (Class p n 1) ns t of_class)

two_shift : (p : Place) (ns : List TypeNode) (s : Sort) → Each (after_two p ns s) (PredTo s outside)
two_shift p ns sort.Power = refl
two_shift p ns sort.Plus = refl
two_shift p ns sort.Times = refl
two_shift p ns sort.AtMost = refl
two_shift p ns _ = tt

equals_shift : (f : Fact) (ns : List TypeNode) (s : Sort) → Each (equals f ns s) (PredTo s outside)
equals_shift f ns sort.Equals = refl
equals_shift f ns _ = tt

after_shift : (stage : PredStage) (ns : List TypeNode) (t : Token) → Each (after_type stage ns t (sort_of t)) (PredTo (sort_of t) outside)
after_shift (Class p n c) ns t = begun_shift (Class p n (c + 1)) ns t of_class
after_shift First ns t = operator_shift ns (sort_of t)
after_shift (Middle f) ns t = equals_shift f ns (sort_of t)
after_shift Begin ns t = tt
after_shift (ClassOrType p n) ns t = tt
after_shift (PowerOrType p) ns t = tt
after_shift (Last f) ns t = tt

in_shift : (stage : PredStage) (r : TypeReader) (t : Token) → Reads stage → Each (in_type stage r t) (PredTo (sort_of t) (type_level r))
in_shift stage r t d = each_choice (PredTo (sort_of t) (type_level r)) (is_alone_whole r) (after_type stage (nodes_of r) t (sort_of t)) (typed stage (type_move r t))
    (λ e. let P : Level → Type 0 = λ v. Each (after_type stage (nodes_of r) t (sort_of t)) (PredTo (sort_of t) v) in subst P (sym (whole_outside r e)) (after_shift stage (nodes_of r) t))
    (λ e. typed_shift stage r t (type_move r t) d refl)

at_shift : (stage : PredStage) (r : TypeReader) (t : Token) → Each (move_pred_at stage r t) (PredTo (sort_of t) (stage_level stage r))
at_shift Begin r t = begin_pred_shift (nodes_of r) t (sort_of t) refl
at_shift (ClassOrType p n) r t = name_shift p n (nodes_of r) t (sort_of t) refl
at_shift (PowerOrType p) r t = two_shift p (nodes_of r) (sort_of t)
at_shift (Class p n c) r t = in_shift (Class p n c) r t of_class
at_shift First r t = in_shift First r t of_first
at_shift (Middle f) r t = in_shift (Middle f) r t of_middle
at_shift (Last f) r t = in_shift (Last f) r t of_last

pub pred_shift : (r s : PredReader) (t : Token) → pred_move r t ≡ Some s → Shift (sort_of t) (pred_level r) (pred_level s)
unfolding pred_move
pred_shift r s t e = each_of (PredTo (sort_of t) (pred_level r)) (pred_move r t) (at_shift r.stage r.types t) e

up : (a b : Level) → deeper a ≡ deeper b → a ≡ b
up a b e = cc

-- two levels that the same token leads to from the same level
pub same_shift : (s : Sort) (from a b : Level) → Shift s from a → Shift s from b → a ≡ b
same_shift sort.Open from a b d e = d ∙ sym e
same_shift sort.Close from a b d e = up a b (sym d ∙ e)
same_shift _ from a b d e = d ∙ sym e
