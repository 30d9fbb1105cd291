-- While two readings of a context go side by side, they stand at the same depth of brackets. So they are never both at
-- their end, and each goes on along its rest.
use Rattle.std.proofs.Common.{◌≡◌, ℕ, ◌+◌, Bool, true, false, cond, List, [], ◌∷◌, Option, Some, None, is_some, refl, sym, ap, subst, ◌∙◌}
use Rattle.hb_base.specs.declared.place.Place.{Place}
use Rattle.hb_tokens.specs.declared.token.Token.{Token}
use Rattle.hb_read_types.specs.declared.node.TypeNode.{TypeNode}
use Rattle.hb_read_types.specs.declared.node.TypeNode.TheVariants as node
use Rattle.hb_read_types.specs.declared.sort.Sort.{Sort}
use Rattle.hb_read_types.specs.declared.sort.Sort.TheVariants as sort
use Rattle.hb_read_types.specs.declared.type_reader.TypeReader.{TypeReader}
use Rattle.hb_read_types.specs.declared.type_reader.Spot.TheVariants as spot
use Rattle.hb_read_types.specs.declared.pred_reader.PredStage.{PredStage}
use Rattle.hb_read_types.specs.declared.pred_reader.PredStage.TheVariants.{Begin, ClassOrType, PowerOrType, Class, First, Middle, Last}
use Rattle.hb_read_types.specs.declared.pred_reader.PredReader.{PredReader}
use Rattle.hb_read_types.specs.declared.context_reader.SeveralStage.{SeveralStage}
use Rattle.hb_read_types.specs.declared.context_reader.SeveralStage.TheVariants.{Opening, Inside, Closed}
use Rattle.hb_read_types.specs.declared.context_reader.Several.{Several}
use Rattle.hb_read_types.specs.declared.context_reader.ContextReader.{ContextReader}
use Rattle.hb_read_types.specs.Sorts.{sort_of}
use Rattle.hb_read_types.specs.TypeMoves.{put, begin, type_move, type_done}
use Rattle.hb_read_types.specs.PredMoves.{is_alone_whole, pred_state, nodes_of, alone_from, typed, begin_pred, after_type, in_type, move_pred_at, pred_move, pred_done_at, pred_done, pred_start}
use Rattle.hb_read_types.specs.ContextMoves.{several_state, between, between_if, inside, opening, several_at, several_done_at, several_move, several_done, context_state, one_moved, several_moved, side_by_side, context_move, one_whole, one_done, several_whole, or_else, context_done}
use Rattle.hb_read_types.proofs.TypeBack.{Each, each_of}
use Rattle.hb_read_types.proofs.Alone.{Alone, alone_start, alone_is_whole}
use Rattle.hb_read_types.proofs.PredBack.{each_choice}
use Rattle.hb_read_types.proofs.PredForth.{PredGoes, pred_stops, pred_takes, pred_goes}
use Rattle.hb_read_types.proofs.PredExact.{PredAlone, pred_alone}
use Rattle.hb_read_types.proofs.Levels.{Level, outside, deeper, type_level, stage_level, pred_level, Shift, type_shift, pred_shift, done_outside, whole_outside, same_shift}
use Rattle.hb_read_types.proofs.ContextRest.{PredsRest, preds_close, preds_more, PredThen, pred_then, SeveralRest, opening_rest, inside_rest, closed_rest, SeveralRestOf, SideRest, by_one, by_several, ContextRest}

-- a token after which no type goes on
data Closes : Sort → Type 0 where
  by_close : Closes sort.Close
  by_comma : Closes sort.Comma

no_begin : (s : Sort) (ns : List TypeNode) (place : Place) → Closes s → begin false spot.First [] ns place s ≡ None
no_begin _ ns place by_close = refl
no_begin _ ns place by_comma = refl

no_type : (ns : List TypeNode) (t : Token) → Closes (sort_of t) → type_move (alone_from ns) t ≡ None
unfolding type_move
no_type ns t k = no_begin (sort_of t) ns t.place k

if_is : {A : Type 0} (b : Bool) (o p : A) → b ≡ true → cond b o p ≡ o
if_is true o p e = refl
if_is false o p e = cc

done_type : (stage : PredStage) (o : Option (List TypeNode)) (ms : List TypeNode) → pred_done_at stage o ≡ Some ms → is_some o ≡ true
done_type stage (Some ns) ms e = refl
done_type Begin None ms e = cc
done_type (ClassOrType p n) None ms e = cc
done_type (PowerOrType p) None ms e = cc
done_type (Class p n c) None ms e = cc
done_type First None ms e = cc
done_type (Middle f) None ms e = cc
done_type (Last f) None ms e = cc

still_at : (stage : PredStage) (r : TypeReader) (ms : List TypeNode) (t : Token) → Alone r → Closes (sort_of t) → pred_done_at stage (type_done r) ≡ Some ms → move_pred_at stage r t ≡ None
still_at Begin r ms t a k e = cc
still_at (ClassOrType p n) r ms t a k e = cc
still_at (PowerOrType p) r ms t a k e = cc
still_at First r ms t a k e = cc
still_at (Middle f) r ms t a k e = cc
still_at (Class p n c) r ms t a k e = if_is (is_alone_whole r) (after_type (Class p n c) (nodes_of r) t (sort_of t)) (typed (Class p n c) (type_move r t)) (alone_is_whole r a (done_type (Class p n c) (type_done r) ms e)) ∙ ap (typed (Class p n (c + 1))) (no_type (nodes_of r) t k)
still_at (Last f) r ms t a k e = if_is (is_alone_whole r) (after_type (Last f) (nodes_of r) t (sort_of t)) (typed (Last f) (type_move r t)) (alone_is_whole r a (done_type (Last f) (type_done r) ms e))

-- a whole predicate takes neither `)` nor `,`
pred_still : (p : PredReader) (ms : List TypeNode) (t : Token) → PredAlone p → Closes (sort_of t) → pred_done p ≡ Some ms → pred_move p t ≡ None
unfolding pred_move pred_done
pred_still p ms t a k e = still_at p.stage p.types ms t a k e

outside_at : (stage : PredStage) (r : TypeReader) (ms : List TypeNode) → pred_done_at stage (type_done r) ≡ Some ms → stage_level stage r ≡ outside
outside_at Begin r ms e = refl
outside_at (ClassOrType p n) r ms e = refl
outside_at (PowerOrType p) r ms e = refl
outside_at First r ms e = cc
outside_at (Middle f) r ms e = cc
outside_at (Class p n c) r ms e = done_outside r (done_type (Class p n c) (type_done r) ms e)
outside_at (Last f) r ms e = done_outside r (done_type (Last f) (type_done r) ms e)

-- a whole predicate is in no bracket of its own
pred_outside : (p : PredReader) (ms : List TypeNode) → pred_done p ≡ Some ms → pred_level p ≡ outside
unfolding pred_done
pred_outside p ms e = outside_at p.stage p.types ms e

pub data SeveralGoes : Several → List Token → List TypeNode → List Token → Type 0 where
  several_stops : {s : Several} {ts : List Token} {ls : List TypeNode} → several_done s ≡ Some ls → SeveralGoes s ts ls ts
  several_takes : {s r : Several} {t : Token} {ts us : List Token} {ls : List TypeNode} → several_move s t ≡ Some r → SeveralRestOf r ts ls us → SeveralGoes s (t ∷ ts) ls us

data SeveralNow : SeveralStage → ℕ → PredReader → List Token → List TypeNode → List Token → Type 0 where
  stops_now : {stage : SeveralStage} {c : ℕ} {p : PredReader} {ts : List Token} {ls : List TypeNode} → several_done_at stage p ≡ Some ls → SeveralNow stage c p ts ls ts
  takes_now : {stage : SeveralStage} {c : ℕ} {p : PredReader} {r : Several} {t : Token} {ts us : List Token} {ls : List TypeNode} → several_at stage c p t ≡ Some r → SeveralRestOf r ts ls us → SeveralNow stage c p (t ∷ ts) ls us

opening_takes : {c : ℕ} {p : PredReader} {t : Token} {ts us : List Token} {ls : List TypeNode} → sort_of t ≡ sort.Open → PredThen c p ts ls us → SeveralNow Opening c p (t ∷ ts) ls us
opening_takes {c} {p} e h = takes_now (ap (opening c p) e) (inside_rest h)

after_pred : (c : ℕ) (p : PredReader) (ns : List TypeNode) (t : Token) (s : Sort) (r : Several) → PredAlone p → pred_done p ≡ Some ns → sort_of t ≡ s → Closes s → between c s ns ≡ Some r → inside c (sort_of t) (pred_done p) (pred_move p t) ≡ Some r
after_pred c p ns t s r a d e k f =
    let K : Sort → Type 0 = λ v. Closes v in
    let still : pred_move p t ≡ None = pred_still p ns t a (subst K (sym e) k) d in
    let B : Sort → Type 0 = λ v. between c v ns ≡ Some r in
    let D : Option (List TypeNode) → Type 0 = λ v. between_if c (sort_of t) v ≡ Some r in
    let M : Option PredReader → Type 0 = λ v. inside c (sort_of t) (pred_done p) v ≡ Some r in
    subst M (sym still) (subst D (sym d) (subst B (sym e) f))

inside_stops : {c : ℕ} {p : PredReader} {ms ls : List TypeNode} {ts us : List Token} → PredAlone p → pred_done p ≡ Some ms → PredsRest c ms ts ls us → SeveralNow Inside c p ts ls us
inside_stops {c} {p} {ms} l d (preds_close {t} e) = takes_now (after_pred c p ms t sort.Close (several_state Closed c (pred_start (put ms (node.Context c)))) l d e by_close refl) closed_rest
inside_stops {c} {p} {ms} l d (preds_more {ms = ks} {t} {us = vs} e a h) = takes_now (after_pred c p ms t sort.Comma (several_state Inside (c + 1) (pred_start ms)) l d e by_comma refl) (inside_rest (pred_then ks vs a h))

inside_goes : {c : ℕ} {p : PredReader} {ms ls : List TypeNode} {ts us vs : List Token} → PredAlone p → PredGoes p ts ms us → PredsRest c ms us ls vs → SeveralNow Inside c p ts ls vs
inside_goes l (pred_stops e) h = inside_stops l e h
inside_goes {c} {p} {ms} {us} l (pred_takes {t} e g) h = takes_now (ap (inside c (sort_of t) (pred_done p)) e) (inside_rest (pred_then ms us g h))

several_now : {stage : SeveralStage} {c : ℕ} {p : PredReader} {ts us : List Token} {ls : List TypeNode} → PredAlone p → SeveralRest stage c p ts ls us → SeveralNow stage c p ts ls us
several_now a (opening_rest e h) = opening_takes e h
several_now {p} {ts} a (inside_rest (pred_then ms us h g)) = inside_goes a (pred_goes p ts us ms a h) g
several_now a closed_rest = stops_now refl

several_goes_now : {s : Several} {ts us : List Token} {ls : List TypeNode} → SeveralNow s.stage s.count s.pred ts ls us → SeveralGoes s ts ls us
unfolding several_move several_done
several_goes_now (stops_now e) = several_stops e
several_goes_now (takes_now e h) = several_takes e h

several_goes : (s : Several) (ts us : List Token) (ls : List TypeNode) → PredAlone s.pred → SeveralRestOf s ts ls us → SeveralGoes s ts ls us
several_goes s ts us ls a h = several_goes_now (several_now a h)

-- the predicate and the list of predicates at the same depth
pub data Linked : PredStage → TypeReader → SeveralStage → PredReader → Type 0 where
  at_opening : {r q : TypeReader} → Linked Begin r Opening (pred_state Begin q)
  in_inside : {r : TypeReader} {p : PredReader} → type_level r ≡ deeper (pred_level p) → Linked First r Inside p
  in_closed : {r : TypeReader} {p : PredReader} → type_level r ≡ outside → Linked First r Closed p

pub data Good : Option PredReader → Option Several → Type 0 where
  good_none : Good None None
  good_one : {o : PredReader} → PredAlone o → Good (Some o) None
  good_several : {s : Several} → PredAlone s.pred → Good None (Some s)
  good_both : {o : PredReader} {s : Several} → PredAlone o → PredAlone s.pred → Linked o.stage o.types s.stage s.pred → Good (Some o) (Some s)

between_alone : (c : ℕ) (s : Sort) (ns : List TypeNode) → Each (between c s ns) (λ r. PredAlone r.pred)
between_alone c sort.Close ns = alone_start _
between_alone c sort.Comma ns = alone_start _
between_alone c _ ns = tt

inside_alone : (c : ℕ) (p : PredReader) (t : Token) (o : Option (List TypeNode)) (q : Option PredReader) → PredAlone p → pred_move p t ≡ q → Each (inside c (sort_of t) o q) (λ r. PredAlone r.pred)
inside_alone c p t o (Some q) a e = pred_alone p q t a e
inside_alone c p t None None a e = tt
inside_alone c p t (Some ns) None a e = between_alone c (sort_of t) ns

opening_alone : (c : ℕ) (p : PredReader) (s : Sort) → PredAlone p → Each (opening c p s) (λ r. PredAlone r.pred)
opening_alone c p sort.Open a = a
opening_alone c p _ a = tt

several_at_alone : (stage : SeveralStage) (c : ℕ) (p : PredReader) (t : Token) → PredAlone p → Each (several_at stage c p t) (λ r. PredAlone r.pred)
several_at_alone Opening c p t a = opening_alone c p (sort_of t) a
several_at_alone Inside c p t a = inside_alone c p t (pred_done p) (pred_move p t) a refl
several_at_alone Closed c p t a = tt

several_alone : (s r : Several) (t : Token) → PredAlone s.pred → several_move s t ≡ Some r → PredAlone r.pred
unfolding several_move
several_alone s r t a e = each_of (λ q. PredAlone q.pred) (several_move s t) (several_at_alone s.stage s.count s.pred t a) e

up : (a b : Level) → deeper a ≡ deeper b → a ≡ b
up a b e = cc

shift_deeper : (s : Sort) (a b : Level) → Shift s a b → Shift s (deeper a) (deeper b)
shift_deeper (sort.Atom n) a b h = ap deeper h
shift_deeper sort.Open a b h = ap deeper h
shift_deeper sort.Close a b h = ap deeper h
shift_deeper sort.Comma a b h = ap deeper h
shift_deeper sort.Arrow a b h = ap deeper h
shift_deeper sort.Equals a b h = ap deeper h
shift_deeper sort.Plus a b h = ap deeper h
shift_deeper sort.Times a b h = ap deeper h
shift_deeper sort.Power a b h = ap deeper h
shift_deeper sort.AtMost a b h = ap deeper h
shift_deeper sort.Other a b h = ap deeper h

abbrev LinkedTo : PredReader → Several → Type 0
LinkedTo o s = Linked o.stage o.types s.stage s.pred

between_linked : (c : ℕ) (ns : List TypeNode) (r : TypeReader) (s : Sort) → Shift s (deeper outside) (type_level r) → Each (between c s ns) (LinkedTo (pred_state First r))
between_linked c ns r sort.Close h = in_closed (up (type_level r) outside (sym h))
between_linked c ns r sort.Comma h = in_inside h
between_linked c ns r _ h = tt

inside_linked : (c : ℕ) (p : PredReader) (r : TypeReader) (t : Token) (o : Option (List TypeNode)) (q : Option PredReader) → Shift (sort_of t) (deeper (pred_level p)) (type_level r) → pred_done p ≡ o → pred_move p t ≡ q → Each (inside c (sort_of t) o q) (LinkedTo (pred_state First r))
inside_linked c p r t o (Some q) h d e = in_inside (same_shift (sort_of t) (deeper (pred_level p)) (type_level r) (deeper (pred_level q)) h (shift_deeper (sort_of t) (pred_level p) (pred_level q) (pred_shift p q t e)))
inside_linked c p r t None None h d e = tt
inside_linked c p r t (Some ns) None h d e = let P : Level → Type 0 = λ v. Shift (sort_of t) (deeper v) (type_level r) in between_linked c ns r (sort_of t) (subst P (pred_outside p ns d) h)

open_begins : (c : ℕ) (ns : List TypeNode) (q : TypeReader) (t : Token) (o : Option TypeReader) → sort_of t ≡ sort.Open → type_move (alone_from ns) t ≡ o → Each (typed First o) (λ v. LinkedTo v (several_state Inside c (pred_state Begin q)))
open_begins c ns q t None e d = tt
open_begins c ns q t (Some s) e d = let P : Sort → Type 0 = λ v. Shift v outside (type_level s) in in_inside (subst P e (type_shift (alone_from ns) s t d))

each_nothing : {A B : Type 0} (P : A → B → Type 0) (o : Option A) → Each o (λ a. Each None (P a))
each_nothing P None = tt
each_nothing P (Some a) = tt

opening_begins : (c : ℕ) (ns : List TypeNode) (q : TypeReader) (t : Token) (s : Sort) → sort_of t ≡ s → Each (begin_pred ns t s) (λ o. Each (opening c (pred_state Begin q) s) (LinkedTo o))
opening_begins c ns q t sort.Open e = open_begins c ns q t (type_move (alone_from ns) t) e refl
opening_begins c ns q t (sort.Atom n) e = each_nothing LinkedTo (begin_pred ns t (sort.Atom n))
opening_begins c ns q t sort.Close e = each_nothing LinkedTo (begin_pred ns t sort.Close)
opening_begins c ns q t sort.Comma e = each_nothing LinkedTo (begin_pred ns t sort.Comma)
opening_begins c ns q t sort.Arrow e = each_nothing LinkedTo (begin_pred ns t sort.Arrow)
opening_begins c ns q t sort.Equals e = each_nothing LinkedTo (begin_pred ns t sort.Equals)
opening_begins c ns q t sort.Plus e = each_nothing LinkedTo (begin_pred ns t sort.Plus)
opening_begins c ns q t sort.Times e = each_nothing LinkedTo (begin_pred ns t sort.Times)
opening_begins c ns q t sort.Power e = each_nothing LinkedTo (begin_pred ns t sort.Power)
opening_begins c ns q t sort.AtMost e = each_nothing LinkedTo (begin_pred ns t sort.AtMost)
opening_begins c ns q t sort.Other e = each_nothing LinkedTo (begin_pred ns t sort.Other)

not_outside : (l : Level) → outside ≡ deeper l → ⊥
not_outside l e = cc

typed_linked : (c : ℕ) (p : PredReader) (r : TypeReader) (t : Token) (o : Option TypeReader) → type_level r ≡ deeper (pred_level p) → type_move r t ≡ o → Each (typed First o) (λ v. Each (several_at Inside c p t) (LinkedTo v))
typed_linked c p r t None l e = tt
typed_linked c p r t (Some s) l e = let P : Level → Type 0 = λ v. Shift (sort_of t) v (type_level s) in inside_linked c p s t (pred_done p) (pred_move p t) (subst P l (type_shift r s t e)) refl refl

inside_both : (c : ℕ) (p : PredReader) (r : TypeReader) (t : Token) → type_level r ≡ deeper (pred_level p) → Each (in_type First r t) (λ v. Each (several_at Inside c p t) (LinkedTo v))
inside_both c p r t l = each_choice (λ v. Each (several_at Inside c p t) (LinkedTo v)) (is_alone_whole r) (after_type First (nodes_of r) t (sort_of t)) (typed First (type_move r t)) (λ e. absurd (not_outside (pred_level p) (sym (whole_outside r e) ∙ l))) (λ e. typed_linked c p r t (type_move r t) l refl)

linked_at : {stage : PredStage} {r : TypeReader} {several : SeveralStage} {p : PredReader} (c : ℕ) (t : Token) → Linked stage r several p → Each (move_pred_at stage r t) (λ v. Each (several_at several c p t) (LinkedTo v))
linked_at c t (at_opening {r} {q}) = opening_begins c (nodes_of r) q t (sort_of t) refl
linked_at c t (in_inside {r} {p} l) = inside_both c p r t l
linked_at c t (in_closed {r} l) = each_nothing LinkedTo (move_pred_at First r t)

linked_move : (o q : PredReader) (s r : Several) (t : Token) → LinkedTo o s → pred_move o t ≡ Some q → several_move s t ≡ Some r → LinkedTo q r
unfolding pred_move several_move
linked_move o q s r t l d e = each_of (LinkedTo q) (several_move s t) (each_of (λ v. Each (several_move s t) (LinkedTo v)) (pred_move o t) (linked_at s.count t l) d) e

good_moved : (o : PredReader) (s : Several) (t : Token) (q : Option PredReader) (r : Option Several) → PredAlone o → PredAlone s.pred → LinkedTo o s → pred_move o t ≡ q → several_move s t ≡ r → Good q r
good_moved o s t None None a b l d e = good_none
good_moved o s t (Some q) None a b l d e = good_one (pred_alone o q t a d)
good_moved o s t None (Some r) a b l d e = good_several (several_alone s r t b e)
good_moved o s t (Some q) (Some r) a b l d e = good_both (pred_alone o q t a d) (several_alone s r t b e) (linked_move o q s r t l d e)

good_one_moved : (o : PredReader) (t : Token) (q : Option PredReader) → PredAlone o → pred_move o t ≡ q → Good q None
good_one_moved o t None a d = good_none
good_one_moved o t (Some q) a d = good_one (pred_alone o q t a d)

good_several_moved : (s : Several) (t : Token) (r : Option Several) → PredAlone s.pred → several_move s t ≡ r → Good None r
good_several_moved s t None b e = good_none
good_several_moved s t (Some r) b e = good_several (several_alone s r t b e)

good_moves : {one : Option PredReader} {several : Option Several} (t : Token) → Good one several → Good (one_moved one t) (several_moved several t)
good_moves t good_none = good_none
good_moves t (good_one {o} a) = good_one_moved o t (pred_move o t) a refl
good_moves t (good_several {s} b) = good_several_moved s t (several_move s t) b refl
good_moves t (good_both {o} {s} a b l) = good_moved o s t (pred_move o t) (several_move s t) a b l refl refl

abbrev pub GoodContext : ContextReader → Type 0
GoodContext r = Good r.one r.several

good_sides : (one : Option PredReader) (several : Option Several) → Good one several → Each (side_by_side one several) GoodContext
good_sides None None g = tt
good_sides (Some o) None g = g
good_sides None (Some s) g = g
good_sides (Some o) (Some s) g = g

-- it stays so
pub good_move : (r s : ContextReader) (t : Token) → GoodContext r → context_move r t ≡ Some s → GoodContext s
unfolding context_move
good_move r s t g e = each_of GoodContext (context_move r t) (good_sides (one_moved r.one t) (several_moved r.several t) (good_moves t g)) e

pub data ContextGoes : ContextReader → List Token → List TypeNode → List Token → Type 0 where
  context_stops : {r : ContextReader} {ts : List Token} {ls : List TypeNode} → context_done r ≡ Some ls → ContextGoes r ts ls ts
  context_takes : {r s : ContextReader} {t : Token} {ts us : List Token} {ls : List TypeNode} → context_move r t ≡ Some s → ContextRest s ts ls us → ContextGoes r (t ∷ ts) ls us

data Sides : Option PredReader → Option Several → List Token → List TypeNode → List Token → Type 0 where
  sides_stop : {one : Option PredReader} {several : Option Several} {ts : List Token} {ls : List TypeNode} → or_else (one_done one) (several_whole several) ≡ Some ls → Sides one several ts ls ts
  sides_take : {one : Option PredReader} {several : Option Several} {s : ContextReader} {t : Token} {ts us : List Token} {ls : List TypeNode} → side_by_side (one_moved one t) (several_moved several t) ≡ Some s → ContextRest s ts ls us → Sides one several (t ∷ ts) ls us

with_one : (q : PredReader) (r : Option Several) → side_by_side (Some q) r ≡ Some (context_state (Some q) r)
with_one q None = refl
with_one q (Some r) = refl

with_several : (q : Option PredReader) (r : Several) → side_by_side q (Some r) ≡ Some (context_state q (Some r))
with_several None r = refl
with_several (Some q) r = refl

one_goes : {o : PredReader} {several : Option Several} {ts us : List Token} {ms : List TypeNode} → PredGoes o ts ms us → Sides (Some o) several ts (put ms (node.Context 1)) us
one_goes {several} (pred_stops e) = sides_stop (ap (λ v. or_else (one_whole v) (several_whole several)) e)
one_goes {several} {ms} (pred_takes {s = q} {t} e h) = sides_take (ap (λ v. side_by_side v (several_moved several t)) e ∙ with_one q (several_moved several t)) (by_one ms h)

several_side : {one : Option PredReader} {s : Several} {ts us : List Token} {ls : List TypeNode} → one_done one ≡ None → SeveralGoes s ts ls us → Sides one (Some s) ts ls us
several_side {s} d (several_stops e) = sides_stop (ap (λ v. or_else v (several_done s)) d ∙ e)
several_side {one} d (several_takes {r} {t} e h) = sides_take (ap (λ v. side_by_side (one_moved one t) v) e ∙ with_several (one_moved one t) r) (by_several h)

linked_open : {stage : PredStage} {r : TypeReader} {several : SeveralStage} {p : PredReader} → Linked stage r several p → pred_done_at stage (type_done r) ≡ None
linked_open at_opening = refl
linked_open (in_inside l) = refl
linked_open (in_closed l) = refl

linked_done : (o : PredReader) (s : Several) → LinkedTo o s → pred_done o ≡ None
unfolding pred_done
linked_done o s l = linked_open l

sides : {one : Option PredReader} {several : Option Several} {ts us : List Token} {ls : List TypeNode} → Good one several → SideRest one several ts ls us → Sides one several ts ls us
sides good_none h = elim h [ ]
sides {ts} {us} (good_one a) (by_one {o} ms h) = one_goes (pred_goes o ts us ms a h)
sides {ts} {us} (good_both a b l) (by_one {o} ms h) = one_goes (pred_goes o ts us ms a h)
sides {ts} {us} {ls} (good_several b) (by_several {s} h) = several_side refl (several_goes s ts us ls b h)
sides {ts} {us} {ls} (good_both {o} a b l) (by_several {s} h) = several_side (ap one_whole (linked_done o s l)) (several_goes s ts us ls b h)

sides_goes : {r : ContextReader} {ts us : List Token} {ls : List TypeNode} → Sides r.one r.several ts ls us → ContextGoes r ts ls us
unfolding context_move context_done
sides_goes (sides_stop e) = context_stops e
sides_goes (sides_take e h) = context_takes e h

-- the reader goes on along its rest
pub context_goes : (r : ContextReader) (ts us : List Token) (ls : List TypeNode) → GoodContext r → ContextRest r ts ls us → ContextGoes r ts ls us
context_goes r ts us ls g h = sides_goes (sides g h)
