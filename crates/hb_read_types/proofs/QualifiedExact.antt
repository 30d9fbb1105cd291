-- The reader of a type that may have a context before it reads just what the grammar says.
use Rattle.std.proofs.Common.{◌≡◌, ℕ, ◌+◌, Bool, true, false, cond, List, [], ◌∷◌, ◌++◌, length, Option, Some, None, refl, sym, ap, subst, ◌∙◌}
use Rattle.hb_base.specs.declared.place.Place.{Place}
use Rattle.hb_base.specs.Fixed.{plus}
use Rattle.hb_tokens.specs.declared.token.Token.{Token}
use Rattle.hb_tokens.specs.declared.token.TokenKind.{TokenKind}
use Rattle.hb_tokens.specs.declared.token.TokenKind.TheVariants.{Word as AWord}
use Rattle.hb_tokens.specs.declared.word.Word.{Word}
use Rattle.hb_tokens.specs.declared.word.Word.TheVariants as word
use Rattle.hb_tree.specs.declared.types.PredExpr.{PredExpr}
use Rattle.hb_tree.specs.Types.{TypeExpr}
use Rattle.hb_grammar.specs.Declarations as grammar
use Rattle.hb_grammar.specs.Declarations.{ReadsQualified}
use Rattle.hb_grammar.specs.Reading.{Runs, stop, take, Reached, at_start, after, Exact}
use Rattle.hb_read_types.specs.declared.node.TypeNode.{TypeNode}
use Rattle.hb_read_types.specs.declared.node.TypeNode.TheVariants as node
use Rattle.hb_read_types.specs.declared.sort.Sort.TheVariants as sort
use Rattle.hb_read_types.specs.declared.type_reader.Frame.{Frame}
use Rattle.hb_read_types.specs.declared.type_reader.Now.{Now}
use Rattle.hb_read_types.specs.declared.type_reader.Now.TheVariants.{Want, Opened, Had}
use Rattle.hb_read_types.specs.declared.type_reader.TypeReader.{TypeReader}
use Rattle.hb_read_types.specs.declared.pred_reader.PredStage.{PredStage}
use Rattle.hb_read_types.specs.declared.pred_reader.PredStage.TheVariants.{Begin, ClassOrType, PowerOrType, Class, First, Middle, Last}
use Rattle.hb_read_types.specs.declared.pred_reader.PredReader.{PredReader}
use Rattle.hb_read_types.specs.declared.context_reader.SeveralStage.{SeveralStage}
use Rattle.hb_read_types.specs.declared.context_reader.SeveralStage.TheVariants.{Opening, Inside, Closed}
use Rattle.hb_read_types.specs.declared.context_reader.Several.{Several}
use Rattle.hb_read_types.specs.declared.context_reader.ContextReader.{ContextReader}
use Rattle.hb_read_types.specs.declared.qualified_reader.QualifiedReader.{QualifiedReader}
use Rattle.hb_read_types.specs.Sorts.{sort_of, kind_sort}
use Rattle.hb_read_types.specs.Nodes.{type_nodes, context_nodes}
use Rattle.hb_read_types.specs.Reads.{QualifiedNodesRead}
use Rattle.hb_read_types.specs.TypeMoves.{put, move_now, type_move, type_done}
use Rattle.hb_read_types.specs.PredMoves.{is_alone_whole, nodes_of, alone_from, typed, begin_pred, after_name, after_two, equals, operator, after_type, in_type, move_pred_at, pred_move, pred_done}
use Rattle.hb_read_types.specs.ContextMoves.{inside, opening, several_at, several_move, one_moved, several_moved, side_by_side, context_move, context_done}
use Rattle.hb_read_types.specs.QualifiedMoves.{is_double_arrow, is_double_arrow_kind, is_double_arrow_word, qualified_state, type_behind, turned_to, turned, context_moved, types_moved, together, qualified_move, qualified_done_at, qualified_done, qualified_start, qualified_reader}
use Rattle.hb_read_types.proofs.Puts.{PutsType, alone, row, no_more, atom}
use Rattle.hb_read_types.proofs.TypeTrees.{put_nodes, puts_type, TypeTree, type_tree, type_of}
use Rattle.hb_read_types.proofs.TypeRest.{Rest}
use Rattle.hb_read_types.proofs.TypeBack.{Each, each_of, move_back, done_back}
use Rattle.hb_read_types.proofs.TypeForth.{Goes, stops, takes, goes}
use Rattle.hb_read_types.proofs.TypeExact.{con_token, start_type, type_start, SomeRest, some_rest, some_rest_of}
use Rattle.hb_read_types.proofs.PredBack.{each_choice}
use Rattle.hb_read_types.proofs.ContextRest.{ContextRest, context_move_back, context_done_back}
use Rattle.hb_read_types.proofs.ContextForth.{GoodContext, good_move, ContextGoes, context_stops, context_takes, context_goes}
use Rattle.hb_read_types.proofs.ContextExact.{put_preds, put_context_nodes, ContextTree, context_tree, context_of, context_puts, start_good, start_puts, puts_start, Live, live_move, SomeContext, some_context, live_some}

-- `=>` stands in no type and in no context

arrow_other : (place : Place) (k : TokenKind) → k ≡ AWord word.DoubleArrow → kind_sort place k ≡ sort.Other
arrow_other place k e = ap (kind_sort place) e

now_other : (w : Bool) (now : Now) (frames : List Frame) (ns : List TypeNode) (place : Place) → move_now w now frames ns place sort.Other ≡ None
now_other w Want frames ns place = refl
now_other w (Opened bracket spot) frames ns place = refl
now_other w (Had head) frames ns place = refl

pub type_other : (r : TypeReader) (t : Token) → sort_of t ≡ sort.Other → type_move r t ≡ None
unfolding type_move
type_other r t e = ap (move_now r.is_whole r.stage r.frames r.nodes t.place) e ∙ now_other r.is_whole r.stage r.frames r.nodes t.place

typed_other : (stage : PredStage) (ns : List TypeNode) (t : Token) → sort_of t ≡ sort.Other → typed stage (type_move (alone_from ns) t) ≡ None
typed_other stage ns t e = ap (typed stage) (type_other (alone_from ns) t e)

either_none : {A : Type 0} (b : Bool) (o p : Option A) → o ≡ None → p ≡ None → cond b o p ≡ None
either_none true o p d e = d
either_none false o p d e = e

after_other : (stage : PredStage) (ns : List TypeNode) (t : Token) → sort_of t ≡ sort.Other → after_type stage ns t (sort_of t) ≡ None
after_other (Class p n c) ns t e = typed_other (Class p n (c + 1)) ns t e
after_other First ns t e = ap (operator ns) e
after_other (Middle f) ns t e = ap (equals f ns) e
after_other Begin ns t e = refl
after_other (ClassOrType p n) ns t e = refl
after_other (PowerOrType p) ns t e = refl
after_other (Last f) ns t e = refl

in_other : (stage : PredStage) (r : TypeReader) (t : Token) → sort_of t ≡ sort.Other → in_type stage r t ≡ None
in_other stage r t e = either_none (is_alone_whole r) (after_type stage (nodes_of r) t (sort_of t)) (typed stage (type_move r t)) (after_other stage (nodes_of r) t e) (ap (typed stage) (type_other r t e))

at_other : (stage : PredStage) (r : TypeReader) (t : Token) → sort_of t ≡ sort.Other → move_pred_at stage r t ≡ None
at_other Begin r t e = ap (begin_pred (nodes_of r) t) e ∙ typed_other First (nodes_of r) t e
at_other (ClassOrType p n) r t e = ap (after_name p n (nodes_of r) t) e ∙ typed_other (Class p n 1) (nodes_of r) t e
at_other (PowerOrType p) r t e = ap (after_two p (nodes_of r)) e
at_other (Class p n c) r t e = in_other (Class p n c) r t e
at_other First r t e = in_other First r t e
at_other (Middle f) r t e = in_other (Middle f) r t e
at_other (Last f) r t e = in_other (Last f) r t e

pub pred_other : (r : PredReader) (t : Token) → sort_of t ≡ sort.Other → pred_move r t ≡ None
unfolding pred_move
pred_other r t e = at_other r.stage r.types t e

inside_none : (c : ℕ) (o : Option (List TypeNode)) → inside c sort.Other o None ≡ None
inside_none c None = refl
inside_none c (Some ns) = refl

several_at_other : (stage : SeveralStage) (c : ℕ) (p : PredReader) (t : Token) → sort_of t ≡ sort.Other → several_at stage c p t ≡ None
several_at_other Opening c p t e = ap (opening c p) e
several_at_other Inside c p t e = ap (λ v. inside c v (pred_done p) (pred_move p t)) e ∙ (ap (inside c sort.Other (pred_done p)) (pred_other p t e) ∙ inside_none c (pred_done p))
several_at_other Closed c p t e = refl

several_other : (s : Several) (t : Token) → sort_of t ≡ sort.Other → several_move s t ≡ None
unfolding several_move
several_other s t e = several_at_other s.stage s.count s.pred t e

one_side : (one : Option PredReader) (t : Token) → sort_of t ≡ sort.Other → one_moved one t ≡ None
one_side None t e = refl
one_side (Some r) t e = pred_other r t e

several_side : (several : Option Several) (t : Token) → sort_of t ≡ sort.Other → several_moved several t ≡ None
several_side None t e = refl
several_side (Some s) t e = several_other s t e

pub context_other : (r : ContextReader) (t : Token) → sort_of t ≡ sort.Other → context_move r t ≡ None
unfolding context_move
context_other r t e = ap (λ v. side_by_side v (several_moved r.several t)) (one_side r.one t e) ∙ ap (side_by_side None) (several_side r.several t e)

word_is : (w : Word) → is_double_arrow_word w ≡ true → w ≡ word.DoubleArrow
word_is word.DoubleArrow e = refl
word_is _ e = cc

pub kind_is : (k : TokenKind) → is_double_arrow_kind k ≡ true → k ≡ AWord word.DoubleArrow
kind_is (AWord w) e = ap AWord (word_is w e)
kind_is _ e = cc

pub other_sort : (t : Token) → is_double_arrow t ≡ true → sort_of t ≡ sort.Other
other_sort t e = arrow_other t.place t.kind (kind_is t.kind e)

-- what is still to come

data AfterContext : ContextReader → List Token → List TypeNode → List Token → Type 0 where
  after_context : {c : ContextReader} {ts vs : List Token} {ls : List TypeNode} → (ms : List TypeNode) (t : Token) (us : List Token) → ContextRest c ts ms (t ∷ us) → is_double_arrow t ≡ true → PutsType us ms ls vs → AfterContext c ts ls vs

data QualifiedRest : Option ContextReader → Bool → TypeReader → List Token → List TypeNode → List Token → Type 0 where
  by_type : {c : Option ContextReader} {r : TypeReader} {ts us : List Token} {ls : List TypeNode} → Rest r ts ls us → QualifiedRest c true r ts ls us
  by_context : {c : ContextReader} {b : Bool} {r : TypeReader} {ts us : List Token} {ls : List TypeNode} → AfterContext c ts ls us → QualifiedRest (Some c) b r ts ls us

abbrev RestOf : QualifiedReader → List Token → List TypeNode → List Token → Type 0
RestOf q ts ls us = QualifiedRest q.context q.is_type q.types ts ls us

turned_one : (c : ContextReader) (b : Bool) (r : TypeReader) (t : Token) (ts us : List Token) (ls ns : List TypeNode) → is_double_arrow t ≡ true → context_done c ≡ Some ns → QualifiedRest None true (type_behind ns) ts ls us → QualifiedRest (Some c) b r (t ∷ ts) ls us
turned_one c b r t ts us ls ns d e (by_type h) = by_context (after_context ns t ts (context_done_back c (t ∷ ts) ns e) d (start_type h))

turned_back : (c : ContextReader) (b : Bool) (r : TypeReader) (t : Token) (ts us : List Token) (ls : List TypeNode) (o : Option (List TypeNode)) → is_double_arrow t ≡ true → context_done c ≡ o → Each (turned_to o) (λ q. RestOf q ts ls us → QualifiedRest (Some c) b r (t ∷ ts) ls us)
turned_back c b r t ts us ls None d e = tt
turned_back c b r t ts us ls (Some ns) d e = λ h. turned_one c b r t ts us ls ns d e h

turns_back : (c : Option ContextReader) (b : Bool) (r : TypeReader) (t : Token) (ts us : List Token) (ls : List TypeNode) → is_double_arrow t ≡ true → Each (turned c) (λ q. RestOf q ts ls us → QualifiedRest c b r (t ∷ ts) ls us)
turns_back None b r t ts us ls d = tt
turns_back (Some c) b r t ts us ls d = turned_back c b r t ts us ls (context_done c) d refl

context_back : (c : Option ContextReader) (b : Bool) (r : TypeReader) (d : ContextReader) (t : Token) (ts us : List Token) (ls : List TypeNode) → context_moved c t ≡ Some d → AfterContext d ts ls us → QualifiedRest c b r (t ∷ ts) ls us
context_back None b r d t ts us ls e h = cc
context_back (Some c) b r d t ts us ls e (after_context ms s vs h a p) = by_context (after_context ms s vs (context_move_back c d t ts (s ∷ vs) ms e h) a p)

type_back : (c : Option ContextReader) (b : Bool) (r s : TypeReader) (t : Token) (ts us : List Token) (ls : List TypeNode) → types_moved b r t ≡ Some s → Rest s ts ls us → QualifiedRest c b r (t ∷ ts) ls us
type_back c true r s t ts us ls e h = by_type (move_back r s t ts ls us e h)
type_back c false r s t ts us ls e h = cc

both_back : (c : Option ContextReader) (b : Bool) (r s : TypeReader) (d : Option ContextReader) (t : Token) (ts us : List Token) (ls : List TypeNode) → types_moved b r t ≡ Some s → context_moved c t ≡ d → QualifiedRest d true s ts ls us → QualifiedRest c b r (t ∷ ts) ls us
both_back c b r s d t ts us ls e f (by_type h) = type_back c b r s t ts us ls e h
both_back c b r s d t ts us ls e f (by_context {c = q} h) = context_back c b r q t ts us ls f h

one_back : (c : Option ContextReader) (b : Bool) (r : TypeReader) (d : ContextReader) (t : Token) (ts us : List Token) (ls : List TypeNode) → context_moved c t ≡ Some d → QualifiedRest (Some d) false r ts ls us → QualifiedRest c b r (t ∷ ts) ls us
one_back c b r d t ts us ls e (by_context h) = context_back c b r d t ts us ls e h

together_back : (c : Option ContextReader) (b : Bool) (r : TypeReader) (t : Token) (ts us : List Token) (ls : List TypeNode) (s : Option TypeReader) (d : Option ContextReader) → types_moved b r t ≡ s → context_moved c t ≡ d → Each (together r s d) (λ q. RestOf q ts ls us → QualifiedRest c b r (t ∷ ts) ls us)
together_back c b r t ts us ls None None e f = tt
together_back c b r t ts us ls None (Some d) e f = λ h. one_back c b r d t ts us ls f h
together_back c b r t ts us ls (Some s) None e f = λ h. both_back c b r s None t ts us ls e f h
together_back c b r t ts us ls (Some s) (Some d) e f = λ h. both_back c b r s (Some d) t ts us ls e f h

qualified_back : (q p : QualifiedReader) (t : Token) (ts us : List Token) (ls : List TypeNode) → qualified_move q t ≡ Some p → RestOf p ts ls us → RestOf q (t ∷ ts) ls us
unfolding qualified_move
qualified_back q p t ts us ls e = each_of (λ v. RestOf v ts ls us → RestOf q (t ∷ ts) ls us) (qualified_move q t)
    (each_choice (λ v. RestOf v ts ls us → RestOf q (t ∷ ts) ls us) (is_double_arrow t) (turned q.context) (together q.types (types_moved q.is_type q.types t) (context_moved q.context t)) (λ d. turns_back q.context q.is_type q.types t ts us ls d) (λ d. together_back q.context q.is_type q.types t ts us ls (types_moved q.is_type q.types t) (context_moved q.context t) refl refl)) e

done_at_back : (c : Option ContextReader) (b : Bool) (r : TypeReader) (ts : List Token) (ls : List TypeNode) → qualified_done_at b r ≡ Some ls → QualifiedRest c b r ts ls ts
done_at_back c true r ts ls e = by_type (done_back r ts ls e)
done_at_back c false r ts ls e = cc

qualified_done_back : (q : QualifiedReader) (ts : List Token) (ls : List TypeNode) → qualified_done q ≡ Some ls → RestOf q ts ls ts
unfolding qualified_done
qualified_done_back q ts ls e = done_at_back q.context q.is_type q.types ts ls e

-- the other way round

abbrev GoodOption : Option ContextReader → Type 0
GoodOption None = Unit {0}
GoodOption (Some c) = GoodContext c

data QualifiedGoes : QualifiedReader → List Token → List TypeNode → List Token → Type 0 where
  q_stops : {q : QualifiedReader} {ts : List Token} {ls : List TypeNode} → qualified_done q ≡ Some ls → QualifiedGoes q ts ls ts
  q_takes : {q p : QualifiedReader} {t : Token} {ts us : List Token} {ls : List TypeNode} → qualified_move q t ≡ Some p → RestOf p ts ls us → QualifiedGoes q (t ∷ ts) ls us

not_arrow : (t : Token) (b : Bool) → is_double_arrow t ≡ b → (is_double_arrow t ≡ true → ⊥) → is_double_arrow t ≡ false
not_arrow t true e f = absurd (f e)
not_arrow t false e f = e

some_none : {A : Type 0} (o : Option A) (a : A) → o ≡ Some a → o ≡ None → ⊥
some_none o a d e = cc

type_no_arrow : (r s : TypeReader) (t : Token) → type_move r t ≡ Some s → is_double_arrow t ≡ false
type_no_arrow r s t e = not_arrow t (is_double_arrow t) refl (λ d. some_none (type_move r t) s e (type_other r t (other_sort t d)))

context_no_arrow : (r s : ContextReader) (t : Token) → context_move r t ≡ Some s → is_double_arrow t ≡ false
context_no_arrow r s t e = not_arrow t (is_double_arrow t) refl (λ d. some_none (context_move r t) s e (context_other r t (other_sort t d)))

if_false : {A : Type 0} (b : Bool) (o p : A) → b ≡ false → cond b o p ≡ p
if_false false o p e = refl
if_false true o p e = cc

if_true : {A : Type 0} (b : Bool) (o p : A) → b ≡ true → cond b o p ≡ o
if_true true o p e = refl
if_true false o p e = cc

moves_together : (q p : QualifiedReader) (t : Token) → is_double_arrow t ≡ false → together q.types (types_moved q.is_type q.types t) (context_moved q.context t) ≡ Some p → qualified_move q t ≡ Some p
unfolding qualified_move
moves_together q p t d e = if_false (is_double_arrow t) (turned q.context) (together q.types (types_moved q.is_type q.types t) (context_moved q.context t)) d ∙ e

moves_turned : (q p : QualifiedReader) (t : Token) → is_double_arrow t ≡ true → turned q.context ≡ Some p → qualified_move q t ≡ Some p
unfolding qualified_move
moves_turned q p t d e = if_true (is_double_arrow t) (turned q.context) (together q.types (types_moved q.is_type q.types t) (context_moved q.context t)) d ∙ e

done_type : (c : Option ContextReader) (r : TypeReader) (ls : List TypeNode) → type_done r ≡ Some ls → qualified_done (qualified_state c true r) ≡ Some ls
unfolding qualified_done
done_type c r ls e = e

type_goes : {c : Option ContextReader} {r : TypeReader} {ts us : List Token} {ls : List TypeNode} → Goes r ts ls us → QualifiedGoes (qualified_state c true r) ts ls us
type_goes {c} {r} {ls} (stops e) = q_stops (done_type c r ls e)
type_goes {c} {r} (takes {s} {t} e h) = q_takes (moves_together (qualified_state c true r) (qualified_state (context_moved c t) true s) t (type_no_arrow r s t e) (ap (λ v. together r v (context_moved c t)) e)) (by_type h)

together_context : (old : TypeReader) (s : Option TypeReader) (d : ContextReader) → (p : QualifiedReader) × ((together old s (Some d) ≡ Some p) × ((ts us : List Token) → (ls : List TypeNode) → AfterContext d ts ls us → RestOf p ts ls us))
together_context old None d = (qualified_state (Some d) false old, (refl, λ ts us ls h. by_context h))
together_context old (Some s) d = (qualified_state (Some d) true s, (refl, λ ts us ls h. by_context h))

context_goes_on : (c d : ContextReader) (b : Bool) (r : TypeReader) (t : Token) (ts us : List Token) (ls : List TypeNode) → context_move c t ≡ Some d → AfterContext d ts ls us → (p : QualifiedReader) × ((together r (types_moved b r t) (Some d) ≡ Some p) × ((ts us : List Token) → (ls : List TypeNode) → AfterContext d ts ls us → RestOf p ts ls us)) → QualifiedGoes (qualified_state (Some c) b r) (t ∷ ts) ls us
context_goes_on c d b r t ts us ls e h (p, (f, g)) = q_takes (moves_together (qualified_state (Some c) b r) p t (context_no_arrow c d t e) (ap (λ v. together r (types_moved b r t) v) e ∙ f)) (g ts us ls h)

context_goes_at : {c : ContextReader} {b : Bool} {r : TypeReader} {ts : List Token} {t : Token} {us vs : List Token} {ms ls : List TypeNode} → ContextGoes c ts ms (t ∷ us) → is_double_arrow t ≡ true → PutsType us ms ls vs → QualifiedGoes (qualified_state (Some c) b r) ts ls vs
context_goes_at {c} {b} {r} {t} {ms} (context_stops e) d p = q_takes (moves_turned (qualified_state (Some c) b r) (qualified_state None true (type_behind ms)) t d (ap turned_to e)) (by_type (type_start p))
context_goes_at {c} {b} {r} {t} {us} {vs} {ms} {ls} (context_takes {s = q} {t = k} {ts = rest} e h) d p = context_goes_on c q b r k rest vs ls e (after_context ms t us h d p) (together_context r (types_moved b r k) q)

qualified_goes : {c : Option ContextReader} {b : Bool} {r : TypeReader} {ts us : List Token} {ls : List TypeNode} → GoodOption c → QualifiedRest c b r ts ls us → QualifiedGoes (qualified_state c b r) ts ls us
qualified_goes {r} {ts} {us} {ls} g (by_type h) = type_goes (goes r ts ls us h)
qualified_goes {ts} g (by_context {c} (after_context ms t us h d p)) = context_goes_at (context_goes c ts (t ∷ us) ms g h) d p

-- the context stays good

turned_good : (o : Option (List TypeNode)) → Each (turned_to o) (λ q. GoodOption q.context)
turned_good None = tt
turned_good (Some ns) = tt

turns_good : (c : Option ContextReader) → Each (turned c) (λ q. GoodOption q.context)
turns_good None = tt
turns_good (Some c) = turned_good (context_done c)

moved_good : (c : ContextReader) (t : Token) (o : Option ContextReader) → GoodContext c → context_move c t ≡ o → GoodOption o
moved_good c t None g e = tt
moved_good c t (Some d) g e = good_move c d t g e

context_good : (c : Option ContextReader) (t : Token) → GoodOption c → GoodOption (context_moved c t)
context_good None t g = tt
context_good (Some c) t g = moved_good c t (context_move c t) g refl

together_good : (r : TypeReader) (s : Option TypeReader) (d : Option ContextReader) → GoodOption d → Each (together r s d) (λ q. GoodOption q.context)
together_good r None None g = tt
together_good r None (Some d) g = g
together_good r (Some s) None g = tt
together_good r (Some s) (Some d) g = g

qualified_good : (q p : QualifiedReader) (t : Token) → GoodOption q.context → qualified_move q t ≡ Some p → GoodOption p.context
unfolding qualified_move
qualified_good q p t g e = each_of (λ v. GoodOption v.context) (qualified_move q t)
    (each_choice (λ v. GoodOption v.context) (is_double_arrow t) (turned q.context) (together q.types (types_moved q.is_type q.types t) (context_moved q.context t)) (λ d. turns_good q.context) (λ d. together_good q.types (types_moved q.is_type q.types t) (context_moved q.context t) (context_good q.context t g))) e

reached_good : {s : QualifiedReader} → Reached qualified_reader s → GoodOption s.context
reached_good at_start = start_good []
reached_good (after {s} {r} {t} h e) = qualified_good s r t (reached_good h) e

-- runs

rest_of_run : {s : QualifiedReader} {ts us : List Token} {ls : List TypeNode} → Runs qualified_reader s ts ls us → RestOf s ts ls us
rest_of_run (stop {s} {ts} {a} e) = qualified_done_back s ts a e
rest_of_run (take {s} {r} {t} {ts} {us} {a} e h) = qualified_back s r t ts us a e (rest_of_run h)

run_on : {s : QualifiedReader} {t : Token} {ts us : List Token} {ls : List TypeNode} → GoodOption s.context → QualifiedGoes s (t ∷ ts) ls us → ((r : QualifiedReader) → GoodOption r.context → RestOf r ts ls us → Runs qualified_reader r ts ls us) → Runs qualified_reader s (t ∷ ts) ls us
run_on a (q_stops e) f = stop e
run_on {s} {t} a (q_takes {p = r} e h) f = take e (f r (qualified_good s r t a e) h)

run_out : {s : QualifiedReader} {us : List Token} {ls : List TypeNode} → QualifiedGoes s [] ls us → Runs qualified_reader s [] ls us
run_out (q_stops e) = stop e

run_of_rest : (ts : List Token) (s : QualifiedReader) (ls : List TypeNode) (us : List Token) → GoodOption s.context → RestOf s ts ls us → Runs qualified_reader s ts ls us
run_of_rest [] s ls us a h = run_out (qualified_goes a h)
run_of_rest (t ∷ ts) s ls us a h = run_on a (qualified_goes a h) (λ r b g. run_of_rest ts r ls us b g)

-- trees

unqualified_read : {ts us : List Token} {ls : List TypeNode} → TypeTree ts (node.Context 0 ∷ []) ls us → QualifiedNodesRead ts ls us
unqualified_read (type_tree a h e) = record { context = []; tree = a; read = grammar.unqualified h; nodes_of = e ∙ put_nodes (node.Context 0 ∷ []) a }

qualified_read : {ts us vs : List Token} {t : Token} {ms ls : List TypeNode} → ContextTree [] ts ms (t ∷ us) → is_double_arrow t ≡ true → TypeTree us ms ls vs → QualifiedNodesRead ts ls vs
qualified_read {t} {ms} (context_tree ps h e) d (type_tree a g f) = record { context = ps; tree = a; read = grammar.qualified h (kind_is t.kind d) g; nodes_of = f ∙ (put_nodes ms a ∙ ap (λ v. v ++ type_nodes a) (e ∙ put_context_nodes [] ps)) }

start_read : {ts us : List Token} {ls : List TypeNode} → RestOf qualified_start ts ls us → QualifiedNodesRead ts ls us
start_read (by_type h) = unqualified_read (type_of (start_type h))
start_read (by_context (after_context ms t us h d p)) = qualified_read (context_of (start_puts h)) d (type_of p)

arrow_is : (k : TokenKind) → k ≡ AWord word.DoubleArrow → is_double_arrow_kind k ≡ true
arrow_is k e = ap is_double_arrow_kind e

read_start : {ts us : List Token} {ps : List PredExpr} {a : TypeExpr} (ls : List TypeNode) → ls ≡ context_nodes ps ++ type_nodes a → ReadsQualified ts ps a us → RestOf qualified_start ts ls us
read_start {ts} {us} {a} ls e (grammar.unqualified h) =
    let P : List TypeNode → Type 0 = λ v. PutsType ts (node.Context 0 ∷ []) v us in
    by_type (type_start (subst P (put_nodes (node.Context 0 ∷ []) a ∙ sym e) (puts_type (node.Context 0 ∷ []) h)))
read_start {ts} {us = vs} {ps} {a} ls e (grammar.qualified {us} {t} h d g) =
    let ms : List TypeNode = put (put_preds [] ps) (node.Context (length ps)) in
    let P : List TypeNode → Type 0 = λ v. PutsType us ms v vs in
    by_context (after_context ms t us (puts_start (context_puts [] h)) (arrow_is t.kind d) (subst P (put_nodes ms a ∙ (ap (λ v. v ++ type_nodes a) (put_context_nodes [] ps) ∙ sym e)) (puts_type ms g)))

-- each state can be ended

abbrev double_arrow_token : Token
double_arrow_token = record { place = record { line = 0; col = 0 }; kind = AWord word.DoubleArrow }

data LiveQualified : Option ContextReader → Bool → Type 0 where
  live_type : {c : Option ContextReader} → LiveQualified c true
  live_context : {c : ContextReader} {b : Bool} → Live c.one c.several → LiveQualified (Some c) b

together_live : (c : Option ContextReader) (r : TypeReader) (t : Token) (s : Option TypeReader) (d : Option ContextReader) → context_moved c t ≡ d → Each (together r s d) (λ q. LiveQualified q.context q.is_type)
together_live c r t None None e = tt
together_live (Some c) r t None (Some d) e = live_context (live_move c d t e)
together_live None r t None (Some d) e = cc
together_live c r t (Some s) None e = live_type
together_live c r t (Some s) (Some d) e = live_type

turned_live : (o : Option (List TypeNode)) → Each (turned_to o) (λ q. LiveQualified q.context q.is_type)
turned_live None = tt
turned_live (Some ns) = live_type

turns_live : (c : Option ContextReader) → Each (turned c) (λ q. LiveQualified q.context q.is_type)
turns_live None = tt
turns_live (Some c) = turned_live (context_done c)

reached_live : {s : QualifiedReader} → Reached qualified_reader s → LiveQualified s.context s.is_type
unfolding qualified_move
reached_live at_start = live_type
reached_live (after {s} {r} {t} h e) = each_of (λ v. LiveQualified v.context v.is_type) (qualified_move s t)
    (each_choice (λ v. LiveQualified v.context v.is_type) (is_double_arrow t) (turned s.context) (together s.types (types_moved s.is_type s.types t) (context_moved s.context t)) (λ d. turns_live s.context) (λ d. together_live s.context s.types t (types_moved s.is_type s.types t) (context_moved s.context t) refl)) e

data SomeQualified : Option ContextReader → Bool → TypeReader → Type 0 where
  some_qualified : {c : Option ContextReader} {b : Bool} {r : TypeReader} → (ts : List Token) (ls : List TypeNode) → QualifiedRest c b r ts ls [] → SomeQualified c b r

type_some : {c : Option ContextReader} {r : TypeReader} → SomeRest r [] → SomeQualified c true r
type_some (some_rest ts ls h) = some_qualified ts ls (by_type h)

con_type : (ns : List TypeNode) → PutsType (con_token ∷ []) ns (put ns (node.Con con_token.place plus)) []
con_type ns = alone (row (atom refl) no_more)

context_some : {c : ContextReader} {b : Bool} {r : TypeReader} → SomeContext c.one c.several (double_arrow_token ∷ con_token ∷ []) → SomeQualified (Some c) b r
context_some (some_context ts ls h) = some_qualified ts (put ls (node.Con con_token.place plus)) (by_context (after_context ls double_arrow_token (con_token ∷ []) h refl (con_type ls)))

live_qualified : {c : Option ContextReader} {b : Bool} (r : TypeReader) → LiveQualified c b → SomeQualified c b r
live_qualified r live_type = type_some (some_rest_of r [])
live_qualified r (live_context h) = context_some (live_some (double_arrow_token ∷ con_token ∷ []) h)

alive_by : {s : QualifiedReader} → GoodOption s.context → SomeQualified s.context s.is_type s.types → (ts : List Token) × ((ls : List TypeNode) × Runs qualified_reader s ts ls [])
alive_by {s} g (some_qualified ts ls h) = (ts, (ls, run_of_rest ts s ls [] g h))

pub qualified_exact : Exact qualified_reader QualifiedNodesRead
qualified_exact = record {
  sound = λ h. start_read (rest_of_run h);
  complete = λ {ts} {us} {a} h. run_of_rest ts qualified_start a us (start_good []) (read_start a h.nodes_of h.read);
  alive = λ {s} h. alive_by (reached_good h) (live_qualified s.types (reached_live h));
}
