-- What the readers do not take once a whole is read.
use Rattle.std.proofs.Common.{◌≡◌, Bool, true, false, List, [], ◌∷◌, Option, Some, None, refl, ap, ◌∙◌}
use Rattle.hb_base.specs.declared.place.Place.{Place}
use Rattle.hb_base.specs.declared.name.Name.{Name}
use Rattle.hb_tokens.specs.declared.token.Token.{Token}
use Rattle.hb_read_patterns.specs.declared.reader.PatReader.{PatReader}
use Rattle.hb_read_patterns.specs.Moves.{pat_reader}
use Rattle.hb_read_expressions.specs.declared.node.ExprNode.{ExprNode}
use Rattle.hb_read_expressions.specs.declared.node.ExprNode.TheVariants as node
use Rattle.hb_read_expressions.specs.declared.sort.Sort.{Sort}
use Rattle.hb_read_expressions.specs.declared.sort.Sort.TheVariants as sort
use Rattle.hb_read_expressions.specs.declared.frame.Spot.{Spot}
use Rattle.hb_read_expressions.specs.declared.frame.Frame.{Frame}
use Rattle.hb_read_expressions.specs.declared.frame.Frame.TheVariants as frame
use Rattle.hb_read_expressions.specs.declared.now.Now.{Now}
use Rattle.hb_read_expressions.specs.declared.now.Now.TheVariants as now
use Rattle.hb_read_expressions.specs.Nodes.{put}
use Rattle.hb_read_expressions.specs.Sorts.{sort_of}
use Rattle.hb_read_expressions.specs.Exactly.{goes_on, EndsBefore}
use Rattle.hb_read_expressions.specs.declared.state.Core.{Core}
use Rattle.hb_read_expressions.specs.declared.state.State.{State}
use Rattle.hb_read_expressions.specs.States.{end_post, begun_of, end_run, first_of, run_at}
use Rattle.hb_read_expressions.specs.Ends.{settle, close, close_top, end_operand}
use Rattle.hb_read_expressions.specs.Outside.{move_core, after_post}
use Rattle.hb_read_expressions.specs.Inside.{with_pats}
use Rattle.hb_read_expressions.specs.Statements.{move_both, both, arrow_at, pattern_alone, cut}
use Rattle.hb_read_expressions.specs.Moves.{moved, move_state, move_alone, done, done_now, end_nodes, outermost_end}

-- no frame around but those that end with the expression, or an equation by itself
none_is : {A : Type 0} {a : A} → None ≡ Some a → ⊥
none_is h = absurd (cc)

close_none : (fs : List Frame) (first stands : Place) (nodes out : List ExprNode) (x : Sort) → outermost_end fs first nodes ≡ Some out → goes_on x ≡ false → close_top fs first stands nodes x ≡ None
close_none [] first stands nodes out x h g = refl
close_none (frame.Row name place n before ∷ []) first stands nodes out sort.Where h g = absurd (cc)
close_none (frame.Row name place n before ∷ []) first stands nodes out x h g = refl
close_none (frame.Row name place n before ∷ f ∷ fs) first stands nodes out x h g = absurd (none_is h)
close_none (f ∷ fs) first stands nodes out x h g = absurd (none_is h)

cut_none : (fs : List Frame) (first stands : Place) (nodes old out : List ExprNode) → end_nodes (Some (settle fs first stands nodes)) ≡ Some out → cut fs old ≡ None
cut_none [] first stands nodes old out h = refl
cut_none (frame.Lambda begun place n ∷ fs) first stands nodes old out h = cut_none fs (first_of begun) (run_at begun place) (end_run begun (put nodes (node.Lambda place n))) old out h
cut_none (frame.LetBody begun place n ∷ fs) first stands nodes old out h = cut_none fs (first_of begun) (run_at begun place) (end_run begun (put nodes (node.Let place n))) old out h
cut_none (frame.Else begun place ∷ fs) first stands nodes old out h = cut_none fs (first_of begun) (run_at begun place) (end_run begun (put nodes (node.If place))) old out h
cut_none (frame.Row name place n before ∷ []) first stands nodes old out h = refl
cut_none (frame.Row name place n before ∷ f ∷ fs) first stands nodes old out h = absurd (none_is h)
cut_none (f ∷ fs) first stands nodes old out h = absurd (none_is h)

-- what a whole says: nothing is taken, and there is no statement's head
record Stopped (current : Now) (fs : List Frame) (nodes : List ExprNode) : Type 0 where
  plain : (pats : PatReader) (t : Token) → move_alone current fs nodes pats t ≡ with_pats pats (move_core current fs nodes t.place (sort_of t.kind))
  stops : (place : Place) (x : Sort) → goes_on x ≡ false → move_core current fs nodes place x ≡ None
  no_head : cut fs nodes ≡ None

settle_none : (fs : List Frame) (first stands : Place) (nodes out : List ExprNode) (x : Sort) → end_nodes (Some (settle fs first stands nodes)) ≡ Some out → goes_on x ≡ false → close (settle fs first stands nodes) x ≡ None
settle_none fs first stands nodes out x h g = let e = settle fs first stands nodes in close_none e.frames e.first e.stands e.nodes out x h g

after_none : (spot : Spot) (stands : Place) (fs : List Frame) (nodes : List ExprNode) (place : Place) (x : Sort) → close (end_operand fs (begun_of spot) stands (end_post spot stands nodes)) x ≡ None → goes_on x ≡ false → after_post spot stands fs nodes place x ≡ None
after_none spot stands fs nodes place (sort.Operator name) c g = absurd (cc)
after_none spot stands fs nodes place sort.Backquote c g = absurd (cc)
after_none spot stands fs nodes place (sort.Variable name) c g = absurd (cc)
after_none spot stands fs nodes place (sort.Number k) c g = absurd (cc)
after_none spot stands fs nodes place (sort.Bits width k) c g = absurd (cc)
after_none spot stands fs nodes place (sort.Constructor name) c g = absurd (cc)
after_none spot stands fs nodes place sort.Open c g = absurd (cc)
after_none spot stands fs nodes place x c g = c

post_none : (spot : Spot) (first stands : Place) (fs : List Frame) (nodes : List ExprNode) (place : Place) (x : Sort) → goes_on x ≡ false → after_post spot stands fs nodes place x ≡ None → move_core (now.Post spot first stands) fs nodes place x ≡ None
post_none spot first stands fs nodes place sort.Dot g a = absurd (cc)
post_none spot first stands fs nodes place sort.OpenSquare g a = absurd (cc)
post_none spot first stands fs nodes place x g a = a

con_none : (spot : Spot) (p : Place) (name : Name) (fs : List Frame) (nodes : List ExprNode) (place : Place) (x : Sort) → goes_on x ≡ false → after_post spot p fs (put nodes (node.Con p name)) place x ≡ None → move_core (now.Con spot p name) fs nodes place x ≡ None
con_none spot p name fs nodes place sort.Dot g a = absurd (cc)
con_none spot p name fs nodes place sort.OpenSquare g a = absurd (cc)
con_none spot p name fs nodes place x g a = a

stopped : (current : Now) (fs : List Frame) (nodes out : List ExprNode) → done_now current fs nodes ≡ Some out → Stopped current fs nodes
stopped (now.Post spot first stands) fs nodes out h = record {
  plain = λ pats t. refl;
  stops = λ place x g. post_none spot first stands fs nodes place x g (after_none spot stands fs nodes place x (settle_none fs _ _ _ out x h g) g);
  no_head = cut_none fs _ _ _ nodes out h;
}
stopped (now.Con spot p name) fs nodes out h = record {
  plain = λ pats t. refl;
  stops = λ place x g. con_none spot p name fs nodes place x g (after_none spot p fs (put nodes (node.Con p name)) place x (settle_none fs _ _ _ out x h g) g);
  no_head = cut_none fs _ _ _ nodes out h;
}
stopped (now.Sealed spot stands) fs nodes out h = record {
  plain = λ pats t. refl;
  stops = λ place x g. after_none spot stands fs nodes place x (settle_none fs _ _ _ out x h g) g;
  no_head = cut_none fs _ _ _ nodes out h;
}
stopped (now.Whole begun stands) fs nodes out h = record {
  plain = λ pats t. refl;
  stops = λ place x g. settle_none fs _ _ _ out x h g;
  no_head = cut_none fs _ _ _ nodes out h;
}
stopped (now.RowEnd n) [] nodes out h = record { plain = λ pats t. refl; stops = λ place x g. refl; no_head = refl }
stopped (now.RowEnd n) (f ∷ fs) nodes out h = absurd (none_is h)
stopped (now.Over n) [] nodes out h = record { plain = λ pats t. refl; stops = λ place x g. refl; no_head = refl }
stopped (now.Over n) (f ∷ fs) nodes out h = absurd (none_is h)
stopped current fs nodes out h = absurd (none_is h)

both_none : (core : Core) (pats : PatReader) (p : Option PatReader) → cut core.frames core.nodes ≡ None → both core None pats p ≡ None
both_none core pats None h = refl
both_none core pats (Some r) h = ap (pattern_alone r) h

side_none : (core : Core) (pats : PatReader) (t : Token) (x : Sort) → Stopped core.last core.frames core.nodes → goes_on x ≡ false → move_both core pats t x ≡ None
side_none core pats t sort.LeftArrow s g = ap (λ o. arrow_at o pats t) s.no_head
side_none core pats t x s g = ap (λ o. both core o pats (pat_reader.move pats t)) (s.stops t.place x g) ∙ both_none core pats (pat_reader.move pats t) s.no_head

state_none : (side : Bool) (core : Core) (pats : PatReader) (t : Token) → Stopped core.last core.frames core.nodes → goes_on (sort_of t.kind) ≡ false → move_state side core pats t ≡ None
state_none false core pats t s g = s.plain pats t ∙ ap (with_pats pats) (s.stops t.place (sort_of t.kind) g)
state_none true core pats t s g = side_none core pats t (sort_of t.kind) s g

-- where a whole is read, only a token is taken that goes on with it
pub ends_before : (s : State) (nodes : List ExprNode) → done s ≡ Some nodes → EndsBefore s
unfolding done moved
ends_before s nodes d t g = state_none s.beside s.core s.pats t (stopped s.core.last s.core.frames s.core.nodes nodes d) g
