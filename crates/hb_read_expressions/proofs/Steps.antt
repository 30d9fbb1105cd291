-- Steps of the reader of expressions, one at a time: what each does where it is not known how the readers stand.
use Rattle.std.proofs.Common.{◌≡◌, Bool, true, false, List, [], ◌∷◌, Option, Some, None, refl, sym, ap, subst, ◌∙◌}
use Rattle.hb_base.specs.declared.name.Name.{Name}
use Rattle.hb_base.specs.declared.place.Place.{Place}
use Rattle.hb_tokens.specs.declared.token.Token.{Token}
use Rattle.hb_grammar.specs.Tokens.{first_place}
use Rattle.hb_read_patterns.specs.declared.reader.PatReader.{PatReader}
use Rattle.hb_read_patterns.specs.Moves.{pat_reader}
use Rattle.hb_read_patterns.specs.Sorts.{sort_of as pat_sort_of}
use Rattle.hb_read_patterns.specs.declared.sort.Sort.TheVariants as pat_sort
use Rattle.hb_read_expressions.specs.declared.node.ExprNode.{ExprNode}
use Rattle.hb_read_expressions.specs.declared.node.ExprNode.TheVariants as node
use Rattle.hb_read_expressions.specs.declared.sort.Sort.{Sort}
use Rattle.hb_read_expressions.specs.declared.sort.Sort.TheVariants as sort
use Rattle.hb_read_expressions.specs.declared.frame.Begun.{Begun}
use Rattle.hb_read_expressions.specs.declared.frame.Begun.TheVariants.{First}
use Rattle.hb_read_expressions.specs.declared.frame.Spot.{Spot}
use Rattle.hb_read_expressions.specs.declared.frame.Spot.TheVariants.{Head, Argument}
use Rattle.hb_read_expressions.specs.declared.frame.Frame.{Frame}
use Rattle.hb_read_expressions.specs.declared.frame.Frame.TheVariants as frame
use Rattle.hb_read_expressions.specs.declared.now.Now.{Now}
use Rattle.hb_read_expressions.specs.declared.now.Now.TheVariants as now
use Rattle.hb_read_expressions.proofs.PatStops.{other_stops}
use Rattle.hb_read_expressions.specs.Nodes.{put}
use Rattle.hb_read_expressions.specs.Sorts.{sort_of}
use Rattle.hb_read_expressions.specs.declared.state.Core.{Core}
use Rattle.hb_read_expressions.specs.declared.state.State.{State}
use Rattle.hb_read_expressions.specs.States.{at, state, end_post, begun_of}
use Rattle.hb_read_expressions.specs.Ends.{close, end_operand, Ended}
use Rattle.hb_read_expressions.specs.Outside.{move_core, begin_post, begin_operand, after_post}
use Rattle.hb_read_expressions.specs.Inside.{with_pats}
use Rattle.hb_read_expressions.specs.Statements.{move_both, both}
use Rattle.hb_read_expressions.specs.Moves.{moved, move_alone, ended_at}

-- what is said of a state and the tokens to come, and holds before a token that it takes
pub record Closed (Q : State → List Token → Type 0) : Type 0 where
  pub taken : {s r : State} {t : Token} {ts : List Token} → moved s t ≡ Some r → Q r ts → Q s (t ∷ ts)

-- however the reader of patterns stands
abbrev pub All : (State → List Token → Type 0) → Core → List Token → Type 0
All Q core ts = (pats : PatReader) (beside : Bool) → Q (state core pats beside) ts

-- the token leads to this core
pub record Takes (s : State) (t : Token) (core : Core) : Type 0 where
  pub pats : PatReader
  pub beside : Bool
  pub alone : pat_sort_of t.kind ≡ pat_sort.Other → beside ≡ false
  pub moves : moved s t ≡ Some (state core pats beside)

pub then_all : {Q : State → List Token → Type 0} {s : State} {t : Token} {core : Core} {ts : List Token} → Closed Q → Takes s t core → All Q core ts → Q s (t ∷ ts)
then_all k takes rest = k.taken takes.moves (rest takes.pats takes.beside)

-- in particular with no pattern read
abbrev pub Alone : (State → List Token → Type 0) → Core → List Token → Type 0
Alone Q core ts = (pats : PatReader) → Q (state core pats false) ts

-- a token that no pattern has
pub then_alone : {Q : State → List Token → Type 0} {s : State} {t : Token} {core : Core} {ts : List Token} → Closed Q → Takes s t core → pat_sort_of t.kind ≡ pat_sort.Other → Alone Q core ts → Q s (t ∷ ts)
then_alone {Q = Q} {s = s} {t = t} {core = core} {ts = ts} k takes other rest =
    k.taken takes.moves (subst (λ b. Q (state core takes.pats b) ts) (sym (takes.alone other)) (rest takes.pats))

abbrev pub is_arrow : Sort → Bool
is_arrow sort.LeftArrow = true
is_arrow x = false

both_is : (core : Core) (pats : PatReader) (t : Token) (x : Sort) → is_arrow x ≡ false → move_both core pats t x ≡ both core (move_core core.last core.frames core.nodes t.place x) pats (pat_reader.move pats t)
both_is core pats t sort.LeftArrow h = absurd (cc)
both_is core pats t x h = refl

pub both_takes : (core next : Core) (pats : PatReader) (p : Option PatReader) → (q : PatReader) × (b : Bool) × (both core (Some next) pats p ≡ Some (state next q b)) × (p ≡ None → b ≡ false)
both_takes core next pats (Some p) = (p, true, refl, λ h. absurd (cc))
both_takes core next pats None = (pats, false, refl, λ h. refl)

-- where only tokens outside patterns are read
abbrev pub Plain : Now → Type 0
Plain now = (frames : List Frame) (nodes : List ExprNode) (pats : PatReader) (t : Token) → move_alone now frames nodes pats t ≡ with_pats pats (move_core now frames nodes t.place (sort_of t.kind))

both_step : (core next : Core) (pats : PatReader) (t : Token) (x : Sort) → sort_of t.kind ≡ x → is_arrow x ≡ false → move_core core.last core.frames core.nodes t.place x ≡ Some next → Takes (state core pats true) t next
unfolding moved
both_step core next pats t x h arrow moves =
    let p = both_takes core next pats (pat_reader.move pats t) in
    record { pats = p.0; beside = p.1; alone = λ o. p.3 (other_stops pats t o); moves = ap (move_both core pats t) h ∙ both_is core pats t x arrow ∙ ap (λ c. both core c pats (pat_reader.move pats t)) moves ∙ p.2 }

alone_step : (core next : Core) (pats : PatReader) (t : Token) (x : Sort) → Plain core.last → sort_of t.kind ≡ x → move_core core.last core.frames core.nodes t.place x ≡ Some next → Takes (state core pats false) t next
unfolding moved
alone_step core next pats t x plain h moves =
    record { pats = pats; beside = false; alone = λ o. refl; moves = plain core.frames core.nodes pats t ∙ ap (λ y. with_pats pats (move_core core.last core.frames core.nodes t.place y)) h ∙ ap (with_pats pats) moves }

-- a token outside patterns
pub core_takes : (core next : Core) (pats : PatReader) (beside : Bool) (t : Token) (x : Sort) → Plain core.last → sort_of t.kind ≡ x → is_arrow x ≡ false → move_core core.last core.frames core.nodes t.place x ≡ Some next → Takes (state core pats beside) t next
core_takes core next pats true t x plain h arrow moves = both_step core next pats t x h arrow moves
core_takes core next pats false t x plain h arrow moves = alone_step core next pats t x plain h moves

-- where a post is whole: how many nodes are out with it, and where it stands
pub data Posted (spot : Spot) : Now → List ExprNode → Place → List ExprNode → Type 0 where
  post : {first stands : Place} {nodes : List ExprNode} → Posted spot (now.Post spot first stands) nodes stands nodes
  con : {place : Place} {name : Name} {nodes : List ExprNode} → Posted spot (now.Con spot place name) nodes place (put nodes (node.Con place name))
  sealed : {stands : Place} {nodes : List ExprNode} → Posted spot (now.Sealed spot stands) nodes stands nodes

pub posted_plain : {spot : Spot} {now : Now} {nodes out : List ExprNode} {stands : Place} → Posted spot now nodes stands out → Plain now
posted_plain post frames nodes pats t = refl
posted_plain con frames nodes pats t = refl
posted_plain sealed frames nodes pats t = refl

-- what goes on with the post itself
abbrev pub is_follow : Sort → Bool
is_follow sort.Dot = true
is_follow sort.OpenSquare = true
is_follow x = false

post_moves : (spot : Spot) (first stands : Place) (frames : List Frame) (nodes : List ExprNode) (place : Place) (x : Sort) → is_follow x ≡ false → move_core (now.Post spot first stands) frames nodes place x ≡ after_post spot stands frames nodes place x
post_moves spot first stands frames nodes place sort.Dot h = absurd (cc)
post_moves spot first stands frames nodes place sort.OpenSquare h = absurd (cc)
post_moves spot first stands frames nodes place x h = refl

con_moves : (spot : Spot) (first : Place) (name : Name) (frames : List Frame) (nodes : List ExprNode) (place : Place) (x : Sort) → is_follow x ≡ false → move_core (now.Con spot first name) frames nodes place x ≡ after_post spot first frames (put nodes (node.Con first name)) place x
con_moves spot first name frames nodes place sort.Dot h = absurd (cc)
con_moves spot first name frames nodes place sort.OpenSquare h = absurd (cc)
con_moves spot first name frames nodes place x h = refl

pub posted_moves : {spot : Spot} {now : Now} {nodes out : List ExprNode} {stands : Place} → Posted spot now nodes stands out → (frames : List Frame) (place : Place) (x : Sort) → is_follow x ≡ false → move_core now frames nodes place x ≡ after_post spot stands frames out place x
posted_moves {spot = spot} (post {first = first} {stands = stands} {nodes = nodes}) frames place x h = post_moves spot first stands frames nodes place x h
posted_moves {spot = spot} (con {place = first} {name = name} {nodes = nodes}) frames place x h = con_moves spot first name frames nodes place x h
posted_moves sealed frames place x h = refl

pub posted_ends : {spot : Spot} {now : Now} {nodes out : List ExprNode} {stands : Place} → Posted spot now nodes stands out → (frames : List Frame) → ended_at now frames nodes ≡ Some (end_operand frames (begun_of spot) stands (end_post spot stands out))
posted_ends post frames = refl
posted_ends con frames = refl
posted_ends sealed frames = refl

-- where an application is whole, however it was read
pub data Applied : Begun → Now → List ExprNode → Place → List ExprNode → Type 0 where
  applied : {spot : Spot} {now : Now} {nodes out : List ExprNode} {stands : Place} → Posted spot now nodes stands out → Applied (begun_of spot) now nodes stands (end_post spot stands out)

-- what ends a whole expression
abbrev pub is_closer : Sort → Bool
is_closer sort.Close = true
is_closer sort.Comma = true
is_closer sort.Semicolon = true
is_closer sort.CloseSquare = true
is_closer sort.CloseBrace = true
is_closer sort.Bar = true
is_closer sort.Then = true
is_closer sort.Else = true
is_closer sort.Of = true
is_closer sort.Where = true
is_closer x = false

after_post_closes : (spot : Spot) (stands : Place) (frames : List Frame) (nodes : List ExprNode) (place : Place) (x : Sort) → is_closer x ≡ true → after_post spot stands frames nodes place x ≡ close (end_operand frames (begun_of spot) stands (end_post spot stands nodes)) x
after_post_closes spot stands frames nodes place sort.Close h = refl
after_post_closes spot stands frames nodes place sort.Comma h = refl
after_post_closes spot stands frames nodes place sort.Semicolon h = refl
after_post_closes spot stands frames nodes place sort.CloseSquare h = refl
after_post_closes spot stands frames nodes place sort.CloseBrace h = refl
after_post_closes spot stands frames nodes place sort.Bar h = refl
after_post_closes spot stands frames nodes place sort.Then h = refl
after_post_closes spot stands frames nodes place sort.Else h = refl
after_post_closes spot stands frames nodes place sort.Of h = refl
after_post_closes spot stands frames nodes place sort.Where h = refl
after_post_closes spot stands frames nodes place x h = absurd (cc)

closer_follow : (x : Sort) → is_closer x ≡ true → is_follow x ≡ false
closer_follow sort.Dot h = absurd (cc)
closer_follow sort.OpenSquare h = absurd (cc)
closer_follow x h = refl

closer_arrow : (x : Sort) → is_closer x ≡ true → is_arrow x ≡ false
closer_arrow sort.LeftArrow h = absurd (cc)
closer_arrow x h = refl

-- an expression is whole: a token that ends it
pub record Ends (now : Now) (frames : List Frame) (nodes : List ExprNode) (e : Ended) : Type 0 where
  pub plain : Plain now
  pub ends : ended_at now frames nodes ≡ Some e
  pub closes : (place : Place) (x : Sort) → is_closer x ≡ true → move_core now frames nodes place x ≡ close e x

pub applied_ends : {begun : Begun} {now : Now} {nodes out : List ExprNode} {stands : Place} → Applied begun now nodes stands out → (frames : List Frame) → Ends now frames nodes (end_operand frames begun stands out)
applied_ends (applied {spot = spot} {out = out} {stands = stands} posted) frames = record {
  plain = posted_plain posted;
  ends = posted_ends posted frames;
  closes = λ place x h. posted_moves posted frames place x (closer_follow x h) ∙ after_post_closes spot stands frames out place x h;
}

pub whole_ends : (begun : Begun) (stands : Place) (frames : List Frame) (nodes : List ExprNode) → Ends (now.Whole begun stands) frames nodes (end_operand frames begun stands nodes)
whole_ends begun stands frames nodes = record { plain = λ frames nodes pats t. refl; ends = refl; closes = λ place x h. refl }

-- what holds where this expression is whole
abbrev pub EndsHold : (State → List Token → Type 0) → Ended → List Token → Type 0
EndsHold Q e ts = (now : Now) (frames : List Frame) (nodes : List ExprNode) → Ends now frames nodes e → All Q (at frames now nodes) ts

-- a whole expression and a token that ends it
pub close_by : {Q : State → List Token → Type 0} {e : Ended} {core : Core} {t : Token} {ts : List Token} → Closed Q → (x : Sort) → sort_of t.kind ≡ x → is_closer x ≡ true → close e x ≡ Some core → All Q core ts → EndsHold Q e (t ∷ ts)
close_by {core = core} {t = t} k x h closer closes rest now frames nodes ends pats beside =
    then_all k (core_takes (at frames now nodes) core pats beside t x ends.plain h (closer_arrow x closer) (ends.closes t.place x closer ∙ closes)) rest

-- outside patterns, a token
pub go : {Q : State → List Token → Type 0} {now : Now} {frames : List Frame} {nodes : List ExprNode} {core : Core} {t : Token} {ts : List Token} → Closed Q → Plain now → (x : Sort) → sort_of t.kind ≡ x → is_arrow x ≡ false → move_core now frames nodes t.place x ≡ Some core → All Q core ts → All Q (at frames now nodes) (t ∷ ts)
go {now = now} {frames = frames} {nodes = nodes} {core = core} {t = t} k plain x h arrow moves rest pats beside =
    then_all k (core_takes (at frames now nodes) core pats beside t x plain h arrow moves) rest

-- the same with a token that no pattern has
pub close_alone : {Q : State → List Token → Type 0} {e : Ended} {core : Core} {t : Token} {ts : List Token} → Closed Q → (x : Sort) → sort_of t.kind ≡ x → pat_sort_of t.kind ≡ pat_sort.Other → is_closer x ≡ true → close e x ≡ Some core → Alone Q core ts → EndsHold Q e (t ∷ ts)
close_alone {core = core} {t = t} k x h other closer closes rest now frames nodes ends pats beside =
    then_alone k (core_takes (at frames now nodes) core pats beside t x ends.plain h (closer_arrow x closer) (ends.closes t.place x closer ∙ closes)) other rest

pub go_alone : {Q : State → List Token → Type 0} {now : Now} {frames : List Frame} {nodes : List ExprNode} {core : Core} {t : Token} {ts : List Token} → Closed Q → Plain now → (x : Sort) → sort_of t.kind ≡ x → pat_sort_of t.kind ≡ pat_sort.Other → is_arrow x ≡ false → move_core now frames nodes t.place x ≡ Some core → Alone Q core ts → All Q (at frames now nodes) (t ∷ ts)
go_alone {now = now} {frames = frames} {nodes = nodes} {core = core} {t = t} k plain x h other arrow moves rest pats beside =
    then_alone k (core_takes (at frames now nodes) core pats beside t x plain h arrow moves) other rest

-- what the first of these tokens leads to from this state
abbrev pub Starts : (Place → Sort → Option Core) → List Token → State → Type 0
Starts begins [] s = Unit {0}
Starts begins (t ∷ ts) s = (x : Sort) (core : Core) → sort_of t.kind ≡ x → begins t.place x ≡ Some core → Takes s t core

-- where an operand begins, a post begins
post_of_operand : (begun : Begun) (frames : List Frame) (nodes : List ExprNode) (place : Place) (x : Sort) (core : Core) → begin_post (Head begun) frames nodes place x ≡ Some core → begin_operand begun frames nodes place x ≡ Some core
post_of_operand begun frames nodes place sort.Backslash core h = absurd (cc)
post_of_operand begun frames nodes place sort.Let core h = absurd (cc)
post_of_operand begun frames nodes place sort.If core h = absurd (cc)
post_of_operand begun frames nodes place sort.Case core h = absurd (cc)
post_of_operand begun frames nodes place sort.Do core h = absurd (cc)
post_of_operand begun frames nodes place x core h = h

pub head_starts : (begun : Begun) (frames : List Frame) (nodes : List ExprNode) (ts : List Token) (s : State) → Starts (begin_operand begun frames nodes) ts s → Starts (begin_post (Head begun) frames nodes) ts s
head_starts begun frames nodes [] s starts = tt
head_starts begun frames nodes (t ∷ ts) s starts = λ x core h moves. starts x core h (post_of_operand begun frames nodes t.place x core moves)

begin_arrow : (begun : Begun) (frames : List Frame) (nodes : List ExprNode) (place : Place) (x : Sort) (core : Core) → begin_operand begun frames nodes place x ≡ Some core → is_arrow x ≡ false
begin_arrow begun frames nodes place sort.LeftArrow core h = absurd (cc)
begin_arrow begun frames nodes place x core h = refl

pub operand_starts : (begun : Begun) (frames : List Frame) (nodes : List ExprNode) (pats : PatReader) (beside : Bool) (ts : List Token) → Starts (begin_operand begun frames nodes) ts (state (at frames (now.Operand begun) nodes) pats beside)
operand_starts begun frames nodes pats beside [] = tt
operand_starts begun frames nodes pats beside (t ∷ ts) = λ x core h moves.
    core_takes (at frames (now.Operand begun) nodes) core pats beside t x (λ frames nodes pats t. refl) h (begin_arrow begun frames nodes t.place x core moves) moves

pub want_starts : (frames : List Frame) (nodes : List ExprNode) (pats : PatReader) (beside : Bool) (ts : List Token) → Starts (begin_operand (First (first_place ts)) frames nodes) ts (state (at frames now.Want nodes) pats beside)
want_starts frames nodes pats beside [] = tt
want_starts frames nodes pats beside (t ∷ ts) = λ x core h moves.
    core_takes (at frames now.Want nodes) core pats beside t x (λ frames nodes pats t. refl) h (begin_arrow (First t.place) frames nodes t.place x core moves) moves

opened_moves : (spot : Spot) (bracket : Place) (frames : List Frame) (nodes : List ExprNode) (place : Place) (x : Sort) (core : Core) → begin_operand (First place) (frame.Bracket spot bracket ∷ frames) nodes place x ≡ Some core → move_core (now.Opened spot bracket) frames nodes place x ≡ Some core
opened_moves spot bracket frames nodes place sort.Close core h = absurd (cc)
opened_moves spot bracket frames nodes place (sort.Operator name) core h = absurd (cc)
opened_moves spot bracket frames nodes place x core h = h

pub opened_starts : (spot : Spot) (bracket : Place) (frames : List Frame) (nodes : List ExprNode) (pats : PatReader) (beside : Bool) (ts : List Token) → Starts (begin_operand (First (first_place ts)) (frame.Bracket spot bracket ∷ frames) nodes) ts (state (at frames (now.Opened spot bracket) nodes) pats beside)
opened_starts spot bracket frames nodes pats beside [] = tt
opened_starts spot bracket frames nodes pats beside (t ∷ ts) = λ x core h moves.
    core_takes (at frames (now.Opened spot bracket) nodes) core pats beside t x (λ frames nodes pats t. refl) h (begin_arrow (First t.place) (frame.Bracket spot bracket ∷ frames) nodes t.place x core moves) (opened_moves spot bracket frames nodes t.place x core moves)

argument_moves : (begun : Begun) (spot : Spot) (stands : Place) (frames : List Frame) (out : List ExprNode) (place : Place) (x : Sort) (core : Core) → begin_post (Argument (begun_of spot)) frames (end_post spot stands out) place x ≡ Some core → after_post spot stands frames out place x ≡ Some core
argument_moves begun spot stands frames out place (sort.Variable name) core h = h
argument_moves begun spot stands frames out place (sort.Number k) core h = h
argument_moves begun spot stands frames out place (sort.Bits width k) core h = h
argument_moves begun spot stands frames out place (sort.Constructor name) core h = h
argument_moves begun spot stands frames out place sort.Open core h = h
argument_moves begun spot stands frames out place x core h = absurd (cc)

begin_follow : (spot : Spot) (frames : List Frame) (nodes : List ExprNode) (place : Place) (x : Sort) (core : Core) → begin_post spot frames nodes place x ≡ Some core → is_follow x ≡ false
begin_follow spot frames nodes place sort.Dot core h = absurd (cc)
begin_follow spot frames nodes place sort.OpenSquare core h = absurd (cc)
begin_follow spot frames nodes place x core h = refl

begin_post_arrow : (spot : Spot) (frames : List Frame) (nodes : List ExprNode) (place : Place) (x : Sort) (core : Core) → begin_post spot frames nodes place x ≡ Some core → is_arrow x ≡ false
begin_post_arrow spot frames nodes place sort.LeftArrow core h = absurd (cc)
begin_post_arrow spot frames nodes place x core h = refl

-- after an application a post is an argument
pub argument_starts : {begun : Begun} {now : Now} {nodes out : List ExprNode} {stands : Place} → Applied begun now nodes stands out → (frames : List Frame) (pats : PatReader) (beside : Bool) (ts : List Token) → Starts (begin_post (Argument begun) frames out) ts (state (at frames now nodes) pats beside)
argument_starts (applied whole) frames pats beside [] = tt
argument_starts (applied {spot = spot} {now = now} {nodes = nodes} {out = out} {stands = stands} whole) frames pats beside (t ∷ ts) = λ x core h moves.
    core_takes (at frames now nodes) core pats beside t x (posted_plain whole) h
    (begin_post_arrow (Argument (begun_of spot)) frames (end_post spot stands out) t.place x core moves)
    (posted_moves whole frames t.place x (begin_follow (Argument (begun_of spot)) frames (end_post spot stands out) t.place x core moves)
    ∙ argument_moves (begun_of spot) spot stands frames out t.place x core moves)
