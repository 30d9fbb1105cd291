-- A statement's head: the reader of patterns runs beside the reader of expressions, until only one goes on.
use Rattle.std.proofs.Common.{◌≡◌, ℕ, Bool, true, false, List, [], ◌∷◌, ◌++◌, length, Option, Some, None, refl, sym, ap, ◌∙◌}
use Rattle.std.specs.Prelude.{take}
use Rattle.hb_base.specs.declared.place.Place.{Place}
use Rattle.hb_tokens.specs.declared.token.Token.{Token}
use Rattle.hb_tokens.specs.declared.word.Word.TheVariants as word
use Rattle.hb_grammar.specs.Tokens.{IsWord}
use Rattle.hb_grammar.specs.Reading.{Runs, Reached, after}
use Rattle.hb_grammar.specs.Reading.Runs.{stop, take as taking}
use Rattle.hb_read_patterns.specs.declared.node.PatNode.{PatNode}
use Rattle.hb_read_patterns.specs.declared.reader.PatReader.{PatReader}
use Rattle.hb_read_patterns.specs.Sorts.{sort_of as pat_sort_of}
use Rattle.hb_read_patterns.specs.Moves.{pat_reader, moved as pat_move, done as pat_done}
use Rattle.hb_read_expressions.specs.declared.node.ExprNode.{ExprNode}
use Rattle.hb_read_expressions.specs.declared.node.ExprNode.TheVariants as node
use Rattle.hb_read_expressions.specs.declared.sort.Sort.{Sort}
use Rattle.hb_read_expressions.specs.declared.sort.Sort.TheVariants as sort
use Rattle.hb_read_expressions.specs.declared.frame.Begun.{Begun}
use Rattle.hb_read_expressions.specs.declared.frame.Begun.TheVariants.{First, After}
use Rattle.hb_read_expressions.specs.declared.frame.Spot.{Spot}
use Rattle.hb_read_expressions.specs.declared.frame.Spot.TheVariants.{Head, Argument}
use Rattle.hb_read_expressions.specs.declared.frame.Target.TheVariants.{Build, Update}
use Rattle.hb_read_expressions.specs.declared.frame.Frame.{Frame}
use Rattle.hb_read_expressions.specs.declared.frame.Frame.TheVariants as frame
use Rattle.hb_read_expressions.specs.declared.now.Now.{Now}
use Rattle.hb_read_expressions.specs.declared.now.Now.TheVariants as now
use Rattle.hb_read_expressions.specs.Nodes.{put, wrapped}
use Rattle.hb_read_expressions.specs.Sorts.{sort_of}
use Rattle.hb_read_expressions.specs.declared.state.Core.{Core}
use Rattle.hb_read_expressions.specs.declared.state.State.{State}
use Rattle.hb_read_expressions.specs.States.{at, state, end_run, begun_of, end_post}
use Rattle.hb_read_expressions.specs.Ends.{end_operand, settle, close, close_top}
use Rattle.hb_read_expressions.specs.Outside.{move_core, begin_post, begin_operand, after_post, or_else}
use Rattle.hb_read_expressions.specs.Inside.{stmt_arrow, if_done, with_pats, in_pattern}
use Rattle.hb_read_expressions.specs.Statements.{cut, both, move_both, arrow_at, pattern_alone}
use Rattle.hb_read_expressions.specs.Moves.{moved}
use Rattle.hb_read_expressions.proofs.Sorting.{Means, means}
use Rattle.hb_read_expressions.proofs.PatStops.{other_stops}
use Rattle.hb_read_expressions.proofs.Params.{none_some, runs_in}
use Rattle.hb_read_expressions.proofs.Steps.{Closed}
use Rattle.std.proofs.Math.Seq.{take-append_seam}
use Rattle.std.proofs.Common.{append-nil, append_assoc}

-- a statement's head: what is open around its `do`, and how far it is
pub record AHead : Type 0 where
  pub begun : Begun
  pub place : Place
  pub statements : ℕ
  pub frames : List Frame
  pub nodes : List ExprNode

-- these nodes and some more
pub data Extends (nodes : List ExprNode) : List ExprNode → Type 0 where
  same : Extends nodes nodes
  more : {out : List ExprNode} (n : ExprNode) → Extends nodes out → Extends nodes (put out n)

abbrev is_statement : Frame → Bool
is_statement (frame.Statement begun place n mark) = true
is_statement f = false

-- the statement whose head is read is the innermost one
pub data Above (begun : Begun) (place : Place) (n mark : ℕ) (frames : List Frame) : List Frame → Type 0 where
  head : Above begun place n mark frames (frame.Statement begun place n mark ∷ frames)
  inner : {f : Frame} {fs : List Frame} → is_statement f ≡ false → Above begun place n mark frames fs → Above begun place n mark frames (f ∷ fs)

-- in the head of a statement
pub record InHead (h : AHead) (frames : List Frame) (nodes : List ExprNode) : Type 0 where
  pub above : Above h.begun h.place h.statements (length h.nodes) h.frames frames
  pub extends : Extends h.nodes nodes

-- right at a statement's head
pub at_head : (begun : Begun) (place : Place) (n : ℕ) (frames : List Frame) (nodes : List ExprNode) → InHead (record { begun = begun; place = place; statements = n; frames = frames; nodes = nodes }) (frame.Statement begun place n (length nodes) ∷ frames) nodes
at_head begun place n frames nodes = record { above = head; extends = same }

abbrev pub InHeadAfter : AHead → Option Core → Type 0
InHeadAfter h None = Unit {0}
InHeadAfter h (Some core) = InHead h core.frames core.nodes

on : {h : AHead} {fs : List Frame} {nodes : List ExprNode} → (f : Frame) → is_statement f ≡ false → InHead h fs nodes → InHead h (f ∷ fs) nodes
on f not i = record { above = inner not i.above; extends = i.extends }

plus : {h : AHead} {fs : List Frame} {nodes : List ExprNode} → (n : ExprNode) → InHead h fs nodes → InHead h fs (put nodes n)
plus n i = record { above = i.above; extends = more n i.extends }

above_tail : {begun : Begun} {place : Place} {n mark : ℕ} {frames fs : List Frame} (f : Frame) → is_statement f ≡ false → Above begun place n mark frames (f ∷ fs) → Above begun place n mark frames fs
above_tail f not head = absurd (cc)
above_tail f not (inner e a) = a

off : {h : AHead} {fs : List Frame} {nodes : List ExprNode} → (f : Frame) → is_statement f ≡ false → InHead h (f ∷ fs) nodes → InHead h fs nodes
off f not i = record { above = above_tail f not i.above; extends = i.extends }

run_keeps : {h : AHead} {fs : List Frame} {nodes : List ExprNode} (begun : Begun) → InHead h fs nodes → InHead h fs (end_run begun nodes)
run_keeps (First place) i = i
run_keeps (After place n) i = plus (node.Run place n) i

post_keeps : {h : AHead} {fs : List Frame} {nodes : List ExprNode} (spot : Spot) (stands : Place) → InHead h fs nodes → InHead h fs (end_post spot stands nodes)
post_keeps (Head begun) stands i = i
post_keeps (Argument begun) stands i = plus (node.Apply stands) i

-- expressions that end with the one read are inside the statement
settle_keeps : {h : AHead} (fs : List Frame) (first stands : Place) (nodes : List ExprNode) → InHead h fs nodes → InHead h (settle fs first stands nodes).frames (settle fs first stands nodes).nodes
settle_keeps [] first stands nodes i = i
settle_keeps (frame.Lambda begun place n ∷ fs) first stands nodes i = settle_keeps fs _ _ _ (run_keeps begun (plus (node.Lambda place n) (off _ refl i)))
settle_keeps (frame.LetBody begun place n ∷ fs) first stands nodes i = settle_keeps fs _ _ _ (run_keeps begun (plus (node.Let place n) (off _ refl i)))
settle_keeps (frame.Else begun place ∷ fs) first stands nodes i = settle_keeps fs _ _ _ (run_keeps begun (plus (node.If place) (off _ refl i)))
settle_keeps (frame.Bracket spot place ∷ fs) first stands nodes i = i
settle_keeps (frame.Second spot place ∷ fs) first stands nodes i = i
settle_keeps (frame.Field spot place target n p m ∷ fs) first stands nodes i = i
settle_keeps (frame.LetBinds begun place ∷ fs) first stands nodes i = i
settle_keeps (frame.Block ∷ fs) first stands nodes i = i
settle_keeps (frame.If begun place ∷ fs) first stands nodes i = i
settle_keeps (frame.Then begun place ∷ fs) first stands nodes i = i
settle_keeps (frame.Case begun place ∷ fs) first stands nodes i = i
settle_keeps (frame.Alternative begun place n ∷ fs) first stands nodes i = i
settle_keeps (frame.Row name place n m ∷ fs) first stands nodes i = i
settle_keeps (frame.Where name place n f m ∷ fs) first stands nodes i = i
settle_keeps (frame.Statement begun place n mark ∷ fs) first stands nodes i = i
settle_keeps (frame.Taken begun place n ∷ fs) first stands nodes i = i

-- what a pattern may have
abbrev pub in_patterns : Sort → Bool
in_patterns (sort.Variable name) = true
in_patterns (sort.Number k) = true
in_patterns (sort.Bits width k) = true
in_patterns (sort.Constructor name) = true
in_patterns sort.Open = true
in_patterns sort.Close = true
in_patterns sort.Comma = true
in_patterns sort.OpenSquare = true
in_patterns sort.CloseSquare = true
in_patterns sort.Bar = true
in_patterns sort.Equals = true
in_patterns sort.Other = true
in_patterns x = false

close_keeps : {h : AHead} (fs : List Frame) (first stands : Place) (nodes : List ExprNode) (x : Sort) → in_patterns x ≡ true → InHead h fs nodes → InHeadAfter h (close_top fs first stands nodes x)
close_keeps [] first stands nodes x p i = tt
close_keeps (frame.Bracket spot place ∷ fs) first stands nodes sort.Close p i = off _ refl i
close_keeps (frame.Bracket spot place ∷ fs) first stands nodes sort.Comma p i = on (frame.Second spot place) refl (off _ refl i)
close_keeps (frame.Bracket spot place ∷ fs) first stands nodes x p i = tt
close_keeps (frame.Second spot place ∷ fs) first stands nodes sort.Close p i = plus _ (off _ refl i)
close_keeps (frame.Second spot place ∷ fs) first stands nodes x p i = tt
close_keeps (frame.Field spot place target n q m ∷ fs) first stands nodes sort.Bar p i = plus _ (off _ refl i)
close_keeps (frame.Field spot place target n q m ∷ fs) first stands nodes sort.CloseSquare p i = plus _ (plus _ (off _ refl i))
close_keeps (frame.Field spot place target n q m ∷ fs) first stands nodes x p i = tt
close_keeps (frame.Lambda begun place n ∷ fs) first stands nodes x p i = tt
close_keeps (frame.LetBody begun place n ∷ fs) first stands nodes x p i = tt
close_keeps (frame.Else begun place ∷ fs) first stands nodes x p i = tt
close_keeps (frame.LetBinds begun place ∷ fs) first stands nodes x p i = tt
close_keeps (frame.Block ∷ fs) first stands nodes x p i = tt
close_keeps (frame.If begun place ∷ fs) first stands nodes sort.Then p i = absurd (cc)
close_keeps (frame.If begun place ∷ fs) first stands nodes x p i = tt
close_keeps (frame.Then begun place ∷ fs) first stands nodes sort.Else p i = absurd (cc)
close_keeps (frame.Then begun place ∷ fs) first stands nodes x p i = tt
close_keeps (frame.Case begun place ∷ fs) first stands nodes sort.Of p i = absurd (cc)
close_keeps (frame.Case begun place ∷ fs) first stands nodes x p i = tt
close_keeps (frame.Alternative begun place n ∷ fs) first stands nodes sort.Semicolon p i = absurd (cc)
close_keeps (frame.Alternative begun place n ∷ fs) first stands nodes sort.CloseBrace p i = absurd (cc)
close_keeps (frame.Alternative begun place n ∷ fs) first stands nodes x p i = tt
close_keeps (frame.Row name place n m ∷ fs) first stands nodes sort.Where p i = absurd (cc)
close_keeps (frame.Row name place n m ∷ fs) first stands nodes sort.Semicolon p i = absurd (cc)
close_keeps (frame.Row name place n m ∷ fs) first stands nodes sort.CloseBrace p i = absurd (cc)
close_keeps (frame.Row name place n m ∷ fs) first stands nodes x p i = tt
close_keeps (frame.Where name place n f m ∷ fs) first stands nodes x p i = tt
close_keeps (frame.Statement begun place n mark ∷ fs) first stands nodes sort.Semicolon p i = absurd (cc)
close_keeps (frame.Statement begun place n mark ∷ fs) first stands nodes sort.CloseBrace p i = absurd (cc)
close_keeps (frame.Statement begun place n mark ∷ fs) first stands nodes x p i = tt
close_keeps (frame.Taken begun place n ∷ fs) first stands nodes sort.Semicolon p i = absurd (cc)
close_keeps (frame.Taken begun place n ∷ fs) first stands nodes x p i = tt

begin_keeps : {h : AHead} (spot : Spot) (fs : List Frame) (nodes : List ExprNode) (place : Place) (x : Sort) → InHead h fs nodes → InHeadAfter h (begin_post spot fs nodes place x)
begin_keeps spot fs nodes place (sort.Variable name) i = plus _ i
begin_keeps spot fs nodes place (sort.Number k) i = plus _ i
begin_keeps spot fs nodes place (sort.Bits width k) i = plus _ i
begin_keeps spot fs nodes place (sort.Constructor name) i = i
begin_keeps spot fs nodes place sort.Open i = i
begin_keeps spot fs nodes place x i = tt

operand_keeps : {h : AHead} (begun : Begun) (fs : List Frame) (nodes : List ExprNode) (place : Place) (x : Sort) → in_patterns x ≡ true → InHead h fs nodes → InHeadAfter h (begin_operand begun fs nodes place x)
operand_keeps begun fs nodes place sort.Backslash p i = absurd (cc)
operand_keeps begun fs nodes place sort.Let p i = absurd (cc)
operand_keeps begun fs nodes place sort.If p i = absurd (cc)
operand_keeps begun fs nodes place sort.Case p i = absurd (cc)
operand_keeps begun fs nodes place sort.Do p i = absurd (cc)
operand_keeps begun fs nodes place x p i = begin_keeps (Head begun) fs nodes place x i

or_else_keeps : (h : AHead) (a b : Option Core) → InHeadAfter h a → InHeadAfter h b → InHeadAfter h (or_else a b)
or_else_keeps h None b p q = q
or_else_keeps h (Some c) b p q = p

after_keeps : {h : AHead} (spot : Spot) (stands : Place) (fs : List Frame) (nodes : List ExprNode) (place : Place) (x : Sort) → in_patterns x ≡ true → InHead h fs nodes → InHeadAfter h (after_post spot stands fs nodes place x)
after_keeps spot stands fs nodes place (sort.Operator name) p i = absurd (cc)
after_keeps spot stands fs nodes place sort.Backquote p i = absurd (cc)
after_keeps {h = h} spot stands fs nodes place x p i =
    or_else_keeps h (begin_post (Argument (begun_of spot)) fs (end_post spot stands nodes) place x) (close (end_operand fs (begun_of spot) stands (end_post spot stands nodes)) x) (begin_keeps (Argument (begun_of spot)) fs (end_post spot stands nodes) place x (post_keeps spot stands i))
    (let e = end_operand fs (begun_of spot) stands (end_post spot stands nodes) in
    close_keeps e.frames e.first e.stands e.nodes x p (settle_keeps fs _ _ _ (run_keeps (begun_of spot) (post_keeps spot stands i))))

-- a token that a pattern may have leads to no other statement
pub core_keeps : {h : AHead} (current : Now) (fs : List Frame) (nodes : List ExprNode) (place : Place) (x : Sort) → in_patterns x ≡ true → InHead h fs nodes → InHeadAfter h (move_core current fs nodes place x)
core_keeps now.Want fs nodes place x p i = operand_keeps (First place) fs nodes place x p i
core_keeps (now.Operand begun) fs nodes place x p i = operand_keeps begun fs nodes place x p i
core_keeps (now.Post spot first stands) fs nodes place sort.Dot p i = absurd (cc)
core_keeps (now.Post spot first stands) fs nodes place sort.OpenSquare p i = i
core_keeps (now.Post spot first stands) fs nodes place x p i = after_keeps spot stands fs nodes place x p i
core_keeps (now.Con spot first name) fs nodes place sort.Dot p i = absurd (cc)
core_keeps (now.Con spot first name) fs nodes place sort.OpenSquare p i = i
core_keeps (now.Con spot first name) fs nodes place x p i = after_keeps spot first fs (put nodes (node.Con first name)) place x p (plus _ i)
core_keeps (now.Sealed spot stands) fs nodes place x p i = after_keeps spot stands fs nodes place x p i
core_keeps (now.Dotted spot first) fs nodes place (sort.Variable name) p i = plus _ i
core_keeps (now.Dotted spot first) fs nodes place x p i = tt
core_keeps (now.Opened spot bracket) fs nodes place sort.Close p i = plus _ i
core_keeps (now.Opened spot bracket) fs nodes place (sort.Operator name) p i = absurd (cc)
core_keeps (now.Opened spot bracket) fs nodes place x p i = operand_keeps (First place) (frame.Bracket spot bracket ∷ fs) nodes place x p (on _ refl i)
core_keeps (now.OpName spot bracket name) fs nodes place sort.Close p i = plus _ i
core_keeps (now.OpName spot bracket name) fs nodes place x p i = tt
core_keeps (now.Quoted begun) fs nodes place (sort.Variable name) p i = i
core_keeps (now.Quoted begun) fs nodes place x p i = tt
core_keeps (now.QuotedName begun q name) fs nodes place sort.Backquote p i = absurd (cc)
core_keeps (now.QuotedName begun q name) fs nodes place x p i = tt
core_keeps (now.FirstField spot first (Build con)) fs nodes place sort.CloseSquare p i = plus _ i
core_keeps (now.FirstField spot first (Build con)) fs nodes place (sort.Variable name) p i = i
core_keeps (now.FirstField spot first (Build con)) fs nodes place x p i = tt
core_keeps (now.FirstField spot first Update) fs nodes place (sort.Variable name) p i = i
core_keeps (now.FirstField spot first Update) fs nodes place x p i = tt
core_keeps (now.NextField spot first target n) fs nodes place (sort.Variable name) p i = i
core_keeps (now.NextField spot first target n) fs nodes place x p i = tt
core_keeps (now.FieldName spot first target n q name) fs nodes place sort.Equals p i = on _ refl i
core_keeps (now.FieldName spot first target n q name) fs nodes place x p i = tt
core_keeps (now.Whole begun stands) fs nodes place x p i =
    let e = end_operand fs begun stands nodes in close_keeps e.frames e.first e.stands e.nodes x p (settle_keeps fs _ _ _ (run_keeps begun i))
core_keeps now.BindsBrace fs nodes place sort.OpenBrace p i = absurd (cc)
core_keeps now.BindsBrace fs nodes place x p i = tt
core_keeps (now.RowOp n q name) fs nodes place sort.Close p i = i
core_keeps (now.RowOp n q name) fs nodes place x p i = tt
core_keeps (now.RowQuote n q) fs nodes place (sort.Variable name) p i = i
core_keeps (now.RowQuote n q) fs nodes place x p i = tt
core_keeps (now.RowQuoted n q name) fs nodes place sort.Backquote p i = absurd (cc)
core_keeps (now.RowQuoted n q name) fs nodes place x p i = tt
core_keeps (now.RowEnd n) [] nodes place x p i = tt
core_keeps (now.RowEnd n) (f ∷ fs) nodes place sort.Semicolon p i = absurd (cc)
core_keeps (now.RowEnd n) (f ∷ fs) nodes place sort.CloseBrace p i = absurd (cc)
core_keeps (now.RowEnd n) (f ∷ fs) nodes place x p i = tt
core_keeps (now.LetIn begun q n) fs nodes place sort.In p i = absurd (cc)
core_keeps (now.LetIn begun q n) fs nodes place sort.Semicolon p i = absurd (cc)
core_keeps (now.LetIn begun q n) fs nodes place x p i = tt
core_keeps (now.CaseBrace begun q) fs nodes place sort.OpenBrace p i = absurd (cc)
core_keeps (now.CaseBrace begun q) fs nodes place x p i = tt
core_keeps (now.DoBrace begun q) fs nodes place sort.OpenBrace p i = absurd (cc)
core_keeps (now.DoBrace begun q) fs nodes place x p i = tt
core_keeps current fs nodes place x p i = tt

take_extends : {a b : List ExprNode} → Extends a b → (c : List ExprNode) × (b ≡ a ++ c)
take_extends {a = a} same = ([], sym (append-nil a))
take_extends {a = a} (more n e) = let r = take_extends e in (r.0 ++ n ∷ [], ap (λ b. b ++ n ∷ []) r.1 ∙ append_assoc a r.0 (n ∷ []))

taken_back : {a b : List ExprNode} → Extends a b → take (length a) b ≡ a
taken_back {a = a} e = let r = take_extends e in ap (take (length a)) r.1 ∙ take-append_seam a r.0

abbrev pub head_core : AHead → Core
head_core h = at h.frames (now.StmtPat h.begun h.place h.statements) h.nodes

cut_above : {begun : Begun} {place : Place} {n mark : ℕ} {frames fs : List Frame} (nodes : List ExprNode) → Above begun place n mark frames fs → cut fs nodes ≡ Some (at frames (now.StmtPat begun place n) (take mark nodes))
cut_above nodes head = refl
cut_above nodes (inner {f = f} {fs = fs} e a) = cut_inner f fs nodes e ∙ cut_above nodes a where
  cut_inner : (f : Frame) (fs : List Frame) (nodes : List ExprNode) → is_statement f ≡ false → cut (f ∷ fs) nodes ≡ cut fs nodes
  cut_inner (frame.Statement begun place n mark) fs nodes e = absurd (cc)
  cut_inner f fs nodes e = refl

-- back at a statement's head there is what was there
pub head_cut : (h : AHead) (frames : List Frame) (nodes : List ExprNode) → InHead h frames nodes → cut frames nodes ≡ Some (head_core h)
head_cut h frames nodes i = cut_above nodes i.above ∙ ap (λ out. Some (at h.frames (now.StmtPat h.begun h.place h.statements) out)) (taken_back i.extends)

pub pat_has : (ps r : PatReader) (t : Token) (x : Sort) → Means x t → pat_move ps t ≡ Some r → in_patterns x ≡ true
pat_has ps r t (sort.Variable name) m g = refl
pat_has ps r t (sort.Number k) m g = refl
pat_has ps r t (sort.Bits width k) m g = refl
pat_has ps r t (sort.Constructor name) m g = refl
pat_has ps r t sort.Open m g = refl
pat_has ps r t sort.Close m g = refl
pat_has ps r t sort.Comma m g = refl
pat_has ps r t sort.OpenSquare m g = refl
pat_has ps r t sort.CloseSquare m g = refl
pat_has ps r t sort.Bar m g = refl
pat_has ps r t sort.Equals m g = refl
pat_has ps r t sort.Other m g = refl
pat_has ps r t x m g = absurd (none_some (other_stops ps t (ap pat_sort_of m)) g)

-- what a token leads to at a statement's head that the pattern has: the pattern goes on, alone or not
pub data Headed (h : AHead) (r : PatReader) : State → Type 0 where
  beside : {core : Core} → InHead h core.frames core.nodes → Headed h r (state core r true)
  alone : Headed h r (state (head_core h) r false)

pub headed : (h : AHead) (core : Core) (ps r : PatReader) (t : Token) (x : Sort) → Means x t → InHead h core.frames core.nodes → pat_move ps t ≡ Some r → (s : State) × (move_both core ps t x ≡ Some s) × (Headed h r s)
headed h core ps r t x m i g = by_core (move_core core.last core.frames core.nodes t.place x) (core_keeps core.last core.frames core.nodes t.place x (pat_has ps r t x m g) i) (both_is x (pat_has ps r t x m g)) where
  both_is : (x : Sort) → in_patterns x ≡ true → move_both core ps t x ≡ both core (move_core core.last core.frames core.nodes t.place x) ps (pat_reader.move ps t)
  both_is sort.LeftArrow e = absurd (cc)
  both_is x e = refl

  by_core : (o : Option Core) → InHeadAfter h o → move_both core ps t x ≡ both core o ps (pat_reader.move ps t) → (s : State) × (move_both core ps t x ≡ Some s) × (Headed h r s)
  by_core (Some next) keeps e = (state next r true, e ∙ ap (both core (Some next) ps) g, beside keeps)
  by_core None keeps e = (state (head_core h) r false, e ∙ ap (both core None ps) g ∙ ap (pattern_alone r) (head_cut h core.frames core.nodes i), alone)

stmt_inside : (h : AHead) (pats r : PatReader) (t : Token) → pat_move pats t ≡ Some r → moved (state (head_core h) pats false) t ≡ Some (state (head_core h) r false)
unfolding moved
stmt_inside h pats r t g = ap (λ o. in_pattern (head_core h) o (if_done (pat_done pats) (λ pat_nodes. with_pats pats (stmt_arrow h.begun h.place h.statements h.frames (h.nodes ++ wrapped pat_nodes) (sort_of t.kind))))) g

both_moves : (core : Core) (ps : PatReader) (t : Token) → moved (state core ps true) t ≡ move_both core ps t (sort_of t.kind)
unfolding moved
both_moves core ps t = refl

-- a statement's pattern, from its head on
pub headed_runs : {Q : State → List Token → Type 0} {ps : PatReader} {ts us : List Token} {nodes : List PatNode} → Closed Q → (h : AHead) → Runs pat_reader ps ts nodes us → Reached pat_reader ps → ((r : PatReader) (s : State) → pat_done r ≡ Some nodes → Headed h r s → Q s us) → (s : State) → Headed h ps s → Q s ts
headed_runs k h runs reached rest s alone = runs_in k (stmt_inside h) runs reached (λ r reached d. rest r (state (head_core h) r false) d alone)
headed_runs k h (stop {s = ps} d) reached rest s (beside {core = core} i) = rest ps (state core ps true) d (beside i)
headed_runs k h (taking {s = ps} {r = r} {t = t} g runs) reached rest s (beside {core = core} i) =
    let m = headed h core ps r t (sort_of t.kind) (means t) i g in
    k.taken (both_moves core ps t ∙ m.1) (headed_runs k h runs (after reached g) rest m.0 m.2)

-- the arrow after a statement's pattern
pub arrow_moves : (h : AHead) (r : PatReader) {nodes : List PatNode} (s : State) (t : Token) → IsWord word.LeftArrow t → pat_done r ≡ Some nodes → Headed h r s → moved s t ≡ Some (state (at (frame.Taken h.begun h.place h.statements ∷ h.frames) now.Want (h.nodes ++ wrapped nodes)) r false)
unfolding moved
arrow_moves h r {nodes = out} s t a d alone =
    ap (λ o. in_pattern (head_core h) o (if_done (pat_done r) (λ pat_nodes. with_pats r (stmt_arrow h.begun h.place h.statements h.frames (h.nodes ++ wrapped pat_nodes) (sort_of t.kind))))) (other_stops r t (ap pat_sort_of a))
    ∙ ap (λ o. if_done o (λ pat_nodes. with_pats r (stmt_arrow h.begun h.place h.statements h.frames (h.nodes ++ wrapped pat_nodes) (sort_of t.kind)))) d
    ∙ ap (λ kind. with_pats r (stmt_arrow h.begun h.place h.statements h.frames (h.nodes ++ wrapped out) (sort_of kind))) a
arrow_moves h r {nodes = out} s t a d (beside {core = core} i) =
    ap (λ kind. move_both core r t (sort_of kind)) a
    ∙ ap (λ c. arrow_at c r t) (head_cut h core.frames core.nodes i)
    ∙ ap (λ o. if_done o (λ pat_nodes. with_pats r (stmt_arrow h.begun h.place h.statements h.frames (h.nodes ++ wrapped pat_nodes) (sort_of t.kind)))) d
    ∙ ap (λ kind. with_pats r (stmt_arrow h.begun h.place h.statements h.frames (h.nodes ++ wrapped out) (sort_of kind))) a
