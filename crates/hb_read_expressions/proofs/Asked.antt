-- What a reader looks at tells what it becomes.
use Rattle.std.proofs.Common.{◌≡◌, ℕ, zero, suc, Bool, true, false, List, [], ◌∷◌, ◌++◌, length, take, Option, Some, None, Result, Ok, Err, is_some, refl, sym, ap, subst, ◌∙◌, append_assoc}
use Rattle.std.proofs.Math.Seq.{take-append_seam, take-length}
use Rattle.hb_base.specs.declared.memory.Memory.{Memory}
use Rattle.hb_base.specs.declared.place.Place.{Place}
use Rattle.hb_read_expressions.specs.Taking.{Went, WentAlone}
use Rattle.hb_read_patterns.specs.declared.node.PatNode.{PatNode}
use Rattle.hb_read_patterns.specs.declared.frame.Due.{Due}
use Rattle.hb_read_patterns.specs.declared.reader.PatReader.{PatReader}
use Rattle.hb_read_patterns.specs.Heads.{put_node}
use Rattle.hb_read_patterns.specs.Moves.{put_due}
use Rattle.hb_read_expressions.specs.declared.node.ExprNode.{ExprNode}
use Rattle.hb_read_expressions.specs.declared.node.ExprNode.TheVariants as node
use Rattle.hb_read_expressions.specs.declared.sort.Sort.{Sort}
use Rattle.hb_read_expressions.specs.declared.state.Core.{Core}
use Rattle.hb_read_expressions.specs.declared.state.State.{State}
use Rattle.hb_read_expressions.specs.Exactly.{EndsBefore}
use Rattle.hb_read_expressions.proofs.Ending.{ends_before}
use Rattle.hb_read_expressions.specs.declared.sort.Sort.TheVariants as sort
use Rattle.hb_read_expressions.specs.declared.frame.Begun.{Begun}
use Rattle.hb_read_expressions.specs.declared.frame.Frame.{Frame}
use Rattle.hb_read_expressions.specs.declared.frame.Frame.TheVariants as frame
use Rattle.hb_read_expressions.specs.Nodes.{put, wrapped}
use Rattle.hb_read_expressions.specs.Ends.{Ended, settle, close, close_top, end_binds, row_next}
use Rattle.hb_read_expressions.specs.declared.now.Now.TheVariants as now
use Rattle.hb_read_expressions.specs.States.{at, state}
use Rattle.hb_read_expressions.specs.Inside.{with_pats, end_case}
use Rattle.hb_read_expressions.specs.Statements.{cut}
use Rattle.hb_read_expressions.specs.Moves.{outermost_end, end_nodes, done}
use Rattle.hb_read_expressions.specs.Asking.{put_pat_node, settled, ends_binds, row_ends, top_closes, is_outermost, in_statement}

is_none_of : {A : Type 0} (o : Option A) → is_some o ≡ false → o ≡ None
is_none_of None h = refl
is_none_of (Some a) h = absurd (cc)

is_some_of : {A : Type 0} {o : Option A} → is_some o ≡ true → o ≡ None → ⊥
is_some_of h n = absurd (cc)

-- what becomes something is not refused
pub went_on : {A : Type 0} (next : Option A) (old other new : A) (r : Result Bool Memory) → is_some next ≡ true → Went next other r new → Went next old r new
went_on next old other new (Ok true) h w = w
went_on next old other new (Ok false) h w = absurd (is_some_of h w.0)
went_on next old other new (Err e) h w = tt

settled_frames : (fs : List Frame) (first stands : Place) (nodes : List ExprNode) → (settle fs first stands nodes).frames ≡ settled fs
settled_frames [] first stands nodes = refl
settled_frames (frame.Lambda begun place n ∷ fs) first stands nodes = settled_frames fs _ _ _
settled_frames (frame.LetBody begun place n ∷ fs) first stands nodes = settled_frames fs _ _ _
settled_frames (frame.Else begun place ∷ fs) first stands nodes = settled_frames fs _ _ _
settled_frames (f ∷ fs) first stands nodes = refl

binds_end : (fs : List Frame) (n : ℕ) (nodes : List ExprNode) → is_some (end_binds fs n nodes) ≡ ends_binds fs
binds_end (frame.LetBinds begun place ∷ fs) n nodes = refl
binds_end (frame.Where name place k first m ∷ fs) n nodes = refl
binds_end (frame.Block ∷ fs) n nodes = refl
binds_end [] n nodes = refl
binds_end (f ∷ fs) n nodes = refl

row_is : (fs : List Frame) (n : ℕ) (nodes : List ExprNode) (x : Sort) → is_some (row_next fs n nodes x) ≡ row_ends fs x
row_is [] n nodes x = refl
row_is (f ∷ fs) n nodes sort.Semicolon = refl
row_is (f ∷ fs) n nodes sort.CloseBrace = binds_end (f ∷ fs) n nodes
row_is (f ∷ fs) n nodes x = refl

top_is : (fs : List Frame) (first stands : Place) (nodes : List ExprNode) (x : Sort) → is_some (close_top fs first stands nodes x) ≡ top_closes fs x
top_is [] first stands nodes x = refl
top_is (frame.Bracket spot place ∷ fs) first stands nodes sort.Close = refl
top_is (frame.Bracket spot place ∷ fs) first stands nodes sort.Comma = refl
top_is (frame.Bracket spot place ∷ fs) first stands nodes x = refl
top_is (frame.Second spot place ∷ fs) first stands nodes sort.Close = refl
top_is (frame.Second spot place ∷ fs) first stands nodes x = refl
top_is (frame.Field spot place target n p name ∷ fs) first stands nodes sort.Bar = refl
top_is (frame.Field spot place target n p name ∷ fs) first stands nodes sort.CloseSquare = refl
top_is (frame.Field spot place target n p name ∷ fs) first stands nodes x = refl
top_is (frame.If begun place ∷ fs) first stands nodes sort.Then = refl
top_is (frame.If begun place ∷ fs) first stands nodes x = refl
top_is (frame.Then begun place ∷ fs) first stands nodes sort.Else = refl
top_is (frame.Then begun place ∷ fs) first stands nodes x = refl
top_is (frame.Case begun place ∷ fs) first stands nodes sort.Of = refl
top_is (frame.Case begun place ∷ fs) first stands nodes x = refl
top_is (frame.Alternative begun place n ∷ fs) first stands nodes sort.Semicolon = refl
top_is (frame.Alternative begun place n ∷ fs) first stands nodes sort.CloseBrace = refl
top_is (frame.Alternative begun place n ∷ fs) first stands nodes x = refl
top_is (frame.Row name place n m ∷ fs) first stands nodes sort.Where = refl
top_is (frame.Row name place n m ∷ fs) first stands nodes sort.Semicolon = row_is fs _ _ sort.Semicolon
top_is (frame.Row name place n m ∷ fs) first stands nodes sort.CloseBrace = row_is fs _ _ sort.CloseBrace
top_is (frame.Row name place n m ∷ fs) first stands nodes x = refl
top_is (frame.Statement begun place n mark ∷ fs) first stands nodes sort.Semicolon = refl
top_is (frame.Statement begun place n mark ∷ fs) first stands nodes sort.CloseBrace = refl
top_is (frame.Statement begun place n mark ∷ fs) first stands nodes x = refl
top_is (frame.Taken begun place n ∷ fs) first stands nodes sort.Semicolon = refl
top_is (frame.Taken begun place n ∷ fs) first stands nodes x = refl
top_is (f ∷ fs) first stands nodes x = refl

closes_is : (fs : List Frame) (first stands : Place) (nodes : List ExprNode) (x : Sort) → is_some (close (settle fs first stands nodes) x) ≡ top_closes (settled fs) x
closes_is fs first stands nodes x = let e = settle fs first stands nodes in top_is e.frames e.first e.stands e.nodes x ∙ ap (λ f. top_closes f x) (settled_frames fs first stands nodes)

-- where no token of this sort comes after the expression, none is taken
pub closes_none : (fs : List Frame) (first stands : Place) (nodes : List ExprNode) (x : Sort) → top_closes (settled fs) x ≡ false → close (settle fs first stands nodes) x ≡ None
closes_none fs first stands nodes x h = is_none_of (close (settle fs first stands nodes) x) (closes_is fs first stands nodes x ∙ h)

-- where one comes, it is taken
pub closes_some : (fs : List Frame) (first stands : Place) (nodes : List ExprNode) (x : Sort) → top_closes (settled fs) x ≡ true → is_some (close (settle fs first stands nodes) x) ≡ true
closes_some fs first stands nodes x h = closes_is fs first stands nodes x ∙ h

-- the same where the forms are ended that are open to the right
pub went_settled : (fs : List Frame) (first stands : Place) (nodes : List ExprNode) (x : Sort) (old other new : Core) (r : Result Bool Memory) (e : Ended) → top_closes (settled fs) x ≡ true → settle fs first stands nodes ≡ e → Went (close e x) other r new → Went (close (settle fs first stands nodes) x) old r new
went_settled fs first stands nodes x old other new r e h s w =
    went_on (close (settle fs first stands nodes) x) old other new r (closes_some fs first stands nodes x h) (subst (λ d. Went (close d x) other r new) (sym s) w)

outermost_is : (fs : List Frame) (first : Place) (nodes : List ExprNode) → is_some (outermost_end fs first nodes) ≡ is_outermost fs
outermost_is [] first nodes = refl
outermost_is (frame.Row name place n m ∷ []) first nodes = refl
outermost_is (frame.Row name place n m ∷ f ∷ fs) first nodes = refl
outermost_is (f ∷ fs) first nodes = refl

-- the whole is read with its last expression
pub ends_is : (fs : List Frame) (first stands : Place) (nodes : List ExprNode) → is_some (end_nodes (Some (settle fs first stands nodes))) ≡ is_outermost (settled fs)
ends_is fs first stands nodes = let e = settle fs first stands nodes in outermost_is e.frames e.first e.nodes ∙ ap is_outermost (settled_frames fs first stands nodes)

-- a statement's head is there to go back to
pub cut_is : (fs : List Frame) (nodes : List ExprNode) → is_some (cut fs nodes) ≡ in_statement fs
cut_is [] nodes = refl
cut_is (frame.Statement begun place n mark ∷ fs) nodes = refl
cut_is (f ∷ fs) nodes = cut_is fs nodes

wrapped_put : (xs : List PatNode) (x : PatNode) → wrapped (xs ++ x ∷ []) ≡ put (wrapped xs) (node.Pat x)
wrapped_put [] x = refl
wrapped_put (y ∷ xs) x = ap (λ ns. node.Pat y ∷ ns) (wrapped_put xs x)

one_put : (o : Option PatNode) (xs : List PatNode) (out : List ExprNode) → put_pat_node o (out ++ wrapped xs) ≡ out ++ wrapped (put_node o xs)
one_put None xs out = refl
one_put (Some x) xs out = append_assoc out (wrapped xs) (node.Pat x ∷ []) ∙ ap (λ ns. out ++ ns) (sym (wrapped_put xs x))

-- the nodes of a pattern and those that are due come out together
pub due_put : (due : Due) (xs : List PatNode) (out : List ExprNode) → put_pat_node due.whole (put_pat_node due.simple (out ++ wrapped xs)) ≡ out ++ wrapped (put_due due xs)
due_put due xs out = ap (put_pat_node due.whole) (one_put due.simple xs out) ∙ one_put due.whole (put_node due.simple xs) out

-- what goes on alone is with the reader of patterns where it stands
pub went_with : (next : Option Core) (old new : Core) (pats : PatReader) (r : Result Bool Memory) → Went next old r new → WentAlone (with_pats pats next) old pats r new pats
went_with next old new pats (Ok true) w = ap (with_pats pats) w
went_with next old new pats (Ok false) w = (ap (with_pats pats) w.0, w.1, refl)
went_with next old new pats (Err e) w = tt

pub take_back : (xs ys : List ExprNode) → take (length xs) (xs ++ ys) ≡ xs
take_back = take-append_seam

pub take_whole : (xs : List ExprNode) → take (length xs) xs ≡ xs
take_whole = take-length

-- a `case` ends after some alternatives
pub case_ends : (begun : Begun) (place : Place) (n : ℕ) (fs : List Frame) (nodes : List ExprNode) → (n ≡ 0 → ⊥) → end_case begun place n fs nodes ≡ Some (at fs (now.Whole begun place) (put nodes (node.Case place n)))
case_ends begun place zero fs nodes h = absurd (h refl)
case_ends begun place (suc n) fs nodes h = refl

-- where no reader runs beside, a state goes as its parts
pub alone_goes : (next : Option State) (old new : State) (r : Result Bool Memory) → old.beside ≡ false → new.beside ≡ old.beside → WentAlone next old.core old.pats r new.core new.pats → Went next old r new
alone_goes next old new (Ok true) a b w = w ∙ ap (λ d. Some (state new.core new.pats d)) (sym (b ∙ a))
alone_goes next old new (Ok false) a b w = (w.0, ap (λ c. state c new.pats new.beside) w.1 ∙ ap (λ p. state old.core p new.beside) w.2 ∙ ap (state old.core old.pats) b)
alone_goes next old new (Err e) a b w = tt

-- where a whole is read, only a token is taken that goes on with it
pub done_ends : (s : State) → is_some (done s) ≡ true → EndsBefore s
done_ends s h = by_nodes (done s) refl h
  where
    by_nodes : (o : Option (List ExprNode)) → done s ≡ o → is_some o ≡ true → EndsBefore s
    by_nodes None e k = absurd (cc)
    by_nodes (Some nodes) e k = ends_before s nodes e
