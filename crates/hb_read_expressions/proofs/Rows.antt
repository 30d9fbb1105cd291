-- The left side of an equation, and operators: what the reader of expressions does with them.
use Rattle.std.proofs.Common.{◌≡◌, ℕ, Bool, true, false, List, [], ◌∷◌, ◌++◌, Some, None, refl, sym, ap, ◌∙◌, ◌⊎◌, inl, inr}
use Rattle.hb_base.specs.declared.name.Name.{Name}
use Rattle.hb_base.specs.declared.place.Place.{Place}
use Rattle.hb_tokens.specs.declared.token.Token.{Token}
use Rattle.hb_tokens.specs.declared.word.Word.TheVariants as word
use Rattle.hb_tree.specs.Patterns.{Pat, Pats}
use Rattle.hb_tree.specs.Patterns as tree
use Rattle.hb_grammar.specs.Tokens.{IsVar, IsOp, IsWord, IsOpen, first_place}
use Rattle.hb_grammar.specs.Patterns.{ReadsPat, ReadsApat, ReadsApats, pattern}
use Rattle.hb_grammar.specs.Patterns as patterns
use Rattle.hb_grammar.specs.Expressions.{pats_list, ReadsName, ReadsInfix, ReadsLeft, before as name_first, between}
use Rattle.hb_grammar.specs.Expressions.ReadsName.{var, op as op_name}
use Rattle.hb_grammar.specs.Expressions.ReadsInfix.{op, named}
use Rattle.hb_grammar.specs.Reading.{Reader, Runs, stop, take, Reached, at_start, after}
use Rattle.hb_read_patterns.specs.declared.node.PatNode.{PatNode}
use Rattle.hb_read_patterns.specs.declared.node.PatNode.TheVariants as pat_node
use Rattle.hb_read_patterns.specs.declared.reader.PatReader.{PatReader}
use Rattle.hb_read_patterns.specs.declared.head.Head.TheVariants as head
use Rattle.hb_read_patterns.specs.declared.reader.Last.TheVariants as pat_last
use Rattle.hb_read_patterns.specs.declared.sort.Sort.TheVariants as pat_sort
use Rattle.hb_read_patterns.specs.Sorts.{sort_of as pat_sort_of}
use Rattle.hb_read_patterns.specs.Nodes.{pat_nodes}
use Rattle.hb_read_patterns.specs.Moves.{apat_reader, moved as pat_move, done as pat_done, move_last, at_last}
use Rattle.hb_read_expressions.specs.declared.node.ExprNode.{ExprNode}
use Rattle.hb_read_expressions.specs.declared.node.ExprNode.TheVariants as node
use Rattle.hb_read_expressions.specs.declared.sort.Sort.{Sort}
use Rattle.hb_read_expressions.specs.declared.sort.Sort.TheVariants as sort
use Rattle.hb_read_expressions.specs.declared.frame.Begun.{Begun}
use Rattle.hb_read_expressions.specs.declared.frame.Frame.{Frame}
use Rattle.hb_read_expressions.specs.declared.frame.Frame.TheVariants as frame
use Rattle.hb_read_expressions.specs.declared.now.Purpose.{Purpose}
use Rattle.hb_read_expressions.specs.declared.now.Purpose.TheVariants.{ForRow, ForRight}
use Rattle.hb_read_expressions.specs.declared.now.Now.{Now}
use Rattle.hb_read_expressions.specs.declared.now.Now.TheVariants as now
use Rattle.hb_read_expressions.specs.Nodes.{put, wrapped, put_pat, put_pats, pats_from}
use Rattle.hb_read_expressions.specs.Sorts.{sort_of}
use Rattle.hb_read_expressions.specs.declared.state.Core.{Core}
use Rattle.hb_read_expressions.specs.declared.state.State.{State}
use Rattle.hb_read_expressions.specs.States.{at, state, one_more}
use Rattle.hb_read_expressions.specs.Outside.{move_core}
use Rattle.hb_read_expressions.specs.Inside.{move_bind_start, move_row_var, move_row_open, move_row_left, in_pattern, if_done, next_param, end_params, with_pats, row_infix}
use Rattle.hb_read_expressions.specs.Moves.{moved}
use Rattle.hb_read_expressions.proofs.Sorting.{Means, means, sort_var}
use Rattle.hb_read_expressions.proofs.PatStops.{other_stops, start_equals, not_start}
use Rattle.hb_read_expressions.proofs.Steps.{Closed, Takes, All, Alone, Plain, go, Applied, applied, posted_plain, posted_moves}
use Rattle.hb_read_expressions.proofs.Params.{PatLaws, none_some, runs_in, NextAt, Many, may_follow, one_param, params, params_end}

-- a token where no pattern is read beside
pub go_false : {Q : State → List Token → Type 0} {now : Now} {frames : List Frame} {nodes : List ExprNode} {core : Core} {t : Token} {ts : List Token} → Closed Q → Plain now → (x : Sort) → sort_of t.kind ≡ x → move_core now frames nodes t.place x ≡ Some core → Alone Q core ts → Alone Q (at frames now nodes) (t ∷ ts)
unfolding moved
go_false {now = now} {frames = frames} {nodes = nodes} {t = t} k plain x h moves rest pats =
    k.taken (plain frames nodes pats t ∙ ap (λ y. with_pats pats (move_core now frames nodes t.place y)) h ∙ ap (with_pats pats) moves) (rest pats)

-- an operator between operands
pub infix_goes : {Q : State → List Token → Type 0} {ts us : List Token} {place : Place} {name : Name} → Closed Q → ReadsInfix ts place name us → {begun : Begun} {current : Now} {nodes out : List ExprNode} {stands : Place} → Applied begun current nodes stands out → (frames : List Frame) → All Q (at frames (now.Operand (one_more begun)) (put out (node.Var place name))) us → All Q (at frames current nodes) ts
infix_goes k (op {t = t} {name = name} h) (applied whole) frames rest =
    go k (posted_plain whole) (sort.Operator name) (ap sort_of h) refl (posted_moves whole frames t.place (sort.Operator name) refl) rest
infix_goes k (named {t = t} {name = name} h m g) (applied whole) frames rest =
    go k (posted_plain whole) sort.Backquote (ap sort_of h) refl (posted_moves whole frames t.place sort.Backquote refl)
    (go k (λ frames nodes pats t. refl) (sort.Variable name) (sort_var m) refl refl
    (go k (λ frames nodes pats t. refl) sort.Backquote (ap sort_of g) refl refl rest))

pub start_param : (purpose : Purpose) (n : ℕ) (frames : List Frame) (nodes : List ExprNode) (pats r : PatReader) (t : Token) → pat_move apat_reader.start t ≡ Some r → moved (state (at frames (now.ParamStart purpose n) nodes) pats false) t ≡ Some (state (at frames (now.Param purpose n) nodes) r false)
unfolding moved
start_param purpose n frames nodes pats r t h = ap (λ o. in_pattern (at frames (now.Param purpose n) nodes) o None) h

-- after the left side of an equation, at its `=`
abbrev pub EqualsNext : Core → List Token → State → Type 0
EqualsNext core [] s = Unit {0}
EqualsNext core (t ∷ ts) s = IsWord word.Equals t → Takes s t core

pub for_row_many : (name : Name) (place : Place) (before : ℕ) → Many (ForRow name place before)
for_row_many name place before count frames nodes pats t = refl

pub row_equals : (name : Name) (place : Place) (count before : ℕ) (frames : List Frame) (nodes : List ExprNode) (ts : List Token) (s : State) → NextAt (ForRow name place before) count frames nodes ts s → EqualsNext (at (frame.Row name place count before ∷ frames) now.Want nodes) ts s
row_equals name place count before frames nodes [] s next = tt
row_equals name place count before frames nodes (t ∷ ts) s next = λ h.
    params_end (ForRow name place before) count frames nodes t ts (for_row_many name place before) next sort.Equals (ap sort_of h) refl (start_equals t (ap pat_sort_of h)) refl

pub right_equals : (name : Name) (place : Place) (count before : ℕ) (frames : List Frame) (nodes : List ExprNode) (ts : List Token) (s : State) → NextAt (ForRight name place before) count frames nodes ts s → EqualsNext (at (frame.Row name place count before ∷ frames) now.Want nodes) ts s
right_equals name place count before frames nodes [] s next = tt
right_equals name place count before frames nodes (t ∷ ts) s next = λ h.
    let p = next (ap (λ k. may_follow (sort_of k)) h) in
    record { pats = p.0; beside = false; alone = λ o. refl; moves = p.1 ∙ ap (λ y. with_pats p.0 (end_params (ForRight name place before) count frames nodes y)) (ap sort_of h) }

-- after a name that an equation begins with
pub var_next : (before : ℕ) (place : Place) (name : Name) (frames : List Frame) (nodes : List ExprNode) (pats : PatReader) (ts : List Token) → NextAt (ForRow name place before) 0 frames nodes ts (state (at frames (now.RowVar before place name) nodes) pats false)
unfolding moved
var_next before place name frames nodes pats [] = tt
var_next before place name frames nodes pats (t ∷ ts) = λ h. (pats, by_sort (sort_of t.kind) h) where
  by_sort : (x : Sort) → may_follow x ≡ true → move_row_var before place name frames nodes pats t x ≡ next_param (ForRow name place before) 0 frames nodes pats t
  by_sort (sort.Operator o) h = absurd (cc)
  by_sort sort.Backquote h = absurd (cc)
  by_sort x h = refl

pub name_next : (before : ℕ) (place : Place) (name : Name) (frames : List Frame) (nodes : List ExprNode) (pats : PatReader) (ts : List Token) → NextAt (ForRow name place before) 0 frames nodes ts (state (at frames (now.RowName before place name) nodes) pats false)
unfolding moved
name_next before place name frames nodes pats [] = tt
name_next before place name frames nodes pats (t ∷ ts) = λ h. (pats, refl)

bind_var : {name : Name} {t : Token} → IsVar name t → (before : ℕ) (frames : List Frame) (nodes : List ExprNode) (pats : PatReader) → moved (state (at frames (now.BindStart before) nodes) pats false) t ≡ Some (state (at frames (now.RowVar before t.place name) nodes) pats false)
unfolding moved
bind_var {t = t} h before frames nodes pats = ap (move_bind_start before frames nodes pats t) (sort_var h)

-- the reader of patterns after `(`
abbrev pub in_bracket : Place → PatReader
in_bracket place = at_last [] head.Single (pat_last.Opened place) []

pub start_open : (t : Token) → IsOpen t → pat_move apat_reader.start t ≡ Some (in_bracket t.place)
unfolding pat_move
start_open t h = ap (λ k. move_last pat_last.Wanted [] head.Single [] t.place (pat_sort_of k)) h

bind_open : (t : Token) → IsOpen t → (before : ℕ) (frames : List Frame) (nodes : List ExprNode) (pats : PatReader) → moved (state (at frames (now.BindStart before) nodes) pats false) t ≡ Some (state (at frames (now.RowOpen before t.place) nodes) (in_bracket t.place) false)
unfolding moved
bind_open t h before frames nodes pats =
    ap (λ k. move_bind_start before frames nodes pats t (sort_of k)) h ∙ ap (λ o. in_pattern (at frames (now.RowOpen before t.place) nodes) o None) (start_open t h)

pub open_op : (t : Token) {name : Name} → IsOp name t → (before : ℕ) (place : Place) (frames : List Frame) (nodes : List ExprNode) (pats : PatReader) → moved (state (at frames (now.RowOpen before place) nodes) pats false) t ≡ Some (state (at frames (now.RowOp before place name) nodes) pats false)
unfolding moved
open_op t h before place frames nodes pats = ap (λ k. move_row_open before place frames nodes pats t (sort_of k)) h

-- the name that an equation defines, and its parameters
row_name : {Q : State → List Token → Type 0} {ts us : List Token} {place : Place} {name : Name} → Closed Q → ReadsName ts place name us → (before : ℕ) (frames : List Frame) (nodes : List ExprNode) (pats : PatReader) → ((s : State) → NextAt (ForRow name (first_place ts) before) 0 frames nodes us s → Q s us) → Q (state (at frames (now.BindStart before) nodes) pats false) ts
row_name k (var {t = t} {us = us} {name = name} h) before frames nodes pats rest =
    k.taken (bind_var h before frames nodes pats) (rest (state (at frames (now.RowVar before t.place name) nodes) pats false) (var_next before t.place name frames nodes pats us))
row_name k (op_name {t = t} {s = s} {us = us} {name = name} h g c) before frames nodes pats rest =
    k.taken (bind_open t h before frames nodes pats)
    (k.taken (open_op s g before t.place frames nodes (in_bracket t.place))
    (go_false k (λ frames nodes pats t. refl) sort.Close (ap sort_of c) refl
    (λ p. rest (state (at frames (now.RowName before t.place name) nodes) p false) (name_next before t.place name frames nodes p us)) (in_bracket t.place)))

-- how a simple pattern begins that is no variable
abbrev pub begins_left : Sort → Bool
begins_left (sort.Number k) = true
begins_left (sort.Bits width k) = true
begins_left (sort.Constructor name) = true
begins_left sort.Other = true
begins_left x = false

pub data Begins : List Token → Pat → List Token → Type 0 where
  is_var : {t : Token} {us : List Token} {name : Name} → IsVar name t → Begins (t ∷ us) (pattern t.place (tree.Var name)) us
  is_open : {t : Token} {ts us : List Token} {p : Pat} → IsOpen t → Begins (t ∷ ts) p us
  is_left : {t : Token} {ts us : List Token} {p : Pat} → begins_left (sort_of t.kind) ≡ true → Begins (t ∷ ts) p us

pub apat_begins : {ts us : List Token} {p : Pat} → ReadsApat ts p us → Begins ts p us
apat_begins (patterns.var h) = is_var h
apat_begins (patterns.any h) = is_left (ap (λ k. begins_left (sort_of k)) h)
apat_begins (patterns.number h) = is_left (ap (λ k. begins_left (sort_of k)) h)
apat_begins (patterns.bits h) = is_left (ap (λ k. begins_left (sort_of k)) h)
apat_begins (patterns.con h) = is_left (ap (λ k. begins_left (sort_of k)) h)
apat_begins (patterns.unit h g) = is_open h
apat_begins (patterns.inside h p g) = is_open h
apat_begins (patterns.pair h p c q g) = is_open h
apat_begins (patterns.no_fields h g c) = is_left (ap (λ k. begins_left (sort_of k)) h)
apat_begins (patterns.fields h g fs c) = is_left (ap (λ k. begins_left (sort_of k)) h)

-- an operator after the left pattern, and the right pattern
pub right_side : {Q : State → List Token → Type 0} {ts us vs : List Token} {place : Place} {name : Name} {q : Pat} → PatLaws → Closed Q → (row : Place) (before : ℕ) (frames : List Frame) (nodes : List ExprNode) (s : State) → ReadsInfix ts place name us → ReadsApat us q vs → ((x : Sort) (core : Core) (t : Token) (ws : List Token) → ts ≡ t ∷ ws → sort_of t.kind ≡ x → pat_sort_of t.kind ≡ pat_sort.Other → row_infix before row frames nodes x ≡ Some core → (pats : PatReader) × (moved s t ≡ Some (state core pats false))) → ((r : State) → EqualsNext (at (frame.Row name row 2 before ∷ frames) now.Want (put_pat q nodes)) vs r → Q r vs) → Q s ts
right_side {vs = vs} {q = right} laws k row before frames nodes s (op {t = t} {us = us} {name = name} h) q moves rest =
    let m = moves (sort.Operator name) (at frames (now.ParamStart (ForRight name row before) 1) nodes) t us refl (ap sort_of h) (ap pat_sort_of h) refl in
    k.taken m.1 (one_param (ForRight name row before) 1 frames nodes (state (at frames (now.ParamStart (ForRight name row before) 1) nodes) m.0 false) laws k q
    (λ t r ws e follow g. start_param (ForRight name row before) 1 frames nodes m.0 r t g)
    (λ r next. rest r (right_equals name row 2 before frames (put_pat right nodes) vs r next)))
right_side {vs = vs} {q = right} laws k row before frames nodes s (named {t = t} {r = r} {us = us} {name = name} h g c) q moves rest =
    let m = moves sort.Backquote (at frames (now.RowQuote before row) nodes) t _ refl (ap sort_of h) (ap pat_sort_of h) refl in
    k.taken m.1 (go_false k (λ frames nodes pats t. refl) (sort.Variable name) (sort_var g) refl
    (go_false k (λ frames nodes pats t. refl) sort.Backquote (ap sort_of c) refl
    (λ p. one_param (ForRight name row before) 1 frames nodes (state (at frames (now.ParamStart (ForRight name row before) 1) nodes) p false) laws k q
    (λ t r ws e follow g. start_param (ForRight name row before) 1 frames nodes p r t g)
    (λ r next. rest r (right_equals name row 2 before frames (put_pat right nodes) vs r next)))) m.0)

var_infix : (before : ℕ) (place : Place) (name : Name) (frames : List Frame) (nodes : List ExprNode) (pats : PatReader) (t : Token) (x : Sort) (core : Core) → row_infix before place frames (put nodes (node.Pat (pat_node.Var place name))) x ≡ Some core → move_row_var before place name frames nodes pats t x ≡ Some (state core pats false)
var_infix before place name frames nodes pats t (sort.Operator o) core h = ap (with_pats pats) h
var_infix before place name frames nodes pats t sort.Backquote core h = ap (with_pats pats) h
var_infix before place name frames nodes pats t x core h = absurd (cc)

var_moves : (before : ℕ) (place : Place) (name : Name) (frames : List Frame) (nodes : List ExprNode) (pats : PatReader) (t : Token) (x : Sort) (core : Core) → sort_of t.kind ≡ x → row_infix before place frames (put nodes (node.Pat (pat_node.Var place name))) x ≡ Some core → moved (state (at frames (now.RowVar before place name) nodes) pats false) t ≡ Some (state core pats false)
unfolding moved
var_moves before place name frames nodes pats t x core e h = ap (move_row_var before place name frames nodes pats t) e ∙ var_infix before place name frames nodes pats t x core h

bind_left : (before : ℕ) (frames : List Frame) (nodes : List ExprNode) (pats r : PatReader) (t : Token) → begins_left (sort_of t.kind) ≡ true → pat_move apat_reader.start t ≡ Some r → moved (state (at frames (now.BindStart before) nodes) pats false) t ≡ Some (state (at frames (now.RowLeft before t.place) nodes) r false)
unfolding moved
bind_left before frames nodes pats r t h g = by_sort (sort_of t.kind) h ∙ ap (λ o. in_pattern (at frames (now.RowLeft before t.place) nodes) o None) g where
  by_sort : (x : Sort) → begins_left x ≡ true → move_bind_start before frames nodes pats t x ≡ in_pattern (at frames (now.RowLeft before t.place) nodes) (apat_reader.move apat_reader.start t) None
  by_sort (sort.Number k) h = refl
  by_sort (sort.Bits width k) h = refl
  by_sort (sort.Constructor name) h = refl
  by_sort sort.Other h = refl
  by_sort x h = absurd (cc)

pub left_inside : (before : ℕ) (place : Place) (frames : List Frame) (nodes : List ExprNode) (pats r : PatReader) (t : Token) → pat_move pats t ≡ Some r → moved (state (at frames (now.RowLeft before place) nodes) pats false) t ≡ Some (state (at frames (now.RowLeft before place) nodes) r false)
unfolding moved
left_inside before place frames nodes pats r t h = ap (λ o. in_pattern (at frames (now.RowLeft before place) nodes) o (if_done (pat_done pats) (λ pat_nodes. with_pats pats (row_infix before place frames (nodes ++ wrapped pat_nodes) (sort_of t.kind))))) h

pub left_moves : (before : ℕ) (place : Place) (frames : List Frame) (nodes : List ExprNode) (r : PatReader) {pat_nodes : List PatNode} (t : Token) (x : Sort) (core : Core) → pat_done r ≡ Some pat_nodes → sort_of t.kind ≡ x → pat_sort_of t.kind ≡ pat_sort.Other → row_infix before place frames (nodes ++ wrapped pat_nodes) x ≡ Some core → moved (state (at frames (now.RowLeft before place) nodes) r false) t ≡ Some (state core r false)
unfolding moved
left_moves before place frames nodes r {pat_nodes = pat_nodes} t x core d e other h =
    ap (λ o. in_pattern (at frames (now.RowLeft before place) nodes) o (if_done (pat_done r) (λ pat_nodes. with_pats r (row_infix before place frames (nodes ++ wrapped pat_nodes) (sort_of t.kind))))) (other_stops r t other)
    ∙ ap (λ o. if_done o (λ pat_nodes. with_pats r (row_infix before place frames (nodes ++ wrapped pat_nodes) (sort_of t.kind)))) d
    ∙ ap (λ y. with_pats r (row_infix before place frames (nodes ++ wrapped pat_nodes) y)) e
    ∙ ap (with_pats r) h

open_inside : (before : ℕ) (place : Place) (frames : List Frame) (nodes : List ExprNode) (pats r : PatReader) (t : Token) → pat_move pats t ≡ Some r → moved (state (at frames (now.RowOpen before place) nodes) pats false) t ≡ Some (state (at frames (now.RowLeft before place) nodes) r false)
unfolding moved
open_inside before place frames nodes pats r t h = by_sort (sort_of t.kind) (means t) ∙ ap (λ o. in_pattern (at frames (now.RowLeft before place) nodes) o (if_done (pat_done pats) (λ pat_nodes. with_pats pats (row_infix before place frames (nodes ++ wrapped pat_nodes) (sort_of t.kind))))) h where
  by_sort : (x : Sort) → Means x t → move_row_open before place frames nodes pats t x ≡ move_row_left before place frames nodes pats t
  by_sort (sort.Operator name) m = absurd (none_some (other_stops pats t (ap pat_sort_of m)) h)
  by_sort x m = refl

not_done : (place : Place) {nodes : List PatNode} → pat_done (in_bracket place) ≡ Some nodes → ⊥
unfolding pat_done
not_done place h = absurd (cc)

some_same : {A : Type 0} {a b : A} → Some a ≡ Some b → a ≡ b
some_same h = cc

-- the left pattern of an equation up to its operator
left_rest : {Q : State → List Token → Type 0} {ts us vs ws : List Token} {place : Place} {name : Name} {q : Pat} (p : Pat) → PatLaws → Closed Q → (row : Place) (before : ℕ) (frames : List Frame) (nodes : List ExprNode) (r : PatReader) → Runs apat_reader r ts (pat_nodes p) us → Reached apat_reader r → ReadsInfix us place name vs → ReadsApat vs q ws → ((s : State) → EqualsNext (at (frame.Row name row 2 before ∷ frames) now.Want (put_pat q (put_pat p nodes))) ws s → Q s ws) → Q (state (at frames (now.RowLeft before row) nodes) r false) ts
left_rest p laws k row before frames nodes r runs reached i q rest =
    runs_in k (left_inside before row frames nodes) runs reached
    (λ z reached d. right_side laws k row before frames (put_pat p nodes) (state (at frames (now.RowLeft before row) nodes) z false) i q
    (λ x core t ws e h other g. (z, left_moves before row frames nodes z t x core d h other g)) rest)

-- a run that is not at its end takes the first token
pub taken_first : {R : Reader PatReader (List PatNode)} {x : PatReader} {t : Token} {ts us : List Token} {nodes : List PatNode} → Runs R x (t ∷ ts) nodes us → (R.done x ≡ Some nodes) ⊎ ((r : PatReader) × (R.move x t ≡ Some r) × (Runs R r ts nodes us))
taken_first (stop h) = inl h
taken_first (take {r = r} h runs) = inr (r, h, runs)

-- the first move of a run
pub data first_move (R : Reader PatReader (List PatNode)) (x : PatReader) (nodes : List PatNode) (us : List Token) : List Token → Type 0 where
  first_taken : {t : Token} {r : PatReader} {ts : List Token} → R.move x t ≡ Some r → Runs R r ts nodes us → first_move R x nodes us (t ∷ ts)

pub first : {R : Reader PatReader (List PatNode)} {x : PatReader} {ts us : List Token} {nodes : List PatNode} → (R.done x ≡ Some nodes → ⊥) → Runs R x ts nodes us → first_move R x nodes us ts
first not (stop h) = absurd (not h)
first not (take h runs) = first_taken h runs

left_between : {Q : State → List Token → Type 0} {ts us vs ws : List Token} {place : Place} {name : Name} {p q : Pat} → PatLaws → Closed Q → (before : ℕ) (frames : List Frame) (nodes : List ExprNode) (pats : PatReader) → ReadsApat ts p us → Begins ts p us → ReadsInfix us place name vs → ReadsApat vs q ws → ((s : State) → EqualsNext (at (frame.Row name (first_place ts) 2 before ∷ frames) now.Want (put_pat q (put_pat p nodes))) ws s → Q s ws) → Q (state (at frames (now.BindStart before) nodes) pats false) ts
left_between laws k before frames nodes pats a (is_var {t = t} {us = us} {name = name} h) i q rest =
    k.taken (bind_var h before frames nodes pats)
    (right_side laws k t.place before frames (put nodes (node.Pat (pat_node.Var t.place name))) (state (at frames (now.RowVar before t.place name) nodes) pats false) i q
    (λ x core s ws e h other g. (pats, var_moves before t.place name frames nodes pats s x core h g)) rest)
left_between {Q = Q} {us = us} {p = p} laws k before frames nodes pats a (is_open {t = t} {ts = ts} h) i q rest =
    begun (taken_first (laws.apat.complete (record { pat = p; reads = a; is = refl }))) where
      second : {x : PatReader} {vs : List Token} → Runs apat_reader x vs (pat_nodes p) us → x ≡ in_bracket t.place → Reached apat_reader x → Q (state (at frames (now.RowOpen before t.place) nodes) (in_bracket t.place) false) vs
      second (stop d) e reached = absurd (not_done t.place (ap pat_done (sym e) ∙ d))
      second (take {s = x} {r = r} {t = s} g runs) e reached =
          k.taken (open_inside before t.place frames nodes (in_bracket t.place) r s (ap (λ y. pat_move y s) (sym e) ∙ g))
          (left_rest p laws k t.place before frames nodes r runs (after reached g) i q rest)

      begun : (pat_done apat_reader.start ≡ Some (pat_nodes p)) ⊎ ((r : PatReader) × (pat_move apat_reader.start t ≡ Some r) × (Runs apat_reader r ts (pat_nodes p) us)) → Q (state (at frames (now.BindStart before) nodes) pats false) (t ∷ ts)
      begun (inl d) = absurd (not_start d)
      begun (inr (r, g, runs)) = k.taken (bind_open t h before frames nodes pats) (second runs (some_same (sym g ∙ start_open t h)) (after at_start g))
left_between {Q = Q} {us = us} {p = p} laws k before frames nodes pats a (is_left {t = t} {ts = ts} h) i q rest =
    begun (taken_first (laws.apat.complete (record { pat = p; reads = a; is = refl }))) where
      begun : (pat_done apat_reader.start ≡ Some (pat_nodes p)) ⊎ ((r : PatReader) × (pat_move apat_reader.start t ≡ Some r) × (Runs apat_reader r ts (pat_nodes p) us)) → Q (state (at frames (now.BindStart before) nodes) pats false) (t ∷ ts)
      begun (inl d) = absurd (not_start d)
      begun (inr (r, g, runs)) = k.taken (bind_left before frames nodes pats r t h g) (left_rest p laws k t.place before frames nodes r runs (after at_start g) i q rest)

-- the left side of an equation
pub left : {Q : State → List Token → Type 0} {ts us : List Token} {name : Name} {ps : List Pat} → PatLaws → Closed Q → ReadsLeft ts name ps us → (before : ℕ) (frames : List Frame) (nodes : List ExprNode) (pats : PatReader) → ((s : State) → EqualsNext (at (frame.Row name (first_place ts) (pats_from 0 ps) before ∷ frames) now.Want (put_pats ps nodes)) us s → Q s us) → Q (state (at frames (now.BindStart before) nodes) pats false) ts
left laws k (name_first {ts = ts} {vs = vs} {name = name} {ps = ps} n apats) before frames nodes pats rest =
    row_name k n before frames nodes pats
    (λ s next. params laws k apats (ForRow name (first_place ts) before) (for_row_many name (first_place ts) before) 0 frames nodes s next
    (λ r last. rest r (row_equals name (first_place ts) (pats_from 0 (pats_list ps)) before frames (put_pats (pats_list ps) nodes) vs r last)))
left laws k (between p i q) before frames nodes pats rest = left_between laws k before frames nodes pats p (apat_begins p) i q rest
