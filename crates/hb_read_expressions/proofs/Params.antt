-- Patterns inside expressions: what is asked of the readers of patterns, and how the reader of expressions runs them.
use Rattle.std.proofs.Common.{◌≡◌, ℕ, ◌+◌, Bool, true, false, List, [], ◌∷◌, ◌++◌, Option, Some, None, refl, sym, ap, subst, ◌∙◌}
use Rattle.hb_tokens.specs.declared.token.Token.{Token}
use Rattle.hb_tree.specs.Patterns.{Pat, Pats}
use Rattle.hb_grammar.specs.Tokens.{IsOpenSquare}
use Rattle.hb_grammar.specs.Patterns.{ReadsApat, ReadsApats, no_apat, apat_more}
use Rattle.hb_grammar.specs.Expressions.{pats_list}
use Rattle.hb_grammar.specs.Reading.{Reader, Runs, stop, take, Reached, at_start, after, Exact}
use Rattle.hb_read_patterns.specs.declared.node.PatNode.{PatNode}
use Rattle.hb_read_patterns.specs.declared.reader.PatReader.{PatReader}
use Rattle.hb_read_patterns.specs.Sorts.{sort_of as pat_sort_of}
use Rattle.hb_read_patterns.specs.Nodes.{pat_nodes}
use Rattle.hb_read_patterns.specs.Moves.{pat_reader, apat_reader, moved as pat_move, done as pat_done}
use Rattle.hb_read_patterns.specs.Exactly.{PatOf, ApatOf}
use Rattle.hb_read_expressions.specs.declared.node.ExprNode.{ExprNode}
use Rattle.hb_read_expressions.specs.declared.sort.Sort.{Sort}
use Rattle.hb_read_expressions.specs.declared.sort.Sort.TheVariants as sort
use Rattle.hb_read_expressions.specs.declared.frame.Frame.{Frame}
use Rattle.hb_read_expressions.specs.declared.now.Purpose.{Purpose}
use Rattle.hb_read_expressions.specs.declared.now.Now.TheVariants as now
use Rattle.hb_read_expressions.specs.Nodes.{wrapped, put_pat, put_pats, pats_from}
use Rattle.hb_read_expressions.specs.Sorts.{sort_of}
use Rattle.hb_read_expressions.specs.declared.state.Core.{Core}
use Rattle.hb_read_expressions.specs.declared.state.State.{State}
use Rattle.hb_read_expressions.specs.States.{at, state}
use Rattle.hb_read_expressions.specs.Inside.{in_pattern, if_done, next_param, end_params, with_pats}
use Rattle.hb_read_expressions.specs.Moves.{moved}
use Rattle.hb_read_expressions.proofs.Sorting.{Means, means}
use Rattle.hb_read_expressions.proofs.PatStops.{start_square, start_other, not_start}
use Rattle.hb_read_expressions.proofs.Steps.{Closed, Takes}

-- what is asked of the readers of patterns: they are exact, and a simple pattern that is whole goes on with `[` only
pub record PatLaws : Type 0 where
  pub pat : Exact pat_reader PatOf
  pub apat : Exact apat_reader ApatOf
  pub quiet : {s r : PatReader} (t : Token) {nodes : List PatNode} → Reached apat_reader s → pat_done s ≡ Some nodes → pat_move s t ≡ Some r → IsOpenSquare t

-- what may come after simple patterns
abbrev pub may_follow : Sort → Bool
may_follow sort.OpenSquare = false
may_follow (sort.Operator name) = false
may_follow sort.Backquote = false
may_follow x = true

pub none_some : {A : Type 0} {a : A} {o : Option A} → o ≡ None → o ≡ Some a → ⊥
none_some h g = absurd (cc)

first_follows : (t : Token) (x : Sort) → Means x t → {r : PatReader} → pat_move apat_reader.start t ≡ Some r → may_follow x ≡ true
first_follows t sort.OpenSquare m h = absurd (none_some (start_square t (ap pat_sort_of m)) h)
first_follows t (sort.Operator name) m h = absurd (none_some (start_other t (ap pat_sort_of m)) h)
first_follows t sort.Backquote m h = absurd (none_some (start_other t (ap pat_sort_of m)) h)
first_follows t x m h = refl

-- a whole run of a reader of patterns, where each of its moves is one of the reader of expressions
pub runs_in : {R : Reader PatReader (List PatNode)} {Q : State → List Token → Type 0} {core : Core} {ps : PatReader} {ts us : List Token} {nodes : List PatNode} → Closed Q → ((pats r : PatReader) (t : Token) → R.move pats t ≡ Some r → moved (state core pats false) t ≡ Some (state core r false)) → Runs R ps ts nodes us → Reached R ps → ((r : PatReader) → Reached R r → R.done r ≡ Some nodes → Q (state core r false) us) → Q (state core ps false) ts
runs_in k inside (stop {s = s} h) reached rest = rest s reached h
runs_in k inside (take {s = s} {r = r} {t = t} h runs) reached rest = k.taken (inside s r t h) (runs_in k inside runs (after reached h) rest)

pub param_inside : (purpose : Purpose) (before : ℕ) (frames : List Frame) (nodes : List ExprNode) (pats r : PatReader) (t : Token) → pat_move pats t ≡ Some r → moved (state (at frames (now.Param purpose before) nodes) pats false) t ≡ Some (state (at frames (now.Param purpose before) nodes) r false)
unfolding moved
param_inside purpose before frames nodes pats r t h = ap (λ o. in_pattern (at frames (now.Param purpose before) nodes) o (if_done (pat_done pats) (λ pat_nodes. next_param purpose (before + 1) frames (nodes ++ wrapped pat_nodes) pats t))) h

-- from this state so many simple patterns were read
abbrev pub NextAt : Purpose → ℕ → List Frame → List ExprNode → List Token → State → Type 0
NextAt purpose count frames nodes [] s = Unit {0}
NextAt purpose count frames nodes (t ∷ ts) s = may_follow (sort_of t.kind) ≡ true → (pats : PatReader) × (moved s t ≡ next_param purpose count frames nodes pats t)

-- one more simple pattern may come
abbrev pub Many : Purpose → Type 0
Many purpose = (count : ℕ) (frames : List Frame) (nodes : List ExprNode) (pats : PatReader) (t : Token) → next_param purpose count frames nodes pats t ≡ in_pattern (at frames (now.Param purpose count) nodes) (apat_reader.move apat_reader.start t) (with_pats pats (end_params purpose count frames nodes (sort_of t.kind)))

not_square : (t : Token) → IsOpenSquare t → may_follow (sort_of t.kind) ≡ true → ⊥
not_square t square h = let e : may_follow (sort_of t.kind) ≡ false = ap (λ k. may_follow (sort_of k)) square in absurd (cc)

quiet_none : (laws : PatLaws) (t : Token) {s : PatReader} {nodes : List PatNode} → Reached apat_reader s → pat_done s ≡ Some nodes → may_follow (sort_of t.kind) ≡ true → pat_move s t ≡ None
quiet_none laws t {s = s} reached d h = decide (pat_move s t) refl where
  decide : (o : Option PatReader) → pat_move s t ≡ o → o ≡ None
  decide None e = refl
  decide (Some r) e = absurd (not_square t (laws.quiet t reached d e) h)

-- after a simple pattern that is whole
pub param_next : (laws : PatLaws) (purpose : Purpose) (before : ℕ) (frames : List Frame) (nodes : List ExprNode) (r : PatReader) {pat_nodes : List PatNode} (ts : List Token) → Reached apat_reader r → pat_done r ≡ Some pat_nodes → NextAt purpose (before + 1) frames (nodes ++ wrapped pat_nodes) ts (state (at frames (now.Param purpose before) nodes) r false)
unfolding moved
param_next laws purpose before frames nodes r [] reached d = tt
param_next laws purpose before frames nodes r (t ∷ ts) reached d = λ h. (
  r,
  ap (λ o. in_pattern (at frames (now.Param purpose before) nodes) o (if_done (pat_done r) (λ pat_nodes. next_param purpose (before + 1) frames (nodes ++ wrapped pat_nodes) r t))) (quiet_none laws t reached d h)
      ∙ ap (λ o. if_done o (λ pat_nodes. next_param purpose (before + 1) frames (nodes ++ wrapped pat_nodes) r t)) d,
)

-- a simple pattern begins and ends
pub one_param : {Q : State → List Token → Type 0} {p : Pat} {ts us : List Token} → (purpose : Purpose) (count : ℕ) (frames : List Frame) (nodes : List ExprNode) (s : State) (laws : PatLaws) → Closed Q → ReadsApat ts p us → ((t : Token) (r : PatReader) (vs : List Token) → ts ≡ t ∷ vs → may_follow (sort_of t.kind) ≡ true → pat_move apat_reader.start t ≡ Some r → moved s t ≡ Some (state (at frames (now.Param purpose count) nodes) r false)) → ((r : State) → NextAt purpose (count + 1) frames (put_pat p nodes) us r → Q r us) → Q s ts
one_param {Q = Q} {p = p} {us = us} purpose count frames nodes s laws k a begins rest =
    let whole = laws.apat.complete (record { pat = p; reads = a; is = refl }) in run whole refl begins where
      run : {x : PatReader} {vs : List Token} → Runs apat_reader x vs (pat_nodes p) us → x ≡ apat_reader.start → ((t : Token) (r : PatReader) (ws : List Token) → vs ≡ t ∷ ws → may_follow (sort_of t.kind) ≡ true → pat_move apat_reader.start t ≡ Some r → moved s t ≡ Some (state (at frames (now.Param purpose count) nodes) r false)) → Q s vs
      run (stop {s = x} h) e b = absurd (not_start (ap pat_done (sym e) ∙ h))
      run (take {s = x} {r = r} {t = t} {ts = ws} h runs) e b =
          let g : pat_move apat_reader.start t ≡ Some r = ap (λ y. pat_move y t) (sym e) ∙ h in
          k.taken (b t r ws refl (first_follows t (sort_of t.kind) (means t) g) g)
          (runs_in k (param_inside purpose count frames nodes) runs (after at_start g) (λ z reached d. rest (state (at frames (now.Param purpose count) nodes) z false) (param_next laws purpose count frames nodes z us reached d)))

-- any number of simple patterns
pub params : {Q : State → List Token → Type 0} {ps : Pats} {ts us : List Token} → (laws : PatLaws) → Closed Q → ReadsApats ts ps us → (purpose : Purpose) → Many purpose → (count : ℕ) (frames : List Frame) (nodes : List ExprNode) (s : State) → NextAt purpose count frames nodes ts s → ((r : State) → NextAt purpose (pats_from count (pats_list ps)) frames (put_pats (pats_list ps) nodes) us r → Q r us) → Q s ts
params laws k no_apat purpose many count frames nodes s starts rest = rest s starts
params laws k (apat_more {p = p} a more) purpose many count frames nodes s starts rest =
    one_param purpose count frames nodes s laws k a (begins starts)
    (λ r next. params laws k more purpose many (count + 1) frames (put_pat p nodes) r next rest) where
      begins : {vs : List Token} → NextAt purpose count frames nodes vs s → (t : Token) (r : PatReader) (ws : List Token) → vs ≡ t ∷ ws → may_follow (sort_of t.kind) ≡ true → pat_move apat_reader.start t ≡ Some r → moved s t ≡ Some (state (at frames (now.Param purpose count) nodes) r false)
      begins {vs = vs} start t r ws e follow h =
          let here : NextAt purpose count frames nodes (t ∷ ws) s = subst (λ v. NextAt purpose count frames nodes v s) e start in
          let p = here follow in
          p.1 ∙ many count frames nodes p.0 t ∙ ap (λ o. in_pattern (at frames (now.Param purpose count) nodes) o (with_pats p.0 (end_params purpose count frames nodes (sort_of t.kind)))) h

-- the token after simple patterns
pub params_end : (purpose : Purpose) (count : ℕ) (frames : List Frame) (nodes : List ExprNode) (t : Token) (ts : List Token) {s : State} {core : Core} → Many purpose → NextAt purpose count frames nodes (t ∷ ts) s → (x : Sort) → sort_of t.kind ≡ x → may_follow x ≡ true → pat_move apat_reader.start t ≡ None → end_params purpose count frames nodes x ≡ Some core → Takes s t core
params_end purpose count frames nodes t ts many next x h follow none ends =
    let p = next (ap may_follow h ∙ follow) in
    record {
      pats = p.0;
      beside = false;
      alone = λ o. refl;
      moves = p.1 ∙ many count frames nodes p.0 t
          ∙ ap (λ o. in_pattern (at frames (now.Param purpose count) nodes) o (with_pats p.0 (end_params purpose count frames nodes (sort_of t.kind)))) none
          ∙ ap (λ y. with_pats p.0 (end_params purpose count frames nodes y)) h
          ∙ ap (with_pats p.0) ends;
    }
