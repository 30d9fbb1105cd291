-- How many tokens are given, and that the end comes last.
use Rattle.std.proofs.Common.{◌≡◌, ℕ, Bool, true, false, suc, ◌+◌, ◌*◌, ◌≤◌, ◌&&◌, not, List, [], ◌∷◌, ◌++◌, length, Option, Some, None, refl, sym, ap, subst, ◌∙◌, arith, append_assoc}
use Rattle.std.proofs.lemmas.List.{length-append, length-map}
use Rattle.hb_base.specs.declared.place.Place.{Place}
use Rattle.hb_base.specs.declared.refusal.Refusal.{Refusal}
use Rattle.hb_base.specs.declared.refusal.Fault.{Fault}
use Rattle.hb_base.specs.declared.refusal.Fault.TheVariants.{Refused, Memory}
use Rattle.hb_tokens.specs.declared.token.Token.{Token}
use Rattle.hb_layout.specs.declared.entry.Opener.{Opener}
use Rattle.hb_layout.specs.declared.entry.Opener.TheVariants.{Other}
use Rattle.hb_layout.specs.declared.progress.Progress.{Progress}
use Rattle.hb_layout.specs.Roles.{role_of, owed_after}
use Rattle.hb_layout.specs.Stacks.{Stack, open_count}
use Rattle.hb_layout.specs.Rules.{Move}
use Rattle.hb_layout.specs.Laid.{Layout, given, unclosed, first_of, preceded, is_deep, deep_at, is_first, move_of, laid_after, laid, laid_out, inserted, token_at}
use Rattle.hb_layout.specs.Drafts.{lays}
use Rattle.hb_tokens.specs.Ends.{ends_once, is_end_kind}
use Rattle.hb_base.specs.Faults.{IfRefused}
use Rattle.hb_layout.proofs.CountLaws.{implicits, owes, move_weight}

-- what is given for one token and for those after it
record Next (owed : Option Opener) (line : ℕ) (s : Stack) (t : Token) (ts us : List Token) : Type 0 where
  pub move : List ℕ × Stack
  pub rest : List Token
  pub deep : Option Place
  pub moves : move_of owed line s t ≡ Some move
  pub after : laid (owed_after (role_of t.kind)) t.place.line move.1 ts ≡ given rest deep
  pub tokens : us ≡ inserted t.place move.0 ++ t ∷ rest

record Parts (vs us : List Token) (l : Layout) : Type 0 where
  pub rest : List Token
  pub deep : Option Place
  pub after : l ≡ given rest deep
  pub tokens : us ≡ vs ++ rest

parts_of : (vs us : List Token) (d e : Option Place) (l : Layout) → preceded vs d l ≡ given us e → Parts vs us l
parts_of vs us d e (given ws f) h = record { rest = ws; deep = f; after = refl; tokens = cc }
parts_of vs us d e (unclosed p) h = absurd (cc)

next_by : (owed : Option Opener) (line : ℕ) (s : Stack) (t : Token) (ts us : List Token) (d : Option Place) (m : Move) → move_of owed line s t ≡ m → laid_after owed s t m (λ (after : Stack). laid (owed_after (role_of t.kind)) t.place.line after ts) ≡ given us d → Next owed line s t ts us
next_by owed line s t ts us d None e h = absurd (cc)
next_by owed line s t ts us d (Some m) e h =
    let p = parts_of (inserted t.place m.0 ++ t ∷ []) us (deep_at (is_deep owed (open_count s) (open_count m.1)) t.place) d (laid (owed_after (role_of t.kind)) t.place.line m.1 ts) h in
    record { move = m; rest = p.rest; deep = p.deep; moves = e; after = p.after; tokens = p.tokens ∙ append_assoc (inserted t.place m.0) (t ∷ []) p.rest }

next : (owed : Option Opener) (line : ℕ) (s : Stack) (t : Token) (ts us : List Token) (d : Option Place) → laid owed line s (t ∷ ts) ≡ given us d → Next owed line s t ts us
unfolding laid
next owed line s t ts us d h = next_by owed line s t ts us d (move_of owed line s t) refl h

nothing : (owed : Option Opener) (line : ℕ) (s : Stack) (us : List Token) (d : Option Place) → laid owed line s [] ≡ given us d → us ≡ []
unfolding laid
nothing owed line s us d h = cc

length_inserted : (place : Place) (marks : List ℕ) → length (inserted place marks) ≡ length marks
length_inserted place marks = length-map marks (token_at place)

few_after : (owed : Option Opener) (line : ℕ) (s : Stack) (ts us : List Token) (d : Option Place) → laid owed line s ts ≡ given us d → length us ≤ 4 * length ts + implicits s + owes owed
few_after owed line s [] us d h = rw (nothing owed line s us d h) (omega arith)
few_after owed line s (t ∷ ts) us d h =
    let n = next owed line s t ts us d h in
    let r : length n.rest ≤ 4 * length ts + implicits n.move.1 + owes (owed_after (role_of t.kind)) = few_after (owed_after (role_of t.kind)) t.place.line n.move.1 ts n.rest n.deep n.after in
    let w : length n.move.0 + implicits n.move.1 + owes (owed_after (role_of t.kind)) ≤ implicits s + owes owed + 3 = move_weight owed (is_first line t) t.place.col (role_of t.kind) s n.move n.moves in
    let e : length (inserted t.place n.move.0) ≡ length n.move.0 = length_inserted t.place n.move.0 in
    let f : length us ≡ length (inserted t.place n.move.0) + suc (length n.rest) = ap length n.tokens ∙ length-append (inserted t.place n.move.0) (t ∷ n.rest) in
    omega arith

-- at most four tokens for each, and two more
pub few : (ts us : List Token) (d : Option Place) → laid_out ts ≡ given us d → length us ≤ 4 * length ts + 2
unfolding laid_out
few ts us d h = let r : length us ≤ 4 * length ts + 0 + 2 = few_after (Some Other) 0 [] ts us d h in omega arith

-- marks before a list do not change where it ends
ends_later : (place : Place) (marks : List ℕ) (t : Token) (ts : List Token) → ends_once (inserted place marks ++ t ∷ ts) ≡ ends_once (t ∷ ts)
ends_later place [] t ts = refl
ends_later place (m ∷ []) t ts = refl
ends_later place (m ∷ n ∷ ms) t ts = ends_later place (n ∷ ms) t ts

ends_more : (t : Token) (ts : List Token) → is_end_kind t.kind ≡ false → ends_once ts ≡ true → ends_once (t ∷ ts) ≡ true
ends_more t [] e h = absurd (cc)
ends_more t (u ∷ ts) e h = rw (e, h) refl

and_left : (a b : Bool) → (a && b) ≡ true → a ≡ true
and_left true b h = refl
and_left false b h = h

and_right : (a b : Bool) → (a && b) ≡ true → b ≡ true
and_right true b h = h
and_right false b h = absurd (cc)

not_true : (a : Bool) → not a ≡ true → a ≡ false
not_true true h = sym h
not_true false h = refl

ends_after : (owed : Option Opener) (line : ℕ) (s : Stack) (ts us : List Token) (d : Option Place) → laid owed line s ts ≡ given us d → ends_once ts ≡ true → ends_once us ≡ true
ends_after owed line s [] us d h e = absurd (cc)
ends_after owed line s (t ∷ []) us d h e =
    let n = next owed line s t [] us d h in
    let r : n.rest ≡ [] = nothing (owed_after (role_of t.kind)) t.place.line n.move.1 n.rest n.deep n.after in
    rw (n.tokens, r) (ends_later t.place n.move.0 t [] ∙ e)
ends_after owed line s (t ∷ u ∷ ts) us d h e =
    let n = next owed line s t (u ∷ ts) us d h in
    let r : ends_once n.rest ≡ true = ends_after (owed_after (role_of t.kind)) t.place.line n.move.1 (u ∷ ts) n.rest n.deep n.after (and_right (not (is_end_kind t.kind)) (ends_once (u ∷ ts)) e) in
    rw n.tokens (ends_later t.place n.move.0 t n.rest ∙ ends_more t n.rest (not_true (is_end_kind t.kind) (and_left (not (is_end_kind t.kind)) (ends_once (u ∷ ts)) e)) r)

pub ends : (ts us : List Token) (d : Option Place) → laid_out ts ≡ given us d → ends_once ts ≡ true → ends_once us ≡ true
unfolding laid_out
ends ts us d h e = ends_after (Some Other) 0 [] ts us d h e

append_nil : (ts : List Token) → ts ++ [] ≡ ts
append_nil [] = refl
append_nil (t ∷ ts) = ap (λ us. t ∷ us) (append_nil ts)

first_of_none : (d : Option Place) → first_of d None ≡ d
first_of_none None = refl
first_of_none (Some p) = refl

-- where no token is left, what is laid out is what is given
pub lays_nothing : (p : Progress) → lays p [] ≡ given p.draft.given p.deep
unfolding laid
lays_nothing p = rw (append_nil p.draft.given, first_of_none p.deep) refl

pub if_refused : (P : Refusal → Type 0) (r : Refusal) (fault : Fault) → IfRefused (λ other. other ≡ r) fault → P r → IfRefused P fault
if_refused P r (Refused other) e h = subst P (sym e) h
if_refused P r Memory e h = tt
