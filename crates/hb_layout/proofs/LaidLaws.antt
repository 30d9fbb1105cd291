-- What is laid out, token by token.
use Rattle.std.proofs.Common.{◌≡◌, ℕ, Bool, List, [], ◌∷◌, ◌++◌, Option, Some, None, refl, sym, ap, ◌∙◌, append_assoc}
use Rattle.hb_base.specs.declared.place.Place.{Place}
use Rattle.hb_tokens.specs.declared.token.Token.{Token}
use Rattle.hb_layout.specs.declared.entry.Opener.{Opener}
use Rattle.hb_layout.specs.declared.entry.Opener.TheVariants.{Other}
use Rattle.hb_layout.specs.declared.role.Role.{Role}
use Rattle.hb_layout.specs.declared.draft.Draft.{Draft}
use Rattle.hb_layout.specs.Roles.{role_of, owed_after}
use Rattle.hb_layout.specs.Stacks.{Stack, open_count}
use Rattle.hb_layout.specs.Rules.{Move, moved}
use Rattle.hb_layout.specs.Laid.{Layout, given, unclosed, first_of, preceded, is_deep, deep_at, is_first, move_of, laid_after, laid, laid_out, inserted}
use Rattle.hb_layout.specs.Drafts.{drafted}

first_assoc : (a b c : Option Place) → first_of a (first_of b c) ≡ first_of (first_of a b) c
first_assoc None b c = refl
first_assoc (Some p) b c = refl

pub preceded_twice : (ts us : List Token) (d e : Option Place) (l : Layout) → preceded ts d (preceded us e l) ≡ preceded (ts ++ us) (first_of d e) l
preceded_twice ts us d e (given vs f) = rw (append_assoc, first_assoc d e f) refl
preceded_twice ts us d e (unclosed p) = refl

pub preceded_nothing : (l : Layout) → preceded [] None l ≡ l
preceded_nothing (given ts d) = refl
preceded_nothing (unclosed p) = refl

-- with the move that the draft shows
after_move : (ts : List Token) (d : Option Place) (owed : Option Opener) (s : Stack) (t : Token) (new : Draft) (m : Move) (rest : Stack → Layout) → drafted ts t.place m ≡ Some new → preceded ts d (laid_after owed s t m rest) ≡ preceded (new.given ++ t ∷ []) (first_of d (deep_at (is_deep owed (open_count s) (open_count new.stack)) t.place)) (rest new.stack)
after_move ts d owed s t new None rest e = absurd (cc)
after_move ts d owed s t new (Some m) rest e =
    let f : record { given = ts ++ inserted t.place m.0; stack = m.1 } ≡ new = cc in
    preceded_twice ts (inserted t.place m.0 ++ t ∷ []) d (deep_at (is_deep owed (open_count s) (open_count m.1)) t.place) (rest m.1)
    ∙ (ap (λ us. preceded us (first_of d (deep_at (is_deep owed (open_count s) (open_count m.1)) t.place)) (rest m.1)) (sym (append_assoc ts (inserted t.place m.0) (t ∷ [])))
    ∙ ap (λ (draft : Draft). preceded (draft.given ++ t ∷ []) (first_of d (deep_at (is_deep owed (open_count s) (open_count draft.stack)) t.place)) (rest draft.stack)) f)

never_moved : (ts : List Token) (d : Option Place) (owed : Option Opener) (s : Stack) (t : Token) (m : Move) (rest : Stack → Layout) → drafted ts t.place m ≡ None → preceded ts d (laid_after owed s t m rest) ≡ unclosed t.place
never_moved ts d owed s t None rest e = refl
never_moved ts d owed s t (Some m) rest e = absurd (cc)

pub token_refused : (ts : List Token) (d : Option Place) (owed : Option Opener) (line : ℕ) (s : Stack) (t : Token) (role : Role) (first : Bool) → role ≡ role_of t.kind → first ≡ is_first line t → drafted ts t.place (moved owed first t.place.col role s) ≡ None → (rest : List Token) → preceded ts d (laid owed line s (t ∷ rest)) ≡ unclosed t.place
unfolding laid
token_refused ts d owed line s t role first er ef e rest =
    let e' : drafted ts t.place (move_of owed line s t) ≡ None = ap (λ m. drafted ts t.place m) (rw (er, ef) refl) ∙ e in
    never_moved ts d owed s t (move_of owed line s t) (λ (after : Stack). laid (owed_after (role_of t.kind)) t.place.line after rest) e'

pub token_taken : (ts : List Token) (d : Option Place) (owed : Option Opener) (line : ℕ) (s : Stack) (t : Token) (role : Role) (first : Bool) (new : Draft) (us : List Token) (deep : Option Place) (next : Option Opener) → role ≡ role_of t.kind → first ≡ is_first line t → drafted ts t.place (moved owed first t.place.col role s) ≡ Some new → us ≡ new.given ++ t ∷ [] → deep ≡ first_of d (deep_at (is_deep owed (open_count s) (open_count new.stack)) t.place) → next ≡ owed_after role → (rest : List Token) → preceded ts d (laid owed line s (t ∷ rest)) ≡ preceded us deep (laid next t.place.line new.stack rest)
unfolding laid
token_taken ts d owed line s t role first new us deep next er ef e eu ed en rest =
    let e' : drafted ts t.place (move_of owed line s t) ≡ Some new = ap (λ m. drafted ts t.place m) (rw (er, ef) refl) ∙ e in
    rw (eu, ed, en, er) (after_move ts d owed s t new (move_of owed line s t) (λ (after : Stack). laid (owed_after (role_of t.kind)) t.place.line after rest) e')

pub laid_from_start : (ts : List Token) → laid (Some Other) 0 [] ts ≡ laid_out ts
unfolding laid_out
laid_from_start ts = refl
