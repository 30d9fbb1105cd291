-- An exact reader stops at the first wrong token: what it takes can be completed, and where it takes a token not, nothing
-- that it reads begins with the tokens up to this one.
use Rattle.std.proofs.Common.{◌≡◌, List, [], ◌∷◌, ◌++◌, Option, Some, None, refl, sym, subst, ◌∙◌}
use Rattle.hb_tokens.specs.declared.token.Token.{Token}
use Rattle.hb_grammar.specs.Reading.{Reader, Runs, stop, take, Reached, at_start, after, Exact}

-- these tokens lead from one state to another
pub data LeadsTo {State Value : Type 0} (reader : Reader State Value) : State → List Token → State → Type 0 where
  here : {s : State} → LeadsTo reader s [] s
  taken : {s r q : State} {t : Token} {ts : List Token} → reader.move s t ≡ Some r → LeadsTo reader r ts q → LeadsTo reader s (t ∷ ts) q

some_is : {A : Type 0} {a b : A} → Some a ≡ Some b → a ≡ b
some_is h = cc

none_is : {A : Type 0} {a : A} {o : Option A} → o ≡ None → o ≡ Some a → ⊥
none_is h g = absurd (cc)

leads_reached : {State Value : Type 0} {reader : Reader State Value} {s r : State} {ts : List Token} → LeadsTo reader s ts r → Reached reader s → Reached reader r
leads_reached here reached = reached
leads_reached (taken h l) reached = leads_reached l (after reached h)

pub leads_runs : {State Value : Type 0} {reader : Reader State Value} {s r : State} {pre ts us : List Token} {a : Value} → LeadsTo reader s pre r → Runs reader r ts a us → Runs reader s (pre ++ ts) a us
leads_runs here runs = runs
leads_runs (taken h l) runs = take h (leads_runs l runs)

-- all that is taken begins something that is read
pub taken_can_go_on : {State Value : Type 0} {reader : Reader State Value} {Reads : List Token → Value → List Token → Type 0} {s : State} {pre : List Token} → Exact reader Reads → LeadsTo reader reader.start pre s → (ts : List Token) × (a : Value) × Reads (pre ++ ts) a []
taken_can_go_on exact l =
    let live = exact.alive (leads_reached l at_start) in
    (live.0, live.1.0, exact.sound (leads_runs l live.1.1))

-- a run over these tokens ends before the one that is not taken
runs_end : {State Value : Type 0} {reader : Reader State Value} {s r : State} {pre ts us : List Token} {t : Token} {a : Value} → LeadsTo reader s pre r → reader.move r t ≡ None → Runs reader s (pre ++ t ∷ ts) a us → (vs : List Token) × (us ≡ vs ++ t ∷ ts)
runs_end here refused (stop h) = ([], refl)
runs_end here refused (take h runs) = absurd (none_is refused h)
runs_end (taken {t = x} {ts = pre} h l) refused (stop d) = (x ∷ pre, refl)
runs_end {reader = reader} {ts = ts} {us = us} {t = t} {a = a} (taken {ts = pre} h l) refused (take g runs) =
    runs_end l refused (subst (λ q. Runs reader q (pre ++ t ∷ ts) a us) (some_is (sym g ∙ h)) runs)

-- all that is read and begins with these tokens ends before the one that is not taken
pub refused_ends : {State Value : Type 0} {reader : Reader State Value} {Reads : List Token → Value → List Token → Type 0} {s : State} {pre ts us : List Token} {t : Token} {a : Value} → Exact reader Reads → LeadsTo reader reader.start pre s → reader.move s t ≡ None → Reads (pre ++ t ∷ ts) a us → (vs : List Token) × (us ≡ vs ++ t ∷ ts)
refused_ends exact l refused reads = runs_end l refused (exact.complete reads)
