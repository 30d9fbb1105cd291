-- A reader whose states and values are another one's in other words reads the same.
use Rattle.std.proofs.Common.{◌≡◌, List, [], ◌∷◌, Option, Some, None, refl, sym, ap, subst, ◌∙◌}
use Rattle.hb_tokens.specs.declared.token.Token.{Token}
use Rattle.hb_grammar.specs.Reading.{Reader, Runs, stop, take, Reached, at_start, after, Exact}

abbrev pub image : {A B : Type 0} → (A → B) → Option A → Option B
image f None = None
image f (Some a) = Some (f a)

-- the states s of the one are the states `state s` of the other, and its values v are `value v`
pub record Same {S V T W : Type 0} (a : Reader S V) (b : Reader T W) (state : S → T) (value : V → W) : Type 0 where
  pub start : b.start ≡ state a.start
  pub move : (s : S) (t : Token) → b.move (state s) t ≡ image state (a.move s t)
  pub done : (s : S) → b.done (state s) ≡ image value (a.done s)

some_is : {A : Type 0} {a b : A} → Some a ≡ Some b → a ≡ b
some_is e = cc

pub data From {A B : Type 0} (f : A → B) (o : Option A) (b : B) : Type 0 where
  from : (a : A) → o ≡ Some a → f a ≡ b → From f o b

pub image_from : {A B : Type 0} (f : A → B) {b : B} → (o : Option A) → image f o ≡ Some b → From f o b
image_from f None e = cc
image_from f (Some a) e = from a refl (some_is e)

pub same_run : {S V T W : Type 0} {a : Reader S V} {b : Reader T W} {state : S → T} {value : V → W} {s : S} {ts us : List Token} {v : V} → Same a b state value → Runs a s ts v us → Runs b (state s) ts (value v) us
same_run {value} k (stop {s} e) = stop (k.done s ∙ ap (image value) e)
same_run {state} k (take {s} {r} {t} e h) = take {r = state r} (k.move s t ∙ ap (image state) e) (same_run k h)

pub data RunOf {S V W : Type 0} (a : Reader S V) (value : V → W) (s : S) (ts : List Token) (w : W) (us : List Token) : Type 0 where
  run_of : (v : V) → Runs a s ts v us → value v ≡ w → RunOf a value s ts w us

stopped : {S V W : Type 0} {a : Reader S V} {value : V → W} {s : S} {ts : List Token} {w : W} → From value (a.done s) w → RunOf a value s ts w ts
stopped (from v e d) = run_of v (stop e) d

taken : {S V W : Type 0} {a : Reader S V} {value : V → W} {s r : S} {t : Token} {ts us : List Token} {w : W} → a.move s t ≡ Some r → RunOf a value r ts w us → RunOf a value s (t ∷ ts) w us
taken e (run_of v h d) = run_of v (take e h) d

back : {S V T W : Type 0} {a : Reader S V} {b : Reader T W} {state : S → T} {value : V → W} {q : T} {ts us : List Token} {w : W} → Same a b state value → (s : S) → q ≡ state s → Runs b q ts w us → RunOf a value s ts w us
back {a} {b} {value} k s i (stop e) = stopped (image_from value (a.done s) (sym (k.done s) ∙ (ap b.done (sym i) ∙ e)))
back {S} {a} {b} {state} {value} {w} k s i (take {r} {t} {ts} {us} e h) = by_from (image_from state (a.move s t) (sym (k.move s t) ∙ (ap (λ q. b.move q t) (sym i) ∙ e))) (λ x j. back k x j h)
  where
    by_from : From state (a.move s t) r → ((x : S) → r ≡ state x → RunOf a value x ts w us) → RunOf a value s (t ∷ ts) w us
    by_from (from x d j) g = taken d (g x (sym j))

pub same_back : {S V T W : Type 0} {a : Reader S V} {b : Reader T W} {state : S → T} {value : V → W} {s : S} {ts us : List Token} {w : W} → Same a b state value → Runs b (state s) ts w us → RunOf a value s ts w us
same_back {s} k h = back k s refl h

pub data ReachedOf {S V T : Type 0} (a : Reader S V) (state : S → T) (q : T) : Type 0 where
  reached_of : (s : S) → Reached a s → state s ≡ q → ReachedOf a state q

-- the states that the other reaches are those that the one reaches
pub same_reached : {S V T W : Type 0} {a : Reader S V} {b : Reader T W} {state : S → T} {value : V → W} {q : T} → Same a b state value → Reached b q → ReachedOf a state q
same_reached {a} k at_start = reached_of a.start at_start (sym k.start)
same_reached {S} {T} {a} {b} {state} k (after {s = p} {r = q} {t} h e) = on (same_reached k h)
  where
    step : (s : S) → Reached a s → From state (a.move s t) q → ReachedOf a state q
    step s g (from x d j) = reached_of x (after g d) j

    on : ReachedOf a state p → ReachedOf a state q
    on (reached_of s g i) = step s g (image_from state (a.move s t) (sym (k.move s t) ∙ (ap (λ q. b.move q t) i ∙ e)))

-- where the states of the one are those of the other, and the values are the same, what the other reads the one reads
pub reached_on : {S V T W : Type 0} {a : Reader S V} {b : Reader T W} {state : S → T} {value : V → W} {s : S} → Same a b state value → Reached a s → Reached b (state s)
reached_on {b} k at_start = subst (Reached b) k.start at_start
reached_on {state} k (after {s} {r} {t} h e) = after (reached_on k h) (k.move s t ∙ ap (image state) e)

abbrev id : {A : Type 0} → A → A
id a = a

same_value : {S V : Type 0} {a : Reader S V} {s : S} {ts us : List Token} {v : V} → RunOf a id s ts v us → Runs a s ts v us
same_value {a} {s} {ts} {us} (run_of v h d) = subst (λ v. Runs a s ts v us) d h

pub exact_through : {S T V : Type 0} {a : Reader S V} {b : Reader T V} {state : S → T} {Reads : List Token → V → List Token → Type 0} → Same a b state (λ v. v) → Exact b Reads → Exact a Reads
exact_through {S} {T} {V} {a} {b} {state} {Reads} k exact = record {
  sound = λ {ts} {us} {a = v} h. exact.sound (subst (λ q. Runs b q ts v us) (sym k.start) (same_run k h));
  complete = λ {ts} {us} {a = v} h. same_value (same_back k (subst (λ q. Runs b q ts v us) k.start (exact.complete h)));
  alive = λ {s} h. ended s (exact.alive (reached_on k h));
}
  where
    ended : (s : S) → (ts : List Token) × ((v : V) × Runs b (state s) ts v []) → (ts : List Token) × ((v : V) × Runs a s ts v [])
    ended s (ts, (v, h)) = (ts, (v, same_value (same_back k h)))
