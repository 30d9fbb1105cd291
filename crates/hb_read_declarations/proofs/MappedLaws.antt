-- What is known of a reader is known of the same reader where it is worth something else.
use Rattle.std.proofs.Common.{◌≡◌, ℕ, Bool, List, [], ◌∷◌, Option, Some, None, is_some, refl, sym, ap, subst, ◌∙◌}
use Rattle.hb_tokens.specs.declared.token.Token.{Token}
use Rattle.hb_grammar.specs.Reading.{Reader, Runs, stop, take, Reached, at_start, after, Exact}
use Rattle.hb_read_declarations.specs.Combined.{mapped, worth_of}
use Rattle.hb_read_declarations.specs.Exactly.{Made}
use Rattle.hb_read_declarations.proofs.Known.{Known, Of, of, mapped_of}

mapped_null : {V W : Type 0} (g : V → W) (o : Option V) → is_some (mapped g o) ≡ is_some o
mapped_null g None = refl
mapped_null g (Some v) = refl

-- runs of the one are runs of the other

worth_stop : {S V W : Type 0} (g : V → W) (a : Reader S V) {s : S} {w : W} {ts : List Token} →
    Of g (a.done s) w → Made (Runs a s) g ts w ts
worth_stop g a (of v e d) = record { thing = v; read = stop e; is = sym d }

worth_taken : {S V W : Type 0} (g : V → W) (a : Reader S V) {s r : S} {t : Token} {w : W} {ts us : List Token} →
    a.move s t ≡ Some r → Made (Runs a r) g ts w us → Made (Runs a s) g (t ∷ ts) w us
worth_taken g a e m = record { thing = m.thing; read = take e m.read; is = m.is }

worth_back : {S V W : Type 0} (g : V → W) (a : Reader S V) {s : S} {w : W} {ts us : List Token} →
    Runs (worth_of g a) s ts w us → Made (Runs a s) g ts w us
worth_back g a (stop {s} e) = worth_stop g a (mapped_of g (a.done s) e)
worth_back g a (take e h) = worth_taken g a e (worth_back g a h)

worth_run : {S V W : Type 0} (g : V → W) (a : Reader S V) {s : S} {v : V} {ts us : List Token} →
    Runs a s ts v us → Runs (worth_of g a) s ts (g v) us
worth_run g a (stop e) = stop (ap (mapped g) e)
worth_run g a (take e h) = take e (worth_run g a h)

worth_reached : {S V W : Type 0} (g : V → W) (a : Reader S V) {s : S} → Reached (worth_of g a) s → Reached a s
worth_reached g a at_start = at_start
worth_reached g a (after h e) = after (worth_reached g a h) e

-- what the other reads

worth_sound : {S A V W : Type 0} {a : Reader S V} {Reads : List Token → A → List Token → Type 0} (f : A → V) (g : V → W)
    {w : W} {ts us : List Token} → Exact a (Made Reads f) → Made (Runs a a.start) g ts w us → Made Reads (λ x. g (f x)) ts w us
worth_sound f g k m = let n = k.sound m.read in record { thing = n.thing; read = n.read; is = m.is ∙ ap g n.is }

worth_complete : {S A V W : Type 0} {a : Reader S V} {Reads : List Token → A → List Token → Type 0} (f : A → V) (g : V → W)
    {w : W} {ts us : List Token} → Exact a (Made Reads f) → Made Reads (λ x. g (f x)) ts w us → Runs (worth_of g a) a.start ts w us
worth_complete {W} {a} f g {ts} {us} k m =
    let P : W → Type 0 = λ w. Runs (worth_of g a) a.start ts w us in
    subst P (sym m.is) (worth_run g a (k.complete (record { thing = m.thing; read = m.read; is = refl })))

worth_alive : {S V W : Type 0} (g : V → W) (a : Reader S V) {s : S} →
    (ts : List Token) × ((v : V) × Runs a s ts v []) → (ts : List Token) × ((w : W) × Runs (worth_of g a) s ts w [])
worth_alive g a (ts, (v, h)) = (ts, (g v, worth_run g a h))

worth_ends : {S V W : Type 0} (g : V → W) (a : Reader S V) (s : S) {w : W} {P : Type 0} →
    Of g (a.done s) w → ((v : V) → a.done s ≡ Some v → P) → P
worth_ends g a s (of v e d) f = f v e

pub worth_known : {S A V W : Type 0} {a : Reader S V} {Reads : List Token → A → List Token → Type 0} {null : Bool} {first : List ℕ}
    {goes uses : ℕ → Bool} (f : A → V) (g : V → W) → Known a (Made Reads f) null first goes uses →
    Known (worth_of g a) (Made Reads (λ x. g (f x))) null first goes uses
worth_known {a} f g k = record {
  exact = record {
    sound = λ h. worth_sound f g k.exact (worth_back g a h);
    complete = λ h. worth_complete f g k.exact h;
    alive = λ h. worth_alive g a (k.exact.alive (worth_reached g a h));
  };
  begins = λ h. k.begins h;
  ends = λ {s} h d m. worth_ends g a s (mapped_of g (a.done s) d) (λ v e. k.ends (worth_reached g a h) e m);
  takes = λ m. k.takes m;
  nothing = mapped_null g (a.done a.start) ∙ k.nothing;
}
