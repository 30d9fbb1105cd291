-- How stretches are put together.
use Rattle.std.proofs.Common.{◌≡◌, List, [], ◌∷◌, ◌++◌, refl, sym, ap, subst, ◌∙◌}
use Rattle.std.proofs.lemmas.List.{append_assoc}
use Rattle.hb_base.specs.declared.place.Place.{Place}
use Rattle.hb_tokens.specs.declared.token.Token.{Token}
use Rattle.hb_grammar.specs.Tokens.{first_place}
use Rattle.hb_grammar_laws.specs.Stretch.{Stretch}

-- nothing is read
pub nothing : {R : List Token → List Token → Type 0} {ts : List Token} → ((us : List Token) → R us us) → Stretch R ts ts
nothing f = record { stretch = []; before = refl; always = f }

-- one token is read
pub token : {R : List Token → List Token → Type 0} {t : Token} {ts : List Token} → ((us : List Token) → R (t ∷ us) us) → Stretch R (t ∷ ts) ts
token {t = t} f = record { stretch = t ∷ []; before = refl; always = f }

-- a token before a stretch
pub next : {R : List Token → List Token → Type 0} {t : Token} {ts us : List Token} → Stretch (λ xs ys. R (t ∷ xs) ys) ts us → Stretch R (t ∷ ts) us
next {t = t} s = record { stretch = t ∷ s.stretch; before = ap (λ xs. t ∷ xs) s.before; always = s.always }

-- a token after a stretch
pub last : {R : List Token → List Token → Type 0} {t : Token} {ts us : List Token} → Stretch R ts (t ∷ us) → Stretch (λ xs ys. R xs (t ∷ ys)) ts us
last {R = R} {t = t} {us = us} s = record {
  stretch = s.stretch ++ t ∷ [];
  before = s.before ∙ sym (append_assoc s.stretch (t ∷ []) us);
  always = λ vs. subst (λ xs. R xs (t ∷ vs)) (sym (append_assoc s.stretch (t ∷ []) vs)) (s.always (t ∷ vs));
}

-- a stretch after a stretch
pub both : {P Q R : List Token → List Token → Type 0} {ts us vs : List Token} → ((xs ys zs : List Token) → P xs ys → Q ys zs → R xs zs) → Stretch P ts us → Stretch Q us vs → Stretch R ts vs
both {P = P} {R = R} {vs = vs} f p q = record {
  stretch = p.stretch ++ q.stretch;
  before = p.before ∙ ap (λ xs. p.stretch ++ xs) q.before ∙ sym (append_assoc p.stretch q.stretch vs);
  always = λ ws. subst (λ xs. R xs ws) (sym (append_assoc p.stretch q.stretch ws)) (f (p.stretch ++ (q.stretch ++ ws)) (q.stretch ++ ws) ws (p.always (q.stretch ++ ws)) (q.always ws));
}

-- three stretches, one after another
pub three : {P Q R S : List Token → List Token → Type 0} {ts us vs ws : List Token} → ((xs ys zs qs : List Token) → P xs ys → Q ys zs → R zs qs → S xs qs) → Stretch P ts us → Stretch Q us vs → Stretch R vs ws → Stretch S ts ws
three {Q = Q} {R = R} f p q r =
    both {Q = λ ys qs. (zs : List Token) × (Q ys zs × R zs qs)} (λ xs ys qs x y. f xs ys y.0 qs x y.1.0 y.1.1) p
    (both (λ ys zs qs y z. (zs, (y, z))) q r)

-- four stretches, one after another
pub four : {P Q R S T : List Token → List Token → Type 0} {ts us vs ws xs : List Token} → ((ns bs cs ds es : List Token) → P ns bs → Q bs cs → R cs ds → S ds es → T ns es) → Stretch P ts us → Stretch Q us vs → Stretch R vs ws → Stretch S ws xs → Stretch T ts xs
four {Q = Q} {R = R} {S = S} f p q r s =
    both {Q = λ bs es. (cs ds : List Token) × (Q bs cs × R cs ds × S ds es)} (λ ns bs es x y. f ns bs y.0 y.1 es x y.2.0 y.2.1 y.2.2) p
    (three (λ bs cs ds es y z w. (cs, ds, (y, z, w))) q r s)

-- what follows from what a stretch is
pub reads_as : {P R : List Token → List Token → Type 0} {ts us : List Token} → ((xs ys : List Token) → P xs ys → R xs ys) → Stretch P ts us → Stretch R ts us
reads_as f p = record { stretch = p.stretch; before = p.before; always = λ vs. f (p.stretch ++ vs) vs (p.always vs) }

-- what is read begins at this place
abbrev pub StandsAt : Place → (List Token → List Token → Type 0) → List Token → List Token → Type 0
StandsAt place R ts us = (first_place ts ≡ place) × R ts us

-- the stretch alone
pub stands : {place : Place} {R : List Token → List Token → Type 0} {ts us : List Token} → Stretch (StandsAt place R) ts us → Stretch R ts us
stands p = reads_as (λ xs ys r. r.1) p

-- what begins with this token begins at its place
pub opens : {R : List Token → List Token → Type 0} {t : Token} {ts us : List Token} → Stretch (λ xs ys. R (t ∷ xs) ys) ts us → Stretch (StandsAt t.place R) (t ∷ ts) us
opens p = next (reads_as (λ xs ys r. (refl, r)) p)
