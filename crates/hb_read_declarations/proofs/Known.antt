-- What is known of a reader: that it reads just what a family says, and which tokens it takes where.
use Rattle.std.proofs.Common.{◌≡◌, ℕ, Bool, true, false, cond, List, [], ◌∷◌, ◌++◌, Option, Some, None, is_some, refl, ap, ◌∙◌, arith}
use Rattle.std.specs.Prelude.{◌==◌}
use Rattle.std.proofs.lemmas.Bool.Decides.{nat_tests}
use Rattle.hb_tokens.specs.declared.token.Token.{Token}
use Rattle.hb_grammar.specs.Reading.{Reader, Runs, stop, take, Reached, Exact}
use Rattle.hb_read_declarations.specs.Codes.{code, or, member, apart}
use Rattle.hb_read_declarations.specs.Combined.{mapped}

-- `null` tells whether it may read no token; `first` are the tokens that it may begin with, `goes` those that it takes where
-- it is whole, and `uses` all that it takes
pub record Known {State Value : Type 0} (reader : Reader State Value) (Reads : List Token → Value → List Token → Type 0) (null : Bool) (first : List ℕ) (goes uses : ℕ → Bool) : Type 0 where
  pub exact : Exact reader Reads
  pub begins : {r : State} {t : Token} → reader.move reader.start t ≡ Some r → member (code t) first ≡ true
  pub ends : {s r : State} {t : Token} {a : Value} → Reached reader s → reader.done s ≡ Some a → reader.move s t ≡ Some r → goes (code t) ≡ true
  pub takes : {s r : State} {t : Token} → reader.move s t ≡ Some r → uses (code t) ≡ true
  pub nothing : is_some (reader.done reader.start) ≡ null

abbrev pub none : ℕ → Bool
none c = false

-- the sides of a choice, and what an option that is there holds
pub if_true : {A : Type 0} (b : Bool) (o p : A) → b ≡ true → cond b o p ≡ o
if_true true o p e = refl
if_true false o p e = cc

pub if_false : {A : Type 0} (b : Bool) (o p : A) → b ≡ false → cond b o p ≡ p
if_false false o p e = refl
if_false true o p e = cc

pub some_place : {P : Type 0} (o : Option P) → is_some o ≡ true → (p : P) × (o ≡ Some p)
some_place None e = cc
some_place (Some p) e = (p, refl)

pub some_is : {A : Type 0} {a b : A} → Some a ≡ Some b → a ≡ b
some_is e = cc

pub some_none : {A : Type 0} {a : A} {o : Option A} → o ≡ Some a → o ≡ None → ⊥
some_none d e = cc

pub data Of {A B : Type 0} (f : A → B) : Option A → B → Type 0 where
  of : {b : B} {o : Option A} → (a : A) → o ≡ Some a → f a ≡ b → Of f o b

pub mapped_of : {A B : Type 0} (f : A → B) {b : B} → (o : Option A) → mapped f o ≡ Some b → Of f o b
mapped_of f None e = cc
mapped_of f (Some a) e = of a refl (some_is e)

pub equal_is : (c x : ℕ) (b : Bool) → (c == x) ≡ b → b ≡ true → c ≡ x
equal_is c x true e d = grind (arith, nat_tests, e)
equal_is c x false e d = cc

pub or_cases : {P : Type 0} (a b : Bool) → or a b ≡ true → (a ≡ true → P) → (b ≡ true → P) → P
or_cases true b e f g = f refl
or_cases false b e f g = g e

pub or_left : (a b : Bool) → a ≡ true → or a b ≡ true
or_left true b e = refl
or_left false b e = cc

pub or_right : (a b : Bool) → b ≡ true → or a b ≡ true
or_right true b e = refl
or_right false b e = e

pub member_left : (c : ℕ) (xs ys : List ℕ) → member c xs ≡ true → member c (xs ++ ys) ≡ true
member_left c [] ys e = cc
member_left c (x ∷ xs) ys e = or_cases (c == x) (member c xs) e (λ d. or_left (c == x) (member c (xs ++ ys)) d) (λ d. or_right (c == x) (member c (xs ++ ys)) (member_left c xs ys d))

pub member_right : (c : ℕ) (xs ys : List ℕ) → member c ys ≡ true → member c (xs ++ ys) ≡ true
member_right c [] ys e = e
member_right c (x ∷ xs) ys e = or_right (c == x) (member c (xs ++ ys)) (member_right c xs ys e)

apart_head : (b c : Bool) → cond b false c ≡ true → b ≡ false
apart_head true c e = cc
apart_head false c e = refl

apart_tail : (b c : Bool) → cond b false c ≡ true → c ≡ true
apart_tail true c e = cc
apart_tail false c e = e

-- a number of the list is not in the set
pub apart_is : (set : ℕ → Bool) (xs : List ℕ) (c : ℕ) → apart set xs ≡ true → member c xs ≡ true → set c ≡ false
apart_is set [] c d e = cc
apart_is set (x ∷ xs) c d e =
    or_cases (c == x) (member c xs) e
    (λ h. ap set (equal_is c x (c == x) refl h) ∙ apart_head (set x) (apart set xs) d)
    (λ h. apart_is set xs c (apart_tail (set x) (apart set xs) d) h)

pub true_false : {b : Bool} → b ≡ true → b ≡ false → ⊥
true_false d e = cc

-- a run over these tokens is one where more follow
pub run_before : {S V : Type 0} {a : Reader S V} {s : S} {ts us : List Token} {v : V} → (xs : List Token) → Runs a s ts v us → Runs a s (ts ++ xs) v (us ++ xs)
run_before xs (stop e) = stop e
run_before xs (take e h) = take e (run_before xs h)

-- no token

-- the same reader, and the family said in other words
pub known_by : {S V : Type 0} {a : Reader S V} {A B : List Token → V → List Token → Type 0} {n : Bool} {first : List ℕ} {g u : ℕ → Bool} →
    ((ts : List Token) (v : V) (us : List Token) → A ts v us → B ts v us) → ((ts : List Token) (v : V) (us : List Token) → B ts v us → A ts v us) →
    Known a A n first g u → Known a B n first g u
known_by f g k = record {
  exact = record {
    sound = λ {ts} {us} {a} h. f ts a us (k.exact.sound h);
    complete = λ {ts} {us} {a} h. k.exact.complete (g ts a us h);
    alive = λ h. k.exact.alive h;
  };
  begins = λ h. k.begins h;
  ends = λ h d m. k.ends h d m;
  takes = λ m. k.takes m;
  nothing = k.nothing;
}

pub none_is : {V : Type 0} (o : Option V) → is_some o ≡ false → o ≡ None
none_is None e = refl
none_is (Some v) e = cc
