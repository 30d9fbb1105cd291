-- What a table says, read off frame by frame: families that are closed under the table's rules hold all that it says.
use Rattle.std.proofs.Common.{◌≡◌, List, [], ◌∷◌, ◌++◌, Some, refl, sym, ap, subst, ◌∙◌, append_assoc}
use Rattle.hb_tokens.specs.declared.token.Token.{Token}
use Rattle.hb_engine.specs.Tables.{Turn, Table, Row, row_end, row_null, row_turn}

-- one frame's family behind the other
pub data All {F N : Type 0} (Means : F → List Token → List N → List Token → Type 0) : List F → List Token → List N → List Token → Type 0 where
  nothing : {ts : List Token} → All Means [] ts [] ts
  then : {f : F} {fs : List F} {ms ls : List N} {ts us vs : List Token} → Means f ts ms us → All Means fs us ls vs → All Means (f ∷ fs) ts (ms ++ ls) vs

pub record Closed {F N : Type 0} (table : Table F N) (Means : F → List Token → List N → List Token → Type 0) : Type 0 where
  pub null : (f : F) (ns : List N) (ts : List Token) → table.null f ≡ Some ns → Means f ts ns ts
  pub turn : (f : F) (t : Token) (n : Turn F N) (ms : List N) (ts us : List Token) → table.turn f t ≡ Some n → All Means n.frames ts ms us → Means f (t ∷ ts) (n.nodes ++ ms) us

-- frames in two parts
pub data Split {F N : Type 0} (Means : F → List Token → List N → List Token → Type 0) (gs fs : List F) (ts : List Token) (ms : List N) (vs : List Token) : Type 0 where
  split : (us : List Token) (ls ns : List N) → All Means gs ts ls us → All Means fs us ns vs → ls ++ ns ≡ ms → Split Means gs fs ts ms vs

put_before : {F N : Type 0} {Means : F → List Token → List N → List Token → Type 0} {g : F} {gs fs : List F} (ks : List N) {ms : List N} {ts us vs : List Token} → Means g ts ks us → Split Means gs fs us ms vs → Split Means (g ∷ gs) fs ts (ks ++ ms) vs
put_before ks h (split us ls ns a b e) = split us (ks ++ ls) ns (then h a) b (append_assoc ks ls ns ∙ ap (λ ms. ks ++ ms) e)

pub split_all : {F N : Type 0} {Means : F → List Token → List N → List Token → Type 0} (gs : List F) {fs : List F} {ms : List N} {ts vs : List Token} → All Means (gs ++ fs) ts ms vs → Split Means gs fs ts ms vs
split_all [] {ms} {ts} h = split ts [] ms nothing h refl
split_all (g ∷ gs) (then {ms = ks} h k) = put_before ks h (split_all gs k)

turn_all : {F N : Type 0} {table : Table F N} {Means : F → List Token → List N → List Token → Type 0} {f : F} {fs : List F} {t : Token} {n : Turn F N} {ms : List N} {ts vs : List Token} → Closed table Means → table.turn f t ≡ Some n → Split Means n.frames fs ts ms vs → All Means (f ∷ fs) (t ∷ ts) (n.nodes ++ ms) vs
turn_all {Means} {f} {fs} {t} {n} {ts} {vs} k e (split us ls ns a b d) =
    subst (λ ms. All Means (f ∷ fs) (t ∷ ts) ms vs) (append_assoc n.nodes ls ns ∙ ap (λ ms. n.nodes ++ ms) d) (then (k.turn f t n ls ts us e a) b)

pub row_all : {F N : Type 0} {table : Table F N} {Means : F → List Token → List N → List Token → Type 0} {fs : List F} {ms : List N} {ts us : List Token} → Closed table Means → Row table fs ts ms us → All Means fs ts ms us
row_all k row_end = nothing
row_all k (row_null {f} {ns} {ts} e d) = then (k.null f ns ts e) (row_all k d)
row_all k (row_turn {n} e d) = turn_all k e (split_all n.frames (row_all k d))

one_of : {F N : Type 0} {Means : F → List Token → List N → List Token → Type 0} {f : F} {ms : List N} {ts us : List Token} → ((ms : List N) → ms ++ [] ≡ ms) → All Means (f ∷ []) ts ms us → Means f ts ms us
one_of {Means} {f} {ts} {us} none (then {ms} h nothing) = subst (λ ms. Means f ts ms us) (sym (none ms)) h

pub row_means : {F N : Type 0} {table : Table F N} {Means : F → List Token → List N → List Token → Type 0} {f : F} {ms : List N} {ts us : List Token} → Closed table Means → Row table (f ∷ []) ts ms us → Means f ts ms us
row_means k d = one_of append_none (row_all k d)
  where
    append_none : {A : Type 0} (xs : List A) → xs ++ [] ≡ xs
    append_none [] = refl
    append_none (x ∷ xs) = ap (λ ys. x ∷ ys) (append_none xs)
