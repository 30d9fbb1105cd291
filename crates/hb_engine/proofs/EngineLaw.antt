-- The machine reads just what its table says as a grammar.
use Rattle.std.proofs.Common.{◌≡◌, ℕ, Bool, true, false, List, [], ◌∷◌, ◌++◌, Option, Some, None, is_some, refl, sym, ap, subst, ◌∙◌, append_assoc}
use Rattle.hb_tokens.specs.declared.token.Token.{Token}
use Rattle.hb_grammar.specs.Reading.{Runs, stop, take, Reached, at_start, after, Exact}
use Rattle.hb_engine.specs.Tables.{Turn, Table, Thread, thread, moved, turned, whole, put_behind, engine, Row, row_end, row_null, row_turn}
use Rattle.hb_engine.specs.Lawful.{either, both, nullable, firsts, Apart, Chain, chain_end, link, Lawful}

some_is : {A : Type 0} {a b : A} → Some a ≡ Some b → a ≡ b
some_is e = cc

pub append_none : {A : Type 0} (xs : List A) → xs ++ [] ≡ xs
append_none [] = refl
append_none (x ∷ xs) = ap (λ ys. x ∷ ys) (append_none xs)

-- runs are rows

pub data Read {F N : Type 0} (table : Table F N) (fs : List F) (out : List N) (ts : List Token) (v : List N) (us : List Token) : Type 0 where
  read : (ms : List N) → Row table fs ts ms us → v ≡ out ++ ms → Read table fs out ts v us

read_null : {F N : Type 0} {table : Table F N} {f : F} {fs : List F} {out ns v : List N} {ts us : List Token} → table.null f ≡ Some ns → Read table fs (out ++ ns) ts v us → Read table (f ∷ fs) out ts v us
read_null {out} {ns} e (read ms d i) = read (ns ++ ms) (row_null e d) (i ∙ append_assoc out ns ms)

read_turn : {F N : Type 0} {table : Table F N} {f : F} {fs : List F} {n : Turn F N} {out v : List N} {t : Token} {ts us : List Token} → table.turn f t ≡ Some n → Read table (n.frames ++ fs) (out ++ n.nodes) ts v us → Read table (f ∷ fs) out (t ∷ ts) v us
read_turn {n} {out} e (read ms d i) = read (n.nodes ++ ms) (row_turn e d) (i ∙ append_assoc out n.nodes ms)

whole_read : {F N : Type 0} (table : Table F N) (fs : List F) (out : List N) {v : List N} {ts : List Token} → whole table fs out ≡ Some v → Read table fs out ts v ts
whole_read table [] out e = read [] row_end (sym (some_is e) ∙ sym (append_none out))
whole_read {N} table (f ∷ fs) out {v} {ts} e = behind (table.null f) refl (λ ns e. whole_read table fs ns e) e
  where
    behind : (o : Option (List N)) → table.null f ≡ o → ((ns : List N) → whole table fs ns ≡ Some v → Read table fs ns ts v ts) → put_behind o out (λ ns. whole table fs ns) ≡ Some v → Read table (f ∷ fs) out ts v ts
    behind None d g e = cc
    behind (Some ns) d g e = read_null d (g (out ++ ns) e)

moved_read : {F N : Type 0} (table : Table F N) (fs : List F) (out : List N) {r : Thread F N} {v : List N} {t : Token} {ts us : List Token} → moved table fs out t ≡ Some r → Read table r.frames r.nodes ts v us → Read table fs out (t ∷ ts) v us
moved_read table [] out e h = cc
moved_read {F} {N} table (f ∷ fs) out {r} {v} {t} {ts} {us} e h = by_turn (table.turn f t) (table.null f) refl refl (λ ns e. moved_read table fs ns e h) e
  where
    by_turn : (o : Option (Turn F N)) (p : Option (List N)) → table.turn f t ≡ o → table.null f ≡ p → ((ns : List N) → moved table fs ns t ≡ Some r → Read table fs ns (t ∷ ts) v us) → turned o p fs out (λ ns. moved table fs ns t) ≡ Some r → Read table (f ∷ fs) out (t ∷ ts) v us
    by_turn (Some n) p d i g e = read_turn d (let P : Thread F N → Type 0 = λ r. Read table r.frames r.nodes ts v us in subst P (sym (some_is e)) h)
    by_turn None (Some ns) d i g e = read_null i (g (out ++ ns) e)
    by_turn None None d i g e = cc

pub run_read : {F N : Type 0} {table : Table F N} {f : F} {s : Thread F N} {ts us : List Token} {v : List N} → Runs (engine table f) s ts v us → Read table s.frames s.nodes ts v us
run_read {table} (stop {s} e) = whole_read table s.frames s.nodes e
run_read {table} (take {s} e h) = moved_read table s.frames s.nodes e (run_read h)

-- frames that may stand one behind the other

pub data Stands {F N : Type 0} (table : Table F N) (Fit : F → Type 0) (first follow : F → ℕ → Bool) : List F → Type 0 where
  none_stands : Stands table Fit first follow []
  stands : {f : F} {fs : List F} → Fit f → Apart (follow f) (firsts table first fs) → Stands table Fit first follow fs → Stands table Fit first follow (f ∷ fs)

pub either_cases : {P : Type 0} (a b : Bool) → either a b ≡ true → (a ≡ true → P) → (b ≡ true → P) → P
either_cases true b e f g = f refl
either_cases false b e f g = g e

pub either_left : (a b : Bool) → a ≡ true → either a b ≡ true
either_left true b e = refl
either_left false b e = cc

pub either_right : (a b : Bool) → b ≡ true → either a b ≡ true
either_right true b e = refl
either_right false b e = e

pub both_is : (a b : Bool) → a ≡ true → b ≡ true → both a b ≡ true
both_is true b d e = e
both_is false b d e = cc

pub both_cases : {P : Type 0} (a b : Bool) → both a b ≡ true → (a ≡ true → b ≡ true → P) → P
both_cases true b e f = f refl e
both_cases false b e f = cc

-- what begins a row and then another begins the row, or the other where the row may be nothing
pub firsts_cases : {F N : Type 0} {P : Type 0} (table : Table F N) (first : F → ℕ → Bool) (gs fs : List F) (c : ℕ) → firsts table first (gs ++ fs) c ≡ true → (firsts table first gs c ≡ true → P) → (nullable table gs ≡ true → firsts table first fs c ≡ true → P) → P
firsts_cases table first [] fs c e p q = q refl e
firsts_cases table first (g ∷ gs) fs c e p q =
    either_cases (first g c) (both (is_some (table.null g)) (firsts table first (gs ++ fs) c)) e
    (λ h. p (either_left (first g c) (both (is_some (table.null g)) (firsts table first gs c)) h))
    (λ h. both_cases (is_some (table.null g)) (firsts table first (gs ++ fs) c) h (λ n k. firsts_cases table first gs fs c k
    (λ l. p (either_right (first g c) (both (is_some (table.null g)) (firsts table first gs c)) (both_is (is_some (table.null g)) (firsts table first gs c) n l)))
    (λ l i. q (both_is (is_some (table.null g)) (nullable table gs) n l) i)))

chain_stands : {F N : Type 0} {table : Table F N} {Fit : F → Type 0} {first follow : F → ℕ → Bool} {up : ℕ → Bool} {gs fs : List F} → Chain table Fit first follow up gs → Apart up (firsts table first fs) → Stands table Fit first follow fs → Stands table Fit first follow (gs ++ fs)
chain_stands chain_end d h = h
chain_stands {table} {first} {fs} (link {f = g} {fs = gs} fit apart goes c) d h =
    stands fit (λ k e i. firsts_cases table first gs fs k i (λ j. apart k e j) (λ n j. d k (goes n k e) j)) (chain_stands c d h)

nullable_parts : {F N : Type 0} {P : Type 0} (table : Table F N) (gs fs : List F) → nullable table (gs ++ fs) ≡ true → (nullable table gs ≡ true → nullable table fs ≡ true → P) → P
nullable_parts table [] fs e p = p refl e
nullable_parts table (g ∷ gs) fs e p = both_cases (is_some (table.null g)) (nullable table (gs ++ fs)) e (λ n k. nullable_parts table gs fs k (λ l i. p (both_is (is_some (table.null g)) (nullable table gs) n l) i))

-- one chain and then another
pub chains : {F N : Type 0} {table : Table F N} {Fit : F → Type 0} {first follow : F → ℕ → Bool} {mid up : ℕ → Bool} {gs fs : List F} → Chain table Fit first follow mid gs → Apart mid (firsts table first fs) → (nullable table fs ≡ true → (c : ℕ) → mid c ≡ true → up c ≡ true) → Chain table Fit first follow up fs → Chain table Fit first follow up (gs ++ fs)
chains chain_end d k h = h
chains {table} {first} {up} {fs} (link {f = g} {fs = gs} fit apart goes c) d k h =
    link fit (λ x e i. firsts_cases table first gs fs x i (λ j. apart x e j) (λ n j. d x (goes n x e) j)) (λ n x e. nullable_parts {P = up x ≡ true} table gs fs n (λ i j. k j x (goes i x e))) (chains c d k h)

pub chain_wider : {F N : Type 0} {table : Table F N} {Fit : F → Type 0} {first follow : F → ℕ → Bool} {mid up : ℕ → Bool} {gs : List F} → ((c : ℕ) → mid c ≡ true → up c ≡ true) → Chain table Fit first follow mid gs → Chain table Fit first follow up gs
chain_wider k chain_end = chain_end
chain_wider k (link fit apart goes c) = link fit apart (λ n x e. k x (goes n x e)) (chain_wider k c)

turn_stands : {F N : Type 0} {table : Table F N} {code : Token → ℕ} {Fit : F → Type 0} {first follow : F → ℕ → Bool} {f : F} {fs : List F} {t : Token} {n : Turn F N} → Lawful table code Fit first follow → Stands table Fit first follow (f ∷ fs) → table.turn f t ≡ Some n → Stands table Fit first follow (n.frames ++ fs)
turn_stands law (stands fit apart h) e = chain_stands (law.turns fit e) apart h

null_some : {A : Type 0} {o : Option A} {a : A} → o ≡ Some a → is_some o ≡ true
null_some e = ap is_some e

-- what these take is in their first set
takes_first : {F N : Type 0} {table : Table F N} {code : Token → ℕ} {Fit : F → Type 0} {first follow : F → ℕ → Bool} (law : Lawful table code Fit first follow) (fs : List F) (out : List N) (t : Token) {r : Thread F N} → Stands table Fit first follow fs → moved table fs out t ≡ Some r → firsts table first fs (code t) ≡ true
takes_first law [] out t h e = cc
takes_first {F} {N} {table} {code} {first} law (f ∷ fs) out t {r} (stands fit apart h) e = by_turn (table.turn f t) (table.null f) refl refl (λ ns e. takes_first law fs ns t h e) e
  where
    by_turn : (o : Option (Turn F N)) (p : Option (List N)) → table.turn f t ≡ o → table.null f ≡ p → ((ns : List N) → moved table fs ns t ≡ Some r → firsts table first fs (code t) ≡ true) → turned o p fs out (λ ns. moved table fs ns t) ≡ Some r → firsts table first (f ∷ fs) (code t) ≡ true
    by_turn (Some n) p d i g e = either_left (first f (code t)) (both (is_some (table.null f)) (firsts table first fs (code t))) (law.begins fit d)
    by_turn None (Some ns) d i g e = either_right (first f (code t)) (both (is_some (table.null f)) (firsts table first fs (code t))) (both_is (is_some (table.null f)) (firsts table first fs (code t)) (null_some i) (g (out ++ ns) e))
    by_turn None None d i g e = cc

-- rows are runs

run_as : {F N : Type 0} (table : Table F N) (g : F) {s : Thread F N} {ts us : List Token} {v w : List N} → v ≡ w → Runs (engine table g) s ts v us → Runs (engine table g) s ts w us
run_as table g {s} {ts} {us} e h = subst (λ v. Runs (engine table g) s ts v us) e h

null_run : {F N : Type 0} {table : Table F N} {code : Token → ℕ} {Fit : F → Type 0} {first follow : F → ℕ → Bool} {g f : F} {fs : List F} {out ns v : List N} {ts us : List Token} → Lawful table code Fit first follow → Stands table Fit first follow (f ∷ fs) → table.null f ≡ Some ns → Runs (engine table g) (thread fs (out ++ ns)) ts v us → Runs (engine table g) (thread (f ∷ fs) out) ts v us
null_run {table} {fs} {out} law h e (stop d) = stop (ap (λ o. put_behind o out (λ ns. whole table fs ns)) e ∙ d)
null_run {F} {N} {table} {code} {g} {f} {fs} {out} {ns} law (stands fit apart h) e (take {r} {t} d k) = take {r = r} (by_turn (table.turn f t) refl ∙ d) k
  where
    by_turn : (o : Option (Turn F N)) → table.turn f t ≡ o → turned (table.turn f t) (table.null f) fs out (λ ns. moved table fs ns t) ≡ moved table fs (out ++ ns) t
    by_turn (Some n) i = absurd (apart (code t) (law.ends fit e i) (takes_first law fs (out ++ ns) t h d))
    by_turn None i = ap (λ o. turned o (table.null f) fs out (λ ns. moved table fs ns t)) i ∙ ap (λ p. let n : Option (Turn F N) = None in turned n p fs out (λ ns. moved table fs ns t)) e

pub row_run : {F N : Type 0} {table : Table F N} {code : Token → ℕ} {Fit : F → Type 0} {first follow : F → ℕ → Bool} (g : F) {fs : List F} {ms : List N} {ts us : List Token} (out : List N) → Lawful table code Fit first follow → Stands table Fit first follow fs → Row table fs ts ms us → Runs (engine table g) (thread fs out) ts (out ++ ms) us
row_run g out law h row_end = stop (ap Some (sym (append_none out)))
row_run {table} g out law (stands fit apart h) (row_null {ns} {ms} e d) = run_as table g (append_assoc out ns ms) (null_run law (stands fit apart h) e (row_run g (out ++ ns) law h d))
row_run {table} g out law h (row_turn {f} {fs} {n} {ms} {t} e d) = take {r = thread (n.frames ++ fs) (out ++ n.nodes)} (ap (λ o. turned o (table.null f) fs out (λ ns. moved table fs ns t)) e) (run_as table g (append_assoc out n.nodes ms) (row_run g (out ++ n.nodes) law (turn_stands law h e) d))

-- each state can be ended

pub row_before : {F N : Type 0} {table : Table F N} {fs : List F} {ms : List N} {ts us : List Token} (xs : List Token) → Row table fs ts ms us → Row table fs (ts ++ xs) ms (us ++ xs)
row_before xs row_end = row_end
row_before xs (row_null e d) = row_null e (row_before xs d)
row_before xs (row_turn e d) = row_turn e (row_before xs d)

row_as : {F N : Type 0} {table : Table F N} {fs : List F} {ms ns : List N} {ts us : List Token} → ms ≡ ns → Row table fs ts ms us → Row table fs ts ns us
row_as {table} {fs} {ts} {us} e h = subst (λ ms. Row table fs ts ms us) e h

-- one row and then another
pub rows : {F N : Type 0} {table : Table F N} {gs fs : List F} {ms ls : List N} {ts us vs : List Token} → Row table gs ts ms us → Row table fs us ls vs → Row table (gs ++ fs) ts (ms ++ ls) vs
rows row_end h = h
rows {ls} (row_null {ns} {ms} e d) h = row_as (sym (append_assoc ns ms ls)) (row_null e (rows d h))
rows {table} {fs} {ls} {vs} (row_turn {fs = gs} {n} {ms} {ts} e d) h =
    row_as (sym (append_assoc n.nodes ms ls)) (row_turn e (subst (λ hs. Row table hs ts (ms ++ ls) vs) (append_assoc n.frames gs fs) (rows d h)))

finish_stands : {F N : Type 0} {table : Table F N} {code : Token → ℕ} {Fit : F → Type 0} {first follow : F → ℕ → Bool} {fs : List F} → Lawful table code Fit first follow → Stands table Fit first follow fs → (ts : List Token) × ((ms : List N) × Row table fs ts ms [])
finish_stands law none_stands = ([], ([], row_end))
finish_stands {F} {N} {table} law (stands {f} {fs} fit apart h) = join (law.finishes fit) (finish_stands law h)
  where
    join : (ts : List Token) × ((ms : List N) × Row table (f ∷ []) ts ms []) → (ts : List Token) × ((ms : List N) × Row table fs ts ms []) → (ts : List Token) × ((ms : List N) × Row table (f ∷ fs) ts ms [])
    join (ts, (ms, d)) (us, (ls, e)) = (ts ++ us, (ms ++ ls, rows (row_before us d) e))

moved_stands : {F N : Type 0} {table : Table F N} {code : Token → ℕ} {Fit : F → Type 0} {first follow : F → ℕ → Bool} (law : Lawful table code Fit first follow) (fs : List F) (out : List N) (t : Token) {r : Thread F N} → Stands table Fit first follow fs → moved table fs out t ≡ Some r → Stands table Fit first follow r.frames
moved_stands law [] out t h e = cc
moved_stands {F} {N} {table} {Fit} {first} {follow} law (f ∷ fs) out t {r} (stands fit apart h) e = by_turn (table.turn f t) (table.null f) refl refl (λ ns e. moved_stands law fs ns t h e) e
  where
    by_turn : (o : Option (Turn F N)) (p : Option (List N)) → table.turn f t ≡ o → table.null f ≡ p → ((ns : List N) → moved table fs ns t ≡ Some r → Stands table Fit first follow r.frames) → turned o p fs out (λ ns. moved table fs ns t) ≡ Some r → Stands table Fit first follow r.frames
    by_turn (Some n) p d i g e = let P : Thread F N → Type 0 = λ r. Stands table Fit first follow r.frames in subst P (some_is e) (turn_stands law (stands fit apart h) d)
    by_turn None (Some ns) d i g e = g (out ++ ns) e
    by_turn None None d i g e = cc

one_stands : {F N : Type 0} {table : Table F N} {Fit : F → Type 0} {first follow : F → ℕ → Bool} {f : F} → Fit f → Stands table Fit first follow (f ∷ [])
one_stands fit = stands fit (λ c d e. cc) none_stands

reached_stands : {F N : Type 0} {table : Table F N} {code : Token → ℕ} {Fit : F → Type 0} {first follow : F → ℕ → Bool} {f : F} {s : Thread F N} → Lawful table code Fit first follow → Fit f → Reached (engine table f) s → Stands table Fit first follow s.frames
reached_stands law fit at_start = one_stands fit
reached_stands law fit (after {s} {t} h e) = moved_stands law s.frames s.nodes t (reached_stands law fit h) e

pub alive_from : {F N : Type 0} {table : Table F N} {code : Token → ℕ} {Fit : F → Type 0} {first follow : F → ℕ → Bool} (f : F) (s : Thread F N) → Lawful table code Fit first follow → Stands table Fit first follow s.frames → (ts : List Token) × ((v : List N) × Runs (engine table f) s ts v [])
alive_from {F} {N} {table} f s law h = ended (finish_stands law h)
  where
    ended : (ts : List Token) × ((ms : List N) × Row table s.frames ts ms []) → (ts : List Token) × ((v : List N) × Runs (engine table f) s ts v [])
    ended (ts, (ms, d)) = (ts, (s.nodes ++ ms, row_run f s.nodes law h d))

from_none : {F N : Type 0} {table : Table F N} {fs : List F} {ts us : List Token} {v : List N} → Read table fs [] ts v us → Row table fs ts v us
from_none (read ms d i) = row_as (sym i) d

-- the engine reads just what the table says
pub engine_exact : {F N : Type 0} {table : Table F N} {code : Token → ℕ} {Fit : F → Type 0} {first follow : F → ℕ → Bool} (f : F) → Lawful table code Fit first follow → Fit f → Exact (engine table f) (λ ts v us. Row table (f ∷ []) ts v us)
engine_exact f law fit = record {
  sound = λ h. from_none (run_read h);
  complete = λ h. row_run f [] law (one_stands fit) h;
  alive = λ {s} h. alive_from f s law (reached_stands law fit h);
}
