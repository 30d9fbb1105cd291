-- Public events and what is left in cells, of some events and then others; a run that grows grows so seen, too.
use Rattle.std.proofs.Common.{◌≡◌, ℕ, suc, List, [], ◌∷◌, ◌++◌, Option, Some, None, refl, ap, ◌∙◌, append-nil}
use Rattle.hb_runs.specs.Outcome.{Outcome, GrowsTo, Stays, Shows, Ends, Grows}
use Rattle.std.specs.Prelude.{option_map}
use Rattle.hb_runs.specs.Inner.{put_first, public_of, publicly, left_by, public_with, with_cells}

put_append : {P : Type 0} (o : Option P) (ps qs : List P) → put_first o (ps ++ qs) ≡ put_first o ps ++ qs
unfolding put_first
put_append None ps qs = refl
put_append (Some p) ps qs = refl

pub public-append : {E P : Type 0} (public : E → Option P) (before later : List E) → public_of public (before ++ later) ≡ public_of public before ++ public_of public later
unfolding public_of
public-append public [] later = refl
public-append public (event ∷ before) later =
    ap (put_first (public event)) (public-append public before later) ∙ put_append (public event) (public_of public before) (public_of public later)

pub left-append : {C E : Type 0} (change : C → E → C) (cells : C) (before later : List E) → left_by change cells (before ++ later) ≡ left_by change (left_by change cells before) later
unfolding left_by
left-append change cells [] later = refl
left-append change cells (event ∷ before) later = left-append change (change cells event) before later

pub with-append : {C E P : Type 0} (change : C → E → C) (public : E → Option P) (cells : C) (before later : List E)
    → public_with change public cells (before ++ later) ≡ public_with change public cells before ++ public_with change public (left_by change cells before) later
unfolding public_with left_by
with-append change public cells [] later = refl
with-append change public cells (event ∷ before) later =
    ap (put_first _) (with-append change public (change cells event) before later)
    ∙ put_append _ (public_with change public (change cells event) before) (public_with change public (left_by change (change cells event) before) later)

-- ---- growth

-- a trace with no more than one thing more
grown : {P S : Type 0} (shown more : List P) (o : Option P) → more ≡ shown ++ put_first o [] → GrowsTo {E = P} {S = S} (record { trace = shown; end = None }) (record { trace = more; end = None })
unfolding put_first
grown shown more None e = Stays (ap (λ ps. record { trace = ps; end = None }) (e ∙ append-nil shown))
grown shown more (Some p) e = Shows p refl (ap (λ ps. record { trace = ps; end = None }) e)

pub publicly-suc : {E P S : Type 0} (public : E → Option P) (o p : Outcome E S) → GrowsTo o p → GrowsTo (publicly public o) (publicly public p)
unfolding public_of
publicly-suc public o p (Stays same) = Stays (ap (publicly public) same)
publicly-suc public o p (Shows event going same) =
    rw (same, going) (grown (public_of public o.trace) (public_of public (o.trace ++ event ∷ [])) (public event) (public-append public o.trace (event ∷ [])))
publicly-suc public o p (Ends end going same) = Ends end going (ap (publicly public) same)

pub publicly-grows : {E P S : Type 0} (public : E → Option P) (run : ℕ → Outcome E S) → Grows run → Grows (λ n. publicly public (run n))
unfolding public_of
publicly-grows public run grows = record { starts = ap (publicly public) grows.starts; grows = λ n. publicly-suc public (run n) (run (suc n)) (grows.grows n) }

mapped_none : {S R : Type 0} (f : S → R) (end : Option S) → end ≡ None → option_map f end ≡ None
mapped_none f end e = ap (option_map f) e

pub with_cells-suc : {C E P S : Type 0} (change : C → E → C) (public : E → Option P) (cells : C) (o p : Outcome E S) → GrowsTo o p → GrowsTo (with_cells change public cells o) (with_cells change public cells p)
unfolding public_with
with_cells-suc change public cells o p (Stays same) = Stays (ap (with_cells change public cells) same)
with_cells-suc change public cells o p (Shows event going same) =
    rw (same, going) (grown (public_with change public cells o.trace) (public_with change public cells (o.trace ++ event ∷ [])) _ (with-append change public cells o.trace (event ∷ [])))
with_cells-suc change public cells o p (Ends end going same) = Ends (end, left_by change cells o.trace) (mapped_none (λ s. (s, left_by change cells o.trace)) o.end going) (ap (with_cells change public cells) same)

pub with_cells-grows : {C E P S : Type 0} (change : C → E → C) (public : E → Option P) (cells : C) (run : ℕ → Outcome E S) → Grows run → Grows (λ n. with_cells change public cells (run n))
unfolding public_with
with_cells-grows change public cells run grows = record {
  starts = ap (with_cells change public cells) grows.starts;
  grows = λ n. with_cells-suc change public cells (run n) (run (suc n)) (grows.grows n);
}
