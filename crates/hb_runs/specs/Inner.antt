-- Events inside that are not shown to the outside: what is public of them, and what they leave in cells.
use Rattle.std.specs.Prelude.{List, [], ◌∷◌, Option, Some, None, option_map}
use Rattle.hb_runs.specs.Outcome.{Outcome}
use Rattle.hb_runs.specs.Law.{Course}

-- one more at the front, if there is one
unfoldable pub put_first : {P : Type 0} → Option P → List P → List P
put_first None rest = rest
put_first (Some first) rest = first ∷ rest

-- the public events among them, as `public` says which ones they are
unfoldable pub public_of : {E P : Type 0} → (E → Option P) → List E → List P
public_of public [] = []
public_of public (event ∷ trace) = put_first (public event) (public_of public trace)

abbrev pub publicly : {E P S : Type 0} → (E → Option P) → Outcome E S → Outcome P S
publicly public outcome = record { trace = public_of public outcome.trace; end = outcome.end }

-- what is left where each event changes it
unfoldable pub left_by : {C E : Type 0} → (C → E → C) → C → List E → C
left_by change cells [] = cells
left_by change cells (event ∷ trace) = left_by change (change cells event) trace

-- the public events, each with what was left when it came
unfoldable pub public_with : {C E P : Type 0} → (C → E → C) → (E → Option P) → C → List E → List (P × C)
public_with change public cells [] = []
public_with change public cells (event ∷ trace) =
    put_first (option_map (λ shown. (shown, change cells event)) (public event)) (public_with change public (change cells event) trace)

-- and the end with what was left at the end
abbrev pub with_cells : {C E P S : Type 0} → (C → E → C) → (E → Option P) → C → Outcome E S → Outcome (P × C) (S × C)
with_cells change public cells outcome = record {
  trace = public_with change public cells outcome.trace;
  end = option_map (λ end. (end, left_by change cells outcome.trace)) outcome.end;
}

-- a run as it is seen through a function of outcomes
abbrev pub seen_by : {E S P R : Type 0} → (Outcome E S → Outcome P R) → Course E S → Course P R
seen_by view run = record { shows = λ n. view (run.shows n); costs = run.costs }
