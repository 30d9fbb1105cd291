-- The place that is kept is the first one.
use Rattle.std.proofs.Common.{◌≡◌, ◌≤◌, ◌<◌, ◌⊎◌, inl, inr, ℕ, Bool, true, false, nat_lt, nat_eq, cond, refl, List, [], ◌∷◌, Option, Some, None, arith}
use Rattle.hb_base.specs.declared.place.Place.{Place}
use Rattle.hb_depth.specs.Walking.{first_from, is_before}
use Rattle.std.specs.List.{All, Contains}
use Rattle.std.proofs.lemmas.List.Elements.{All-cons, All-head, All-tail, Contains-append_left, Contains-append_right, Contains-append_cases}
use Rattle.hb_depth.specs.Depth.{IsNotAfter, IsFirst}

upto_itself : (l c : ℕ) → (l < l) ⊎ ((l ≡ l) × (c ≤ c))
upto_itself l c = grind arith

upto_trans : (l c m d n e : ℕ) → (l < m) ⊎ ((l ≡ m) × (c ≤ d)) → (m < n) ⊎ ((m ≡ n) × (d ≤ e)) → (l < n) ⊎ ((l ≡ n) × (c ≤ e))
upto_trans l c m d n e h k = grind arith

upto_before : (l c m d : ℕ) → cond (nat_eq l m) (nat_lt c d) (nat_lt l m) ≡ true → (l < m) ⊎ ((l ≡ m) × (c ≤ d))
upto_before l c m d h = grind arith

upto_not_before : (l c m d : ℕ) → cond (nat_eq l m) (nat_lt c d) (nat_lt l m) ≡ false → (m < l) ⊎ ((m ≡ l) × (d ≤ c))
upto_not_before l c m d h = grind arith

trans : (a b c : Place) → IsNotAfter a b → IsNotAfter b c → IsNotAfter a c
trans a b c h k = upto_trans a.line a.col b.line b.col c.line c.col h k

-- the place found is the first of these and of one more, which is not before one of them
and_one : (r : Option Place) (q p : Place) (ps : List Place) → IsNotAfter p q → IsFirst r (p ∷ ps) → IsFirst r (q ∷ p ∷ ps)
and_one None q p ps h k = absurd (cc)
and_one (Some s) q p ps h k =
    (Contains-append_right (q ∷ []) (p ∷ ps) s k.0, All-cons (IsNotAfter s) q (p ∷ ps) (trans s p q (All-head (IsNotAfter s) p ps k.1) h) k.1)

among_more : (s q p : Place) (ps : List Place) → Contains (q ∷ []) s ⊎ Contains ps s → Contains (q ∷ p ∷ ps) s
among_more s q p ps (inl h) = Contains-append_left (q ∷ []) (p ∷ ps) s h
among_more s q p ps (inr h) = Contains-append_right (q ∷ p ∷ []) ps s h

and_second : (r : Option Place) (q p : Place) (ps : List Place) → IsNotAfter q p → IsFirst r (q ∷ ps) → IsFirst r (q ∷ p ∷ ps)
and_second None q p ps h k = absurd (cc)
and_second (Some s) q p ps h k = (
  among_more s q p ps (Contains-append_cases (q ∷ []) ps s k.0),
  All-cons (IsNotAfter s) q (p ∷ ps) (All-head (IsNotAfter s) q ps k.1) (All-cons (IsNotAfter s) p ps (trans s q p (All-head (IsNotAfter s) q ps k.1) h) (All-tail (IsNotAfter s) q ps k.1)),
)

itself_only : (q : Place) → All (IsNotAfter q) []
itself_only q k d h = absurd (omega (arith, h))

-- one place more, where the rest is known
first_step : (ps : List Place) (q p : Place) (b : Bool) → is_before p q ≡ b → ((r : Place) → IsFirst (first_from (Some r) ps) (r ∷ ps)) → IsFirst (first_from (Some (cond b p q)) ps) (q ∷ p ∷ ps)
first_step ps q p true e h = and_one (first_from (Some p) ps) q p ps (upto_before p.line p.col q.line q.col e) (h p)
first_step ps q p false e h = and_second (first_from (Some q) ps) q p ps (upto_not_before p.line p.col q.line q.col e) (h q)

first_of : (ps : List Place) (q : Place) → IsFirst (first_from (Some q) ps) (q ∷ ps)
first_of [] q = ((0, omega arith, refl), All-cons (IsNotAfter q) q [] (upto_itself q.line q.col) (itself_only q))
first_of (p ∷ ps) q = first_step ps q p (is_before p q) refl (first_of ps)

-- the place that is kept of these is the first of them
pub first_found : (ps : List Place) → IsFirst (first_from None ps) ps
first_found [] = refl
first_found (p ∷ ps) = first_of ps p
