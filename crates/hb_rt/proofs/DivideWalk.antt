-- The walk through the routine for division.
use Rattle.std.proofs.Common.{◌≡◌, ◌≢◌, ℕ, zero, suc, ◌+◌, ◌-◌, ◌*◌, ◌/◌, ◌%◌, ◌<◌, ◌≤◌, ◌^◌, ◌==◌, Bool, true, false, not, List, [], ◌∷◌, pos, negsuc, refl, ap, sym, ◌∙◌, subst, inl, inr, arith, rules, nat_lt}
use Rattle.std.specs.Prelude.{if◌then◌else◌, bit_and}
use Rattle.std.proofs.lemmas.Bool.{eq-eqb, ne_eqb, cases_lt, cond_both, ltb-true, ltb-false}
use Rattle.std.proofs.lemmas.Int.{ints}
use Rattle.std.proofs.lemmas.Nat.{and_mask, and_comm, div-mul-add, mod-mul-add, mul-le, pow_pos}
use Rattle.std.proofs.Math.Nat.{pow-suc, le_refl}
use Rattle.hb_asm.specs.declared.instr.AluOp.TheVariants.{Add, Sub, Sll, Srl, Sltu, And}
use Rattle.hb_asm.specs.declared.instr.BranchOp.TheVariants.{Bne}
use Rattle.hb_asm.specs.declared.instr.Instr.{Instr}
use Rattle.hb_asm.specs.declared.instr.Instr.TheVariants.{OpImm, Op, Branch}
use Rattle.hb_asm.specs.Arithmetic.{alu_of, is_taken, wrapped}
use Rattle.hb_isa.specs.State.{State, register}
use Rattle.hb_rt.specs.Divide.{Divides, divide_length, divide_steps, divide_changes}
use Rattle.hb_rt.specs.Routine.{IsRunning, IsPlain, StandsAtPc, Passes}
use Rattle.hb_rt.proofs.Slots.{Slots, At5, At6, At7, At10, At11, At28, slots_of, look_kept, AreWords}
use Rattle.hb_rt.proofs.Walk.{At, Walks, Walks-join, Walks-then, effects, Segment, walk, branch, begin, holds, finish}

abbrev pub body : List Instr
body =
    OpImm Sll 5 5 (pos 1)
    ∷ OpImm Srl 28 10 (pos 31)
    ∷ Op Add 5 5 28
    ∷ OpImm Sll 10 10 (pos 1)
    ∷ OpImm Sll 7 7 (pos 1)
    ∷ Op Sltu 28 5 11
    ∷ OpImm Add 28 28 (negsuc 0)
    ∷ Op Sub 7 7 28
    ∷ Op And 28 28 11
    ∷ Op Sub 5 5 28
    ∷ OpImm Add 6 6 (negsuc 0)
    ∷ []

abbrev pub routine : List Instr
routine =
    OpImm Add 5 0 (pos 0)
    ∷ OpImm Add 6 0 (pos 32)
    ∷ OpImm Add 7 0 (pos 0)
    ∷ OpImm Sll 5 5 (pos 1)
    ∷ OpImm Srl 28 10 (pos 31)
    ∷ Op Add 5 5 28
    ∷ OpImm Sll 10 10 (pos 1)
    ∷ OpImm Sll 7 7 (pos 1)
    ∷ Op Sltu 28 5 11
    ∷ OpImm Add 28 28 (negsuc 0)
    ∷ Op Sub 7 7 28
    ∷ Op And 28 28 11
    ∷ Op Sub 5 5 28
    ∷ OpImm Add 6 6 (negsuc 0)
    ∷ Branch Bne 6 0 (negsuc 43)
    ∷ OpImm Add 10 7 (pos 0)
    ∷ OpImm Add 11 5 (pos 0)
    ∷ []

body_segment : Segment routine 3 body
body_segment = search (rules, At5, At6, At7, At10, At28) depth 20

plain : IsPlain routine divide_length
plain = record { short = search rules; in_range = search rules; computing = search rules }

-- ---- a turn of the loop

-- one bit of the quotient is found: the remainder and the dividend's next bit, without the divisor so often
record Turns (f g : Slots) : Type 0 where
  bit : ℕ
  one : bit < 2
  remainder : g.x5 + bit * f.x11 ≡ f.x5 * 2 + f.x10 / 2 ^ 31
  below : g.x5 < f.x11
  quotient : g.x7 ≡ f.x7 * 2 + bit
  dividend : g.x10 ≡ (f.x10 * 2) % 2 ^ 32
  count : g.x6 ≡ f.x6 - 1
  divisor : g.x11 ≡ f.x11
  word : g.x28 < 2 ^ 32

-- what the body leaves, where the comparison has given this number
abbrev shape : Slots → ℕ → Slots
shape f s = record {
  x5 = wrapped (wrapped (wrapped (f.x5 * 2) + f.x10 / 2147483648) + (4294967296 - bit_and (wrapped (s + 4294967295)) f.x11));
  x6 = wrapped (f.x6 + 4294967295);
  x7 = wrapped (wrapped (f.x7 * 2) + (4294967296 - wrapped (s + 4294967295)));
  x10 = wrapped (f.x10 * 2);
  x11 = f.x11;
  x28 = bit_and (wrapped (s + 4294967295)) f.x11;
}

compared : Slots → ℕ
compared f = if nat_lt (wrapped (wrapped (f.x5 * 2) + f.x10 / 2147483648)) f.x11 then 1 else 0

body_shape : (start : State) (f : Slots) → effects (register start) body f ≡ shape f (compared f)
unfolding alu_of compared
body_shape start f = refl

all_ones : (d : ℕ) → d < 2 ^ 32 → bit_and 4294967295 d ≡ d
all_ones d h =
    let cut : bit_and 4294967295 d ≡ d % 2 ^ 32 = and_comm 4294967295 d ∙ and_mask d 32 in
    cut ∙ (omega arith)

shape_turns :
    (f : Slots)
    → AreWords f
    → f.x5 < f.x11
    → f.x5 * 2 + f.x10 / 2 ^ 31 < 2 ^ 32
    → f.x7 * 2 + 1 < 2 ^ 32
    → 0 < f.x6
    → Turns f (shape f (compared f))
unfolding compared
shape_turns f w below fits more left =
    let d : ℕ = f.x11 in
    let r : ℕ = wrapped (wrapped (f.x5 * 2) + f.x10 / 2147483648) in
    let full : bit_and 4294967295 d ≡ d = all_ones d w.x11 in
    let is : r ≡ f.x5 * 2 + f.x10 / 2147483648 = omega arith in
    let next : f.x10 / 2147483648 < 2 = omega (arith, w.x10) in
    let few : f.x6 < 4294967296 = w.x6 in
    let small : d < 4294967296 = w.x11 in
    cond_both (nat_lt r d) 1 0 (λ s. Turns f (shape f s))
    (λ t.
    let lt : r < d = ltb-true r d t in
    record {
      bit = 0;
      one = omega arith;
      remainder = omega arith;
      below = omega arith;
      quotient = omega arith;
      dividend = refl;
      count = omega arith;
      divisor = refl;
      word = omega arith;
    })
    (λ t.
    let ge : d ≤ r = ltb-false r d t in
    record {
      bit = 1;
      one = omega arith;
      remainder = omega arith;
      below = omega arith;
      quotient = omega arith;
      dividend = refl;
      count = omega arith;
      divisor = refl;
      word = omega arith;
    })

-- ---- long division

-- k bits of the dividend are left, at the top of x10; what is above them is divided
record Divided (dividend divisor k : ℕ) (f : Slots) : Type 0 where
  count : f.x6 ≡ k
  same : f.x11 ≡ divisor
  left : ℕ
  scale : ℕ
  few : left < 2 ^ k
  scaled : scale * 2 ^ k ≡ 2 ^ 32
  shifted : f.x10 ≡ left * scale
  whole : (f.x7 * divisor + f.x5) * 2 ^ k + left ≡ dividend
  below : f.x5 < divisor

-- the highest of the bits that are left, and the others
split : (y h : ℕ) → y < h * 2 → (top : ℕ) × (rest : ℕ) × (top < 2) × (rest < h) × (y ≡ top * h + rest)
split y h small =
    elim (cases_lt y h) [
      | inl lt ↦ (0, y, omega arith, lt, omega arith)
      | inr ge ↦ (1, y - h, omega arith, omega arith, omega arith)
    ]

-- the bits that are left, at the top of a word
halved : (p h : ℕ) → p * (h * 2) ≡ 2 ^ 32 → p * h ≡ 2 ^ 31
halved p h e = omega arith

at_top :
    (y top rest h p : ℕ) → y ≡ top * h + rest → p * h ≡ 2 ^ 31 → y * p ≡ top * 2 ^ 31 + rest * p
at_top y top rest h p e s =
    ap (λ z. z * p) e ∙ (grind arith)

rest_below : (rest h p : ℕ) → rest < h → p * h ≡ 2 ^ 31 → rest * p < 2 ^ 31
rest_below rest h zero a s = absurd (omega arith)
rest_below rest h (suc p) a s = omega (arith, mul-le (suc rest) (suc p) h (suc p) a (le_refl (suc p)))

-- what has been divided, with one bit more, is no more than the dividend
no_more :
    (z top rest h dividend : ℕ) → 0 < h → z * (h * 2) + (top * h + rest) ≡ dividend → z * 2 + top ≤ dividend
no_more z top rest h dividend a e =
    let grows : (z * 2 + top) * 1 ≤ (z * 2 + top) * h = mul-le (z * 2 + top) 1 (z * 2 + top) h (le_refl (z * 2 + top)) a in
    omega arith

no_less : (q d : ℕ) → 0 < d → q ≤ q * d
no_less q d a = let grows : q * 1 ≤ q * d = mul-le q 1 q d (le_refl q) a in omega arith

-- the highest bit that is left, and what follows from it
record Halves (j : ℕ) (f : Slots) (scale left : ℕ) : Type 0 where
  top : ℕ
  rest : ℕ
  few : rest < 2 ^ j
  is : left ≡ top * 2 ^ j + rest
  scaled : scale * 2 ^ j ≡ 2 ^ 31
  digit : f.x10 / 2 ^ 31 ≡ top
  shifted : (f.x10 * 2) % 2 ^ 32 ≡ rest * (scale * 2)
  fits : f.x5 * 2 + f.x10 / 2 ^ 31 < 2 ^ 32
  more : f.x7 * 2 + 1 < 2 ^ 32

halves :
    (dividend divisor j : ℕ) (f : Slots) (d : Divided dividend divisor (suc j) f)
    → dividend < 2 ^ 32
    → Halves j f d.scale d.left
halves dividend divisor j f d fits =
    let h : ℕ = 2 ^ j in
    let twice : 2 ^ suc j ≡ h * 2 = pow-suc 2 j in
    let s = split d.left h (subst (λ x. d.left < x) twice d.few) in
    let top : ℕ = s.0 in
    let rest : ℕ = s.1 in
    let one_bit : top < 2 = s.2 in
    let is : d.left ≡ top * h + rest = s.4 in
    let scaled : d.scale * h ≡ 2 ^ 31 = halved d.scale h (ap (λ x. d.scale * x) (sym twice) ∙ d.scaled) in
    let low : rest * d.scale < 2 ^ 31 = rest_below rest h d.scale s.3 scaled in
    let word : f.x10 ≡ top * 2 ^ 31 + rest * d.scale = d.shifted ∙ at_top d.left top rest h d.scale is scaled in
    let digit : f.x10 / 2 ^ 31 ≡ top = omega arith in
    let done : (f.x7 * divisor + f.x5) * (h * 2) + (top * h + rest) ≡ dividend =
    ap (λ x. (f.x7 * divisor + f.x5) * x + (top * h + rest)) (sym twice)
    ∙ (ap (λ x. (f.x7 * divisor + f.x5) * 2 ^ suc j + x) (sym is) ∙ d.whole) in
    let bound : (f.x7 * divisor + f.x5) * 2 + top ≤ dividend =
    no_more (f.x7 * divisor + f.x5) top rest h dividend (pow_pos j) done in
    let quotient : f.x7 ≤ f.x7 * divisor = no_less f.x7 divisor (omega (arith, d.below)) in
    record {
      top = top;
      rest = rest;
      few = s.3;
      is = is;
      scaled = scaled;
      digit = digit;
      shifted = omega arith;
      fits = omega arith;
      more = omega arith;
    }

recombined :
    (q r q' r' d bit top h rest dividend : ℕ)
    → q' ≡ q * 2 + bit
    → r' + bit * d ≡ r * 2 + top
    → (q * d + r) * (h * 2) + (top * h + rest) ≡ dividend
    → (q' * d + r') * h + rest ≡ dividend
recombined q r q' r' d bit top h rest dividend a b e =
    let spread : q' * d ≡ (q * 2 + bit) * d = ap (λ x. x * d) a in
    let divided : q' * d + r' ≡ (q * d + r) * 2 + top = omega arith in
    ap (λ x. x * h + rest) divided ∙ (omega arith)

-- one bit less is left
next :
    (dividend divisor j : ℕ) (f g : Slots) (d : Divided dividend divisor (suc j) f)
    → Halves j f d.scale d.left
    → Turns f g
    → Divided dividend divisor j g
next dividend divisor j f g d hs ts =
    let h : ℕ = 2 ^ j in
    let twice : 2 ^ suc j ≡ h * 2 = pow-suc 2 j in
    let whole : (f.x7 * f.x11 + f.x5) * (h * 2) + (hs.top * h + hs.rest) ≡ dividend =
    ap (λ x. (f.x7 * x + f.x5) * (h * 2) + (hs.top * h + hs.rest)) d.same
    ∙ (ap (λ x. (f.x7 * divisor + f.x5) * x + (hs.top * h + hs.rest)) (sym twice)
    ∙ (ap (λ x. (f.x7 * divisor + f.x5) * 2 ^ suc j + x) (sym hs.is) ∙ d.whole)) in
    let digit : g.x5 + ts.bit * f.x11 ≡ f.x5 * 2 + hs.top = ts.remainder ∙ ap (λ x. f.x5 * 2 + x) hs.digit in
    record {
      count = omega (arith, ts.count, d.count);
      same = ts.divisor ∙ d.same;
      left = hs.rest;
      scale = d.scale * 2;
      few = hs.few;
      scaled = omega (arith, hs.scaled);
      shifted = ts.dividend ∙ hs.shifted;
      whole =
          ap (λ x. (g.x7 * x + g.x5) * h + hs.rest) (sym d.same)
          ∙ recombined f.x7 f.x5 g.x7 g.x5 f.x11 ts.bit hs.top h hs.rest dividend ts.quotient digit whole;
      below = subst (λ x. g.x5 < x) d.same ts.below;
    }

turned_words :
    (j scale left : ℕ) (f g : Slots) → Turns f g → Halves j f scale left → AreWords f → AreWords g
turned_words j scale left f g ts hs w =
    record {
      x5 = omega (arith, ts.below, w.x11);
      x6 = omega (arith, ts.count, w.x6);
      x7 = omega (arith, ts.quotient, ts.one, hs.more);
      x10 = omega (arith, ts.dividend);
      x11 = omega (arith, ts.divisor, w.x11);
      x28 = ts.word;
    }

turn :
    (start : State) (f : Slots) (t : State) (taken : Bool)
    → StandsAtPc routine start
    → At start 3 f t
    → not ((shape f (compared f)).x6 == 0) ≡ taken
    → Walks routine start 12 t (if taken then 3 else 15) (shape f (compared f))
unfolding is_taken
turn start f t taken stands at test =
    let g : Slots = shape f (compared f) in
    Walks-join routine start 11 1 t 14 (if taken then 3 else 15) g g
    (subst
    (λ x. Walks routine start 11 t 14 x)
    (body_shape start f)
    (walk body routine start 3 f t stands at body_segment))
    (λ u there.
    branch routine start 14 3 g u Bne 6 0 (negsuc 43) taken stands there refl (search rules) test
    (omega (arith, ints, there.pc, stands.pc, stands.low)))

-- the loop, and what it leaves
record Loops (dividend divisor : ℕ) (start : State) (m : ℕ) (t : State) : Type 0 where
  slots : Slots
  walks : Walks routine start (12 * m) t 15 slots
  divided : Divided dividend divisor 0 slots
  words : AreWords slots

loop :
    (j dividend divisor : ℕ) (start : State) (f : Slots) (t : State)
    → dividend < 2 ^ 32
    → StandsAtPc routine start
    → AreWords f
    → At start 3 f t
    → Divided dividend divisor (suc j) f
    → Loops dividend divisor start (suc j) t
loop zero dividend divisor start f t fits stands words at d =
    let hs = halves dividend divisor 0 f d fits in
    let g : Slots = shape f (compared f) in
    let ts = shape_turns f words (omega (arith, d.below, d.same)) hs.fits hs.more (omega (arith, d.count)) in
    let rest = next dividend divisor 0 f g d hs ts in
    record {
      slots = g;
      walks = turn start f t false stands at (ap not (eq-eqb g.x6 0 rest.count));
      divided = rest;
      words = turned_words 0 d.scale d.left f g ts hs words;
    }
loop (suc j) dividend divisor start f t fits stands words at d =
    let hs = halves dividend divisor (suc j) f d fits in
    let g : Slots = shape f (compared f) in
    let ts = shape_turns f words (omega (arith, d.below, d.same)) hs.fits hs.more (omega (arith, d.count)) in
    let rest = next dividend divisor (suc j) f g d hs ts in
    let nonzero : g.x6 ≡ 0 → ⊥ = λ e. let c : g.x6 ≡ suc j = rest.count in omega arith in
    let first = turn start f t true stands at (ap not (ne_eqb g.x6 0 nonzero)) in
    let words' = turned_words (suc j) d.scale d.left f g ts hs words in
    let others = loop j dividend divisor start g first.end fits stands words' first.at rest in
    let count : 12 + 12 * suc j ≡ 12 * suc (suc j) = omega arith in
    record {
      slots = others.slots;
      walks =
          subst
          (λ n. Walks routine start n t 15 others.slots)
          count
          (Walks-then routine start 12 (12 * suc j) t 3 15 g others.slots first others.walks);
      divided = others.divided;
      words = others.words;
    }

-- nothing is left: quotient and remainder stand
divided_out :
    (dividend divisor : ℕ) (f : Slots)
    → Divided dividend divisor 0 f
    → (f.x7 ≡ dividend / divisor) × (f.x5 ≡ dividend % divisor)
divided_out dividend divisor f d =
    let none : d.left < 1 = d.few in
    let whole : f.x7 * divisor + f.x5 ≡ dividend = omega (arith, d.whole) in (
      sym (div-mul-add f.x7 divisor f.x5 d.below) ∙ ap (λ n. n / divisor) whole,
      sym (mod-mul-add f.x7 divisor f.x5 d.below) ∙ ap (λ n. n % divisor) whole,
    )

-- the slots at the loop's first turn
cleared : Slots → Slots
cleared f = record f { x5 = 0; x6 = 32; x7 = 0 }

first_divided :
    (rest : ℕ → ℕ)
    → rest 10 < 2 ^ 32
    → rest 11 ≢ 0
    → Divided (rest 10) (rest 11) 32 (cleared (slots_of rest))
unfolding cleared
first_divided rest fits nonzero =
    record {
      count = refl;
      same = refl;
      left = rest 10;
      scale = 1;
      few = fits;
      scaled = refl;
      shifted = omega arith;
      whole = omega arith;
      below = omega arith;
    }

-- from the start to the loop, through it, and out
quotient :
    (start : State)
    → IsRunning start
    → StandsAtPc routine start
    → register start 11 ≢ 0
    → Passes
    routine
    divide_steps
    divide_changes
    (λ t.
    (register t 10 ≡ register start 10 / register start 11) × (register t 11 ≡ register start 10 % register start 11))
    start
unfolding alu_of cleared
quotient start running stands nonzero =
    let rest : ℕ → ℕ = register start in
    let f : Slots = cleared (slots_of rest) in
    let enter : Walks routine start 3 start 3 f =
    walk
    (OpImm Add 5 0 (pos 0) ∷ OpImm Add 6 0 (pos 32) ∷ OpImm Add 7 0 (pos 0) ∷ [])
    routine
    start
    0
    (slots_of rest)
    start
    stands
    (begin start running)
    (search (rules, At5, At6, At7)) in
    let words : AreWords f =
    record {
      x5 = omega arith;
      x6 = omega arith;
      x7 = omega arith;
      x10 = running.words 10;
      x11 = running.words 11;
      x28 = running.words 28;
    } in
    let turns =
    loop 31 (rest 10) (rest 11) start f enter.end (running.words 10) stands words enter.at
    (first_divided rest (running.words 10) nonzero) in
    let g : Slots = turns.slots in
    let h : Slots = record g { x10 = (g.x7 + 0) % 2 ^ 32; x11 = (g.x5 + 0) % 2 ^ 32 } in
    let leave : Walks routine start 2 turns.walks.end 17 h =
    walk
    (OpImm Add 10 7 (pos 0) ∷ OpImm Add 11 5 (pos 0) ∷ [])
    routine
    start
    15
    g
    turns.walks.end
    stands
    turns.walks.at
    (search (rules, At10, At11)) in
    let through = Walks-then routine start 384 2 enter.end 15 17 g h turns.walks leave in
    let whole = Walks-then routine start 3 386 start 3 17 f h enter through in
    let results = divided_out (rest 10) (rest 11) g turns.divided in
    let first : (g.x7 + 0) % 2 ^ 32 ≡ rest 10 / rest 11 = omega (arith, turns.words.x7, results.0) in
    let second : (g.x5 + 0) % 2 ^ 32 ≡ rest 10 % rest 11 = omega (arith, turns.words.x5, results.1) in
    record {
      steps = 389;
      end = whole.end;
      few = omega arith;
      leads = whole.leads;
      leaves =
          finish routine divide_changes start h whole.end running whole.at
          (record {
            x5 = turns.words.x5;
            x6 = turns.words.x6;
            x7 = turns.words.x7;
            x10 = omega arith;
            x11 = omega arith;
            x28 = turns.words.x28;
          })
          (λ r out.
          look_kept h rest r
          (λ e. absurd (out (0, omega arith, sym e)))
          (λ e. absurd (out (1, omega arith, sym e)))
          (λ e. absurd (out (2, omega arith, sym e)))
          (λ e. absurd (out (3, omega arith, sym e)))
          (λ e. absurd (out (4, omega arith, sym e)))
          (λ e. absurd (out (5, omega arith, sym e))));
      result = (
        holds start 17 h whole.end 10 (rest 10 / rest 11) whole.at first,
        holds start 17 h whole.end 11 (rest 10 % rest 11) whole.at second,
      );
    }

pub divides : Divides routine
divides = record { plain = plain; quotient = quotient }
