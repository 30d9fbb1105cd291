-- The walk through the routine for multiplication.
use Rattle.std.proofs.Common.{◌≡◌, ℕ, zero, suc, ◌+◌, ◌-◌, ◌*◌, ◌/◌, ◌%◌, ◌<◌, ◌≤◌, ◌^◌, ◌==◌, Bool, true, false, not, List, [], ◌∷◌, pos, negsuc, refl, ap, sym, ◌∙◌, subst, inl, inr, arith, rules}
use Rattle.std.specs.Prelude.{if◌then◌else◌, bit_and}
use Rattle.std.proofs.lemmas.Bool.{eqb-true, eq-eqb, cases_Bool}
use Rattle.std.proofs.lemmas.Int.{ints}
use Rattle.std.proofs.lemmas.Nat.{and_mask, and_comm, mul-mod_first}
use Rattle.std.proofs.Math.Nat.{pow-suc}
use Rattle.hb_asm.specs.declared.instr.AluOp.TheVariants.{Add, Sub, Sll, Srl, And}
use Rattle.hb_asm.specs.declared.instr.BranchOp.TheVariants.{Bne}
use Rattle.hb_asm.specs.declared.instr.Instr.{Instr}
use Rattle.hb_asm.specs.declared.instr.Instr.TheVariants.{OpImm, Op, Branch}
use Rattle.hb_asm.specs.Arithmetic.{alu_of, is_taken, wrapped}
use Rattle.hb_isa.specs.State.{State, register}
use Rattle.hb_rt.specs.Multiply.{Multiplies, multiply_length, multiply_steps, multiply_changes}
use Rattle.hb_rt.specs.Routine.{IsRunning, IsPlain, StandsAtPc, Passes}
use Rattle.hb_rt.proofs.Slots.{Slots, At5, At6, At10, At11, slots_of, look_kept, AreWords}
use Rattle.hb_rt.proofs.Walk.{At, Walks, Walks-join, Walks-then, effects, Segment, walk, branch, begin, holds, finish}

abbrev pub body : List Instr
body =
    OpImm And 6 11 (pos 1)
    ∷ Op Sub 6 0 6
    ∷ Op And 6 6 10
    ∷ Op Add 5 5 6
    ∷ OpImm Sll 10 10 (pos 1)
    ∷ OpImm Srl 11 11 (pos 1)
    ∷ []

abbrev pub routine : List Instr
routine =
    OpImm Add 5 0 (pos 0)
    ∷ OpImm And 6 11 (pos 1)
    ∷ Op Sub 6 0 6
    ∷ Op And 6 6 10
    ∷ Op Add 5 5 6
    ∷ OpImm Sll 10 10 (pos 1)
    ∷ OpImm Srl 11 11 (pos 1)
    ∷ Branch Bne 11 0 (negsuc 23)
    ∷ OpImm Add 10 5 (pos 0)
    ∷ []

-- ---- numbers

-- all ones or none, as a mask
masked : (bit a : ℕ) → bit < 2 → a < 2 ^ 32 → bit_and ((0 + (2 ^ 32 - bit)) % 2 ^ 32) a ≡ bit * a
masked zero a b h = omega arith
masked (suc zero) a b h =
    let ones : bit_and (2 ^ 32 - 1) a ≡ a % 2 ^ 32 = and_comm (2 ^ 32 - 1) a ∙ and_mask a 32 in
    ones ∙ (omega arith)
masked (suc (suc n)) a b h = absurd (omega arith)

bit_times_word : (bit a : ℕ) → bit < 2 → a < 2 ^ 32 → bit * a < 2 ^ 32
bit_times_word zero a b h = omega arith
bit_times_word (suc zero) a b h = omega arith
bit_times_word (suc (suc n)) a b h = absurd (omega arith)

last_bit : (b : ℕ) → bit_and b 1 ≡ b % 2
last_bit b = and_mask b 1

-- a summand that wraps changes nothing
add_wrapped : (x y z : ℕ) → y % 2 ^ 32 ≡ z % 2 ^ 32 → (x % 2 ^ 32 + y) % 2 ^ 32 ≡ (x + z) % 2 ^ 32
add_wrapped x y z e = omega arith

by_halves : (c a b : ℕ) → c + (b % 2) * a + a * 2 * (b / 2) ≡ c + a * b
by_halves c a b =
    let split : b / 2 * 2 + b % 2 ≡ b = omega arith in
    let spread : c + (b % 2) * a + a * 2 * (b / 2) ≡ c + a * (b / 2 * 2 + b % 2) = omega arith in
    spread ∙ ap (λ x. c + a * x) split

sum_of_turns :
    (c a b : ℕ) → ((c + (b % 2) * a) % 2 ^ 32 + ((a * 2) % 2 ^ 32) * (b / 2)) % 2 ^ 32 ≡ (c + a * b) % 2 ^ 32
sum_of_turns c a b =
    let q : ℕ = b / 2 in
    let x : ℕ = c + (b % 2) * a in
    let y : ℕ = a * 2 in
    let inner : (y % 2 ^ 32 * q) % 2 ^ 32 ≡ (y * q) % 2 ^ 32 = mul-mod_first y q (2 ^ 32) in
    let whole : x + y * q ≡ c + a * b = by_halves c a b in
    add_wrapped x (y % 2 ^ 32 * q) (y * q) inner ∙ ap (λ n. n % 2 ^ 32) whole

-- ---- a turn of the loop

-- what the body leaves
abbrev turned : Slots → Slots
turned f = record f {
  x5 = (f.x5 + (f.x11 % 2) * f.x10) % 2 ^ 32;
  x6 = (f.x11 % 2) * f.x10;
  x10 = (f.x10 * 2) % 2 ^ 32;
  x11 = f.x11 / 2;
}

body_turns : (start : State) (f : Slots) → f.x10 < 2 ^ 32 → effects (register start) body f ≡ turned f
unfolding alu_of
body_turns start f h =
    let mask : bit_and (wrapped (0 + (2 ^ 32 - bit_and f.x11 1))) f.x10 ≡ (f.x11 % 2) * f.x10 =
    ap (λ x. bit_and (wrapped (0 + (2 ^ 32 - x))) f.x10) (last_bit f.x11)
    ∙ masked (f.x11 % 2) f.x10 (omega arith) h in
    ap (λ x. record f { x5 = (f.x5 + x) % 2 ^ 32; x6 = x; x10 = (f.x10 * 2) % 2 ^ 32; x11 = f.x11 / 2 }) mask

turned_words : (f : Slots) → AreWords f → AreWords (turned f)
turned_words f w =
    record {
      x5 = omega arith;
      x6 = bit_times_word (f.x11 % 2) f.x10 (omega arith) w.x10;
      x7 = w.x7;
      x10 = omega arith;
      x11 = omega (arith, w.x11);
      x28 = w.x28;
    }

body_segment : Segment routine 1 body
body_segment = search (rules, At5, At6, At10, At11) depth 12

-- the loop leaves the sum, and has taken at most 7 steps for each bit of the second factor
record Loops (start : State) (m : ℕ) (t : State) (f : Slots) : Type 0 where
  steps : ℕ
  slots : Slots
  few : steps ≤ 7 * m
  walks : Walks routine start steps t 8 slots
  sum : slots.x5 ≡ (f.x5 + f.x10 * f.x11) % 2 ^ 32
  words : AreWords slots
  x7 : slots.x7 ≡ f.x7
  x28 : slots.x28 ≡ f.x28

turn :
    (start : State) (f : Slots) (t : State) (taken : Bool)
    → StandsAtPc routine start
    → AreWords f
    → At start 1 f t
    → not (f.x11 / 2 == 0) ≡ taken
    → Walks routine start 7 t (if taken then 1 else 8) (turned f)
unfolding is_taken
turn start f t taken stands words at test =
    Walks-join routine start 6 1 t 7 (if taken then 1 else 8) (turned f) (turned f)
    (subst
    (λ g. Walks routine start 6 t 7 g)
    (body_turns start f words.x10)
    (walk body routine start 1 f t stands at body_segment))
    (λ u there. branch routine start 7 1 (turned f) u Bne 11 0 (negsuc 23) taken stands there refl (search rules) test (omega (arith, ints, there.pc, stands.pc, stands.low)))

-- no bit of the second factor is left
last_sum : (c a b : ℕ) → b / 2 ≡ 0 → (c + (b % 2) * a) % 2 ^ 32 ≡ (c + a * b) % 2 ^ 32
last_sum c a b e =
    let one : b % 2 ≡ b = omega arith in
    ap (λ x. (c + x * a) % 2 ^ 32) one ∙ omega arith

-- the last turn
exits :
    (m : ℕ) (start : State) (f : Slots) (t : State)
    → StandsAtPc routine start
    → AreWords f
    → At start 1 f t
    → f.x11 / 2 == 0 ≡ true
    → Loops start (suc m) t f
exits m start f t stands words at test =
    record {
      steps = 7;
      slots = turned f;
      few = omega arith;
      walks = turn start f t false stands words at (ap not test);
      sum = last_sum f.x5 f.x10 f.x11 (eqb-true (f.x11 / 2) 0 test);
      words = turned_words f words;
      x7 = refl;
      x28 = refl;
    }

-- the second factor has at most so many bits
loop :
    (m : ℕ) (start : State) (f : Slots) (t : State)
    → StandsAtPc routine start
    → AreWords f
    → At start 1 f t
    → f.x11 < 2 ^ suc m
    → Loops start (suc m) t f
loop zero start f t stands words at small =
    exits 0 start f t stands words at (eq-eqb (f.x11 / 2) 0 (omega arith))
loop (suc m) start f t stands words at small =
    elim (cases_Bool (f.x11 / 2 == 0)) [
      | inl test ↦ exits (suc m) start f t stands words at test
      | inr test ↦
          let first = turn start f t true stands words at (ap not test) in
          let half : f.x11 / 2 < 2 ^ suc m = omega (arith, pow-suc 2 (suc m)) in
          let rest = loop m start (turned f) first.end stands (turned_words f words) first.at half in
          record {
            steps = 7 + rest.steps;
            slots = rest.slots;
            few = omega (arith, rest.few);
            walks = Walks-then routine start 7 rest.steps t 1 8 (turned f) rest.slots first rest.walks;
            sum = rest.sum ∙ sum_of_turns f.x5 f.x10 f.x11;
            words = rest.words;
            x7 = rest.x7;
            x28 = rest.x28;
          }
    ]

plain : IsPlain routine multiply_length
plain = record { short = search rules; in_range = search rules; computing = search rules }

-- the slots at the loop's first turn
cleared : Slots → Slots
cleared f = record f { x5 = 0 }

-- from the start to the loop, through it, and out
product :
    (start : State)
    → IsRunning start
    → StandsAtPc routine start
    → Passes
    routine
    multiply_steps
    multiply_changes
    (λ t. register t 10 ≡ (register start 10 * register start 11) % 2 ^ 32)
    start
unfolding alu_of cleared
product start running stands =
    let rest : ℕ → ℕ = register start in
    let f : Slots = cleared (slots_of rest) in
    let enter : Walks routine start 1 start 1 f =
    walk
    (OpImm Add 5 0 (pos 0) ∷ [])
    routine
    start
    0
    (slots_of rest)
    start
    stands
    (begin start running)
    (search (rules, At5)) in
    let words : AreWords f =
    record {
      x5 = omega arith;
      x6 = running.words 6;
      x7 = running.words 7;
      x10 = running.words 10;
      x11 = running.words 11;
      x28 = running.words 28;
    } in
    let turns = loop 31 start f enter.end stands words enter.at (running.words 11) in
    let g : Slots = turns.slots in
    let h : Slots = record g { x10 = (g.x5 + 0) % 2 ^ 32 } in
    let leave : Walks routine start 1 turns.walks.end 9 h =
    walk
    (OpImm Add 10 5 (pos 0) ∷ [])
    routine
    start
    8
    g
    turns.walks.end
    stands
    turns.walks.at
    (search (rules, At10)) in
    let through = Walks-then routine start turns.steps 1 enter.end 8 9 g h turns.walks leave in
    let whole = Walks-then routine start 1 (turns.steps + 1) start 1 9 f h enter through in
    let is : (g.x5 + 0) % 2 ^ 32 ≡ (rest 10 * rest 11) % 2 ^ 32 = omega (arith, turns.words.x5, turns.sum) in
    record {
      steps = 1 + (turns.steps + 1);
      end = whole.end;
      few = omega (arith, turns.few);
      leads = whole.leads;
      leaves =
          finish routine multiply_changes start h whole.end running whole.at
          (record {
            x5 = turns.words.x5;
            x6 = turns.words.x6;
            x7 = turns.words.x7;
            x10 = omega arith;
            x11 = turns.words.x11;
            x28 = turns.words.x28;
          })
          (λ r out.
          look_kept h rest r
          (λ e. absurd (out (0, omega arith, sym e)))
          (λ e. absurd (out (1, omega arith, sym e)))
          (λ _. turns.x7)
          (λ e. absurd (out (2, omega arith, sym e)))
          (λ e. absurd (out (3, omega arith, sym e)))
          (λ _. turns.x28));
      result = holds start 9 h whole.end 10 ((rest 10 * rest 11) % 2 ^ 32) whole.at is;
    }

pub multiplies : Multiplies routine
multiplies = record { plain = plain; product = product }
