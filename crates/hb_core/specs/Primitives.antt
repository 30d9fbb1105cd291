-- What each primitive computes: a table by name, with the number of arguments and the rule. Arithmetic is modulo 2^32.
use Rattle.std.specs.Prelude.{ℕ, ◌+◌, ◌-◌, ◌*◌, ◌/◌, ◌%◌, ◌^◌, ◌==◌, nat_lt, bit_and, bit_or, bit_xor, Bool, cond, List, [], ◌∷◌, ◌++◌, take, drop, Option, Some, None, option_and_then}
use Rattle.hb_types.specs.Types.{Ty}
use Rattle.hb_bits.specs.Bits.{digits, number as number_of_bits}
use Rattle.hb_core.specs.Prims as prim
use Rattle.hb_core.specs.Prims.{Prim}
use Rattle.hb_core.specs.TypeForms.{type_number}
use Rattle.hb_core.specs.Values.{Element, Val, Number, Pattern, Built, Reference, Acting, Vals, NoVals, MoreVals, one}
use Rattle.hb_core.specs.View.{View}

-- ---- what primitives give

-- `False` is the bit 0 and `True` the bit 1
abbrev pub truth : Bool → Val
truth b = Pattern (b ∷ [])

abbrev pub nothing : View → Val
nothing P = Built P.nothing NoVals

abbrev pub just : View → Val → Val
just P v = Built P.just (one v)

-- `Just` the number where the test holds
abbrev pub just_where : View → Bool → ℕ → Val
just_where P test k = cond test (just P (Number k)) (nothing P)

-- ---- rules

-- nothing is due of a primitive but its value, or it is an action of so many arguments
pub data Work : Type 0 where
  AtOnce : (List Ty → Option Val) → Work
  OfOne : (List Ty → Val → Option Val) → Work
  OfTwo : (List Ty → Val → Val → Option Val) → Work
  AnAction : ℕ → Work

abbrev pub number_rule : (ℕ → Val) → Val → Option Val
number_rule f (Number x) = Some (f x)
number_rule f v = None

abbrev pub numbers_rule : (ℕ → ℕ → Val) → Val → Val → Option Val
numbers_rule f (Number x) (Number y) = Some (f x y)
numbers_rule f v w = None

abbrev pub bits_rule : (List Bool → Val) → Val → Option Val
bits_rule f (Pattern bits) = Some (f bits)
bits_rule f v = None

abbrev pub two_bits_rule : (List Bool → List Bool → Val) → Val → Val → Option Val
two_bits_rule f (Pattern high) (Pattern low) = Some (f high low)
two_bits_rule f v w = None

abbrev pub element_rule : Val → Val → Option Val
element_rule (Reference area path) (Number i) = Some (Reference area (path ++ Element i ∷ []))
element_rule v w = None

-- a rule that needs the number that the first type is
abbrev pub with_number : List Ty → (ℕ → Option Val) → Option Val
with_number [] rule = None
with_number (t ∷ ts) rule = option_and_then rule (type_number t)

abbrev pub number : (ℕ → Val) → Work
number f = OfOne (λ ts. number_rule f)

abbrev pub words : (ℕ → ℕ → ℕ) → Work
words f = OfTwo (λ ts. numbers_rule (λ x y. Number (f x y)))

abbrev pub test : (ℕ → ℕ → Bool) → Work
test f = OfTwo (λ ts. numbers_rule (λ x y. truth (f x y)))

abbrev pub bits : (List Bool → Val) → Work
bits f = OfOne (λ ts. bits_rule f)

-- at a number n, as the first type
abbrev pub at_number : (ℕ → Val → Option Val) → Work
at_number rule = OfOne (λ ts v. with_number ts (λ n. rule n v))

-- ---- the table

abbrev pub word : ℕ → ℕ
word x = x % 2 ^ 32

-- 32 bits as a signed number, in the order of these
abbrev pub above_least : ℕ → ℕ
above_least x = word (x + 2 ^ 31)

abbrev pub incremented : View → ℕ → ℕ → Val
incremented P n i = just_where P (nat_lt (i + 1) n) (i + 1)

abbrev pub decremented : View → ℕ → Val
decremented P i = just_where P (nat_lt 0 i) (i - 1)

abbrev pub work : View → Prim → Work
work P prim.AddU = words (λ x y. word (x + y))
work P prim.SubU = words (λ x y. word (x + 2 ^ 32 - y))
work P prim.MulU = words (λ x y. word (x * y))
work P prim.AndU = words bit_and
work P prim.OrU = words bit_or
work P prim.XorU = words bit_xor
work P prim.NotU = number (λ x. Number (2 ^ 32 - 1 - x))
work P prim.ShlU = words (λ x i. word (x * 2 ^ i))
work P prim.ShrU = words (λ x i. x / 2 ^ i)
work P prim.DivU = words (λ x y. x / y)
work P prim.RemU = words (λ x y. x % y)
work P prim.EqU = test (λ x y. x == y)
work P prim.LtU = test nat_lt
work P prim.LtS = test (λ x y. nat_lt (above_least x) (above_least y))
work P prim.ToSigned = number Number
work P prim.FromSigned = number Number
work P prim.NonZero = number (λ x. just_where P (nat_lt 0 x) x)
work P prim.FromNonZero = number Number
work P prim.FromBit = bits (λ b. Number (number_of_bits b))
work P prim.ToBit = at_number (λ n. number_rule (λ x. Pattern (digits n x)))
work P prim.JoinBits = OfTwo (λ ts. two_bits_rule (λ high low. Pattern (high ++ low)))
work P prim.HighBits = at_number (λ n. bits_rule (λ b. Pattern (take n b)))
work P prim.LowBits = at_number (λ n. bits_rule (λ b. Pattern (drop n b)))
work P prim.BitsOf = bits Pattern
work P prim.OfBits = bits Pattern
work P prim.FromIx = number Number
work P prim.ToIx = at_number (λ n. number_rule (λ x. just_where P (nat_lt x n) x))
work P prim.FirstIx = AtOnce (λ ts. Some (Number 0))
work P prim.LastIx = AtOnce (λ ts. with_number ts (λ n. Some (Number (n - 1))))
work P prim.IncIx = at_number (λ n. number_rule (incremented P n))
work P prim.DecIx = number (decremented P)
work P prim.ElemRef = OfTwo (λ ts. element_rule)
work P prim.ReadRef = AnAction 1
work P prim.WriteRef = AnAction 2
work P prim.ReadPort = AnAction 1
work P prim.WritePort = AnAction 2
work P prim.Return = AnAction 1
work P prim.Halt = AnAction 1

-- ---- how many arguments, and the value of all of them

abbrev pub work_arity : Work → ℕ
work_arity (AtOnce rule) = 0
work_arity (OfOne rule) = 1
work_arity (OfTwo rule) = 2
work_arity (AnAction n) = n

abbrev pub arity : View → Prim → ℕ
arity P p = work_arity (work P p)

-- an action with all its arguments is a value, and waits to be run
abbrev pub worked : Prim → Work → List Ty → Vals → Option Val
worked p (AtOnce rule) ts NoVals = rule ts
worked p (AtOnce rule) ts (MoreVals v vs) = None
worked p (OfOne rule) ts (MoreVals v NoVals) = rule ts v
worked p (OfOne rule) ts vs = None
worked p (OfTwo rule) ts (MoreVals v (MoreVals w NoVals)) = rule ts v w
worked p (OfTwo rule) ts vs = None
worked p (AnAction n) ts vs = Some (Acting p ts vs)

abbrev pub computed : View → Prim → List Ty → Vals → Option Val
computed P p ts vs = worked p (work P p) ts vs
