-- What the primitives compute that are no actions: a table by number. Arithmetic is modulo 2^32.
use Rattle.std.specs.Prelude.{ℕ, ◌+◌, ◌-◌, ◌*◌, ◌/◌, ◌%◌, ◌^◌, ◌==◌, nat_lt, bit_and, bit_or, bit_xor, Bool, cond, List, [], ◌∷◌, slice_get, Option, Some, None, option_and_then}
use Rattle.hb_mil_meaning.specs.Values.{Val, Number, Built, Reference, NoVals, MoreVals}

-- ---- what primitives give

abbrev pub truth : Bool → Val
truth test = Built (cond test 1 0) NoVals

-- `Just` the number where the test holds, and else `Nothing`
abbrev pub just_where : Bool → ℕ → Val
just_where test n = cond test (Built 1 (MoreVals (Number n) NoVals)) (Built 0 NoVals)

-- ---- rules

-- a value that rests on the numbers of the primitive alone, or on one argument, or on two; or an action, which computes
-- nothing
pub data Rule : Type 0 where
  OfNone : (List ℕ → Option Val) → Rule
  OfOne : (List ℕ → Val → Option Val) → Rule
  OfTwo : (List ℕ → Val → Val → Option Val) → Rule
  AnAction : Rule

abbrev pub number_rule : (ℕ → Val) → Val → Option Val
number_rule f (Number x) = Some (f x)
number_rule f v = None

abbrev pub numbers_rule : (ℕ → ℕ → Val) → Val → Val → Option Val
numbers_rule f (Number x) (Number y) = Some (f x y)
numbers_rule f v w = None

-- the element of this number, where each has so many bytes
abbrev pub element_rule : ℕ → Val → Val → Option Val
element_rule stride (Reference area offset) (Number i) = Some (Reference area (offset + i * stride))
element_rule stride v w = None

-- a rule that needs the number at a place
abbrev pub with_number : List ℕ → ℕ → (ℕ → Option Val) → Option Val
with_number numbers place rule = option_and_then rule (slice_get numbers place)

abbrev pub number : (ℕ → Val) → Rule
number f = OfOne (λ numbers. number_rule f)

abbrev pub words : (ℕ → ℕ → ℕ) → Rule
words f = OfTwo (λ numbers. numbers_rule (λ x y. Number (f x y)))

abbrev pub test : (ℕ → ℕ → Bool) → Rule
test f = OfTwo (λ numbers. numbers_rule (λ x y. truth (f x y)))

-- one argument, and the number at a place
abbrev pub number_at : ℕ → (ℕ → ℕ → Val) → Rule
number_at place f = OfOne (λ numbers v. with_number numbers place (λ n. number_rule (f n) v))

-- ---- the table

abbrev pub word : ℕ → ℕ
word x = x % 2 ^ 32

-- 32 bits as a signed number, in the order of these
abbrev pub above_least : ℕ → ℕ
above_least x = word (x + 2 ^ 31)

abbrev pub rules : List Rule
rules =
    -- addU, subU, mulU, andU, orU, xorU, notU
    words (λ x y. word (x + y))
    ∷ words (λ x y. word (x + 2 ^ 32 - y))
    ∷ words (λ x y. word (x * y))
    ∷ words bit_and
    ∷ words bit_or
    ∷ words bit_xor
    ∷ number (λ x. Number (2 ^ 32 - 1 - x))
    -- shlU, shrU, divU, remU
    ∷ words (λ x i. word (x * 2 ^ i))
    ∷ words (λ x i. x / 2 ^ i)
    ∷ words (λ x y. x / y)
    ∷ words (λ x y. x % y)
    -- eqU, ltU, ltS
    ∷ test (λ x y. x == y)
    ∷ test nat_lt
    ∷ test (λ x y. nat_lt (above_least x) (above_least y))
    -- toSigned, fromSigned, nonZero, fromNonZero, fromBit, toBit
    ∷ number Number
    ∷ number Number
    ∷ number (λ x. just_where (nat_lt 0 x) x)
    ∷ number Number
    ∷ number Number
    ∷ number_at 0 (λ width x. Number (x % 2 ^ width))
    -- joinBits, highBits, lowBits: the low ones have so many bits as the second number says
    ∷ OfTwo (λ numbers v w. with_number numbers 1 (λ low. numbers_rule (λ x y. Number (x * 2 ^ low + y)) v w))
    ∷ number_at 1 (λ low x. Number (x / 2 ^ low))
    ∷ number_at 1 (λ low x. Number (x % 2 ^ low))
    -- bitsOf, ofBits, fromIx, toIx
    ∷ number Number
    ∷ number Number
    ∷ number Number
    ∷ number_at 0 (λ n x. just_where (nat_lt x n) x)
    -- firstIx, lastIx, incIx, decIx
    ∷ OfNone (λ numbers. Some (Number 0))
    ∷ OfNone (λ numbers. with_number numbers 0 (λ n. Some (Number (n - 1))))
    ∷ number_at 0 (λ n i. just_where (nat_lt (i + 1) n) (i + 1))
    ∷ number (λ i. just_where (nat_lt 0 i) (i - 1))
    -- elemRef: the second number is the bytes of an element
    ∷ OfTwo (λ numbers v w. with_number numbers 1 (λ stride. element_rule stride v w))
    -- readRef, writeRef, readPort, writePort, return, halt
    ∷ AnAction ∷ AnAction ∷ AnAction ∷ AnAction ∷ AnAction ∷ AnAction ∷ []

-- ---- the value of all arguments

abbrev pub ruled : Rule → List ℕ → List Val → Option Val
ruled (OfNone rule) numbers [] = rule numbers
ruled (OfOne rule) numbers (v ∷ []) = rule numbers v
ruled (OfTwo rule) numbers (v ∷ w ∷ []) = rule numbers v w
ruled rule numbers vs = None

abbrev pub computed : ℕ → List ℕ → List Val → Option Val
computed primitive numbers vs = option_and_then (λ rule. ruled rule numbers vs) (slice_get rules primitive)
