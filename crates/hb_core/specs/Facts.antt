-- Facts that hold by themselves: about numbers up to 2^64 - 1, literals, bit data and cells. Other predicates are those
-- of classes.
use Rattle.std.specs.Prelude.{ℕ, zero, suc, ◌+◌, ◌*◌, ◌^◌, ◌==◌, nat_lt, nat_le, ◌&&◌, Bool, true, false, List, [], ◌∷◌, Option, Some, None, option_map, option_and_then, if◌then◌else◌}
use Rattle.hb_types.specs.Types.{Ty}
use Rattle.hb_types.specs.declared.scheme.Pred.{Pred}
use Rattle.hb_core.specs.TypeForms.{Form, Of, Unsigned, Signed, Bit, Ix, Ref, Stored, BigEndian, Declared, form, type_number, number_type, same_type}
use Rattle.hb_core.specs.View.{View}

-- the predicates in the order of their numbers: `n + m = p`, `n * m = p`, `2 ^ n = m`, `n <= m`, `Width`, `Index`,
-- `NumLit`, `BitRep`, `Cell`, and the declared ones
pub data PredForm : Type 0 where
  Sum : PredForm
  Product : PredForm
  Power : PredForm
  AtMost : PredForm
  Width : PredForm
  Index : PredForm
  NumLit : PredForm
  BitRep : PredForm
  CellOf : PredForm
  DeclaredClass : PredForm

abbrev pub pred_form : ℕ → PredForm
pred_form zero = Sum
pred_form (suc zero) = Product
pred_form (suc (suc zero)) = Power
pred_form (suc (suc (suc zero))) = AtMost
pred_form (suc (suc (suc (suc zero)))) = Width
pred_form (suc (suc (suc (suc (suc zero))))) = Index
pred_form (suc (suc (suc (suc (suc (suc zero)))))) = NumLit
pred_form (suc (suc (suc (suc (suc (suc (suc zero))))))) = BitRep
pred_form (suc (suc (suc (suc (suc (suc (suc (suc zero)))))))) = CellOf
pred_form (suc (suc (suc (suc (suc (suc (suc (suc (suc n))))))))) = DeclaredClass

-- that a number literal has this type
abbrev pub literal_at : ℕ → Ty → Pred
literal_at k t = record { class = 6; args = number_type k ∷ t ∷ [] }

-- ---- numbers

abbrev pub holds_of : {A : Type 0} → Option A → (A → Bool) → Bool
holds_of None test = false
holds_of (Some x) test = test x

-- a number that is no greater than 2^64 - 1 and as the test says
abbrev pub of_number : Ty → (ℕ → Bool) → Bool
of_number t test = holds_of (type_number t) (λ n. nat_lt n (2 ^ 64) && test n)

abbrev pub is_width : ℕ → Bool
is_width n = nat_le 1 n && nat_le n 32

abbrev pub is_index : ℕ → Bool
is_index n = nat_le 1 n && nat_le n (2 ^ 31)

-- whether a literal is in the range of a type
abbrev pub in_range : ℕ → Form → Bool
in_range k (Of Unsigned []) = nat_lt k (2 ^ 32)
in_range k (Of Signed []) = nat_lt k (2 ^ 31)
in_range k (Of Bit (t ∷ [])) = of_number t (λ n. is_width n && nat_lt k (2 ^ n))
in_range k (Of Ix (t ∷ [])) = of_number t (λ n. is_index n && nat_lt k n)
in_range k f = false

-- ---- bit data and cells

-- the width of a type that is a bitdata type
abbrev pub bit_width : View → Form → Option ℕ
bit_width P (Of (Declared t) []) = option_map (λ bits. bits.width) (P.bit_types t)
bit_width P f = None

-- the bytes of a cell of so many bits
abbrev pub bytes_of : ℕ → Option ℕ
bytes_of width = if width == 8 then Some 1 else if width == 16 then Some 2 else if width == 32 then Some 4 else None

-- the bytes of a cell, which are its alignment too: none where values of the type are not stored
abbrev pub cell_bytes : View → Form → Option ℕ
cell_bytes P (Of Unsigned []) = Some 4
cell_bytes P (Of Signed []) = Some 4
cell_bytes P (Of Ix (n ∷ [])) = Some 4
cell_bytes P (Of Ref (a ∷ [])) = Some 4
cell_bytes P (Of Bit (n ∷ [])) = option_and_then bytes_of (type_number n)
cell_bytes P f = option_and_then bytes_of (bit_width P f)

-- the type of what a cell holds
abbrev pub cell_type : Form → Option Ty
cell_type (Of Stored (t ∷ [])) = Some t
cell_type (Of BigEndian (t ∷ [])) = Some t
cell_type f = None

-- ---- the facts

abbrev pub holds_at : View → PredForm → List Ty → Bool
holds_at P Sum (n ∷ m ∷ p ∷ []) = of_number n (λ a. of_number m (λ b. of_number p (λ c. a + b == c)))
holds_at P Product (n ∷ m ∷ p ∷ []) = of_number n (λ a. of_number m (λ b. of_number p (λ c. a * b == c)))
holds_at P Power (n ∷ m ∷ []) = of_number n (λ a. of_number m (λ b. 2 ^ a == b))
holds_at P AtMost (n ∷ m ∷ []) = of_number n (λ a. of_number m (λ b. nat_le a b))
holds_at P Width (n ∷ []) = of_number n is_width
holds_at P Index (n ∷ []) = of_number n is_index
holds_at P NumLit (k ∷ t ∷ []) = of_number k (λ literal. in_range literal (form t))
holds_at P BitRep (t ∷ n ∷ []) = of_number n (λ width. holds_of (bit_width P (form t)) (λ bits. bits == width))
holds_at P CellOf (a ∷ t ∷ []) = holds_of (cell_type (form a)) (λ u. same_type u t && holds_of (cell_bytes P (form t)) (λ bytes. true))
holds_at P p ts = false

-- whether a predicate holds by itself
abbrev pub is_fact : View → Pred → Bool
is_fact P p = holds_at P (pred_form p.class) p.args
