-- Facts at their edges, and typing rules on a small source.
use Rattle.std.proofs.Common.{◌≡◌, ℕ, List, [], ◌∷◌, Option, Some, None, true, false, refl, ap}
use Rattle.std.specs.Prelude.{Bool}
use Rattle.std.proofs.lemmas.Bool.{true≢false}
use Rattle.hb_types.specs.declared.atom.Atom.TheVariants as atom
use Rattle.hb_types.specs.declared.scheme.Scheme.{Scheme}
use Rattle.hb_types.specs.Kinds as kind
use Rattle.hb_types.specs.Types.{Ty, Leaf, Apply as On}
use Rattle.hb_tree.specs.Expressions as expr
use Rattle.hb_core.specs.Prims as prim
use Rattle.hb_core.specs.TypeForms.{same_type, arrow}
use Rattle.hb_core.specs.View.{View, Target, Primitive}
use Rattle.hb_core.specs.Facts.{is_fact}
use Rattle.hb_core.specs.Entailment.{pred_at, Fact, NoneEntailed, MoreEntailed}
use Rattle.hb_core.specs.ExpressionTypes.{FitsExpr, FitsRows}
use Rattle.hb_core.proofs.Samples.{is_at, e, v, call, row, con, nat, unsigned, bit, stored, array, view, nothing_written}

abbrev index : ℕ → Ty
index n = On (con 3) (nat n)

-- the predicate of this number at these types is a fact
abbrev is_so : ℕ → List Ty → Bool
is_so class ts = is_fact (view nothing_written) (pred_at class ts)

a_sum : is_so 0 (nat 3 ∷ nat 5 ∷ nat 8 ∷ []) ≡ true
a_sum = refl

another_sum : is_so 0 (nat 3 ∷ nat 5 ∷ nat 9 ∷ []) ≡ false
another_sum = refl

a_sum_that_is_too_great : is_so 0 (nat 18446744073709551615 ∷ nat 1 ∷ nat 18446744073709551616 ∷ []) ≡ false
a_sum_that_is_too_great = refl

a_product : is_so 1 (nat 3 ∷ nat 5 ∷ nat 15 ∷ []) ≡ true
a_product = refl

a_product_with_zero : is_so 1 (nat 0 ∷ nat 5 ∷ nat 0 ∷ []) ≡ true
a_product_with_zero = refl

a_power : is_so 2 (nat 3 ∷ nat 8 ∷ []) ≡ true
a_power = refl

no_power : is_so 2 (nat 3 ∷ nat 9 ∷ []) ≡ false
no_power = refl

at_most : is_so 3 (nat 3 ∷ nat 3 ∷ []) ≡ true
at_most = refl

more_than : is_so 3 (nat 4 ∷ nat 3 ∷ []) ≡ false
more_than = refl

no_width_of_zero : is_so 4 (nat 0 ∷ []) ≡ false
no_width_of_zero = refl

a_width_of_one : is_so 4 (nat 1 ∷ []) ≡ true
a_width_of_one = refl

a_width_of_32 : is_so 4 (nat 32 ∷ []) ≡ true
a_width_of_32 = refl

no_width_of_33 : is_so 4 (nat 33 ∷ []) ≡ false
no_width_of_33 = refl

no_index_of_zero : is_so 5 (nat 0 ∷ []) ≡ false
no_index_of_zero = refl

the_greatest_index : is_so 5 (nat 2147483648 ∷ []) ≡ true
the_greatest_index = refl

no_greater_index : is_so 5 (nat 2147483649 ∷ []) ≡ false
no_greater_index = refl

the_greatest_unsigned_literal : is_so 6 (nat 4294967295 ∷ unsigned ∷ []) ≡ true
the_greatest_unsigned_literal = refl

no_greater_unsigned_literal : is_so 6 (nat 4294967296 ∷ unsigned ∷ []) ≡ false
no_greater_unsigned_literal = refl

the_greatest_signed_literal : is_so 6 (nat 2147483647 ∷ con 1 ∷ []) ≡ true
the_greatest_signed_literal = refl

no_greater_signed_literal : is_so 6 (nat 2147483648 ∷ con 1 ∷ []) ≡ false
no_greater_signed_literal = refl

the_greatest_literal_of_bits : is_so 6 (nat 7 ∷ bit 3 ∷ []) ≡ true
the_greatest_literal_of_bits = refl

no_greater_literal_of_bits : is_so 6 (nat 8 ∷ bit 3 ∷ []) ≡ false
no_greater_literal_of_bits = refl

no_literal_of_too_many_bits : is_so 6 (nat 0 ∷ bit 33 ∷ []) ≡ false
no_literal_of_too_many_bits = refl

the_greatest_literal_of_an_index : is_so 6 (nat 3 ∷ index 4 ∷ []) ≡ true
the_greatest_literal_of_an_index = refl

no_greater_literal_of_an_index : is_so 6 (nat 4 ∷ index 4 ∷ []) ≡ false
no_greater_literal_of_an_index = refl

no_literal_of_another_type : is_so 6 (nat 0 ∷ con 13 ∷ []) ≡ false
no_literal_of_another_type = refl

the_width_of_bit_data : is_so 7 (con 13 ∷ nat 1 ∷ []) ≡ true
the_width_of_bit_data = refl

another_width_of_bit_data : is_so 7 (con 13 ∷ nat 2 ∷ []) ≡ false
another_width_of_bit_data = refl

bits_are_no_bit_data : is_so 7 (bit 8 ∷ nat 8 ∷ []) ≡ false
bits_are_no_bit_data = refl

a_cell_of_a_number : is_so 8 (stored unsigned ∷ unsigned ∷ []) ≡ true
a_cell_of_a_number = refl

a_cell_of_another_type : is_so 8 (stored unsigned ∷ con 1 ∷ []) ≡ false
a_cell_of_another_type = refl

a_big_endian_cell : is_so 8 (On (con 11) (bit 16) ∷ bit 16 ∷ []) ≡ true
a_big_endian_cell = refl

no_cell_of_nine_bits : is_so 8 (stored (bit 9) ∷ bit 9 ∷ []) ≡ false
no_cell_of_nine_bits = refl

no_cell_of_one_bit_of_bit_data : is_so 8 (stored (con 13) ∷ con 13 ∷ []) ≡ false
no_cell_of_one_bit_of_bit_data = refl

a_cell_of_a_reference : is_so 8 (stored (On (con 8) (stored unsigned)) ∷ On (con 8) (stored unsigned) ∷ []) ≡ true
a_cell_of_a_reference = refl

a_cell_of_an_index : is_so 8 (stored (index 0) ∷ index 0 ∷ []) ≡ true
a_cell_of_an_index = refl

an_array_is_no_cell : is_so 8 (array 2 (stored unsigned) ∷ unsigned ∷ []) ≡ false
an_array_is_no_cell = refl

-- ---- a small source

abbrev action : Ty → Ty
action t = On (con 5) t

abbrev var : ℕ → Ty
var n = Leaf (atom.Var n)

-- `halt :: U -> M a` and `fromBit :: Width n => Bit n -> U`
abbrev schemes : Target → Option Scheme
schemes (Primitive prim.Halt) = Some (record { kinds = kind.Star ∷ []; preds = []; body = arrow unsigned (action (var 0)) })
schemes (Primitive prim.FromBit) = Some (record { kinds = kind.Nat ∷ []; preds = pred_at 4 (var 0 ∷ []) ∷ []; body = arrow (On (con 2) (var 0)) unsigned })
schemes t = None

-- `main = halt (fromBit B101)`, with this type for `B101`
abbrev annotated : Ty → View
annotated t = record (view (record nothing_written {
  targets = is_at 1 (Primitive prim.Halt) ∷ is_at 2 (Primitive prim.FromBit) ∷ [];
  types = is_at 1 (arrow unsigned (action (con 14))) ∷ is_at 2 (arrow (bit 3) unsigned) ∷ is_at 3 t ∷ is_at 5 (action (con 14)) ∷ [];
  taken_at = is_at 1 (con 14 ∷ []) ∷ is_at 2 (nat 3 ∷ []) ∷ [];
})) { scheme = schemes }

abbrev literal : expr.Expr
literal = e 3 (expr.Bits 3 5)

abbrev halts : expr.Equations
halts = row [] (call 5 (v 1) (call 4 (v 2) literal))

a_source_fits : FitsRows (annotated (bit 3)) [] halts (action (con 14))
a_source_fits = (
  refl,
  tt,
  tt,
  (
    refl,
    record { as_many = refl; same = refl; met = NoneEntailed },
    (refl, record { as_many = refl; same = refl; met = MoreEntailed _ _ (Fact _ refl) NoneEntailed }, refl),
  ),
  tt,
)

a_literal_of_three_bits_is_none_of_four : FitsExpr (annotated (bit 4)) [] literal → ⊥
a_literal_of_three_bits_is_none_of_four same = true≢false (ap (same_type (bit 4)) same)
