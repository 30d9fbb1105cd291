-- What each primitive computes, by examples.
use Rattle.std.proofs.Common.{◌≡◌, List, [], ◌∷◌, Option, Some, None, true, false, refl}
use Rattle.hb_bits.specs.Bits.{digits}
use Rattle.hb_types.specs.Types.{Ty}
use Rattle.hb_core.specs.Prims as prim
use Rattle.hb_core.specs.Prims.{Prim}
use Rattle.hb_core.specs.Values.{Field, Element, Val, Vals, Number, Pattern, Built, Reference, Port, Acting, NoVals, MoreVals, one}
use Rattle.hb_core.specs.Primitives.{computed}
use Rattle.hb_core.proofs.Samples.{con, nat, unsigned, stored, view, nothing_written}

abbrev gives : Prim → List Ty → Vals → Option Val
gives p ts vs = computed (view nothing_written) p ts vs

sums_wrap : gives prim.AddU [] (MoreVals (Number 4294967295) (MoreVals (Number 2) NoVals)) ≡ Some (Number 1)
unfolding digits
sums_wrap = refl

differences_wrap : gives prim.SubU [] (MoreVals (Number 1) (MoreVals (Number 2) NoVals)) ≡ Some (Number 4294967295)
unfolding digits
differences_wrap = refl

differences_are_differences : gives prim.SubU [] (MoreVals (Number 7) (MoreVals (Number 3) NoVals)) ≡ Some (Number 4)
unfolding digits
differences_are_differences = refl

products_wrap : gives prim.MulU [] (MoreVals (Number 65536) (MoreVals (Number 65537) NoVals)) ≡ Some (Number 65536)
unfolding digits
products_wrap = refl

and_is_bit_by_bit : gives prim.AndU [] (MoreVals (Number 12) (MoreVals (Number 10) NoVals)) ≡ Some (Number 8)
unfolding digits
and_is_bit_by_bit = refl

or_is_bit_by_bit : gives prim.OrU [] (MoreVals (Number 12) (MoreVals (Number 10) NoVals)) ≡ Some (Number 14)
unfolding digits
or_is_bit_by_bit = refl

xor_is_bit_by_bit : gives prim.XorU [] (MoreVals (Number 12) (MoreVals (Number 10) NoVals)) ≡ Some (Number 6)
unfolding digits
xor_is_bit_by_bit = refl

not_turns_all_bits : gives prim.NotU [] (one (Number 1)) ≡ Some (Number 4294967294)
unfolding digits
not_turns_all_bits = refl

zeros_come_in_from_the_right : gives prim.ShlU [] (MoreVals (Number 4294967295) (MoreVals (Number 31) NoVals)) ≡ Some (Number 2147483648)
unfolding digits
zeros_come_in_from_the_right = refl

zeros_come_in_from_the_left : gives prim.ShrU [] (MoreVals (Number 4294967295) (MoreVals (Number 31) NoVals)) ≡ Some (Number 1)
unfolding digits
zeros_come_in_from_the_left = refl

quotients_are_rounded_down : gives prim.DivU [] (MoreVals (Number 7) (MoreVals (Number 2) NoVals)) ≡ Some (Number 3)
unfolding digits
quotients_are_rounded_down = refl

remainders_are_left : gives prim.RemU [] (MoreVals (Number 7) (MoreVals (Number 2) NoVals)) ≡ Some (Number 1)
unfolding digits
remainders_are_left = refl

equal_numbers_are_equal : gives prim.EqU [] (MoreVals (Number 7) (MoreVals (Number 7) NoVals)) ≡ Some (Pattern (true ∷ []))
unfolding digits
equal_numbers_are_equal = refl

other_numbers_are_not : gives prim.EqU [] (MoreVals (Number 7) (MoreVals (Number 8) NoVals)) ≡ Some (Pattern (false ∷ []))
unfolding digits
other_numbers_are_not = refl

less_is_by_number : gives prim.LtU [] (MoreVals (Number 4294967295) (MoreVals (Number 0) NoVals)) ≡ Some (Pattern (false ∷ []))
unfolding digits
less_is_by_number = refl

less_is_by_sign : gives prim.LtS [] (MoreVals (Number 4294967295) (MoreVals (Number 0) NoVals)) ≡ Some (Pattern (true ∷ []))
unfolding digits
less_is_by_sign = refl

the_greatest_signed_number : gives prim.LtS [] (MoreVals (Number 2147483647) (MoreVals (Number 2147483648) NoVals)) ≡ Some (Pattern (false ∷ []))
unfolding digits
the_greatest_signed_number = refl

the_same_bits_as_a_signed_number : gives prim.ToSigned [] (one (Number 4294967295)) ≡ Some (Number 4294967295)
unfolding digits
the_same_bits_as_a_signed_number = refl

the_same_bits_as_an_unsigned_number : gives prim.FromSigned [] (one (Number 4294967295)) ≡ Some (Number 4294967295)
unfolding digits
the_same_bits_as_an_unsigned_number = refl

zero_is_not_non_zero : gives prim.NonZero [] (one (Number 0)) ≡ Some (Built 3 NoVals)
unfolding digits
zero_is_not_non_zero = refl

one_is_non_zero : gives prim.NonZero [] (one (Number 1)) ≡ Some (Built 4 (one (Number 1)))
unfolding digits
one_is_non_zero = refl

a_non_zero_number_is_a_number : gives prim.FromNonZero [] (one (Number 5)) ≡ Some (Number 5)
unfolding digits
a_non_zero_number_is_a_number = refl

bits_as_a_number : gives prim.FromBit (nat 3 ∷ []) (one (Pattern (true ∷ false ∷ true ∷ []))) ≡ Some (Number 5)
unfolding digits
bits_as_a_number = refl

the_low_bits_of_a_number : gives prim.ToBit (nat 3 ∷ []) (one (Number 13)) ≡ Some (Pattern (true ∷ false ∷ true ∷ []))
unfolding digits
the_low_bits_of_a_number = refl

the_first_bits_are_high : gives prim.JoinBits (nat 1 ∷ nat 2 ∷ nat 3 ∷ []) (MoreVals (Pattern (true ∷ [])) (MoreVals (Pattern (false ∷ false ∷ [])) NoVals)) ≡ Some (Pattern (true ∷ false ∷ false ∷ []))
unfolding digits
the_first_bits_are_high = refl

high_bits_come_first : gives prim.HighBits (nat 1 ∷ nat 2 ∷ nat 3 ∷ []) (one (Pattern (true ∷ false ∷ false ∷ []))) ≡ Some (Pattern (true ∷ []))
unfolding digits
high_bits_come_first = refl

low_bits_come_last : gives prim.LowBits (nat 1 ∷ nat 2 ∷ nat 3 ∷ []) (one (Pattern (true ∷ true ∷ false ∷ []))) ≡ Some (Pattern (true ∷ false ∷ []))
unfolding digits
low_bits_come_last = refl

bits_of_bit_data : gives prim.BitsOf (con 13 ∷ nat 1 ∷ []) (one (Pattern (true ∷ []))) ≡ Some (Pattern (true ∷ []))
unfolding digits
bits_of_bit_data = refl

bit_data_of_bits : gives prim.OfBits (con 13 ∷ nat 1 ∷ []) (one (Pattern (false ∷ []))) ≡ Some (Pattern (false ∷ []))
unfolding digits
bit_data_of_bits = refl

an_index_as_a_number : gives prim.FromIx (nat 4 ∷ []) (one (Number 3)) ≡ Some (Number 3)
unfolding digits
an_index_as_a_number = refl

a_number_below_is_an_index : gives prim.ToIx (nat 4 ∷ []) (one (Number 3)) ≡ Some (Built 4 (one (Number 3)))
unfolding digits
a_number_below_is_an_index = refl

a_number_that_is_not_below_is_none : gives prim.ToIx (nat 4 ∷ []) (one (Number 4)) ≡ Some (Built 3 NoVals)
unfolding digits
a_number_that_is_not_below_is_none = refl

the_first_index : gives prim.FirstIx (nat 4 ∷ []) NoVals ≡ Some (Number 0)
unfolding digits
the_first_index = refl

the_last_index : gives prim.LastIx (nat 4 ∷ []) NoVals ≡ Some (Number 3)
unfolding digits
the_last_index = refl

the_index_after : gives prim.IncIx (nat 4 ∷ []) (one (Number 2)) ≡ Some (Built 4 (one (Number 3)))
unfolding digits
the_index_after = refl

none_after_the_last : gives prim.IncIx (nat 4 ∷ []) (one (Number 3)) ≡ Some (Built 3 NoVals)
unfolding digits
none_after_the_last = refl

the_index_before : gives prim.DecIx (nat 4 ∷ []) (one (Number 1)) ≡ Some (Built 4 (one (Number 0)))
unfolding digits
the_index_before = refl

none_before_the_first : gives prim.DecIx (nat 4 ∷ []) (one (Number 0)) ≡ Some (Built 3 NoVals)
unfolding digits
none_before_the_first = refl

an_element_of_an_array : gives prim.ElemRef (nat 4 ∷ stored unsigned ∷ []) (MoreVals (Reference 2 (Field 1 ∷ [])) (MoreVals (Number 3) NoVals)) ≡ Some (Reference 2 (Field 1 ∷ Element 3 ∷ []))
unfolding digits
an_element_of_an_array = refl

an_action_waits_to_be_run : gives prim.ReadPort (unsigned ∷ []) (one (Port 1)) ≡ Some (Acting prim.ReadPort (unsigned ∷ []) (one (Port 1)))
unfolding digits
an_action_waits_to_be_run = refl

a_value_that_does_not_fit_has_no_rule : gives prim.AddU [] (MoreVals (Port 1) (MoreVals (Number 3) NoVals)) ≡ None
unfolding digits
a_value_that_does_not_fit_has_no_rule = refl
