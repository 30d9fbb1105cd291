-- What primitives compute, by examples.
use Rattle.std.proofs.Common.{◌≡◌, [], ◌∷◌, Some, None, refl}
use Rattle.hb_mil_meaning.specs.Values.{Number, Built, Reference, NoVals, MoreVals}
use Rattle.hb_mil_meaning.specs.Primitives.{computed}

sums_wrap : computed 0 [] (Number 4294967295 ∷ Number 2 ∷ []) ≡ Some (Number 1)
sums_wrap = refl

differences_wrap : computed 1 [] (Number 1 ∷ Number 2 ∷ []) ≡ Some (Number 4294967295)
differences_wrap = refl

not_turns_all_bits : computed 6 [] (Number 1 ∷ []) ≡ Some (Number 4294967294)
not_turns_all_bits = refl

zeros_come_in_from_the_right : computed 7 [] (Number 4294967295 ∷ Number 31 ∷ []) ≡ Some (Number 2147483648)
zeros_come_in_from_the_right = refl

quotients_are_rounded_down : computed 9 [] (Number 7 ∷ Number 2 ∷ []) ≡ Some (Number 3)
quotients_are_rounded_down = refl

equal_numbers_are_equal : computed 11 [] (Number 7 ∷ Number 7 ∷ []) ≡ Some (Built 1 NoVals)
equal_numbers_are_equal = refl

no_number_is_below_itself : computed 12 [] (Number 7 ∷ Number 7 ∷ []) ≡ Some (Built 0 NoVals)
no_number_is_below_itself = refl

the_highest_bit_is_a_sign : computed 13 [] (Number 4294967295 ∷ Number 0 ∷ []) ≡ Some (Built 1 NoVals)
the_highest_bit_is_a_sign = refl

zero_is_no_divisor : computed 16 [] (Number 0 ∷ []) ≡ Some (Built 0 NoVals)
zero_is_no_divisor = refl

low_bits_are_left_of_a_word : computed 19 (4 ∷ []) (Number 37 ∷ []) ≡ Some (Number 5)
low_bits_are_left_of_a_word = refl

the_first_bits_are_the_high_ones : computed 20 (3 ∷ 4 ∷ []) (Number 5 ∷ Number 9 ∷ []) ≡ Some (Number 89)
the_first_bits_are_the_high_ones = refl

high_bits : computed 21 (3 ∷ 4 ∷ []) (Number 89 ∷ []) ≡ Some (Number 5)
high_bits = refl

low_bits : computed 22 (3 ∷ 4 ∷ []) (Number 89 ∷ []) ≡ Some (Number 9)
low_bits = refl

an_index_is_below_its_bound : computed 26 (5 ∷ []) (Number 5 ∷ []) ≡ Some (Built 0 NoVals)
an_index_is_below_its_bound = refl

the_last_index : computed 28 (5 ∷ []) [] ≡ Some (Number 4)
the_last_index = refl

an_index_goes_up : computed 29 (5 ∷ []) (Number 3 ∷ []) ≡ Some (Built 1 (MoreVals (Number 4) NoVals))
an_index_goes_up = refl

and_not_past_the_last : computed 29 (5 ∷ []) (Number 4 ∷ []) ≡ Some (Built 0 NoVals)
and_not_past_the_last = refl

the_first_index_does_not_go_down : computed 30 (5 ∷ []) (Number 0 ∷ []) ≡ Some (Built 0 NoVals)
the_first_index_does_not_go_down = refl

elements_stand_one_after_another : computed 31 (5 ∷ 8 ∷ []) (Reference 2 16 ∷ Number 3 ∷ []) ≡ Some (Reference 2 40)
elements_stand_one_after_another = refl

an_action_computes_nothing : computed 36 [] (Number 1 ∷ []) ≡ None
an_action_computes_nothing = refl

a_missing_argument_has_no_rule : computed 0 [] (Number 1 ∷ []) ≡ None
a_missing_argument_has_no_rule = refl

a_reference_is_no_number : computed 0 [] (Number 1 ∷ Reference 0 0 ∷ []) ≡ None
a_reference_is_no_number = refl

there_are_no_more_primitives : computed 38 [] (Number 1 ∷ []) ≡ None
there_are_no_more_primitives = refl
