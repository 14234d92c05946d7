-- Worked cases of words that write numbers.
use Rattle.std.proofs.Common.{◌≡◌, [], ◌∷◌, Some, None, codes, refl}
use Rattle.numerals.specs.Numerals.{all_digits, value_from, number_in, items_in, numbers_of, numbers_in}

zeros_in_front : number_in (codes "00007") ≡ Some 7
unfolding number_in all_digits value_from
zeros_in_front = refl

the_largest : number_in (codes "4294967295") ≡ Some 4294967295
unfolding number_in all_digits value_from
the_largest = refl

too_large : number_in (codes "4294967296") ≡ None
unfolding number_in all_digits value_from
too_large = refl

no_digit : number_in (codes "1a") ≡ None
unfolding number_in all_digits value_from
no_digit = refl

no_numbers : numbers_in (codes "-") ≡ Some []
no_numbers = refl

three_numbers : numbers_in (codes "7,0,14") ≡ Some (7 ∷ 0 ∷ 14 ∷ [])
unfolding numbers_of items_in number_in all_digits value_from
three_numbers = refl

two_commas : numbers_in (codes "7,,14") ≡ None
unfolding numbers_of items_in number_in all_digits value_from
two_commas = refl

a_comma_last : numbers_in (codes "7,") ≡ None
unfolding numbers_of items_in number_in all_digits value_from
a_comma_last = refl

nothing : numbers_in [] ≡ None
unfolding numbers_of items_in number_in all_digits value_from
nothing = refl
