-- Words that write numbers.
use Rattle.std.specs.Prelude.{ℕ, ◌+◌, ◌-◌, ◌*◌, ◌^◌, Bool, true, cond, ◌&&◌, List, [], ◌∷◌, length, Some, None, Option, ◌==◌, nat_le, nat_lt, slice_index}
use Rattle.hexwords.specs.Hex.{before}

-- whether a byte is a decimal digit
abbrev pub is_digit : ℕ → Bool
is_digit b = nat_le 48 b && nat_le b 57

-- whether all bytes are decimal digits
unfoldable pub all_digits : List ℕ → Bool
all_digits [] = true
all_digits (b ∷ bs) = is_digit b && all_digits bs

-- the number that digits write behind the digits of n
unfoldable pub value_from : ℕ → List ℕ → ℕ
value_from n [] = n
value_from n (b ∷ bs) = value_from (10 * n + (b - 48)) bs

-- that number, if all are digits and it has at most 32 bits
abbrev pub number_from : ℕ → List ℕ → Option ℕ
number_from n bs = cond (all_digits bs && nat_lt (value_from n bs) (2 ^ 32)) (Some (value_from n bs)) None

-- the number that a word writes
unfoldable pub number_in : List ℕ → Option ℕ
unfolding all_digits value_from
number_in [] = None
number_in (b ∷ bs) = number_from 0 (b ∷ bs)

-- a byte in front of the first item
abbrev pub longer : ℕ → List (List ℕ) → List (List ℕ)
longer b [] = []
longer b (item ∷ items) = (b ∷ item) ∷ items

-- what stands between the commas of a word
unfoldable pub items_in : List ℕ → List (List ℕ)
items_in [] = [] ∷ []
items_in (b ∷ bs) = cond (b == 44) ([] ∷ items_in bs) (longer b (items_in bs))

-- the numbers that items write
unfoldable pub numbers_of : List (List ℕ) → Option (List ℕ)
unfolding number_in
numbers_of [] = Some []
numbers_of (item ∷ items) = before (number_in item) (numbers_of items)

-- whether a word is a dash
abbrev pub is_dash : List ℕ → Bool
is_dash word = length word == 1 && slice_index word 0 == 45

-- the list of numbers that a word writes, - for none
abbrev pub numbers_in : List ℕ → Option (List ℕ)
numbers_in word = cond (is_dash word) (Some []) (numbers_of (items_in word))
