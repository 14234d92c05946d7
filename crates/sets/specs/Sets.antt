-- A set of numbers is one number: k is a member if binary digit k of it is 1.
use Rattle.std.specs.Prelude.{ℕ, ◌-◌, ◌/◌, ◌%◌, ◌^◌, Bool, cond, not, ◌||◌, ◌==◌, bit_and, bit_or, bit_xor}
use Rattle.counting.specs.Counting.{all, count}

-- whether k is a member of x
unfoldable pub has : ℕ → ℕ → Bool
has x k = x / 2 ^ k % 2 == 1

-- the set of k alone
abbrev pub single : ℕ → ℕ
single k = 2 ^ k

-- the members of either
abbrev pub union : ℕ → ℕ → ℕ
union x y = bit_or x y

-- the members of both
abbrev pub meet : ℕ → ℕ → ℕ
meet x y = bit_and x y

-- the members of x that are none of y
abbrev pub minus : ℕ → ℕ → ℕ
minus x y = bit_xor x (bit_and x y)

-- the numbers below n
abbrev pub up_to : ℕ → ℕ
up_to n = 2 ^ n - 1

-- x if the test passes, else the empty set
abbrev pub when : Bool → ℕ → ℕ
when b x = cond b x 0

-- whether each member of x below n is one of y
unfoldable pub within : ℕ → ℕ → ℕ → Bool
unfolding all has
within n x y = all (λ k. not (has x k) || has y k) n

-- how many numbers below n are members of x
abbrev pub size : ℕ → ℕ → ℕ
size n x = count (has x) n
