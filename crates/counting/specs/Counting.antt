-- Sums, counts and searches over the numbers below a bound.
use Rattle.std.specs.Prelude.{ℕ, zero, suc, ◌+◌, max, Bool, true, false, cond, ◌&&◌, ◌||◌, List, [], ◌∷◌, nat_lt}

-- the sum of f over the numbers below n
unfoldable pub sum : (ℕ → ℕ) → ℕ → ℕ
sum f zero = 0
sum f (suc n) = f n + sum f n

-- how many numbers below n pass a test
abbrev pub count : (ℕ → Bool) → ℕ → ℕ
count t n = sum (λ k. cond (t k) 1 0) n

-- the largest value of f below n, 0 if there is none
unfoldable pub most : (ℕ → ℕ) → ℕ → ℕ
most f zero = 0
most f (suc n) = max (f n) (most f n)

-- whether some number below n passes
unfoldable pub any : (ℕ → Bool) → ℕ → Bool
any t zero = false
any t (suc n) = let r = any t n in t n || r

-- whether every number below n passes
unfoldable pub all : (ℕ → Bool) → ℕ → Bool
all t zero = true
all t (suc n) = let r = all t n in t n && r

-- the lowest number below n that passes, or n; once found, the test is not asked again
unfoldable pub least : (ℕ → Bool) → ℕ → ℕ
least t zero = 0
least t (suc n) =
    let m = least t n in
    let here = cond (t n) n (suc n) in
    cond (nat_lt m n) m here

-- the numbers from j on, n of them
unfoldable pub range : ℕ → ℕ → List ℕ
range zero j = []
range (suc n) j = j ∷ range n (suc j)

-- the numbers below n, the highest first
unfoldable pub down : ℕ → List ℕ
down zero = []
down (suc n) = n ∷ down n
