-- The members of a set below 448, the lowest first.
use Rattle.std.specs.Prelude.{ℕ, zero, suc, Bool, cond, List, [], ◌∷◌, Option, Some, None, nat_lt}
use Rattle.counting.specs.Counting.{least}
use Rattle.sets.specs.Sets.{has}

-- the numbers from j on, n of them looked at, that pass a test
unfoldable pub passing : (ℕ → Bool) → ℕ → ℕ → List ℕ
passing t zero j = []
passing t (suc n) j = let rest = passing t n (suc j) in cond (t j) (j ∷ rest) rest

-- the members of x below 448, rising
abbrev pub rising : ℕ → List ℕ
rising x = passing (has x) 448 0

-- the lowest member of x below 448, if there is one
abbrev pub lowest : ℕ → Option ℕ
lowest x = let k = least (has x) 448 in cond (nat_lt k 448) (Some k) None
