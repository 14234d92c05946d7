-- What the words of a node set hold.
use Rattle.std.specs.Prelude.{◌≡◌, ℕ, zero, suc, ◌+◌, ◌*◌, ◌/◌, ◌%◌, ◌^◌, ◌<◌, List, [], ◌∷◌, ◌++◌, length, drop, replicate, slice_index}

-- the set in a list of 64-bit words, the first word being the numbers 0 to 63
unfoldable pub joined : List ℕ → ℕ
joined [] = 0
joined (w ∷ ws) = joined ws * 2 ^ 64 + w % 2 ^ 64

-- the lowest n words of a set
unfoldable pub split : ℕ → ℕ → List ℕ
split zero x = []
split (suc n) x = x % 2 ^ 64 ∷ split n (x / 2 ^ 64)

-- the words of a node set: seven of 64 bits
abbrev pub IsWords : List ℕ → Type 0
IsWords ws = (length ws ≡ 7) × ((k : ℕ) → slice_index ws k < 2 ^ 64)

-- the set in a node set: clauses see no other
abbrev pub members : ℕ → ℕ
members s = s

-- the node set without members
abbrev pub empty_set : ℕ
empty_set = 0

-- what a list of node sets has past its end
abbrev pub no_set : ℕ
no_set = 0

-- the sets in a list of node sets
abbrev pub sets_of : List ℕ → List ℕ
sets_of ss = ss

-- a list of node sets after its first n were emptied
abbrev pub cleared : ℕ → List ℕ → List ℕ
cleared n ss = replicate n 0 ++ drop n ss
