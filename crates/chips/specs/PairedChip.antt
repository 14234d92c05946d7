-- The paired chip: six singles of 16 bits, and three words of two singles each.
use Rattle.std.specs.Prelude.{◌≡◌, ℕ, ◌+◌, ◌-◌, ◌*◌, ◌/◌, ◌%◌, ◌^◌, ◌<◌, cond, not, ◌&&◌, ◌||◌, [], ◌∷◌, ◌==◌, nat_lt}
use Rattle.registers.specs.Model.{Model}
use Rattle.registers.specs.Runs.{held}
use Rattle.registers.specs.Description.{Description, fenced, lowest}

-- the word that r is or lies in, from 0
abbrev pub pair : ℕ → ℕ
pair r = cond (nat_lt r 6) (r / 2) (r - 6)

-- of a word's two singles the first is the upper
abbrev pub paired : Description
paired = record {
  count = 9;
  belongs = λ r c. cond (nat_lt r 6) (nat_lt c 2) (c == 2);
  overlaps = λ r s. (pair r == pair s) && (r == s || (not (nat_lt r 6) || not (nat_lt s 6)));
  width = λ r. cond (nat_lt r 6) 16 32;
  low = λ r. pair r * 32 + cond (nat_lt r 6) ((1 - r % 2) * 16) 0;
  p = 6 ∷ 6 ∷ 3 ∷ [];
  q = (1 ∷ 1 ∷ 2 ∷ []) ∷ (1 ∷ 1 ∷ 2 ∷ []) ∷ (1 ∷ 1 ∷ 1 ∷ []) ∷ [];
}

abbrev pub paired_file : Model
paired_file = fenced paired

abbrev pub paired_low : ℕ → ℕ
paired_low = lowest paired

abbrev pub paired_numbers : ℕ → ℕ → ℕ
paired_numbers = held paired_file paired_low

-- word k is single 2k above single 2k + 1
abbrev pub PairedWords : (ℕ → ℕ) → Type 0
PairedWords number = (k : ℕ) → k < 3 → number (6 + k) ≡ number (2 * k) * 2 ^ 16 + number (2 * k + 1)
