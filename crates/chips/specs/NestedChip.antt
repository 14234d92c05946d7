-- The nested chip: four words, the low half of each, and the two bytes of that half.
use Rattle.std.specs.Prelude.{◌≡◌, ℕ, ◌+◌, ◌*◌, ◌/◌, ◌%◌, ◌^◌, ◌<◌, ◌&&◌, ◌||◌, [], ◌∷◌, ◌==◌, nat_lt, slice_index}
use Rattle.registers.specs.Model.{Model}
use Rattle.registers.specs.Runs.{held}
use Rattle.registers.specs.Description.{Description, fenced, lowest}

-- r % 4 is the word that r lies in, and r / 4 its kind: word, half, bits 0 to 7, bits 8 to 15
abbrev pub nested : Description
nested = record {
  count = 16;
  belongs = λ r c. (slice_index (2 ∷ 1 ∷ 0 ∷ 0 ∷ []) (r / 4) == c);
  overlaps = λ r s. (r % 4 == s % 4) && (r / 4 == s / 4 || (nat_lt (r / 4) 2 || nat_lt (s / 4) 2));
  width = λ r. slice_index (32 ∷ 16 ∷ 8 ∷ 8 ∷ []) (r / 4);
  low = λ r. r % 4 * 32 + slice_index (0 ∷ 0 ∷ 0 ∷ 8 ∷ []) (r / 4);
  p = 8 ∷ 4 ∷ 4 ∷ [];
  q = (1 ∷ 2 ∷ 2 ∷ []) ∷ (1 ∷ 1 ∷ 1 ∷ []) ∷ (1 ∷ 1 ∷ 1 ∷ []) ∷ [];
}

abbrev pub nested_file : Model
nested_file = fenced nested

abbrev pub nested_low : ℕ → ℕ
nested_low = lowest nested

abbrev pub nested_numbers : ℕ → ℕ → ℕ
nested_numbers = held nested_file nested_low

-- beside word k: its low half, its bits 0 to 7 and its bits 8 to 15
abbrev pub NestedParts : (ℕ → ℕ) → Type 0
NestedParts number = (k : ℕ) → k < 4 →
    (number (4 + k) ≡ number k % 2 ^ 16) × (number (8 + k) ≡ number k % 2 ^ 8) × (number (12 + k) ≡ number k / 2 ^ 8 % 2 ^ 8)
