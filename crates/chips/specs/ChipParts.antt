-- The registers of both chips as parts of one another.
use Rattle.std.proofs.Common.{◌≡◌, ℕ, zero, suc, ◌+◌, ◌/◌, ◌%◌, ◌^◌, sym, arith}
use lib.Pow.{mod-mod-pow}
use Rattle.registers.specs.Runs.{part}
use Rattle.registers.proofs.RunBits.{part_within, part_joined}
use Rattle.chips.specs.NestedChip.{nested_numbers, NestedParts}
use Rattle.chips.specs.PairedChip.{paired_numbers, PairedWords}

-- the low half and the two bytes of the word that begins at bit a
word_parts : (x a : ℕ) →
    (part x a 16 ≡ part x a 32 % 2 ^ 16) × (part x a 8 ≡ part x a 32 % 2 ^ 8) × (part x (a + 8) 8 ≡ part x a 32 / 2 ^ 8 % 2 ^ 8)
word_parts x a = (sym (mod-mod-pow (x / 2 ^ a) 16 16), sym (mod-mod-pow (x / 2 ^ a) 24 8), part_within x a 32 8 8 (omega arith))

pub nested_parts : (x : ℕ) → NestedParts (nested_numbers x)
nested_parts x zero h = word_parts x 0
nested_parts x (suc zero) h = word_parts x 32
nested_parts x (suc (suc zero)) h = word_parts x 64
nested_parts x (suc (suc (suc zero))) h = word_parts x 96
nested_parts x (suc (suc (suc (suc k)))) h = absurd (omega arith)

pub paired_words : (x : ℕ) → PairedWords (paired_numbers x)
paired_words x zero h = part_joined x 0 16 16
paired_words x (suc zero) h = part_joined x 32 16 16
paired_words x (suc (suc zero)) h = part_joined x 64 16 16
paired_words x (suc (suc (suc k))) h = absurd (omega arith)
