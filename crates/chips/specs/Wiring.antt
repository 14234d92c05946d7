-- The number that each register holds, by a description of the chip.
use Rattle.std.specs.Prelude.{ℕ, ◌^◌, ◌<◌, refl}
use Rattle.registers.specs.Runs.{held}
use Rattle.registers.specs.Description.{Description, fenced, lowest}
use Rattle.registers.proofs.RunBits.{fetches}

-- the number in each register of a chip with these bits
abbrev pub numbers : Description → ℕ → ℕ → ℕ
numbers d = held (fenced d) (lowest d)

-- a register holds no number too wide for it
pub numbers_below : (d : Description) (bits r : ℕ) → numbers d bits r < 2 ^ (fenced d).width r
numbers_below d bits r = (fetches (fenced d) (lowest d) bits r _ _ _ refl refl refl).1
