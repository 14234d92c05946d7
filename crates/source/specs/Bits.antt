-- A file as a row of bits, the most significant bit of each byte first.
use Rattle.std.specs.Prelude.{◌≡◌, ℕ, zero, suc, ◌+◌, ◌-◌, ◌*◌, ◌/◌, ◌%◌, ◌^◌, ◌<◌, ◌≤◌, List, length, Ok, Err, Result, slice_index}
use Rattle.faults.specs.declared.BitFault.{BitFault}
use Rattle.faults.specs.declared.BitFault.TheVariants.{Short}

-- the number in n bytes from i on, the first byte the most significant
unfoldable pub number : List ℕ → ℕ → ℕ → ℕ
number bs i zero = 0
number bs i (suc n) = number bs i n * 256 + slice_index bs (i + n) % 256

-- the n bits from place p on, as a number
unfoldable pub field : List ℕ → ℕ → ℕ → ℕ
unfolding number
field bs p n = number bs 0 (length bs) / 2 ^ (8 * length bs - (p + n)) % 2 ^ n

-- taking n bits at place p of a file: the answer, and the place afterwards
abbrev pub Took : List ℕ → ℕ → ℕ → Result ℕ BitFault → ℕ → Type 0
Took bs p n (Ok v) q = (p + n ≤ 8 * length bs) × (v ≡ field bs p n) × (q ≡ p + n)
Took bs p n (Err e) q = (8 * length bs < p + n) × (e ≡ Short) × (q ≡ p)
