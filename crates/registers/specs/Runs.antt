-- A chip's contents as one row of bits, in which each register is a run of neighbours.
use Rattle.std.specs.Prelude.{◌≡◌, ℕ, ◌+◌, ◌-◌, ◌*◌, ◌/◌, ◌%◌, ◌^◌, ◌<◌, cond, ◌&&◌, nat_le, nat_lt}
use Rattle.registers.specs.Model.{Model}

-- bit i of a number
abbrev pub bit : ℕ → ℕ → ℕ
bit x i = x / 2 ^ i % 2

-- the number in the run of w bits from bit low on
abbrev pub part : ℕ → ℕ → ℕ → ℕ
part x low w = x / 2 ^ low % 2 ^ w

-- x with that run replaced by v, as much of it as fits
abbrev pub patched : ℕ → ℕ → ℕ → ℕ → ℕ
patched x low w v = (x / 2 ^ (low + w) * 2 ^ w + v % 2 ^ w) * 2 ^ low + x % 2 ^ low

-- the number of each register, by the lowest bit of its run
abbrev pub held : Model → (ℕ → ℕ) → ℕ → ℕ → ℕ
held m low x r = part x (low r) (m.width r)

-- what a write of v to r leaves in every register: the bits that lie in r are those of v, the others stay
abbrev pub Leaves : Model → (ℕ → ℕ) → ℕ → ℕ → (ℕ → ℕ) → (ℕ → ℕ) → Type 0
Leaves m low r v before after = (s i : ℕ) → i < m.width s →
    bit (after s) i ≡ cond (nat_le (low r) (low s + i) && nat_lt (low s + i) (low r + m.width r)) (bit v (low s + i - low r)) (bit (before s) i)
