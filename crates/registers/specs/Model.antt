-- A register file as functions on numbers, its laws, and what a write makes of the contents.
use Rattle.std.specs.Prelude.{◌≡◌, ℕ, ◌*◌, ◌%◌, ◌^◌, ◌<◌, ◌≤◌, Bool, true, false, cond, ◌&&◌, ◌⊎◌}
use Rattle.counting.specs.Counting.{count as count_of, most}

-- the answers of a file, for every number: no, or 0, where there is no such register or class
pub record Model : Type 0 where
  pub count : ℕ
  pub belongs : ℕ → ℕ → Bool
  pub overlaps : ℕ → ℕ → Bool
  pub width : ℕ → ℕ
  pub p : ℕ → ℕ
  pub q : ℕ → ℕ → ℕ

-- the bits of a class: byte 8, half 16, word 32
abbrev pub class_bits : ℕ → ℕ
class_bits c = 8 * 2 ^ c

-- how many registers of class b register r overlaps
abbrev pub clashes : Model → ℕ → ℕ → ℕ
clashes m b r = count_of (λ s. m.belongs s b && m.overlaps r s) m.count

-- p is the number of registers of a class; q the largest number of clashes of a register of class c, 0 if there is no such register
pub record Lawful (m : Model) : Type 0 where
  pub some : 1 ≤ m.count
  pub few : m.count ≤ 64
  pub self : (r : ℕ) → r < m.count → m.overlaps r r ≡ true
  pub both_ways : (r s : ℕ) → m.overlaps r s ≡ true → m.overlaps s r ≡ true
  pub narrow : (r : ℕ) → m.width r ≤ 32
  pub wide : (r c : ℕ) → m.belongs r c ≡ true → class_bits c ≤ m.width r
  pub counted : (c : ℕ) → m.p c ≡ count_of (λ r. m.belongs r c) m.count
  pub reckoned : (b c : ℕ) → m.q b c ≡ most (λ r. cond (m.belongs r c) (clashes m b r) 0) m.count
  pub room : (b c : ℕ) → b < 3 → c < 3 → m.q b c < m.p b
  pub outside : (r c : ℕ) → m.belongs r c ≡ true → (r < m.count) × (c < 3)
  pub apart : (r s : ℕ) → m.overlaps r s ≡ true → (r < m.count) × (s < m.count)
  pub nothing : (r : ℕ) → m.count ≤ r → m.width r ≡ 0

-- a register of class c overlaps at most q b c registers of class b
abbrev pub FewClashes : Model → Type 0
FewClashes m = (b c r : ℕ) → m.belongs r c ≡ true → clashes m b r ≤ m.q b c

-- and some register of class c overlaps as many, or q b c is 0
abbrev pub QAttained : Model → Type 0
QAttained m = (b c : ℕ) → (m.q b c ≡ 0) ⊎ ((r : ℕ) × (m.belongs r c ≡ true) × (clashes m b r ≡ m.q b c))

-- a write of v to r; one to r beyond the last register overlaps nothing, so all is kept
pub record Written (m : Model) (r v : ℕ) (before after : ℕ → ℕ) : Type 0 where
  pub taken : r < m.count → after r ≡ v % 2 ^ m.width r
  pub kept : (s : ℕ) → m.overlaps r s ≡ false → after s ≡ before s
  pub below : (s : ℕ) → after s < 2 ^ m.width s
