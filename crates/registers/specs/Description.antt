-- A chip by its tables, and the tests that make a lawful file of it.
use Rattle.std.specs.Prelude.{◌≡◌, ℕ, ◌+◌, Bool, true, cond, not, ◌&&◌, ◌||◌, List, [], length, nat_eq, nat_le, nat_lt, slice_index_or}
use Rattle.counting.specs.Counting.{count as count_of, most, all}
use Rattle.registers.specs.Model.{Model, class_bits, clashes}

-- answers for registers below count and classes below 3, the lowest bit of each register's run, and the tables of p and q
pub record Description : Type 0 where
  pub count : ℕ
  pub belongs : ℕ → ℕ → Bool
  pub overlaps : ℕ → ℕ → Bool
  pub width : ℕ → ℕ
  pub low : ℕ → ℕ
  pub p : List ℕ
  pub q : List (List ℕ)

-- the file of a description: no, or 0, outside
abbrev pub fenced : Description → Model
fenced d = record {
  count = d.count;
  belongs = λ r c. nat_lt r d.count && (nat_lt c 3 && d.belongs r c);
  overlaps = λ r s. nat_lt r d.count && (nat_lt s d.count && d.overlaps r s);
  width = λ r. cond (nat_lt r d.count) (d.width r) 0;
  p = λ c. slice_index_or d.p c 0;
  q = λ b c. slice_index_or (slice_index_or d.q b []) c 0;
}

abbrev pub lowest : Description → ℕ → ℕ
lowest d r = cond (nat_lt r d.count) (d.low r) 0

-- whether the runs of r and s have a bit in common
abbrev pub meets : Description → ℕ → ℕ → Bool
meets d r s = nat_lt (d.low r) (d.low s + d.width s) && nat_lt (d.low s) (d.low r + d.width r)

-- one test over all registers, or classes, for each law
pub record Tested (d : Description) : Type 0 where
  pub some : nat_le 1 d.count ≡ true
  pub few : nat_le d.count 64 ≡ true
  pub self : all (λ r. d.overlaps r r) d.count ≡ true
  pub both_ways : all (λ r. all (λ s. not (d.overlaps r s) || d.overlaps s r) d.count) d.count ≡ true
  pub narrow : all (λ r. nat_le (d.width r) 32) d.count ≡ true
  pub wide : all (λ r. all (λ c. not (d.belongs r c) || nat_le (class_bits c) (d.width r)) 3) d.count ≡ true
  pub sized : (nat_eq (length d.p) 3 && (nat_eq (length d.q) 3 && all (λ b. nat_eq (length (slice_index_or d.q b [])) 3) 3)) ≡ true
  pub counted : all (λ c. nat_eq ((fenced d).p c) (count_of (λ r. (fenced d).belongs r c) d.count)) 3 ≡ true
  pub reckoned : all (λ b. all (λ c. nat_eq ((fenced d).q b c) (most (λ r. cond ((fenced d).belongs r c) (clashes (fenced d) b r) 0) d.count)) 3) 3 ≡ true
  pub room : all (λ b. all (λ c. nat_lt ((fenced d).q b c) ((fenced d).p b)) 3) 3 ≡ true
  pub shared : all (λ r. all (λ s. cond (meets d r s) (d.overlaps r s) (not (d.overlaps r s))) d.count) d.count ≡ true
