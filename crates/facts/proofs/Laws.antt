-- Both shapes of kinds keep the laws, where their steps keep the order of sets and stay below 2 ^ n; and steps that do.
use Rattle.std.proofs.Common.{◌≡◌, ℕ, ◌^◌, ◌<◌, Bool, true, false, not, ltb, List, sym, ◌∙◌, inl, inr, arith}
use lib.Bits.{bit_and, or_lt, and_lt, xor_lt, and_le_l}
use Rattle.std.proofs.lemmas.Nat.{pow_pos, pow_below}
use Rattle.std.proofs.lemmas.Bool.{cases_Bool, cases_lt, both_ways, or_cases, or_left, or_right, and_parts, and_from, lt-ltb, le-ltb, ltb-true}
use Rattle.sets.specs.Sets.{has, single, union, meet, minus, up_to, when, within}
use Rattle.sets.proofs.Members.{has_union, has_minus, has_none, has_up_to}
use Rattle.sets.proofs.Orders.{within_at, within_from, within_same, within_chain, within_both, union_left, union_right, union_lowest, meet_left, meet_right, meet_greatest, size_rises, size_capped}
use Rattle.facts.specs.Flow.{Lawful}
use Rattle.facts.specs.Shapes.{spreading, ensured}

-- a step keeps the order of sets
abbrev pub Steady : ℕ → (ℕ → ℕ → ℕ) → Type 0
Steady n step = (i x y : ℕ) → within n x y ≡ true → within n (step i x) (step i y) ≡ true

-- a step stays among the sets of numbers below n
abbrev pub Inside : ℕ → (ℕ → ℕ → ℕ) → Type 0
Inside n step = (i x : ℕ) → x < 2 ^ n → step i x < 2 ^ n

-- sets that differ are not within one another
apart : (n x y : ℕ) → x < 2 ^ n → y < 2 ^ n → within n x y ≡ true → (x ≡ y → ⊥) → within n y x ≡ false
apart n x y hx hy a ne = elim (cases_Bool (within n y x)) [ inl b ↦ absurd (ne (within_both n x y hx hy a b)) | inr b ↦ b ]

up_to_below : (n : ℕ) → up_to n < 2 ^ n
up_to_below n = omega (arith, pow_pos n)

small : (n x : ℕ) → ltb x (2 ^ n) ≡ true → x < 2 ^ n
small n x h = ltb-true x (2 ^ n) h

pub spreading_lawful : (n : ℕ) (next : List (List ℕ)) (backward : Bool) (entry : ℕ) (step : ℕ → ℕ → ℕ) →
    entry < 2 ^ n → Steady n step → Inside n step → Lawful (spreading n next backward entry step)
spreading_lawful n next backward entry step e steady inside = record {
  same = within_same n;
  chain = within_chain n;
  bottom = λ x. within_from n 0 x (λ k h e. absurd (both_ways (has 0 k) (has_none k) e));
  left = union_left n;
  right = union_right n;
  lowest = union_lowest n;
  steady = steady;
  capped = size_capped n;
  rises = λ x y fx fy a ne. size_rises n x y a (apart n x y (small n x fx) (small n y fy) a ne);
  least_fact = lt-ltb 0 (2 ^ n) (pow_pos n);
  entry_fact = lt-ltb entry (2 ^ n) e;
  join_fact = λ x y fx fy. lt-ltb (union x y) (2 ^ n) (or_lt n x y (small n x fx) (small n y fy));
  step_fact = λ i x fx. lt-ltb (step i x) (2 ^ n) (inside i x (small n x fx));
}

pub ensured_lawful : (n : ℕ) (next : List (List ℕ)) (backward : Bool) (entry : ℕ) (step : ℕ → ℕ → ℕ) →
    entry < 2 ^ n → Steady n step → Inside n step → Lawful (ensured n next backward entry step)
ensured_lawful n next backward entry step e steady inside = record {
  same = within_same n;
  chain = λ x y z a b. within_chain n z y x b a;
  bottom = λ x. within_from n x (up_to n) (λ k h _. has_up_to n k ∙ lt-ltb k n h);
  left = meet_left n;
  right = meet_right n;
  lowest = λ x y z a b. meet_greatest n x y z a b;
  steady = λ i x y a. steady i y x a;
  capped = λ x. omega arith;
  rises = λ x y fx fy a ne. (let less = size_rises n y x a (apart n y x (small n y fy) (small n x fx) a (λ q. ne (sym q))) in omega (arith, less, size_capped n x));
  least_fact = lt-ltb (up_to n) (2 ^ n) (up_to_below n);
  entry_fact = lt-ltb entry (2 ^ n) e;
  join_fact = λ x y fx fy. lt-ltb (meet x y) (2 ^ n) (and_lt n x y (small n x fx) (small n y fy));
  step_fact = λ i x fx. lt-ltb (step i x) (2 ^ n) (inside i x (small n x fx));
}

-- a step that takes out some numbers and then adds some
pub made_steady : (n : ℕ) (adds takes : ℕ → ℕ) → Steady n (λ i x. union (adds i) (minus x (takes i)))
made_steady n adds takes i x y a = within_from n (union (adds i) (minus x (takes i))) (union (adds i) (minus y (takes i))) (λ k h e.
    has_union (adds i) (minus y (takes i)) k ∙
    elim (or_cases (has (adds i) k) (has (minus x (takes i)) k) (sym (has_union (adds i) (minus x (takes i)) k) ∙ e)) [
      | inl p ↦ or_left _ _ p
      | inr p ↦ (let q = and_parts (has x k) (not (has (takes i) k)) (sym (has_minus x (takes i) k) ∙ p) in
          or_right (has (adds i) k) _ (has_minus y (takes i) k ∙ and_from (has y k) (not (has (takes i) k)) (within_at n x y a k h q.0) q.1))
    ])

pub made_inside : (n : ℕ) (adds takes : ℕ → ℕ) → ((i : ℕ) → adds i < 2 ^ n) → Inside n (λ i x. union (adds i) (minus x (takes i)))
made_inside n adds takes small i x h = or_lt n (adds i) (minus x (takes i)) (small i) (xor_lt n x (bit_and x (takes i)) h (omega (arith, h, and_le_l x (takes i))))

-- a step that adds some numbers
pub added_steady : (n : ℕ) (adds : ℕ → ℕ) → Steady n (λ i x. union x (adds i))
added_steady n adds i x y a = union_lowest n x (adds i) _ (within_chain n x y _ a (union_left n y (adds i))) (union_right n y (adds i))

pub added_inside : (n : ℕ) (adds : ℕ → ℕ) → ((i : ℕ) → adds i < 2 ^ n) → Inside n (λ i x. union x (adds i))
added_inside n adds small i x h = or_lt n x (adds i) h (small i)

-- a number below n alone, or nothing
pub single_inside : (n v : ℕ) → when (ltb v n) (single v) < 2 ^ n
single_inside n v = elim (cases_lt v n) [ inl l ↦ rw (lt-ltb v n l) (pow_below v n l) | inr l ↦ rw (le-ltb v n l) (pow_pos n) ]
