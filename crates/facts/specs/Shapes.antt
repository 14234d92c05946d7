-- The two shapes that a kind of sets of numbers below n may have.
use Rattle.std.specs.Prelude.{ℕ, ◌-◌, ◌^◌, Bool, List, nat_lt}
use Rattle.sets.specs.Sets.{union, meet, up_to, within, size}
use Rattle.facts.specs.Flow.{Flow}

-- what holds along some way: facts grow from nothing by union
abbrev pub spreading : ℕ → List (List ℕ) → Bool → ℕ → (ℕ → ℕ → ℕ) → Flow
spreading n next backward entry step = record {
  next = next;
  backward = backward;
  entry = entry;
  least = 0;
  join = λ x y. union x y;
  below = λ x y. within n x y;
  fact = λ x. nat_lt x (2 ^ n);
  rank = λ x. size n x;
  height = n;
  step = step;
}

-- what holds along every way: facts shrink from all numbers below n by meet
abbrev pub ensured : ℕ → List (List ℕ) → Bool → ℕ → (ℕ → ℕ → ℕ) → Flow
ensured n next backward entry step = record {
  next = next;
  backward = backward;
  entry = entry;
  least = up_to n;
  join = λ x y. meet x y;
  below = λ x y. within n y x;
  fact = λ x. nat_lt x (2 ^ n);
  rank = λ x. n - size n x;
  height = n;
  step = step;
}
