-- A loop of four rows: row 0 goes on to 1, row 1 to 2 and 3, row 2 back to 1. Row 0 writes 0, row 2 reads 0 and writes 1, row 3 reads 1.
use Rattle.std.proofs.Common.{◌≡◌, ℕ, true, false, List, [], ◌∷◌, map, get_or, refl}
use Rattle.counting.specs.Counting.{range}
use Rattle.sets.specs.Sets.{union, minus}
use Rattle.facts.specs.Flow.{Flow, at, feeders, incoming, solved}
use Rattle.facts.specs.Shapes.{spreading, ensured}

abbrev next : List (List ℕ)
next = (1 ∷ []) ∷ (2 ∷ 3 ∷ []) ∷ (1 ∷ []) ∷ [] ∷ []

abbrev reads : ℕ → ℕ
reads i = get_or (0 ∷ 0 ∷ 1 ∷ 2 ∷ []) i 0

abbrev writes : ℕ → ℕ
writes i = get_or (1 ∷ 0 ∷ 2 ∷ 0 ∷ []) i 0

-- what some row further on reads before it is written
abbrev live : Flow
live = spreading 2 next true 0 (λ i x. union (reads i) (minus x (writes i)))

live_before_lem : solved live ≡ 2 ∷ 3 ∷ 1 ∷ 2 ∷ []
unfolding solved
live_before_lem = refl

live_after_lem : map (incoming live (feeders live) (at live (solved live))) (range 4 0) ≡ 3 ∷ 3 ∷ 3 ∷ 0 ∷ []
unfolding solved range
live_after_lem = refl

-- what every way to a row has written
abbrev written : Flow
written = ensured 2 next false 0 (λ i x. union x (writes i))

written_after : solved written ≡ 1 ∷ 1 ∷ 3 ∷ 1 ∷ []
unfolding solved
written_after = refl

written_before_lem : map (incoming written (feeders written) (at written (solved written))) (range 4 0) ≡ 0 ∷ 1 ∷ 1 ∷ 1 ∷ []
unfolding solved range
written_before_lem = refl
