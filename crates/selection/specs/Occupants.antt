-- The occupants of a register: the nodes whose register overlaps it. They are kept for each register, so that the nodes need not be asked again.
use Rattle.std.specs.Prelude.{◌≡◌, ℕ, ◌<◌, Bool, cond, not, ◌&&◌, List, ◌==◌, slice_index_or}
use Rattle.counting.specs.Counting.{any}
use Rattle.sets.specs.Sets.{has}
use Rattle.sets.specs.Words.{members, no_set}
use Rattle.registers.specs.Model.{Model}
use Rattle.rounds.specs.Select.{register_of}

-- whether node k is an occupant of register r
abbrev pub occupies : List ℕ → ℕ → ℕ → Bool
occupies occupants r k = has (members (slice_index_or occupants r no_set)) k

-- the occupants that registers taken make
abbrev pub Occupied : Model → List ℕ → List ℕ → Type 0
Occupied m taken occupants = (r k : ℕ) → r < m.count → k < 448 → occupies occupants r k ≡ m.overlaps r (register_of m taken k)

-- whether register r is of a class and has no occupant among the neighbours
abbrev pub vacant : Model → List ℕ → ℕ → ℕ → ℕ → Bool
vacant m occupants class neighbours r = m.belongs r class && not (any (λ k. has neighbours k && occupies occupants r k) 448)

-- the occupants after node v took register s
abbrev pub Settled : Model → ℕ → ℕ → List ℕ → List ℕ → Type 0
Settled m v s was after = (r k : ℕ) → r < m.count → k < 448 → occupies after r k ≡ cond (v == k) (m.overlaps r s) (occupies was r k)
