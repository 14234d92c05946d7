-- Two nodes that become one.
use Rattle.std.specs.Prelude.{ℕ, cond, List, ◌==◌}
use Rattle.sets.specs.Sets.{single, union, minus}
use Rattle.rounds.specs.Interference.{beside}

-- the node of a variable after high went into low
abbrev pub moved : ℕ → ℕ → ℕ → ℕ
moved low high v = cond (v == high) low v

-- the neighbours of low and of high, without these two
abbrev pub near_both : ℕ → ℕ → List ℕ → ℕ
near_both low high es = minus (union (beside es low) (beside es high)) (union (single low) (single high))
