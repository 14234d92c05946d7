-- Liveness: the variables that a row further on may read before it is written again.
use Rattle.std.specs.Prelude.{ℕ, true, List, map, length}
use Rattle.counting.specs.Counting.{range}
use Rattle.sets.specs.Sets.{union, minus}
use Rattle.rows.specs.declared.Row.{Row}
use Rattle.rows.specs.Rows.{reads, writes, set_of, row_at}
use Rattle.facts.specs.Flow.{Flow, feeders, at, incoming, solved, Least}
use Rattle.facts.specs.Shapes.{spreading}
use Rattle.admission.specs.Kinds.{nexts_from, nexts}

-- a backward kind: before a row is live what it reads, and what is live after it and it does not write
abbrev pub liveness : List Row → Flow
liveness rows = spreading 448 (nexts rows) true 0 (λ i x. union (set_of (reads (row_at rows i))) (minus x (set_of (writes (row_at rows i)))))

-- what is live before each row
unfoldable pub live_before : List Row → List ℕ
unfolding nexts_from set_of solved
live_before rows = solved (liveness rows)

-- what is live after each row
unfoldable pub live_after : List Row → List ℕ
unfolding nexts_from set_of live_before feeders incoming range
live_after rows =
    let f = liveness rows in
    let kept = live_before rows in
    map (incoming f (feeders f) (at f kept)) (range (length rows) 0)

-- what is called live is the least solution of the equations
abbrev pub LiveLeast : Type 0
LiveLeast = (rows : List Row) → Least (liveness rows) (at (liveness rows) (live_before rows))
