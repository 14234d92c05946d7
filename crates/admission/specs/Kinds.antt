-- The two kinds of facts that admit a program: which rows are reached, and which variables are surely written.
use Rattle.std.specs.Prelude.{ℕ, suc, Bool, false, not, List, [], ◌∷◌, ◌==◌}
use Rattle.sets.specs.Sets.{union, meet, minus, up_to}
use Rattle.rows.specs.declared.Row.{Row}
use Rattle.rows.specs.Rows.{next, reads, writes, set_of, row_at}
use Rattle.facts.specs.Flow.{Flow, feeders, at, incoming, solved}
use Rattle.facts.specs.Shapes.{spreading, ensured}

-- the rows that each of a list of rows may go on to, the first of them being row i
unfoldable pub nexts_from : ℕ → List Row → List (List ℕ)
nexts_from i [] = []
nexts_from i (r ∷ rs) = next i r ∷ nexts_from (suc i) rs

-- the rows that each row of a program may go on to
abbrev pub nexts : List Row → List (List ℕ)
nexts rows = nexts_from 0 rows

-- reach, yes or no: the set of 0, or the empty set; row 0 is reached, and what a reached row goes on to
abbrev pub reach : List Row → Flow
reach rows = spreading 1 (nexts rows) false 1 (λ i x. x)

-- initialisation: the variables written on every way; a smaller set is a greater fact, and before row 0 none is written
abbrev pub initialisation : ℕ → List Row → Flow
initialisation vars rows = ensured vars (nexts rows) false 0 (λ i x. union x (meet (set_of (writes (row_at rows i))) (up_to vars)))

-- whether row i is reached
unfoldable pub reached : List Row → ℕ → Bool
unfolding nexts_from solved
reached rows i = let kept = solved (reach rows) in not (at (reach rows) kept i == 0)

-- the variables that are surely written before row i
unfoldable pub written_before : ℕ → List Row → ℕ → ℕ
unfolding nexts_from solved feeders incoming
written_before vars rows i =
    let f = initialisation vars rows in
    incoming f (feeders f) (at f (solved f)) i

-- whether row i reads only what is surely written
unfoldable pub sure : ℕ → List Row → ℕ → Bool
unfolding written_before set_of
sure vars rows i = minus (set_of (reads (row_at rows i))) (written_before vars rows i) == 0
