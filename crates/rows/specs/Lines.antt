-- What the rows of a working program keep to.
use Rattle.std.specs.Prelude.{◌≡◌, ℕ, ◌<◌, ◌≤◌, true, List}
use Rattle.rows.specs.declared.Row.{Row}
use Rattle.rows.specs.Rows.{shape, row_at}

-- weights are those of a source file, and what a row writes has a place in a node set
abbrev pub Tame : List Row → Type 0
Tame rows = (i : ℕ) → ((row_at rows i).weight ≤ 3) × ((shape (row_at rows i).op).d ≡ true → (row_at rows i).d < 448)
