-- What the rows of a player keep to.
use Rattle.std.specs.Prelude.{◌≡◌, ℕ, suc, ◌<◌, ◌≤◌, true, false, List, length}
use Rattle.rows.specs.declared.Row.{Row}
use Rattle.rows.specs.Rows.{shape, row_at}

-- wherever a row may go on, there is a row
abbrev pub Inside : List Row → Type 0
Inside rows = (i : ℕ) → i < length rows →
    ((shape (row_at rows i).op).target ≡ true → (row_at rows i).target < length rows) × ((shape (row_at rows i).op).falls ≡ true → suc i < length rows)

-- what a row writes is of a class
abbrev pub Classed : List Row → Type 0
Classed rows = (i : ℕ) → (shape (row_at rows i).op).d ≡ true → (row_at rows i).dclass ≤ 2

-- rows write none but the 64 variables, and use no slot
abbrev pub Named : List Row → Type 0
Named rows = (i : ℕ) → ((shape (row_at rows i).op).d ≡ true → (row_at rows i).d < 64) × ((shape (row_at rows i).op).slot ≡ false)
