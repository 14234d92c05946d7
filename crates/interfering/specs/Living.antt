-- What is live, in words of rows.
use Rattle.std.specs.Prelude.{◌≡◌, ℕ, ◌<◌, Bool, true, false, not, ◌&&◌, ◌||◌, List, [], ◌∷◌, length, Ok, slice_index}
use Rattle.sets.specs.Sets.{has}
use Rattle.rows.specs.declared.Row.{Row}
use Rattle.rows.specs.Rows.{next, reads, writes, row_at, Program}
use Rattle.facts.specs.Flow.{holds}
use Rattle.admission.specs.Kinds.{sure}
use Rattle.admission.specs.Admission.{admitting}
use Rattle.rounds.specs.Liveness.{live_before, live_after}

-- whether row i reads v
abbrev pub read_at : List Row → ℕ → ℕ → Bool
read_at rows i v = holds (reads (row_at rows i)) v

-- whether row i writes v
abbrev pub written_at : List Row → ℕ → ℕ → Bool
written_at rows i v = holds (writes (row_at rows i)) v

-- whether row i may go on to row j
abbrev pub goes_on : List Row → ℕ → ℕ → Bool
goes_on rows i j = holds (next i (row_at rows i)) j

-- whether v is live before row i
abbrev pub lives_before : List Row → ℕ → ℕ → Bool
lives_before rows i v = has (slice_index (live_before rows) i) v

-- whether v is live after row i
abbrev pub lives_after : List Row → ℕ → ℕ → Bool
lives_after rows i v = has (slice_index (live_after rows) i) v

-- a way from row i along the rows of a list to a row that reads v, none before that one writing v
abbrev pub Awaits : List Row → ℕ → List ℕ → ℕ → Type 0
Awaits rows v [] i = read_at rows i v ≡ true
Awaits rows v (j ∷ js) i = (written_at rows i v ≡ false) × (goes_on rows i j ≡ true) × Awaits rows v js j

-- liveness of v over the rows of a program
pub record Lives (rows : List Row) (v : ℕ) : Type 0 where
  -- before a row: what it reads, and what is live after it and it does not write
  pub before : (i : ℕ) → lives_before rows i v ≡ (read_at rows i v || (lives_after rows i v && not (written_at rows i v)))
  -- after a row: what is live before some row that it may go on to
  pub after_only : (i : ℕ) → lives_after rows i v ≡ true → (j : ℕ) × (goes_on rows i j ≡ true) × (lives_before rows j v ≡ true)
  pub after_each : (i j : ℕ) → goes_on rows i j ≡ true → lives_before rows j v ≡ true → lives_after rows i v ≡ true
  -- live before a row, exactly if a way leads from it to a row that reads v before v is written
  pub way_only : (i : ℕ) → lives_before rows i v ≡ true → (way : List ℕ) × Awaits rows v way i
  pub way_each : (i : ℕ) (way : List ℕ) → Awaits rows v way i → lives_before rows i v ≡ true

-- liveness of every variable, whatever the rows
abbrev pub LivenessByWays : Type 0
LivenessByWays = (rows : List Row) (v : ℕ) → v < 448 → Lives rows v

-- every row reads only what is surely written
abbrev pub AllSure : ℕ → List Row → Type 0
AllSure vars rows = (i : ℕ) → i < length rows → sure vars rows i ≡ true

-- nothing is live before row 0 of an admitted program
abbrev pub NoneLiveAtStart : Type 0
NoneLiveAtStart = (bs : List ℕ) (p : Program) → admitting bs ≡ Ok p → (v : ℕ) → lives_before p.rows 0 v ≡ false
