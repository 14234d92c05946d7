-- Admission by paths: the ways that a run may take from row 0.
use Rattle.std.specs.Prelude.{◌≡◌, ℕ, ◌<◌, Bool, true, false, ◌||◌, List, [], ◌∷◌, length, Ok, Err}
use Rattle.faults.specs.declared.ProgramFault.TheVariants.{Unreached, Unwritten}
use Rattle.rows.specs.declared.Row.{Row}
use Rattle.rows.specs.Rows.{next, reads, writes, row_at, Program}
use Rattle.facts.specs.Flow.{holds}
use Rattle.source.specs.Reading.{reading}
use Rattle.admission.specs.Admission.{admitting}

-- a path from row 0 to row i, given by the rows before i, the latest first
abbrev pub Leads : List Row → List ℕ → ℕ → Type 0
Leads rows [] i = i ≡ 0
Leads rows (j ∷ js) i = (j < length rows) × (holds (next j (row_at rows j)) i ≡ true) × Leads rows js j

-- whether some row of a path writes v
unfoldable pub written_on : List Row → List ℕ → ℕ → Bool
unfolding holds
written_on rows [] v = false
written_on rows (j ∷ js) v = holds (writes (row_at rows j)) v || written_on rows js v

-- some path leads to row i
abbrev pub Reachable : List Row → ℕ → Type 0
Reachable rows i = (path : List ℕ) × Leads rows path i

-- on every path to row i each variable that it reads has been written
abbrev pub Ready : List Row → ℕ → Type 0
Ready rows i = (path : List ℕ) → Leads rows path i → (v : ℕ) → holds (reads (row_at rows i)) v ≡ true → written_on rows path v ≡ true

-- on some path to row i a variable that it reads has not been written
abbrev pub Unready : List Row → ℕ → Type 0
Unready rows i = (path : List ℕ) × Leads rows path i × (v : ℕ) × (holds (reads (row_at rows i)) v ≡ true) × (written_on rows path v ≡ false)

-- every row lies on a path from row 0, and on every path to a row each variable that it reads has been written
pub record Sound (p : Program) : Type 0 where
  pub reachable : (i : ℕ) → i < length p.rows → Reachable p.rows i
  pub written : (i : ℕ) → i < length p.rows → Ready p.rows i

-- row i is the lowest to which no path leads
pub record FirstUnreached (p : Program) (i : ℕ) : Type 0 where
  pub inside : i < length p.rows
  pub lost : Reachable p.rows i → ⊥
  pub lower : (k : ℕ) → k < i → Reachable p.rows k

-- every row lies on a path from row 0, and row i is the lowest to which one leads that has not written what the row reads
pub record FirstUnwritten (p : Program) (i : ℕ) : Type 0 where
  pub reachable : (k : ℕ) → k < length p.rows → Reachable p.rows k
  pub inside : i < length p.rows
  pub raw : Unready p.rows i
  pub lower : (k : ℕ) → k < i → Ready p.rows k

-- a file is admitted, as the program p, exactly if it holds p and p is sound
pub record Admits (bs : List ℕ) (p : Program) : Type 0 where
  pub only : admitting bs ≡ Ok p → (reading bs ≡ Ok p) × Sound p
  pub each : reading bs ≡ Ok p → Sound p → admitting bs ≡ Ok p

-- a file is refused for row i as unreached exactly if it holds a program whose lowest row without a path is i
pub record RefusesUnreached (bs : List ℕ) (i : ℕ) : Type 0 where
  pub only : admitting bs ≡ Err (Unreached i) → (p : Program) × (reading bs ≡ Ok p) × FirstUnreached p i
  pub each : (p : Program) → reading bs ≡ Ok p → FirstUnreached p i → admitting bs ≡ Err (Unreached i)

-- a file is refused for row i as unwritten exactly if it holds a program whose rows all have paths, and whose lowest row with a path that has not written what the row reads is i
pub record RefusesUnwritten (bs : List ℕ) (i : ℕ) : Type 0 where
  pub only : admitting bs ≡ Err (Unwritten i) → (p : Program) × (reading bs ≡ Ok p) × FirstUnwritten p i
  pub each : (p : Program) → reading bs ≡ Ok p → FirstUnwritten p i → admitting bs ≡ Err (Unwritten i)

-- what admission means, of every file and program
abbrev pub AdmissionByPaths : Type 0
AdmissionByPaths = (bs : List ℕ) (p : Program) → Admits bs p

-- what the two refusals of admission mean, of every file and row
abbrev pub UnreachedByPaths : Type 0
UnreachedByPaths = (bs : List ℕ) (i : ℕ) → RefusesUnreached bs i

abbrev pub UnwrittenByPaths : Type 0
UnwrittenByPaths = (bs : List ℕ) (i : ℕ) → RefusesUnwritten bs i
