-- What building the edges leaves in the memory lent to it.
use Rattle.std.specs.Prelude.{◌≡◌, ℕ, ◌<◌, Bool, true, false, cond, List, map, length, take, drop, ◌==◌, slice_index_or}
use Rattle.counting.specs.Counting.{range}
use Rattle.sets.specs.Sets.{has, single, union, when}
use Rattle.rows.specs.declared.Row.{Row}
use Rattle.rounds.specs.Liveness.{live_before, live_after}
use Rattle.rounds.specs.Interference.{Reason, reasons, near}

-- d was joined with each of the others, and nothing else was
abbrev pub Joined : ℕ → ℕ → (was after : List ℕ) → Type 0
Joined d others was after = (v : ℕ) → v < length was → (slice_index_or after v 0) ≡ union (cond (v == d) others (when (has others v) (single d))) ((slice_index_or was v 0))

-- the sets hold what reasons join with each variable that has a set
abbrev pub Neighbours : (Reason → ℕ) → List Reason → List ℕ → Type 0
Neighbours side rs sets = sets ≡ map (near side rs) (range (length sets) 0)

-- the three memories after building: for what is live, for all edges and for the hard ones
pub record Built (rows : List Row) (kept kept' all all' firm firm' : List ℕ) : Type 0 where
  -- what is live before each row stands in the first part
  pub live : (take (length rows) kept') ≡ live_before rows
  pub past : drop (length rows) kept' ≡ drop (length rows) kept
  pub edges : all' ≡ map (near (λ r. r.others) (reasons rows (live_after rows))) (range (length all) 0)
  pub hard : firm' ≡ map (near (λ r. r.hard) (reasons rows (live_after rows))) (range (length firm) 0)

-- what the answer says of the three memories
abbrev pub Answers : Bool → (rows : List Row) (kept kept' all all' firm firm' : List ℕ) → Type 0
Answers true rows kept kept' all all' firm firm' = Built rows kept kept' all all' firm firm'
Answers false rows kept kept' all all' firm firm' = (kept' ≡ kept) × (all' ≡ all) × (firm' ≡ firm)
