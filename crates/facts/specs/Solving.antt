-- What solving leaves in the memory lent to it.
use Rattle.std.specs.Prelude.{◌≡◌, ℕ, ◌<◌, ◌≤◌, Bool, true, false, ◌&&◌, ◌||◌, List, [], ◌∷◌, map, length, take, drop, ◌==◌, nat_le, slice_index_or}
use Rattle.counting.specs.Counting.{range}
use Rattle.sets.specs.Sets.{has, union, single}
use Rattle.facts.specs.Flow.{Flow, rows, holds, comers, solved, at, Least}

-- the set of the rows of a list
unfoldable pub listed : List ℕ → ℕ
listed [] = 0
listed (j ∷ js) = union (single j) (listed js)

-- the rows that come to each row, as sets
unfoldable pub comer_sets : List (List ℕ) → List ℕ
unfolding listed comers range
comer_sets next = map (λ i. listed (comers next i)) (range (length next) 0)

-- row j was added to the sets of the rows of a list, and to no other
abbrev pub Listing : (was after : List ℕ) → ℕ → List ℕ → Type 0
Listing was after j is = (i m : ℕ) → i < length was → has (slice_index_or after i 0) m ≡ (has (slice_index_or was i 0) m || (holds is i && m == j))

-- whether a memory of so many facts and so many sets of comers will do; a backward kind wants no comers
abbrev pub suffices : Flow → ℕ → ℕ → Bool
suffices f facts sets = nat_le (rows f) facts && (f.backward || (nat_le (rows f) sets && nat_le (rows f) 448))

-- for a forward kind: a memory holds the rows that come to each row
abbrev pub Tells : Flow → List ℕ → Type 0
Tells f sets = f.backward ≡ false → (rows f ≤ 448) × (take (rows f) sets ≡ comer_sets f.next)

-- both memories after solving
pub record Solved (f : Flow) (kept kept' sets sets' : List ℕ) : Type 0 where
  pub facts : take (rows f) kept' ≡ solved f
  pub past : drop (rows f) kept' ≡ drop (rows f) kept
  pub least : Least f (at f (take (rows f) kept'))
  pub tells : Tells f sets'
  pub unlent : f.backward ≡ true → sets' ≡ sets
  pub untouched : drop (rows f) sets' ≡ drop (rows f) sets

-- what the answer says of both memories
abbrev pub Answers : Bool → Flow → (kept kept' sets sets' : List ℕ) → Type 0
Answers true f kept kept' sets sets' = Solved f kept kept' sets sets'
Answers false f kept kept' sets sets' = (kept' ≡ kept) × (sets' ≡ sets)
