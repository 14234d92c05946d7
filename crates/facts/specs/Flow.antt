-- Facts that flow along the rows of a program: their equations, the sweeps that solve them, and the laws that make the answer the least.
use Rattle.std.specs.Prelude.{◌≡◌, ℕ, zero, suc, ◌+◌, ◌-◌, ◌*◌, ◌<◌, ◌≤◌, Bool, true, false, cond, not, ◌||◌, List, [], ◌∷◌, map, length, replicate, ◌==◌, ◌≢◌, slice_index_or, slice_set}
use Rattle.counting.specs.Counting.{range, down}

-- a kind of fact over the rows of a program; a fact is a set, so one number
pub record Flow : Type 0 where
  -- the rows that each row may go on to
  pub next : List (List ℕ)
  -- whether facts flow to a row from those that it goes on to, not from those that come to it
  pub backward : Bool
  -- what enters at the first row in the direction
  pub entry : ℕ
  pub least : ℕ
  pub join : ℕ → ℕ → ℕ
  -- the order of facts
  pub below : ℕ → ℕ → Bool
  -- which numbers are facts of the kind
  pub fact : ℕ → Bool
  -- how high a fact stands, and the most that it may be
  pub rank : ℕ → ℕ
  pub height : ℕ
  -- what a row yields from what comes to it
  pub step : ℕ → ℕ → ℕ

-- how many rows there are
abbrev pub rows : Flow → ℕ
rows f = length f.next

-- whether i stands in a list
unfoldable pub holds : List ℕ → ℕ → Bool
holds [] i = false
holds (k ∷ ks) i = let r = holds ks i in (i == k) || r

-- the places, counted from j, of the lists that hold i
unfoldable pub holders : ℕ → ℕ → List (List ℕ) → List ℕ
unfolding holds
holders i j [] = []
holders i j (ks ∷ kss) =
    let rest = holders i (suc j) kss in
    cond (holds ks i) (j ∷ rest) rest

-- the rows that may go on to row i, ascending
unfoldable pub comers : List (List ℕ) → ℕ → List ℕ
unfolding holders
comers next i = holders i 0 next

-- the rows that hand each row what they yield
unfoldable pub feeders : Flow → List (List ℕ)
unfolding comers range
feeders f =
    let before = map (comers f.next) (range (rows f) 0) in
    cond f.backward f.next before

-- the rows in the order of visits
unfoldable pub turns : Flow → List ℕ
unfolding down range
turns f = cond f.backward (down (rows f)) (range (rows f) 0)

-- what enters at row i from outside
abbrev pub enters : Flow → ℕ → ℕ
enters f i = cond (i == cond f.backward (rows f - 1) 0) f.entry f.least

-- the facts in a list, one for each row
abbrev pub at : Flow → List ℕ → ℕ → ℕ
at f kept i = slice_index_or kept i f.least

-- x joined with what the rows of a list keep
unfoldable pub gather : (ℕ → ℕ → ℕ) → (ℕ → ℕ) → ℕ → List ℕ → ℕ
gather join kept x [] = x
gather join kept x (j ∷ js) = gather join kept (join x (kept j)) js

-- what comes to row i
unfoldable pub incoming : Flow → List (List ℕ) → (ℕ → ℕ) → ℕ → ℕ
unfolding gather
incoming f table kept i = gather f.join kept (enters f i) (slice_index_or table i [])

-- what row i yields
abbrev pub yields : Flow → List (List ℕ) → (ℕ → ℕ) → ℕ → ℕ
yields f table kept i = f.step i (incoming f table kept i)

-- the facts kept so far, and whether a visit altered one
pub record Sweep : Type 0 where
  pub kept : List ℕ
  pub altered : Bool

-- a visit of each row of a list in turn
unfoldable pub sweep : Flow → List (List ℕ) → List ℕ → List ℕ → Bool → Sweep
unfolding incoming
sweep f table [] kept altered = record { kept = kept; altered = altered }
sweep f table (i ∷ is) kept altered =
    let x = yields f table (at f kept) i in
    sweep f table is (slice_set kept i x) (altered || not (x == at f kept i))

-- at most m sweeps, up to the first that alters nothing
unfoldable pub solve : Flow → List (List ℕ) → ℕ → List ℕ → List ℕ
unfolding sweep turns
solve f table zero kept = kept
solve f table (suc m) kept =
    let s = sweep f table (turns f) kept false in
    let more = solve f table m s.kept in
    cond s.altered more s.kept

-- the facts of a kind, one for each row
unfoldable pub solved : Flow → List ℕ
unfolding solve feeders
solved f = solve f (feeders f) (f.height * rows f + 1) (replicate (rows f) f.least)

-- each row keeps just what it yields
abbrev pub Solves : Flow → (ℕ → ℕ) → Type 0
Solves f x = (i : ℕ) → i < rows f → x i ≡ yields f (feeders f) x i

-- no row yields more than it keeps
abbrev pub Closed : Flow → (ℕ → ℕ) → Type 0
Closed f x = (i : ℕ) → i < rows f → f.below (yields f (feeders f) x i) (x i) ≡ true

-- the least of all facts that solve the equations, and of all that no row yields more than
pub record Least (f : Flow) (x : ℕ → ℕ) : Type 0 where
  pub solves : Solves f x
  pub under : (y : ℕ → ℕ) → Closed f y → (i : ℕ) → i < rows f → f.below (x i) (y i) ≡ true

-- what each kind owes; the order holds of every number, the rise of ranks of facts only
pub record Lawful (f : Flow) : Type 0 where
  pub same : (x : ℕ) → f.below x x ≡ true
  pub chain : (x y z : ℕ) → f.below x y ≡ true → f.below y z ≡ true → f.below x z ≡ true
  pub bottom : (x : ℕ) → f.below f.least x ≡ true
  pub left : (x y : ℕ) → f.below x (f.join x y) ≡ true
  pub right : (x y : ℕ) → f.below y (f.join x y) ≡ true
  pub lowest : (x y z : ℕ) → f.below x z ≡ true → f.below y z ≡ true → f.below (f.join x y) z ≡ true
  pub steady : (i x y : ℕ) → f.below x y ≡ true → f.below (f.step i x) (f.step i y) ≡ true
  pub capped : (x : ℕ) → f.rank x ≤ f.height
  pub rises : (x y : ℕ) → f.fact x ≡ true → f.fact y ≡ true → f.below x y ≡ true → (x ≢ y) → f.rank x < f.rank y
  pub least_fact : f.fact f.least ≡ true
  pub entry_fact : f.fact f.entry ≡ true
  pub join_fact : (x y : ℕ) → f.fact x ≡ true → f.fact y ≡ true → f.fact (f.join x y) ≡ true
  pub step_fact : (i x : ℕ) → f.fact x ≡ true → f.fact (f.step i x) ≡ true
