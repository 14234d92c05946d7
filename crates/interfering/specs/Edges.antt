-- Which variables are neighbours, in words of rows, and what a graph keeps up.
use Rattle.std.specs.Prelude.{◌≡◌, ℕ, ◌<◌, Bool, true, false, ◌&&◌, ◌⊎◌, List, length, ◌≢◌}
use Rattle.sets.specs.Sets.{has}
use Rattle.rows.specs.declared.Row.{Row}
use Rattle.rows.specs.Rows.{copies, row_at}
use Rattle.rounds.specs.Liveness.{live_after}
use Rattle.rounds.specs.Interference.{Graph, beside, neighbours, node_at, interference}
use Rattle.interfering.specs.Living.{read_at, written_at, lives_after}

-- row i writes x while y, another variable, is live after it
abbrev pub Meets : List Row → ℕ → ℕ → ℕ → Type 0
Meets rows i x y = (written_at rows i x ≡ true) × (lives_after rows i y ≡ true) × (x ≢ y)

-- whether row i is a copy from y
abbrev pub copies_from : List Row → ℕ → ℕ → Bool
copies_from rows i y = copies (row_at rows i).op && read_at rows i y

-- the same, by a row that is no copy from y
abbrev pub Clashes : List Row → ℕ → ℕ → ℕ → Type 0
Clashes rows i x y = Meets rows i x y × (copies_from rows i y ≡ false)

-- what makes x and y neighbours, and what makes their edge hard
abbrev pub Neighbours : List Row → ℕ → ℕ → Type 0
Neighbours rows x y = (i : ℕ) × (Meets rows i x y ⊎ Meets rows i y x)

abbrev pub Hard : List Row → ℕ → ℕ → Type 0
Hard rows x y = (i : ℕ) × (Clashes rows i x y ⊎ Clashes rows i y x)

-- whether a row names v
abbrev pub Named : List Row → ℕ → ℕ → Type 0
Named rows i v = (read_at rows i v ≡ true) ⊎ (written_at rows i v ≡ true)

-- the rows name only nodes, and the nodes are variables with a class
pub record Names (classes : List ℕ) (nodes : ℕ) (rows : List Row) : Type 0 where
  pub named : (i v : ℕ) → Named rows i v → has nodes v ≡ true
  pub below : (v : ℕ) → has nodes v ≡ true → v < length classes

-- the edges of a graph go both ways between different nodes, and every hard edge is an edge
pub record Proper (g : Graph) : Type 0 where
  pub below : (v : ℕ) → has g.nodes v ≡ true → v < length g.classes
  pub ends : (v w : ℕ) → has (neighbours g v) w ≡ true → has g.nodes w ≡ true
  pub symmetric : (v w : ℕ) → has (neighbours g v) w ≡ true → has (neighbours g w) v ≡ true
  pub loopless : (v : ℕ) → has (neighbours g v) v ≡ false
  pub hard_symmetric : (v w : ℕ) → has (beside g.hard v) w ≡ true → has (beside g.hard w) v ≡ true
  pub hard_edge : (v w : ℕ) → has (beside g.hard v) w ≡ true → has (neighbours g v) w ≡ true
  pub edges_long : length g.edges ≡ length g.classes
  pub hard_long : length g.hard ≡ length g.classes
  pub node_long : length g.node ≡ length g.classes

-- the edges of a graph are what the rows make
pub record Interferes (rows : List Row) (g : Graph) : Type 0 where
  pub edge_only : (v w : ℕ) → has (neighbours g v) w ≡ true → Neighbours rows v w
  pub edge_each : (v w : ℕ) → Neighbours rows v w → has (neighbours g v) w ≡ true
  pub hard_only : (v w : ℕ) → has (beside g.hard v) w ≡ true → Hard rows v w
  pub hard_each : (v w : ℕ) → Hard rows v w → has (beside g.hard v) w ≡ true
  -- each variable is its own node
  pub alone : (v : ℕ) → node_at g v ≡ v

-- the graph of the rows is made by them, and is a proper one
abbrev pub EdgesByRows : Type 0
EdgesByRows = (classes : List ℕ) (nodes : ℕ) (rows : List Row) → Names classes nodes rows →
    Interferes rows (interference classes nodes rows (live_after rows)) × Proper (interference classes nodes rows (live_after rows))

-- a row that writes d makes it a neighbour of every other variable that is live after the row, whether or not d is ever read
abbrev pub WritingMakesEdges : Type 0
WritingMakesEdges = (classes : List ℕ) (nodes : ℕ) (rows : List Row) → Names classes nodes rows →
    (i d w : ℕ) → written_at rows i d ≡ true → lives_after rows i w ≡ true → (d ≢ w) → has (neighbours (interference classes nodes rows (live_after rows)) d) w ≡ true
