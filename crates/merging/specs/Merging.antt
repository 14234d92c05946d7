-- What merging keeps: nodes, their members, and the edges between them.
use Rattle.std.specs.Prelude.{◌≡◌, ℕ, ◌<◌, ◌≤◌, true, false, ◌&&◌, List, length, Ok, ◌==◌, ◌≢◌, nat_lt, slice_index, slice_index_or}
use Rattle.sets.specs.Sets.{has}
use Rattle.rows.specs.declared.Row.{Row}
use Rattle.rows.specs.Rows.{copies, row_at, Program}
use Rattle.admission.specs.Admission.{admitting}
use Rattle.registers.specs.Model.{Model}
use Rattle.rounds.specs.declared.Ends.{Ends}
use Rattle.rounds.specs.Liveness.{live_after}
use Rattle.rounds.specs.Interference.{Graph, beside, class_at, node_at, interference}
use Rattle.rounds.specs.Coalescing.{no_ends, coalesced}
use Rattle.rounds.specs.Round.{graph_of}
use Rattle.interfering.specs.Edges.{Names, Proper, Hard}

-- a copy of a list: its ends are different nodes' members, source variables of one class
pub record Joins (vars : ℕ) (o : Graph) (c : Ends) : Type 0 where
  pub d_source : c.d < vars
  pub a_source : c.a < vars
  pub d_node : has o.nodes c.d ≡ true
  pub a_node : has o.nodes c.a ≡ true
  pub alike : class_at o c.d ≡ class_at o c.a

-- every copy of a list joins two such variables
abbrev pub AllJoin : ℕ → Graph → List Ends → Type 0
AllJoin vars o cs = (i : ℕ) → i < length cs → Joins vars o (slice_index_or cs i no_ends)

-- each variable is its own node
abbrev pub Unmerged : Graph → Type 0
Unmerged o = (v : ℕ) → node_at o v ≡ v

-- in a list of edges some member of node a has some member of node b as a neighbour
abbrev pub Between : List ℕ → Graph → ℕ → ℕ → Type 0
Between es g a b = (x : ℕ) × (y : ℕ) × (node_at g x ≡ a) × (node_at g y ≡ b) × (has (beside es x) y ≡ true)

-- the edges fs between nodes are exactly the edges es between members of different nodes
pub record Gathers (es fs : List ℕ) (g : Graph) : Type 0 where
  pub only : (a b : ℕ) → has (beside fs a) b ≡ true → (a ≢ b) × Between es g a b
  pub each : (a b : ℕ) → (a ≢ b) → Between es g a b → has (beside fs a) b ≡ true

-- graph g came of graph o by merges
pub record Coalesces (vars : ℕ) (o g : Graph) : Type 0 where
  pub classes : g.classes ≡ o.classes
  -- the node of a node is itself, the lowest of its members
  pub itself : (v : ℕ) → node_at g (node_at g v) ≡ node_at g v
  pub lowest : (v w : ℕ) → node_at g v ≡ node_at g w → node_at g v ≤ w
  -- members share a class
  pub alike : (v w : ℕ) → node_at g v ≡ node_at g w → class_at o v ≡ class_at o w
  -- only source variables share a node
  pub source : (v w : ℕ) → node_at g v ≡ node_at g w → (v ≢ w) → (v < vars) × (w < vars)
  -- the nodes are those that stand for themselves
  pub nodes : (v : ℕ) → has g.nodes v ≡ (has o.nodes v && node_at g v == v)
  pub member : (v : ℕ) → has o.nodes v ≡ true → has g.nodes (node_at g v) ≡ true
  -- edges are those of all members, and none lies inside a node
  pub edges : Gathers o.edges g.edges g
  pub hard : Gathers o.hard g.hard g
  -- no hard edge joins two members of a node
  pub apart : (v w : ℕ) → node_at g v ≡ node_at g w → has (beside o.hard v) w ≡ false

-- merging any list of copies, at most k times
abbrev pub MergingKeeps : Type 0
MergingKeeps = (m : Model) (vars : ℕ) (cs : List Ends) (k : ℕ) (o : Graph) → Proper o → Unmerged o → AllJoin vars o cs →
    Coalesces vars o (coalesced m cs k o) × Proper (coalesced m cs k o)

-- a copy is of one class
abbrev pub Alike : List ℕ → List Row → Type 0
Alike classes rows = (i : ℕ) → copies (row_at rows i).op ≡ true → slice_index classes (row_at rows i).d ≡ slice_index classes (row_at rows i).a

-- the merged graph of a round
abbrev pub RoundMerges : Type 0
RoundMerges = (m : Model) (vars : ℕ) (classes : List ℕ) (nodes : ℕ) (rows : List Row) → Names classes nodes rows → Alike classes rows →
    Coalesces vars (interference classes nodes rows (live_after rows)) (graph_of m vars classes nodes rows) × Proper (graph_of m vars classes nodes rows)

-- no row makes a hard edge between two members of a node
abbrev pub NoHardEdgeInside : Type 0
NoHardEdgeInside = (m : Model) (vars : ℕ) (classes : List ℕ) (nodes : ℕ) (rows : List Row) → Names classes nodes rows → Alike classes rows →
    (v w : ℕ) → node_at (graph_of m vars classes nodes rows) v ≡ node_at (graph_of m vars classes nodes rows) w → Hard rows v w → ⊥

-- members of a node share a class
abbrev pub MembersShareAClass : Type 0
MembersShareAClass = (m : Model) (vars : ℕ) (classes : List ℕ) (nodes : ℕ) (rows : List Row) → Names classes nodes rows → Alike classes rows →
    (v w : ℕ) → node_at (graph_of m vars classes nodes rows) v ≡ node_at (graph_of m vars classes nodes rows) w → slice_index classes v ≡ slice_index classes w

-- an admitted program names only its own variables, and copies within a class; so its first round merges as said
abbrev pub AdmittedInOrder : Type 0
AdmittedInOrder = (bs : List ℕ) (p : Program) → admitting bs ≡ Ok p → (nodes : ℕ) → ((v : ℕ) → has nodes v ≡ nat_lt v p.vars) →
    Names p.classes nodes p.rows × Alike p.classes p.rows
