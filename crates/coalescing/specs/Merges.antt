-- What merging over node sets means.
use Rattle.std.specs.Prelude.{◌≡◌, ℕ, min, max, List, take}
use Rattle.sets.specs.Words.{members, sets_of}
use Rattle.rounds.specs.declared.Ends.{Ends}
use Rattle.rounds.specs.Interference.{Graph, node_at}
use Rattle.graphs.specs.declared.variables.Variables.{Variables}
use Rattle.graphs.specs.Graphs.{graph, classes_of}
use Rattle.coalescing.specs.declared.merged.Merged.{Merged}

-- the graph of variables, their nodes, and the edges in node sets
abbrev pub graph_of : Variables → Merged → (edges hard : List ℕ) → Graph
graph_of v m edges hard = graph (classes_of v) (take v.count m.node) (members m.nodes) (sets_of edges) (sets_of hard)

-- low and high are the nodes at the ends of a copy
abbrev pub JoinsEnds : Graph → Ends → ℕ → ℕ → Type 0
JoinsEnds g c low high = (low ≡ min (node_at g c.d) (node_at g c.a)) × (high ≡ max (node_at g c.d) (node_at g c.a))
