-- What the variables of a working program mean, and the graph that a weighing asks.
use Rattle.std.specs.Prelude.{ℕ, List, [], take}
use Rattle.sets.specs.Words.{sets_of}
use Rattle.rounds.specs.Interference.{Graph}
use Rattle.graphs.specs.declared.variables.Variables.{Variables}
use Rattle.graphs.specs.declared.Weighing.{Weighing}

-- the class of each variable
abbrev pub classes_of : Variables → List ℕ
classes_of v = take v.count v.classes

-- a graph by its parts
abbrev pub graph : (classes node : List ℕ) → (nodes : ℕ) → (edges hard : List ℕ) → Graph
graph classes node nodes edges hard = record { classes = classes; node = node; nodes = nodes; edges = edges; hard = hard }

-- the graph of a weighing: classes and edges, for the test asks neither for nodes nor for hard edges
abbrev pub drawn : {F : Type 0} → Weighing F → Graph
drawn w = graph (classes_of w.variables.now) [] 0 (sets_of w.edges.now) []
