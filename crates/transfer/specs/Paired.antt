-- Which temporaries are neighbours: the two loads of a block.
use Rattle.std.specs.Prelude.{◌≡◌, ℕ, ◌+◌, ◌<◌, ◌≤◌, true, ◌≢◌}
use Rattle.sets.specs.Sets.{has}
use Rattle.registers.specs.Model.{Model}
use Rattle.rounds.specs.Liveness.{live_after}
use Rattle.rounds.specs.Interference.{Graph, neighbours, interference}
use Rattle.rounds.specs.Round.{graph_of}
use Rattle.compiling.specs.Working.{Working, unspilled}
use Rattle.compiling.specs.Rewrite.{class_in}
use Rattle.interfering.specs.Edges.{Names}
use Rattle.merging.specs.Merging.{Alike}
use Rattle.colouring.specs.Selecting.{Proper}
use Rattle.colouring.specs.Removing.{Paired}
use Rattle.standing.specs.Standing.{source_rows, line_of, Standing}
use Rattle.transfer.specs.Inside.{BlockOf}

-- the rows of a working program name only its nodes, and copy within a class
abbrev pub StandingInOrder : Type 0
StandingInOrder = (w : Working) (start : ℕ → ℕ) → Standing w start → Names w.classes (unspilled w) w.rows × Alike w.classes w.rows

-- t and x are what two different loads of one block write
abbrev pub Couple : Working → (ℕ → ℕ) → ℕ → ℕ → Type 0
Couple w start t x = (i : ℕ) × (n : ℕ) × (j : ℕ) × (k : ℕ) × (i < source_rows w) × BlockOf w start i n × (j < n) × (k < n) × (j ≢ k) × ((line_of w (start i + j)).d ≡ t) × ((line_of w (start i + k)).d ≡ x)

-- the graph of a working program's rows, before any merge
abbrev pub graph_before : Working → Graph
graph_before w = interference w.classes (unspilled w) w.rows (live_after w.rows)

-- temporaries that are neighbours are the two loads of a block
abbrev pub NeighboursCouple : Type 0
NeighboursCouple = (w : Working) (start : ℕ → ℕ) → Standing w start → (t x : ℕ) → w.source.vars ≤ t → w.source.vars ≤ x →
    has (neighbours (graph_before w) t) x ≡ true → Couple w start t x

-- the graph that a round colours
abbrev pub graph_after : Model → Working → Graph
graph_after m w = graph_of m w.source.vars w.classes (unspilled w) w.rows

-- every class is byte, half or word
abbrev pub ThreeClasses : Working → Type 0
ThreeClasses w = (v : ℕ) → class_in w.classes v < 3

-- so before and after merging each temporary has at most one temporary beside it
pub record Pairs (m : Model) (w : Working) : Type 0 where
  pub before : Paired (graph_before w) w.source.vars
  pub before_proper : Proper (graph_before w)
  pub after : Paired (graph_after m w) w.source.vars
  pub after_proper : Proper (graph_after m w)

abbrev pub TemporariesPaired : Type 0
TemporariesPaired = (m : Model) (w : Working) (start : ℕ → ℕ) → Standing w start → ThreeClasses w → Pairs m w
