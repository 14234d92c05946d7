-- What a round of a working program comes to.
use Rattle.std.specs.Prelude.{◌≡◌, ℕ, true}
use Rattle.sets.specs.Sets.{has}
use Rattle.rows.specs.Rows.{Program}
use Rattle.packing.specs.Inverse.{WellFormed}
use Rattle.registers.specs.Model.{Model, Lawful}
use Rattle.rounds.specs.Interference.{beside, neighbours, node_at}
use Rattle.rounds.specs.Round.{Outcome}
use Rattle.compiling.specs.Working.{Working, admitted, round_of}
use Rattle.compiling.specs.Rewrite.{rewritten}
use Rattle.interfering.specs.Edges.{Hard}
use Rattle.colouring.specs.Rounds.{Settled}
use Rattle.standing.specs.Standing.{Standing, Spills}
use Rattle.transfer.specs.Paired.{ThreeClasses, graph_before, graph_after}
use Rattle.transfer.specs.Transfer.{Unplaced}

-- the classes of a working program are byte, half and word before the first round and after each that spills
pub record ClassesStay : Type 0 where
  pub first : (p : Program) → WellFormed p → ThreeClasses (admitted p)
  pub later : (w : Working) (o : Outcome) → ThreeClasses w → ThreeClasses (rewritten w o)

-- a round of a working program ends settled
abbrev pub RoundsSettle : Type 0
RoundsSettle = (m : Model) → Lawful m → (w : Working) (start : ℕ → ℕ) → Standing w start → ThreeClasses w → Settled m w.source.vars (round_of m w)

-- source variables without a slot that share a node of a round have no hard edge by a source row
abbrev pub SharedNodesQuiet : Type 0
SharedNodesQuiet = (m : Model) (w : Working) (start : ℕ → ℕ) → Standing w start → (x y : ℕ) → Unplaced w x → Unplaced w y →
    node_at (graph_after m w) x ≡ node_at (graph_after m w) y → Hard w.source.rows x y → ⊥

-- source variables without a slot have the edges, soft and hard, that they have in the graph of the source's first round
pub record GraphsAlike (w : Working) (x y : ℕ) : Type 0 where
  pub edges : has (neighbours (graph_before w) x) y ≡ has (neighbours (graph_before (admitted w.source)) x) y
  pub hard : has (beside (graph_before w).hard x) y ≡ has (beside (graph_before (admitted w.source)).hard x) y

abbrev pub EdgesTransfer : Type 0
EdgesTransfer = (w : Working) (start : ℕ → ℕ) → Standing w start → (x y : ℕ) → Unplaced w x → Unplaced w y → GraphsAlike w x y

-- what a round spills are nodes of source variables that had no slot
abbrev pub RoundsSpill : Type 0
RoundsSpill = (m : Model) → Lawful m → (w : Working) (start : ℕ → ℕ) → Standing w start → ThreeClasses w → Spills w (round_of m w)
