-- What a round promises of its outcome.
use Rattle.std.specs.Prelude.{◌≡◌, ℕ, ◌<◌, ◌≤◌, true, false, List}
use Rattle.sets.specs.Sets.{has}
use Rattle.rows.specs.declared.Row.{Row}
use Rattle.registers.specs.Model.{Model, Lawful}
use Rattle.rounds.specs.Select.{register_of}
use Rattle.rounds.specs.Round.{Outcome, round, colours, hoped_for}
use Rattle.colouring.specs.Selecting.{Proper, Separate, listed, Orderly}
use Rattle.colouring.specs.Removing.{NeverStuck, Paired}

-- an outcome with vars source variables: every node was removed rightly and once, registers are apart; only nodes of source variables
-- removed in hope are spilled; if none is, every node has a register
pub record Settled (m : Model) (vars : ℕ) (o : Outcome) : Type 0 where
  pub orderly : Orderly m o.graph vars o.order
  pub removed : (v : ℕ) → listed o.order v ≡ has o.graph.nodes v
  pub separate : Separate m o.graph o.registers
  pub spilled_node : (v : ℕ) → has o.spilled v ≡ true → has o.graph.nodes v ≡ true
  pub spilled_none : (v : ℕ) → has o.spilled v ≡ true → m.count ≤ register_of m o.registers v
  pub spilled_hoped : (v : ℕ) → has o.spilled v ≡ true → hoped_for o.order v ≡ true
  pub spilled_some : colours o ≡ false → (v : ℕ) × (has o.spilled v ≡ true)
  pub spilled_source : (v : ℕ) → has o.spilled v ≡ true → v < vars
  pub coloured : colours o ≡ true → (v : ℕ) → has o.graph.nodes v ≡ true → register_of m o.registers v < m.count

-- a round that never sticks ends settled
abbrev pub RoundSettles : Type 0
RoundSettles = (m : Model) → Lawful m → (vars : ℕ) (classes : List ℕ) (nodes : ℕ) (rows : List Row) →
    let o = round m vars classes nodes rows in
    Proper o.graph → NeverStuck m o.graph vars → Settled m vars o

-- so does a round in whose graph temporaries are paired at most
abbrev pub PairedSettles : Type 0
PairedSettles = (m : Model) → Lawful m → (vars : ℕ) (classes : List ℕ) (nodes : ℕ) (rows : List Row) →
    let o = round m vars classes nodes rows in
    Proper o.graph → Paired o.graph vars → Settled m vars o
