-- What removal promises: each node that is left goes once, by the test or in hope.
use Rattle.std.specs.Prelude.{◌≡◌, ℕ, ◌<◌, ◌≤◌, true, false, List, length}
use Rattle.sets.specs.Sets.{has, size}
use Rattle.registers.specs.Model.{Model, Lawful}
use Rattle.rounds.specs.Interference.{Graph, neighbours, class_at}
use Rattle.rounds.specs.Pressure.{pressure}
use Rattle.rounds.specs.Simplify.{remaining, removable, removals}
use Rattle.colouring.specs.Selecting.{Proper, listed, Orderly}

-- the nodes left are nodes of the graph
abbrev pub Among : Graph → ℕ → Type 0
Among g left = (v : ℕ) → has left v ≡ true → has g.nodes v ≡ true

-- none that is left passes the test
abbrev pub NonePasses : Model → Graph → ℕ → Type 0
NonePasses m g left = (v : ℕ) → v < length g.classes → removable m g left v ≡ false

-- while w is left: if none passes, a node of source variables is left, and it is under pressure
abbrev pub NeverStuck : Model → Graph → ℕ → Type 0
NeverStuck m g vars = (left : ℕ) → Among g left → (w : ℕ) → has left w ≡ true → NonePasses m g left →
    (v : ℕ) × (v < vars) × (has left v ≡ true) × (0 < pressure m g v (remaining g left v))

-- as many removals as nodes are left remove each of them once and no other, each rightly
abbrev pub AllRemoved : Type 0
AllRemoved = (m : Model) (g : Graph) (costs : List ℕ) (left : ℕ) → Proper g → NeverStuck m g (length costs) → Among g left →
    let order = removals m g costs (size (length g.classes) left) left in
    Orderly m g (length costs) order × ((v : ℕ) → listed order v ≡ has left v)

-- classes are byte, half and word; a temporary, a node from vars on, has at most one temporary beside it
pub record Paired (g : Graph) (vars : ℕ) : Type 0 where
  pub classed : (v : ℕ) → class_at g v < 3
  pub partner : (v x y : ℕ) → vars ≤ v → vars ≤ x → vars ≤ y → has (neighbours g v) x ≡ true → has (neighbours g v) y ≡ true → x ≡ y

-- removal never sticks: temporaries alone always pass
abbrev pub TemporariesPass : Type 0
TemporariesPass = (m : Model) → Lawful m → (g : Graph) → Proper g → (vars : ℕ) → Paired g vars → NeverStuck m g vars
