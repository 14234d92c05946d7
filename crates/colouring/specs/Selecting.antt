-- What selection promises, for every lawful register file and every proper graph.
use Rattle.std.specs.Prelude.{◌≡◌, ℕ, ◌<◌, Bool, true, false, ◌&&◌, ◌||◌, List, [], ◌∷◌, length, ◌==◌}
use Rattle.sets.specs.Sets.{has}
use Rattle.registers.specs.Model.{Model, Lawful}
use Rattle.rounds.specs.declared.Removed.{Removed}
use Rattle.rounds.specs.Interference.{Graph, neighbours, class_at}
use Rattle.rounds.specs.Pressure.{pressure, passes}
use Rattle.rounds.specs.Select.{register_of, free, choice, selected}
use Rattle.rounds.specs.Round.{hoped_for}

-- each node has a class; edges run both ways and join no node with itself
pub record Proper (g : Graph) : Type 0 where
  pub inside : (v : ℕ) → has g.nodes v ≡ true → v < length g.classes
  pub both_ways : (u v : ℕ) → has (neighbours g u) v ≡ true → has (neighbours g v) u ≡ true
  pub loopless : (v : ℕ) → has (neighbours g v) v ≡ false

-- each register taken by a node that passes t is of that node's class
abbrev pub Classed : Model → Graph → List ℕ → (ℕ → Bool) → Type 0
Classed m g taken t = (k : ℕ) → t k ≡ true → register_of m taken k < m.count → m.belongs (register_of m taken k) (class_at g k) ≡ true

-- r overlaps no register taken by a node that passes t
abbrev pub Clear : Model → Graph → List ℕ → (ℕ → Bool) → ℕ → Type 0
Clear m g taken t r = (k : ℕ) → k < length g.classes → t k ≡ true → m.overlaps r (register_of m taken k) ≡ false

-- the test suffices: under a pressure below p, some register of v's class is clear of the nodes that press
abbrev pub TestSuffices : Type 0
TestSuffices = (m : Model) → Lawful m → (g : Graph) (taken : List ℕ) (v : ℕ) (t : ℕ → Bool) →
    Classed m g taken t → pressure m g v t < m.p (class_at g v) →
    (r : ℕ) × (m.belongs r (class_at g v) ≡ true) × Clear m g taken t r

-- a free register is taken if there is any, and nothing but a free register
pub record Chooses (m : Model) (g : Graph) (taken : List ℕ) (v : ℕ) : Type 0 where
  pub found : (r : ℕ) → r < m.count → free m g taken v r ≡ true → choice m g taken v < m.count
  pub only : choice m g taken v < m.count → free m g taken v (choice m g taken v) ≡ true

abbrev pub ChoiceFree : Type 0
ChoiceFree = (m : Model) (g : Graph) (taken : List ℕ) (v : ℕ) → Chooses m g taken v

-- every neighbour of v that has a register passes t
abbrev pub Counted : Model → Graph → List ℕ → ℕ → (ℕ → Bool) → Type 0
Counted m g taken v t = (k : ℕ) → k < length g.classes → has (neighbours g v) k ≡ true → register_of m taken k < m.count → t k ≡ true

-- so v takes a register, if the pressure counts all its neighbours that have one
abbrev pub TestFinds : Type 0
TestFinds = (m : Model) → Lawful m → (g : Graph) (taken : List ℕ) (v : ℕ) (t : ℕ → Bool) →
    Classed m g taken t → Counted m g taken v t → pressure m g v t < m.p (class_at g v) → choice m g taken v < m.count

-- registers of neighbours do not overlap, and each register is of its node's class; the number that stands for none overlaps nothing
pub record Separate (m : Model) (g : Graph) (taken : List ℕ) : Type 0 where
  pub whole : length taken ≡ length g.classes
  pub apart : (u v : ℕ) → has (neighbours g u) v ≡ true → m.overlaps (register_of m taken u) (register_of m taken v) ≡ false
  pub fits : (v : ℕ) → register_of m taken v < m.count → m.belongs (register_of m taken v) (class_at g v) ≡ true

-- selection keeps neighbours apart, in whatever order nodes return
abbrev pub NeighboursApart : Type 0
NeighboursApart = (m : Model) → Lawful m → (g : Graph) → Proper g → (order : List Removed) → Separate m g (selected m g order)

-- whether v is the node of an entry
unfoldable pub listed : List Removed → ℕ → Bool
listed [] v = false
listed (r ∷ rs) v =
    let rest = listed rs v in
    (r.node == v) || rest

-- the neighbours of v among the nodes of a list
abbrev pub later : Graph → List Removed → ℕ → ℕ → Bool
later g rs v k = has (neighbours g v) k && listed rs k

-- r was rightly removed before rs, of a graph with vars source variables: its node is not removed again; if marked tested,
-- it passed the test against its neighbours in rs; if marked hoped, it is a node of source variables
pub record Rightly (m : Model) (g : Graph) (vars : ℕ) (r : Removed) (rs : List Removed) : Type 0 where
  pub inside : r.node < length g.classes
  pub once : listed rs r.node ≡ false
  pub tested : r.hoped ≡ false → passes m g r.node (later g rs r.node) ≡ true
  pub of_source : r.hoped ≡ true → r.node < vars

-- every entry of a list was rightly removed before those behind it
abbrev pub Orderly : Model → Graph → ℕ → List Removed → Type 0
Orderly m g vars [] = Unit
Orderly m g vars (r ∷ rs) = Rightly m g vars r rs × Orderly m g vars rs

-- a node marked tested finds a register
abbrev pub TestedFind : Type 0
TestedFind = (m : Model) → Lawful m → (g : Graph) → Proper g → (vars : ℕ) (order : List Removed) → Orderly m g vars order →
    (v : ℕ) → listed order v ≡ true → hoped_for order v ≡ false → register_of m (selected m g order) v < m.count
