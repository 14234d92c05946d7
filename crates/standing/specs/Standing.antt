-- Standing: how the rows of a source stand in the rows of a working program, in every round.
use Rattle.std.specs.Prelude.{◌≡◌, ℕ, suc, ◌+◌, ◌-◌, ◌*◌, ◌<◌, ◌≤◌, Bool, true, false, cond, ◌&&◌, ◌⊎◌, List, [], length, slice_index_or}
use Rattle.counting.specs.Counting.{sum, count}
use Rattle.sets.specs.Sets.{has}
use Rattle.rows.specs.declared.Row.{Row}
use Rattle.rows.specs.Rows.{shape, Program, row_at}
use Rattle.packing.specs.Inverse.{WellFormed}
use Rattle.rounds.specs.Interference.{node_at}
use Rattle.rounds.specs.Round.{Outcome}
use Rattle.compiling.specs.declared.Place.{Place}
use Rattle.compiling.specs.Working.{Working, admitted, spilled}
use Rattle.compiling.specs.Spill.{spill_order, places_spilled}
use Rattle.compiling.specs.Rewrite.{class_in, blocks, rewritten}
use Rattle.simulation.specs.Static.{Sound, row_of, class_of, slot_of, Block, Inner, Stands}

-- 1 if the test passes, else 0
abbrev pub bit : Bool → ℕ
bit b = cond b 1 0

-- how many rows a working program's source has
abbrev pub source_rows : Working → ℕ
source_rows w = length w.source.rows

-- row q of a working program
abbrev pub line_of : Working → ℕ → Row
line_of w q = row_at w.rows q

-- whether operand v is read from its slot
abbrev pub fetched : List Place → Bool → ℕ → Bool
fetched places read v = read && spilled places v

-- the block of source row i, with a load for each spilled operand and no more
pub record Filled (p : Program) (places : List Place) (w : ℕ → Row) (start : ℕ → ℕ) (i n : ℕ) : Type 0 where
  pub block : Block p places w start i n
  pub counts : n ≡ bit (fetched places (shape (row_of p i).op).a (row_of p i).a) + bit (fetched places (shape (row_of p i).op).b (row_of p i).b)
  pub ends : (shape (row_of p i).op).d ≡ false → start (suc i) ≡ suc (start i + n)

-- what a working row may name: a source variable that is not spilled, or a temporary
abbrev pub Named : Working → ℕ → Type 0
Named w v = ((v < w.source.vars) × (spilled w.places v ≡ false)) ⊎ ((w.source.vars ≤ v) × (v < length w.classes))

-- the temporaries of the block of source row i: all its rows but one
abbrev pub spare : (ℕ → ℕ) → ℕ → ℕ
spare start i = start (suc i) - start i - 1

-- a working program in which each source row stands as a block, the block of row i from place start i on
pub record Standing (w : Working) (start : ℕ → ℕ) : Type 0 where
  pub well_formed : WellFormed w.source
  pub first : start 0 ≡ 0
  pub stands : (i : ℕ) → i < source_rows w → Inner w.source w.places start i ⊎ ((n : ℕ) × Filled w.source w.places (line_of w) start i n)
  pub long : length w.rows ≡ start (source_rows w)
  pub places : length w.places ≡ w.source.vars
  pub classes : length w.classes ≡ w.source.vars + sum (spare start) (source_rows w)
  pub class : (v : ℕ) → v < w.source.vars → class_in w.classes v ≡ class_of w.source v
  pub small : (v : ℕ) → class_in w.classes v ≤ 2
  pub slots : w.slots ≤ count (spilled w.places) w.source.vars
  pub slot : (v : ℕ) → spilled w.places v ≡ true → slot_of w.places v < w.slots
  -- of every row: what it names, the classes it says, and where it goes on
  pub named_a : (q : ℕ) → (shape (line_of w q).op).a ≡ true → Named w (line_of w q).a
  pub named_b : (q : ℕ) → (shape (line_of w q).op).b ≡ true → Named w (line_of w q).b
  pub named_d : (q : ℕ) → (shape (line_of w q).op).d ≡ true → Named w (line_of w q).d
  pub class_d : (q : ℕ) → (shape (line_of w q).op).d ≡ true → (line_of w q).dclass ≡ class_in w.classes (line_of w q).d
  pub class_a : (q : ℕ) → (shape (line_of w q).op).a ≡ true → (line_of w q).aclass ≡ class_in w.classes (line_of w q).a
  pub target : (q : ℕ) → (shape (line_of w q).op).target ≡ true → (t : ℕ) × (t < source_rows w) × ((line_of w q).target ≡ start t)
  -- a temporary is written in just one place
  pub written : (t : ℕ) → w.source.vars ≤ t → t < length w.classes → (q : ℕ) × (q < length w.rows) × ((shape (line_of w q).op).d ≡ true) × ((line_of w q).d ≡ t)
  pub once : (q r : ℕ) → (shape (line_of w q).op).d ≡ true → (shape (line_of w r).op).d ≡ true → w.source.vars ≤ (line_of w q).d → (line_of w q).d ≡ (line_of w r).d → q ≡ r

-- ---- the first round

-- a well-formed program has sound rows
abbrev pub WellFormedSound : Type 0
WellFormedSound = (p : Program) → WellFormed p → Sound p

-- before the first round each row is its own block
abbrev pub AdmittedStands : Type 0
AdmittedStands = (p : Program) → WellFormed p → Standing (admitted p) (λ i. i)

-- ---- a round that spills

-- what a round may spill: nodes of source variables not spilled yet, each with the variable of its number
pub record Spills (w : Working) (o : Outcome) : Type 0 where
  pub own : (v : ℕ) → has o.spilled v ≡ true → (v < w.source.vars) × (node_at o.graph v ≡ v)
  pub members : (v : ℕ) → v < w.source.vars → has o.spilled (node_at o.graph v) ≡ true → spilled w.places v ≡ false

-- where the block of each row of a working program starts after a round
abbrev pub starts_after : Working → Outcome → ℕ → ℕ
starts_after w o q = sum (λ k. length (slice_index_or (blocks (spill_order w o) (class_in w.classes) (length w.classes) w.rows) k [])) q

-- a round that spills leaves each source row its block
abbrev pub RewrittenStands : Type 0
RewrittenStands = (w : Working) (start : ℕ → ℕ) (o : Outcome) → Standing w start → Spills w o → Standing (rewritten w o) (λ i. starts_after w o (start i))

-- two variables have one slot only if they had it before, or are in one node that the round spills
abbrev pub SlotOfNode : Type 0
SlotOfNode = (w : Working) (start : ℕ → ℕ) (o : Outcome) → Standing w start → Spills w o →
    (u v : ℕ) → spilled (places_spilled w o) u ≡ true → spilled (places_spilled w o) v ≡ true → slot_of (places_spilled w o) u ≡ slot_of (places_spilled w o) v →
    ((spilled w.places u ≡ true) × (spilled w.places v ≡ true) × (slot_of w.places u ≡ slot_of w.places v))
    ⊎ ((has o.spilled (node_at o.graph u) ≡ true) × (node_at o.graph u ≡ node_at o.graph v))

-- ---- bounds

-- rows, variables and slots that a working program has at most
pub record Bounded (w : Working) : Type 0 where
  pub rows : length w.rows ≤ 4 * source_rows w
  pub most_rows : length w.rows ≤ 512
  pub classes : length w.classes ≤ w.source.vars + 3 * source_rows w
  pub most_classes : length w.classes ≤ 448
  pub slots : w.slots ≤ w.source.vars
  pub most_slots : w.slots ≤ 64

abbrev pub StandingBounded : Type 0
StandingBounded = (w : Working) (start : ℕ → ℕ) → Standing w start → Bounded w

-- every block starts at a row that there is, and so do jumps
abbrev pub JumpsInside : Type 0
JumpsInside = (w : Working) (start : ℕ → ℕ) → Standing w start → (q : ℕ) → (shape (line_of w q).op).target ≡ true → (line_of w q).target < length w.rows

-- each source row stands in the working rows
abbrev pub StandingStands : Type 0
StandingStands = (w : Working) (start : ℕ → ℕ) → Standing w start → (i : ℕ) → i < source_rows w → Stands w.source w.places (line_of w) start i
