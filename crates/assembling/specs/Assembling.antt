-- What a compiled program has for its static record from the rounds: liveness, and registers kept apart.
use Rattle.std.specs.Prelude.{◌≡◌, ℕ, suc, ◌<◌, ◌≤◌, Bool, true, false, List, length, Ok, slice_index}
use Rattle.rows.specs.declared.Row.{Row}
use Rattle.rows.specs.Rows.{shape, row_at, Program}
use Rattle.admission.specs.Admission.{admitting}
use Rattle.registers.specs.Model.{Model}
use Rattle.rounds.specs.Round.{colours}
use Rattle.compiling.specs.Working.{Working, unspilled, round_of}
use Rattle.compiling.specs.Emit.{registers_of}
use Rattle.colouring.specs.Rounds.{Settled}
use Rattle.interfering.specs.Living.{read_at, lives_before}
use Rattle.interfering.specs.Edges.{Names}
use Rattle.merging.specs.Merging.{Alike}
use Rattle.simulation.specs.Static.{Lively, Apart, row_of}

-- the rows read only variables that a set of 448 has a place for
abbrev pub Small : List Row → Type 0
Small rows = (i v : ℕ) → read_at rows i v ≡ true → v < 448

-- what is called live before each row is lively
abbrev pub LiveLively : Type 0
LiveLively = (rows : List Row) → Small rows → Lively (row_at rows) (lives_before rows)

-- the rows of an admitted program are small, so its liveness is lively, and nothing is live before its first row
abbrev pub AdmittedLively : Type 0
AdmittedLively = (bs : List ℕ) (p : Program) → admitting bs ≡ Ok p → Lively (row_of p) (lives_before p.rows) × ((v : ℕ) → lives_before p.rows 0 v ≡ false)

-- a row's class is that of the variable it writes
abbrev pub Classed : List ℕ → List Row → Type 0
Classed classes rows = (i : ℕ) → (shape (row_at rows i).op).d ≡ true → (row_at rows i).dclass ≡ slice_index classes (row_at rows i).d

-- a working program that a round of file m finds in order: its rows name unspilled variables, copies and results are of the right class, and the round ends settled
pub record InOrder (m : Model) (w : Working) : Type 0 where
  pub names : Names w.classes (unspilled w) w.rows
  pub alike : Alike w.classes w.rows
  pub classed : Classed w.classes w.rows
  pub settled : Settled m w.source.vars (round_of m w)

-- the register of each variable after a round that coloured
abbrev pub register_in : Model → Working → ℕ → ℕ
register_in m w v = slice_index (registers_of (round_of m w)) v

-- a round that colours keeps registers apart
abbrev pub RegistersApart : Type 0
RegistersApart = (m : Model) (w : Working) → InOrder m w → colours (round_of m w) ≡ true → Apart m (row_at w.rows) (lives_before w.rows) (register_in m w)
