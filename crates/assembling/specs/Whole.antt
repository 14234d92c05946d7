-- The static record of a compiled program, from what rounds find and rewritings keep.
use Rattle.std.specs.Prelude.{◌≡◌, ℕ, suc, ◌<◌, ◌≤◌, Bool, true, false, List, length, Ok}
use Rattle.rows.specs.Rows.{shape, row_at, Program}
use Rattle.admission.specs.Admission.{admitting}
use Rattle.registers.specs.Model.{Model, Lawful}
use Rattle.compiling.specs.Working.{Working}
use Rattle.compiling.specs.Compile.{compiling}
use Rattle.machine.specs.Agreement.{Agreeing}
use Rattle.interfering.specs.Living.{lives_before}
use Rattle.simulation.specs.Static.{Sound, Shares, Stands, Static}
use Rattle.assembling.specs.Assembling.{InOrder}
use Rattle.assembling.specs.Rounds.{Reached}

-- an admitted program is sound
abbrev pub AdmittedSound : Type 0
AdmittedSound = (bs : List ℕ) (p : Program) → admitting bs ≡ Ok p → Sound p

-- the source of a working program stands in its rows, slots are shared harmlessly, targets are rows, and every variable has a place in a set
pub record Footing (w : Working) : Type 0 where
  pub start : ℕ → ℕ
  pub shares : Shares w.source (lives_before w.source.rows) w.places
  pub first : start 0 ≡ 0
  pub stands : (i : ℕ) → i < length w.source.rows → Stands w.source w.places (row_at w.rows) start i
  pub targets : (i : ℕ) → (shape (row_at w.rows i).op).target ≡ true → (row_at w.rows i).target < length w.rows
  pub small : length w.classes ≤ 448

-- every working program that compiling p comes to is found in order, and its source stands in it
abbrev pub Upright : (ℕ → Model) → Program → Type 0
Upright files p = (w : Working) → Reached files p w → InOrder (files (suc w.rounds)) w × Footing w

-- so an admitted program, compiled, meets the static record of the file of its last round
abbrev pub StaticMet : Type 0
StaticMet = (files : ℕ → Model) → ((i : ℕ) → Lawful (files i)) → (bs : List ℕ) (p : Program) → admitting bs ≡ Ok p → Upright files p → Static (compiling files p) (files (compiling files p).rounds)

-- and agrees with its source in every rehearsal
abbrev pub CompiledAgrees : Type 0
CompiledAgrees = (files : ℕ → Model) → ((i : ℕ) → Lawful (files i)) → (bs : List ℕ) (p : Program) → admitting bs ≡ Ok p → Upright files p → Agreeing (compiling files p) (files (compiling files p).rounds)
