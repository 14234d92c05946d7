-- What a source variable without a slot keeps in every working program: where it is live, and its hard edges.
use Rattle.std.specs.Prelude.{◌≡◌, ℕ, ◌<◌, ◌≤◌, true, false}
use Rattle.sets.specs.Sets.{has}
use Rattle.rounds.specs.Liveness.{live_after}
use Rattle.rounds.specs.Interference.{Graph, beside, interference}
use Rattle.compiling.specs.Working.{Working, spilled, admitted, unspilled}
use Rattle.interfering.specs.Living.{lives_before}
use Rattle.interfering.specs.Edges.{Hard}
use Rattle.standing.specs.Standing.{source_rows, Standing}

-- a source variable that has no slot
abbrev pub Unplaced : Working → ℕ → Type 0
Unplaced w v = (v < w.source.vars) × (spilled w.places v ≡ false)

-- it is live before a source row, or past the last, just if it is before the row's block
abbrev pub LivenessTransfers : Type 0
LivenessTransfers = (w : Working) (start : ℕ → ℕ) → Standing w start → (i v : ℕ) → i ≤ source_rows w → Unplaced w v →
    lives_before w.source.rows i v ≡ lives_before w.rows (start i) v

-- two of them have a hard edge by a source row just if they have one by a working row
pub record HardAlike (w : Working) (x y : ℕ) : Type 0 where
  pub into : Hard w.source.rows x y → Hard w.rows x y
  pub back : Hard w.rows x y → Hard w.source.rows x y

abbrev pub HardEdgesTransfer : Type 0
HardEdgesTransfer = (w : Working) (start : ℕ → ℕ) → Standing w start → (x y : ℕ) → Unplaced w x → Unplaced w y → HardAlike w x y
