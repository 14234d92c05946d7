-- Which variables share a slot: only such as never disturb each other.
use Rattle.std.specs.Prelude.{◌≡◌, ℕ, suc, true, ◌⊎◌, ◌≢◌}
use Rattle.sets.specs.Sets.{has}
use Rattle.rows.specs.Rows.{shape, copies, Program}
use Rattle.registers.specs.Model.{Model, Lawful}
use Rattle.rounds.specs.Interference.{node_at}
use Rattle.rounds.specs.Round.{Outcome}
use Rattle.compiling.specs.Working.{Working, admitted, spilled, round_of}
use Rattle.compiling.specs.Spill.{places_spilled}
use Rattle.compiling.specs.Rewrite.{rewritten}
use Rattle.simulation.specs.Static.{row_of, slot_of, Shares}
use Rattle.interfering.specs.Living.{lives_before}
use Rattle.standing.specs.Standing.{Standing}
use Rattle.transfer.specs.Paired.{ThreeClasses}

-- what is live after a source row in the slot that the row writes is what the row copies
abbrev pub Quiet : Working → Type 0
Quiet w = (i v : ℕ) → (shape (row_of w.source i).op).d ≡ true → spilled w.places (row_of w.source i).d ≡ true → lives_before w.source.rows (suc i) v ≡ true → (v ≢ (row_of w.source i).d) →
    spilled w.places v ≡ true → slot_of w.places v ≡ slot_of w.places (row_of w.source i).d → (copies (row_of w.source i).op ≡ true) × (v ≡ (row_of w.source i).a)

-- after a round two variables have one slot only if they had it before, or are in one node that the round spills
abbrev pub SlotsByNode : Working → Outcome → Type 0
SlotsByNode w o = (u v : ℕ) → spilled (places_spilled w o) u ≡ true → spilled (places_spilled w o) v ≡ true → slot_of (places_spilled w o) u ≡ slot_of (places_spilled w o) v →
    ((spilled w.places u ≡ true) × (spilled w.places v ≡ true) × (slot_of w.places u ≡ slot_of w.places v))
    ⊎ ((has o.spilled (node_at o.graph u) ≡ true) × (node_at o.graph u ≡ node_at o.graph v))

-- slots are quiet before the first round, and stay so through a round that gives slots by nodes; so they are shared harmlessly
pub record SharingHarmless : Type 0 where
  pub first : (p : Program) → Quiet (admitted p)
  pub later : (m : Model) → Lawful m → (w : Working) (start : ℕ → ℕ) → Standing w start → ThreeClasses w → SlotsByNode w (round_of m w) → Quiet w → Quiet (rewritten w (round_of m w))
  pub harmless : (w : Working) (start : ℕ → ℕ) → Standing w start → Quiet w → Shares w.source (lives_before w.source.rows) w.places
