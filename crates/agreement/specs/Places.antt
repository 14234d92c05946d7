-- What rounds keep of the source, and which variables may clash in the end.
use Rattle.std.specs.Prelude.{◌≡◌, ℕ, ◌≤◌, Bool, true, false, ◌⊎◌, List, Ok}
use Rattle.rows.specs.Rows.{Program}
use Rattle.admission.specs.Admission.{admitting}
use Rattle.registers.specs.Model.{Model, Lawful}
use Rattle.compiling.specs.declared.Home.{Home}
use Rattle.compiling.specs.declared.Home.TheVariants.{Open, Register, Slot}
use Rattle.compiling.specs.declared.Place.{Place}
use Rattle.compiling.specs.Working.{Working, Compiled, place_of, number_of, spilled}
use Rattle.compiling.specs.Compile.{compile_with}
use Rattle.interfering.specs.Living.{lives_before}
use Rattle.interfering.specs.Edges.{Hard}
use Rattle.simulation.specs.Static.{slot_of}
use Rattle.standing.specs.Standing.{source_rows, Bounded}
use Rattle.transfer.specs.Transfer.{Unplaced, HardAlike}
use Rattle.transfer.specs.Settling.{GraphsAlike}
use Rattle.assembling.specs.Rounds.{Reached}

-- a working program with few rows, variables and slots, in which source variables without a slot are live where they are in the source and have its edges
pub record Faithful (w : Working) : Type 0 where
  pub bounded : Bounded w
  pub start : ℕ → ℕ
  pub live : (i v : ℕ) → i ≤ source_rows w → Unplaced w v → lives_before w.source.rows i v ≡ lives_before w.rows (start i) v
  pub hard : (x y : ℕ) → Unplaced w x → Unplaced w y → HardAlike w x y
  pub edges : (x y : ℕ) → Unplaced w x → Unplaced w y → GraphsAlike w x y

-- every working program that the rounds of an admitted program come to is faithful
abbrev pub RoundsFaithful : Type 0
RoundsFaithful = (files : ℕ → Model) → ((i : ℕ) → Lawful (files i)) → (bs : List ℕ) (p : Program) → admitting bs ≡ Ok p → (w : Working) → Reached files p w → Faithful w

-- whether a home is a register
abbrev pub is_register : Home → Bool
is_register Open = false
is_register (Register n) = true
is_register (Slot n) = false

-- whether a variable stands in a register
abbrev pub registered : List Place → ℕ → Bool
registered places v = is_register (place_of places v).home

-- u and v stand in one slot, or in registers that overlap
abbrev pub Clash : Model → List Place → ℕ → ℕ → Type 0
Clash file places u v =
    ((spilled places u ≡ true) × (spilled places v ≡ true) × (slot_of places u ≡ slot_of places v))
    ⊎ ((registered places u ≡ true) × (registered places v ≡ true) × (file.overlaps (number_of (place_of places u).home) (number_of (place_of places v).home) ≡ true))

-- variables whose places clash have no hard edge in the source
abbrev pub ClashesHarmless : Type 0
ClashesHarmless = (files : ℕ → Model) → ((i : ℕ) → Lawful (files i)) → (bs : List ℕ) (c : Compiled) → compile_with files bs ≡ Ok c →
    (u v : ℕ) → Clash (files c.rounds) c.places u v → Hard c.source.rows u v → ⊥
