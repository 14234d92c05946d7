-- Histories: what admit, round, rewrite and emit come to, whichever register file each round was given.
use Rattle.std.specs.Prelude.{◌≡◌, ℕ, suc, ◌<◌, ◌≤◌, true, false, List, [], ◌∷◌, length, replicate, Ok}
use Rattle.rows.specs.declared.Row.{Row}
use Rattle.rows.specs.Rows.{shape, end_row, Program, row_at}
use Rattle.rows.specs.Lines.{Tame}
use Rattle.admission.specs.Admission.{admitting}
use Rattle.registers.specs.Model.{Model, Lawful}
use Rattle.rounds.specs.Round.{colours}
use Rattle.compiling.specs.Working.{Working, Compiled, admitted, round_of}
use Rattle.compiling.specs.Rewrite.{rewritten}
use Rattle.compiling.specs.Emit.{emitted}
use Rattle.compiling.specs.Compile.{compile, compile_with}
use Rattle.machine.specs.Agreement.{Agreeing}
use Rattle.players.specs.Scripts.{Inside, Classed, Named}
use Rattle.assembling.specs.Rounds.{unplaced}
use Rattle.agreement.specs.Keeping.{Prompt}

-- the working program that a file has come to by rounds that spilled, with these register files, the last one first
abbrev pub Grown : List Model → List ℕ → Working → Type 0
Grown [] bs w = (p : Program) × (admitting bs ≡ Ok p) × (w ≡ admitted p)
Grown (m ∷ ms) bs w = (v : Working) × Grown ms bs v × Lawful m × (colours (round_of m v) ≡ false) × (w ≡ rewritten v (round_of m v))

-- the compiled program that a file has come to: rounds that spilled, and one with m that coloured
abbrev pub Finished : Model → List Model → List ℕ → Compiled → Type 0
Finished m ms bs c = (w : Working) × Grown ms bs w × Lawful m × (colours (round_of m w) ≡ true) × (c ≡ emitted w (round_of m w))

-- ---- what holds of every working program

-- rows name only variables below n
abbrev pub NamesBelow : ℕ → List Row → Type 0
NamesBelow n rows = (i : ℕ) → ((shape (row_at rows i).op).a ≡ true → (row_at rows i).a < n) × ((shape (row_at rows i).op).b ≡ true → (row_at rows i).b < n) × ((shape (row_at rows i).op).d ≡ true → (row_at rows i).d < n)

-- a working program that a buffer of 512 rows, 448 classes, 64 slots and 64 places has room for, and that a round may read
pub record Fitting (w : Working) : Type 0 where
  pub vars : w.source.vars ≤ 64
  pub rows : length w.rows ≤ 512
  pub some : 1 ≤ length w.rows
  pub classes : length w.classes ≤ 448
  pub above : w.source.vars ≤ length w.classes
  pub slots : w.slots ≤ 64
  pub rounds : w.rounds ≤ w.source.vars
  pub places : length w.places ≡ w.source.vars
  pub tame : Tame w.rows
  pub inside : Inside w.rows
  pub numbers : NamesBelow (length w.classes) w.rows

abbrev pub GrownFits : Type 0
GrownFits = (ms : List Model) (bs : List ℕ) (w : Working) → Grown ms bs w → Fitting w

-- a round that spills leaves fewer source variables without a slot
abbrev pub RoundsProgress : Type 0
RoundsProgress = (m : Model) (ms : List Model) (bs : List ℕ) (w : Working) → Grown ms bs w → Lawful m → colours (round_of m w) ≡ false → unplaced (rewritten w (round_of m w)) < unplaced w

-- ---- histories and compile

-- round 1 has the last of these register files, and so on up the list
abbrev pub Along : (ℕ → Model) → List Model → Type 0
Along files [] = Unit
Along files (m ∷ ms) = (files (suc (length ms)) ≡ m) × Along files ms

-- whoever calls admit, round, rewrite and emit in turn comes to what compile answers
pub record HistoriesCompile : Type 0 where
  pub along : (files : ℕ → Model) (m : Model) (ms : List Model) (bs : List ℕ) (c : Compiled) → Along files (m ∷ ms) → Finished m ms bs c → compile_with files bs ≡ Ok c
  pub some : (m : Model) (ms : List Model) (bs : List ℕ) (c : Compiled) → Finished m ms bs c → (files : ℕ → Model) × ((i : ℕ) → Lawful (files i)) × Along files (m ∷ ms) × (files c.rounds ≡ m)
  -- with one file in all rounds
  pub one : (m : Model) (ms : List Model) (bs : List ℕ) (c : Compiled) → Along (λ _. m) ms → Finished m ms bs c → compile m bs ≡ Ok c
  pub same : (m : Model) (n : ℕ) → Along (λ _. m) (replicate n m)

-- so it agrees with its source, for the file of its last round, and is prompt
abbrev pub FinishedAgrees : Type 0
FinishedAgrees = (m : Model) (ms : List Model) (bs : List ℕ) (c : Compiled) → Finished m ms bs c → Agreeing c m × Prompt c

-- ---- what holds of every compiled program

-- a compiled program that players may play, and a report may tell of
pub record Playable (c : Compiled) : Type 0 where
  pub some : 1 ≤ length c.source.rows
  pub most : length c.source.rows ≤ 128
  pub inside : Inside c.source.rows
  pub named : Named c.source.rows
  pub classed : Classed c.source.rows
  pub code_some : 1 ≤ length c.rows
  pub code_most : length c.rows ≤ 512
  pub code_inside : Inside c.rows
  pub code_classed : Classed c.rows
  pub vars : c.source.vars ≤ 64
  pub places : length c.places ≡ c.source.vars
  pub slots : c.slots ≤ 64
  pub rounds : c.rounds ≤ 65

abbrev pub FinishedPlays : Type 0
FinishedPlays = (m : Model) (ms : List Model) (bs : List ℕ) (c : Compiled) → Finished m ms bs c → Playable c

-- ---- the smallest program

-- the file of a program that only ends
abbrev pub end_file : List ℕ
end_file = 0 ∷ 1 ∷ 0 ∷ 0 ∷ 0 ∷ 0 ∷ []

-- the program of the row end alone
abbrev pub end_program : Program
end_program = record { vars = 0; classes = []; rows = end_row ∷ [] }

abbrev pub end_code : Compiled
end_code = record { source = end_program; rows = end_row ∷ []; rounds = 1; slots = 0; places = [] }

-- it is admitted, and compiles with every register file
pub record EndsFirst : Type 0 where
  pub admits : admitting end_file ≡ Ok end_program
  pub grown : Grown [] end_file (admitted end_program)
  pub compiles : (m : Model) → compile m end_file ≡ Ok end_code
  pub finished : (m : Model) → Lawful m → Finished m [] end_file end_code

-- ---- histories that are only known to be

-- some file has come to this working program
abbrev pub HasGrown : Working → Type 0
HasGrown w = ∥ ((ms : List Model) × (bs : List ℕ) × Grown ms bs w) ∥₁

-- some file has come to this compiled program, its last round with m
abbrev pub HasFinished : Model → Compiled → Type 0
HasFinished m c = ∥ ((ms : List Model) × (bs : List ℕ) × Finished m ms bs c) ∥₁

-- some file has come to this compiled program
abbrev pub IsFinished : Compiled → Type 0
IsFinished c = ∥ ((m : Model) × (ms : List Model) × (bs : List ℕ) × Finished m ms bs c) ∥₁

-- each call hands on that there is a history, and what holds of every history holds then
pub record HistoriesKnown : Type 0 where
  pub first : (bs : List ℕ) (p : Program) → admitting bs ≡ Ok p → HasGrown (admitted p)
  pub next : (m : Model) (w : Working) → HasGrown w → Lawful m → colours (round_of m w) ≡ false → HasGrown (rewritten w (round_of m w))
  pub last : (m : Model) (w : Working) → HasGrown w → Lawful m → colours (round_of m w) ≡ true → HasFinished m (emitted w (round_of m w))
  pub some : (m : Model) (c : Compiled) → HasFinished m c → IsFinished c
  pub fits : (w : Working) → HasGrown w → Fitting w
  pub progress : (m : Model) (w : Working) → HasGrown w → Lawful m → colours (round_of m w) ≡ false → unplaced (rewritten w (round_of m w)) < unplaced w
  pub plays : (c : Compiled) → IsFinished c → Playable c
  pub prompt : (c : Compiled) → IsFinished c → Prompt c
  pub agrees : (m : Model) (c : Compiled) → HasFinished m c → ∥ Agreeing c m ∥₁
