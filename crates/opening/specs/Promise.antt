-- The promise of agreement, as it is made when a rehearsal is opened.
use Rattle.std.specs.Prelude.{◌≡◌, ℕ, ◌⊎◌, List, Ok}
use Rattle.registers.specs.Model.{Model, Lawful}
use Rattle.compiling.specs.Working.{Compiled}
use Rattle.compiling.specs.Compile.{compile}
use Rattle.machine.specs.Rehearsal.{Rehearsal, Event, Rehearsed, no_counts, tally}
use Rattle.machine.specs.Agreement.{SameAnswers, Agrees}
use Rattle.histories.specs.Histories.{Finished}

-- a program is compiled for a lawful register file: compile answers it to some file, or rounds called one by one, the last with this register file, came to it
abbrev pub CompiledFor : Model → Compiled → Type 0
CompiledFor file c = (Lawful file × ((bs : List ℕ) × (compile file bs ≡ Ok c))) ⊎ ((ms : List Model) × (bs : List ℕ) × Finished file ms bs c)

-- after every list of calls both sides of a rehearsal of program c agree, if c is compiled for a register file whose answers the bank gives
abbrev pub Promise : Compiled → Model → Rehearsal → Type 0
Promise c bank t =
    (file : Model) → SameAnswers bank file → CompiledFor file c →
    (es : List Event) (u : Rehearsal) → Rehearsed bank es t u → Agrees u (tally no_counts es)
