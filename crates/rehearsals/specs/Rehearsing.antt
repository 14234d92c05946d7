-- What a rehearsal of the code means.
use Rattle.std.specs.Prelude.{ℕ}
use Rattle.registers.specs.Model.{Model}
use Rattle.machine.specs.Rehearsal.{Rehearsal as Both}
use Rattle.players.specs.Playing.{rows_of, source_of, code_of}
use Rattle.rehearsals.specs.declared.Rehearsal.{Rehearsal}

-- the rehearsal, over the numbers that a bank holds
abbrev pub rehearsal_of : {B : Type 0} → (B → ℕ → ℕ) → Rehearsal B → Both
rehearsal_of contents r = record { source_rows = rows_of r.source.player; code_rows = rows_of r.code.player; source = source_of r.source; code = code_of contents r.code }

-- the register file of its bank
abbrev pub file_of : {B : Type 0} → (B → Model) → Rehearsal B → Model
file_of model r = model r.code.bank
