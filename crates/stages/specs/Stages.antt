-- The program in a record, and what each state knows of it.
use Rattle.std.specs.Prelude.{◌≡◌, ℕ, Bool, true, false, List, Ok, Err, Result}
use Rattle.faults.specs.declared.ProgramFault.{ProgramFault}
use Rattle.rows.specs.Rows.{Program}
use Rattle.source.specs.Results.{program_of}
use Rattle.registers.specs.Model.{Model, Lawful}
use Rattle.rounds.specs.Round.{Outcome, colours}
use Rattle.compiling.specs.Working.{Working, Compiled, round_of}
use Rattle.compiling.specs.Rewrite.{ticket, rewritten}
use Rattle.compiling.specs.Emit.{Coloured, coloured}
use Rattle.drafts.specs.declared.draft.Draft.{Draft}
use Rattle.drafts.specs.declared.token.Token.{Token}
use Rattle.drafts.specs.Drafts.{working_of, coloured_of, compiled_of, ticket_of, Inside}
use Rattle.histories.specs.Histories.{Grown, Fitting}
use Rattle.stages.specs.declared.Record.{Record}

-- the source program of a record
abbrev pub program_in : Record → Program
program_in r = program_of r.draft.source

-- the working program that a record holds between rounds
abbrev pub working_in : Record → Working
working_in r = working_of r.draft

-- the program that a record holds after a round that coloured
abbrev pub coloured_in : Record → Coloured
coloured_in r = coloured_of r.draft

-- the program that a record holds when it is compiled
abbrev pub compiled_in : Record → Compiled
compiled_in r = compiled_of r.draft

-- what a call answered, with what the record holds then
abbrev pub holding : {A : Type 0} → Result (Unit {0}) ProgramFault → A → Result A ProgramFault
holding (Ok _) x = Ok x
holding (Err e) x = Err e

-- a round of a program that came from a file spilled, and a token says what
abbrev pub Pending : Token → Working → Type 0
Pending t w = (m : Model) × (ms : List Model) × (bs : List ℕ) × Grown ms bs w × Lawful m × (colours (round_of m w) ≡ false) × (ticket_of t w ≡ ticket w (round_of m w))

-- a round of such a program coloured it
abbrev pub Painted : Coloured → Type 0
Painted c = (m : Model) × (ms : List Model) × (bs : List ℕ) × (w : Working) × Grown ms bs w × Lawful m × (colours (round_of m w) ≡ true) × (c ≡ coloured w (round_of m w))

-- what a round of a working program came to: the draft that it coloured, or the token of its spill order
abbrev pub Turned : Working → Outcome → Result Draft Token → Type 0
Turned w o (Ok d) = (colours o ≡ true) × (coloured_of d ≡ coloured w o)
Turned w o (Err t) = (colours o ≡ false) × (ticket_of t w ≡ ticket w o)

-- how a round ended, by its flag
abbrev pub Ended : Bool → Token → Record → Type 0
Ended true t r = Pending t (working_in r)
Ended false t r = Painted (coloured_in r)

-- a round with register file m finds room, and so does rewriting after it; nodes are variables of the program
pub record Ready (m : Model) (w : Working) : Type 0 where
  pub fits : Fitting w
  pub then : colours (round_of m w) ≡ false → Fitting (rewritten w (round_of m w))
  pub nodes : Inside w (round_of m w)
