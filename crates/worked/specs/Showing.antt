-- What a rehearsal shows: a file compiled and opened on a chip full of garbage, a list of calls, and the end.
use Rattle.std.specs.Prelude.{ℕ, zero, suc, ◌+◌, ◌*◌, ◌%◌, ◌^◌, List, [], ◌∷◌, ◌++◌, map, Ok, Err, Result, slice_index_or}
use Rattle.counting.specs.Counting.{range}
use Rattle.faults.specs.declared.Refusal.{Refusal}
use Rattle.faults.specs.declared.ProgramFault.{ProgramFault}
use Rattle.faults.specs.declared.PlayerFault.{PlayerFault}
use Rattle.faults.specs.declared.PlayerFault.TheVariants.{Input, Asked}
use Rattle.faults.specs.Refusals.{program_refusal}
use Rattle.registers.specs.Model.{Model}
use Rattle.registers.specs.Runs.{held, patched}
use Rattle.registers.specs.Description.{Description, fenced, lowest}
use Rattle.compiling.specs.Working.{Compiled}
use Rattle.compiling.specs.Compile.{compile}
use Rattle.machine.specs.declared.Outcome.{Outcome}
use Rattle.machine.specs.declared.Outcome.TheVariants.{Running, Ended, Starved, Full}
use Rattle.machine.specs.declared.Played.{Played}
use Rattle.machine.specs.Rehearsal.{Call, opened, Event, Counts, no_counts, tally}
use Rattle.machine.specs.OnBits.{Stage, called_on}

-- the bits of a chip after each register below n was written a number of its own
unfoldable pub garbage : Model → (low : ℕ → ℕ) → ℕ → ℕ
garbage m low zero = 0
garbage m low (suc r) = patched (garbage m low r) (low r) (m.width r) ((r * 2654435761 + 12345) % 2 ^ 32)

-- a number of its own for each slot
abbrev pub litter : ℕ → ℕ
litter s = (s * 40503 + 7) % 2 ^ 32

-- the answers, both outputs, the numbers of registers and slots; or the refusal of the file
pub data Shown : Type 0 where
  Shows : List (Result Played PlayerFault) → (source_out code_out registers slots : List ℕ) → Shown
  Refuses : Refusal → Shown

-- the end of a rehearsal, behind the answers given so far
unfoldable pub shown : Description → List (Result Played PlayerFault) → List Call → Stage → Shown
unfolding called_on range
shown d given [] s =
    let c = s.rehearsal.code in
    Shows given s.rehearsal.source.shared.output c.shared.output (map c.numbers (range d.count 0)) (map c.shared.slots (range 64 0))
shown d given (x ∷ xs) s = let a = called_on (fenced d) (lowest d) x s in shown d (given ++ a.answer ∷ []) xs a.stage

-- a rehearsal by the answer of compile
unfoldable pub shown_by : Description → List Call → Result Compiled ProgramFault → Shown
unfolding garbage shown
shown_by d xs (Err e) = Refuses (program_refusal e)
shown_by d xs (Ok c) =
    let x = garbage (fenced d) (lowest d) d.count in
    shown d [] xs (record { contents = x; rehearsal = opened c (held (fenced d) (lowest d) x) litter })

-- a file rehearsed on the chip it is compiled for
unfoldable pub rehearse : Description → List ℕ → List Call → Shown
unfolding compile shown_by
rehearse d bs xs = shown_by d xs (compile (fenced d) bs)

-- the outcome with a number
abbrev pub outcome_of : ℕ → Outcome
outcome_of n = slice_index_or (Running ∷ Ended ∷ Starved ∷ Full ∷ []) n Full

-- a served call: the rows played and the number of the outcome
abbrev pub served : (rows outcome : ℕ) → Result Played PlayerFault
served rows outcome = Ok (record { rows = rows; outcome = outcome_of outcome })

-- a restart refused
abbrev pub long_input : Result Played PlayerFault
long_input = Err Input

-- a play refused
abbrev pub many_rows : Result Played PlayerFault
many_rows = Err Asked

-- what the source and the code put out
abbrev pub put_out : Shown → List ℕ × List ℕ
put_out (Shows answers source_out code_out registers slots) = (source_out, code_out)
put_out (Refuses e) = ([], [])

-- what the source and the code of a file put out
unfoldable pub outputs : Description → List ℕ → List Call → List ℕ × List ℕ
unfolding rehearse
outputs d bs xs = put_out (rehearse d bs xs)

-- the answers that were shown
abbrev pub answers_in : Shown → List (Result Played PlayerFault)
answers_in (Shows answers source_out code_out registers slots) = answers
answers_in (Refuses e) = []

-- the answers to a list of calls
unfoldable pub answered : Description → List ℕ → List Call → List (Result Played PlayerFault)
unfolding rehearse
answered d bs xs = answers_in (rehearse d bs xs)

-- calls with their answers
unfoldable pub events : List Call → List (Result Played PlayerFault) → List Event
events [] answers = []
events (x ∷ xs) [] = []
events (x ∷ xs) (a ∷ answers) = record { call = x; answer = a } ∷ events xs answers

-- the rows asked and played in a list of calls
unfoldable pub counts : Description → List ℕ → List Call → Counts
unfolding answered events tally
counts d bs xs = tally no_counts (events xs (answered d bs xs))
