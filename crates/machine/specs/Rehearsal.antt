-- Rehearsals: a source player and a code player side by side, and the calls that play them.
use Rattle.std.specs.Prelude.{◌≡◌, ℕ, ◌+◌, Bool, true, false, List, [], ◌∷◌, length, Ok, Err, Result, nat_le}
use Rattle.faults.specs.declared.PlayerFault.{PlayerFault}
use Rattle.faults.specs.declared.PlayerFault.TheVariants.{Input, Asked}
use Rattle.rows.specs.declared.Row.{Row}
use Rattle.rows.specs.Rows.{row_at}
use Rattle.registers.specs.Model.{Model}
use Rattle.compiling.specs.Working.{Compiled}
use Rattle.machine.specs.declared.Outcome.TheVariants.{Running}
use Rattle.machine.specs.declared.Played.{Played}
use Rattle.machine.specs.Players.{Player, fresh, run, rows_played, Runs}

-- copies of the rows of both sides, and both players; the code player's numbers are those of the bank
pub record Rehearsal : Type 0 where
  pub source_rows : List Row
  pub code_rows : List Row
  pub source : Player
  pub code : Player

-- opening: registers and slots as handed
abbrev pub opened : Compiled → (numbers slots : ℕ → ℕ) → Rehearsal
opened c numbers slots = record { source_rows = c.source.rows; code_rows = c.rows; source = fresh (λ _. 0) (λ _. 0) []; code = fresh numbers slots [] }

-- both players at row 0 with an input; registers and slots stay
abbrev pub restarted : List ℕ → Rehearsal → Rehearsal
restarted input r = record {
  source_rows = r.source_rows;
  code_rows = r.code_rows;
  source = fresh (λ _. 0) (λ _. 0) input;
  code = fresh r.code.numbers r.code.shared.slots input;
}

-- a rehearsal with another source player
abbrev pub with_source : Player → Rehearsal → Rehearsal
with_source p r = record { source_rows = r.source_rows; code_rows = r.code_rows; source = p; code = r.code }

-- a rehearsal with another code player
abbrev pub with_code : Player → Rehearsal → Rehearsal
with_code c r = record { source_rows = r.source_rows; code_rows = r.code_rows; source = r.source; code = c }

-- a call: a restart with an input, or a play that asks for rows
pub data Call : Type 0 where
  Restart : List ℕ → Call
  PlaySource : ℕ → Call
  PlayCode : ℕ → Call

-- whether a call is served: at most 256 numbers of input, at most 65,535 rows
abbrev pub serves : Call → Bool
serves (Restart input) = nat_le (length input) 256
serves (PlaySource n) = nat_le n 65535
serves (PlayCode n) = nat_le n 65535

-- the fault of a call that is refused
abbrev pub fault_of : Call → PlayerFault
fault_of (Restart input) = Input
fault_of (PlaySource n) = Asked
fault_of (PlayCode n) = Asked

-- a served call: the rows played and the outcome; a restart plays none and leaves both sides running
abbrev pub Served : Model → Call → Rehearsal → Played → Rehearsal → Type 0
Served m (Restart input) r a t = (a ≡ record { rows = 0; outcome = Running }) × (t ≡ restarted input r)
Served m (PlaySource n) r a t =
    let p = run (row_at r.source_rows) r.source n in
    (a ≡ record { rows = rows_played (row_at r.source_rows) r.source n; outcome = p.shared.outcome }) × (t ≡ with_source p r)
Served m (PlayCode n) r a t =
    Runs m (row_at r.code_rows) r.code n a.rows t.code × (a.outcome ≡ t.code.shared.outcome) × (t ≡ with_code t.code r)

-- a call with its answer, on a bank that answers as m; a refused one changes nothing
abbrev pub Does : Model → Call → Rehearsal → Result Played PlayerFault → Rehearsal → Type 0
Does m call r (Ok a) t = (serves call ≡ true) × Served m call r a t
Does m call r (Err e) t = (serves call ≡ false) × (e ≡ fault_of call) × (t ≡ r)

-- a call and what was answered
pub record Event : Type 0 where
  pub call : Call
  pub answer : Result Played PlayerFault

-- a list of calls with their answers
abbrev pub Rehearsed : Model → List Event → Rehearsal → Rehearsal → Type 0
Rehearsed m [] r t = t ≡ r
Rehearsed m (e ∷ es) r t = (x : Rehearsal) × Does m e.call r e.answer x × Rehearsed m es x t

-- rows asked for and rows played, on each side
pub record Counts : Type 0 where
  pub source_asked : ℕ
  pub source_played : ℕ
  pub code_asked : ℕ
  pub code_played : ℕ

-- the counts at opening, and after a served restart
abbrev pub no_counts : Counts
no_counts = record { source_asked = 0; source_played = 0; code_asked = 0; code_played = 0 }

-- the counts after a call with its answer; a refused call counts nothing
abbrev pub counted : Counts → Call → Result Played PlayerFault → Counts
counted k call (Err e) = k
counted k (Restart input) (Ok a) = no_counts
counted k (PlaySource n) (Ok a) = record { source_asked = k.source_asked + n; source_played = k.source_played + a.rows; code_asked = k.code_asked; code_played = k.code_played }
counted k (PlayCode n) (Ok a) = record { source_asked = k.source_asked; source_played = k.source_played; code_asked = k.code_asked + n; code_played = k.code_played + a.rows }

-- the counts after a list of calls: summed since its last served restart
unfoldable pub tally : Counts → List Event → Counts
tally k [] = k
tally k (e ∷ es) = tally (counted k e.call e.answer) es
