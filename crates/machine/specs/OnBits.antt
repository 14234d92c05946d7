-- A rehearsal on a chip whose registers are runs in one row of bits: one of the ways that the rules leave open, and one that can be computed.
use Rattle.std.specs.Prelude.{◌≡◌, ℕ, zero, suc, cond, Ok, Err, Result}
use Rattle.faults.specs.declared.PlayerFault.{PlayerFault}
use Rattle.rows.specs.declared.Row.{Row}
use Rattle.rows.specs.Rows.{row_at}
use Rattle.registers.specs.Model.{Model}
use Rattle.registers.specs.Runs.{held, patched}
use Rattle.machine.specs.declared.Outcome.TheVariants.{Running}
use Rattle.machine.specs.declared.Played.{Played}
use Rattle.machine.specs.Machine.{effect}
use Rattle.machine.specs.Players.{Player, running, at, writes_now, next_row, run, rows_played}
use Rattle.machine.specs.Rehearsal.{Rehearsal, Call, Restart, PlaySource, PlayCode, serves, fault_of, restarted, with_source, with_code, Does}

-- a code player, and the bits that its registers are runs of
pub record OnBits : Type 0 where
  pub contents : ℕ
  pub player : Player

-- one row of such a player
unfoldable pub stepped_on : Model → (low : ℕ → ℕ) → (ℕ → Row) → OnBits → OnBits
unfolding effect
stepped_on m low w s =
    let p = s.player in
    let d = (w p.row).d in
    let x = cond (writes_now w p) (patched s.contents (low d) (m.width d) (at w p).value) s.contents in
    record { contents = x; player = record { row = next_row w p; numbers = held m low x; shared = (at w p).shared } }

-- at most n rows of it
unfoldable pub run_on : Model → (low : ℕ → ℕ) → (ℕ → Row) → OnBits → ℕ → OnBits
unfolding stepped_on
run_on m low w s zero = s
run_on m low w s (suc n) =
    let more = run_on m low w (stepped_on m low w s) n in
    cond (running s.player) more s

-- how many of n rows it plays
unfoldable pub rows_on : Model → (low : ℕ → ℕ) → (ℕ → Row) → OnBits → ℕ → ℕ
unfolding stepped_on
rows_on m low w s zero = 0
rows_on m low w s (suc n) =
    let more = suc (rows_on m low w (stepped_on m low w s) n) in
    cond (running s.player) more 0

-- a rehearsal, and the bits of its bank
pub record Stage : Type 0 where
  pub contents : ℕ
  pub rehearsal : Rehearsal

-- an answer, and the stage afterwards
pub record Answered : Type 0 where
  pub answer : Result Played PlayerFault
  pub stage : Stage

-- a served call on a stage
unfoldable pub served_on : Model → (low : ℕ → ℕ) → Call → Stage → Answered
unfolding run rows_played run_on rows_on
served_on m low (Restart input) s = record {
  answer = Ok (record { rows = 0; outcome = Running });
  stage = record { contents = s.contents; rehearsal = restarted input s.rehearsal };
}
served_on m low (PlaySource n) s =
    let r = s.rehearsal in
    let p = run (row_at r.source_rows) r.source n in
    record {
      answer = Ok (record { rows = rows_played (row_at r.source_rows) r.source n; outcome = p.shared.outcome });
      stage = record { contents = s.contents; rehearsal = with_source p r };
    }
served_on m low (PlayCode n) s =
    let r = s.rehearsal in
    let c : OnBits = record { contents = s.contents; player = r.code } in
    let e = run_on m low (row_at r.code_rows) c n in
    record {
      answer = Ok (record { rows = rows_on m low (row_at r.code_rows) c n; outcome = e.player.shared.outcome });
      stage = record { contents = e.contents; rehearsal = with_code e.player r };
    }

-- a call on a stage
unfoldable pub called_on : Model → (low : ℕ → ℕ) → Call → Stage → Answered
unfolding served_on
called_on m low call s =
    let served = served_on m low call s in
    let refused : Answered = record { answer = Err (fault_of call); stage = s } in
    cond (serves call) served refused

-- the bank of a stage has the numbers of its bits
abbrev pub Holds : Model → (low : ℕ → ℕ) → Stage → Type 0
Holds m low s = s.rehearsal.code.numbers ≡ held m low s.contents

-- each call on a stage is one that the rules allow
abbrev pub Allowed : Model → (low : ℕ → ℕ) → Type 0
Allowed m low = (call : Call) (s : Stage) → Holds m low s →
    Does m call s.rehearsal (called_on m low call s).answer (called_on m low call s).stage.rehearsal × Holds m low (called_on m low call s).stage
