use Rattle.std.proofs.Common.{sym, ◌∙◌}
use Rattle.machine.specs.Machine.{Shared}
use Rattle.machine.proofs.Effects.{rests}
use Rattle.players.specs.Playing.{numbers_in, shared_of}
use Rattle.players.proofs.Effects.{ended, gone_on}
use Rattle.players.proofs.Tape.effect.Goals as goal

pub returns-then-not-is_running : goal.returns-then-not-is_running
returns-then-not-is_running c =
    let a = c.args in
    sym (rests a.row a.x a.y (shared_of a.self.now (numbers_in a.slots.now)) (sym c.is_running.ensures ∙ c.if-not-is_running.true))

pub returns-in-Ok : goal.returns-in-Ok
returns-in-Ok c =
    let a = c.args in
    let before : Shared = shared_of a.self.now (numbers_in a.slots.now) in
    let after : Shared = shared_of c.meaning.new.self (numbers_in c.meaning.new.slots) in
    let m = c.in-Ok.ensures in
    rw (c.reduced.ensures, c.jumps.ensures)
    (sym (gone_on a.row a.x a.y before (sym c.is_running.ensures ∙ c.if-not-is_running.false) c.in-Ok.value after m c.requires.classed))

pub returns-in-Err : goal.returns-in-Err
returns-in-Err c =
    let a = c.args in
    let before : Shared = shared_of a.self.now (numbers_in a.slots.now) in
    let after : Shared = shared_of c.meaning.new.self (numbers_in c.meaning.new.slots) in
    let m = c.in-Err.ensures in
    sym (ended a.row a.x a.y before (sym c.is_running.ensures ∙ c.if-not-is_running.false) c.in-Err.outcome after m)
