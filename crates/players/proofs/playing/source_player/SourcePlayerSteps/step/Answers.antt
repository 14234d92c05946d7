use Rattle.std.proofs.Common.{◌≡◌, length, ap, ◌∙◌, rules}
use Rattle.players.specs.Playing.{numbers_in}
use Rattle.players.proofs.Plays.{source_row, source_wrote, source_kept}
use Rattle.players.proofs.playing.source_player.SourcePlayerSteps.step.Goals as goal

pub returns-in-Some : goal.returns-in-Some
returns-in-Some c =
    let s = c.args.self.now in
    let t = c.turn.ensures in
    let none : length c.turn.new.slots ≡ 0 = search rules in
    let row = c.current-row in
    let x = c.number_at-x in
    let y = c.number_at-y in
    let wrote = ap numbers_in c.put.ensures ∙ source_wrote s.player s.variables row.result x.result y.result row.ensures x.ensures y.ensures c.in-Some.number c.turn.result s.whole s.named c.in-Some.is t.number in
    record {
      rows = t.rows;
      steps = source_row s.player s.variables row.result x.result y.result row.ensures x.ensures y.ensures c.turn.new.self c.turn.new.slots (numbers_in c.put.new.numbers) c.turn.result none t wrote;
    }

pub returns-in_default : goal.returns-in_default
returns-in_default c =
    let s = c.args.self.now in
    let t = c.turn.ensures in
    let none : length c.turn.new.slots ≡ 0 = search rules in
    let row = c.current-row in
    let x = c.number_at-x in
    let y = c.number_at-y in
    let kept = source_kept s.player s.variables row.result x.result y.result row.ensures x.ensures y.ensures c.turn.result c.in_default.is t.number in
    record {
      rows = t.rows;
      steps = source_row s.player s.variables row.result x.result y.result row.ensures x.ensures y.ensures c.turn.new.self c.turn.new.slots (numbers_in s.variables) c.turn.result none t kept;
    }
