use Rattle.players.proofs.Plays.{source_plays}
use Rattle.players.proofs.SourcePlayer.play.Goals as goal

pub returns : goal.returns
returns c =
    let t = source_plays c.args.n c.play.result.rows c.args.self.now c.play.new.player c.play.ensures.played in
    record { rows = t.0; player = t.1; played = t.2; outcome = c.play.ensures.outcome }
