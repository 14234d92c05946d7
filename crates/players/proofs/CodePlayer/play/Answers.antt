use Rattle.players.proofs.Plays.{code_plays}
use Rattle.players.proofs.CodePlayer.play.Goals as goal

pub returns : goal.returns
returns g c =
    let t = code_plays g.B.RegisterFile.model g.B.Bank.contents c.args.n c.play.result.rows c.args.self.now c.play.new.player c.play.ensures.played in
    record { rows = t.0; file = t.1; played = t.2; outcome = c.play.ensures.outcome }
