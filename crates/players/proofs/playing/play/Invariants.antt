use Rattle.players.proofs.Plays.{Follows}
use Rattle.players.proofs.playing.play.Given as goal

abbrev pub invariant-loop-rows : goal.invariant-loop-rows
invariant-loop-rows g l = Follows g.P.Steps.outcome g.P.Steps.Step l.player l.initial.player l.n l.rows
