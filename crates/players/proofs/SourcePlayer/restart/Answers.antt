use Rattle.std.proofs.Common.{ℕ, replicate, ap, ◌∙◌}
use Rattle.machine.specs.Players.{fresh}
use Rattle.players.specs.Playing.{numbers_in, input_of}
use Rattle.players.proofs.Numbers.{zeros}
use Rattle.players.proofs.SourcePlayer.restart.Goals as goal

pub returns-clause-starts : goal.returns-clause-starts
returns-clause-starts c = c.restart.ensures.starts (numbers_in (replicate {A = ℕ} 64 0)) (λ _. 0) ∙ ap (λ f. fresh f (λ _. 0) (input_of c.args.input)) zeros
