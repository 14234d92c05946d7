use Rattle.players.specs.Playing.{numbers_in}
use Rattle.players.proofs.CodePlayer.on.Goals as goal

pub returns-clause-starts : goal.returns-clause-starts
returns-clause-starts g c = c.on.ensures.starts (g.B.Bank.contents c.args.bank) (numbers_in c.args.slots)
