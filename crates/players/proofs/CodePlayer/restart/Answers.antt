use Rattle.players.specs.Playing.{numbers_in}
use Rattle.players.proofs.CodePlayer.restart.Goals as goal

pub returns-clause-starts : goal.returns-clause-starts
returns-clause-starts g c = let s = c.args.self.now in c.restart.ensures.starts (g.B.Bank.contents s.bank) (numbers_in s.slots)
