use Rattle.std.proofs.Common.{ap}
use Rattle.machine.specs.Machine.{Shared}
use Rattle.players.proofs.Player.restart.Goals as goal

pub returns-clause-starts : goal.returns-clause-starts
returns-clause-starts c numbers slots = ap (λ (h : Shared). record { row = 0; numbers = numbers; shared = h }) (c.blank-self.ensures slots)
