use Rattle.std.proofs.Common.{◌≡◌}
use Rattle.sets.specs.Words.{sets_of}
use Rattle.rounds.specs.Coalescing.{renamed}
use Rattle.coalescing.proofs.Lists.{mapped}
use Rattle.coalescing.proofs.pair.Pair.contract.Given as goal

abbrev pub invariant-loop-set : goal.invariant-loop-set
invariant-loop-set l = sets_of l.edges ≡ mapped (renamed l.self.low l.self.high) l.set-index (sets_of l.initial.edges)
