use Rattle.std.proofs.Common.{◌≡◌, ◌-◌}
use Rattle.sets.specs.Walks.{left_of}
use Rattle.sets.proofs.WalkIterator.next.Given as goal

abbrev pub invariant-loop-self : goal.invariant-loop-self
invariant-loop-self l = left_of l.self ≡ left_of l.initial.self

abbrev pub decreases-loop-self : goal.decreases-loop-self
decreases-loop-self l = 7 - l.self.at
