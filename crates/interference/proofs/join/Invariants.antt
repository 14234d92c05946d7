use Rattle.std.proofs.Common.{◌≡◌, ◌++◌}
use Rattle.sets.specs.Rising.{rising}
use Rattle.sets.specs.Walks.{left_of}
use Rattle.facts.specs.Solving.{Listing}
use Rattle.interference.proofs.join.Given as goal

abbrev pub invariant-loop-v : goal.invariant-loop-v
invariant-loop-v l = Listing l.initial.edges l.edges l.d l.yielded × (l.yielded ++ left_of l.v-iterator ≡ rising l.others)
