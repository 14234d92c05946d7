use Rattle.std.proofs.Common.{◌≡◌, ℕ, Bool}
use Rattle.sets.specs.Rising.{rising}
use Rattle.sets.specs.Walks.{left_of}
use Rattle.sets.proofs.Choosing.{chosen}
use Rattle.sets.proofs.NodeSet.filter.Given as goal

abbrev pub invariant-loop-v : goal.invariant-loop-v
invariant-loop-v g l =
    let t : ℕ → Bool = g.T.Test.passes l.test in chosen t l.kept (left_of l.v-iterator) ≡ chosen t 0 (rising l.fn.self)
