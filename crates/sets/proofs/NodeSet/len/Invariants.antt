use Rattle.sets.proofs.Sizes.{Counted}
use Rattle.sets.proofs.NodeSet.len.Given as goal

abbrev pub invariant-loop-w : goal.invariant-loop-w
invariant-loop-w l = Counted l.w-items l.w-index l.n
