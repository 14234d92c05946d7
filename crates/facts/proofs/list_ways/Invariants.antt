use Rattle.facts.specs.Solving.{Listing}
use Rattle.facts.proofs.list_ways.Given as goal

abbrev pub invariant-loop-i : goal.invariant-loop-i
invariant-loop-i g l = Listing l.initial.sets l.sets l.j l.yielded
