use Rattle.facts.proofs.Memory.{Partly}
use Rattle.facts.proofs.list_all.Given as goal

abbrev pub invariant-loop-j : goal.invariant-loop-j
invariant-loop-j g l = Partly (g.K.WideFactKind.flow l.kind).next l.j l.sets
