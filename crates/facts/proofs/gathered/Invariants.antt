use Rattle.std.proofs.Common.{◌≡◌}
use Rattle.facts.specs.Flow.{at, gather}
use Rattle.facts.proofs.gathered.Given as goal

abbrev pub invariant-loop-j : goal.invariant-loop-j
invariant-loop-j g l = let f = g.K.WideFactKind.flow l.kind in l.all ≡ gather f.join (at f l.facts) l.initial.all l.yielded
