use Rattle.std.proofs.Common.{◌≡◌, false, drop}
use Rattle.facts.specs.Flow.{sweep, feeders, turns}
use Rattle.facts.proofs.Solver.sweep.Given as goal

abbrev pub invariant-loop-k : goal.invariant-loop-k
invariant-loop-k g l =
    let f = g.K.WideFactKind.flow l.self.kind.now in
    sweep f (feeders f) (drop l.k (turns f)) l.facts l.altered ≡ sweep f (feeders f) (turns f) l.initial.facts false
