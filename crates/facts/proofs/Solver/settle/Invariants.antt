use Rattle.std.proofs.Common.{◌-◌, ◌*◌}
use Rattle.facts.specs.Flow.{rows, feeders, solved}
use Rattle.facts.proofs.Sweeping.{Going, total}
use Rattle.facts.proofs.Solver.settle.Given as goal

abbrev pub invariant-loop : goal.invariant-loop
invariant-loop g l = let f = g.K.WideFactKind.flow l.self.kind.now in Going f (g.K.WideFactKind.lawful l.self.kind.now) (feeders f) (solved f) l.facts

abbrev pub decreases-loop : goal.decreases-loop
decreases-loop g l =
    let f = g.K.WideFactKind.flow l.self.kind.now in
    f.height * rows f - total f (g.K.WideFactKind.lawful l.self.kind.now) (feeders f) l.facts
