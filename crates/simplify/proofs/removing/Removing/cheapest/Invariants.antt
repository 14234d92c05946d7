use Rattle.std.proofs.Common.{◌≡◌}
use Rattle.sets.specs.Words.{members}
use Rattle.rounds.specs.Simplify.{cheapest}
use Rattle.graphs.specs.Graphs.{drawn}
use Rattle.simplify.proofs.removing.Removing.cheapest.Given as goal

abbrev pub invariant-loop-v : goal.invariant-loop-v
invariant-loop-v g l =
    let s = l.self in
    l.best ≡ cheapest (g.F.RegisterFile.model s.weighing.file.now) (drawn s.weighing) s.costs.now (members s.left) l.v
