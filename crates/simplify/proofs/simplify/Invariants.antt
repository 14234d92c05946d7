use Rattle.std.proofs.Common.{◌≡◌, ◌-◌, ◌++◌, take}
use Rattle.sets.specs.Words.{members}
use Rattle.rounds.specs.Simplify.{removals}
use Rattle.graphs.specs.Graphs.{drawn}
use Rattle.simplify.proofs.simplify.Given as goal

abbrev pub invariant-loop-i : goal.invariant-loop-i
invariant-loop-i g l =
    (l.removals.count ≡ l.i)
    × (l.removing.weighing ≡ l.weighing)
    × (l.removing.costs ≡ l.initial.removing.costs)
    × (take l.removals.count l.removals.order ++ removals (g.F.RegisterFile.model l.weighing.file.now) (drawn l.weighing) l.initial.removing.costs.now (l.count - l.i) (members l.removing.left)
    ≡ removals (g.F.RegisterFile.model l.weighing.file.now) (drawn l.weighing) l.initial.removing.costs.now l.count (members l.initial.removing.left))
