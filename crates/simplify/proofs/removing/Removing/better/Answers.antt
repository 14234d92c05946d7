use Rattle.std.proofs.Common.{sym, refl}
use Rattle.sets.specs.Words.{members}
use Rattle.graphs.specs.Graphs.{drawn}
use Rattle.simplify.proofs.Orders.{better_gone, better_less, better_same}
use Rattle.simplify.proofs.removing.Removing.better.Goals as goal

pub returns-then-not-contains : goal.returns-then-not-contains
returns-then-not-contains g c =
    let s = c.args.self.now in
    better_gone (g.F.RegisterFile.model s.weighing.file.now) (drawn s.weighing) s.costs.now (members s.left) c.args.v c.args.best (sym c.if-not-contains.ensures)

pub returns-then-cost-best : goal.returns-then-cost-best
returns-then-cost-best g c =
    let s = c.args.self.now in
    better_less (g.F.RegisterFile.model s.weighing.file.now) (drawn s.weighing) s.costs.now (members s.left) c.args.v c.args.best c.pressure_left-pressure.result (sym c.if-not-contains.ensures)
    c.pressure_left-pressure.ensures c.if-cost-best.true _ refl

pub returns-else-cost-best : goal.returns-else-cost-best
returns-else-cost-best g c =
    let s = c.args.self.now in
    better_same (g.F.RegisterFile.model s.weighing.file.now) (drawn s.weighing) s.costs.now (members s.left) c.args.v c.args.best c.pressure_left-pressure.result (sym c.if-not-contains.ensures)
    c.pressure_left-pressure.ensures c.if-cost-best.false
