use Rattle.std.proofs.Common.{◌≡◌, length, refl, ap, ◌∙◌, add-one, arith}
use Rattle.sets.specs.Words.{members}
use Rattle.rounds.specs.Simplify.{better, cheapest}
use Rattle.graphs.specs.Graphs.{drawn}
use Rattle.simplify.proofs.removing.Removing.cheapest.Goals as goal

pub loop-v-init : goal.loop-v-init
unfolding cheapest
loop-v-init g c = refl

pub loop-v-preserved : goal.loop-v-preserved
unfolding cheapest
loop-v-preserved g c =
    let s = c.args.self.now in
    rw add-one (c.better-best.ensures ∙ ap (better (g.F.RegisterFile.model s.weighing.file.now) (drawn s.weighing) s.costs.now (members s.left) c.loop-v.v) c.loop-v.invariant)

pub returns : goal.returns
returns g c =
    let s = c.args.self.now in
    let e : c.loop-v.v ≡ length s.costs.now = omega arith in
    c.loop-v.invariant ∙ ap (cheapest (g.F.RegisterFile.model s.weighing.file.now) (drawn s.weighing) s.costs.now (members s.left)) e
