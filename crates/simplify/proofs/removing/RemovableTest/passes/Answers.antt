use Rattle.std.proofs.Common.{◌≡◌, ℕ, true, false, refl, sym, ap, ◌∙◌}
use Rattle.sets.specs.Sets.{has, meet}
use Rattle.sets.specs.Words.{members}
use Rattle.rounds.specs.Interference.{Graph, neighbours}
use Rattle.rounds.specs.Pressure.{passes}
use Rattle.rounds.specs.Simplify.{removable}
use Rattle.graphs.specs.Graphs.{drawn}
use Rattle.simplify.proofs.removing.RemovableTest.passes.Goals as goal

pub returns-then-contains : goal.returns-then-contains
unfolding removable
returns-then-contains g c =
    let gr : Graph = drawn c.args.self.now.weighing in
    let left = members c.args.self.now.left in
    let yes' : has left c.args.v ≡ true = sym c.if-contains.ensures in
    let by : members c.meet.result ≡ meet (neighbours gr c.args.v) left = c.meet.ensures ∙ ap (λ (x : ℕ). meet x left) c.beside.ensures in
    rw yes' (c.passes.ensures gr refl ∙ ap (λ (x : ℕ). passes (g.F.RegisterFile.model c.args.self.now.weighing.file.now) gr c.args.v (has x)) by)

pub returns-else-contains : goal.returns-else-contains
unfolding removable
returns-else-contains g c =
    let no' : has (members c.args.self.now.left) c.args.v ≡ false = sym c.if-contains.ensures in
    rw no' c.if-contains.false
