use Rattle.std.proofs.Common.{refl, sym, ◌∙◌, arith}
use Rattle.graphs.specs.Graphs.{drawn}
use Rattle.simplify.proofs.Orders.{drawn_length, next_tested, next_hoped, first_some, first_none}
use Rattle.simplify.proofs.removing.Removing.next_removed.Goals as goal

pub overflow_cast-result : goal.overflow_cast-result
overflow_cast-result g c = let f = first_some c.args.self.now.light c.in-Some.v (sym c.in-Some.is ∙ c.first.ensures) in omega (arith, f.1)

pub returns-in-Some : goal.returns-in-Some
returns-in-Some g c =
    let s = c.args.self.now in
    let f = first_some s.light c.in-Some.v (sym c.in-Some.is ∙ c.first.ensures) in
    next_tested (g.F.RegisterFile.model s.weighing.file.now) (drawn s.weighing) s.costs.now s.left s.light c.in-Some.v s.lit f.0 f.1 _ refl

pub returns-in-None : goal.returns-in-None
returns-in-None g c =
    let s = c.args.self.now in
    next_hoped (g.F.RegisterFile.model s.weighing.file.now) (drawn s.weighing) s.costs.now s.left s.light _ s.lit
    (omega (arith, drawn_length s.weighing.variables.now, s.weighing.variables.now.few.1)) refl (first_none s.light (sym c.in-None.is ∙ c.first.ensures)) c.cheapest.result c.cheapest.ensures _ refl
