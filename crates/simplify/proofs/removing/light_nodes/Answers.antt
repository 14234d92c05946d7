use Rattle.std.proofs.Common.{◌≡◌, ℕ, min, Bool, ◌&&◌, ltb, sym, ap, ◌∙◌, arith}
use Rattle.sets.specs.Sets.{has, up_to}
use Rattle.sets.specs.Words.{members}
use Rattle.sets.proofs.Members.{has_up_to}
use Rattle.rounds.specs.Simplify.{removable}
use Rattle.graphs.specs.Graphs.{drawn}
use Rattle.simplify.proofs.Orders.{drawn_length}
use Rattle.simplify.proofs.removing.light_nodes.Goals as goal

pub returns : goal.returns
returns g c = λ k.
    let w = c.args.weighing.now in
    let n : ℕ = w.variables.now.count in
    let few : min n 448 ≡ n = omega (arith, w.variables.now.few.1) in
    let t : ℕ → Bool = removable (g.F.RegisterFile.model w.file.now) (drawn w) (members c.args.left) in
    c.filter.ensures k
    ∙ ap (λ (b : Bool). b && t k) (ap (λ (x : ℕ). has x k) (c.up_to-all.ensures ∙ ap up_to few) ∙ has_up_to n k ∙ ap (ltb k) (sym (drawn_length w.variables.now)))
