use Rattle.std.proofs.Common.{◌≡◌, ℕ, ◌≤◌, min, Bool, not, ◌&&◌, ◌||◌, ltb, length, sym, ap, ◌∙◌, arith}
use Rattle.sets.specs.Sets.{has, meet, minus, up_to}
use Rattle.sets.specs.Words.{members}
use Rattle.sets.proofs.Members.{has_union}
use Rattle.registers.specs.Model.{Model}
use Rattle.rounds.specs.Interference.{Graph}
use Rattle.graphs.specs.Graphs.{drawn}
use Rattle.simplify.proofs.Easing.{light_now, heavy_is}
use Rattle.simplify.proofs.Orders.{drawn_length, light_gone}
use Rattle.simplify.proofs.removing.Removing.light_without.Goals as goal

pub returns : goal.returns
returns g c =
    let s = c.args.self.now in
    let m : Model = g.F.RegisterFile.model s.weighing.file.now in
    let gr : Graph = drawn s.weighing in
    let left = members c.args.left in
    let light = members s.light in
    let heavy = members c.meet-heavy.result in
    let kept = members c.without.result in
    let lighter = members c.filter-lighter.result in
    let n : ℕ = s.weighing.variables.now.count in
    let few : n ≤ 448 = s.weighing.variables.now.few.1 in
    let long : length gr.classes ≡ n = drawn_length s.weighing.variables.now in
    let made : heavy ≡ meet (minus left light) (up_to (min n 448)) =
    c.meet-heavy.ensures ∙ ap (λ (x : ℕ). meet x (members c.up_to-all.result)) c.minus.ensures ∙ ap (meet (minus left light)) c.up_to-all.ensures in
    light_now m gr (members s.left) c.args.gone left light (has (members c.union.result)) (has heavy) c.requires s.lit
    (λ k. heavy_is left light n heavy few made k ∙ ap (λ (j : ℕ). (has left k && not (has light k)) && ltb k j) (sym long))
    (λ k. ap (λ (x : ℕ). has x k) c.union.ensures ∙ has_union kept lighter k
    ∙ ap (λ (b : Bool). b || has lighter k) (ap (λ (x : ℕ). has x k) c.without.ensures ∙ light_gone m gr (members s.left) light c.args.gone s.lit (omega (arith, few, long)) k)
    ∙ ap (◌||◌ _) (c.filter-lighter.ensures k))
