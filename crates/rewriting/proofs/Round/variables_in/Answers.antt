use Rattle.std.proofs.Common.{◌≡◌, ℕ, Bool, sym, refl, ap, ◌∙◌, arith}
use Rattle.sets.specs.Sets.{has}
use Rattle.sets.specs.Words.{joined, members}
use Rattle.rounds.specs.Round.{those}
use Rattle.drafts.proofs.Chosen.{those_with, those_same}
use Rattle.rewriting.specs.Orders.{node_in}
use Rattle.rewriting.proofs.Round.variables_in.Goals as goal
use Rattle.rewriting.proofs.Round.variables_in.Goals.{then-contains, else-contains}

pub loop-v-init : goal.loop-v-init
unfolding joined those
loop-v-init c = refl

pub loop-v-preserved : goal.loop-v-preserved
loop-v-preserved c =
    let d = c.args.self.now.draft.now in
    let x = members c.args.nodes.now in
    let t : ℕ → Bool = λ v. has x (node_in d c.args.self.now.end.now v) in
    let is : t c.loop-v.v ≡ c.contains.result = sym (c.contains.ensures ∙ ap (has x) c.node_of.ensures) in
    elim c.if-contains.branch [
      | then-contains w ↦
          those_with t c.loop-v.v (members c.loop-v.set) (members c.if-contains.set) c.loop-v.invariant (is ∙ w.if-contains.true) (omega (arith, d.source.few)) (ap members w.set-is ∙ w.with-set.ensures)
      | else-contains w ↦
          those_same t c.loop-v.v (members c.loop-v.set) (members c.if-contains.set) c.loop-v.invariant (is ∙ w.if-contains.false) (ap members w.set-is)
    ]
