use Rattle.std.proofs.Common.{ℕ, Bool, sym, ap, ◌∙◌}
use Rattle.sets.specs.Sets.{has}
use Rattle.sets.specs.Walks.{left_of}
use Rattle.sets.proofs.Choosing.{chosen, chosen_yes, chosen_no, chosen_none, chosen_all}
use Rattle.sets.proofs.NodeSet.filter.Goals as goal

pub loop-v-init : goal.loop-v-init
loop-v-init g c =
    let t : ℕ → Bool = g.T.Test.passes c.args.test.now in
    ap (λ (s : ℕ). chosen t s (left_of c.into_iter-v-iterator.result)) c.empty-kept.ensures ∙ ap (chosen t 0) c.into_iter-v-iterator.ensures.into_iter_gives.0

pub loop-v-preserved-then-passes : goal.loop-v-preserved-then-passes
loop-v-preserved-then-passes g c =
    let t : ℕ → Bool = g.T.Test.passes c.args.test.now in
    chosen_yes t c.loop-v.kept c.in-Some.v c.with-kept.result _ _ _ (sym c.passes.ensures ∙ c.if-passes.true) c.with-kept.ensures c.in-Some.ensures.steps c.loop-v.invariant

pub loop-v-preserved : goal.loop-v-preserved
loop-v-preserved g c =
    let t : ℕ → Bool = g.T.Test.passes c.args.test.now in
    chosen_no t c.loop-v.kept c.in-Some.v _ _ _ (sym c.passes.ensures ∙ c.if-passes.false) c.in-Some.ensures.steps c.loop-v.invariant

pub returns : goal.returns
returns g c = λ k.
    let t : ℕ → Bool = g.T.Test.passes c.args.test.now in
    let gives = c.into_iter-v-iterator.ensures.into_iter_gives in
    let all = chosen_none t c.loop-v.kept _ _ c.in-None.ensures.steps.0 c.loop-v.invariant in
    ap (λ (x : ℕ). has x k) all ∙ chosen_all t c.args.self gives.1 k
