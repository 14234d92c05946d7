use Rattle.std.proofs.Common.{◌≡◌, List, drop, refl, ap, arith}
use Rattle.std.proofs.lemmas.List.{drop_all}
use Rattle.rows.specs.declared.Row.{Row}
use Rattle.rounds.specs.Simplify.{cost}
use Rattle.simplify.proofs.Costs.{cost_more, carried, nothing_charged}
use Rattle.simplify.proofs.costs_of.Goals as goal

pub loop-row-init : goal.loop-row-init
loop-row-init c = (refl, (λ gr e k h. omega (arith, nothing_charged 64 k)), λ k. omega (arith, nothing_charged 64 k))

pub loop-row-preserved : goal.loop-row-preserved
loop-row-preserved c = (
  omega (arith, c.loop-row.invariant.0),
  (λ gr e k h. carried _ _ _ _ _ _ (cost_more gr k c.args.lines.rows.now c.loop-row.row-index (omega arith)) (c.charge_row.ensures.exact gr e k (omega (arith, c.loop-row.invariant.0))) (c.loop-row.invariant.1 gr e k h)),
  λ k. omega (arith, c.charge_row.ensures.small k, c.loop-row.invariant.2 k),
)

pub returns : goal.returns
unfolding cost
returns c = (
  (λ gr e k h.
      let none : cost gr (drop c.loop-row.row-index c.args.lines.rows.now) k ≡ 0 = ap (λ (rs : List Row). cost gr rs k) (drop_all c.loop-row.row-index c.args.lines.rows.now (omega arith)) in
      omega (arith, none, c.loop-row.invariant.1 gr e k h)),
  c.loop-row.invariant.0,
)
