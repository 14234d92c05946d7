use Rattle.std.proofs.Common.{refl, ◌∙◌, ap, arith, rules}
use Rattle.counting.specs.Counting.{sum}
use Rattle.sets.specs.Sets.{size}
use Rattle.sets.proofs.Sizes.{counted_fits, counted_more, counted_all}
use Rattle.sets.proofs.NodeSet.len.Goals as goal

pub loop-w-init : goal.loop-w-init
unfolding sum
loop-w-init c = record { so_far = refl }

pub overflow_add-n : goal.overflow_add-n
overflow_add-n c = let few = counted_fits _ _ _ c.loop-w.invariant (omega (arith, c.self.invariant.0)) (search rules) in omega (arith, few)

pub loop-w-preserved : goal.loop-w-preserved
loop-w-preserved c = counted_more _ _ _ c.loop-w.invariant (search rules)

pub returns : goal.returns
returns c =
    counted_all _ c.self.inside.words _ _ c.loop-w.invariant (omega (arith, c.self.invariant.0)) (omega (arith, c.self.invariant.0)) c.self.invariant.0 refl refl refl refl refl refl refl
    ∙ ap (size 448) c.self.view_is
