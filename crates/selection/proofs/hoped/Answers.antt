use Rattle.std.proofs.Common.{◌≡◌, rules}
use Rattle.std.proofs.lemmas.Iterator.Adapters.{YieldsList-from_rev_slice}
use Rattle.std.proofs.lemmas.Iterator.Consumers.{YieldsList-end}
use Rattle.sets.specs.Words.{members, joined}
use Rattle.sets.proofs.Members.{has_none}
use Rattle.rounds.specs.Round.{hoped_for}
use Rattle.selection.proofs.Selecting.{hoped_step, from_the_last}
use Rattle.selection.proofs.hoped.Goals as goal

pub loop-removed-init : goal.loop-removed-init
unfolding joined hoped_for
loop-removed-init c = λ v h.
    let none : members c.empty-set.result ≡ 0 = rw c.empty-set.ensures in
    rw none (has_none v)

pub loop-removed-preserved : goal.loop-removed-preserved
loop-removed-preserved c = hoped_step (λ r. r.now) c.loop-removed.yielded c.in-Some.removed (members c.loop-removed.set) (members c.placed-set.result) c.loop-removed.invariant c.placed-set.ensures

pub returns : goal.returns
returns c = λ v h.
    let seen = YieldsList-end (YieldsList-from_rev_slice c.args.order.now (search rules)) c.loop-removed.yielded _ c.loop-removed.yielded_by _ _ c.in-None.is c.next.ensures.steps in
    rw (from_the_last _ c.args.order.now seen.0) at (c.loop-removed.invariant v h)
