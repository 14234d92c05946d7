use Rattle.std.proofs.Common.{List, ℕ, [], get_or, subst, arith}
use Rattle.std.proofs.lemmas.Bool.{lt-ltb}
use Rattle.std.specs.Iterator.{Yields}
use Rattle.facts.specs.Solving.{Listing}
use Rattle.facts.proofs.Memory.{listing_none, listing_more}
use Rattle.facts.proofs.Walking.{drained}
use Rattle.facts.proofs.list_ways.Goals as goal

pub loop-i-init : goal.loop-i-init
loop-i-init g c = listing_none c.args.sets.now c.args.j

pub loop-i-preserved : goal.loop-i-preserved
loop-i-preserved g c =
    listing_more c.args.sets.now c.loop-i.sets c.list_one.new.sets c.args.j c.loop-i.yielded c.in-Some.i (omega arith) c.loop-i.invariant
    (rw (lt-ltb c.args.j 448 (omega arith)) at c.list_one.ensures)

pub returns : goal.returns
returns g c =
    let steps = g.K.Ways.Iterator.next_gives in
    let walked = subst (λ s. Yields steps s c.loop-i.yielded c.loop-i.i-iterator) c.into_iter-i-iterator.ensures.into_iter_gives c.loop-i.yielded_by in
    let all = drained steps c.ways-i-items.result (get_or (g.K.WideFactKind.flow c.args.kind.now).next c.args.j []) c.ways-i-items.ensures.rows c.loop-i.yielded
    (c.next.new.self, (c.loop-i.i-iterator, walked, c.in-None.ensures.steps)) in
    subst (λ (is : List ℕ). Listing c.args.sets.now c.loop-i.sets c.args.j is) all c.loop-i.invariant
