use Rattle.std.proofs.Common.{ℕ, refl, subst, sym, ap, ◌∙◌}
use Rattle.std.specs.Iterator.{Yields}
use Rattle.facts.specs.Flow.{at, gather}
use Rattle.facts.proofs.Walking.{gather_more}
use Rattle.facts.proofs.gathered.Goals as goal

pub loop-j-init : goal.loop-j-init
unfolding gather
loop-j-init g c = refl

pub loop-j-preserved : goal.loop-j-preserved
loop-j-preserved g c =
    let f = g.K.WideFactKind.flow c.args.kind.now in
    let kept = at f c.args.facts.now in
    c.join-all.ensures ∙ ap (f.join c.loop-j.all) c.fact_at-handed.ensures ∙ ap (λ (x : ℕ). f.join x (kept c.in-Some.j)) c.loop-j.invariant
    ∙ sym (gather_more f.join kept c.entering-all.result c.loop-j.yielded c.in-Some.j)

pub returns : goal.returns
returns g c =
    let f = g.K.WideFactKind.flow c.args.kind.now in
    let kept = at f c.args.facts.now in
    (c.loop-j.yielded, (c.next.new.self, (c.loop-j.j-iterator, subst (λ s. Yields g.I.Iterator.next_gives s c.loop-j.yielded c.loop-j.j-iterator) c.into_iter-j-iterator.ensures.into_iter_gives c.loop-j.yielded_by, c.in-None.ensures.steps)), c.loop-j.invariant ∙ ap (λ (x : ℕ). gather f.join kept x c.loop-j.yielded) c.entering-all.ensures)
