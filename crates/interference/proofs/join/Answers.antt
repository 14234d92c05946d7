use Rattle.std.proofs.Common.{ℕ, List, [], ◌∷◌, ◌++◌, sym, ap, ◌∙◌, append_assoc, append-nil, arith}
use Rattle.std.proofs.lemmas.Bool.{lt-ltb}
use Rattle.std.proofs.lemmas.List.{get_or_read}
use Rattle.sets.specs.Sets.{union}
use Rattle.sets.specs.Walks.{left_of}
use Rattle.facts.proofs.Memory.{listing_none, listing_more}
use Rattle.interference.proofs.Joining.{joined_past, joined_here}
use Rattle.interference.proofs.join.Goals as goal

pub loop-v-init : goal.loop-v-init
loop-v-init c = (listing_none c.args.edges.now c.args.d, c.into_iter-v-iterator.ensures.into_iter_gives.0)

pub loop-v-preserved : goal.loop-v-preserved
loop-v-preserved c =
    let done = c.loop-v.yielded in
    let v = c.in-Some.v in (
      listing_more c.args.edges.now c.loop-v.edges c.list_one.new.sets c.args.d done v (omega arith) c.loop-v.invariant.0 (rw (lt-ltb c.args.d 448 (omega arith)) at c.list_one.ensures),
      append_assoc done (v ∷ []) (left_of c.next.new.self) ∙ ap (λ (xs : List ℕ). done ++ xs) (sym c.in-Some.ensures.steps) ∙ c.loop-v.invariant.1,
    )

pub returns-then-d-edges : goal.returns-then-d-edges
returns-then-d-edges c =
    let done = c.loop-v.yielded in
    let all = sym (append-nil done) ∙ ap (λ (xs : List ℕ). done ++ xs) (sym c.in-None.ensures.steps.0) ∙ c.loop-v.invariant.1 in
    let here = get_or_read c.loop-v.edges c.args.d c.index-edges-d.result c.if-d-edges.true c.index-edges-d.is 0 in
    joined_here c.args.d c.args.others c.union.result c.args.edges.now c.loop-v.edges done c.into_iter-v-iterator.ensures.into_iter_gives.1 all c.loop-v.invariant.0 (omega arith) (omega arith)
    (c.union.ensures ∙ ap (λ (x : ℕ). union x c.args.others) here)

pub returns-else-d-edges : goal.returns-else-d-edges
returns-else-d-edges c =
    let done = c.loop-v.yielded in
    let all = sym (append-nil done) ∙ ap (λ (xs : List ℕ). done ++ xs) (sym c.in-None.ensures.steps.0) ∙ c.loop-v.invariant.1 in
    joined_past c.args.d c.args.others c.args.edges.now c.loop-v.edges done c.into_iter-v-iterator.ensures.into_iter_gives.1 all c.loop-v.invariant.0 (omega arith)
