use Rattle.std.proofs.Common.{◌≡◌, ℕ, min, List, [], length, get_or, take, sym, ap, ◌∙◌, rules}
use Rattle.sets.specs.Rising.{rising}
use Rattle.sets.specs.Walks.{left_of}
use Rattle.sets.specs.Words.{joined}
use Rattle.facts.specs.Flow.{rows, at, enters, gather}
use Rattle.facts.proofs.Memory.{take_short, incoming_backward, incoming_told}
use Rattle.facts.proofs.Walking.{gather_always, gather_drained}
use Rattle.facts.proofs.incoming.Goals as goal

pub returns-then-backward : goal.returns-then-backward
returns-then-backward g c = λ told.
    let f = g.K.WideFactKind.flow c.args.kind.now in
    let facts = c.args.facts.now in
    let i = c.args.i in
    let held : take c.min.result facts ≡ take (rows f) facts =
    ap (λ (m : ℕ). take m facts) (c.min.ensures ∙ ap (λ (n : ℕ). min n (length facts)) c.rows-n.ensures) ∙ take_short (rows f) facts in
    gather_always g.K.Ways.Iterator.next_gives c.ways.result (get_or f.next i []) f.join (at f (take c.min.result facts)) (enters f i) c.gathered.result c.ways.ensures.rows c.gathered.ensures
    ∙ ap (λ (xs : List ℕ). gather f.join (at f xs) (enters f i) (get_or f.next i [])) held
    ∙ incoming_backward f (at f ((take (rows f) facts))) i (sym c.if-backward.ensures)

pub returns : goal.returns
unfolding joined
returns g c = λ told.
    let f = g.K.WideFactKind.flow c.args.kind.now in
    let facts = c.args.facts.now in
    let comers = c.args.comers.now in
    let i = c.args.i in
    let held : take c.min.result facts ≡ take (rows f) facts =
    ap (λ (m : ℕ). take m facts) (c.min.ensures ∙ ap (λ (n : ℕ). min n (length facts)) c.rows-n.ensures) ∙ take_short (rows f) facts in
    let listed : take c.min-2.result comers ≡ take (rows f) comers =
    ap (λ (m : ℕ). take m comers) (c.min-2.ensures ∙ ap (λ (n : ℕ). min n (length comers)) c.rows-n.ensures) ∙ take_short (rows f) comers in
    let set : c.unwrap_or-set.result ≡ get_or ((take (rows f) comers)) i 0 = (let e : c.unwrap_or-set.result ≡ get_or (take c.min-2.result comers) i 0 = search rules in e ∙ ap (λ (xs : List ℕ). get_or xs i 0) listed) in
    let kept = at f ((take (rows f) facts)) in
    gather_drained left_of c.into_iter.result (rising c.unwrap_or-set.result) f.join (at f (take c.min.result facts)) (enters f i) c.gathered-2.result c.into_iter.ensures.into_iter_gives.0 c.gathered-2.ensures
    ∙ ap (λ (xs : List ℕ). gather f.join (at f xs) (enters f i) (rising c.unwrap_or-set.result)) held
    ∙ ap (λ (x : ℕ). gather f.join kept (enters f i) (rising x)) set ∙ incoming_told f kept comers i (sym c.if-backward.ensures) told
