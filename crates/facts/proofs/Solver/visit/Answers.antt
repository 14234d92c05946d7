use Rattle.std.proofs.Common.{◌≡◌, ℕ, ◌≤◌, not, eqb, List, length, set, ap, ◌∙◌, ap₂, arith}
use Rattle.std.proofs.lemmas.List.{get_or_read, take_all}
use Rattle.facts.specs.Flow.{rows, at, feeders, incoming, yields}
use Rattle.facts.proofs.Solver.visit.Goals as goal

pub returns : goal.returns
returns g c =
    let f = g.K.WideFactKind.flow c.args.self.now.kind.now in
    let facts = c.args.facts.now in
    let i = c.args.i in
    let all : length facts ≤ rows f = omega (arith, c.requires.rows) in
    let new : c.step-new.result ≡ yields f (feeders f) (at f facts) i =
    c.step-new.ensures ∙ ap (f.step i) (c.incoming-came.ensures c.args.self.now.told ∙ ap (λ (xs : List ℕ). incoming f (feeders f) (at f xs) i) (take_all (rows f) facts all)) in
    record {
      yielded = ap (set facts i) new;
      fresh = c.ne.ensures ∙ ap not (ap₂ eqb new (get_or_read facts i c.index-facts-i.result c.requires.inside c.index-facts-i.is f.least));
    }
